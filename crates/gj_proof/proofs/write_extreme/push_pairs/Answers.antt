use Rattle.std.proofs.Common.{pos, [], ◌∷◌, length, refl, sym, subst, ◌∙◌, length-append, rules}
use Rattle.std.proofs.lemmas.Slice.Zip.{zip_turn, zip_end}
use Rattle.gj_frac.specs.Fraction.{Fits}
use Rattle.gj_lex.proofs.CanonicalTexts.{within_bits}
use Rattle.gj_proof.proofs.ExtremeWritten.{pair_pushed, pairs_pushed}
use Rattle.gj_proof.proofs.write_extreme.push_pairs.Goals as goal

pub loop-x-preserved : goal.loop-x-preserved
loop-x-preserved c =
    let i = length c.loop-x.yielded in
    let turn = zip_turn c.args.first.now c.args.second.now c.loop-x.yielded
    c.into_iter-x-iterator.result c.loop-x.x-iterator
    c.next.new.self c.next.result (search rules) (search rules) c.loop-x.yielded_by
    (c.in-Some.x, c.in-Some.y) c.in-Some.is
    c.next.ensures.steps in
    let x = within_bits c.in-Some.x.now c.in-Some.x.now refl
    (subst Fits (sym (turn.2 (pos 0))) (c.requires.first i (pos 0) turn.0)) in
    let y = within_bits c.in-Some.y.now c.in-Some.y.now refl
    (subst Fits (sym (turn.3 (pos 0))) (c.requires.second i (pos 0) turn.1)) in
    pair_pushed c.args.first.now c.args.second.now i _ _ _ _ _ _ turn.0 turn.1
    (length-append c.loop-x.yielded ((c.in-Some.x, c.in-Some.y) ∷ [])) (x ∙ turn.2 (pos 0))
    (y ∙ turn.3 (pos 0)) c.loop-x.invariant
    c.in_ok-push_pair.ensures

pub returns : goal.returns
returns c =
    pairs_pushed _ _ _ _ _
    (zip_end c.args.first.now c.args.second.now c.loop-x.yielded c.into_iter-x-iterator.result
    c.loop-x.x-iterator c.next.new.self
    c.next.result (search rules) (search rules) c.loop-x.yielded_by c.in-None.is
    c.next.ensures.steps) c.loop-x.invariant
