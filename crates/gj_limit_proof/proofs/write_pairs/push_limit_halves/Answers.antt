use Rattle.std.proofs.Common.{◌≡◌, ◌++◌, ap, ◌∙◌, arith}
use Rattle.gj_limit_proof.specs.LimitText.{halves_line}
use Rattle.gj_limit_proof.proofs.LimitWritten.{first_pairs, pair_pushed}
use Rattle.gj_limit_proof.proofs.write_pairs.push_limit_halves.Goals as goal

pub loop-index-preserved : goal.loop-index-preserved
loop-index-preserved c =
    let h = c.args.halves.now in
    pair_pushed h c.loop-index.index _ _ c.args.out.now.items
    (halves_line h) _ _ c.triple_at-first.ensures c.triple_at-second.ensures
    c.loop-index.invariant c.in_ok-push_pair.ensures

pub returns : goal.returns
returns c =
    let h = c.args.halves.now in
    let over = c.loop-index-test.false in
    let all : c.loop-index.index ≡ h.order = omega arith in
    c.loop-index.invariant
    ∙ ap (λ i. c.args.out.now.items ++ (halves_line h ++ first_pairs h i)) all
