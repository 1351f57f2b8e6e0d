use Rattle.std.proofs.Common.{ℤ, [], ◌∷◌, ◌++◌, refl, ap, ◌∙◌, arith}
use Rattle.std.proofs.lemmas.Result.{err_from_is_err_and}
use Rattle.gj_forms.specs.Parts.{IsFaultOf}
use Rattle.gj_lex.proofs.CanonicalTexts.{within_bits}
use Rattle.gj_forms.proofs.PartLaws.{passed_on}
use Rattle.gj_proof.specs.ProofGrammar.{pair_form, form_part, pairs_part}
use Rattle.gj_proof.proofs.ExtremeRead.{pairs_begin, pairs_on, pairs_end}
use Rattle.gj_forms.proofs.ListRead.{times_at_fault}
use Rattle.gj_proof.proofs.halves.pairs_at.Goals as goal

pub loop-init : goal.loop-init
loop-init c =
    rw (c.in_ok-first.ensures.items, c.in_ok-second.ensures.items)
    (pairs_begin c.args.count c.args.text.now)

pub loop-preserved : goal.loop-preserved
loop-preserved c =
    let fit = c.in_ok-x.ensures.3 in
    let x = within_bits c.in_ok-x.x c.in_ok-x.x refl fit.1.0 in
    let y = within_bits c.in_ok-x.y c.in_ok-x.y refl fit.1.1 in
    pairs_on c.args.count c.loop.counter _ _ _ _ _ _ _ (c.in_ok-x.x, c.in_ok-x.y) c.loop.invariant
    (omega arith) c.in_ok-x.ensures
    (c.in_ok-push.ensures.items ∙ ap (λ (n : ℤ). c.loop.first.items ++ n ∷ []) x)
    (c.in_ok-push-2.ensures.items ∙ ap (λ (n : ℤ). c.loop.second.items ++ n ∷ []) y)

pub returns-in_err-x-clause-fault : goal.returns-in_err-x-clause-fault
returns-in_err-x-clause-fault c =
    let p = err_from_is_err_and c.from_residual-in_err-x.result
    c.from_residual-in_err-x.ensures.1 in
    passed_on (IsFaultOf (pairs_part c.args.count) c.args.text.now) _ _ _ p.1 p.2
    (times_at_fault (form_part pair_form) c.args.count c.loop.counter _ _ _ c.loop.invariant.leaves
    (omega arith) _ c.in_err-x.ensures)

pub returns-clause-found : goal.returns-clause-found
returns-clause-found c =
    pairs_end c.args.count c.loop.counter _ _ _ _ c.loop.invariant (let over = c.loop-test.false in
    omega arith)
