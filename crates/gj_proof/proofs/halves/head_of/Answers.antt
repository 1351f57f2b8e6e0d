use Rattle.std.proofs.Common.{ℤ, ap, refl, sym, subst, ◌∙◌, arith}
use Rattle.std.specs.Fmt.{signed_decimal}
use Rattle.std.proofs.lemmas.Bool.{false≢true}
use Rattle.gj_lex.proofs.CanonicalTexts.{within_bits}
use Rattle.gj_proof.specs.ProofGrammar.{IsHeadInBounds}
use Rattle.gj_forms.proofs.PlainWords.{word_of_count}
use Rattle.gj_proof.proofs.BrokenLines.{no_order, not_in_bounds}
use Rattle.gj_proof.proofs.halves.head_of.Goals as goal

pub returns-in_err-order-clause-none : goal.returns-in_err-order-clause-none
returns-in_err-order-clause-none c =
    rw c.from_residual.ensures (no_order _ _ c.in_err-order.ensures.none)

pub returns-then-not-is_head_in_bounds-clause-none :
    goal.returns-then-not-is_head_in_bounds-clause-none
returns-then-not-is_head_in_bounds-clause-none c =
    let found = c.in_ok-scale.ensures.found in
    let same = within_bits c.in_ok-scale.scale c.in_ok-scale.scale refl found.1 in
    not_in_bounds _ _ c.in_ok-order.order c.in_ok-scale.scale (omega arith)
    (word_of_count _ _ (omega arith) c.in_ok-order.ensures.found) found.0 found.1
    (λ b.
    false≢true
    (c.if-not-is_head_in_bounds.ensures.1
    (subst (λ (n : ℤ). IsHeadInBounds (record { order = c.in_ok-order.order; scale = n }))
    (sym same) b)))

pub returns-clause-found : goal.returns-clause-found
returns-clause-found c =
    let found = c.in_ok-scale.ensures.found in
    let same = within_bits c.in_ok-scale.scale c.in_ok-scale.scale refl found.1 in (
      word_of_count _ _ (omega arith) c.in_ok-order.ensures.found,
      found.0 ∙ ap signed_decimal (sym same),
      c.if-not-is_head_in_bounds.ensures.0 refl,
    )
