use Rattle.std.proofs.Common.{◌≡◌, ℕ, ◌<◌, [], ◌∷◌, get_or, lit<, arith}
use Rattle.gj_proof.specs.ProofText.{reason_word}
use Rattle.gj_proof.specs.declared.cut.SkipReason.{SkipReason}
use Rattle.gj_proof.specs.declared.cut.SkipReason.TheVariants.{Integral, Other}
use Rattle.gj_proof.proofs.cut_rows.skip_reason.Goals as goal

every_reason : (P : SkipReason → Type 0) →
    ((i : ℕ) → i < 2 → P (get_or (Integral ∷ Other ∷ []) i Integral)) → (r : SkipReason) → P r
every_reason P h Integral = h 0 (lit< tt)
every_reason P h Other = h 1 (lit< tt)

pub returns-clause-none : goal.returns-clause-none
returns-clause-none c =
    every_reason (λ r. c.args.word.now ≡ reason_word r → ⊥)
    (λ i below. c.loop-reason.invariant i (omega arith))
