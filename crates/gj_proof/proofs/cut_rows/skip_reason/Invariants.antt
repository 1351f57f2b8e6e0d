use Rattle.std.proofs.Common.{◌≡◌, ℕ, ◌<◌, get_or}
use Rattle.gj_proof.specs.ProofText.{reason_word}
use Rattle.gj_proof.specs.declared.cut.SkipReason.TheVariants.{Integral}
use Rattle.gj_proof.proofs.cut_rows.skip_reason.Given as goal

-- the word is of none of the reasons before this one
abbrev pub invariant-loop-reason : goal.invariant-loop-reason
invariant-loop-reason l = (k : ℕ) → k < l.reason-index →
    l.word ≡ reason_word (get_or l.reason-items k Integral) → ⊥
