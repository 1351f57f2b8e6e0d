use Rattle.std.proofs.Common.{◌≡◌, ℕ, ◌<◌, get_or}
use Rattle.gj_proof.specs.ProofGrammar.{numbers_of_word, claim_word_text}
use Rattle.gj_proof.specs.declared.claim.ClaimWord.TheVariants.{Minimal}
use Rattle.gj_proof.proofs.read.claim_word_of.Given as goal

-- the field is none of the words before this one that stand in such texts
abbrev pub invariant-loop-word : goal.invariant-loop-word
invariant-loop-word l =
    (k : ℕ) → k < l.word-index → l.field ≡ claim_word_text (get_or l.word-items k Minimal) →
    numbers_of_word (get_or l.word-items k Minimal) ≡ l.numbers → ⊥
