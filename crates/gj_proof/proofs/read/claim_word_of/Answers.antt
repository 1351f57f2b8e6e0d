use Rattle.std.proofs.Common.{◌≡◌, inl, ℕ, ◌<◌, List, [], ◌∷◌, get_or, lit<, below_more, codes, refl, rules, arith}
use Rattle.gj_proof.specs.ProofGrammar.{numbers_of_word, claim_word_text}
use Rattle.gj_proof.specs.declared.claim.ClaimWord.{ClaimWord}
use Rattle.gj_proof.specs.declared.claim.ClaimWord.TheVariants.{Minimal, NotMinimal, Cut, Extreme, NotExtreme}
use Rattle.gj_proof.specs.declared.numbers.Numbers.{Numbers}
use Rattle.gj_proof.specs.declared.numbers.Numbers.TheVariants.{Whole, Residues}
use Rattle.gj_proof.proofs.read.claim_word_of.Goals.{else-eq-via-then-eq+else-eq-2, else-eq-via-else-eq}
use Rattle.gj_proof.proofs.read.claim_word_of.Goals as goal

abbrev word_at : ℕ → ClaimWord
word_at i = get_or (Minimal ∷ NotMinimal ∷ Cut ∷ Extreme Whole ∷ Extreme Residues ∷ NotExtreme ∷ [])
    i Minimal

every_word : (P : ClaimWord → Type 0) → ((i : ℕ) → i < 6 → P (word_at i)) → (w : ClaimWord) → P w
every_word P h Minimal = h 0 (lit< tt)
every_word P h NotMinimal = h 1 (lit< tt)
every_word P h Cut = h 2 (lit< tt)
every_word P h (Extreme Whole) = h 3 (lit< tt)
every_word P h (Extreme Residues) = h 4 (lit< tt)
every_word P h NotExtreme = h 5 (lit< tt)

one_field : (line : List (List ℕ)) (field word : List ℕ) → line ≡ codes "claim" ∷ field ∷ [] →
    line ≡ codes "claim" ∷ word ∷ [] → field ≡ word
one_field line field word e f = cc

abbrev IsOther : List ℕ → Numbers → ClaimWord → Type 0
IsOther field numbers w = field ≡ claim_word_text w → numbers_of_word w ≡ numbers → ⊥

pub loop-word-preserved : goal.loop-word-preserved
loop-word-preserved c =
    below_more (λ k. IsOther c.in-Some.field.now c.args.numbers (word_at k))
    c.loop-word.word-index c.loop-word.invariant
    (elim c.else-eq.branch [
      | else-eq-via-then-eq+else-eq-2 w ↦ λ is of. search rules
      | else-eq-via-else-eq w ↦ λ is of. search rules
    ])

pub returns-clause-fault : goal.returns-clause-fault
returns-clause-fault c =
    inl (
      refl,
      λ (w, is, of). every_word (IsOther c.in-Some.field.now c.args.numbers)
          (λ i below. c.loop-word.invariant i (omega arith)) w
          (one_field _ _ _ c.in-Some.ensures.found is) of,
    )
