-- Lines by their first words.
use Rattle.std.proofs.Common.{◌≡◌, ◌⊎◌, inl, inr, ℕ, List, [], ◌∷◌, codes, refl, sym, ap, subst, ◌∙◌}
use Rattle.gj_lex.specs.declared.spelling.Spelling.TheVariants.{Lenient}
use Rattle.gj_forms.specs.TextLines.{HasNextLine, here, further, HasLine, IsSkipped}
use Rattle.gj_forms.specs.Parts.{BeginsWithWord, IsNoLine}
use Rattle.gj_forms.specs.declared.fault.PartFault.{PartFault}
use Rattle.gj_forms.proofs.FieldWords.{head_and_tail}
use Rattle.gj_forms.proofs.WhereLaws.{begins_with, other_word, begins_nothing}
use Rattle.gj_derivation_text.specs.OpenSteps.{StepsGoOn}

-- the next line is not skipped
not_skipped : (start : List ℕ) (words : List (List ℕ)) (rest text : List ℕ) →
    HasNextLine start words rest text → IsSkipped words → ⊥
not_skipped start words rest text (here _ at first not) skipped = not skipped
not_skipped start words rest text (further _ before next first is more) skipped =
    not_skipped start words rest next more skipped

-- and so has a word
pub has_word : (text start : List ℕ) (words : List (List ℕ)) (rest : List ℕ) →
    HasLine Lenient text start words rest → words ≡ [] → ⊥
has_word text start words rest line none =
    not_skipped start words rest text line (subst IsSkipped (sym none) tt)

-- ---- steps go on, or not

module _ (text start : List ℕ) (word : List ℕ) (words : List (List ℕ)) (rest : List ℕ)
    (line : HasLine Lenient text start (word ∷ words) rest) where
  pub steps_go_on : (word ≡ codes "step") ⊎ (word ≡ codes "end") → StepsGoOn text
  steps_go_on (inl is) =
      inl (begins_with Lenient text start (word ∷ words) words (codes "step") rest line
      (ap (λ w. w ∷ words) is))
  steps_go_on (inr is) =
      inr (begins_with Lenient text start (word ∷ words) words (codes "end") rest line
      (ap (λ w. w ∷ words) is))

  first : (w : List ℕ) (more : List (List ℕ)) → word ∷ words ≡ w ∷ more → word ≡ w
  first w more e = (head_and_tail _ _ _ _ e).0

  pub steps_end : ((word ≡ codes "step") ⊎ (word ≡ codes "end") → ⊥) → StepsGoOn text → ⊥
  steps_end other (inl begins) =
      other_word Lenient text start (word ∷ words) (codes "step") rest line
      (λ more e. other (inl (first (codes "step") more e))) begins
  steps_end other (inr begins) =
      other_word Lenient text start (word ∷ words) (codes "end") rest line
      (λ more e. other (inr (first (codes "end") more e))) begins

-- at the end of the text they do not
pub nothing_goes_on : (text : List ℕ) (e : PartFault) → IsNoLine Lenient text e → StepsGoOn text → ⊥
nothing_goes_on text e none (inl begins) = begins_nothing Lenient text (codes "step") e none begins
nothing_goes_on text e none (inr begins) = begins_nothing Lenient text (codes "end") e none begins
