-- The words of a line of both halves' numbers (own).
use Rattle.std.specs.Prelude.{ℕ, ◌≡◌, List, [], ◌∷◌, codes}
use Rattle.std.specs.Fmt.{signed_decimal}
use Rattle.gj_limit_proof.specs.LimitGrammar.{AllFit}
use Rattle.gj_limit_proof.specs.declared.three_words.ThreeWords.{ThreeWords}
use Rattle.gj_limit_proof.specs.declared.triple.Triple.{Triple}

-- those of two values
abbrev pub texts_of_values : List ℕ → List ℕ → List (List ℕ)
texts_of_values v w = codes "pair" ∷ v ∷ w ∷ []

-- those of six numbers, and of twice three
abbrev pub texts_of_six : (a b c d e f : List ℕ) → List (List ℕ)
texts_of_six a b c d e f = codes "pair" ∷ a ∷ b ∷ c ∷ d ∷ e ∷ f ∷ []

abbrev pub texts_of_triples : ThreeWords → ThreeWords → List (List ℕ)
texts_of_triples v w =
    texts_of_six v.first.now v.second.now v.third.now w.first.now w.second.now w.third.now

-- the words spell these numbers, and all fit
pub record AreTripleWords (words : ThreeWords) (t : Triple) : Type 0 where
  pub left : words.first.now ≡ signed_decimal t.left
  pub value : words.second.now ≡ signed_decimal t.value
  pub right : words.third.now ≡ signed_decimal t.right
  pub fit : AllFit t
