-- What the readers of the parts of a family line find (own).
use Rattle.std.specs.Prelude.{ℕ, ◌≡◌, ◌⊎◌, ◌+◌, ◌<◌, ◌≤◌, ◌^◌, List, [], ◌∷◌, codes}
use Rattle.gj_function_text.specs.declared.family.LineWords.{LineWords}
use Rattle.gj_function_text.specs.declared.family.LineWords.TheVariants.{Gmic, Half, TwoSlope}

-- the words of a line, by those that differ from line to line
abbrev pub gmic_words : List ℕ → List (List ℕ)
gmic_words f = codes "family" ∷ codes "gmic" ∷ f ∷ []

abbrev pub half_words : List ℕ → List (List ℕ)
half_words f = codes "family" ∷ codes "half" ∷ f ∷ []

abbrev pub two_slope_words : List ℕ → List ℕ → List (List ℕ)
two_slope_words count signs = codes "family" ∷ codes "two-slope" ∷ count ∷ signs ∷ []

abbrev pub texts_of : LineWords → List (List ℕ)
texts_of (Gmic word) = gmic_words word.now
texts_of (Half word) = half_words word.now
texts_of (TwoSlope count signs) = two_slope_words count.now signs.now

-- `+` or `-`
abbrev pub IsSign : ℕ → Type 0
IsSign b = (b ≡ 43) ⊎ (b ≡ 45)

-- the number if it is below 2^32, and else 2^32 - 1
abbrev pub IsCut : ℕ → ℕ → Type 0
IsCut n k = ((k ≡ n) × (n < 2 ^ 32)) ⊎ ((k + 1 ≡ 2 ^ 32) × (2 ^ 32 ≤ n))
