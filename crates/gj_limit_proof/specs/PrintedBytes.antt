-- The bytes of a proof text (own).
use Rattle.std.specs.Prelude.{ℕ, ◌≡◌, ◌⊎◌, ◌≤◌, List, [], ◌∷◌, ◌++◌}

-- a printable byte of ASCII
abbrev pub IsPrintable : ℕ → Type 0
IsPrintable b = (32 ≤ b) × (b ≤ 126)

-- a line feed or a printable byte
abbrev pub IsTextByte : ℕ → Type 0
IsTextByte b = (b ≡ 10) ⊎ IsPrintable b

-- nothing, or a text that ends with a line feed
abbrev pub IsEnded : List ℕ → Type 0
IsEnded text = (text ≡ []) ⊎ ((front : List ℕ) × (text ≡ front ++ 10 ∷ []))
