-- Rows that an elimination needs only once (own).
use Rattle.std.specs.Prelude.{ℕ, ℤ, pos, ◌≡◌, ◌+◌, List, [], ◌∷◌, ◌++◌, map, get_or, All, Contains}
use Rattle.gj_shape.specs.Elimination.{KeptRow, inserted, kept_behind}

-- the kept rows after the row with this number is inserted, with more rows behind
abbrev pub kept_after : ℕ → List KeptRow → ℕ → List ℤ → List KeptRow → List KeptRow
kept_after n kept number row more = kept_behind kept number (inserted n kept row).reduce
    (inserted n kept row).kept ++ more

-- behind the rows before, of rows with numbers from this one on, those that are handed over, each
-- with its number: a row may be left out if it equals one before, or is all 0
pub data IsHandedOver : List (List ℤ) → ℕ → List (List ℤ) → List (ℕ × List ℤ) → Type 0 where
  none : (before : List (List ℤ)) (number : ℕ) → IsHandedOver before number [] []
  first : (before : List (List ℤ)) (number : ℕ) (row : List ℤ) (rows : List (List ℤ))
      (handed : List (ℕ × List ℤ)) →
      IsHandedOver (row ∷ before) (number + 1) rows handed →
      IsHandedOver before number (row ∷ rows) ((number, row) ∷ handed)
  again : (before : List (List ℤ)) (number : ℕ) (row : List ℤ) (rows : List (List ℤ))
      (handed : List (ℕ × List ℤ)) →
      Contains before row → IsHandedOver before (number + 1) rows handed →
      IsHandedOver before number (row ∷ rows) handed
  zeros : (before : List (List ℤ)) (number : ℕ) (row : List ℤ) (rows : List (List ℤ))
      (handed : List (ℕ × List ℤ)) →
      All (λ x. x ≡ pos 0) row → IsHandedOver before (number + 1) rows handed →
      IsHandedOver before number (row ∷ rows) handed

-- the numbers of the rows that are handed over, and the rows
abbrev pub handed_numbers : List (ℕ × List ℤ) → List ℕ
handed_numbers handed = map (λ h. h.0) handed

abbrev pub handed_rows : List (ℕ × List ℤ) → List (List ℤ)
handed_rows handed = map (λ h. h.1) handed

-- the kept row with the number of the row at its place
abbrev pub renumbered : List ℕ → KeptRow → KeptRow
renumbered numbers k = record k { number = get_or numbers k.number 0 }
