-- The linear system for the slopes of a perturbation, one slope for each component (Equivariant
-- Perturbation I).
use Rattle.std.specs.Prelude.{ℕ, ℤ, pos, ◌≡◌, ◌+◌, ◌-◌, ◌%◌, ◌==◌, ◌+ℤ◌, ◌-ℤ◌, ◌*ℤ◌, Bool, List, [], ◌∷◌, map, flat_map, filter, count_by, get_or, zip, All}
use Rattle.std.specs.List.{range_with_len}
use Rattle.std.specs.Ordering.{int_eq}
use Rattle.gj_shape.specs.FunctionData.{FunctionData, at}
use Rattle.gj_shape.specs.declared.extremality.RowName.{RowName}
use Rattle.gj_shape.specs.declared.extremality.RowName.TheVariants.{Period, F, Pair}

-- the component of an interval, in a list with an entry for each
abbrev pub component_in : List ℕ → ℕ → ℕ
component_in components i = get_or components i 0

-- how many of the intervals before i/order are in the component
abbrev pub rises : (ℕ → ℕ) → ℕ → ℕ → ℕ
rises component i c = count_by (λ a. component a == c) (range_with_len 0 i)

-- what a row has at the component c, for a function of order q with f at the place k
abbrev pub row_entry : (ℕ → ℕ) → ℕ → ℕ → RowName → ℕ → ℤ
row_entry component q k Period c = pos (rises component q c)
row_entry component q k F c = pos (rises component k c)
row_entry component q k (Pair a b) c =
    pos (rises component a c) +ℤ pos (rises component b c) -ℤ pos (rises component ((a + b) % q) c)

-- a row over n components
abbrev pub row_of : (ℕ → ℕ) → ℕ → ℕ → ℕ → RowName → List ℤ
row_of component n q k name = map (row_entry component q k name) (range_with_len 0 n)

-- the pair is tight
abbrev pub is_tight : FunctionData → ℕ → ℕ → Bool
is_tight f a b = int_eq (at f.value a +ℤ at f.value b) (at f.value (a + b))

-- the rows in their order: the period, f, and the tight pairs (a, b) with 1 ≤ a ≤ b < order, a
-- ascending, inside it b
abbrev pub row_names : FunctionData → List RowName
row_names f =
    Period ∷ F
    ∷ flat_map (λ a. map (Pair a) (filter (is_tight f a) (range_with_len a (f.order - a))))
    (range_with_len 1 (f.order - 1))

-- the sum of whole numbers
abbrev pub total : List ℤ → ℤ
total [] = pos 0
total (x ∷ xs) = x +ℤ total xs

-- the sum of the products of entries
abbrev pub sum_of_products : List ℤ → List ℤ → ℤ
sum_of_products xs ys = total (map (λ p. p.0 *ℤ p.1) (zip xs ys))

-- the slopes solve all rows
abbrev pub SolveRows : (ℕ → ℕ) → ℕ → FunctionData → List ℤ → Type 0
SolveRows component n f slopes =
    All (λ name. sum_of_products (row_of component n f.order f.place name) slopes ≡ pos 0)
    (row_names f)
