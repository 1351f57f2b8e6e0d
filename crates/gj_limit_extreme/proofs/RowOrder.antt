-- The names of the rows in their order, those of one vertex row after another.
use Rattle.std.proofs.Common.{◌≡◌, ℕ, zero, suc, ◌+◌, ◌-◌, ◌*◌, ◌<◌, ◌≤◌, ◌^◌, List, [], ◌∷◌, ◌++◌, length, ap, arith}
use Rattle.std.specs.List.{range_with_len, filter, flat_map}
use Rattle.std.proofs.Math.Nat.{mul-le-mul}
use Rattle.std.proofs.lemmas.List.{length-append, length-map}
use Rattle.std.proofs.lemmas.List.FromFn.{length-range_with_len}
use Rattle.std.proofs.lemmas.List.Sums.{length-filter, count_by-le-length}
use Rattle.gj_lemmas.proofs.Lists.{range_step, range_end}
use Rattle.gj_shape.specs.FunctionData.{FunctionData, IsWithinBounds}
use Rattle.gj_limit_system.specs.LimitRows.{corners, row_at, is_tight_at, tight_rows_at, tight_rows, limit_rows}
use Rattle.gj_limit_system.specs.declared.limit_row.LimitRow.{LimitRow}
use Rattle.gj_limit_system.specs.declared.limit_row.LimitRow.TheVariants.{F}
use Rattle.gj_limit_extreme.specs.RowsToCome.{tight_rows_from}

-- that of f comes first
pub first_rows : (f : FunctionData) → limit_rows f ≡ F ∷ tight_rows_from f 0
first_rows f =
    let all : f.order ≡ f.order - 0 = omega arith in
    ap (λ n. F ∷ flat_map (tight_rows f) (range_with_len 0 n)) all

pub next_rows : (f : FunctionData) (a : ℕ) → a < f.order →
    tight_rows_from f a ≡ tight_rows f a ++ tight_rows_from f (a + 1)
next_rows f a below = ap (flat_map (tight_rows f)) (range_step a f.order below)

pub no_rows : (f : FunctionData) (a : ℕ) → f.order ≤ a → tight_rows_from f a ≡ []
no_rows f a above = ap (flat_map (tight_rows f)) (range_end a f.order above)

-- ---- how many there are

vertex_short : (f : FunctionData) (a b : ℕ) → length (tight_rows_at f a b) ≤ 13
vertex_short f a b =
    let len = length-map (filter (is_tight_at f a b) corners) (row_at a b) in
    let kept = length-filter (is_tight_at f a b) corners in
    let most = count_by-le-length (is_tight_at f a b) corners in
    omega arith

joined_short : (g : ℕ → List LimitRow) (m : ℕ) (xs : List ℕ) → ((x : ℕ) → length (g x) ≤ m) →
    length (flat_map g xs) ≤ length xs * m
joined_short g m [] h = omega arith
joined_short g m (x ∷ xs) h =
    let here = h x in
    let later = joined_short g m xs h in
    let all = length-append (g x) (flat_map g xs) in
    omega arith

row_short : (f : FunctionData) (a : ℕ) → f.order ≤ 1000 → length (tight_rows f a) ≤ 13000
row_short f a high =
    let range = range_with_len a (f.order - a) in
    let most = joined_short (tight_rows_at f a) 13 range (vertex_short f a) in
    let len = length-range_with_len a (f.order - a) in
    let product : length (range_with_len a (f.order - a)) * 13 ≤ 1000 * 13 =
    mul-le-mul {n₁ = length (range_with_len a (f.order - a))} {m₁ = 13} {n₂ = 1000} {m₂ = 13}
    (omega arith) (omega arith) in
    omega arith

pub rows_short : (f : FunctionData) → IsWithinBounds f → length (limit_rows f) < 2 ^ 32
rows_short f l =
    let high : f.order ≤ 1000 = l.order_high in
    let range = range_with_len 0 f.order in
    let most = joined_short (tight_rows f) 13000 range (λ a. row_short f a high) in
    let len = length-range_with_len 0 f.order in
    let product : length (range_with_len 0 f.order) * 13000 ≤ 1000 * 13000 =
    mul-le-mul {n₁ = length (range_with_len 0 f.order)} {m₁ = 13000} {n₂ = 1000} {m₂ = 13000}
    (omega arith) (omega arith) in
    omega arith
