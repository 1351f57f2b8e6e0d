-- Additive triangles, counted.
use Rattle.std.proofs.Common.{◌≡◌, ◌↔◌, ℕ, zero, suc, ◌+◌, ◌-◌, ◌<◌, ◌≤◌, List, [], ◌∷◌, ◌++◌, Bool, true, false, cond, ◌&&◌, length, length-append, refl, sym, ap, subst, ◌∙◌, lit<, arith}
use Rattle.std.specs.List.{range_with_len, flat_map}
use Rattle.std.proofs.lemmas.Bool.{and_parts, and_from, true≢false}
use Rattle.gj_loops.specs.IndexSets.{count_below}
use Rattle.gj_loops.proofs.Counts.{counted_more, counted_none, counted_past}
use Rattle.gj_shape.specs.Additive.{IsTight, IsAdditive}
use Rattle.gj_shape.specs.FunctionData.{FunctionData, IsWithinBounds}
use Rattle.gj_shape.specs.WalkOrder.{faces_of_square}
use Rattle.gj_shape.specs.declared.faces.Face.{Face}
use Rattle.gj_shape.specs.declared.faces.FaceKind.TheVariants.{Lower, Upper}
use Rattle.gj_faces.specs.Added.{faces_of_row}
use Rattle.gj_faces.specs.Picked.{ArePicked, none, kept, dropped}
use Rattle.gj_faces.specs.Triangles.{IsAdditiveTriangle}
use Rattle.gj_faces.proofs.Maximality.{lower, upper, corner}
use Rattle.gj_faces.proofs.Periods.{tight_is_periodic}
use Rattle.gj_faces.proofs.PickedFaces.{picked_joined, joined_more}

-- ---- by the pairs around a square

module _ (f : FunctionData) (limits : IsWithinBounds f) (a b : ℕ) (m e n : Bool)
    (middle : (m ≡ true) ↔ IsTight f a b)
    (east : (e ≡ true) ↔ IsTight f (a + 1) b) (north : (n ≡ true) ↔ IsTight f a (b + 1)) where
  some : 0 < f.order
  some = omega (arith, limits.order_low)

  pub lower_by_pairs : (((e && n) && m) ≡ true) ↔ IsAdditive (IsTight f) Lower a b
  lower_by_pairs =
      let periodic = tight_is_periodic f limits in (
        λ yes.
            let both = and_parts (e && n) m yes in
            let edge = and_parts e n both.0 in
            lower f.order (IsTight f) some periodic a b (middle.0 both.1) (east.0 edge.0)
            (north.0 edge.1),
        λ additive.
            and_from (e && n) m
            (and_from e n (east.1
            (corner f.order (IsTight f) some periodic Lower a b 1 (lit< tt) additive))
            (north.1 (corner f.order (IsTight f) some periodic Lower a b 2 (lit< tt) additive)))
            (middle.1 (corner f.order (IsTight f) some periodic Lower a b 0 (lit< tt) additive)),
      )

  pub upper_by_pairs : (k : Bool) → (k ≡ true) ↔ IsTight f (a + 1) (b + 1) →
      (((e && n) && k) ≡ true) ↔ IsAdditive (IsTight f) Upper a b
  upper_by_pairs k far =
      let periodic = tight_is_periodic f limits in (
        λ yes.
            let both = and_parts (e && n) k yes in
            let edge = and_parts e n both.0 in
            upper f.order (IsTight f) some periodic a b (east.0 edge.0) (north.0 edge.1)
            (far.0 both.1),
        λ additive.
            and_from (e && n) k
            (and_from e n (east.1
            (corner f.order (IsTight f) some periodic Upper a b 0 (lit< tt) additive))
            (north.1 (corner f.order (IsTight f) some periodic Upper a b 1 (lit< tt) additive)))
            (far.1 (corner f.order (IsTight f) some periodic Upper a b 2 (lit< tt) additive)),
      )

-- ---- square by square

-- so many of the faces are additive triangles
abbrev pub AreCounted : FunctionData → List Face → ℕ → Type 0
AreCounted f faces count = (triangles : List Face)
    × ArePicked (IsAdditiveTriangle f) faces triangles × (count ≡ length triangles)

-- the faces of a square before its triangles
not_those : (f : FunctionData) (a b : ℕ) {triangles : List Face} →
    ArePicked (IsAdditiveTriangle f)
    (record { kind = Lower; a = a; b = b } ∷ record { kind = Upper; a = a; b = b } ∷ [])
    triangles →
    ArePicked (IsAdditiveTriangle f) (faces_of_square a b) triangles
not_those f a b h =
    dropped (λ both. true≢false (sym both.0))
    (dropped (λ both. true≢false (sym both.0)) (dropped (λ both. true≢false (sym both.0))
    (dropped (λ both. true≢false (sym both.0)) h)))

counted_square : (f : FunctionData) (a b : ℕ) (l u : Bool) →
    (l ≡ true) ↔ IsAdditive (IsTight f) Lower a b →
    (u ≡ true) ↔ IsAdditive (IsTight f) Upper a b →
    AreCounted f (faces_of_square a b) (cond l 1 0 + cond u 1 0)
counted_square f a b true true lower upper = (
  record { kind = Lower; a = a; b = b } ∷ record { kind = Upper; a = a; b = b } ∷ [],
  not_those f a b (kept (refl, lower.0 refl) (kept (refl, upper.0 refl) none)),
  refl,
)
counted_square f a b true false lower upper = (
  record { kind = Lower; a = a; b = b } ∷ [],
  not_those f a b (kept (refl, lower.0 refl)
      (dropped (λ both. true≢false (sym (upper.1 both.1))) none)),
  refl,
)
counted_square f a b false true lower upper = (
  record { kind = Upper; a = a; b = b } ∷ [],
  not_those f a b (dropped (λ both. true≢false (sym (lower.1 both.1)))
      (kept (refl, upper.0 refl) none)),
  refl,
)
counted_square f a b false false lower upper = (
  [],
  not_those f a b (dropped (λ both. true≢false (sym (lower.1 both.1)))
      (dropped (λ both. true≢false (sym (upper.1 both.1))) none)),
  refl,
)

-- one list of faces behind the other
counted_joined : (f : FunctionData) (xs ys : List Face) (m n : ℕ) → AreCounted f xs m →
    AreCounted f ys n → AreCounted f (xs ++ ys) (m + n)
counted_joined f xs ys m n h k = (
  h.0 ++ k.0,
  picked_joined (IsAdditiveTriangle f) ys k.0 h.1 k.1,
  let lengths = length-append h.0 k.0 in omega (arith, h.2, k.2),
)

-- the squares of a row below the n-th
pub counted_squares : (f : FunctionData) (a n : ℕ) (lower upper : ℕ → Bool) →
    ((b : ℕ) → b < n → (lower b ≡ true) ↔ IsAdditive (IsTight f) Lower a b) →
    ((b : ℕ) → b < n → (upper b ≡ true) ↔ IsAdditive (IsTight f) Upper a b) →
    AreCounted f (flat_map (faces_of_square a) (range_with_len 0 n))
    (count_below lower n + count_below upper n)
counted_squares f a zero lower upper are_lower are_upper = (
  [],
  none,
  let no_lower = counted_none lower in let no_upper = counted_none upper in
      omega arith,
)
counted_squares f a (suc n) lower upper are_lower are_upper =
    let before = counted_squares f a n lower upper (λ b below. are_lower b (omega arith))
    (λ b below. are_upper b (omega arith)) in
    let here = counted_square f a n (lower n) (upper n) (are_lower n (omega arith))
    (are_upper n (omega arith)) in
    let e : n + 1 ≡ suc n = omega arith in
    let lower_more = counted_more lower n in
    let upper_more = counted_more upper n in
    let count : count_below lower n + count_below upper n
    + (cond (lower n) 1 0 + cond (upper n) 1 0)
    ≡ count_below lower (n + 1) + count_below upper (n + 1) = omega arith in
    subst (λ k. AreCounted f (flat_map (faces_of_square a) (range_with_len 0 k))
    (count_below lower k + count_below upper k)) e
    (subst (λ k. AreCounted f (flat_map (faces_of_square a) (range_with_len 0 (n + 1))) k) count
    (subst (λ xs. AreCounted f xs
    (count_below lower n + count_below upper n + (cond (lower n) 1 0 + cond (upper n) 1 0)))
    (sym (joined_more (faces_of_square a) n))
    (counted_joined f (flat_map (faces_of_square a) (range_with_len 0 n)) (faces_of_square a n)
    (count_below lower n + count_below upper n) (cond (lower n) 1 0 + cond (upper n) 1 0) before
    here)))

-- one row more
pub counted_rows : (f : FunctionData) (q a m n : ℕ) →
    AreCounted f (flat_map (faces_of_row q) (range_with_len 0 a)) m →
    AreCounted f (faces_of_row q a) n →
    AreCounted f (flat_map (faces_of_row q) (range_with_len 0 (a + 1))) (m + n)
counted_rows f q a m n h k =
    subst (λ xs. AreCounted f xs (m + n)) (sym (joined_more (faces_of_row q) a))
    (counted_joined f (flat_map (faces_of_row q) (range_with_len 0 a)) (faces_of_row q a) m n h k)

-- the sets of a row, counted up to the limit
pub counted_sets : (f : FunctionData) (a l u : ℕ) (lower upper : ℕ → Bool) → f.order ≤ 1000 →
    ((b : ℕ) → b < f.order → (lower b ≡ true) ↔ IsAdditive (IsTight f) Lower a b) →
    ((b : ℕ) → b < f.order → (upper b ≡ true) ↔ IsAdditive (IsTight f) Upper a b) →
    ((b : ℕ) → f.order ≤ b → lower b ≡ false) → ((b : ℕ) → f.order ≤ b → upper b ≡ false) →
    l ≡ count_below lower 1024 → u ≡ count_below upper 1024 →
    AreCounted f (faces_of_row f.order a) (l + u)
counted_sets f a l u lower upper few are_lower are_upper no_lower no_upper lower_count upper_count =
    let e : f.order + (1024 - f.order) ≡ 1024 = omega arith in
    let first = counted_past lower f.order (1024 - f.order) no_lower in
    let second = counted_past upper f.order (1024 - f.order) no_upper in
    let whole_lower = lower_count ∙ ap (count_below lower) (sym e) ∙ first in
    let whole_upper = upper_count ∙ ap (count_below upper) (sym e) ∙ second in
    let same : count_below lower f.order + count_below upper f.order ≡ l + u = omega arith in
    subst (AreCounted f (faces_of_row f.order a)) same
    (counted_squares f a f.order lower upper are_lower are_upper)
