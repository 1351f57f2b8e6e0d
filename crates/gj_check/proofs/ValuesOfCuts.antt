-- Values of functions at entries, as they are computed.
use Rattle.std.proofs.Common.{◌≡◌, ℕ, zero, suc, ℤ, ◌+◌, ◌*◌, ◌/◌, ◌%◌, ◌-◌, ◌<◌, ◌↔◌, pos, ◌+ℤ◌, ◌*ℤ◌, ◌^◌, [], ◌∷◌, unsigned_abs, refl, sym, ap, ap₂, subst₂, ◌∙◌, arith}
use Rattle.std.proofs.lemmas.Int.{ints}
use Rattle.std.specs.Int.{int_div_euclid}
use Rattle.gj_frac.specs.declared.Frac.{Frac}
use Rattle.gj_frac.specs.Fraction.{IsRatio, numerator, denominator}
use Rattle.gj_frac.proofs.Floors.{quotient_is_floor}
use Rattle.gj_lemmas.proofs.Integers.{pos-*ℤ-pos}
use Rattle.gj_lemmas.proofs.Ring.{by_ring, ring}
use Rattle.gj_shape.specs.FunctionData.{FunctionData, IsWithinBounds}
use Rattle.gj_shape.specs.FirstViolation.{PassesAll}
use Rattle.gj_shape.specs.Table.{table, entry}
use Rattle.gj_shape.specs.Values.{IsCongruent, IsValueAt}
use Rattle.gj_shape.proofs.LeastDenominator.{denominator_some}
use Rattle.gj_shape.proofs.ValueLemmas.{congruent_back, value_from_place}
use Rattle.gj_theory.proofs.Lanes.{are_bounded}
use Rattle.gj_check_minimal.specs.declared.pieces.Piece.{Piece}
use Rattle.gj_check_minimal.specs.Pieces.{IsPieceAt, HasNumbersBelow}
use Rattle.gj_check.proofs.FractionalParts.{IsRestOf}
use Rattle.gj_check_minimal.proofs.PassedTests.{all_to_symmetry}
use Rattle.gj_check.proofs.Ratios.{denominator_is}

-- ---- the place of an entry

place_z : (r w d q : ℤ) → (r +ℤ w *ℤ d) *ℤ q ≡ r *ℤ q +ℤ w *ℤ (q *ℤ d)
place_z r w d q = by_ring (r ∷ w ∷ d ∷ q ∷ []) (search ring depth 30) refl

-- an entry x is r/d and a whole number, so in steps of 1/(q d) it is at the place r q, but for a
-- multiple of the period
place_of : (x : Frac) (r q : ℕ) → IsRestOf r x →
    IsCongruent (numerator x *ℤ pos q) (pos (r * q)) (q * unsigned_abs (denominator x))
place_of x r q is =
    let w = int_div_euclid x.num x.den in
    let d = unsigned_abs x.den in
    let rest = is w (quotient_is_floor x) in
    let whole : x.num ≡ pos r +ℤ w *ℤ x.den = omega (arith, ints) in (
      w,
      ap (λ z. z *ℤ pos q) whole ∙ place_z (pos r) w x.den (pos q)
          ∙ ap₂ (λ y z. y +ℤ w *ℤ z) (pos-*ℤ-pos r q) (ap (λ z. pos q *ℤ z) (denominator_is x)
          ∙ pos-*ℤ-pos q d),
    )

-- what the table has there is the value at the entry
value_at_place : (f : FunctionData) (x y : Frac) (r : ℕ) → IsWithinBounds f → IsRestOf r x →
    IsRatio y (table f (unsigned_abs (denominator x)) (r * f.order))
    (pos (f.scale * unsigned_abs (denominator x)))
    ↔ IsValueAt f (numerator x *ℤ pos f.order) (unsigned_abs (denominator x)) y
value_at_place f x y r l is =
    let d = unsigned_abs x.den in
    let place = place_of x r f.order is in (
      λ entry_is. value_from_place f (x.num *ℤ pos f.order) d (r * f.order) y l
          (denominator_some x) place entry_is,
      λ value. value (r * f.order)
          (congruent_back (x.num *ℤ pos f.order) (pos (r * f.order)) (f.order * d) place),
    )

-- ---- the entry of a table in a piece

entry_in_piece : (f : FunctionData) (m a r v : ℕ) (p : Piece) → IsPieceAt f a p →
    (r ≡ 0 → pos v ≡ pos m *ℤ p.value) →
    (0 < r → pos v ≡ pos (m - r) *ℤ p.right +ℤ pos r *ℤ p.left) → pos v ≡ entry f m a r
entry_in_piece f m a zero v p is at between = at refl ∙ ap (λ z. pos m *ℤ z) is.value
entry_in_piece f m a (suc r) v p is at between =
    between (omega arith) ∙ ap₂ (λ y z. pos (m - suc r) *ℤ y +ℤ pos (suc r) *ℤ z) is.right is.left

table_in_piece : (f : FunctionData) (m i v : ℕ) (p : Piece) → IsPieceAt f (i / m) p →
    (i % m ≡ 0 → pos v ≡ pos m *ℤ p.value) →
    (0 < i % m → pos v ≡ pos (m - i % m) *ℤ p.right +ℤ pos (i % m) *ℤ p.left) → pos v ≡ table f m i
unfolding table
table_in_piece f m i v p is at between = entry_in_piece f m (i / m) (i % m) v p is at between

-- so the value at an entry is v/(scale steps), by the piece that its place lies in
pub piece_decides : (f : FunctionData) (x y : Frac) (r steps place v scale : ℕ) (p : Piece) →
    IsWithinBounds f → IsRestOf r x →
    steps ≡ unsigned_abs (denominator x) → place ≡ r * f.order → scale ≡ f.scale →
    IsPieceAt f (place / steps) p →
    (place % steps ≡ 0 → pos v ≡ pos steps *ℤ p.value) →
    (0 < place % steps → pos v ≡ pos (steps - place % steps) *ℤ p.right +ℤ pos (place % steps)
    *ℤ p.left) →
    IsRatio y (pos v) (pos (scale * steps)) ↔ IsValueAt f (numerator x *ℤ pos f.order)
    (unsigned_abs (denominator x)) y
piece_decides f x y r steps place v scale p l rest steps_is place_is scale_is is at between =
    let top : pos v ≡ table f (unsigned_abs (denominator x)) (r * f.order) =
    table_in_piece f steps place v p is at between ∙ ap₂ (table f) steps_is place_is in
    let bottom : pos (scale * steps) ≡ pos (f.scale * unsigned_abs (denominator x)) =
    ap₂ (λ s m. pos (s * m)) scale_is steps_is in
    let same = value_at_place f x y r l rest in (
      λ h. same.0 (subst₂ (IsRatio y) top bottom h),
      λ h. subst₂ (IsRatio y) (sym top) (sym bottom)
          (same.1 h),
    )

-- the numbers of a minimal function
pub minimal_numbers : (f : FunctionData) (i : ℕ) (p : Piece) → IsWithinBounds f → PassesAll f →
    IsPieceAt f i p → HasNumbersBelow (2 ^ 31) p
minimal_numbers f i p l all is =
    let b = are_bounded f l (all_to_symmetry f all) in
    let high = l.scale_high in
    let value = is.value in
    let value_low = b.value_low i in
    let value_high = b.value_high i in
    let right = is.right in
    let right_low = b.right_low i in
    let right_high = b.right_high i in
    let left = is.left in
    let left_low = b.left_low (i + 1) in
    let left_high = b.left_high (i + 1) in
    record {
      value_low = omega (arith, ints);
      value_high = omega (arith, ints);
      right_low = omega (arith, ints);
      right_high = omega (arith, ints);
      left_low = omega (arith, ints);
      left_high = omega (arith, ints);
    }
