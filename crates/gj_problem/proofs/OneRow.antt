-- A problem and its multipliers have one sum, and either one right side or one first free column.
use Rattle.std.proofs.Common.{◌≡◌, ℕ, List, [], ◌∷◌, ◌++◌, length, All, Bool, true, false, Option, Some, None, ℤ, pos, negsuc, ◌-ℤ◌, ◌<ℤ◌, refl, sym, ap, ap₂, subst, ◌∙◌, arith}
use Rattle.std.proofs.lemmas.Int.{ints}
use Rattle.gj_frac.specs.declared.Frac.{Frac}
use Rattle.gj_frac.specs.SameParts.{same_parts_same}
use Rattle.gj_frac.proofs.Floors.{same_from_IsFloor}
use Rattle.gj_lemmas.proofs.Integers.{mul_lt_cancel_right_z}
use Rattle.gj_fields.specs.Rational.{Rational, whole, rational, ◌+ℚ◌, ◌*ℚ◌, neg_ℚ, ◌-ℚ◌}
use Rattle.gj_fields.proofs.RationalRing.{by_ring_q, ring_q}
use Rattle.gj_problem.specs.declared.problem.Problem.{Problem}
use Rattle.gj_problem.specs.declared.pieces.Piece.{Piece}
use Rattle.gj_problem.specs.declared.problem.Entry.{Entry}
use Rattle.gj_problem.specs.Rows.{dot, IsOneColumn}
use Rattle.gj_problem.specs.declared.bounds.Held.{Held}
use Rattle.gj_problem.specs.Aggregates.{pieces_at, AreMadeOf, Weighted, weighted, IsAggregate, held, IsLeftOut, IsCeiling, IsLowerBound, IsUpperBound, IsFromLower, IsFromUpper, IsTurnedFrom, IsTurned, IsFree, IsRow, IsFirstFree}
use Rattle.gj_problem.proofs.Failing.{true_at, same_first}
use Rattle.gj_problem.proofs.MadePieces.{made_one}
use Rattle.gj_problem.proofs.OneColumn.{put_back}
use Rattle.gj_problem.proofs.TurnedColumns.{none_free}

-- ---- one sum

pub rational_injective : (x y : Frac) → rational x ≡ rational y → x ≡ y
rational_injective x y e = same_parts_same x y (ap (λ (q : Rational). q.top) e)
    (ap (λ (q : Rational). q.bottom) e)

pub dot_none : (cs : List Frac) → dot cs [] ≡ whole (pos 0)
dot_none [] = refl
dot_none (c ∷ cs) = refl

pub one_time : (c : Rational) → c *ℚ whole (pos 1) +ℚ whole (pos 0) ≡ c
one_time c = by_ring_q (c ∷ []) (search ring_q depth 30) refl

pub no_time : (c d : Rational) → c *ℚ whole (pos 0) +ℚ d ≡ d
no_time c d = by_ring_q (c ∷ d ∷ []) (search ring_q depth 30) refl

head_at : (c : Frac) (cs : List Frac) → dot (c ∷ cs) (whole (pos 1) ∷ []) ≡ rational c
head_at c cs = ap (λ w. rational c *ℚ whole (pos 1) +ℚ w) (dot_none cs) ∙ one_time (rational c)

-- sums that are equal at all points have equal coefficients
pub same_coefficients : (cs ds : List Frac) → length cs ≡ length ds →
    ((point : List Rational) → dot cs point ≡ dot ds point) → cs ≡ ds
same_coefficients [] [] n h = refl
same_coefficients [] (d ∷ ds) n h = absurd (omega arith)
same_coefficients (c ∷ cs) [] n h = absurd (omega arith)
same_coefficients (c ∷ cs) (d ∷ ds) n h =
    ap₂ (λ (x : Frac) (xs : List Frac). x ∷ xs)
    (rational_injective c d (sym (head_at c cs) ∙ h (whole (pos 1) ∷ []) ∙ head_at d ds))
    (same_coefficients cs ds (omega arith)
    (λ (point : List Rational). sym (no_time (rational c) (dot cs point))
    ∙ h (whole (pos 0) ∷ point) ∙ no_time (rational d) (dot ds point)))

pub turned_twice : (r : Rational) → r ≡ whole (pos 0) -ℚ (whole (pos 0) -ℚ r)
turned_twice r = by_ring_q (r ∷ []) (search ring_q depth 40) refl

right_at : (cs : List Frac) (r : Frac) → rational r ≡ whole (pos 0) -ℚ (dot cs [] -ℚ rational r)
right_at cs r = turned_twice (rational r)
    ∙ ap (λ w. whole (pos 0) -ℚ (w -ℚ rational r)) (sym (dot_none cs))

-- sums with equal surpluses at all points are one
pub same_sum : (cs ds : List Frac) (r s : Frac) → length cs ≡ length ds →
    ((point : List Rational) → dot cs point -ℚ rational r ≡ dot ds point -ℚ rational s) →
    (cs ≡ ds) × (r ≡ s)
same_sum cs ds r s count both =
    let right : rational r ≡ rational s = right_at cs r ∙ ap (λ w. whole (pos 0) -ℚ w) (both [])
    ∙ sym (right_at ds s) in (
      same_coefficients cs ds count
          (λ (point : List Rational). put_back (dot cs point) (rational r)
          ∙ ap₂ (λ v w. v +ℚ w) (both point) right
          ∙ sym (put_back (dot ds point) (rational s))),
      rational_injective r s right,
    )

pub one_sum : (p : Problem) (ws : List Weighted) (cs ds : List Frac) (r s : Frac) →
    IsAggregate p ws cs r → IsAggregate p ws ds s →
    (cs ≡ ds) × (r ≡ s)
one_sum p ws cs ds r s h k =
    same_sum cs ds r s (h.count ∙ sym k.count) (λ point. h.adds point ∙ sym (k.adds point))

-- ---- one bound

pub one_ceiling : (x : Frac) (n m : ℤ) → IsCeiling x n → IsCeiling x m → n ≡ m
one_ceiling x n m h k =
    let some : pos 0 <ℤ x.den = x.lowest.positive in
    let low : (n -ℤ pos 1) <ℤ m =
    mul_lt_cancel_right_z (n -ℤ pos 1) m x.den some
    (omega (arith, ints, h.before_below, k.at_least)) in
    let high : (m -ℤ pos 1) <ℤ n =
    mul_lt_cancel_right_z (m -ℤ pos 1) n x.den some
    (omega (arith, ints, k.before_below, h.at_least)) in
    omega (arith, ints)

pub one_lower : (b : Bool) (l x y : Frac) → IsLowerBound b l x → IsLowerBound b l y →
    rational x ≡ rational y
one_lower true l x y h k = h.2 ∙ ap whole (one_ceiling l h.0 k.0 h.1 k.1) ∙ sym k.2
one_lower false l x y h k = ap rational (h ∙ sym k)

pub one_upper : (b : Bool) (u x y : Frac) → IsUpperBound b u x → IsUpperBound b u y →
    rational x ≡ rational y
one_upper true u x y h k = h.2 ∙ ap whole (same_from_IsFloor u h.0 k.0 h.1 k.1) ∙ sym k.2
one_upper false u x y h k = ap rational (h ∙ sym k)

-- ---- one turned column

pub same_entry : (e f : Entry) → e.column ≡ f.column → rational e.value ≡ rational f.value → e ≡ f
same_entry e f column value = ap₂ (λ (j : ℕ) (x : Frac). record { column = j; value = x }) column
    (rational_injective e.value f.value value)

pub same_piece : (s t : Piece) → s.is_whole ≡ t.is_whole → rational s.entry ≡ rational t.entry →
    s.inequality.entries ≡ t.inequality.entries →
    rational s.inequality.right ≡ rational t.inequality.right → s ≡ t
same_piece s t is_whole entry entries right =
    let entries_same = rational_injective s.entry t.entry entry in
    let rights_same = rational_injective s.inequality.right t.inequality.right right in
    λ i. record {
      entry = entries_same i;
      inequality =
          record { entries = entries i; right = rights_same i };
      is_whole = is_whole i;
    }

one_column : (j : ℕ) (x b c : Rational) (s t : Piece) → s.is_whole ≡ t.is_whole →
    rational s.entry ≡ rational t.entry → b ≡ c →
    IsOneColumn j x b s.inequality → IsOneColumn j x c t.inequality → s ≡ t
one_column j x b c s t is_whole entry same h k =
    same_piece s t is_whole entry
    (h.alone ∙ ap (λ (e : Entry). e ∷ [])
    (same_entry h.entry k.entry (h.column ∙ sym k.column) (h.value ∙ sym k.value))
    ∙ sym k.alone)
    (h.right_is ∙ same ∙ sym k.right_is)

same_from_lower : (h : Held) (l : Frac) (s t : Piece) → s.is_whole ≡ t.is_whole →
    IsFromLower h l s → IsFromLower h l t → s ≡ t
same_from_lower h l s t kind a b =
    one_column h.index (whole (pos 1)) (rational a.bound) (rational b.bound) s t kind
    (a.entry_is ∙ sym b.entry_is)
    (one_lower h.column.is_whole l a.bound b.bound a.bound_is b.bound_is) a.inequality_is
    b.inequality_is

same_from_upper : (h : Held) (u : Frac) (s t : Piece) → s.is_whole ≡ t.is_whole →
    IsFromUpper h u s → IsFromUpper h u t → s ≡ t
same_from_upper h u s t kind a b =
    one_column h.index (whole (negsuc 0)) (neg_ℚ (rational a.bound))
    (neg_ℚ (rational b.bound)) s t kind (a.entry_is ∙ sym b.entry_is)
    (ap neg_ℚ (one_upper h.column.is_whole u a.bound b.bound a.bound_is b.bound_is)) a.inequality_is
    b.inequality_is

same_turned : (h : Held) (lower upper : Option Frac) (up : Bool) (s t : Piece) →
    s.is_whole ≡ t.is_whole →
    IsTurnedFrom h lower upper up s → IsTurnedFrom h lower upper up t → s ≡ t
same_turned h None None up s t kind a b = absurd a
same_turned h None (Some u) up s t kind a b = same_from_upper h u s t kind a b
same_turned h (Some l) None up s t kind a b = same_from_lower h l s t kind a b
same_turned h (Some l) (Some u) true s t kind a b = same_from_upper h u s t kind a b
same_turned h (Some l) (Some u) false s t kind a b = same_from_lower h l s t kind a b

pub one_turned : (h : Held) (s t : Piece) → IsTurned h s → IsTurned h t → s ≡ t
one_turned h s t a b =
    same_turned h h.column.lower h.column.upper h.at_upper s t
    (a.is_whole ∙ sym b.is_whole) a.turned b.turned

-- ---- one row

pub one_bounds : (p : Problem) (ms : List Frac) (ups : List Bool) (ps qs : List Piece) (r s : Frac)
    (row : IsRow p ms ups ps r)
    (other : IsRow p ms ups qs s) → row.bounds ≡ other.bounds
one_bounds p ms ups ps qs r s row other =
    let same = one_sum p (weighted ms p.constraints) row.coefficients other.coefficients row.against
    other.against row.sum other.sum in
    let made : AreMadeOf IsLeftOut IsTurned (held 0 p.columns other.coefficients ups) row.bounds =
    subst (λ (cs : List Frac). AreMadeOf IsLeftOut IsTurned (held 0 p.columns cs ups) row.bounds)
    same.0 row.bounds_are in
    made_one IsLeftOut IsTurned one_turned (held 0 p.columns other.coefficients ups) row.bounds
    other.bounds made other.bounds_are

pub one_right : (p : Problem) (ms : List Frac) (ups : List Bool) (ps qs : List Piece) (r s : Frac) →
    IsRow p ms ups ps r → IsRow p ms ups qs s →
    r ≡ s
one_right p ms ups ps qs r s row other =
    let same = one_sum p (weighted ms p.constraints) row.coefficients other.coefficients row.against
    other.against row.sum other.sum in
    rational_injective r s
    (row.right_is
    ∙ ap₂ (λ v w. v +ℚ w) (ap rational same.1)
    (ap (pieces_at []) (one_bounds p ms ups ps qs r s row other))
    ∙ sym other.right_is)

-- ---- no free column

pub no_free : (p : Problem) (ms : List Frac) (ups : List Bool) (ps : List Piece) (r : Frac)
    (j : ℕ) → IsRow p ms ups ps r →
    IsFirstFree p ms ups j → ⊥
no_free p ms ups ps r j row free =
    let same = one_sum p (weighted ms p.constraints) row.coefficients free.coefficients row.against
    free.against row.sum free.sum in
    let hs = held 0 p.columns free.coefficients ups in
    let none : All (λ h. IsFree h → ⊥) hs =
    none_free hs row.bounds
    (subst (λ (cs : List Frac). AreMadeOf IsLeftOut IsTurned
    (held 0 p.columns cs ups) row.bounds) same.0 row.bounds_are) in
    let first = free.first in
    true_at (λ h. IsFree h → ⊥) hs first.before first.after first.column first.place none first.free

pub one_free : (p : Problem) (ms : List Frac) (ups : List Bool) (i j : ℕ) → IsFirstFree p ms ups i →
    IsFirstFree p ms ups j → i ≡ j
one_free p ms ups i j h k =
    let same = one_sum p (weighted ms p.constraints) h.coefficients k.coefficients h.against
    k.against h.sum k.sum in
    let a = h.first in
    let b = k.first in
    let lists : a.before ++ a.column ∷ a.after ≡ b.before ++ b.column ∷ b.after =
    sym a.place ∙ ap (λ (cs : List Frac). held 0 p.columns cs ups) same.0 ∙ b.place in
    a.index
    ∙ ap (λ (x : Held). x.index)
    (same_first IsFree a.before b.before a.after b.after a.column b.column lists a.none_before
    b.none_before a.free b.free)
    ∙ sym b.index
