-- The surplus of an inequality with one column, and of the multiple of a constraint.
use Rattle.std.proofs.Common.{◌≡◌, ℕ, zero, suc, ◌+◌, ◌<◌, List, [], ◌∷◌, ◌++◌, length, get_or, take, ℤ, pos, negsuc, neg_ℤ, ◌+ℤ◌, ◌*ℤ◌, ◌<ℤ◌, ◌≤ℤ◌, refl, sym, ap, ap₂, subst₂, ◌∙◌, arith}
use Rattle.std.specs.List.{AllZip}
use Rattle.std.proofs.lemmas.Int.{ints}
use Rattle.std.proofs.lemmas.List.{take_more}
use Rattle.gj_frac.specs.declared.Frac.{Frac}
use Rattle.gj_frac.specs.Floor.{IsFloor}
use Rattle.gj_frac.specs.Fraction.{SameValue, fraction_of, product_of}
use Rattle.gj_lemmas.proofs.Integers.{neg_mul_z, add_mul_z, sub_mul_z, swap_last_z, mul_le_cancel_right_z, mul_lt_cancel_right_z, mul_le_mul_right_z, mul_lt_mul_right_z}
use Rattle.gj_fields.specs.Rational.{Rational, whole, rational, ◌+ℚ◌, ◌*ℚ◌, neg_ℚ, ◌-ℚ◌}
use Rattle.gj_fields.proofs.RationalLaws.{mul_zero_q, zero_add_q}
use Rattle.gj_fields.proofs.RationalRing.{by_ring_q, ring_q}
use Rattle.gj_problem.specs.declared.problem.Entry.{Entry}
use Rattle.gj_problem.specs.declared.problem.Inequality.{Inequality}
use Rattle.gj_problem.specs.declared.pieces.Piece.{Piece}
use Rattle.gj_problem.specs.Problems.{value_at, sum_at, surplus_at}
use Rattle.gj_problem.specs.Rows.{IsMultiple, IsOneColumn}
use Rattle.gj_problem.specs.Aggregates.{pieces_at, IsCeiling}
use Rattle.gj_problem.proofs.AddedSums.{product_value, add_zero_q}
use Rattle.gj_problem.proofs.MadePieces.{zip_joined, pieces_joined}

-- ---- one column

column_surplus : (point : List Rational) (j : ℕ) (x b : Rational) (q : Inequality) →
    IsOneColumn j x b q →
    surplus_at point q ≡ (x *ℚ value_at point j +ℚ whole (pos 0)) -ℚ b
column_surplus point j x b q h =
    ap₂ (λ (es : List Entry) w. sum_at point es -ℚ w) h.alone h.right_is
    ∙ ap₂ (λ w (k : ℕ). (w *ℚ value_at point k +ℚ whole (pos 0)) -ℚ b) h.value h.column

lower_step : (x b : Rational) → (whole (pos 1) *ℚ x +ℚ whole (pos 0)) -ℚ b ≡ x -ℚ b
lower_step x b = by_ring_q (x ∷ b ∷ []) (search ring_q depth 40) refl

pub lower_surplus : (point : List Rational) (j : ℕ) (b : Rational) (q : Inequality) →
    IsOneColumn j (whole (pos 1)) b q →
    surplus_at point q ≡ value_at point j -ℚ b
lower_surplus point j b q h = column_surplus point j (whole (pos 1)) b q h
    ∙ lower_step (value_at point j) b

upper_step : (x b : Rational) → (whole (negsuc 0) *ℚ x +ℚ whole (pos 0)) -ℚ neg_ℚ b ≡ b -ℚ x
upper_step x b = by_ring_q (x ∷ b ∷ []) (search ring_q depth 40) refl

pub upper_surplus : (point : List Rational) (j : ℕ) (b : Rational) (q : Inequality) →
    IsOneColumn j (whole (negsuc 0)) (neg_ℚ b) q →
    surplus_at point q ≡ b -ℚ value_at point j
upper_surplus point j b q h = column_surplus point j (whole (negsuc 0)) (neg_ℚ b) q h
    ∙ upper_step (value_at point j) b

-- ---- the right side

pub nothing_value : (j : ℕ) → value_at [] j ≡ whole (pos 0)
nothing_value zero = refl
nothing_value (suc j) = refl

pub nothing_sum : (es : List Entry) → sum_at [] es ≡ whole (pos 0)
nothing_sum [] = refl
nothing_sum (e ∷ es) =
    ap₂ (λ a b. rational e.value *ℚ a +ℚ b) (nothing_value e.column) (nothing_sum es)
    ∙ ap (λ a. a +ℚ whole (pos 0)) (mul_zero_q (rational e.value)) ∙ zero_add_q (whole (pos 0))

right_step : (r e b p : Rational) →
    (r +ℚ neg_ℚ (e *ℚ b)) -ℚ (p +ℚ (e *ℚ (whole (pos 0) -ℚ b) +ℚ whole (pos 0))) ≡ r -ℚ p
right_step r e b p = by_ring_q (r ∷ e ∷ b ∷ p ∷ []) (search ring_q depth 60 fits 3000) refl

-- with one more piece the right side is less by what the piece is at the point 0
pub right_kept : (old new : Rational) (ps qs : List Piece) (s : Piece) → qs ≡ ps ++ s ∷ [] →
    new ≡ old +ℚ neg_ℚ (rational s.entry *ℚ rational s.inequality.right) →
    new -ℚ pieces_at [] qs ≡ old -ℚ pieces_at [] ps
right_kept old new ps qs s qs_are new_is =
    let e = rational s.entry in
    let b = rational s.inequality.right in
    ap₂ (λ w (zs : List Piece). w -ℚ pieces_at [] zs) new_is qs_are
    ∙ ap (λ w. (old +ℚ neg_ℚ (e *ℚ b)) -ℚ w)
    (pieces_joined [] ps (s ∷ []) ∙ ap (λ w. pieces_at [] ps +ℚ (e *ℚ (w -ℚ b) +ℚ whole (pos 0)))
    (nothing_sum s.inequality.entries))
    ∙ right_step old e b (pieces_at [] ps)

-- ---- a multiple

-- the second entry is the first times x
abbrev pub IsTimes : Rational → Entry → Entry → Type 0
IsTimes x e f = (f.column ≡ e.column) × (rational f.value ≡ x *ℚ rational e.value)

pub multiple_more : (es : List Entry) (i : ℕ) (e made : Entry) (f : Frac) (old new : List Entry) →
    i < length es →
    e ≡ get_or es i e → AllZip (IsTimes (rational f)) (take i es) old → new ≡ old ++ made ∷ [] →
    made.column ≡ e.column →
    SameValue (fraction_of made.value) (product_of (fraction_of f) (fraction_of e.value)) →
    AllZip (IsTimes (rational f)) (take (i + 1) es) new
multiple_more es i e made f old new below here h new_is column value =
    let R : Entry → Entry → Type 0 = IsTimes (rational f) in
    subst₂ (λ (fs gs : List Entry). AllZip R fs gs)
    (sym (take_more es i e below ∙ ap (λ z. take i es ++ z ∷ []) (sym here))) (sym new_is)
    (zip_joined R (take i es) (e ∷ []) old (made ∷ []) h
    ((column, product_value f e.value made.value value), tt))

pub scaled_step : (f v x s : Rational) → (f *ℚ v) *ℚ x +ℚ f *ℚ s ≡ f *ℚ (v *ℚ x +ℚ s)
scaled_step f v x s = by_ring_q (f ∷ v ∷ x ∷ s ∷ []) (search ring_q depth 40) refl

multiple_sum : (point : List Rational) (x : Rational) (es fs : List Entry) →
    AllZip (IsTimes x) es fs → sum_at point fs ≡ x *ℚ sum_at point es
multiple_sum point x [] [] h = sym (mul_zero_q x)
multiple_sum point x [] (f ∷ fs) h = absurd h
multiple_sum point x (e ∷ es) [] h = absurd h
multiple_sum point x (e ∷ es) (f ∷ fs) h =
    ap₂ (λ v (j : ℕ). v *ℚ value_at point j +ℚ sum_at point fs) h.0.1 h.0.0
    ∙ ap (λ s. (x *ℚ rational e.value) *ℚ value_at point e.column +ℚ s)
    (multiple_sum point x es fs h.1)
    ∙ scaled_step x (rational e.value) (value_at point e.column) (sum_at point es)

difference_scaled : (f s r : Rational) → f *ℚ s -ℚ f *ℚ r ≡ f *ℚ (s -ℚ r)
difference_scaled f s r = by_ring_q (f ∷ s ∷ r ∷ []) (search ring_q depth 40) refl

-- its surplus is that many times as much
pub multiple_surplus : (point : List Rational) (x : Rational) (es : List Entry) (right : Frac)
    (q : Inequality) → IsMultiple x es right q →
    surplus_at point q ≡ x *ℚ (sum_at point es -ℚ rational right)
multiple_surplus point x es right q h =
    ap₂ (λ a b. a -ℚ b) (multiple_sum point x es q.entries h.entries_are) h.right_is
    ∙ difference_scaled x (sum_at point es) (rational right)

-- ---- rounding up

-- the ceiling of l is minus the floor of -l
pub ceiling_from_floor : (l m : Frac) (n : ℤ) → m.num *ℤ l.den ≡ neg_ℤ l.num *ℤ m.den →
    IsFloor m n → IsCeiling l (neg_ℤ n)
ceiling_from_floor l m n same floor =
    let some : pos 0 <ℤ l.den = l.lowest.positive in
    let low : (n *ℤ l.den) ≤ℤ (neg_ℤ l.num) =
    mul_le_cancel_right_z (n *ℤ l.den) (neg_ℤ l.num) m.den m.lowest.positive
    (subst₂ (λ (a b : ℤ). a ≤ℤ b) (swap_last_z n m.den l.den) same
    (mul_le_mul_right_z (n *ℤ m.den) m.num l.den (omega (arith, ints)) floor.at_most)) in
    let high : (neg_ℤ l.num) <ℤ ((n +ℤ pos 1) *ℤ l.den) =
    mul_lt_cancel_right_z (neg_ℤ l.num) ((n +ℤ pos 1) *ℤ l.den) m.den m.lowest.positive
    (subst₂ (λ (a b : ℤ). a <ℤ b) same (swap_last_z (n +ℤ pos 1) m.den l.den)
    (mul_lt_mul_right_z m.num ((n +ℤ pos 1) *ℤ m.den) l.den l.lowest.positive floor.next_above)) in
    let next = add_mul_z n (pos 1) l.den in
    let before = sub_mul_z (neg_ℤ n) (pos 1) l.den in
    let turned = neg_mul_z n l.den in
    record { at_least = omega (arith, ints); before_below = omega (arith, ints) }

-- ---- the right side over all columns

pub right_begun : (r : Rational) (ps : List Piece) → ps ≡ [] → r ≡ r +ℚ pieces_at [] ps
right_begun r ps none = add_zero_q r ∙ ap (λ (qs : List Piece). r +ℚ pieces_at [] qs) (sym none)

pub put_back : (x p : Rational) → x ≡ (x -ℚ p) +ℚ p
put_back x p = by_ring_q (x ∷ p ∷ []) (search ring_q depth 30) refl

forth : (r p : Rational) → (r +ℚ p) -ℚ p ≡ r
forth r p = by_ring_q (r ∷ p ∷ []) (search ring_q depth 30) refl

pub right_more : (r old new : Rational) (ps qs : List Piece) → old ≡ r +ℚ pieces_at [] ps →
    new -ℚ pieces_at [] qs ≡ old -ℚ pieces_at [] ps → new ≡ r +ℚ pieces_at [] qs
right_more r old new ps qs old_is kept =
    put_back new (pieces_at [] qs)
    ∙ ap (λ w. w +ℚ pieces_at [] qs) (kept ∙ ap (λ w. w -ℚ pieces_at [] ps) old_is
    ∙ forth r (pieces_at [] ps))
