-- Sums over all columns, with multiples of entries and inequalities added.
use Rattle.std.proofs.Common.{◌≡◌, ◌≢◌, unsigned_abs, ℕ, zero, suc, ◌+◌, ◌<◌, ◌≤◌, Option, Some, Result, Ok, Err, IfOk, List, [], ◌∷◌, ◌++◌, length, get_or, take, replicate, add-one, ℤ, pos, negsuc, ◌*ℤ◌, ◌+ℤ◌, neg_ℤ, refl, sym, ap, ap₂, ◌∙◌, arith}
use Rattle.std.proofs.lemmas.Int.{ints}
use Rattle.std.proofs.lemmas.List.{take_more, take_all}
use Rattle.std.specs.Prelude.{slice_set}
use Rattle.std.specs.Result.{result_ok}
use Rattle.gj_frac.specs.declared.Frac.{Frac}
use Rattle.gj_frac.specs.Fraction.{SameValue, fraction_of, sum_of, product_of, quotient_of, negation_of}
use Rattle.gj_frac.proofs.Crosswise.{denominators_some}
use Rattle.gj_lemmas.proofs.Integers.{positive_some_z, mul_cancel_right_z, swap_last_z, one_mul_z}
use Rattle.gj_lemmas.proofs.Ring.{by_ring, ring}
use Rattle.gj_lemmas.proofs.Ratios.{ratio_along}
use Rattle.gj_fields.specs.Rational.{Rational, whole, rational, ◌+ℚ◌, ◌*ℚ◌, neg_ℚ, ◌-ℚ◌}
use Rattle.gj_fields.proofs.RationalLaws.{equal_q, sum_is, product_is, mul_assoc_q, add_assoc_q, add_comm_q, zero_add_q, zero_mul_q}
use Rattle.gj_fields.proofs.RationalRing.{by_ring_q, ring_q}
use Rattle.gj_problem.specs.declared.problem.Entry.{Entry}
use Rattle.gj_problem.specs.Problems.{value_at, sum_at}
use Rattle.gj_problem.specs.Rows.{dot}
use lib.IntN.{zero-*ℤ}

-- what holds of the value of an option holds of it as a result
pub ok_if_some : {T E : Type 0} (r : Result T E) (o : Option T) (Q : T → Type 0) → o ≡ result_ok r →
    ((x : T) → o ≡ Some x → Q x) → IfOk r Q
ok_if_some (Ok x) o Q is h = h x is
ok_if_some (Err e) o Q is h = tt

-- ---- what the code computes, as rational numbers

pub sum_value : (x y z : Frac) →
    SameValue (fraction_of z) (sum_of (fraction_of x) (fraction_of y)) →
    rational z ≡ rational x +ℚ rational y
sum_value x y z h =
    let s = rational x +ℚ rational y in
    equal_q (rational z) s
    (ratio_along z.num z.den (x.num *ℤ y.den +ℤ y.num *ℤ x.den) (x.den *ℤ y.den) s.top s.bottom
    (denominators_some x y) h
    (sym (sum_is (rational x) (rational y))))

pub product_value : (x y z : Frac) →
    SameValue (fraction_of z) (product_of (fraction_of x) (fraction_of y)) →
    rational z ≡ rational x *ℚ rational y
product_value x y z h =
    let s = rational x *ℚ rational y in
    equal_q (rational z) s
    (ratio_along z.num z.den (x.num *ℤ y.num) (x.den *ℤ y.den) s.top s.bottom
    (denominators_some x y) h
    (sym (product_is (rational x) (rational y))))

quotient_cross : (xt xd yt yd zt zd pt pd : ℤ) → zt *ℤ (xd *ℤ yt) ≡ (xt *ℤ yd) *ℤ zd →
    pt *ℤ (yd *ℤ zd) ≡ (yt *ℤ zt) *ℤ pd →
    unsigned_abs (yd *ℤ zd) ≢ 0 → pt *ℤ xd ≡ xt *ℤ pd
quotient_cross xt xd yt yd zt zd pt pd h k some =
    mul_cancel_right_z (pt *ℤ xd) (xt *ℤ pd) (yd *ℤ zd)
    (swap_last_z pt xd (yd *ℤ zd) ∙ ap (λ w. w *ℤ xd) k ∙ first yt zt pd xd ∙ ap (λ w. w *ℤ pd) h
    ∙ second xt yd zd pd)
    some
  where
    first : (yt zt pd xd : ℤ) → ((yt *ℤ zt) *ℤ pd) *ℤ xd ≡ (zt *ℤ (xd *ℤ yt)) *ℤ pd
    first yt zt pd xd = by_ring (yt ∷ zt ∷ pd ∷ xd ∷ []) (search ring depth 40) refl

    second : (xt yd zd pd : ℤ) → ((xt *ℤ yd) *ℤ zd) *ℤ pd ≡ (xt *ℤ pd) *ℤ (yd *ℤ zd)
    second xt yd zd pd = by_ring (xt ∷ yd ∷ zd ∷ pd ∷ []) (search ring depth 40) refl

pub quotient_value : (x y z : Frac) →
    SameValue (fraction_of z) (quotient_of (fraction_of x) (fraction_of y)) →
    rational y *ℚ rational z ≡ rational x
quotient_value x y z h =
    let p = rational y *ℚ rational z in
    equal_q p (rational x)
    (quotient_cross x.num x.den y.num y.den z.num z.den p.top p.bottom h
    (product_is (rational y) (rational z)) (denominators_some y z))

pub multiple_value : (x factor value product z : Frac) →
    SameValue (fraction_of product) (product_of (fraction_of factor) (fraction_of value)) →
    SameValue (fraction_of z) (sum_of (fraction_of x) (fraction_of product)) →
    rational z ≡ rational x +ℚ rational factor *ℚ rational value
multiple_value x factor value product z product_is sum_is =
    sum_value x product z sum_is
    ∙ ap (λ w. rational x +ℚ w) (product_value factor value product product_is)

negation_ratio : (p r x d : ℤ) → p *ℤ (pos 1 *ℤ d) ≡ (negsuc 0 *ℤ x) *ℤ r → p *ℤ d ≡ neg_ℤ x *ℤ r
negation_ratio p r x d k = ap (λ z. p *ℤ z) (sym (one_mul_z d)) ∙ k
    ∙ ap (λ z. z *ℤ r) (omega (arith, ints))

pub negation_value : (x z : Frac) → SameValue (fraction_of z) (negation_of (fraction_of x)) →
    rational z ≡ neg_ℚ (rational x)
unfolding whole
negation_value x z h =
    let n = neg_ℚ (rational x) in
    equal_q (rational z) n
    (ratio_along z.num z.den (neg_ℤ x.num) x.den n.top n.bottom
    (positive_some_z x.den x.lowest.positive) h
    (sym (negation_ratio n.top n.bottom x.num x.den (product_is (whole (negsuc 0)) (rational x)))))

-- ---- one more entry

no_point : (x : Rational) → whole (pos 0) ≡ whole (pos 0) +ℚ x *ℚ whole (pos 0)
no_point x = by_ring_q (x ∷ []) (search ring_q depth 30) refl

set_first : (c x v d : Rational) → (c +ℚ x) *ℚ v +ℚ d ≡ (c *ℚ v +ℚ d) +ℚ x *ℚ v
set_first c x v d = by_ring_q (c ∷ x ∷ v ∷ d ∷ []) (search ring_q depth 30) refl

pub dot_set : (cs : List Frac) (point : List Rational) (j : ℕ) (d e : Frac) (x : Rational) →
    j < length cs →
    rational e ≡ rational (get_or cs j d) +ℚ x →
    dot (slice_set cs j e) point ≡ dot cs point +ℚ x *ℚ value_at point j
dot_set [] point j d e x below is = absurd (omega arith)
dot_set (c ∷ cs) [] zero d e x below is = no_point x
dot_set (c ∷ cs) [] (suc j) d e x below is = no_point x
dot_set (c ∷ cs) (v ∷ point) zero d e x below is =
    ap (λ w. w *ℚ v +ℚ dot cs point) is ∙ set_first (rational c) x v (dot cs point)
dot_set (c ∷ cs) (v ∷ point) (suc j) d e x below is =
    ap (λ w. rational c *ℚ v +ℚ w) (dot_set cs point j d e x (omega arith) is)
    ∙ sym (add_assoc_q (rational c *ℚ v) (dot cs point) (x *ℚ value_at point j))

pub entry_added : (cs : List Frac) (point : List Rational) (j : ℕ) (old e factor value : Frac) →
    j < length cs → old ≡ get_or cs j old →
    rational e ≡ rational old +ℚ rational factor *ℚ rational value →
    dot (slice_set cs j e) point ≡ dot cs point +ℚ rational factor
    *ℚ (rational value *ℚ value_at point j)
entry_added cs point j old e factor value below here sum_is =
    dot_set cs point j old e (rational factor *ℚ rational value) below
    (sum_is ∙ ap (λ (c : Frac). rational c +ℚ rational factor *ℚ rational value) here)
    ∙ ap (λ w. dot cs point +ℚ w)
    (mul_assoc_q (rational factor) (rational value) (value_at point j))

-- ---- more entries

pub last_entry : (x : Rational) → x +ℚ whole (pos 0) ≡ whole (pos 0) +ℚ x
last_entry x = add_comm_q x (whole (pos 0))

pub sum_at_append : (point : List Rational) (es : List Entry) (e : Entry) →
    sum_at point (es ++ e ∷ []) ≡ sum_at point es +ℚ rational e.value *ℚ value_at point e.column
sum_at_append point [] e = last_entry (rational e.value *ℚ value_at point e.column)
sum_at_append point (f ∷ es) e =
    ap (λ w. rational f.value *ℚ value_at point f.column +ℚ w) (sum_at_append point es e)
    ∙ sym (add_assoc_q (rational f.value *ℚ value_at point f.column) (sum_at point es)
    (rational e.value *ℚ value_at point e.column))

next_added : (d f s x : Rational) → (d +ℚ f *ℚ s) +ℚ f *ℚ x ≡ d +ℚ f *ℚ (s +ℚ x)
next_added d f s x = by_ring_q (d ∷ f ∷ s ∷ x ∷ []) (search ring_q depth 30) refl

pub entries_added : (point : List Rational) (es : List Entry) (i : ℕ) (e : Entry)
    (f d now next : Rational) → i < length es →
    e ≡ get_or es i e → now ≡ d +ℚ f *ℚ sum_at point (take i es) →
    next ≡ now +ℚ f *ℚ (rational e.value *ℚ value_at point e.column) →
    next ≡ d +ℚ f *ℚ sum_at point (take (i + 1) es)
entries_added point es i e f d now next below here now_is next_is =
    let x = rational e.value *ℚ value_at point e.column in
    let more : sum_at point (take (i + 1) es) ≡ sum_at point (take i es) +ℚ x =
    ap (sum_at point) (take_more es i e below ∙ ap (λ z. take i es ++ z ∷ []) (sym here))
    ∙ sum_at_append point (take i es) e in
    next_is ∙ ap (λ w. w +ℚ f *ℚ x) now_is ∙ next_added d f (sum_at point (take i es)) x
    ∙ ap (λ w. d +ℚ f *ℚ w) (sym more)

-- ---- an inequality

both_added : (d r f s q : Rational) → (d +ℚ f *ℚ s) -ℚ (r +ℚ f *ℚ q) ≡ (d -ℚ r) +ℚ f *ℚ (s -ℚ q)
both_added d r f s q = by_ring_q (d ∷ r ∷ f ∷ s ∷ q ∷ []) (search ring_q depth 40) refl

pub inequality_added : (d now s : Rational) (old new factor right : Frac) →
    now ≡ d +ℚ rational factor *ℚ s →
    rational new ≡ rational old +ℚ rational factor *ℚ rational right →
    now -ℚ rational new ≡ (d -ℚ rational old) +ℚ rational factor *ℚ (s -ℚ rational right)
inequality_added d now s old new factor right now_is sum_is =
    ap₂ (λ a b. a -ℚ b) now_is sum_is
    ∙ both_added d (rational old) (rational factor) s (rational right)

pub nothing_added : (d f : Rational) → d ≡ d +ℚ f *ℚ whole (pos 0)
nothing_added d f = by_ring_q (d ∷ f ∷ []) (search ring_q depth 30) refl

pub all_added : (d now : Rational) (point : List Rational) (es : List Entry) (i : ℕ)
    (f : Rational) → length es ≤ i →
    now ≡ d +ℚ f *ℚ sum_at point (take i es) → now ≡ d +ℚ f *ℚ sum_at point es
all_added d now point es i f end is = is ∙ ap (λ xs. d +ℚ f *ℚ sum_at point xs) (take_all i es end)

pub add_zero_q : (d : Rational) → d ≡ d +ℚ whole (pos 0)
add_zero_q d = sym (add_comm_q d (whole (pos 0)) ∙ zero_add_q d)

-- ---- the inequality of a sum

pub one_entry : (point : List Rational) (es : List Entry) (e : Entry) (fs : List Entry) →
    fs ≡ es ++ e ∷ [] →
    sum_at point fs ≡ sum_at point es +ℚ rational e.value *ℚ value_at point e.column
one_entry point es e fs is = ap (sum_at point) is ∙ sum_at_append point es e

pub zero_frac : (x : Frac) → x.num ≡ pos 0 → rational x ≡ whole (pos 0)
unfolding whole
zero_frac x none = equal_q (rational x) (whole (pos 0))
    (ap (λ z. z *ℤ pos 1) none ∙ sym (ap (λ z. z) (zero-*ℤ x.den)))

pub no_entry : (point : List Rational) (es fs : List Entry) (e : Entry) → fs ≡ es →
    e.value.num ≡ pos 0 →
    sum_at point fs ≡ sum_at point es +ℚ rational e.value *ℚ value_at point e.column
no_entry point es fs e is none =
    ap (sum_at point) is ∙ add_zero_q (sum_at point es)
    ∙ ap (λ w. sum_at point es +ℚ w)
    (sym (ap (λ w. w *ℚ value_at point e.column) (zero_frac e.value none)
    ∙ zero_mul_q (value_at point e.column)))

first_taken : (c v : Rational) → c *ℚ v +ℚ whole (pos 0) ≡ whole (pos 0) +ℚ c *ℚ v
first_taken c v = add_comm_q (c *ℚ v) (whole (pos 0))

dot_take : (cs : List Frac) (point : List Rational) (i : ℕ) (c : Frac) → i < length cs →
    c ≡ get_or cs i c →
    dot (take (suc i) cs) point ≡ dot (take i cs) point +ℚ rational c *ℚ value_at point i
dot_take [] point i c below here = absurd (omega arith)
dot_take (d ∷ cs) [] zero c below here = no_point (rational c)
dot_take (d ∷ cs) [] (suc i) c below here = no_point (rational c)
dot_take (d ∷ cs) (v ∷ point) zero c below here =
    first_taken (rational d) v ∙ ap (λ (x : Frac). whole (pos 0) +ℚ rational x *ℚ v) (sym here)
dot_take (d ∷ cs) (v ∷ point) (suc i) c below here =
    ap (λ w. rational d *ℚ v +ℚ w) (dot_take cs point i c (omega arith) here)
    ∙ sym (add_assoc_q (rational d *ℚ v) (dot (take i cs) point) (rational c *ℚ value_at point i))

pub next_column : (cs : List Frac) (point : List Rational) (i : ℕ) (c : Frac)
    (now next : Rational) → i < length cs → c ≡ get_or cs i c →
    now ≡ dot (take i cs) point → next ≡ now +ℚ rational c *ℚ value_at point i →
    next ≡ dot (take (i + 1) cs) point
next_column cs point i c now next below here now_is next_is =
    next_is ∙ ap (λ w. w +ℚ rational c *ℚ value_at point i) now_is
    ∙ sym (dot_take cs point i c below here)
    ∙ ap (λ (k : ℕ). dot (take k cs) point) (sym (add-one i))

pub all_columns : (cs : List Frac) (point : List Rational) (i : ℕ) (es : List Entry)
    (fs : List Entry) (q r : Frac) → length cs ≤ i → fs ≡ es →
    sum_at point es ≡ dot (take i cs) point →
    sum_at point fs -ℚ rational r ≡ dot cs point -ℚ rational r
all_columns cs point i es fs q r end same is =
    ap (λ w. w -ℚ rational r) (ap (sum_at point) same ∙ is
    ∙ ap (λ xs. dot xs point) (take_all i cs end))

-- ---- the beginning

pub whole_ratio : (x : Frac) (n : ℤ) → x.num *ℤ pos 1 ≡ n *ℤ x.den → rational x ≡ whole n
unfolding whole
whole_ratio x n h = equal_q (rational x) (whole n) h

pub zero_step : (v : Rational) → whole (pos 0) *ℚ v +ℚ whole (pos 0) ≡ whole (pos 0)
zero_step v = by_ring_q (v ∷ []) (search ring_q depth 30) refl

pub dot_zero : (n : ℕ) (z : Frac) (point : List Rational) → rational z ≡ whole (pos 0) →
    dot (replicate n z) point ≡ whole (pos 0)
dot_zero zero z point none = refl
dot_zero (suc n) z [] none = refl
dot_zero (suc n) z (v ∷ point) none = ap₂ (λ a b. a *ℚ v +ℚ b) none (dot_zero n z point none)
    ∙ zero_step v

pub zero_minus : whole (pos 0) -ℚ whole (pos 0) ≡ whole (pos 0)
zero_minus = by_ring_q [] (search ring_q depth 30) refl

pub nothing_minus : (d : Rational) (r z : Frac) → d ≡ whole (pos 0) → r ≡ z →
    z.num *ℤ pos 1 ≡ pos 0 *ℤ z.den → d -ℚ rational r ≡ whole (pos 0)
nothing_minus d r z d_is r_is z_is =
    ap₂ (λ a b. a -ℚ b) d_is (ap rational r_is ∙ whole_ratio z (pos 0) z_is) ∙ zero_minus

none_step : (y x : Rational) → y ≡ y +ℚ whole (pos 0) *ℚ x
none_step y x = by_ring_q (y ∷ x ∷ []) (search ring_q depth 30) refl

-- 0 times anything adds nothing
pub none_weighted : (m : Frac) (y x : Rational) → m.num ≡ pos 0 → y ≡ y +ℚ rational m *ℚ x
none_weighted m y x none =
    none_step y x
    ∙ ap (λ w. y +ℚ w *ℚ x) (sym (zero_frac m none))

-- nor does it before a sum
pub none_first : (m : Frac) (x y : Rational) → m.num ≡ pos 0 → y ≡ rational m *ℚ x +ℚ y
none_first m x y none = none_weighted m y x none ∙ add_comm_q y (rational m *ℚ x)
