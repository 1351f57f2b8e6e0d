-- Entries in the order of their columns, none of them 0, are one list by what they add up to.
use Rattle.std.proofs.Common.{◌≡◌, ◌≢◌, ⊎_elim, ℕ, zero, suc, ◌+◌, ◌<◌, ◌≤◌, List, [], ◌∷◌, pos, refl, sym, ap, ap₂, subst, ◌∙◌, arith}
use Rattle.std.proofs.lemmas.Bool.{cases_order}
use Rattle.gj_frac.specs.declared.Frac.{Frac}
use Rattle.gj_frac.specs.Fraction.{numerator}
use Rattle.gj_fields.specs.Rational.{Rational, whole, rational, ◌+ℚ◌, ◌*ℚ◌, ◌-ℚ◌}
use Rattle.gj_fields.proofs.RationalRing.{by_ring_q, ring_q}
use Rattle.gj_problem.specs.declared.problem.Entry.{Entry}
use Rattle.gj_problem.specs.declared.problem.Inequality.{Inequality}
use Rattle.gj_problem.specs.Problems.{value_at, sum_at, surplus_at, AreTermsWithin}
use Rattle.gj_problem.proofs.OneColumn.{nothing_value, nothing_sum, put_back}
use Rattle.gj_problem.proofs.OneRow.{rational_injective, same_entry, one_time, no_time}

-- the point that is 1 in one column and 0 in all others
at_column : ℕ → List Rational
at_column zero = whole (pos 1) ∷ []
at_column (suc j) = whole (pos 0) ∷ at_column j

one_there : (j : ℕ) → value_at (at_column j) j ≡ whole (pos 1)
unfolding at_column
one_there zero = refl
one_there (suc j) = one_there j

none_later : (j i : ℕ) → j < i → value_at (at_column j) i ≡ whole (pos 0)
unfolding at_column
none_later zero zero h = absurd (omega arith)
none_later zero (suc i) h = nothing_value i
none_later (suc j) zero h = absurd (omega arith)
none_later (suc j) (suc i) h = none_later j i (omega arith)

sum_later : (j n : ℕ) (es : List Entry) → AreTermsWithin (j + 1) n es →
    sum_at (at_column j) es ≡ whole (pos 0)
sum_later j n [] h = refl
sum_later j n (e ∷ es) h =
    ap₂ (λ v w. rational e.value *ℚ v +ℚ w) (none_later j e.column (omega (arith, h.0)))
    (sum_later j n es (later (e.column + 1) (omega (arith, h.0)) es h.2))
    ∙ no_time (rational e.value) (whole (pos 0))
  where
    later : (i : ℕ) → j + 1 ≤ i → (fs : List Entry) → AreTermsWithin i n fs →
        AreTermsWithin (j + 1) n fs
    later i low [] k = omega (arith, k)
    later i low (f ∷ fs) k = (omega (arith, k.0), k.1, k.2)

sum_here : (n : ℕ) (e : Entry) (es : List Entry) → AreTermsWithin (e.column + 1) n es →
    sum_at (at_column e.column) (e ∷ es) ≡ rational e.value
sum_here n e es h =
    ap₂ (λ v w. rational e.value *ℚ v +ℚ w) (one_there e.column) (sum_later e.column n es h)
    ∙ one_time (rational e.value)

not_zero : (x : Frac) → numerator x ≢ pos 0 → rational x ≡ whole (pos 0) → ⊥
unfolding whole
not_zero x some e = some (ap (λ (q : Rational). q.top) e)

-- a first entry is seen at its column, if the others have none there
seen : (n : ℕ) (e : Entry) (es fs : List Entry) → numerator e.value ≢ pos 0 →
    AreTermsWithin (e.column + 1) n es →
    AreTermsWithin (e.column + 1) n fs →
    ((point : List Rational) → sum_at point (e ∷ es) ≡ sum_at point fs) → ⊥
seen n e es fs some h k same =
    not_zero e.value some (sym (sum_here n e es h) ∙ same (at_column e.column)
    ∙ sum_later e.column n fs k)

none_left : (n : ℕ) (e : Entry) (es : List Entry) → AreTermsWithin (e.column + 1) n es →
    AreTermsWithin (e.column + 1) n []
none_left n e [] h = h
none_left n e (f ∷ fs) h = let rest = none_left n f fs h.2 in omega (arith, h.0, rest)

cancel_first : (v a b : Rational) → v +ℚ a ≡ v +ℚ b → a ≡ b
cancel_first v a b e = taken v a ∙ ap (λ w. w -ℚ v) e ∙ sym (taken v b)
  where
    taken : (v a : Rational) → a ≡ (v +ℚ a) -ℚ v
    taken v a = by_ring_q (v ∷ a ∷ []) (search ring_q depth 40) refl

pub one_terms : (j n : ℕ) (es fs : List Entry) → AreTermsWithin j n es → AreTermsWithin j n fs →
    ((point : List Rational) → sum_at point es ≡ sum_at point fs) → es ≡ fs
one_terms j n [] [] h k same = refl
one_terms j n [] (f ∷ fs) h k same =
    absurd (seen n f fs [] k.1 k.2 (none_left n f fs k.2) (λ point. sym (same point)))
one_terms j n (e ∷ es) [] h k same = absurd (seen n e es [] h.1 h.2 (none_left n e es h.2) same)
one_terms j n (e ∷ es) (f ∷ fs) h k same =
    ⊎_elim
    (λ (at : e.column ≡ f.column).
    let value : rational e.value ≡ rational f.value =
    sym (sum_here n e es h.2) ∙ same (at_column e.column)
    ∙ ap (λ (i : ℕ). sum_at (at_column i) (f ∷ fs)) at ∙ sum_here n f fs k.2 in
    let first : e ≡ f = same_entry e f at value in
    ap₂ (λ (d : Entry) (ds : List Entry). d ∷ ds) first
    (one_terms (e.column + 1) n es fs h.2
    (subst (λ (i : ℕ). AreTermsWithin (i + 1) n fs) (sym at) k.2)
    (λ point. cancel_first (rational f.value *ℚ value_at point f.column) (sum_at point es)
    (sum_at point fs)
    (ap (λ (d : Entry). rational d.value *ℚ value_at point d.column +ℚ sum_at point es) (sym first)
    ∙ same point))))
    (⊎_elim
    (λ (low : e.column < f.column). absurd
    (seen n e es (f ∷ fs) h.1 h.2 (omega arith, k.1, k.2) same))
    (λ (high : f.column < e.column). absurd
    (seen n f fs (e ∷ es) k.1 k.2 (omega arith, h.1, h.2) (λ point. sym (same point)))))
    (cases_order e.column f.column)

right_from : (r : Rational) → r ≡ whole (pos 0) -ℚ (whole (pos 0) -ℚ r)
right_from r = by_ring_q (r ∷ []) (search ring_q depth 40) refl

right_at : (q : Inequality) → rational q.right ≡ whole (pos 0) -ℚ surplus_at [] q
right_at q = right_from (rational q.right) ∙ ap (λ w. whole (pos 0) -ℚ (w -ℚ rational q.right))
    (sym (nothing_sum q.entries))

-- so is an inequality by its surplus
pub one_inequality : (n : ℕ) (q r : Inequality) → AreTermsWithin 0 n q.entries →
    AreTermsWithin 0 n r.entries →
    ((point : List Rational) → surplus_at point q ≡ surplus_at point r) → q ≡ r
one_inequality n q r h k same =
    let right : rational q.right ≡ rational r.right = right_at q
    ∙ ap (λ w. whole (pos 0) -ℚ w) (same []) ∙ sym (right_at r) in
    let entries : q.entries ≡ r.entries =
    one_terms 0 n q.entries r.entries h k
    (λ point. put_back (sum_at point q.entries) (rational q.right)
    ∙ ap₂ (λ v w. v +ℚ w) (same point) right
    ∙ sym (put_back (sum_at point r.entries) (rational r.right))) in
    let rights : q.right ≡ r.right = rational_injective q.right r.right right in
    λ i. record { entries = entries i; right = rights i }
