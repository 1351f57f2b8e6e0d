-- The sums that a check makes.
use Rattle.std.proofs.Common.{◌≡◌, ℕ, zero, suc, ◌+◌, ◌<◌, List, [], ◌∷◌, ◌++◌, length, get_or, take, pos, refl, sym, ap, ap₂, subst, ◌∙◌, arith}
use Rattle.std.proofs.lemmas.List.{take_more}
use Rattle.gj_frac.specs.declared.Frac.{Frac}
use Rattle.gj_fields.specs.Rational.{Rational, whole, rational, ◌+ℚ◌, ◌*ℚ◌, ◌-ℚ◌}
use Rattle.gj_fields.proofs.RationalLaws.{add_assoc_q}
use Rattle.gj_fields.proofs.RationalRing.{by_ring_q, ring_q}
use Rattle.gj_problem.specs.declared.problem.Constraint.{Constraint}
use Rattle.gj_problem.specs.declared.problem.Entry.{Entry}
use Rattle.gj_problem.specs.declared.problem.Problem.{Problem}
use Rattle.gj_problem.specs.declared.sums.Sum.{Sum}
use Rattle.gj_problem.specs.Problems.{sum_at, IsConstraint}
use Rattle.gj_problem.specs.Rows.{dot}
use Rattle.gj_problem.proofs.AddedSums.{last_entry}
use Rattle.gj_problem.proofs.OneColumn.{nothing_sum}
use Rattle.gj_problem.proofs.OneRow.{dot_none, one_time, no_time}
use Rattle.gj_derivation.specs.declared.step.Multiplier.{Multiplier}
use Rattle.gj_derivation.specs.Derivations.{Line, unit, coefficient_in, coefficient_at, right_at, added_coefficient, added_right, added}
use Rattle.gj_derivation.specs.Checks.{IsAdded, IsSumOf, IsSumFor, line_of_sum}
use Rattle.gj_derivation.proofs.ClaimsHold.{in_constraint}

-- ---- coefficients of sums

pub dot_unit : (cs : List Frac) (j : ℕ) (d : Frac) → j < length cs →
    dot cs (unit j) ≡ rational (get_or cs j d)
dot_unit [] j d below = absurd (omega arith)
dot_unit (c ∷ cs) zero d below = ap (λ w. rational c *ℚ whole (pos 1) +ℚ w) (dot_none cs)
    ∙ one_time (rational c)
dot_unit (c ∷ cs) (suc j) d below = no_time (rational c) (dot cs (unit j))
    ∙ dot_unit cs j d (omega arith)

-- ---- one more inequality in a sum

new_right : (s r f q : Rational) → whole (pos 0) -ℚ s ≡ (whole (pos 0) -ℚ r) +ℚ f *ℚ
    (whole (pos 0) -ℚ q) → s ≡ r +ℚ f *ℚ q
new_right s r f q h = first s ∙ ap (λ w. whole (pos 0) -ℚ w) h ∙ second r f q
  where
    first : (s : Rational) → s ≡ whole (pos 0) -ℚ (whole (pos 0) -ℚ s)
    first s = by_ring_q (s ∷ []) (search ring_q depth 40) refl

    second : (r f q : Rational) → whole (pos 0) -ℚ ((whole (pos 0) -ℚ r) +ℚ f *ℚ
        (whole (pos 0) -ℚ q)) ≡ r +ℚ f *ℚ q
    second r f q = by_ring_q (r ∷ f ∷ q ∷ []) (search ring_q depth 60 fits 3000) refl

new_dot : (d e s r f q a : Rational) → d -ℚ s ≡ (e -ℚ r) +ℚ f *ℚ (a -ℚ q) → s ≡ r +ℚ f *ℚ q →
    d ≡ e +ℚ f *ℚ a
new_dot d e s r f q a h s_is = first d s ∙ ap₂ (λ v w. v +ℚ w) h s_is ∙ second e r f q a
  where
    first : (d s : Rational) → d ≡ (d -ℚ s) +ℚ s
    first d s = by_ring_q (d ∷ s ∷ []) (search ring_q depth 40) refl

    second : (e r f q a : Rational) → ((e -ℚ r) +ℚ f *ℚ (a -ℚ q)) +ℚ (r +ℚ f *ℚ q) ≡ e +ℚ f *ℚ a
    second e r f q a = by_ring_q (e ∷ r ∷ f ∷ q ∷ a ∷ []) (search ring_q depth 60 fits 3000) refl

-- the sum with this multiple of an inequality
abbrev pub IsMore : List Frac → List Frac → Frac → Frac → Frac → List Entry → Frac → Type 0
IsMore old new r s f entries q = (point : List Rational) →
    dot new point -ℚ rational s ≡ (dot old point -ℚ rational r) +ℚ rational f *ℚ
    (sum_at point entries -ℚ rational q)

pub more_right : (old new : List Frac) (r s f : Frac) (entries : List Entry) (q : Frac) →
    IsMore old new r s f entries q →
    rational s ≡ rational r +ℚ rational f *ℚ rational q
more_right old new r s f entries q h =
    new_right (rational s) (rational r) (rational f) (rational q)
    (ap (λ w. w -ℚ rational s) (sym (dot_none new)) ∙ h []
    ∙ ap₂ (λ v w. (v -ℚ rational r) +ℚ rational f *ℚ (w -ℚ rational q)) (dot_none old)
    (nothing_sum entries))

pub more_dot : (old new : List Frac) (r s f : Frac) (entries : List Entry) (q : Frac) →
    IsMore old new r s f entries q → (point : List Rational) →
    dot new point ≡ dot old point +ℚ rational f *ℚ sum_at point entries
more_dot old new r s f entries q h point =
    new_dot (dot new point) (dot old point) (rational s) (rational r) (rational f) (rational q)
    (sum_at point entries) (h point)
    (more_right old new r s f entries q h)

-- ---- sums of constraints

pub constraint_added : (p : Problem) (m : Multiplier) (c : Constraint) (old new : Sum) →
    IsConstraint p m.line c →
    IsMore old.coefficients.items new.coefficients.items old.right new.right m.value c.entries
    c.right → IsAdded p m old new
constraint_added p m c old new is h = record {
  right = more_right old.coefficients.items new.coefficients.items old.right new.right m.value
      c.entries c.right h
      ∙ ap (λ w. rational old.right +ℚ rational m.value *ℚ w)
      (sym (in_constraint (λ (d : Constraint). rational d.right) p m.line c (whole (pos 0))
      is));
  coefficients = λ (j : ℕ).
      more_dot old.coefficients.items new.coefficients.items old.right new.right m.value c.entries
      c.right h (unit j)
      ∙ ap (λ w. dot old.coefficients.items (unit j) +ℚ rational m.value *ℚ w)
      (sym (in_constraint (λ (d : Constraint). coefficient_in d.entries j) p m.line c
      (whole (pos 0)) is));
}

added_coefficient_more : (p : Problem) (ms : List Multiplier) (m : Multiplier) (j : ℕ) →
    added_coefficient p (ms ++ m ∷ []) j ≡ added_coefficient p ms j +ℚ rational m.value *ℚ
    coefficient_at p m.line j
added_coefficient_more p [] m j = last_entry (rational m.value *ℚ coefficient_at p m.line j)
added_coefficient_more p (n ∷ ms) m j =
    ap (λ w. rational n.value *ℚ coefficient_at p n.line j +ℚ w) (added_coefficient_more p ms m j)
    ∙ sym (add_assoc_q (rational n.value *ℚ coefficient_at p n.line j) (added_coefficient p ms j)
    (rational m.value *ℚ coefficient_at p m.line j))

added_right_more : (p : Problem) (ms : List Multiplier) (m : Multiplier) →
    added_right p (ms ++ m ∷ []) ≡ added_right p ms +ℚ rational m.value *ℚ right_at p m.line
added_right_more p [] m = last_entry (rational m.value *ℚ right_at p m.line)
added_right_more p (n ∷ ms) m =
    ap (λ w. rational n.value *ℚ right_at p n.line +ℚ w) (added_right_more p ms m)
    ∙ sym (add_assoc_q (rational n.value *ℚ right_at p n.line) (added_right p ms)
    (rational m.value *ℚ right_at p m.line))

sum_pushed : (p : Problem) (ms : List Multiplier) (m : Multiplier) (old new : Sum) →
    IsSumOf p ms old →
    length new.coefficients.items ≡ length old.coefficients.items → IsAdded p m old new →
    IsSumOf p (ms ++ m ∷ []) new
sum_pushed p ms m old new h count added = record {
  count = count ∙ h.count;
  right = added.right ∙ ap (λ w. w +ℚ rational m.value *ℚ right_at p m.line) h.right
      ∙ sym (added_right_more p ms m);
  coefficients = λ (j : ℕ).
      added.coefficients j ∙ ap (λ w. w +ℚ rational m.value *ℚ coefficient_at p m.line j)
      (h.coefficients j)
      ∙ sym (added_coefficient_more p ms m j);
}

pub sum_more : (p : Problem) (ms : List Multiplier) (i : ℕ) (m : Multiplier) (old new : Sum) →
    i < length ms → m ≡ get_or ms i m →
    IsSumOf p (take i ms) old → length new.coefficients.items ≡ length old.coefficients.items →
    IsAdded p m old new →
    IsSumOf p (take (i + 1) ms) new
sum_more p ms i m old new below here h count added =
    let more : take (i + 1) ms ≡ take i ms ++ m ∷ [] =
    take_more ms i m below ∙ ap (λ (z : Multiplier). take i ms ++ z ∷ []) (sym here) in
    subst (λ (ns : List Multiplier). IsSumOf p ns new) (sym more)
    (sum_pushed p (take i ms) m old new h count added)

pub no_sum : (p : Problem) (sum : Sum) → length sum.coefficients.items ≡ length p.columns →
    rational sum.right ≡ whole (pos 0) →
    ((point : List Rational) → dot sum.coefficients.items point ≡ whole (pos 0)) → IsSumOf p [] sum
no_sum p sum count right none = record {
  count = count;
  right = right;
  coefficients = λ (j : ℕ). none (unit j);
}

-- a line by its coefficients
pub line_from_parts : (a b : Line) → ((j : ℕ) → a.coefficient j ≡ b.coefficient j) →
    a.right ≡ b.right → a ≡ b
line_from_parts a b coefficients right = λ i. record {
  coefficient = λ j. coefficients j i;
  right = right i;
}

pub sum_is_added : (p : Problem) (ms : List Multiplier) (sum : Sum) → IsSumOf p ms sum →
    IsSumFor (length p.columns) (added p ms) sum
sum_is_added p ms sum h = record {
  count = h.count;
  same = line_from_parts (line_of_sum sum) (added p ms) h.coefficients h.right;
}

-- ---- terms

claimed_once : (d a : Rational) → d ≡ whole (pos 0) → d +ℚ whole (pos 1) *ℚ a ≡ a
claimed_once d a none = ap (λ w. w +ℚ whole (pos 1) *ℚ a) none ∙ once a
  where
    once : (a : Rational) → whole (pos 0) +ℚ whole (pos 1) *ℚ a ≡ a
    once a = by_ring_q (a ∷ []) (search ring_q depth 40) refl

pub terms_are : (n : ℕ) (old new : Sum) (f : Frac) (entries : List Entry) (q : Frac) →
    length old.coefficients.items ≡ n → length new.coefficients.items ≡ length
    old.coefficients.items →
    IsMore old.coefficients.items new.coefficients.items old.right new.right f entries q →
    ((point : List Rational) → dot old.coefficients.items point ≡ whole (pos 0)) →
    rational old.right ≡ whole (pos 0) → rational f ≡ whole (pos 1) →
    IsSumFor n (record { coefficient = coefficient_in entries; right = rational q }) new
terms_are n old new f entries q count new_count h none right one = record {
  count = new_count ∙ count;
  same = line_from_parts (line_of_sum new) (record {
    coefficient = coefficient_in entries;
    right = rational q;
  })
      (λ (j : ℕ).
      more_dot old.coefficients.items new.coefficients.items old.right new.right f entries q h
      (unit j)
      ∙ ap (λ w. dot old.coefficients.items (unit j) +ℚ w *ℚ coefficient_in entries j) one
      ∙ claimed_once (dot old.coefficients.items (unit j)) (coefficient_in entries j)
      (none (unit j)))
      (more_right old.coefficients.items new.coefficients.items old.right new.right f entries q h
      ∙ ap (λ w. rational old.right +ℚ w *ℚ rational q) one
      ∙ claimed_once (rational old.right) (rational q) right);
}
