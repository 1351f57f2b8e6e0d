-- A step has one base, or one thing that stands against it.
use Rattle.std.proofs.Common.{◌≡◌, ◌⊎◌, inl, inr, ◌↔◌, ℕ, zero, suc, ◌<◌, Bool, false, IsTrue, Contains, Option, Some, None, IfSome, List, [], ◌∷◌, length, get_or, pos, refl, sym, ap, ap₂, subst, subst₂, ◌∙◌, arith}
use Rattle.gj_frac.specs.declared.Frac.{Frac}
use Rattle.gj_shape.specs.FunctionData.{FunctionData}
use Rattle.gj_fields.specs.Rational.{Rational, whole, rational, ◌+ℚ◌, ◌*ℚ◌, ◌-ℚ◌}
use Rattle.gj_problem.proofs.OneColumn.{nothing_sum, put_back}
use Rattle.gj_problem.proofs.OneRow.{rational_injective, dot_none, one_time, no_time, turned_twice}
use Rattle.gj_problem.specs.declared.problem.Inequality.{Inequality}
use Rattle.gj_problem.specs.declared.problem.Problem.{Problem}
use Rattle.gj_problem.specs.Problems.{sum_at, surplus_at}
use Rattle.gj_problem.specs.Rows.{dot}
use Rattle.gj_safe_cut.specs.declared.cut.SafeCut.{SafeCut}
use Rattle.gj_safe_cut.specs.declared.cut.SafeCut.TheVariants.{Cut}
use Rattle.gj_safe_cut.proofs.OneCut.{AreAlike, one_of_gmic, one_of_function}
use Rattle.gj_derivation.specs.declared.step.Combination.{Combination}
use Rattle.gj_derivation.specs.declared.step.Multiplier.{Multiplier}
use Rattle.gj_derivation.specs.declared.step.StepRule.{StepRule}
use Rattle.gj_derivation.specs.declared.step.StepRule.TheVariants.{Linear, Gmic, Function}
use Rattle.gj_derivation.specs.Derivations.{Line, unit, coefficient_in, line_of, AreMultipliers, AreAtUpper, IsUsable, IsUsableFor, IsCutBy, IsCutOf, IsBaseBy, IsBase}
use Rattle.gj_problem.proofs.OnePieces.{one_test}

-- ---- one list of multipliers

pub first_is : (c : Frac) (cs : List Frac) → dot (c ∷ cs) (unit zero) ≡ rational c
first_is c cs = ap (λ w. rational c *ℚ whole (pos 1) +ℚ w) (dot_none cs) ∙ one_time (rational c)

pub later_is : (c : Frac) (cs : List Frac) (i : ℕ) → dot (c ∷ cs) (unit (suc i)) ≡ dot cs (unit i)
later_is c cs i = no_time (rational c) (dot cs (unit i))

pub same_numbers : (cs ds : List Frac) → length cs ≡ length ds →
    ((i : ℕ) → dot cs (unit i) ≡ dot ds (unit i)) → cs ≡ ds
same_numbers [] [] n h = refl
same_numbers [] (d ∷ ds) n h = absurd (omega arith)
same_numbers (c ∷ cs) [] n h = absurd (omega arith)
same_numbers (c ∷ cs) (d ∷ ds) n h =
    ap₂ (λ (x : Frac) (xs : List Frac). x ∷ xs)
    (rational_injective c d (sym (first_is c cs) ∙ h zero ∙ first_is d ds))
    (same_numbers cs ds (omega arith) (λ i. sym (later_is c cs i) ∙ h (suc i) ∙ later_is d ds i))

pub one_multipliers : (p : Problem) (named : List Multiplier) (xs ys : List Frac) →
    AreMultipliers p named xs → AreMultipliers p named ys → xs ≡ ys
one_multipliers p named xs ys h k = same_numbers xs ys (h.count ∙ sym k.count) (λ i. h.are i
    ∙ sym (k.are i))

same_flags : (P : ℕ → Type 0) (us vs : List Bool) → length us ≡ length vs →
    ((j : ℕ) → j < length us → (IsTrue (get_or us j false) ↔ P j)) →
    ((j : ℕ) → j < length us → (IsTrue (get_or vs j false) ↔ P j)) → us ≡ vs
same_flags P [] [] n h k = refl
same_flags P [] (b ∷ vs) n h k = absurd (omega arith)
same_flags P (a ∷ us) [] n h k = absurd (omega arith)
same_flags P (a ∷ us) (b ∷ vs) n h k =
    ap₂ (λ (x : Bool) (xs : List Bool). x ∷ xs)
    (one_test a b (P zero) (h zero (omega arith)) (k zero (omega arith)))
    (same_flags (λ j. P (suc j)) us vs (omega arith) (λ j below. h (suc j) (omega arith))
    (λ j below. k (suc j) (omega arith)))

pub one_at_upper : (p : Problem) (named : List ℕ) (us vs : List Bool) → AreAtUpper p named us →
    AreAtUpper p named vs → us ≡ vs
one_at_upper p named us vs h k =
    let count = h.count in
    same_flags (λ j. Contains named j) us vs (h.count ∙ sym k.count)
    (λ j below. h.are j (omega arith)) (λ j below. k.are j (omega arith))

-- ---- one cut

pub usable_from : (f : Option FunctionData) (rule : StepRule) → IfSome f IsUsable →
    IsUsableFor f rule
usable_from f Linear usable = tt
usable_from f Gmic usable = tt
usable_from f Function usable = usable

cut_by_is_one : (rule : StepRule) (f : Option FunctionData) (p : Problem) (ms : List Frac)
    (ups : List Bool) (cut other : SafeCut) → IsUsableFor f rule →
    IsCutBy rule f p ms ups cut → IsCutBy rule f p ms ups other → AreAlike cut other → cut ≡ other
cut_by_is_one Linear f p ms ups cut other usable h k alike = absurd h
cut_by_is_one Gmic f p ms ups cut other usable h k alike = one_of_gmic p ms ups cut other h k alike
cut_by_is_one Function (Some f) p ms ups cut other usable h k alike =
    one_of_function f p ms ups cut other usable.bounds h k alike
cut_by_is_one Function None p ms ups cut other usable h k alike = absurd h

-- another cut by the multipliers and the bounds of the first
pub cut_at : (f : Option FunctionData) (p : Problem) (c : Combination) (cut other : SafeCut)
    (h : IsCutOf f p c cut) → IsCutOf f p c other →
    IsCutBy c.rule f p h.multipliers h.at_upper other
cut_at f p c cut other h k =
    subst₂ (λ (ms : List Frac) (ups : List Bool). IsCutBy c.rule f p ms ups other)
    (one_multipliers p c.multipliers k.multipliers h.multipliers k.multipliers_are
    h.multipliers_are)
    (one_at_upper p c.at_upper k.at_upper h.at_upper k.at_upper_are h.at_upper_are) k.cut_is

pub cut_is_one : (f : Option FunctionData) (p : Problem) (c : Combination) (cut other : SafeCut) →
    IsUsableFor f c.rule → IsCutOf f p c cut → IsCutOf f p c other → AreAlike cut other →
    cut ≡ other
cut_is_one f p c cut other usable h k alike =
    cut_by_is_one c.rule f p h.multipliers h.at_upper cut other usable h.cut_is
    (cut_at f p c cut other h k) alike

one_cut : (f : Option FunctionData) (p : Problem) (c : Combination) (q r : Inequality) →
    IsUsableFor f c.rule → IsCutOf f p c (Cut q) → IsCutOf f p c (Cut r) → q ≡ r
one_cut f p c q r usable h k =
    let same : Cut q ≡ Cut r = cut_is_one f p c (Cut q) (Cut r) usable h k
    (λ wide. absurd (cc), λ wide. absurd (cc)) in
    cc

-- ---- one line

-- the right side and the coefficients, by what the inequality has above its right side
pub right_of : (q : Inequality) (sum : List Rational → Rational) (r : Rational) →
    sum [] ≡ whole (pos 0) →
    ((point : List Rational) → surplus_at point q ≡ sum point -ℚ r) → rational q.right ≡ r
right_of q sum r none h =
    let at_none : whole (pos 0) -ℚ rational q.right ≡ whole (pos 0) -ℚ r =
    ap (λ w. w -ℚ rational q.right) (sym (nothing_sum q.entries)) ∙ h [] ∙ ap (λ w. w -ℚ r) none in
    turned_twice (rational q.right) ∙ ap (λ w. whole (pos 0) -ℚ w) at_none ∙ sym (turned_twice r)

pub coefficients_of : (q : Inequality) (sum : List Rational → Rational) (r : Rational) →
    sum [] ≡ whole (pos 0) →
    ((point : List Rational) → surplus_at point q ≡ sum point -ℚ r) → (j : ℕ) →
    coefficient_in q.entries j ≡ sum (unit j)
coefficients_of q sum r none h j =
    put_back (sum_at (unit j) q.entries) (rational q.right)
    ∙ ap₂ (λ v w. v +ℚ w) (h (unit j)) (right_of q sum r none h)
    ∙ sym (put_back (sum (unit j)) r)

-- ---- one base

-- a base that is no sum is a cut
pub sum_or_cut : (rule : StepRule) (f : Option FunctionData) (p : Problem) (c : Combination)
    (base : Line) → IsBaseBy rule f p c base →
    (rule ≡ Linear) ⊎ ((q : Inequality) × IsCutOf f p c (Cut q) × (base ≡ line_of q))
sum_or_cut Linear f p c base h = inl refl
sum_or_cut Gmic f p c base h = inr h
sum_or_cut Function f p c base h = inr h

-- a sum is no cut
pub no_cut_of_sum : (f : Option FunctionData) (p : Problem) (c : Combination) (cut : SafeCut) →
    c.rule ≡ Linear → IsCutOf f p c cut → ⊥
no_cut_of_sum f p c cut linear h = subst (λ (rule : StepRule). IsCutBy rule f p h.multipliers
    h.at_upper cut) linear h.cut_is

base_by_is_one : (rule : StepRule) (f : Option FunctionData) (p : Problem) (c : Combination)
    (base other : Line) → IsUsableFor f c.rule →
    IsBaseBy rule f p c base → IsBaseBy rule f p c other → base ≡ other
base_by_is_one Linear f p c base other usable h k = h ∙ sym k
base_by_is_one Gmic f p c base other usable (q, h, is) (r, k, is') =
    is ∙ ap line_of (one_cut f p c q r usable h k) ∙ sym is'
base_by_is_one Function f p c base other usable (q, h, is) (r, k, is') =
    is ∙ ap line_of (one_cut f p c q r usable h k) ∙ sym is'

pub one_base : (f : Option FunctionData) (p : Problem) (c : Combination) (base other : Line) →
    IsUsableFor f c.rule → IsBase f p c base →
    IsBase f p c other → base ≡ other
one_base f p c base other usable h k = base_by_is_one c.rule f p c base other usable h.1 k.1
