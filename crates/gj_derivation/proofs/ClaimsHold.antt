-- The claims of a derivation hold.
use Rattle.std.proofs.Common.{◌≡◌, ⊎_elim, ℕ, zero, suc, Bool, true, false, Option, Some, None, IfSome, IsTrue, List, [], ◌∷◌, get_or, length, map, All, pos, negsuc, ◌≤ℤ◌, ◌<ℤ◌, refl, sym, ap, ap₂, subst, ◌∙◌, arith, rules}
use Rattle.std.specs.List.{AllZip}
use Rattle.std.proofs.lemmas.Int.{ints}
use Rattle.std.proofs.lemmas.List.{get_or-map}
use Rattle.std.proofs.lemmas.List.Elements.{All-nil, All-cons, All-head, All-tail, All-push, All-weaker}
use Rattle.gj_frac.specs.declared.Frac.{Frac}
use Rattle.gj_frac.specs.Fraction.{numerator}
use Rattle.gj_fields.specs.Rational.{Rational, whole, rational, ◌+ℚ◌, ◌*ℚ◌, neg_ℚ, ◌-ℚ◌, ◌≤ℚ◌, IsWholeNumber}
use Rattle.gj_fields.proofs.RationalLaws.{zero_mul_q}
use Rattle.gj_fields.proofs.RationalOrder.{IsNonnegativeQ, nonnegative_whole, nonnegative_add, nonnegative_mul, difference_nonnegative, at_most_from_difference, at_most_trans, at_most_turned}
use Rattle.gj_fields.proofs.RationalRing.{by_ring_q, ring_q}
use Rattle.gj_problem.specs.declared.problem.Column.{Column}
use Rattle.gj_problem.specs.declared.problem.Constraint.{Constraint}
use Rattle.gj_problem.specs.declared.problem.Inequality.{Inequality}
use Rattle.gj_problem.specs.declared.problem.Problem.{Problem}
use Rattle.gj_problem.specs.declared.problem.Sense.{Sense}
use Rattle.gj_problem.specs.declared.problem.Sense.TheVariants.{AtMost, AtLeast, Equal}
use Rattle.gj_problem.specs.Problems.{sum_at, Meets, MeetsColumn, MeetsConstraint, IsFeasible, Holds, IsConstraint}
use Rattle.gj_problem.specs.Rows.{IsSignFor}
use Rattle.gj_problem.specs.Moves.{IsBelowOnGrid, IsMovedBy, HasLower, HasUpper, AreMovedBy}
use Rattle.gj_problem.proofs.TurnedColumns.{lower_rounded, upper_rounded}
use Rattle.gj_problem.proofs.HeldInequalities.{constraint_at, whole_sum, whole_product, if_some, move_low, no_change, change_step}
use Rattle.gj_rule.specs.declared.kind.RuleKind.TheVariants.{Table}
use Rattle.gj_shape.specs.FunctionData.{FunctionData}
use Rattle.gj_safe_cut.specs.SafeCuts.{SafeCutHolds}
use Rattle.gj_safe_cut.specs.declared.cut.SafeCut.{SafeCut}
use Rattle.gj_safe_cut.specs.declared.cut.SafeCut.TheVariants.{Cut}
use Rattle.gj_safe_cut.proofs.HeldCuts.{holds_by_gmic, holds_by_rule}
use Rattle.gj_derivation.specs.declared.step.Combination.{Combination}
use Rattle.gj_derivation.specs.declared.step.Multiplier.{Multiplier}
use Rattle.gj_derivation.specs.declared.step.Step.{Step}
use Rattle.gj_derivation.specs.declared.step.StepRule.{StepRule}
use Rattle.gj_derivation.specs.declared.step.StepRule.TheVariants.{Linear, Gmic, Function}
use Rattle.gj_derivation.specs.Derivations.{Line, coefficient_in, line_of, coefficient_at, added, times, IsSigned, AreSigned, IsCutBy, IsUsable, IsBaseBy, IsBase, IsWholeTerm, AreWholeTerms, IsRightFor, IsShown, Follows, with_claim, IsDerivation}
use Rattle.gj_derivation.proofs.ColumnSums.{column_sum, line_at, column_sum_zero, column_sum_more, column_sum_times, sum_by_columns}

-- ---- bounds of columns

above_lower : (c : Column) (x : Rational) (b : Frac) → MeetsColumn c x → HasLower c b →
    IsNonnegativeQ (x -ℚ rational b)
above_lower c x b meets (l, is, rounded) =
    lower_rounded c.is_whole l b x rounded meets.is_whole
    (difference_nonnegative (rational l) x (if_some (λ l. rational l ≤ℚ x) c.lower l is
    meets.lower))

below_upper : (c : Column) (x : Rational) (b : Frac) → MeetsColumn c x → HasUpper c b →
    IsNonnegativeQ (rational b -ℚ x)
below_upper c x b meets (u, is, rounded) =
    upper_rounded c.is_whole u b x rounded meets.is_whole
    (difference_nonnegative x (rational u) (if_some (λ u. x ≤ℚ rational u) c.upper u is
    meets.upper))

-- ---- moved coefficients

column_low : (c : Column) (v x y shift : Rational) → MeetsColumn c v →
    IsMovedBy (HasLower c) (HasUpper c) x y shift →
    IsNonnegativeQ ((y -ℚ x) *ℚ v -ℚ shift)
column_low c v x y shift meets =
    move_low (HasLower c) (HasUpper c) x y shift v (λ b. above_lower c v b meets)
    (λ b. below_upper c v b meets)

pub moves_low : (columns : List Column) (point : List Rational) (xs ys : ℕ → Rational)
    (total : Rational) → AllZip MeetsColumn columns point →
    AreMovedBy columns xs ys total → IsNonnegativeQ ((column_sum point ys -ℚ column_sum point xs) -ℚ
    total)
moves_low [] [] xs ys total meets h =
    subst IsNonnegativeQ (no_change ∙ ap (λ w. (whole (pos 0) -ℚ whole (pos 0)) -ℚ w) (sym h))
    (nonnegative_whole (pos 0) (omega (arith, ints)))
moves_low [] (v ∷ point) xs ys total meets h = absurd meets
moves_low (c ∷ columns) [] xs ys total meets h = absurd meets
moves_low (c ∷ columns) (v ∷ point) xs ys total meets (shift, rest, moved, more, total_is) =
    let f = column_sum point (λ j. xs (suc j)) in
    let g = column_sum point (λ j. ys (suc j)) in
    subst IsNonnegativeQ
    (change_step (xs zero) (ys zero) v shift f g rest
    ∙ ap (λ w. ((ys zero *ℚ v +ℚ g) -ℚ (xs zero *ℚ v +ℚ f)) -ℚ w) (sym total_is))
    (nonnegative_add _ _ (column_low c v (xs zero) (ys zero) shift meets.0 moved)
    (moves_low columns point (λ j. xs (suc j)) (λ j. ys (suc j)) rest meets.1 more))

-- ---- sums of constraints

pub at_most_zero : (m : Frac) → numerator m ≤ℤ pos 0 → rational m ≤ℚ whole (pos 0)
unfolding whole
at_most_zero m h = record { crosswise = omega (arith, ints) }

turned : (m s r : Rational) → (whole (pos 0) -ℚ m) *ℚ (r -ℚ s) ≡ m *ℚ (s -ℚ r)
turned m s r = by_ring_q (m ∷ s ∷ r ∷ []) (search ring_q depth 40) refl

met : (m r : Rational) → whole (pos 0) ≡ m *ℚ (r -ℚ r)
met m r = by_ring_q (m ∷ r ∷ []) (search ring_q depth 40) refl

signed_low : (sense : Sense) (m : Frac) (s r : Rational) → IsSignFor sense (numerator m) →
    Meets sense s r →
    IsNonnegativeQ (rational m *ℚ (s -ℚ r))
signed_low AtLeast m s r sign meets = nonnegative_mul (rational m) (s -ℚ r) (record { low = sign })
    (difference_nonnegative r s meets)
signed_low AtMost m s r sign meets =
    subst IsNonnegativeQ (turned (rational m) s r)
    (nonnegative_mul (whole (pos 0) -ℚ rational m) (r -ℚ s)
    (difference_nonnegative (rational m) (whole (pos 0)) (at_most_zero m sign))
    (difference_nonnegative s r meets))
signed_low Equal m s r sign meets =
    subst IsNonnegativeQ (met (rational m) r ∙ ap (λ w. rational m *ℚ (w -ℚ r)) (sym meets))
    (nonnegative_whole (pos 0) (omega (arith, ints)))

pub in_constraint : {A : Type 0} (f : Constraint → A) (p : Problem) (i : ℕ) (c : Constraint)
    (d : A) → IsConstraint p i c →
    get_or (map f p.constraints) i d ≡ f c
in_constraint f p i c d is = get_or-map f p.constraints i c d is.below ∙ ap f is.is

sum_of_constraint : (p : Problem) (point : List Rational) (i : ℕ) (c : Constraint) →
    IsConstraint p i c →
    column_sum point (coefficient_at p i) ≡ sum_at point c.entries
sum_of_constraint p point i c is =
    let same : coefficient_at p i ≡ coefficient_in c.entries =
    λ k j. in_constraint (λ (d : Constraint). coefficient_in d.entries j) p i c (whole (pos 0)) is k
    in
    ap (column_sum point) same ∙ sym (sum_by_columns point c.entries)

one_added : (m a r f t : Rational) → m *ℚ (a -ℚ r) +ℚ (f -ℚ t) ≡ (m *ℚ a +ℚ f) -ℚ (m *ℚ r +ℚ t)
one_added m a r f t = by_ring_q (m ∷ a ∷ r ∷ f ∷ t ∷ []) (search ring_q depth 60 fits 3000) refl

none_added : whole (pos 0) ≡ whole (pos 0) -ℚ whole (pos 0)
none_added = by_ring_q [] (search ring_q depth 40) refl

added_low : (p : Problem) (point : List Rational) (ms : List Multiplier) → IsFeasible p point →
    AreSigned Linear p ms →
    IsNonnegativeQ (line_at point (added p ms))
added_low p point [] feasible signs =
    subst IsNonnegativeQ (none_added ∙ ap (λ w. w -ℚ whole (pos 0)) (sym (column_sum_zero point)))
    (nonnegative_whole (pos 0) (omega (arith, ints)))
added_low p point (m ∷ ms) feasible signs =
    let Signed = IsSigned Linear p in
    let (c, is, sign) = All-head Signed m ms signs in
    let f = column_sum point (added p ms).coefficient in
    let here : IsNonnegativeQ (rational m.value *ℚ (sum_at point c.entries -ℚ rational c.right)) =
    signed_low c.sense m.value (sum_at point c.entries) (rational c.right) sign
    (constraint_at p point m.line c is feasible) in
    subst IsNonnegativeQ
    (one_added (rational m.value) (sum_at point c.entries) (rational c.right) f (added p ms).right
    ∙ ap₂ (λ v w. (rational m.value *ℚ v +ℚ f) -ℚ (rational m.value *ℚ w +ℚ (added p ms).right))
    (sym (sum_of_constraint p point m.line c is))
    (sym (in_constraint (λ (d : Constraint). rational d.right) p m.line c (whole (pos 0)) is))
    ∙ ap (λ w. w -ℚ (added p (m ∷ ms)).right)
    (sym (column_sum_more point (rational m.value) (coefficient_at p m.line)
    (added p ms).coefficient)))
    (nonnegative_add _ _ here (added_low p point ms feasible (All-tail Signed m ms signs)))

-- ---- bases

held_low : (p : Problem) (q : Inequality) (point : List Rational) → Holds p q → IsFeasible p point →
    IsNonnegativeQ (line_at point (line_of q))
held_low p q point holds feasible =
    subst IsNonnegativeQ (ap (λ w. w -ℚ rational q.right) (sum_by_columns point q.entries))
    (difference_nonnegative (rational q.right) (sum_at point q.entries) (holds point feasible))

cut_holds : (rule : StepRule) (f : Option FunctionData) (p : Problem) (ms : List Frac)
    (ups : List Bool) (cut : SafeCut) → IfSome f IsUsable →
    length ups ≡ length p.columns → IsCutBy rule f p ms ups cut → SafeCutHolds p cut
cut_holds Linear f p ms ups cut usable count h = absurd h
cut_holds Gmic f p ms ups cut usable count h = holds_by_gmic p ms ups cut count h
cut_holds Function (Some f) p ms ups cut usable count (up, down, slopes, h) =
    holds_by_rule (Table f) up down p ms ups cut count (λ q is. usable.bounds) usable.minimal
    (usable.continuous, slopes) h
cut_holds Function None p ms ups cut usable count h = absurd h

base_by_low : (rule : StepRule) (f : Option FunctionData) (p : Problem) (c : Combination)
    (base : Line) (point : List Rational) → IfSome f IsUsable →
    AreSigned rule p c.multipliers → IsBaseBy rule f p c base → IsFeasible p point →
    IsNonnegativeQ (line_at point base)
base_by_low Linear f p c base point usable signed h feasible =
    subst (λ (l : Line). IsNonnegativeQ (line_at point l)) (sym h)
    (added_low p point c.multipliers feasible signed)
base_by_low Gmic f p c base point usable signed (q, k, is) feasible =
    subst (λ (l : Line). IsNonnegativeQ (line_at point l)) (sym is)
    (held_low p q point (cut_holds c.rule f p k.multipliers k.at_upper (Cut q) usable
    k.at_upper_are.count k.cut_is) feasible)
base_by_low Function f p c base point usable signed (q, k, is) feasible =
    subst (λ (l : Line). IsNonnegativeQ (line_at point l)) (sym is)
    (held_low p q point (cut_holds c.rule f p k.multipliers k.at_upper (Cut q) usable
    k.at_upper_are.count k.cut_is) feasible)

base_low : (f : Option FunctionData) (p : Problem) (c : Combination) (base : Line)
    (point : List Rational) → IfSome f IsUsable →
    IsBase f p c base → IsFeasible p point → IsNonnegativeQ (line_at point base)
base_low f p c base point usable h feasible = base_by_low c.rule f p c base point usable h.0 h.1
    feasible

-- ---- rounding up

whole_term : (b : Bool) (y v : Rational) → (IsTrue b → IsWholeNumber v) → IsWholeTerm b y →
    IsWholeNumber (y *ℚ v)
whole_term true y v is_whole h = whole_product y v h (is_whole (search rules))
whole_term false y v is_whole h = (pos 0, ap (λ w. w *ℚ v) h ∙ zero_mul_q v)

whole_by_columns : (columns : List Column) (point : List Rational) (ys : ℕ → Rational) →
    AllZip MeetsColumn columns point →
    AreWholeTerms columns ys → IsWholeNumber (column_sum point ys)
whole_by_columns [] [] ys meets h = (pos 0, refl)
whole_by_columns [] (v ∷ point) ys meets h = absurd meets
whole_by_columns (c ∷ columns) [] ys meets h = absurd meets
whole_by_columns (c ∷ columns) (v ∷ point) ys meets h =
    whole_sum (ys zero *ℚ v) (column_sum point (λ j. ys (suc j)))
    (whole_term c.is_whole (ys zero) v meets.0.is_whole h.0)
    (whole_by_columns columns point (λ j. ys (suc j)) meets.1 h.1)

negated_difference : (x y : Rational) → y -ℚ x ≡ neg_ℚ x -ℚ neg_ℚ y
negated_difference x y = by_ring_q (x ∷ y ∷ []) (search ring_q depth 40) refl

pub at_most_negated : (x y : Rational) → x ≤ℚ y → neg_ℚ y ≤ℚ neg_ℚ x
at_most_negated x y h =
    at_most_from_difference (neg_ℚ y) (neg_ℚ x) (subst IsNonnegativeQ (negated_difference x y)
    (difference_nonnegative x y h))

-- a whole number that is at least x is at least x rounded up
pub rounded_up_low : (x y z : Rational) → IsBelowOnGrid 1 (neg_ℚ x) (neg_ℚ y) → IsWholeNumber z →
    x ≤ℚ z → y ≤ℚ z
rounded_up_low x y z rounded is_whole h =
    at_most_turned y z
    (rounded.greatest (neg_ℚ z)
    (whole_product (whole (pos 1)) (neg_ℚ z) (pos 1, refl)
    (whole_product (whole (negsuc 0)) z (negsuc 0, refl) is_whole))
    (at_most_negated x z h))

right_low : (Whole : Type 0) (x y sum : Rational) → IsRightFor Whole x y →
    (Whole → IsWholeNumber sum) → x ≤ℚ sum → y ≤ℚ sum
right_low Whole x y sum h is_whole low =
    ⊎_elim (λ (k : Whole × IsBelowOnGrid 1 (neg_ℚ x) (neg_ℚ y)). rounded_up_low x y sum k.1
    (is_whole k.0) low)
    (λ (k : (Whole → ⊥) × (y ≡ x)). subst (λ w. w ≤ℚ sum) (sym k.1) low) h

-- ---- steps

shown_sum : (y f x t r : Rational) → ((y -ℚ f *ℚ x) -ℚ t) +ℚ f *ℚ (x -ℚ r) ≡ y -ℚ (f *ℚ r +ℚ t)
shown_sum y f x t r = by_ring_q (y ∷ f ∷ x ∷ t ∷ r ∷ []) (search ring_q depth 60 fits 3000) refl

positive_low : (f : Frac) → pos 0 <ℤ numerator f → IsNonnegativeQ (rational f)
positive_low f h = record { low = omega (arith, ints) }

shown_low : (f : Option FunctionData) (p : Problem) (s : Step) (right : Rational)
    (point : List Rational) → IfSome f IsUsable →
    IsShown f p s right → IsFeasible p point → right ≤ℚ sum_at point s.claim.entries
shown_low f p s right point usable h feasible =
    let factor = s.combination.factor in
    let a = rational factor in
    let shift = h.right_is.shift in
    let ys = coefficient_in s.claim.entries in
    let x = column_sum point h.base.coefficient in
    let moved : IsNonnegativeQ ((column_sum point ys -ℚ a *ℚ x) -ℚ shift) =
    subst (λ w. IsNonnegativeQ ((column_sum point ys -ℚ w) -ℚ shift))
    (column_sum_times point a h.base.coefficient)
    (moves_low p.columns point (times factor h.base) ys shift feasible.columns h.right_is.moved) in
    let times_low : IsNonnegativeQ (a *ℚ (x -ℚ h.base.right)) =
    nonnegative_mul a (x -ℚ h.base.right) (positive_low factor h.factor_positive)
    (base_low f p s.combination h.base point usable h.base_is feasible) in
    let low : (a *ℚ h.base.right +ℚ shift) ≤ℚ column_sum point ys =
    at_most_from_difference _ _ (subst IsNonnegativeQ (shown_sum (column_sum point ys) a x shift
    h.base.right) (nonnegative_add _ _ moved times_low)) in
    subst (λ w. right ≤ℚ w) (sym (sum_by_columns point s.claim.entries))
    (right_low (AreWholeTerms p.columns ys) (a *ℚ h.base.right +ℚ shift) right (column_sum point ys)
    h.right_is.right_is
    (whole_by_columns p.columns point ys feasible.columns) low)

pub claim_holds : (f : Option FunctionData) (p : Problem) (s : Step) → IfSome f IsUsable →
    Follows f p s → Holds p s.claim
claim_holds f p s usable (right, shown, below) point feasible =
    at_most_trans (rational s.claim.right) right (sum_at point s.claim.entries) below
    (shown_low f p s right point usable shown feasible)

-- ---- derivations

without_claim : (p : Problem) (q r : Inequality) → Holds p q → Holds (with_claim p q) r → Holds p r
without_claim p q r holds h point feasible =
    let claimed : Constraint = record { entries = q.entries; sense = AtLeast; right = q.right } in
    h point (record {
      columns = feasible.columns;
      constraints = All-push (MeetsConstraint point) p.constraints claimed feasible.constraints
          (holds point feasible);
    })

pub claims_hold : (f : Option FunctionData) (p : Problem) (steps : List Step) → IfSome f IsUsable →
    IsDerivation f p steps →
    All (λ s. Holds p s.claim) steps
claims_hold f p [] usable h = All-nil (λ s. Holds p s.claim)
claims_hold f p (s ∷ steps) usable h =
    let holds = claim_holds f p s usable h.0 in
    All-cons (λ s. Holds p s.claim) s steps holds
    (All-weaker (λ t. Holds (with_claim p s.claim) t.claim) (λ t. Holds p t.claim)
    (λ t. without_claim p s.claim t.claim holds) steps
    (claims_hold f (with_claim p s.claim) steps usable h.1))
