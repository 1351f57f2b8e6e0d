-- By lines that meet the rules for cover lines a table has one step on each component.
use Rattle.std.proofs.Common.{◌≡◌, ℕ, ◌+◌, ◌*◌, ◌<◌, ◌==◌, Bool, cond, ℤ, ◌-ℤ◌, List, ◌∷◌, ◌++◌, map, length, get_or, filter, count_by, ap, ap₂, sym, subst, ◌∙◌, arith}
use Rattle.std.proofs.lemmas.Int.{ints}
use Rattle.std.proofs.lemmas.Bool.{eq-eqb}
use Rattle.std.proofs.lemmas.List.{map-append, length-map}
use Rattle.std.proofs.lemmas.List.Elements.{filter-append}
use Rattle.std.proofs.lemmas.List.Sums.{length-filter, sum_by-append, sum_by-cons}
use Rattle.std.proofs.Math.Seq.{get_or-append_seam}
use Rattle.gj_shape.specs.Additive.{IsTight}
use Rattle.gj_shape.specs.Cover.{IsOneOf, triangle_projections, HasComponent, Joins}
use Rattle.gj_shape.specs.Cover.HasComponent.{opened, joined}
use Rattle.gj_shape.specs.FunctionData.{FunctionData, IsContinuous}
use Rattle.gj_shape.specs.declared.extremality.CoverLine.{CoverLine}
use Rattle.gj_shape.specs.declared.faces.FaceKind.{FaceKind}
use Rattle.gj_shape.specs.declared.faces.FaceKind.TheVariants.{Vertex, Horizontal, Vertical, Diagonal, Lower, Upper}
use Rattle.gj_theory.specs.CoverRules.{MeetsCoverRules}
use Rattle.gj_theory.specs.Steps.{HasStepOn, IsAdditiveOnGrid}
use Rattle.gj_theory.proofs.CarriedSteps.{carried_by_edge, given_by_triangle}

-- ---- the first step on an interval

pub first_step : (ℕ → ℤ) → ℕ → ℕ → ℤ
first_step p m i = p (i * m + 0 + 1) -ℤ p (i * m + 0)

-- is the step that it has
pub step_is_first : (p : ℕ → ℤ) (m i : ℕ) (t : ℤ) → 0 < m → HasStepOn p m i t → t ≡ first_step p m i
unfolding first_step
step_is_first p m i t some step = let first = step 0 some in omega (arith, ints)

-- ---- joined intervals

-- among intervals that have one step, the step on one is that on each other
carried_among : (p : ℕ → ℤ) (m q : ℕ) (xs : List ℕ) (i j : ℕ) (t : ℤ) → 0 < m →
    (s : ℤ) × ((k : ℕ) → IsOneOf q xs k → HasStepOn p m k s) → IsOneOf q xs i → IsOneOf q xs j →
    HasStepOn p m j t → HasStepOn p m i t
carried_among p m q xs i j t some steps first second step =
    let same = step_is_first p m j steps.0 some (steps.1 j second)
    ∙ sym (step_is_first p m j t some step) in
    subst (λ (s : ℤ). HasStepOn p m i s) same (steps.1 i first)

-- a face that joins two intervals carries a step from the one to the other
carried_by_face : (f : FunctionData) (m : ℕ) (p : ℕ → ℤ) (kind : FaceKind) (a b i j : ℕ) (t : ℤ) →
    IsContinuous f → 0 < m →
    IsAdditiveOnGrid f m p → Joins f.order (IsTight f) kind a b i j → HasStepOn p m j t →
    HasStepOn p m i t
carried_by_face f m p Vertex a b i j t continuous some h join =
    carried_by_edge f m p Vertex a b j i t continuous some h join.additive join.second join.first
carried_by_face f m p Horizontal a b i j t continuous some h join =
    carried_by_edge f m p Horizontal a b j i t continuous some h join.additive join.second
    join.first
carried_by_face f m p Vertical a b i j t continuous some h join =
    carried_by_edge f m p Vertical a b j i t continuous some h join.additive join.second join.first
carried_by_face f m p Diagonal a b i j t continuous some h join =
    carried_by_edge f m p Diagonal a b j i t continuous some h join.additive join.second join.first
carried_by_face f m p Lower a b i j t continuous some h join =
    carried_among p m f.order (triangle_projections Lower a b) i j t some
    (given_by_triangle f m p Lower a b continuous some h join.additive) join.first join.second
carried_by_face f m p Upper a b i j t continuous some h join =
    carried_among p m f.order (triangle_projections Upper a b) i j t some
    (given_by_triangle f m p Upper a b continuous some h join.additive) join.first join.second

-- ---- the lines that open a component

abbrev opens : CoverLine → Bool
opens l = l.from == l.interval

-- the interval of the opening line with the number
opened_by : List CoverLine → ℕ → ℕ
opened_by lines number = get_or (map (λ l. l.interval) (filter opens lines)) number 0

-- stands behind as many opening lines
opened_at : (lines before : List CoverLine) (l : CoverLine) (after : List CoverLine) (number : ℕ) →
    lines ≡ before ++ l ∷ after → l.from ≡ l.interval → number ≡ count_by opens before →
    opened_by lines number ≡ l.interval
unfolding opened_by
opened_at lines before l after number place same counted =
    let intervals : List CoverLine → List ℕ = λ ls. map (λ m. m.interval) (filter opens ls) in
    let own : intervals (l ∷ after) ≡ l.interval ∷ intervals after =
    ap (λ b. map (λ m. m.interval) (cond b (l ∷ filter opens after) (filter opens after)))
    (eq-eqb l.from l.interval same) in
    let split : intervals lines ≡ intervals before ++ l.interval ∷ intervals after =
    ap intervals place ∙ ap (map (λ m. m.interval)) (filter-append opens before (l ∷ after))
    ∙ map-append (λ m. m.interval) (filter opens before) (filter opens (l ∷ after))
    ∙ ap (λ xs. intervals before ++ xs) own in
    let index : number ≡ length (intervals before) =
    counted ∙ sym (length-filter opens before)
    ∙ sym (length-map (filter opens before) (λ m. m.interval)) in
    ap₂ (λ xs n. get_or xs n 0) split index
    ∙ get_or-append_seam (intervals before) l.interval (intervals after) 0

opening_counts : (l : CoverLine) (after : List CoverLine) → l.from ≡ l.interval →
    count_by opens (l ∷ after) ≡ 1 + count_by opens after
opening_counts l after same =
    sum_by-cons (λ m. cond (opens m) 1 0) l after
    ∙ ap (λ (b : Bool). cond b 1 0 + count_by opens after) (eq-eqb l.from l.interval same)

-- the number of a component is below that of opening lines
pub number_below : (lines : List CoverLine) (number i : ℕ) → HasComponent lines number i →
    number < count_by (λ l. l.from == l.interval) lines
number_below lines number i (opened before l after place same counted) =
    let rest = opening_counts l after same in
    let split : count_by opens lines ≡ count_by opens before + count_by opens (l ∷ after) =
    ap (count_by opens) place ∙ sum_by-append (λ m. cond (opens m) 1 0) before (l ∷ after) in
    omega arith
number_below lines number i (joined before l after place other rest) =
    number_below lines number l.from rest

-- ---- one step a component

-- the step of the component with the number
step_of : (ℕ → ℤ) → ℕ → List CoverLine → ℕ → ℤ
step_of p m lines number = first_step p m (opened_by lines number)

step_on_component : (f : FunctionData) (m : ℕ) (p : ℕ → ℤ) (lines : List CoverLine) →
    IsContinuous f → 0 < m →
    IsAdditiveOnGrid f m p → MeetsCoverRules f.order (IsTight f) lines → (number i : ℕ) →
    HasComponent lines number i →
    HasStepOn p m i (step_of p m lines number)
unfolding step_of
step_on_component f m p lines continuous some h rules number i
    (opened before l after place same counted) =
    let rule = rules before l after place in
    let steps = given_by_triangle f m p l.face.kind l.face.a l.face.b continuous some h
    rule.additive in
    let step = steps.1 l.interval (rule.opening same).projection in
    let first = step_is_first p m l.interval steps.0 some step
    ∙ ap (first_step p m) (sym (opened_at lines before l after number place same counted)) in
    subst (λ (s : ℤ). HasStepOn p m l.interval s) first step
step_on_component f m p lines continuous some h rules number i
    (joined before l after place other rest) =
    let rule = rules before l after place in
    carried_by_face f m p l.face.kind l.face.a l.face.b l.interval l.from
    (step_of p m lines number) continuous some h
    (rule.joining other) (step_on_component f m p lines continuous some h rules number l.from rest)

pub one_step_a_component : (f : FunctionData) (m : ℕ) (p : ℕ → ℤ) (lines : List CoverLine) →
    IsContinuous f → 0 < m →
    IsAdditiveOnGrid f m p → MeetsCoverRules f.order (IsTight f) lines →
    (step : ℕ → ℤ) × ((number i : ℕ) → HasComponent lines number i → HasStepOn p m i (step number))
one_step_a_component f m p lines continuous some h rules =
    (step_of p m lines, step_on_component f m p lines continuous some h rules)
