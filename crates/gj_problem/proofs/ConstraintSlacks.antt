-- Slacks of constraints: with them each constraint in the sum is an equation, and they hold.
use Rattle.std.proofs.Common.{◌≡◌, ⊎_elim, ℕ, List, [], ◌∷◌, map, All, Bool, true, false, IsTrue, pos, negsuc, refl, sym, ap, ap₂, subst, ◌∙◌, arith}
use Rattle.std.proofs.lemmas.Int.{ints}
use Rattle.std.proofs.lemmas.List.Elements.{All-nil, All-cons, All-head, All-tail}
use Rattle.gj_frac.specs.declared.Frac.{Frac}
use Rattle.gj_frac.specs.Fraction.{numerator}
use Rattle.gj_shape.specs.Given.{IsCommonDenominator, numerator_over}
use Rattle.gj_shape.proofs.LeastDenominator.{Divides}
use Rattle.gj_fields.specs.Rational.{Rational, whole, rational, ◌+ℚ◌, ◌*ℚ◌, neg_ℚ, ◌-ℚ◌, IsWholeNumber}
use Rattle.gj_fields.proofs.RationalLaws.{zero_add_q, zero_mul_q, whole_neg}
use Rattle.gj_fields.proofs.RationalOrder.{IsNonnegativeQ}
use Rattle.gj_fields.proofs.RationalRing.{by_ring_q, ring_q}
use Rattle.gj_problem.specs.declared.problem.Constraint.{Constraint}
use Rattle.gj_problem.specs.declared.problem.Entry.{Entry}
use Rattle.gj_problem.specs.declared.problem.Problem.{Problem}
use Rattle.gj_problem.specs.declared.problem.Sense.{Sense}
use Rattle.gj_problem.specs.declared.problem.Sense.TheVariants.{AtMost, AtLeast, Equal}
use Rattle.gj_problem.specs.declared.pieces.Piece.{Piece}
use Rattle.gj_problem.specs.Problems.{value_at, sum_at, surplus_at, Meets, MeetsConstraint, IsFeasible, Holds, IsWholeColumn}
use Rattle.gj_problem.specs.Rows.{HasWholeSurplus, IsSignFor}
use Rattle.gj_problem.specs.Aggregates.{pieces_at, AreMadeOf, Weighted, weighted, aggregate_at, HasWholeColumns, signed, IsScale, HasNoSlack, IsSlack}
use Rattle.gj_problem.proofs.Numerators.{numerator_is}
use Rattle.gj_problem.proofs.AddedSums.{zero_frac}
use Rattle.gj_problem.proofs.MadePieces.{Made}
use Rattle.gj_problem.proofs.OneColumn.{multiple_surplus}
use Rattle.gj_problem.proofs.HeldInequalities.{from_surplus, multiple_low, column_at, whole_sum, whole_product}

-- ---- the equation

equation_at : (m r : Rational) → m *ℚ (r -ℚ r) ≡ whole (pos 0)
equation_at m r = by_ring_q (m ∷ r ∷ []) (search ring_q depth 40) refl

meets_equal : (sense : Sense) (m s r : Rational) → sense ≡ Equal → Meets sense s r →
    m *ℚ (s -ℚ r) ≡ whole (pos 0)
meets_equal sense m s r e h =
    let same : s ≡ r = subst (λ t. Meets t s r) e h in
    ap (λ w. m *ℚ (w -ℚ r)) same ∙ equation_at m r

no_slack_at : (point : List Rational) (w : Weighted) → HasNoSlack w →
    MeetsConstraint point w.constraint →
    rational w.multiplier *ℚ (sum_at point w.constraint.entries -ℚ rational w.constraint.right)
    ≡ whole (pos 0)
no_slack_at point w none meets =
    let d = sum_at point w.constraint.entries -ℚ rational w.constraint.right in
    ⊎_elim
    (λ (zero : numerator w.multiplier ≡ pos 0). ap (λ z. z *ℚ d) (zero_frac w.multiplier zero)
    ∙ zero_mul_q d)
    (λ (equal : w.constraint.sense ≡ Equal).
    meets_equal w.constraint.sense (rational w.multiplier) (sum_at point w.constraint.entries)
    (rational w.constraint.right) equal meets)
    none

cancelled : (m d e f : Rational) → m *ℚ d +ℚ e *ℚ (f *ℚ d) ≡ (m +ℚ f *ℚ e) *ℚ d
cancelled m d e f = by_ring_q (m ∷ d ∷ e ∷ f ∷ []) (search ring_q depth 40) refl

opposite : (m d : Rational) → (m +ℚ neg_ℚ m) *ℚ d ≡ whole (pos 0)
opposite m d = by_ring_q (m ∷ d ∷ []) (search ring_q depth 40) refl

-- the surplus of a slack
slack_at : (p : Problem) (point : List Rational) (w : Weighted) (s : Piece) (h : IsSlack p w s) →
    surplus_at point s.inequality
    ≡ whole (signed w.constraint.sense h.scale)
    *ℚ (sum_at point w.constraint.entries -ℚ rational w.constraint.right)
slack_at p point w s h =
    multiple_surplus point (whole (signed w.constraint.sense h.scale)) w.constraint.entries
    w.constraint.right s.inequality h.slack_is

slack_cancels : (p : Problem) (point : List Rational) (w : Weighted) (s : Piece) → IsSlack p w s →
    rational w.multiplier *ℚ (sum_at point w.constraint.entries -ℚ rational w.constraint.right)
    +ℚ rational s.entry *ℚ surplus_at point s.inequality ≡ whole (pos 0)
slack_cancels p point w s h =
    let m = rational w.multiplier in
    let d = sum_at point w.constraint.entries -ℚ rational w.constraint.right in
    let f = whole (signed w.constraint.sense h.scale) in
    ap (λ z. m *ℚ d +ℚ rational s.entry *ℚ z) (slack_at p point w s h)
    ∙ cancelled m d (rational s.entry) f
    ∙ ap (λ z. (m +ℚ z) *ℚ d) h.entry_is ∙ opposite m d

regrouped : (a b c d : Rational) → (a +ℚ b) +ℚ (c +ℚ d) ≡ (a +ℚ c) +ℚ (b +ℚ d)
regrouped a b c d = by_ring_q (a ∷ b ∷ c ∷ d ∷ []) (search ring_q depth 40) refl

-- what the constraints add up to, and their slacks, add up to 0
pub slacks_at : (p : Problem) (point : List Rational) (ws : List Weighted) (ps : List Piece) →
    AreMadeOf HasNoSlack (IsSlack p) ws ps →
    All (λ w. MeetsConstraint point w.constraint) ws → aggregate_at point ws +ℚ pieces_at point ps
    ≡ whole (pos 0)
slacks_at p point [] ps h meet = ap (λ (qs : List Piece). whole (pos 0) +ℚ pieces_at point qs) h
    ∙ zero_add_q (whole (pos 0))
slacks_at p point (w ∷ ws) ps h meet =
    let here = All-head (λ (v : Weighted). MeetsConstraint point v.constraint) w ws meet in
    let others = All-tail (λ (v : Weighted). MeetsConstraint point v.constraint) w ws meet in
    let x = rational w.multiplier
    *ℚ (sum_at point w.constraint.entries -ℚ rational w.constraint.right) in
    ⊎_elim
    (λ (k : HasNoSlack w × AreMadeOf HasNoSlack (IsSlack p) ws ps).
    ap (λ z. (z +ℚ aggregate_at point ws) +ℚ pieces_at point ps) (no_slack_at point w k.0 here)
    ∙ ap (λ z. z +ℚ pieces_at point ps) (zero_add_q (aggregate_at point ws))
    ∙ slacks_at p point ws ps k.1 others)
    (λ (k : Made HasNoSlack (IsSlack p) w ws ps).
    ap (λ (qs : List Piece). (x +ℚ aggregate_at point ws) +ℚ pieces_at point qs) k.3
    ∙ regrouped x (aggregate_at point ws) (rational k.1.entry *ℚ surplus_at point k.1.inequality)
    (pieces_at point k.2)
    ∙ ap₂ (λ a b. a +ℚ b) (slack_cancels p point w k.1 k.4) (slacks_at p point ws k.2 k.5 others)
    ∙ zero_add_q (whole (pos 0)))
    h

-- ---- they hold

-- the constraint is met at all feasible points
abbrev pub IsMet : Problem → Constraint → Type 0
IsMet p c = (point : List Rational) → IsFeasible p point → MeetsConstraint point c

pub weighted_all : (R : Constraint → Type 0) (ms : List Frac) (cs : List Constraint) → All R cs →
    All (λ w. R w.constraint) (weighted ms cs)
weighted_all R [] cs h = All-nil (λ (w : Weighted). R w.constraint)
weighted_all R (m ∷ ms) [] h = All-nil (λ (w : Weighted). R w.constraint)
weighted_all R (m ∷ ms) (c ∷ cs) h =
    All-cons (λ (w : Weighted). R w.constraint) (record { multiplier = m; constraint = c })
    (weighted ms cs) (All-head R c cs h)
    (weighted_all R ms cs (All-tail R c cs h))

pub all_met : (p : Problem) (ms : List Frac) →
    All (λ w. IsMet p w.constraint) (weighted ms p.constraints)
all_met p ms =
    weighted_all (IsMet p) ms p.constraints
    (λ k d below (point : List Rational) (feasible : IsFeasible p point). feasible.constraints k d
    below)

sign_for : (sense : Sense) (n : ℕ) → IsSignFor sense (signed sense n)
sign_for AtMost n = omega (arith, ints)
sign_for AtLeast n = omega (arith, ints)
sign_for Equal n = tt

pub slack_holds : (p : Problem) (w : Weighted) (s : Piece) → IsMet p w.constraint → IsSlack p w s →
    Holds p s.inequality
slack_holds p w s met h =
    from_surplus p s.inequality
    (λ (point : List Rational) (feasible : IsFeasible p point).
    subst IsNonnegativeQ (sym (slack_at p point w s h))
    (multiple_low w.constraint.sense (signed w.constraint.sense h.scale)
    (sum_at point w.constraint.entries) (rational w.constraint.right)
    (sign_for w.constraint.sense h.scale) (met point feasible)))

-- ---- they are whole

scaled_step : (n v x s : Rational) → n *ℚ (v *ℚ x +ℚ s) ≡ (v *ℚ n) *ℚ x +ℚ n *ℚ s
scaled_step n v x s = by_ring_q (n ∷ v ∷ x ∷ s ∷ []) (search ring_q depth 40) refl

scaled_sum : (p : Problem) (point : List Rational) (n : ℕ) (es : List Entry) → IsFeasible p point →
    IsCommonDenominator (map (λ e. e.value) es) n → All (λ e. IsWholeColumn p e.column) es →
    IsWholeNumber (whole (pos n) *ℚ sum_at point es)
scaled_sum p point n [] feasible over columns =
    whole_product (whole (pos n)) (whole (pos 0)) (pos n, refl) (pos 0, refl)
scaled_sum p point n (e ∷ es) feasible over columns =
    let (c, at, flag) = All-head (λ (f : Entry). IsWholeColumn p f.column) e es columns in
    let x = value_at point e.column in
    let first : IsWholeNumber (rational e.value *ℚ whole (pos n)) = (
      numerator_over n e.value,
      numerator_is n e.value
          (All-head (Divides n) e.value (map (λ (f : Entry). f.value) es) over),
    ) in
    subst IsWholeNumber (sym (scaled_step (whole (pos n)) (rational e.value) x (sum_at point es)))
    (whole_sum ((rational e.value *ℚ whole (pos n)) *ℚ x) (whole (pos n) *ℚ sum_at point es)
    (whole_product (rational e.value *ℚ whole (pos n)) x first
    ((column_at p point e.column c at feasible).is_whole flag))
    (scaled_sum p point n es feasible
    (All-tail (Divides n) e.value (map (λ (f : Entry). f.value) es) over)
    (All-tail (λ (f : Entry). IsWholeColumn p f.column) e es columns)))

scaled_both : (n s r : Rational) → n *ℚ s +ℚ neg_ℚ (r *ℚ n) ≡ n *ℚ (s -ℚ r)
scaled_both n s r = by_ring_q (n ∷ s ∷ r ∷ []) (search ring_q depth 40) refl

scaled_surplus : (p : Problem) (point : List Rational) (n : ℕ) (c : Constraint) →
    IsFeasible p point →
    IsCommonDenominator (c.right ∷ map (λ e. e.value) c.entries) n → HasWholeColumns p c →
    IsWholeNumber (whole (pos n) *ℚ (sum_at point c.entries -ℚ rational c.right))
scaled_surplus p point n c feasible over columns =
    let values = map (λ (f : Entry). f.value) c.entries in
    let right : IsWholeNumber (rational c.right *ℚ whole (pos n)) =
    (numerator_over n c.right, numerator_is n c.right (All-head (Divides n) c.right values over)) in
    subst IsWholeNumber (scaled_both (whole (pos n)) (sum_at point c.entries) (rational c.right))
    (whole_sum (whole (pos n) *ℚ sum_at point c.entries) (neg_ℚ (rational c.right *ℚ whole (pos n)))
    (scaled_sum p point n c.entries feasible (All-tail (Divides n) c.right values over) columns)
    (whole_product (whole (negsuc 0)) (rational c.right *ℚ whole (pos n)) (negsuc 0, refl) right))

turned_sign : (n d : Rational) → neg_ℚ (n *ℚ d) ≡ neg_ℚ n *ℚ d
turned_sign n d = by_ring_q (n ∷ d ∷ []) (search ring_q depth 40) refl

signed_whole : (sense : Sense) (n : ℕ) (d : Rational) → IsWholeNumber (whole (pos n) *ℚ d) →
    IsWholeNumber (whole (signed sense n) *ℚ d)
signed_whole AtMost n d h =
    subst IsWholeNumber (turned_sign (whole (pos n)) d ∙ ap (λ z. z *ℚ d) (sym (whole_neg (pos n))))
    (whole_product (whole (negsuc 0)) (whole (pos n) *ℚ d) (negsuc 0, refl) h)
signed_whole AtLeast n d h = h
signed_whole Equal n d h = h

scale_common : (c : Constraint) (b : Bool) (n : ℕ) → IsTrue b → IsScale c.right c.entries b n →
    IsCommonDenominator (c.right ∷ map (λ e. e.value) c.entries) n
scale_common c true n flag h = h.common
scale_common c false n flag h = absurd (cc)

pub slack_whole : (p : Problem) (w : Weighted) (s : Piece) → IsSlack p w s → IsTrue s.is_whole →
    HasWholeSurplus p s.inequality
slack_whole p w s h flag point feasible =
    let c = w.constraint in
    subst IsWholeNumber (sym (slack_at p point w s h))
    (signed_whole c.sense h.scale (sum_at point c.entries -ℚ rational c.right)
    (scaled_surplus p point h.scale c feasible (scale_common c s.is_whole h.scale flag h.scale_is)
    (h.is_whole.0 flag)))
