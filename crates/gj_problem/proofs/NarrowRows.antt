-- Where all numbers of a row fit, none is said not to.
use Rattle.std.proofs.Common.{◌≡◌, ◌↔◌, ◌⊎◌, ⊎_elim, ℕ, ◌<◌, ◌≤◌, ◌^◌, Bool, IsTrue, List, [], ◌∷◌, ◌++◌, All, sym, ap, subst, subst₂, ◌∙◌, arith}
use Rattle.gj_frac.specs.declared.Frac.{Frac}
use Rattle.gj_frac.specs.Fits.{FitsProduct, FitsQuotient}
use Rattle.gj_fields.specs.Rational.{whole, rational, ◌+ℚ◌, neg_ℚ}
use Rattle.gj_problem.specs.declared.problem.Problem.{Problem}
use Rattle.gj_problem.specs.declared.pieces.Piece.{Piece}
use Rattle.gj_problem.specs.declared.bounds.Held.{Held}
use Rattle.gj_problem.specs.Aggregates.{pieces_at, Weighted, IsAggregate, HasWholeColumns, IsScale, signed, IsLeftOut, IsTurned, IsFree}
use Rattle.gj_problem.specs.Steps.{AreTurned, IsWideAt}
use Rattle.gj_problem.specs.WideRows.{numbers_of, IsWideScale, IsWideMultiple, IsWideScaled, IsWideSlack, IsWideNext, IsWideSum, IsWideTurn, AreWideTurns}
use Rattle.gj_problem.proofs.Failing.{Fails, true_at, none_around, none_with, none_at_first}
use Rattle.gj_problem.proofs.MadePieces.{made_one}
use Rattle.gj_problem.proofs.OneRow.{rational_injective, one_sum, one_turned}
use Rattle.gj_problem.proofs.OnePieces.{one_test, one_scale}
use Rattle.gj_problem.proofs.TurnedColumns.{none_free, turned_not_free}

-- ---- a slack

pub narrow_slack : (p : Problem) (w : Weighted) (b : Bool) (n : ℕ) (factor turned : Frac) →
    (IsTrue b ↔ HasWholeColumns p w.constraint) →
    IsScale w.constraint.right w.constraint.entries b n →
    rational factor ≡ whole (signed w.constraint.sense n) →
    rational turned ≡ neg_ℚ (rational w.multiplier) →
    (IsWideScale w.constraint.right w.constraint.entries b → ⊥) → FitsQuotient turned factor →
    All (FitsProduct factor) (numbers_of w.constraint.right w.constraint.entries) →
    IsWideSlack p w → ⊥
narrow_slack p w b n factor turned kind scale factor_is turned_is narrow quotient products
    (other, other_kind, wide) =
    let c = w.constraint in
    let same : other ≡ b = one_test other b (HasWholeColumns p c) other_kind kind in
    ⊎_elim
    (λ (k : IsWideScale c.right c.entries other). narrow
    (subst (IsWideScale c.right c.entries) same k))
    (λ (k : IsWideScaled w other).
    let one : k.scale ≡ n =
    one_scale c.right c.entries b k.scale n
    (subst (λ (a : Bool). IsScale c.right c.entries a k.scale) same k.scale_is) scale in
    let factors : k.factor ≡ factor =
    rational_injective k.factor factor (k.factor_is ∙ ap (λ (m : ℕ). whole (signed c.sense m)) one
    ∙ sym factor_is) in
    let turns : k.turned ≡ turned =
    rational_injective k.turned turned (k.turned_is ∙ sym turned_is) in
    ⊎_elim
    (λ (l : FitsQuotient k.turned k.factor → ⊥). l
    (subst₂ FitsQuotient (sym turns) (sym factors) quotient))
    (λ (l : IsWideMultiple k.factor c.right c.entries).
    l (subst (λ (f : Frac). All (FitsProduct f) (numbers_of c.right c.entries))
    (sym factors) products))
    k.wide)
    wide

-- ---- the sum

-- the constraints before it have been added, and then it is at this constraint
abbrev IsWideNow : Problem → List Weighted → Weighted → Type 0
IsWideNow p before w = (coefficients : List Frac) × (against : Frac)
    × IsAggregate p before coefficients against × IsWideNext p coefficients against w

fails_at_sum : (p : Problem) (ws : List Weighted) → IsWideSum p ws → Fails (IsWideNow p) ws
fails_at_sum p ws h = record {
  before = h.before;
  next = h.next;
  after = h.after;
  place = h.place;
  fails = (h.coefficients, h.against, h.sum, h.wide);
}

sum_fails : (p : Problem) (ws : List Weighted) → Fails (IsWideNow p) ws → IsWideSum p ws
sum_fails p ws f = record {
  before = f.before;
  next = f.next;
  after = f.after;
  place = f.place;
  coefficients = f.fails.0;
  against = f.fails.1;
  sum = f.fails.2;
  wide = f.fails.3;
}

pub narrow_sum_of_none : (p : Problem) → IsWideSum p [] → ⊥
narrow_sum_of_none p h = none_at_first (IsWideNow p) (fails_at_sum p [] h)

pub narrow_sum_with : (p : Problem) (ws vs : List Weighted) (w : Weighted) (cs : List Frac)
    (r : Frac) → vs ≡ ws ++ w ∷ [] → IsAggregate p ws cs r →
    (IsWideSum p ws → ⊥) → (IsWideNext p cs r w → ⊥) → IsWideSum p vs → ⊥
narrow_sum_with p ws vs w cs r vs_are sum none narrow h =
    none_with (IsWideNow p) ws w (λ f. none (sum_fails p ws f))
    (λ k.
    let same = one_sum p ws k.0 cs k.1 r k.2 sum in
    narrow (subst₂ (λ (xs : List Frac) (s : Frac). IsWideNext p xs s w) same.0 same.1 k.3))
    (fails_at_sum p (ws ++ w ∷ []) (subst (IsWideSum p) vs_are h))

-- ---- bounds

pub narrow_turn : (h : Held) (right : Frac) (s : Piece) (against : Frac) → IsTurned h s →
    rational against ≡ neg_ℚ (rational s.entry) →
    (IsWideAt right against s.inequality.right → ⊥) → IsWideTurn h right → ⊥
narrow_turn h right s against turned against_is narrow w =
    let same : w.piece ≡ s = one_turned h w.piece s w.turned turned in
    let turns : w.against ≡ against =
    rational_injective w.against against
    (w.against_is ∙ ap (λ (t : Piece). neg_ℚ (rational t.entry)) same ∙ sym against_is) in
    narrow (subst₂ (λ (a : Frac) (t : Piece). IsWideAt right a t.inequality.right) turns same
    w.wide)

one_turning : (hs : List Held) (against : Frac) (ps qs : List Piece) (r s : Frac) →
    AreTurned hs against ps r → AreTurned hs against qs s → r ≡ s
one_turning hs against ps qs r s h k =
    rational_injective r s
    (h.right_is ∙ ap (λ (us : List Piece). rational against +ℚ pieces_at [] us)
    (made_one IsLeftOut IsTurned one_turned hs ps qs h.made k.made)
    ∙ sym k.right_is)

-- the columns before it have been turned, and then it is at this column
abbrev IsWideHere : Frac → List Held → Held → Type 0
IsWideHere against before h = (pieces : List Piece) × (right : Frac)
    × AreTurned before against pieces right
    × ((2 ^ 32 ≤ h.index) ⊎ IsWideTurn h right)

fails_at_turns : (hs : List Held) (against : Frac) → AreWideTurns hs against →
    Fails (IsWideHere against) hs
fails_at_turns hs against w = record {
  before = w.before;
  next = w.next;
  after = w.after;
  place = w.place;
  fails = (w.pieces, w.right, w.turned, w.wide);
}

turns_fail : (hs : List Held) (against : Frac) → Fails (IsWideHere against) hs →
    AreWideTurns hs against
turns_fail hs against f = record {
  before = f.before;
  next = f.next;
  after = f.after;
  place = f.place;
  pieces = f.fails.0;
  right = f.fails.1;
  turned = f.fails.2;
  wide = f.fails.3;
}

pub narrow_turns_of_none : (against : Frac) → AreWideTurns [] against → ⊥
narrow_turns_of_none against w = none_at_first (IsWideHere against) (fails_at_turns [] against w)

narrow_here : (hs : List Held) (against : Frac) (h : Held) (ps : List Piece) (right : Frac) →
    AreTurned hs against ps right → h.index < 2 ^ 32 →
    (IsWideTurn h right → ⊥) → IsWideHere against hs h → ⊥
narrow_here hs against h ps right turned small narrow k =
    ⊎_elim
    (λ (l : 2 ^ 32 ≤ h.index). omega arith)
    (λ (l : IsWideTurn h k.1). narrow
    (subst (IsWideTurn h) (one_turning hs against k.0 ps k.1 right k.2 turned) l))
    k.3

pub narrow_turns_with : (hs ks : List Held) (against : Frac) (h : Held) (ps : List Piece)
    (right : Frac) → ks ≡ hs ++ h ∷ [] →
    AreTurned hs against ps right → (AreWideTurns hs against → ⊥) → h.index < 2 ^ 32 →
    (IsWideTurn h right → ⊥) → AreWideTurns ks against → ⊥
narrow_turns_with hs ks against h ps right ks_are turned none small narrow w =
    none_with (IsWideHere against) hs h (λ f. none (turns_fail hs against f))
    (narrow_here hs against h ps right turned small narrow)
    (fails_at_turns (hs ++ h ∷ []) against
    (subst (λ (us : List Held). AreWideTurns us against) ks_are w))

-- behind a free column nothing is turned
pub narrow_turns_to_free : (hs ks back : List Held) (against : Frac) (h : Held) (ps : List Piece)
    (right : Frac) → ks ≡ hs ++ h ∷ back →
    AreTurned hs against ps right → (AreWideTurns hs against → ⊥) → h.index < 2 ^ 32 → IsFree h →
    AreWideTurns ks against → ⊥
narrow_turns_to_free hs ks back against h ps right ks_are turned none small free w =
    none_around (IsWideHere against) ks hs back h ks_are (λ f. none (turns_fail hs against f))
    (narrow_here hs against h ps right turned small (λ k. turned_not_free h k.piece k.turned free))
    (λ before rest after next is place k.
    true_at (λ (u : Held). IsFree u → ⊥) before hs rest h is (none_free before k.0 k.2.made) free)
    (fails_at_turns ks against w)
