-- The row on the grid is sound if the row is.
use Rattle.std.proofs.Common.{◌≡◌, ℕ, List, [], ◌∷◌, All, false, IsTrue, pos, negsuc, refl, sym, ap, ap₂, subst, ◌∙◌, arith}
use Rattle.std.specs.List.{AllZip}
use Rattle.std.proofs.lemmas.Int.{ints}
use Rattle.std.proofs.lemmas.List.Elements.{All-nil, All-cons, All-head, All-tail, All-append}
use Rattle.gj_frac.specs.declared.Frac.{Frac}
use Rattle.gj_fields.specs.Rational.{Rational, whole, rational, ◌+ℚ◌, ◌*ℚ◌, ◌-ℚ◌}
use Rattle.gj_fields.proofs.RationalOrder.{IsNonnegativeQ, nonnegative_whole, nonnegative_add, nonnegative_mul, difference_nonnegative, at_most_turned}
use Rattle.gj_fields.proofs.RationalRing.{by_ring_q, ring_q}
use Rattle.gj_problem.specs.declared.problem.Inequality.{Inequality}
use Rattle.gj_problem.specs.declared.problem.Problem.{Problem}
use Rattle.gj_problem.specs.declared.pieces.Piece.{Piece}
use Rattle.gj_problem.specs.Problems.{IsFeasible, Holds, surplus_at}
use Rattle.gj_problem.specs.Rows.{HasWholeSurplus}
use Rattle.gj_problem.specs.Aggregates.{pieces_at, IsSound, AddsUpAt}
use Rattle.gj_problem.proofs.HeldInequalities.{from_surplus}
use Rattle.gj_problem.proofs.MadePieces.{pieces_joined}
use Rattle.gj_relaxed.specs.declared.rows.RightMove.{RightMove}
use Rattle.gj_relaxed.specs.declared.rows.RightMove.TheVariants.{Down, Kept}
use Rattle.gj_relaxed.specs.RelaxedRows.{IsRaised, IsGap, Moves, IsRelaxedRow}

-- ---- what the pieces gain

no_gain : whole (pos 0) ≡ whole (pos 0) -ℚ whole (pos 0)
no_gain = by_ring_q [] (search ring_q depth 40) refl

one_gain : (e f v r p : Rational) → (f -ℚ e) *ℚ v +ℚ (r -ℚ p) ≡ (f *ℚ v +ℚ r) -ℚ (e *ℚ v +ℚ p)
one_gain e f v r p = by_ring_q (e ∷ f ∷ v ∷ r ∷ p ∷ []) (search ring_q depth 60 fits 3000) refl

-- the surplus of the piece is at least 0
abbrev IsLowAt : List Rational → Piece → Type 0
IsLowAt point s = IsNonnegativeQ (surplus_at point s.inequality)

gain_low : (n : ℕ) (point : List Rational) (ps rs : List Piece) → AllZip (IsRaised n) ps rs →
    All (IsLowAt point) ps →
    IsNonnegativeQ (pieces_at point rs -ℚ pieces_at point ps)
gain_low n point [] [] h low =
    subst IsNonnegativeQ no_gain (nonnegative_whole (pos 0) (omega (arith, ints)))
gain_low n point [] (r ∷ rs) h low = absurd h
gain_low n point (s ∷ ps) [] h low = absurd h
gain_low n point (s ∷ ps) (r ∷ rs) h low =
    let e = rational s.entry in
    let f = rational r.entry in
    let v = surplus_at point s.inequality in
    let here : IsNonnegativeQ ((f -ℚ e) *ℚ v) =
    nonnegative_mul (f -ℚ e) v (difference_nonnegative e f (at_most_turned e f h.0.entry.at_most))
    (All-head (IsLowAt point) s ps low) in
    subst IsNonnegativeQ
    (one_gain e f v (pieces_at point rs) (pieces_at point ps)
    ∙ ap (λ (q : Inequality). (f *ℚ surplus_at point q +ℚ pieces_at point rs)
    -ℚ (e *ℚ v +ℚ pieces_at point ps)) (sym h.0.inequality))
    (nonnegative_add ((f -ℚ e) *ℚ v) (pieces_at point rs -ℚ pieces_at point ps) here
    (gain_low n point ps rs h.1 (All-tail (IsLowAt point) s ps low)))

nothing_less : (r : Rational) → whole (pos 0) ≡ r -ℚ r
nothing_less r = by_ring_q (r ∷ []) (search ring_q depth 40) refl

fall_low : (move : RightMove) (n : ℕ) (right right' : Frac) → Moves move n right right' →
    IsNonnegativeQ (rational right -ℚ rational right')
fall_low Down n right right' h = difference_nonnegative (rational right') (rational right) h.at_most
fall_low Kept n right right' h =
    subst IsNonnegativeQ (nothing_less (rational right)
    ∙ ap (λ (r : Frac). rational right -ℚ rational r) (sym h))
    (nonnegative_whole (pos 0) (omega (arith, ints)))

-- ---- pieces hold

raised_sound : (n : ℕ) (p : Problem) (ps rs : List Piece) → AllZip (IsRaised n) ps rs →
    All (IsSound p) ps → All (IsSound p) rs
raised_sound n p [] [] h sound = sound
raised_sound n p [] (r ∷ rs) h sound = absurd h
raised_sound n p (s ∷ ps) [] h sound = absurd h
raised_sound n p (s ∷ ps) (r ∷ rs) h sound =
    let is = All-head (IsSound p) s ps sound in
    let here : IsSound p r = record {
      holds = subst (Holds p) (sym h.0.inequality) is.holds;
      is_whole = λ flag. subst (HasWholeSurplus p) (sym h.0.inequality)
          (is.is_whole (subst IsTrue h.0.is_whole flag));
    } in
    All-cons (IsSound p) r rs here (raised_sound n p ps rs h.1 (All-tail (IsSound p) s ps sound))

gap_sound : (move : RightMove) (n columns : ℕ) (p : Problem) (ps rs : List Piece)
    (right right' : Frac) (gap : Piece) → AllZip (IsRaised n) ps rs →
    Moves move n right right' → IsGap columns ps rs right right' gap → All (IsSound p) ps →
    IsSound p gap
gap_sound move n columns p ps rs right right' gap raised moves is sound = record {
  holds = from_surplus p gap.inequality
      (λ (point : List Rational) (feasible : IsFeasible p point).
      subst IsNonnegativeQ (sym (is.surplus point))
      (nonnegative_add (rational right -ℚ rational right')
      (pieces_at point rs -ℚ pieces_at point ps) (fall_low move n right right' moves)
      (gain_low n point ps rs raised
      (λ k d below. difference_nonnegative _ _ ((sound k d below).holds point feasible)))));
  is_whole = λ flag. let none : gap.is_whole ≡ false = is.is_whole in absurd (cc);
}

pub relaxed_sound : (move : RightMove) (n columns : ℕ) (p : Problem) (pieces relaxed : List Piece)
    (right right' : Frac) →
    IsRelaxedRow move n columns pieces right relaxed right' → All (IsSound p) pieces →
    All (IsSound p) relaxed
relaxed_sound move n columns p pieces relaxed right right' row sound =
    subst (All (IsSound p)) (sym row.relaxed_are)
    (All-append (IsSound p) row.raised (row.gap ∷ [])
    (raised_sound n p pieces row.raised row.raised_are sound)
    (All-cons (IsSound p) row.gap []
    (gap_sound move n columns p pieces row.raised right right' row.gap row.raised_are row.right_is
    row.gap_is sound) (All-nil (IsSound p))))

-- ---- it adds up

taken_off : (r p z a b : Rational) →
    (r +ℚ (whole (negsuc 0) *ℚ ((a -ℚ b) +ℚ (r -ℚ p)) +ℚ whole (pos 0))) +ℚ z ≡ (p +ℚ z) -ℚ (a -ℚ b)
taken_off r p z a b = by_ring_q (r ∷ p ∷ z ∷ a ∷ b ∷ []) (search ring_q depth 60 fits 3000) refl

left_over : (a b : Rational) → a -ℚ (a -ℚ b) ≡ b
left_over a b = by_ring_q (a ∷ b ∷ []) (search ring_q depth 40) refl

pub relaxed_adds_up : (move : RightMove) (n columns : ℕ) (point : List Rational)
    (pieces relaxed : List Piece) (right right' : Frac) →
    IsRelaxedRow move n columns pieces right relaxed right' → AddsUpAt point pieces right →
    AddsUpAt point relaxed right'
relaxed_adds_up move n columns point pieces relaxed right right' row (z, adds) =
    let r = pieces_at point row.raised in
    let p = pieces_at point pieces in
    let a = rational right in
    let b = rational right' in
    let gap_is : rational row.gap.entry *ℚ surplus_at point row.gap.inequality
    ≡ whole (negsuc 0) *ℚ ((a -ℚ b) +ℚ (r -ℚ p)) =
    ap₂ (λ x y. x *ℚ y) row.gap_is.entry (row.gap_is.surplus point) in (
      z,
      ap (λ (qs : List Piece). pieces_at point qs +ℚ whole z) row.relaxed_are
          ∙ ap (λ x. x +ℚ whole z) (pieces_joined point row.raised (row.gap ∷ []))
          ∙ ap (λ x. (r +ℚ (x +ℚ whole (pos 0))) +ℚ whole z) gap_is
          ∙ taken_off r p (whole z) a b ∙ ap (λ x. x -ℚ (a -ℚ b)) adds ∙ left_over a b,
    )
