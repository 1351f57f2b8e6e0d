-- What a row gains on a grid, added up over one denominator.
use Rattle.std.proofs.Common.{◌≡◌, ◌<◌, ◌^◌, ℕ, ◌+◌, List, [], ◌∷◌, ◌++◌, length, take, get_or, pos, refl, sym, ap, subst, ◌∙◌}
use Rattle.std.proofs.lemmas.List.{take_more}
use Rattle.std.proofs.lemmas.List.Elements.{All-append, All-cons, All-nil}
use Rattle.gj_frac.specs.declared.Frac.{Frac}
use Rattle.gj_fields.specs.Rational.{Rational, whole, rational, neg_ℚ, ◌+ℚ◌, ◌*ℚ◌, ◌-ℚ◌}
use Rattle.gj_problem.specs.Moves.{IsBelowOnGrid}
use Rattle.gj_frac.specs.Fits.{FitsDifference}
use Rattle.gj_problem.specs.Problems.{surplus_at, AreTermsWithin}
use Rattle.gj_problem.specs.Aggregates.{pieces_at}
use Rattle.gj_problem.specs.Rows.{dot}
use Rattle.gj_problem.specs.Combinations.{HasNone, IsAdded, IsInequalityOfParts}
use Rattle.gj_problem.specs.declared.problem.Inequality.{Inequality}
use Rattle.gj_problem.specs.declared.row.Row.{Row}
use Rattle.gj_problem.specs.declared.pieces.Piece.{Piece}
use Rattle.gj_problem.proofs.MadePieces.{zip_joined}
use Rattle.gj_fields.proofs.RationalRing.{by_ring_q, ring_q}
use Rattle.gj_safe_cut.specs.AddedTerms.{surplus_of}
use Rattle.gj_relaxed.specs.RelaxedProblems.{IsWideLifted}
use Rattle.gj_relaxed.specs.RelaxedRows.{IsRaised, Moves, IsRelaxedRow, IsWideRight, IsWideRelaxedRow}
use Rattle.gj_relaxed.specs.declared.rows.Gap.{Gap}
use Rattle.gj_relaxed.specs.declared.rows.RightMove.{RightMove}
use Rattle.gj_relaxed.specs.Gaps.{IsRiseAdded, AreRisesAdded, IsGapOfRow, IsRowWithGap}
use Rattle.gj_relaxed.proofs.RowGaps.{gained_in_both, one_gain, wide_along}
use Rattle.gj_relaxed.proofs.NarrowGaps.{narrow_none, narrow_with, narrow_joined, narrow_gap_term, narrow_row, one_raised_list}

nothing_gained : (x : Rational) → x ≡ x +ℚ (whole (pos 0) -ℚ whole (pos 0))
nothing_gained x = by_ring_q (x ∷ []) (search ring_q depth 40) refl

pub no_rises : (n : ℕ) (cs : List Frac) (r : Frac) → AreRisesAdded n [] cs r cs r
no_rises n cs r = record {
  count = refl;
  raised = [];
  raised_are = tt;
  adds = λ point. nothing_gained (surplus_of cs r point);
  can = All-nil (λ (s : Piece). IsWideLifted n s.entry → ⊥);
  fit = narrow_none n (length cs) (surplus_of cs r);
}

pub one_rise : (n : ℕ) (s : Piece) (entry : Frac) (cs : List Frac) (r : Frac) (ds : List Frac)
    (t : Frac) →
    IsBelowOnGrid n (neg_ℚ (rational s.entry)) (neg_ℚ (rational entry)) →
    (IsWideLifted n s.entry → ⊥) → IsRiseAdded s entry cs r ds t →
    AreRisesAdded n (s ∷ []) cs r ds t
one_rise n s entry cs r ds t on_grid lifts h = record {
  count = h.count;
  raised = record { entry = entry; inequality = s.inequality; is_whole = s.is_whole } ∷ [];
  raised_are = (record { entry = on_grid; inequality = refl; is_whole = refl }, tt);
  adds = λ point. h.adds point
      ∙ ap (λ w. surplus_of cs r point +ℚ w)
      (one_gain (rational s.entry) (rational entry) (surplus_at point s.inequality));
  can = All-cons (λ (s : Piece). IsWideLifted n s.entry → ⊥) s [] lifts
      (All-nil (λ (s : Piece). IsWideLifted n s.entry → ⊥));
  fit = narrow_with n (length cs) (surplus_of cs r) [] [] s cs r tt refl
      (λ point. nothing_gained (surplus_of cs r point))
      (narrow_none n (length cs) (surplus_of cs r))
      (narrow_gap_term n cs r entry s lifts on_grid h.fits);
}

pub rises_joined : (n : ℕ) (ps qs : List Piece) (cs : List Frac) (r : Frac) (ds : List Frac)
    (t : Frac) (es : List Frac) (u : Frac) →
    AreRisesAdded n ps cs r ds t → AreRisesAdded n qs ds t es u →
    AreRisesAdded n (ps ++ qs) cs r es u
rises_joined n ps qs cs r ds t es u h k = record {
  count = k.count ∙ h.count;
  raised = h.raised ++ k.raised;
  raised_are = zip_joined (IsRaised n) ps qs h.raised k.raised h.raised_are k.raised_are;
  adds = λ point. gained_in_both point ps h.raised qs k.raised (surplus_of cs r point)
      (surplus_of ds t point) (surplus_of es u point)
      (h.adds point) (k.adds point);
  can = All-append (λ (s : Piece). IsWideLifted n s.entry → ⊥) ps qs h.can k.can;
  fit = narrow_joined n (length cs) (surplus_of cs r) ps h.raised qs ds t h.raised_are h.count
      h.adds h.fit k.fit;
}

pub rises_next : (n : ℕ) (ps : List Piece) (i : ℕ) (s : Piece) (entry : Frac) (cs : List Frac)
    (r : Frac) (ds : List Frac) (t : Frac) (es : List Frac)
    (u : Frac) → i < length ps → s ≡ get_or ps i s →
    IsBelowOnGrid n (neg_ℚ (rational s.entry)) (neg_ℚ (rational entry)) →
    (IsWideLifted n s.entry → ⊥) → AreRisesAdded n (take i ps) cs r ds t →
    IsRiseAdded s entry ds t es u →
    AreRisesAdded n (take (i + 1) ps) cs r es u
rises_next n ps i s entry cs r ds t es u below here on_grid lifts h one =
    let more : take (i + 1) ps ≡ take i ps ++ s ∷ [] = take_more ps i s below
    ∙ ap (λ (z : Piece). take i ps ++ z ∷ []) (sym here) in
    subst (λ (xs : List Piece). AreRisesAdded n xs cs r es u) (sym more)
    (rises_joined n (take i ps) (s ∷ []) cs r ds t es u h
    (one_rise n s entry ds t es u on_grid lifts one))

-- ---- what the right side loses

pub lost_first : (columns : ℕ) (right right' fall one : Frac) (cs : List Frac) (r : Frac)
    (ds : List Frac) (t : Frac) → HasNone columns 0 cs r →
    rational fall ≡ rational right' -ℚ rational right → rational one ≡ whole (pos 1) →
    IsAdded cs r fall [] one ds t → (point : List Rational) →
    surplus_of ds t point ≡ rational right -ℚ rational right'
lost_first columns right right' fall one cs r ds t none fall_is one_is added point =
    added.adds point ∙ at_none (dot cs point) (rational r) (rational fall) (rational one)
    (rational right) (rational right') (none.none point)
    none.right_is fall_is one_is
  where
    turned : (r r' : Rational) →
        (whole (pos 0) -ℚ whole (pos 0)) +ℚ (r' -ℚ r) *ℚ (whole (pos 0) -ℚ whole (pos 1)) ≡ r -ℚ r'
    turned r r' = by_ring_q (r ∷ r' ∷ []) (search ring_q depth 60) refl

    at_none : (d e f g r r' : Rational) → d ≡ whole (pos 0) → e ≡ whole (pos 0) → f ≡ r' -ℚ r →
        g ≡ whole (pos 1) →
        (d -ℚ e) +ℚ f *ℚ (whole (pos 0) -ℚ g) ≡ r -ℚ r'
    at_none d e f g r r' d_is e_is f_is g_is =
        ap (λ x. (x -ℚ e) +ℚ f *ℚ (whole (pos 0) -ℚ g)) d_is
        ∙ ap (λ x. (whole (pos 0) -ℚ x) +ℚ f *ℚ (whole (pos 0) -ℚ g)) e_is
        ∙ ap (λ x. (whole (pos 0) -ℚ whole (pos 0)) +ℚ x *ℚ (whole (pos 0) -ℚ g)) f_is
        ∙ ap (λ x. (whole (pos 0) -ℚ whole (pos 0)) +ℚ (r' -ℚ r) *ℚ (whole (pos 0) -ℚ x)) g_is
        ∙ turned r r'

-- ---- two lists of pieces, after what the right side loses

module _ (move : RightMove) (n columns : ℕ) (ps qs : List Piece) (right right' fall one : Frac)
    (cs : List Frac) (r : Frac) (ds : List Frac) (t : Frac)
    (es : List Frac) (u : Frac) (vs : List Frac) (w : Frac) (none : HasNone columns 0 cs r)
    (fall_is : rational fall ≡ rational right' -ℚ rational right)
    (one_is : rational one ≡ whole (pos 1)) (added : IsAdded cs r fall [] one ds t)
    (first : AreRisesAdded n ps ds t es u)
    (second : AreRisesAdded n qs es u vs w) (q : Inequality) (made : IsInequalityOfParts vs w q)
    (moves : Moves move n right right') where
  both : AreRisesAdded n (ps ++ qs) ds t vs w
  both = rises_joined n ps qs ds t es u vs w first second

  lost : (point : List Rational) → surplus_of ds t point ≡ rational right -ℚ rational right'
  lost = lost_first columns right right' fall one cs r ds t none fall_is one_is added

  begun : length ds ≡ columns
  begun = added.count ∙ none.count

  pub gap_is : IsGapOfRow move n columns (ps ++ qs) right
      (record { inequality = q; right = right' })
  gap_is = record {
    right_is = moves;
    raised = both.raised;
    raised_are = both.raised_are;
    surplus = λ point. made.surplus point ∙ both.adds point
        ∙ ap (λ x. x +ℚ (pieces_at point both.raised -ℚ pieces_at point (ps ++ qs))) (lost point);
    terms = subst (λ (k : ℕ). AreTermsWithin 0 k q.entries) (both.count ∙ begun) made.terms;
    can = both.can;
  }

  pub gap_fits : (IsWideRight move n right → ⊥) → FitsDifference right' right →
      IsWideRelaxedRow move n columns (ps ++ qs) right → ⊥
  gap_fits goes fits =
      narrow_row move n columns (ps ++ qs) right right' goes moves fits
      (λ wide.
      both.fit (wide_along n columns (length ds) (λ point. rational right -ℚ rational right')
      (surplus_of ds t) (ps ++ qs) (sym begun)
      (λ point. sym (lost point)) wide))
      (subst (λ (k : ℕ). 2 ^ 32 < k → ⊥) (both.count ∙ begun) made.few)

-- ---- the row with its gap

pub gap_in_row : (move : RightMove) (n columns : ℕ) (row made : Row) (gap : Gap) →
    IsGapOfRow move n columns (row.slacks.items ++ row.bounds.items) row.right gap →
    IsRowWithGap n row gap made →
    IsRelaxedRow move n columns (row.slacks.items ++ row.bounds.items) row.right
    (made.slacks.items ++ made.bounds.items) made.right
gap_in_row move n columns row made gap h k =
    let ps = row.slacks.items ++ row.bounds.items in
    let same : h.raised ≡ k.raised =
    one_raised_list n ps h.raised k.raised h.raised_are k.raised_are in
    subst (λ (x : Frac). IsRelaxedRow move n columns ps row.right
    (made.slacks.items ++ made.bounds.items) x) (sym k.right_is)
    (record {
      raised = k.raised;
      raised_are = k.raised_are;
      right_is = h.right_is;
      gap = k.last;
      gap_is = record {
        entry = k.entry;
        is_whole = k.is_whole;
        surplus = λ point. ap (λ (q : Inequality). surplus_at point q) k.inequality
            ∙ h.surplus point
            ∙ ap (λ (rs : List Piece). (rational row.right -ℚ rational gap.right)
            +ℚ (pieces_at point rs -ℚ pieces_at point ps)) same;
        terms = subst (λ (q : Inequality). AreTermsWithin 0 columns q.entries)
            (sym k.inequality) h.terms;
      };
      relaxed_are = k.pieces;
    })
