-- Where all numbers of a row on the grid fit, none is said not to.
use Rattle.std.proofs.Common.{◌≡◌, ◌≢◌, ◌<◌, ◌^◌, ◌⊎◌, ⊎_elim, ℕ, List, [], ◌∷◌, ◌++◌, length, pos, sym, ap, ap₂, subst, subst₂, ◌∙◌}
use Rattle.std.specs.List.{AllZip}
use Rattle.gj_frac.specs.declared.Frac.{Frac}
use Rattle.gj_frac.specs.Fraction.{numerator}
use Rattle.gj_frac.specs.Fits.{FitsDifference}
use Rattle.gj_fields.specs.Rational.{Rational, rational, neg_ℚ, ◌+ℚ◌, ◌-ℚ◌}
use Rattle.gj_problem.specs.declared.pieces.Piece.{Piece}
use Rattle.gj_problem.specs.Moves.{IsBelowOnGrid}
use Rattle.gj_problem.specs.Rows.{dot}
use Rattle.gj_problem.specs.Aggregates.{pieces_at}
use Rattle.gj_problem.specs.Steps.{IsWideAt, IsWideWithin}
use Rattle.gj_problem.proofs.Failing.{Fails, none_with, none_at_first, in_joined}
use Rattle.gj_problem.proofs.MadePieces.{zip_one, zip_split}
use Rattle.gj_problem.proofs.OneMove.{one_above, one_below}
use Rattle.gj_problem.proofs.OneRow.{rational_injective, same_sum, same_piece}
use Rattle.gj_safe_cut.specs.AddedTerms.{surplus_of}
use Rattle.gj_relaxed.specs.declared.rows.RightMove.{RightMove}
use Rattle.gj_relaxed.specs.declared.rows.RightMove.TheVariants.{Down, Kept}
use Rattle.gj_relaxed.specs.RelaxedProblems.{IsWideLifted}
use Rattle.gj_relaxed.specs.RelaxedRows.{IsRaised, Moves, IsWideRise, IsWideGapTerm, AreWideGapTerms, IsWideRight, IsWideRelaxedRow}
use Rattle.gj_relaxed.proofs.RowGaps.{gained_after}

-- ---- one piece

pub raised_entry_one : (n : ℕ) (x y z : Frac) →
    IsBelowOnGrid n (neg_ℚ (rational x)) (neg_ℚ (rational y)) →
    IsBelowOnGrid n (neg_ℚ (rational x)) (neg_ℚ (rational z)) → y ≡ z
raised_entry_one n x y z h k =
    rational_injective y z (one_above n (rational x) (rational y) (rational z) h k)

pub one_raised_piece : (n : ℕ) (s t u : Piece) → IsRaised n s t → IsRaised n s u → t ≡ u
one_raised_piece n s t u h k =
    let q = h.inequality ∙ sym k.inequality in
    same_piece t u (h.is_whole ∙ sym k.is_whole)
    (one_above n (rational s.entry) (rational t.entry) (rational u.entry) h.entry k.entry)
    (ap (λ i. i.entries) q) (ap (λ i. rational i.right) q)

pub one_raised_list : (n : ℕ) (ps rs ts : List Piece) → AllZip (IsRaised n) ps rs →
    AllZip (IsRaised n) ps ts → rs ≡ ts
one_raised_list n = zip_one (IsRaised n) (one_raised_piece n)

-- the change is one number
pub narrow_rise : (sum : List Frac) (right entry k : Frac) (s : Piece) →
    FitsDifference entry s.entry → rational k ≡ rational entry -ℚ rational s.entry →
    (numerator k ≢ pos 0 → IsWideWithin sum k s.inequality.entries
    ⊎ IsWideAt right k s.inequality.right → ⊥) → IsWideRise sum right s entry → ⊥
narrow_rise sum right entry k s fits is narrow =
    ⊎_elim (λ (wide : FitsDifference entry s.entry → ⊥). wide fits)
    (λ (w : (l : Frac) × (rational l ≡ rational entry -ℚ rational s.entry) × (numerator l ≢ pos 0)
    × (IsWideWithin sum l s.inequality.entries ⊎ IsWideAt right l s.inequality.right)).
    let same : w.0 ≡ k = rational_injective w.0 k (w.1 ∙ sym is) in
    narrow (subst (λ (l : Frac). numerator l ≢ pos 0) same w.2)
    (subst (λ (l : Frac). IsWideWithin sum l s.inequality.entries
    ⊎ IsWideAt right l s.inequality.right) same w.3))

pub narrow_gap_term : (n : ℕ) (sum : List Frac) (right entry : Frac) (s : Piece) →
    (IsWideLifted n s.entry → ⊥) →
    IsBelowOnGrid n (neg_ℚ (rational s.entry)) (neg_ℚ (rational entry)) →
    (IsWideRise sum right s entry → ⊥) → IsWideGapTerm n sum right s → ⊥
narrow_gap_term n sum right entry s lifts is rises =
    ⊎_elim lifts
    (λ (w : (s' : Piece) × IsRaised n s s' × IsWideRise sum right s s'.entry).
    rises (subst (IsWideRise sum right s) (raised_entry_one n s.entry w.0.entry entry w.1.entry is)
    w.2))

pub one_move : (move : RightMove) (n : ℕ) (right x y : Frac) → Moves move n right x →
    Moves move n right y → x ≡ y
one_move Down n right x y h k =
    rational_injective x y (one_below n (rational right) (rational x) (rational y) h k)
one_move Kept n right x y h k = h ∙ sym k

pub narrow_row : (move : RightMove) (n columns : ℕ) (ps : List Piece) (right right' : Frac) →
    (IsWideRight move n right → ⊥) → Moves move n right right' →
    FitsDifference right' right →
    (AreWideGapTerms n columns (λ point. rational right -ℚ rational right') ps → ⊥) →
    (2 ^ 32 < columns → ⊥) →
    IsWideRelaxedRow move n columns ps right → ⊥
narrow_row move n columns ps right right' goes moves fits terms few =
    ⊎_elim goes
    (λ (w : (x : Frac) × Moves move n right x
    × ((FitsDifference x right → ⊥)
    ⊎ (AreWideGapTerms n columns (λ point. rational right -ℚ rational x) ps
    ⊎ (2 ^ 32 < columns)))).
    let same : w.0 ≡ right' = one_move move n right w.0 right' w.1 moves in
    ⊎_elim (λ (wide : FitsDifference right' right → ⊥). wide fits) (⊎_elim terms few)
    (subst
    (λ (x : Frac). (FitsDifference x right → ⊥)
    ⊎ (AreWideGapTerms n columns (λ point. rational right -ℚ rational x) ps
    ⊎ (2 ^ 32 < columns)))
    same w.2))

-- ---- more pieces

module _ (n columns : ℕ) (there : List Rational → Rational) where
  -- the pieces before it have been raised, and then a number does not fit
  abbrev IsWideNow : List Piece → Piece → Type 0
  IsWideNow before next = (raised : List Piece) × AllZip (IsRaised n) before raised
      × (sum : List Frac) × (right : Frac) × (length sum ≡ columns)
      × ((point : List Rational) →
      dot sum point -ℚ rational right
      ≡ there point +ℚ (pieces_at point raised -ℚ pieces_at point before))
      × IsWideGapTerm n sum right next

  fails_raising : (ps : List Piece) → AreWideGapTerms n columns there ps → Fails IsWideNow ps
  fails_raising ps w = record {
    before = w.before;
    next = w.next;
    after = w.after;
    place = w.place;
    fails = (w.raised, w.raised_are, w.sum, w.right, w.count, w.adds, w.wide);
  }

  raising_fails : (ps : List Piece) → Fails IsWideNow ps → AreWideGapTerms n columns there ps
  raising_fails ps f = record {
    before = f.before;
    next = f.next;
    after = f.after;
    place = f.place;
    raised = f.fails.0;
    raised_are = f.fails.1;
    sum = f.fails.2;
    right = f.fails.3;
    count = f.fails.4;
    adds = f.fails.5;
    wide = f.fails.6;
  }

  pub narrow_none : AreWideGapTerms n columns there [] → ⊥
  narrow_none w = none_at_first IsWideNow (fails_raising [] w)

  pub narrow_with : (ps rs : List Piece) (s : Piece) (sum : List Frac) (right : Frac) →
      AllZip (IsRaised n) ps rs → length sum ≡ columns →
      ((point : List Rational) →
      dot sum point -ℚ rational right
      ≡ there point +ℚ (pieces_at point rs -ℚ pieces_at point ps)) →
      (AreWideGapTerms n columns there ps → ⊥) → (IsWideGapTerm n sum right s → ⊥) →
      AreWideGapTerms n columns there (ps ++ s ∷ []) → ⊥
  narrow_with ps rs s sum right raised count adds none narrow w =
      none_with IsWideNow ps s (λ f. none (raising_fails ps f))
      (λ (h : IsWideNow ps s).
      let same = same_sum h.2 sum h.3 right (h.4 ∙ sym count)
      (λ point. h.5 point
      ∙ ap (λ (ts : List Piece). there point +ℚ (pieces_at point ts -ℚ pieces_at point ps))
      (one_raised_list n ps h.0 rs h.1 raised)
      ∙ sym (adds point)) in
      narrow (subst₂ (λ (cs : List Frac) (r : Frac). IsWideGapTerm n cs r s) same.0 same.1 h.6))
      (fails_raising (ps ++ s ∷ []) w)

  -- nor is it so in two lists of pieces, one after the other
  pub narrow_joined : (ps rs qs : List Piece) (ds : List Frac) (t : Frac) →
      AllZip (IsRaised n) ps rs → length ds ≡ columns →
      ((point : List Rational) →
      surplus_of ds t point ≡ there point +ℚ (pieces_at point rs -ℚ pieces_at point ps)) →
      (AreWideGapTerms n columns there ps → ⊥) →
      (AreWideGapTerms n (length ds) (surplus_of ds t) qs → ⊥) →
      AreWideGapTerms n columns there (ps ++ qs) → ⊥
  narrow_joined ps rs qs ds t raised count adds before_narrow after_narrow w =
      ⊎_elim
      (λ (k : (rest : List Piece) × (ps ≡ w.before ++ w.next ∷ rest)).
      before_narrow (record {
        before = w.before;
        next = w.next;
        after = k.0;
        place = k.1;
        raised = w.raised;
        raised_are = w.raised_are;
        sum = w.sum;
        right = w.right;
        count = w.count;
        adds = w.adds;
        wide = w.wide;
      }))
      (λ (k : (front : List Piece) × (w.before ≡ ps ++ front) × (qs ≡ front ++ w.next ∷ w.after)).
      let (us, vs, are, head, tail) =
      zip_split (IsRaised n) ps k.0 w.raised
      (subst (λ (xs : List Piece). AllZip (IsRaised n) xs w.raised) k.1 w.raised_are) in
      after_narrow (record {
        before = k.0;
        next = w.next;
        after = w.after;
        place = k.2;
        raised = vs;
        raised_are = tail;
        sum = w.sum;
        right = w.right;
        count = w.count ∙ sym count;
        adds = λ point.
            gained_after point ps rs k.0 vs (there point) (surplus_of ds t point)
            (dot w.sum point -ℚ rational w.right) (adds point)
            (w.adds point
            ∙ ap₂ (λ (xs ys : List Piece). there point
            +ℚ (pieces_at point xs -ℚ pieces_at point ys))
            (are ∙ ap (λ (xs : List Piece). xs ++ vs) (one_raised_list n ps us rs head raised))
            k.1);
        wide = w.wide;
      }))
      (in_joined ps qs w.before w.after w.next w.place)
