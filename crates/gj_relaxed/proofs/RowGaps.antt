-- What a row gains when its pieces are raised to the grid.
use Rattle.std.proofs.Common.{◌≡◌, ◌≢◌, ◌<◌, ◌≤◌, ℕ, ◌+◌, List, [], ◌∷◌, ◌++◌, length, take, drop, get_or, set, false, unsigned_abs, ℤ, pos, negsuc, ◌+ℤ◌, ◌-ℤ◌, ◌*ℤ◌, append_assoc, append-nil, refl, sym, ap, ap₂, subst, subst₂, ◌∙◌, arith}
use Rattle.std.specs.List.{AllZip}
use Rattle.std.proofs.Math.ListN.{drop_of_length-le}
use Rattle.std.proofs.lemmas.List.{take_all, drop_more, take-append-drop}
use Rattle.gj_frac.specs.declared.Frac.{Frac}
use Rattle.gj_frac.specs.Fraction.{SameValue, fraction_of, difference_of}
use Rattle.gj_frac.proofs.Crosswise.{denominators_some}
use Rattle.gj_lemmas.proofs.Integers.{mul_cancel_right_z, swap_last_z}
use Rattle.gj_lemmas.proofs.Ring.{by_ring, ring}
use Rattle.gj_fields.specs.Rational.{Rational, whole, rational, ◌+ℚ◌, ◌*ℚ◌, neg_ℚ, ◌-ℚ◌}
use Rattle.gj_problem.specs.Moves.{IsBelowOnGrid}
use Rattle.gj_fields.proofs.RationalLaws.{equal_q, sum_is}
use Rattle.gj_fields.proofs.RationalRing.{by_ring_q, ring_q}
use Rattle.gj_problem.specs.declared.problem.Inequality.{Inequality}
use Rattle.gj_problem.specs.declared.pieces.Piece.{Piece}
use Rattle.gj_problem.specs.declared.sums.Sum.{Sum}
use Rattle.gj_problem.specs.Problems.{surplus_at, AreTermsWithin}
use Rattle.gj_problem.specs.Rows.{dot}
use Rattle.gj_problem.specs.Aggregates.{pieces_at}
use Rattle.gj_problem.proofs.MadePieces.{zip_joined, pieces_joined}
use Rattle.gj_safe_cut.specs.AddedTerms.{surplus_of_sum}
use Rattle.gj_relaxed.specs.RelaxedRows.{IsRaised, IsGap, IsWideGapTerm, AreWideGapTerms}
use Rattle.gj_relaxed.proofs.ChangedPieces.{item_is, item_taken, item_set, item_changed, all_changed}
use Rattle.gj_relaxed.specs.RaisedPieces.{IsRise, AreRaised, IsWideRaising}

-- ---- differences

difference_cross : (xt xd yt yd zt zd st sd : ℤ) → zt *ℤ (xd *ℤ yd) ≡ (xt *ℤ yd -ℤ yt *ℤ xd) *ℤ zd →
    st *ℤ (zd *ℤ yd) ≡ (zt *ℤ yd +ℤ yt *ℤ zd) *ℤ sd → unsigned_abs (zd *ℤ yd) ≢ 0 →
    st *ℤ xd ≡ xt *ℤ sd
difference_cross xt xd yt yd zt zd st sd h k some =
    mul_cancel_right_z (st *ℤ xd) (xt *ℤ sd) (zd *ℤ yd)
    (swap_last_z st xd (zd *ℤ yd) ∙ ap (λ w. w *ℤ xd) k ∙ first xd yt yd zt zd sd
    ∙ ap (λ w. (w +ℤ (yt *ℤ xd) *ℤ zd) *ℤ sd) h
    ∙ second xt xd yt yd zd sd)
    some
  where
    first : (xd yt yd zt zd sd : ℤ) →
        ((zt *ℤ yd +ℤ yt *ℤ zd) *ℤ sd) *ℤ xd ≡ (zt *ℤ (xd *ℤ yd) +ℤ (yt *ℤ xd) *ℤ zd) *ℤ sd
    first xd yt yd zt zd sd = by_ring (xd ∷ yt ∷ yd ∷ zt ∷ zd ∷ sd ∷ []) (search ring depth 40) refl

    second : (xt xd yt yd zd sd : ℤ) → ((xt *ℤ yd -ℤ yt *ℤ xd) *ℤ zd +ℤ (yt *ℤ xd) *ℤ zd) *ℤ sd
        ≡ (xt *ℤ sd) *ℤ (zd *ℤ yd)
    second xt xd yt yd zd sd =
        by_ring (xt ∷ xd ∷ yt ∷ yd ∷ zd ∷ sd ∷ []) (search ring depth 40) refl

taken_away : (y z : Rational) → z ≡ (z +ℚ y) -ℚ y
taken_away y z = by_ring_q (y ∷ z ∷ []) (search ring_q depth 40) refl

pub difference_value : (x y z : Frac) →
    SameValue (fraction_of z) (difference_of (fraction_of x) (fraction_of y)) →
    rational z ≡ rational x -ℚ rational y
difference_value x y z h =
    let s = rational z +ℚ rational y in
    taken_away (rational y) (rational z)
    ∙ ap (λ w. w -ℚ rational y)
    (equal_q s (rational x)
    (difference_cross x.num x.den y.num y.den z.num z.den s.top s.bottom h
    (sum_is (rational z) (rational y)) (denominators_some z y)))

-- ---- pieces that are raised

pub none_raised : (n : ℕ) (sum : Sum) → AreRaised n [] [] sum sum
none_raised n sum = record {
  raised_are = tt;
  count = refl;
  adds =
      λ point. nothing (surplus_of_sum sum point);
}
  where
    nothing : (x : Rational) → x ≡ x +ℚ (whole (pos 0) -ℚ whole (pos 0))
    nothing x = by_ring_q (x ∷ []) (search ring_q depth 40) refl

both_gained : (x r p t q : Rational) → (x +ℚ (r -ℚ p)) +ℚ (t -ℚ q) ≡ x +ℚ ((r +ℚ t) -ℚ (p +ℚ q))
both_gained x r p t q = by_ring_q (x ∷ r ∷ p ∷ t ∷ q ∷ []) (search ring_q depth 60 fits 3000) refl

-- what the pieces of both lists gain
pub gained_in_both : (point : List Rational) (ps rs qs ts : List Piece) (old now next : Rational) →
    now ≡ old +ℚ (pieces_at point rs -ℚ pieces_at point ps) →
    next ≡ now +ℚ (pieces_at point ts -ℚ pieces_at point qs) →
    next ≡ old +ℚ (pieces_at point (rs ++ ts) -ℚ pieces_at point (ps ++ qs))
gained_in_both point ps rs qs ts old now next h k =
    k ∙ ap (λ w. w +ℚ (pieces_at point ts -ℚ pieces_at point qs)) h
    ∙ both_gained old (pieces_at point rs) (pieces_at point ps) (pieces_at point ts)
    (pieces_at point qs)
    ∙ ap₂ (λ a b. old +ℚ (a -ℚ b)) (sym (pieces_joined point rs ts))
    (sym (pieces_joined point ps qs))

-- what those of the second list gain, if this is what both gain
pub gained_after : (point : List Rational) (ps rs qs ts : List Piece) (old now next : Rational) →
    now ≡ old +ℚ (pieces_at point rs -ℚ pieces_at point ps) →
    next ≡ old +ℚ (pieces_at point (rs ++ ts) -ℚ pieces_at point (ps ++ qs)) →
    next ≡ now +ℚ (pieces_at point ts -ℚ pieces_at point qs)
gained_after point ps rs qs ts old now next h k =
    k ∙ ap₂ (λ a b. old +ℚ (a -ℚ b)) (pieces_joined point rs ts) (pieces_joined point ps qs)
    ∙ sym (both_gained old (pieces_at point rs) (pieces_at point ps) (pieces_at point ts)
    (pieces_at point qs))
    ∙ ap (λ w. w +ℚ (pieces_at point ts -ℚ pieces_at point qs)) (sym h)

pub raised_joined : (n : ℕ) (ps rs qs ts : List Piece) (old now next : Sum) →
    AreRaised n ps rs old now → AreRaised n qs ts now next →
    AreRaised n (ps ++ qs) (rs ++ ts) old next
raised_joined n ps rs qs ts old now next h k = record {
  raised_are = zip_joined (IsRaised n) ps qs rs ts h.raised_are k.raised_are;
  count = k.count ∙ h.count;
  adds = λ point. gained_in_both point ps rs qs ts (surplus_of_sum old point)
      (surplus_of_sum now point) (surplus_of_sum next point)
      (h.adds point) (k.adds point);
}

pub one_gain : (e f v : Rational) →
    (f -ℚ e) *ℚ v ≡ (f *ℚ v +ℚ whole (pos 0)) -ℚ (e *ℚ v +ℚ whole (pos 0))
one_gain e f v = by_ring_q (e ∷ f ∷ v ∷ []) (search ring_q depth 60 fits 3000) refl

pub one_raised : (n : ℕ) (s s' : Piece) (old new : Sum) → IsRaised n s s' →
    IsRise s s'.entry old new → AreRaised n (s ∷ []) (s' ∷ []) old new
one_raised n s s' old new is rise = record {
  raised_are = (is, tt);
  count = rise.count;
  adds = λ point.
      let v = surplus_at point s.inequality in
      rise.adds point
      ∙ ap (λ w. surplus_of_sum old point +ℚ w)
      (one_gain (rational s.entry) (rational s'.entry) v
      ∙ ap (λ (q : Inequality). (rational s'.entry *ℚ surplus_at point q +ℚ whole (pos 0))
      -ℚ (rational s.entry *ℚ v +ℚ whole (pos 0)))
      (sym is.inequality));
}

-- ---- the gap

-- no coefficient, against what the right side changes by
pub record IsBegun (columns : ℕ) (right right' : Frac) (sum : Sum) : Type 0 where
  pub count : length sum.coefficients.items ≡ columns
  pub none : (point : List Rational) → dot sum.coefficients.items point ≡ whole (pos 0)
  pub right_is : rational sum.right ≡ rational right' -ℚ rational right

pub begun_at : (columns : ℕ) (right right' : Frac) (sum : Sum) → IsBegun columns right right' sum →
    (point : List Rational) →
    surplus_of_sum sum point ≡ rational right -ℚ rational right'
begun_at columns right right' sum begun point =
    ap₂ (λ a b. a -ℚ b) (begun.none point) begun.right_is
    ∙ turned (rational right) (rational right')
  where
    turned : (r r' : Rational) → whole (pos 0) -ℚ (r' -ℚ r) ≡ r -ℚ r'
    turned r r' = by_ring_q (r ∷ r' ∷ []) (search ring_q depth 40) refl

pub gap_from : (n columns : ℕ) (ps rs : List Piece) (right right' entry : Frac) (none last : Sum)
    (q : Inequality) → IsBegun columns right right' none →
    AreRaised n ps rs none last →
    ((point : List Rational) → surplus_at point q ≡ surplus_of_sum last point) →
    AreTermsWithin 0 (length last.coefficients.items) q.entries →
    rational entry ≡ whole (negsuc 0) →
    IsGap columns ps rs right right' (record { entry = entry; inequality = q; is_whole = false })
gap_from n columns ps rs right right' entry none last q begun h made terms entry_is = record {
  entry = entry_is;
  is_whole = refl;
  surplus = λ point. made point ∙ h.adds point
      ∙ ap (λ x. x +ℚ (pieces_at point rs -ℚ pieces_at point ps))
      (begun_at columns right right' none begun point);
  terms = subst (λ (k : ℕ). AreTermsWithin 0 k q.entries) (h.count ∙ begun.count) terms;
}

-- ---- a number that does not fit

-- it is so in more columns that are as many, and with what was there in other words
pub wide_along : (n c d : ℕ) (there other : List Rational → Rational) (ps : List Piece) → c ≡ d →
    ((point : List Rational) → there point ≡ other point) →
    AreWideGapTerms n c there ps → AreWideGapTerms n d other ps
wide_along n c d there other ps count same w = record {
  before = w.before;
  next = w.next;
  after = w.after;
  place = w.place;
  raised = w.raised;
  raised_are = w.raised_are;
  sum = w.sum;
  right = w.right;
  count = w.count ∙ count;
  adds = λ point. w.adds point
      ∙ ap (λ x. x +ℚ (pieces_at point w.raised -ℚ pieces_at point w.before)) (same point);
  wide = w.wide;
}

pub wide_in_first : (n c : ℕ) (there : List Rational → Rational) (ps qs : List Piece) →
    AreWideGapTerms n c there ps →
    AreWideGapTerms n c there (ps ++ qs)
wide_in_first n c there ps qs w = record {
  before = w.before;
  next = w.next;
  after = w.after ++ qs;
  place = ap (λ (xs : List Piece). xs ++ qs) w.place ∙ append_assoc w.before (w.next ∷ w.after) qs;
  raised = w.raised;
  raised_are = w.raised_are;
  sum = w.sum;
  right = w.right;
  count = w.count;
  adds = w.adds;
  wide = w.wide;
}

pub wide_in_second : (n : ℕ) (ps rs qs : List Piece) (old now : Sum) → AreRaised n ps rs old now →
    AreWideGapTerms n (length now.coefficients.items) (surplus_of_sum now) qs →
    AreWideGapTerms n (length old.coefficients.items) (surplus_of_sum old) (ps ++ qs)
wide_in_second n ps rs qs old now h w = record {
  before = ps ++ w.before;
  next = w.next;
  after = w.after;
  place = ap (λ (xs : List Piece). ps ++ xs) w.place
      ∙ sym (append_assoc ps w.before (w.next ∷ w.after));
  raised = rs ++ w.raised;
  raised_are = zip_joined (IsRaised n) ps w.before rs w.raised h.raised_are w.raised_are;
  sum = w.sum;
  right = w.right;
  count = w.count ∙ h.count;
  adds = λ point. gained_in_both point ps rs w.before w.raised (surplus_of_sum old point)
      (surplus_of_sum now point)
      (dot w.sum point -ℚ rational w.right) (h.adds point) (w.adds point);
  wide = w.wide;
}

-- ---- pieces that are raised one after the other

-- those before the index have been raised, and the others are as they were
module _ (n : ℕ) (ps now made : List Piece) (i : ℕ) (s : Piece) (below : i < length ps)
    (is : now ≡ made ++ drop i ps)
    (raised_are : AllZip (IsRaised n) (take i ps) made) where
  pub next_is : get_or now i s ≡ get_or ps i s
  next_is = item_is (IsRaised n) ps now made i s below is raised_are

  pub next_taken : take (i + 1) ps ≡ take i ps ++ get_or now i s ∷ []
  next_taken = item_taken (IsRaised n) ps now made i s below is raised_are

  pub next_set : (raised : Piece) → set now i raised ≡ (made ++ raised ∷ []) ++ drop (i + 1) ps
  next_set = item_set (IsRaised n) ps now made i s below is raised_are

  pub next_raised : (entry : Frac) →
      IsBelowOnGrid n (neg_ℚ (rational (get_or now i s).entry)) (neg_ℚ (rational entry)) →
      AllZip (IsRaised n) (take (i + 1) ps)
      (made ++ record {
        entry = entry;
        inequality = (get_or now i s).inequality;
        is_whole =
            (get_or now i s).is_whole;
      } ∷ [])
  next_raised entry on_grid =
      let next = get_or now i s in
      item_changed (IsRaised n) ps now made i s below is raised_are
      (record { entry = entry; inequality = next.inequality; is_whole = next.is_whole })
      (record { entry = on_grid; inequality = refl; is_whole = refl })

-- and what they gain has been added
module _ (n : ℕ) (ps now made : List Piece) (i : ℕ) (s : Piece) (old sum : Sum)
    (below : i < length ps)
    (is : now ≡ made ++ drop i ps) (h : AreRaised n (take i ps) made old sum) where
  abbrev next : Piece
  next = get_or now i s

  pub raised_next : (entry : Frac) (last : Sum) →
      IsBelowOnGrid n (neg_ℚ (rational next.entry)) (neg_ℚ (rational entry)) →
      IsRise next entry sum last →
      (more : List Piece) × (set now i
      (record { entry = entry; inequality = next.inequality; is_whole = next.is_whole })
      ≡ more ++ drop (i + 1) ps)
      × AreRaised n (take (i + 1) ps) more old last
  raised_next entry last on_grid rise =
      let raised : Piece =
      record { entry = entry; inequality = next.inequality; is_whole = next.is_whole } in (
        made ++ raised ∷ [],
        next_set n ps now made i s below is h.raised_are raised,
        subst (λ (xs : List Piece). AreRaised n xs (made ++ raised ∷ []) old last)
            (sym (next_taken n ps now made i s below is h.raised_are))
            (raised_joined n (take i ps) made (next ∷ []) (raised ∷ []) old sum last h
            (one_raised n next raised sum last
            (record { entry = on_grid; inequality = refl; is_whole = refl }) rise)),
      )

  pub wide_at : IsWideGapTerm n sum.coefficients.items sum.right next → IsWideRaising n ps old
  wide_at wide = record {
    before = take i ps;
    next = next;
    after = drop (i + 1) ps;
    place = sym (take-append-drop i ps)
        ∙ ap (λ (xs : List Piece). take i ps ++ xs)
        (drop_more ps i s below
        ∙ ap (λ (z : Piece). z ∷ drop (i + 1) ps)
        (sym (next_is n ps now made i s below is h.raised_are)));
    raised = made;
    raised_are = h.raised_are;
    sum = sum.coefficients.items;
    right = sum.right;
    count = h.count;
    adds = h.adds;
    wide = wide;
  }

pub all_back : (n : ℕ) (ps now made : List Piece) (i : ℕ) → length ps ≤ i →
    now ≡ made ++ drop i ps → AllZip (IsRaised n) (take i ps) made →
    AllZip (IsRaised n) ps now
all_back n = all_changed (IsRaised n)

pub all_raised : (n : ℕ) (ps now made : List Piece) (i : ℕ) (old sum : Sum) → length ps ≤ i →
    now ≡ made ++ drop i ps →
    AreRaised n (take i ps) made old sum → AreRaised n ps now old sum
all_raised n ps now made i old sum end is h =
    subst₂ (λ (xs ys : List Piece). AreRaised n xs ys old sum) (take_all i ps end)
    (sym (is ∙ ap (λ (xs : List Piece). made ++ xs) (drop_of_length-le ps end) ∙ append-nil made)) h

-- what is written to a list as long as the list takes its place
pub written_back : {A : Type 0} (xs ys : List A) (n : ℕ) → length ys ≡ length xs → n ≡ length xs →
    take n (ys ++ drop (length ys) xs) ≡ ys
written_back {A} xs ys n same n_is =
    ap (λ (zs : List A). take n (ys ++ zs)) (drop_of_length-le xs (omega (arith, same)))
    ∙ ap (λ (zs : List A). take n zs) (append-nil ys) ∙ take_all n ys (omega (arith, same, n_is))
