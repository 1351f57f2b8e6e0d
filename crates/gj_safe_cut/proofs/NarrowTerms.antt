-- Where all numbers of a cut fit, none is said not to.
use Rattle.std.proofs.Common.{◌≡◌, ◌⊎◌, ⊎_elim, ℕ, ◌+◌, ◌<◌, List, [], ◌∷◌, ◌++◌, length, get_or, take, pos, refl, sym, ap, ap₂, subst, subst₂, ◌∙◌}
use Rattle.std.specs.List.{AllZip}
use Rattle.gj_frac.specs.declared.Frac.{Frac}
use Rattle.gj_fields.specs.Rational.{Rational, whole, rational, ◌+ℚ◌, ◌-ℚ◌}
use Rattle.gj_fields.proofs.RationalRing.{by_ring_q, ring_q}
use Rattle.gj_problem.specs.declared.pieces.Piece.{Piece}
use Rattle.gj_problem.specs.Aggregates.{combined_at}
use Rattle.gj_problem.specs.Rows.{dot}
use Rattle.gj_problem.specs.Steps.{IsWideAt, IsWideWithin}
use Rattle.gj_problem.proofs.Failing.{Fails, none_next, none_at_first, in_joined}
use Rattle.gj_problem.proofs.MadePieces.{zip_split}
use Rattle.gj_problem.proofs.OneRow.{same_sum}
use Rattle.gj_safe_cut.specs.SafeCuts.{IsCoefficient, HasNoCoefficient, IsWideTerm, IsWideSumOfTerms}
use Rattle.gj_safe_cut.specs.AddedTerms.{surplus_of, AreAdded, IsWideAdding, HasOneValue}
use Rattle.gj_safe_cut.proofs.OneTerms.{one_coefficient, one_list}
use Rattle.gj_safe_cut.proofs.TermSums.{IsBegun, combined_joined}
use Rattle.gj_problem.proofs.TurnedColumns.{one_left}

minus_one : (a : Rational) → a -ℚ whole (pos 1) ≡ (whole (pos 0) -ℚ whole (pos 1)) +ℚ a
minus_one a = by_ring_q (a ∷ []) (search ring_q depth 40) refl

module _ (IsValue : Frac → Frac → Type 0) (IsOut : Frac → Type 0) (up down : Frac)
    (one : HasOneValue IsValue) where
  abbrev Gives : Piece → Frac → Type 0
  Gives = IsCoefficient IsValue up down

  narrow_term : (sum : List Frac) (right : Frac) (s : Piece) (k : Frac) →
      (HasNoCoefficient IsOut up down s → ⊥) → Gives s k →
      (IsWideWithin sum k s.inequality.entries ⊎ IsWideAt right k s.inequality.right → ⊥) →
      IsWideTerm IsValue IsOut up down sum right s → ⊥
  narrow_term sum right s k some given narrow =
      ⊎_elim some
      (λ (w : (l : Frac) × Gives s l × (IsWideWithin sum l s.inequality.entries ⊎ IsWideAt right l s.inequality.right)).
      narrow (subst (λ (x : Frac). IsWideWithin sum x s.inequality.entries
      ⊎ IsWideAt right x s.inequality.right)
      (one_coefficient IsValue up down one s w.0 k w.1 given) w.2))

  -- the terms of the pieces before it have been added, and then a number does not fit
  abbrev IsWideNow : ℕ → (List Rational → Rational) → List Piece → Piece → Type 0
  IsWideNow n old before next = (coefficients : List Frac) × AllZip Gives before coefficients
      × (sum : List Frac) × (right : Frac)
      × (length sum ≡ n)
      × ((point : List Rational) →
      dot sum point -ℚ rational right ≡ old point +ℚ combined_at point coefficients before)
      × IsWideTerm IsValue IsOut up down sum right next

  fails_adding : (ps : List Piece) (n : ℕ) (old : List Rational → Rational) →
      IsWideAdding IsValue IsOut up down ps n old → Fails (IsWideNow n old) ps
  fails_adding ps n old w = record {
    before = w.before;
    next = w.next;
    after = w.after;
    place = w.place;
    fails = (w.coefficients, w.given, w.sum, w.right, w.count, w.adds, w.wide);
  }

  adding_fails : (ps : List Piece) (n : ℕ) (old : List Rational → Rational) →
      Fails (IsWideNow n old) ps → IsWideAdding IsValue IsOut up down ps n old
  adding_fails ps n old f = record {
    before = f.before;
    next = f.next;
    after = f.after;
    place = f.place;
    coefficients = f.fails.0;
    given = f.fails.1;
    sum = f.fails.2;
    right = f.fails.3;
    count = f.fails.4;
    adds = f.fails.5;
    wide = f.fails.6;
  }

  pub narrow_adding_none : (n : ℕ) (old : List Rational → Rational) →
      IsWideAdding IsValue IsOut up down [] n old → ⊥
  narrow_adding_none n old w = none_at_first (IsWideNow n old) (fails_adding [] n old w)

  pub narrow_adding_next : (ps : List Piece) (i : ℕ) (s : Piece) (k : Frac) (n : ℕ)
      (old : List Rational → Rational) (cs : List Frac) (r : Frac) →
      i < length ps → s ≡ get_or ps i s → AreAdded Gives (take i ps) old (surplus_of cs r) →
      length cs ≡ n →
      (IsWideAdding IsValue IsOut up down (take i ps) n old → ⊥) →
      (HasNoCoefficient IsOut up down s → ⊥) → Gives s k →
      (IsWideWithin cs k s.inequality.entries ⊎ IsWideAt r k s.inequality.right → ⊥) →
      IsWideAdding IsValue IsOut up down (take (i + 1) ps) n old → ⊥
  narrow_adding_next ps i s k n old cs r below here added count none some given narrow w =
      none_next (IsWideNow n old) ps i s below here (λ f. none (adding_fails (take i ps) n old f))
      (λ (h : IsWideNow n old (take i ps) s).
      let same = same_sum h.2 cs h.3 r (h.4 ∙ sym count)
      (λ point. h.5 point
      ∙ ap (λ (ks : List Frac). old point +ℚ combined_at point ks (take i ps))
      (one_list IsValue up down one (take i ps) h.0 added.coefficients h.1 added.given)
      ∙ sym (added.adds point)) in
      narrow_term cs r s k some given narrow
      (subst₂ (λ (xs : List Frac) (x : Frac). IsWideTerm IsValue IsOut up down xs x s) same.0 same.1
      h.6))
      (fails_adding (take (i + 1) ps) n old w)

  -- nor is it so in two lists of pieces, one after the other
  pub narrow_joined : (n m : ℕ) (ps qs : List Piece) (start middle : List Rational → Rational) →
      IsBegun n m start → AreAdded Gives ps start middle →
      (IsWideAdding IsValue IsOut up down ps m start → ⊥) →
      (IsWideAdding IsValue IsOut up down qs m middle → ⊥) →
      IsWideSumOfTerms IsValue IsOut up down n (ps ++ qs) → ⊥
  narrow_joined n m ps qs start middle begun first before_narrow after_narrow w =
      let reached : (point : List Rational) →
      dot w.sum point -ℚ rational w.right
      ≡ start point +ℚ combined_at point w.coefficients w.before =
      λ point. w.adds point ∙ minus_one (combined_at point w.coefficients w.before)
      ∙ ap (λ v. v +ℚ combined_at point w.coefficients w.before) (sym (begun.starts point)) in
      ⊎_elim
      (λ (k : (rest : List Piece) × (ps ≡ w.before ++ w.next ∷ rest)).
      before_narrow (record {
        before = w.before;
        next = w.next;
        after = k.0;
        place = k.1;
        coefficients = w.coefficients;
        given = w.given;
        sum = w.sum;
        right = w.right;
        count = w.count ∙ sym begun.count;
        adds = reached;
        wide = w.wide;
      }))
      (λ (k : (front : List Piece) × (w.before ≡ ps ++ front) × (qs ≡ front ++ w.next ∷ w.after)).
      let (ks, ls, are, head, tail) =
      zip_split Gives ps k.0 w.coefficients
      (subst (λ (us : List Piece). AllZip Gives us w.coefficients) k.1 w.given) in
      after_narrow (record {
        before = k.0;
        next = w.next;
        after = w.after;
        place = k.2;
        coefficients = ls;
        given = tail;
        sum = w.sum;
        right = w.right;
        count = w.count ∙ sym begun.count;
        adds = λ point.
            let x = start point in
            reached point
            ∙ ap₂ (λ (us : List Frac) (vs : List Piece). x +ℚ combined_at point us vs) are k.1
            ∙ ap (λ v. x +ℚ v) (combined_joined Gives point ps k.0 ks ls head)
            ∙ ap (λ (us : List Frac). x +ℚ (combined_at point us ps +ℚ combined_at point ls k.0))
            (one_list IsValue up down one ps ks first.coefficients head first.given)
            ∙ one_left x (combined_at point first.coefficients ps) (combined_at point ls k.0)
            ∙ ap (λ v. v +ℚ combined_at point ls k.0) (sym (first.adds point));
        wide = w.wide;
      }))
      (in_joined ps qs w.before w.after w.next w.place)
