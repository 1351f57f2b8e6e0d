-- Where all numbers of a rounding fit, none is said not to.
use Rattle.std.proofs.Common.{◌≡◌, ⊎_elim, ℕ, ◌+◌, ◌<◌, List, [], ◌∷◌, ◌++◌, length, get_or, take, Option, Some, None, refl, sym, ap, subst, subst₂, ◌∙◌}
use Rattle.gj_frac.specs.declared.Frac.{Frac}
use Rattle.gj_frac.specs.Fits.{FitsProduct, FitsSum}
use Rattle.gj_fields.specs.Rational.{Rational, rational, ◌+ℚ◌, neg_ℚ, ◌-ℚ◌}
use Rattle.gj_problem.specs.declared.problem.Entry.{Entry}
use Rattle.gj_problem.specs.declared.problem.Inequality.{Inequality}
use Rattle.gj_problem.specs.declared.problem.Problem.{Problem}
use Rattle.gj_problem.specs.Moves.{IsBelowOnGrid}
use Rattle.gj_problem.specs.RoundedCuts.{lower_of, upper_of, IsMoved, AreMoved, IsFreeEntry, total_of, IsWideTimes, IsWideChange, IsWideMove, IsWideEntryAt, IsWideRounding}
use Rattle.gj_problem.proofs.Failing.{Fails, true_at, none_around, none_at_first, none_next}
use Rattle.gj_problem.proofs.MovedEntries.{AreMovedTo, double_neg, none_free_in, not_free_at}
use Rattle.gj_problem.proofs.OneMove.{one_above, one_below}
use Rattle.gj_problem.proofs.OneRounding.{one_moved_to, one_moving}
use Rattle.gj_problem.proofs.OneRow.{rational_injective}
use Rattle.gj_problem.proofs.WideRoundings.{no_more}

-- ---- one coefficient

pub narrow_change : (x y bound m d : Frac) → rational m ≡ neg_ℚ (rational x) → FitsSum y m →
    rational d ≡ rational y -ℚ rational x →
    FitsProduct d bound → IsWideChange x y bound → ⊥
narrow_change x y bound m d m_is fits d_is product (k, k_is, wide) =
    let same : m ≡ k = rational_injective m k (m_is ∙ sym k_is) in
    ⊎_elim
    (λ (a : FitsSum y k → ⊥). a (subst (FitsSum y) same fits))
    (λ (b : (c : Frac) × (rational c ≡ rational y -ℚ rational x) × (FitsProduct c bound → ⊥)).
    b.2 (subst (λ (c : Frac). FitsProduct c bound) (rational_injective d b.0 (d_is ∙ sym b.1))
    product))
    wide

pub narrow_raised : (n : ℕ) (x m z value l : Frac) (upper : Option Frac) →
    rational m ≡ neg_ℚ (rational x) → (IsWideTimes n m → ⊥) →
    IsBelowOnGrid n (rational m) (rational z) → rational value ≡ neg_ℚ (rational z) →
    (IsWideChange x value l → ⊥) →
    IsWideMove n (Some l) upper x → ⊥
narrow_raised n x m z value l upper m_is times below value_is change =
    ⊎_elim
    (λ (a : (k : Frac) × (rational k ≡ neg_ℚ (rational x)) × IsWideTimes n k).
    times (subst (IsWideTimes n) (rational_injective a.0 m (a.1 ∙ sym m_is)) a.2))
    (λ (b : (y : Frac) × IsBelowOnGrid n (neg_ℚ (rational x)) (neg_ℚ (rational y)) × IsWideChange x y l).
    let on : IsBelowOnGrid n (neg_ℚ (rational x)) (neg_ℚ (rational value)) =
    subst₂ (IsBelowOnGrid n) m_is (sym (ap neg_ℚ value_is ∙ double_neg (rational z))) below in
    let same : b.0 ≡ value =
    rational_injective b.0 value
    (one_above n (rational x) (rational b.0) (rational value) b.1 on) in
    change (subst (λ (y : Frac). IsWideChange x y l) same b.2))

pub narrow_lowered : (n : ℕ) (x value u : Frac) → (IsWideTimes n x → ⊥) →
    IsBelowOnGrid n (rational x) (rational value) →
    (IsWideChange x value u → ⊥) → IsWideMove n None (Some u) x → ⊥
narrow_lowered n x value u times below change =
    ⊎_elim times
    (λ (b : (y : Frac) × IsBelowOnGrid n (rational x) (rational y) × IsWideChange x y u).
    let same : b.0 ≡ value =
    rational_injective b.0 value
    (one_below n (rational x) (rational b.0) (rational value) b.1 below) in
    change (subst (λ (y : Frac). IsWideChange x y u) same b.2))

-- ---- one entry

module _ (p : Problem) (n : ℕ) where
  pub narrow_moved_entry : (e : Entry) (right y shift : Frac) →
      (IsWideMove n (lower_of p e.column) (upper_of p e.column) e.value → ⊥) →
      IsMoved n (lower_of p e.column) (upper_of p e.column) (rational e.value) (rational y)
      (rational shift) → FitsSum right shift →
      IsWideEntryAt p n right e → ⊥
  narrow_moved_entry e right y shift narrow moved fits =
      let lower = lower_of p e.column in
      let upper = upper_of p e.column in
      ⊎_elim narrow
      (λ (k : (z : Frac) × (s : Frac) × IsMoved n lower upper (rational e.value) (rational z) (rational s) × (FitsSum right s → ⊥)).
      let same = one_moved_to n lower upper (rational e.value) (rational y) (rational k.0)
      (rational shift) (rational k.1) moved k.2 in
      k.3 (subst (FitsSum right) (rational_injective shift k.1 same.1) fits))

  -- a free entry is not moved
  narrow_free_entry : (e : Entry) (right : Frac) →
      (IsWideMove n (lower_of p e.column) (upper_of p e.column) e.value → ⊥) →
      IsFreeEntry p n e → IsWideEntryAt p n right e → ⊥
  narrow_free_entry e right narrow free =
      let lower = lower_of p e.column in
      let upper = upper_of p e.column in
      ⊎_elim narrow
      (λ (k : (z : Frac) × (s : Frac) × IsMoved n lower upper (rational e.value) (rational z) (rational s) × (FitsSum right s → ⊥)).
      absurd (not_free_at p n e (rational k.0) (rational k.1) lower upper refl refl k.2 free))

  -- ---- all entries

  -- the entries before it have been moved, and then it is at this entry
  abbrev IsWideNow : Frac → List Entry → Entry → Type 0
  IsWideNow given before e = (moved : List Entry) × (shifts : List Rational)
      × AreMoved p n before moved shifts
      × (right : Frac) × (rational right ≡ rational given +ℚ total_of shifts)
      × IsWideEntryAt p n right e

  -- so it is at one of these entries
  abbrev pub HasWideEntry : Frac → List Entry → Type 0
  HasWideEntry given es = Fails (IsWideNow given) es

  one_right : (es fs gs : List Entry) (given now right : Frac) (shifts : List Rational) →
      AreMovedTo p n es fs (rational given) (rational now) → AreMoved p n es gs shifts →
      rational right ≡ rational given +ℚ total_of shifts →
      right ≡ now
  one_right es fs gs given now right shifts h moved right_is =
      let same = one_moving p n es h.entries gs h.shifts shifts h.moved moved in
      rational_injective right now
      (right_is ∙ ap (λ (ss : List Rational). rational given +ℚ total_of ss) (sym same.1)
      ∙ sym h.right_is)

  narrow_now : (es fs : List Entry) (given now : Frac) (e : Entry) →
      AreMovedTo p n es fs (rational given) (rational now) →
      (IsWideEntryAt p n now e → ⊥) → IsWideNow given es e → ⊥
  narrow_now es fs given now e h narrow (moved, shifts, are, right, right_is, wide) =
      narrow (subst (λ (r : Frac). IsWideEntryAt p n r e)
      (one_right es fs moved given now right shifts h are right_is) wide)

  pub narrow_of_none : (given : Frac) → HasWideEntry given [] → ⊥
  narrow_of_none given = none_at_first (IsWideNow given)

  pub narrow_next : (es fs : List Entry) (i : ℕ) (given now : Frac) (e : Entry) → i < length es →
      e ≡ get_or es i e →
      AreMovedTo p n (take i es) fs (rational given) (rational now) →
      (HasWideEntry given (take i es) → ⊥) → (IsWideEntryAt p n now e → ⊥) →
      HasWideEntry given (take (i + 1) es) → ⊥
  narrow_next es fs i given now e below here h none narrow =
      none_next (IsWideNow given) es i e below here none
      (narrow_now (take i es) fs given now e h narrow)

  in_some : (q : Inequality) (h : IsWideRounding p n q) (e : Entry) (rest : List Entry) →
      h.after ≡ e ∷ rest → IsWideEntryAt p n h.right e →
      HasWideEntry q.right q.entries
  in_some q h e rest are wide = record {
    before = h.before;
    next = e;
    after = rest;
    place = h.place ∙ ap (λ (es : List Entry). h.before ++ es) are;
    fails = (h.moved, h.shifts, h.moved_before, h.right, h.right_is, wide);
  }

  -- all are moved, and then the right side fits
  pub narrow_rounding : (q : Inequality) (fs : List Entry) (now : Frac) →
      AreMovedTo p n q.entries fs (rational q.right) (rational now) →
      (HasWideEntry q.right q.entries → ⊥) → (IsWideTimes n now → ⊥) → IsWideRounding p n q → ⊥
  narrow_rounding q fs now h none narrow w =
      ⊎_elim
      (λ (a : (w.after ≡ []) × IsWideTimes n w.right).
      let all : w.before ≡ q.entries =
      sym (w.place ∙ ap (λ (es : List Entry). w.before ++ es) a.0 ∙ sym (no_more w.before)) in
      let moved : AreMoved p n q.entries w.moved w.shifts =
      subst (λ (es : List Entry). AreMoved p n es w.moved w.shifts) all w.moved_before in
      narrow (subst (IsWideTimes n)
      (one_right q.entries fs w.moved q.right now w.right w.shifts h moved w.right_is) a.1))
      (λ (b : (e : Entry) × (rest : List Entry) × (w.after ≡ e ∷ rest) × IsWideEntryAt p n w.right e).
      none (in_some q w b.0 b.1 b.2 b.3))
      w.wide

  -- behind a free entry nothing is moved
  pub narrow_to_free : (q : Inequality) (front fs back : List Entry) (now : Frac) (e : Entry) →
      q.entries ≡ front ++ e ∷ back →
      AreMovedTo p n front fs (rational q.right) (rational now) → (HasWideEntry q.right front → ⊥) →
      (IsWideMove n (lower_of p e.column) (upper_of p e.column) e.value → ⊥) → IsFreeEntry p n e →
      IsWideRounding p n q → ⊥
  narrow_to_free q front fs back now e place h none narrow free w =
      let IsHeldEntry : Entry → Type 0 = λ d. IsFreeEntry p n d → ⊥ in
      let not_all : (before moved rest : List Entry) (shifts : List Rational) →
      AreMoved p n before moved shifts → before ≡ front ++ e ∷ rest → ⊥ =
      λ before moved rest shifts are is.
      true_at IsHeldEntry before front rest e is (none_free_in p n before moved shifts are) free in
      ⊎_elim
      (λ (a : (w.after ≡ []) × IsWideTimes n w.right).
      let all : w.before ≡ q.entries =
      sym (w.place ∙ ap (λ (es : List Entry). w.before ++ es) a.0 ∙ sym (no_more w.before)) in
      not_all w.before w.moved back w.shifts w.moved_before (all ∙ place))
      (λ (b : (d : Entry) × (rest : List Entry) × (w.after ≡ d ∷ rest) × IsWideEntryAt p n w.right d).
      none_around (IsWideNow q.right) q.entries front back e place none
      (narrow_now front fs q.right now e h (narrow_free_entry e now narrow free))
      (λ before rest after next is split k. not_all before k.0 rest k.1 k.2 is)
      (in_some q w b.0 b.1 b.2 b.3))
      w.wide
