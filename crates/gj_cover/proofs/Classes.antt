-- The class of the least uncovered interval.
use Rattle.std.proofs.Common.{◌≡◌, ◌≢◌, ℕ, ◌%◌, ◌<◌, ◌↔◌, ◌||◌, ◌&&◌, eqb, List, [], true, false, not, IsTrue, refl, sym, ap, ◌∙◌, subst, inl, inr, arith}
use Rattle.std.specs.List.{Contains}
use Rattle.std.specs.List.Sorted.{IsStrictlyIncreasing}
use Rattle.std.proofs.Math.Nat.{mod-lt, mod-eq_of_lt}
use Rattle.std.proofs.lemmas.Bool.{cases_order, cases_Bool, and_parts, and_from, and_right, or_cases, or_left, or_right, or_from, not-true, not_from_true, not_from_false, eqb-false, eqb-true, eq-eqb, ne_eqb}
use Rattle.gj_loops.specs.IndexSets.{has, IsFirst}
use Rattle.gj_loops.specs.declared.index_set.IndexSet.{IndexSet}
use Rattle.gj_shape.specs.FirstViolation.{IsLeastFrom}
use Rattle.gj_cover.specs.CoverOf.{IsLeastClass}
use Rattle.gj_cover.specs.Linking.{Linking, Covered, tight_linking}
use Rattle.gj_cover.specs.Reached.{ReachedData, AreUncovered, AreReached, IsReachedFrom}
use Rattle.gj_cover.proofs.Counts.{fewer_below}
use Rattle.gj_cover.proofs.Linked.{AreLinked, joined_rests, covered_next}

-- there is one least
pub one_least : (P : ℕ → Type 0) (a b : ℕ) → IsLeastFrom 0 P a → IsLeastFrom 0 P b → a ≡ b
one_least P a b h k = elim (cases_order a b) [
  | inl e ↦ e
  | inr d ↦ elim d [
    | inl below ↦ absurd (k.least a (omega arith) below h.holds)
    | inr above ↦ absurd (h.least b (omega arith) above k.holds)
  ]
]

-- the list has what the class of the least uncovered interval has, in ascending order
pub record IsLeastList (l : Linking) (class : List ℕ) : Type 0 where
  pub ascending : IsStrictlyIncreasing class
  pub members : (least : ℕ) → IsLeastFrom 0 (λ i. (i < l.order) × (Covered l i → ⊥)) least →
      (i : ℕ) → Contains class i ↔ ((i < l.order) × l.Leads i least)
  pub none : (class ≡ []) ↔ ((i : ℕ) → i < l.order → Covered l i)

module _ (l : Linking) (laws : AreLinked l) where
  -- ---- the least uncovered interval

  abbrev IsUncovered : ℕ → Type 0
  IsUncovered i = (i < l.order) × (Covered l i → ⊥)

  -- no interval is uncovered
  pub none_uncovered : (free : IndexSet) (list : List ℕ) →
      AreUncovered l free →
      ((i : ℕ) → has free i ≡ false) → list ≡ [] → IsLeastList l list
  none_uncovered free list h none empty =
      let all : (i : ℕ) → i < l.order → Covered l i = λ i below. h.some i below (none i) in
      record {
        ascending = rw empty (λ k below. omega arith);
        members = λ least first i. absurd (first.holds.1 (all least first.holds.0));
        none = (λ _. all, λ _. empty);
      }

  -- the least free interval is the least uncovered one
  least_is : (free : IndexSet) (least : ℕ) → AreUncovered l free →
      IsFirst free 0 least →
      IsLeastFrom 0 (IsUncovered) least
  least_is free least h k = record {
    from = k.behind;
    holds = (h.within least k.found, h.none least k.found);
    least = λ i from i_below (in', not). not (h.some i in' (k.before i from i_below));
  }

  pub some_uncovered : (free : IndexSet) (least : ℕ) (reached : IndexSet)
      (list : List ℕ) →
      AreUncovered l free → IsFirst free 0 least →
      ((i : ℕ) → IsTrue (has reached i) ↔ ((i < l.order) × l.Leads i least)) →
      IsStrictlyIncreasing list →
      ((i : ℕ) → Contains list i ↔ IsTrue (has reached i)) → IsLeastList l list
  some_uncovered free least reached list h k class ascending members =
      let first = least_is free least h k in
      record {
        ascending = ascending;
        members = λ other other_first i.
            let same = one_least (IsUncovered) least other first other_first in
            subst (λ n. Contains list i ↔ ((i < l.order) × l.Leads i n)) same
            (λ at. (class i).0 ((members i).0 at), λ at. (members i).1 ((class i).1 at));
        none = (
          λ empty.
              let at = (members least).1
              ((class least).1 (first.holds.0, laws.first least least refl)) in
              let nothing : Contains {X = ℕ} [] least = subst (λ l. Contains l least) empty at in
              absurd (let below = nothing.1 in omega arith),
          λ all. absurd (first.holds.1 (all least first.holds.0)),
        );
      }

  -- ---- intervals that are reached

  pub reached_start : (start : ℕ) (r : ReachedData) → start < l.order →
      ((i : ℕ) → has r.reached i ≡ (false || eqb i start)) →
      ((i : ℕ) → has r.waiting i ≡ has r.reached i) → AreReached l start r
  reached_start start r below reached waiting =
      let only : (i : ℕ) → IsTrue (has r.reached i) →
      i ≡ start = λ i e. elim (or_cases false (eqb i start) (sym (reached i) ∙ e)) [
        | inl x ↦ cc
        | inr x ↦ eqb-true i start x
      ] in
      record {
        begun = reached start ∙ or_right false (eqb start start) (eq-eqb start start refl);
        waiting = λ i e. sym (waiting i) ∙ e;
        closed = λ i e. inl (waiting i ∙ e);
        led = λ i e. (
          subst (λ n. n < l.order) (sym (only i e)) below,
          subst (λ n. l.Leads n start)
              (sym (only i e)) (laws.first start start refl),
        );
      }

  covered_along : (start i : ℕ) → l.Leads i start → Covered l i →
      Covered l start
  covered_along start i list (j, direct, rest) =
      (j, direct, laws.through start i j rest (laws.back start i list))

  -- one of those that wait has been looked at
  pub reached_on : (free : IndexSet) (start interval : ℕ)
      (old new : ReachedData) →
      AreUncovered l free → IsTrue (has free start) → AreReached l start old →
      IsTrue (has old.waiting interval) →
      IsReachedFrom l interval free old new → AreReached l start new
  reached_on free start interval old new h begin' r waits next =
      let here' = r.waiting interval waits in
      let list = (r.led interval here').1 in
      let open' : (j : ℕ) → j < l.order → l.Joined j interval → IsTrue (has free j) =
      λ j below a. elim (cases_Bool (has free j)) [
        | inl e ↦ e
        | inr e ↦ absurd (h.none start begin' (covered_along start interval list
            (covered_next l laws interval j (laws.turned j interval a) (h.some j below e))))
      ] in
      record {
        begun = next.more start r.begun;
        waiting = λ i at. elim (next.known i at)
            [ inl before ↦ next.more i (r.waiting i before) | inr e ↦ e ];
        closed = λ i e. elim (next.only i e) [
          | inl before ↦ elim (r.closed i before) [
            | inl at ↦ elim (cases_Bool (eqb i interval)) [
              | inl is ↦ inr (λ j j_below a.
                  let a' = subst (l.Joined j) (eqb-true i interval is) a in
                  next.joined j j_below (open' j j_below a') a')
              | inr other ↦ inl (next.still i at (eqb-false i interval other))
            ]
            | inr all ↦ inr (λ j j_below a. next.more j (all j j_below a))
          ]
          | inr (_, _, at) ↦ inl at
        ];
        led = λ i e. elim (next.only i e) [
          | inl before ↦ r.led i before
          | inr (i_below, a, at) ↦ (
            i_below,
            laws.through i interval start list
                (laws.next interval i i (laws.turned i interval a) (laws.first i i refl)),
          )
        ];
      }

  -- if none waits, all that are joined to one that was reached were reached
  shut : (start : ℕ) (r : ReachedData) → AreReached l start r →
      ((i : ℕ) → has r.waiting i ≡ false) →
      (i j : ℕ) → IsTrue (has r.reached i) → j < l.order → l.Joined j i → IsTrue (has r.reached j)
  shut start r h empty i j e below a = elim (h.closed i e) [
    | inl at ↦ let none = empty i in absurd (cc (at, none))
    | inr all ↦ all j below a
  ]

  along : (reached : IndexSet) (i k : ℕ) → 0 < l.order →
      ((i j : ℕ) → IsTrue (has reached i) → j < l.order → l.Joined j i → IsTrue (has reached j)) →
      l.Leads i k →
      IsTrue (has reached (k % l.order)) → IsTrue (has reached (i % l.order))
  along reached i k some closed list =
      laws.along (λ k. IsTrue (has reached (k % l.order)) → IsTrue (has reached (i % l.order))) i
      (λ k e at. ap (has reached) (sym e) ∙ at)
      (λ k next a rest at. rest (closed (k % l.order) (next % l.order) at (mod-lt next some)
      (laws.turned (k % l.order) (next % l.order) (joined_rests l laws k next a))))
      k list

  -- all were looked at
  pub reached_all : (start : ℕ) (r : ReachedData) → start < l.order →
      AreReached l start r →
      ((i : ℕ) → has r.waiting i ≡ false) → (i : ℕ) →
      IsTrue (has r.reached i) ↔ ((i < l.order) × l.Leads i start)
  reached_all start r below h empty i = (
    h.led i,
    λ (i_below, list).
        let some : 0 < l.order = omega arith in
        let begun : IsTrue (has r.reached (start % l.order)) =
        ap (has r.reached) (mod-eq_of_lt below) ∙ h.begun in
        sym (ap (has r.reached) (mod-eq_of_lt i_below))
        ∙ along r.reached i start some (shut start r h empty) list begun,
  )

  -- ---- an interval that waits is looked at

  pub looked_at : (interval : ℕ) (free joined more : IndexSet)
      (old new : ReachedData) → interval < 1024 →
      IsTrue (has old.reached interval) → IsTrue (has old.waiting interval) →
      ((j : ℕ) → IsTrue (has joined j) → j < l.order) →
      ((j : ℕ) → j < l.order → interval ≢ j → IsTrue (has joined j) ↔ l.Joined interval j) →
      ((i : ℕ) → has more i ≡ ((has joined i && has free i) && not (has old.reached i))) →
      ((i : ℕ) → has new.reached i ≡ (has old.reached i || has more i)) →
      ((i : ℕ) → has new.waiting i ≡ ((has old.waiting i || has more i) && not (eqb i interval))) →
      IsReachedFrom l interval free old new
  looked_at interval free joined more old new few reached waits within told more_is reached_is
      waiting_is =
      let apart : (i : ℕ) → IsTrue (has more i) → i ≢ interval = λ i e same.
      let both = and_parts (has joined i && has free i) (not (has old.reached i))
      (sym (more_is i) ∙ e) in
      let not' = not-true (has old.reached i) both.1 in
      let at : has old.reached i ≡ true = ap (has old.reached) same ∙ reached in cc (at, not') in
      let new_waits : (i : ℕ) → IsTrue (has more i) → IsTrue (has new.waiting i) = λ i e.
      waiting_is i ∙ and_from (has old.waiting i || has more i) (not (eqb i interval))
      (or_right (has old.waiting i) (has more i) e)
      (not_from_false (eqb i interval) (ne_eqb i interval (apart i e))) in
      let kept : (i : ℕ) → IsTrue (has old.reached i) → IsTrue (has new.reached i) = λ i e.
      reached_is i ∙ or_left (has old.reached i) (has more i) e in
      record {
        more = kept;
        joined = λ i below free' a. elim (cases_Bool (has old.reached i)) [
          | inl e ↦ kept i e
          | inr e ↦
              let other : interval ≢ i = λ same.
              let at : has old.reached i ≡ true = ap (has old.reached) (sym same) ∙ reached in
              cc (at, e) in
              reached_is i ∙ or_right (has old.reached i) (has more i) (more_is i
              ∙ and_from (has joined i && has free i) (not (has old.reached i))
              (and_from (has joined i) (has free i)
              ((told i below other).1 (laws.turned i interval a)) free')
              (not_from_false (has old.reached i) e))
        ];
        only = λ i e. elim (or_cases (has old.reached i) (has more i) (sym (reached_is i) ∙ e)) [
          | inl x ↦ inl x
          | inr x ↦
              let both = and_parts (has joined i && has free i) (not (has old.reached i))
              (sym (more_is i) ∙ x) in
              let linked = (and_parts (has joined i) (has free i) both.0).0 in
              let below = within i linked in
              let other : interval ≢ i = λ same. apart i x (sym same) in
              inr (below, laws.turned interval i ((told i below other).0 linked), new_waits i x)
        ];
        still = λ i e other. waiting_is i
            ∙ and_from (has old.waiting i || has more i) (not (eqb i interval))
            (or_left (has old.waiting i) (has more i) e)
            (not_from_false (eqb i interval) (ne_eqb i interval other));
        known = λ i e.
            let both = and_parts (has old.waiting i || has more i) (not (eqb i interval))
            (sym (waiting_is i) ∙ e) in
            elim (or_cases (has old.waiting i) (has more i) both.0) [
              | inl x ↦ inl x
              | inr x ↦ inr (reached_is i ∙ or_right (has old.reached i) (has more i) x)
            ];
        fewer = fewer_below (λ i. has old.waiting i || not (has old.reached i))
            (λ i. has new.waiting i || not (has new.reached i))
            1024 interval few
            (λ i e. elim (or_cases (has new.waiting i) (not (has new.reached i)) e) [
              | inl x ↦
                  let both = and_parts (has old.waiting i || has more i) (not (eqb i interval))
                  (sym (waiting_is i) ∙ x) in
                  elim (or_cases (has old.waiting i) (has more i) both.0) [
                    | inl y ↦ or_left (has old.waiting i) (not (has old.reached i)) y
                    | inr y ↦ or_right (has old.waiting i) (not (has old.reached i))
                        (and_parts (has joined i && has free i) (not (has old.reached i))
                        (sym (more_is i) ∙ y)).1
                  ]
              | inr x ↦ elim (cases_Bool (has old.reached i)) [
                | inl y ↦ let yes' = kept i y in let no' = not-true (has new.reached i) x in
                    absurd (cc (yes', no'))
                | inr y ↦ or_right (has old.waiting i) (not (has old.reached i))
                    (not_from_false (has old.reached i) y)
              ]
            ])
            (or_left (has old.waiting interval) (not (has old.reached interval)) waits)
            (or_from (has new.waiting interval) (not (has new.reached interval))
            (waiting_is interval ∙ and_right (has old.waiting interval || has more interval)
            (not (eqb interval interval))
            (not_from_true (eqb interval interval) (eq-eqb interval interval refl)))
            (not_from_true (has new.reached interval) (kept interval reached)));
      }

pub tight_class : (q : ℕ) (T : ℕ → ℕ → Type 0) (class : List ℕ) →
    IsLeastList (tight_linking q T) class → IsLeastClass q T class
tight_class q T class h =
    record { ascending = h.ascending; members = h.members; none = h.none }
