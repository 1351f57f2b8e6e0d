-- What is read from the lists of numbers, and where the search for lines begins and goes on.
use Rattle.std.proofs.Common.{◌≡◌, ◌≢◌, ℕ, ◌+◌, ◌<◌, ◌≤◌, ◌↔◌, ◌&&◌, ltb, List, [], length, get_or, Bool, true, false, not, IsTrue, Option, Some, None, replicate, refl, sym, ap, subst, ◌∙◌, inl, inr, arith}
use Rattle.std.specs.Option.{is_some, is_none}
use Rattle.std.proofs.lemmas.List.Sums.{count_by-le-length}
use Rattle.std.proofs.Math.ListN.{length-replicate}
use Rattle.std.proofs.lemmas.Bool.{cases_lt, ltb-true, lt-ltb, and_parts, and_from, not-true, not_from_false, false_from_ne_true}
use Rattle.std.proofs.lemmas.List.{get_or_default, get_or_past, get_or-replicate}
use Rattle.gj_loops.specs.IndexSets.{has, IsFirst}
use Rattle.gj_loops.specs.declared.index_set.IndexSet.{IndexSet}
use Rattle.gj_shape.specs.Cover.{JoinsLines, IsOpen, IsOpeningLine, Covers, IsFirstFace, IsDirectlyCovered}
use Rattle.gj_shape.specs.FirstViolation.{IsLeastFrom}
use Rattle.gj_shape.specs.declared.extremality.CoverLine.{CoverLine}
use Rattle.gj_shape.specs.declared.faces.Face.{Face}
use Rattle.gj_cover.specs.CoverOf.{number_at}
use Rattle.gj_cover.specs.Linking.{Linking}
use Rattle.gj_cover.specs.Progress.{ProgressData, IsKept, JoinsNumbers, AreInTurn, AreNumbered, AreClasses, AreFree, AreNear, AreSearched}
use Rattle.gj_cover.proofs.LineLists.{no_end, no_number, no_line, number_cases}

-- ---- reads

pub read : (xs : List (Option ℕ)) (i : ℕ) (o : Option ℕ) → i < length xs → o ≡ get_or xs i o →
    number_at xs i ≡ o
read xs i o within e = sym (e ∙ get_or_default xs i o None within)

pub is_free : (o : Option ℕ) (b : Bool) → is_some o ≡ not b → b ≡ true → o ≡ None
is_free None b e t = refl
is_free (Some n) b e t = let clash : true ≡ not true = e ∙ ap not t in absurd (cc)

-- ---- the beginning

pub all_none : (n i : ℕ) → number_at (replicate n None) i ≡ None
all_none n i = elim (cases_lt i n) [
  | inl below ↦ get_or-replicate n i None None below
  | inr past ↦
      let long = length-replicate {A = Option ℕ} n None in
      get_or_past (replicate n None) i None (let le : length (replicate {A = Option ℕ} n None) ≤ i =
      omega arith in le)
]

pub numbered_none : (c : List (Option ℕ)) → ((i : ℕ) → number_at c i ≡ None) → AreNumbered [] c
numbered_none c none = record {
  opened = λ before l after e same. absurd (no_end before l after e);
  joined = λ before l after e other. absurd (no_end before l after e);
  shown = λ i n e. let free = none i in absurd (cc (e, free));
}

pub turn_none : (Next : List CoverLine → CoverLine → Type 0) → AreInTurn Next []
turn_none Next = record { each = λ before l after e. absurd (no_end before l after e) }

pub classes_none : (J : Linking) (c : List (Option ℕ)) → ((i : ℕ) → number_at c i ≡ None) →
    AreClasses J c 0
classes_none J c none = record {
  one = λ i j m n a e f. let free = none i in absurd (cc (e, free));
  last = λ i j n below a e f. let free = none i in absurd (cc (e, free));
  linked = λ i j n e f. let free = none i in absurd (cc (e, free));
  below = λ i n e. let free = none i in absurd (cc (e, free));
  covered = λ i n e. let free = none i in absurd (cc (e, free));
}

pub free_none : (q : ℕ) (c : List (Option ℕ)) (free : IndexSet) → ((i : ℕ) → number_at c i ≡ None) →
    ((i : ℕ) → has free i ≡ ltb i q) → AreFree q c free
free_none q c free none is = record {
  each = λ i. (λ e. (ltb-true i q (sym (is i) ∙ e), none i), λ (below, _). is i ∙ lt-ltb i q below);
}

pub near_none : (J : Linking) (c : List (Option ℕ)) (near : IndexSet) →
    ((i : ℕ) → number_at c i ≡ None) → ((i : ℕ) → has near i ≡ false) → AreNear J c near
near_none J c near free none = record {
  each = λ i below at. (
    λ e. let not = none i in absurd (cc (e, not)),
    λ (j, h). let is = h.number.1 in let not = free j in absurd (cc (is, not)),
  );
}

pub searched_none : (q : ℕ) (T : ℕ → ℕ → Type 0) (c : List (Option ℕ)) → AreSearched q T c 0
searched_none q T c = record { each = λ i below. absurd (omega arith) }

-- one interval more, that has a number or is not directly covered
pub searched_more : (q : ℕ) (T : ℕ → ℕ → Type 0) (c : List (Option ℕ)) (n : ℕ) →
    AreSearched q T c n →
    (number_at c n ≡ None → IsDirectlyCovered q T n → ⊥) → AreSearched q T c (n + 1)
searched_more q T c n h here = record {
  each = λ i below none. elim (cases_lt i n) [
    | inl low ↦ h.each i low none
    | inr high ↦
        let e : i ≡ n = omega arith in
        λ covered. here (subst (λ k. number_at c k ≡ None) e none)
        (subst (λ k. IsDirectlyCovered q T k) e covered)
  ];
}

-- ---- the next interval that is joined

pub is_open : (q : ℕ) (c : List (Option ℕ)) (free near set : IndexSet) (x : ℕ) → AreFree q c free →
    ((i : ℕ) → has set i ≡ (has near i && has free i)) → IsFirst set 0 x →
    (x < q) × (number_at c x ≡ None)
is_open q c free near set x f is first =
    (f.each x).0 (and_parts (has near x) (has free x) (sym (is x) ∙ first.found)).1

module _ (J : Linking) (Lines : ℕ → ℕ → Type 0) (c : List (Option ℕ)) (free near : IndexSet)
    (f : AreFree J.order c free) (told : (i j : ℕ) → Lines i j ↔ JoinsNumbers J c i j) where
  -- an interval of the set that is free is joined to one with a line
  joined_near : (i : ℕ) → AreNear J c near → (has near i && has free i) ≡ true →
      (j : ℕ) × Lines i j
  joined_near i n e =
      let both = and_parts (has near i) (has free i) e in
      let at = (f.each i).0 both.1 in
      let found = (n.each i at.0 at.1).0 both.0 in
      (found.0, (told i found.0).1 found.1)

  near_joined : (i j : ℕ) → AreNear J c near → Lines i j → (has near i && has free i) ≡ true
  near_joined i j n at =
      let h = (told i j).0 at in
      and_from (has near i) (has free i) ((n.each i h.first_within h.free).1 (j, h))
      ((f.each i).1 (h.first_within, h.free))

  -- the least of them
  pub next_interval : (set : IndexSet) (x : ℕ) → AreNear J c near →
      ((i : ℕ) → has set i ≡ (has near i && has free i)) → IsFirst set 0 x →
      IsLeastFrom 0 (λ i. (n : ℕ) × Lines i n) x
  next_interval set x n is first = record {
    from = omega arith;
    holds = joined_near x n (sym (is x) ∙ first.found);
    least = λ i low below (j, at).
        let not = first.before i (omega arith) below in
        let yes' = is i ∙ near_joined i j n at in
        cc (not, yes');
  }

  pub none_pending : (set : IndexSet) → AreNear J c near →
      ((i : ℕ) → has set i ≡ (has near i && has free i)) → ((i : ℕ) → has set i ≡ false) →
      (i j : ℕ) → Lines i j → ⊥
  none_pending set n is none i j at =
      let not = none i in
      let yes' = is i ∙ near_joined i j n at in
      cc (not, yes')

-- with each interval that has a line and is joined to x the set has this or an earlier one
abbrev pub HasLeast : Linking → IndexSet → IndexSet → ℕ → Type 0
HasLeast J free joined x =
    (j : ℕ) → j < J.order → has free j ≡ false → J.Joined x j →
    (k : ℕ) × (k ≤ j) × IsTrue (has joined k) × (has free k ≡ false)

module _ (J : Linking) (Lines : ℕ → ℕ → Type 0) (c : List (Option ℕ)) (free joined : IndexSet)
    (x : ℕ) (f : AreFree J.order c free) (told : (j : ℕ) → Lines x j ↔ JoinsNumbers J c x j)
    (least : HasLeast J free joined x) where
  -- the intervals with a line to which a free one is joined
  lines_joined : (j : ℕ) → x < J.order → number_at c x ≡ None →
      ((k : ℕ) → IsTrue (has joined k) → k < J.order) →
      ((k : ℕ) → k < J.order → x ≢ k → IsTrue (has joined k) → J.Joined x k) →
      (has joined j && not (has free j)) ≡ true → Lines x j
  lines_joined j below none within all e =
      let both = and_parts (has joined j) (not (has free j)) e in
      let j_below = within j both.0 in
      let taken = not-true (has free j) both.1 in
      let other : x ≢ j = λ same.
      let free' = (f.each j).1 (j_below, ap (number_at c) (sym same) ∙ none) in cc (free', taken) in
      elim (number_cases (number_at c j)) [
        | inl free' ↦ let at = (f.each j).1 (j_below, free') in absurd (cc (at, taken))
        | inr number ↦ (told j).1 (record {
          first_within = below;
          second_within = j_below;
          free = none;
          number = number;
          joined = all j j_below other both.0;
        })
      ]

  least_lined : (j : ℕ) → Lines x j →
      (k : ℕ) × (k ≤ j) × ((has joined k && not (has free k)) ≡ true)
  least_lined j at =
      let h = (told j).0 at in
      let is = h.number.1 in
      let taken : has free j ≡ false =
      false_from_ne_true (has free j) (λ e. let free' = ((f.each j).0 e).1 in cc (free', is)) in
      let (k, low, yes', open') = least j h.second_within taken h.joined in
      (k, low, and_from (has joined k) (not (has free k)) yes' (not_from_false (has free k) open'))

  pub next_from : (set : IndexSet) (j : ℕ) → x < J.order → number_at c x ≡ None →
      ((k : ℕ) → IsTrue (has joined k) → k < J.order) →
      ((k : ℕ) → k < J.order → x ≢ k → IsTrue (has joined k) → J.Joined x k) →
      ((k : ℕ) → has set k ≡ (has joined k && not (has free k))) → IsFirst set 0 j →
      IsLeastFrom 0 (Lines x) j
  next_from set j below none within all is first = record {
    from = omega arith;
    holds = lines_joined j below none within all (sym (is j) ∙ first.found);
    least = λ k low k_below at.
        let (i, before, there) = least_lined k at in
        let not' = first.before i (omega arith) (omega arith) in
        let yes' = is i ∙ there in
        cc (not', yes');
  }

  pub none_from_it : (set : IndexSet) →
      ((k : ℕ) → has set k ≡ (has joined k && not (has free k))) →
      ((k : ℕ) → has set k ≡ false) → ((j : ℕ) × Lines x j) → ⊥
  none_from_it set is empty (j, at) =
      let (i, before, there) = least_lined j at in
      let not' = empty i in
      let yes' = is i ∙ there in
      cc (not', yes')

-- all that are joined to x and no others are with the least of them
pub has_all : (J : Linking) (c : List (Option ℕ)) (free joined : IndexSet) (x : ℕ) →
    AreFree J.order c free → x < J.order → number_at c x ≡ None →
    ((k : ℕ) → k < J.order → x ≢ k → IsTrue (has joined k) ↔ J.Joined x k) →
    HasLeast J free joined x
has_all J c free joined x f low none told j below taken at =
    let other : x ≢ j = λ same.
    let free' = (f.each j).1 (below, ap (number_at c) (sym same) ∙ none) in cc (free', taken) in
    (j, omega arith, (told j below other).1 at, taken)

-- ---- the next interval that opens a component

pub next_opening : (q : ℕ) (T : ℕ → ℕ → Type 0) (lines : List CoverLine) (c : List (Option ℕ))
    (x : ℕ) (face : Face) →
    AreNumbered lines c → x < q → number_at c x ≡ None →
    ((i j : ℕ) → JoinsLines q T lines i j → ⊥) →
    AreSearched q T c x → IsFirstFace q (λ kind a b. Covers q T kind a b x) face →
    IsOpeningLine q T lines (record { interval = x; from = x; face = face })
next_opening q T lines c x face h below free none searched first = record {
  none_joins = none;
  interval = record {
    from = omega arith;
    holds = record {
      within = below;
      no_line = no_line lines c x h free;
      covered = (face.kind, face.a, face.b, first.holds);
    };
    least = λ i _ i_below at. searched.each i i_below (no_number lines c i h at.no_line) at.covered;
  };
  from = refl;
  face = first;
}

pub none_open : (q n : ℕ) (T : ℕ → ℕ → Type 0) (lines : List CoverLine) (c : List (Option ℕ)) →
    AreNumbered lines c →
    q ≤ n → AreSearched q T c n → (i : ℕ) → IsOpen q T lines i → ⊥
none_open q n T lines c h all searched i at =
    let below : i < n = omega (arith, at.within) in
    searched.each i below (no_number lines c i h at.no_line) at.covered

-- ---- no line yet

pub begun : (J : Linking) (Next : List CoverLine → CoverLine → Type 0) (n : ℕ) (p : ProgressData) →
    n ≡ J.order → p.component ≡ replicate n None →
    ((i : ℕ) → has p.free i ≡ ltb i n) → ((i : ℕ) → has p.near i ≡ false) → p.lines ≡ [] →
    p.count ≡ 0 → IsKept J Next p
begun J Next n p is component free near lines count =
    let long : length (replicate {A = Option ℕ} n None) ≡ n = length-replicate n None in
    let c : (i : ℕ) → number_at p.component i ≡ None = λ i. ap (λ l. number_at l i) component
    ∙ all_none n i in
    let few = count_by-le-length is_none p.component in
    let len : length p.component ≡ J.order = ap (λ l. length l) component ∙ long ∙ is in
    record {
      component_length = len;
      lines = rw lines (turn_none Next);
      numbers = rw lines (numbered_none p.component c);
      count = rw (lines, count) refl;
      few = omega (arith, few, len, count);
      classes = rw count (classes_none J p.component c);
      free = free_none J.order p.component p.free c (λ i. free i ∙ ap (λ k. ltb i k) is);
      near = near_none J p.component p.near c near;
    }
