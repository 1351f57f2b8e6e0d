-- What one more cover line changes.
use Rattle.std.proofs.Common.{◌≡◌, ◌≢◌, ℕ, ◌⊎◌, ◌+◌, ◌%◌, ◌<◌, List, [], ◌∷◌, ◌++◌, length, get_or, ◌↔◌, ◌&&◌, ◌||◌, not, eqb, IsTrue, Option, Some, None, cond, refl, sym, ap, ◌∙◌, subst, inl, inr, arith}
use Rattle.std.specs.Option.{unwrap_or, is_none}
use Rattle.std.proofs.Math.ListN.{set}
use Rattle.std.proofs.lemmas.Bool.{or_cases, or_left, and_parts, and_from, not-true, not_from_false, eqb-false, ne_eqb}
use Rattle.std.proofs.lemmas.List.Sums.{sum_by-set}
use Rattle.gj_shape.specs.Cover.{HasComponent, opened, joined, JoinsLines, IsNextLine, components_in}
use Rattle.gj_shape.specs.declared.extremality.CoverLine.{CoverLine}
use Rattle.gj_loops.specs.IndexSets.{has}
use Rattle.gj_loops.specs.declared.index_set.IndexSet.{IndexSet}
use Rattle.gj_cover.specs.CoverOf.{number_at}
use Rattle.gj_cover.specs.Linking.{Linking, Covered, tight_linking}
use Rattle.gj_cover.specs.Progress.{JoinsNumbers, AreInTurn, AreNumbered, AreClasses, AreFree, AreNear, AreSearched, unnumbered}
use Rattle.gj_cover.proofs.LineLists.{split_end, component_stays, line_number, number_line, no_number, no_line, number_same, number_other, number_from, none_from, number_stays, number_within}
use Rattle.gj_cover.proofs.Linked.{AreLinked, covered_next, covered_first}

-- ---- the next line by numbers

-- the line joins its interval to one with the number m
pub record IsJoiningTo (J : Linking) (c : List (Option ℕ)) (l : CoverLine) (m : ℕ) :
    Type 0 where
  pub other : l.from ≢ l.interval
  pub number : number_at c l.from ≡ Some m
  pub joined : J.Joined l.interval l.from

-- the line opens the component m
pub record IsOpeningOf (J : Linking) (c : List (Option ℕ)) (count : ℕ)
    (l : CoverLine) (m : ℕ) : Type 0 where
  pub same : l.from ≡ l.interval
  pub number : m ≡ count
  pub none : (i j : ℕ) → JoinsNumbers J c i j → ⊥
  pub direct : J.Direct l.interval
  pub least : (i : ℕ) → i < l.interval → number_at c i ≡ None → J.Direct i → ⊥

-- the line is the next, and m is the number of its interval's component
pub record IsNextTo (J : Linking) (c : List (Option ℕ)) (count : ℕ) (l : CoverLine)
    (m : ℕ) : Type 0 where
  pub within : l.interval < J.order
  pub from_within : l.from < J.order
  pub free : number_at c l.interval ≡ None
  pub kind : IsJoiningTo J c l m ⊎ IsOpeningOf J c count l m

pub in_turn : (Next : List CoverLine → CoverLine → Type 0) (lines : List CoverLine)
    (l : CoverLine) →
    AreInTurn Next lines → Next lines l → AreInTurn Next (lines ++ l ∷ [])
in_turn Next lines l h next = record {
  each = λ before m after e. elim (split_end lines l before m after e) [
    | inl (same, is) ↦ subst (λ b. Next b m) (sym same) (subst (Next lines) (sym is) next)
    | inr (rest, is) ↦ h.each before m rest is
  ];
}

module _ (J : Linking) (laws : AreLinked J) where
  -- ---- the lines and their numbers

  pub numbers : (lines : List CoverLine) (c : List (Option ℕ))
      (count : ℕ) (l : CoverLine) (m : ℕ) →
      length c ≡ J.order → AreNumbered lines c → count ≡ components_in lines →
      IsNextTo J c count l m →
      AreNumbered (lines ++ l ∷ []) (set c l.interval (Some m))
  numbers lines c count l m len h is next =
      let within : l.interval < length c = omega (arith, next.within) in
      let at = number_same c l.interval m within in
      record {
        opened = λ before k after e same. elim (split_end lines l before k after e) [
          | inl (front, last) ↦ elim next.kind [
            | inl j ↦
                let back : l.from ≡ l.interval = ap (λ x. x.from) (sym last) ∙ same
                ∙ ap (λ x. x.interval) last in
                absurd (j.other back)
            | inr o ↦
                ap (λ x. number_at (set c l.interval (Some m)) x.interval) last ∙ at
                ∙ ap Some (o.number ∙ is ∙ ap components_in (sym front))
          ]
          | inr (rest, place) ↦
              number_stays c l.interval m k.interval (components_in before) next.free
              (h.opened before k rest place same)
        ];
        joined = λ before k after e other. elim (split_end lines l before k after e) [
          | inl (front, last) ↦ elim next.kind [
            | inl j ↦ (
              m,
              ap (λ x. number_at (set c l.interval (Some m)) x.interval) last ∙ at,
              ap (λ x. number_at (set c l.interval (Some m)) x.from) last
                  ∙ number_stays c l.interval m l.from m next.free j.number,
            )
            | inr o ↦
                let back : k.from ≡ k.interval = ap (λ x. x.from) last ∙ o.same
                ∙ ap (λ x. x.interval) (sym last) in
                absurd (other back)
          ]
          | inr (rest, place) ↦
              let both = h.joined before k rest place other in (
                both.0,
                number_stays c l.interval m k.interval both.0 next.free both.1,
                number_stays c l.interval m k.from both.0 next.free both.2,
              )
        ];
        shown = λ i n e. elim (number_from c l.interval m i n within e) [
          | inl (same, number) ↦
              subst (HasComponent (lines ++ l ∷ []) n) (sym same)
              (subst (λ k. HasComponent (lines ++ l ∷ []) k l.interval) (sym number)
              (elim next.kind [
                | inl j ↦ joined lines l [] refl j.other
                    (component_stays lines l m l.from (h.shown l.from m j.number))
                | inr o ↦ opened lines l [] refl o.same (o.number ∙ is)
              ]))
          | inr old ↦ component_stays lines l n i (h.shown i n old)
        ];
      }

  -- ---- the classes

  pub joined_classes : (c : List (Option ℕ)) (count : ℕ) (l : CoverLine)
      (m : ℕ) →
      length c ≡ J.order → AreClasses J c count → l.interval < J.order →
      number_at c l.interval ≡ None →
      IsJoiningTo J c l m →
      AreClasses J (set c l.interval (Some m)) count
  joined_classes c count l m len h in' free j =
      let x = l.interval in
      let within : l.interval < length c = omega (arith, in') in
      let top : m + 1 ≡ count =
      h.last l.from x m in' (laws.turned x l.from j.joined) j.number free in
      let led : (k : ℕ) → number_at c k ≡ Some m → J.Leads k x = λ k e.
      laws.next x l.from k j.joined (h.linked l.from k m j.number e) in
      record {
        one = λ i k u v a e f. elim (number_from c x m i u within e) [
          | inl (i_is, u_is) ↦ elim (number_from c x m k v within f) [
            | inl (k_is, v_is) ↦ u_is ∙ sym v_is
            | inr f' ↦
                let up = h.last k x v in'
                (laws.turned x k (subst (λ y. J.Joined y k) i_is a)) f' free in
                omega arith
          ]
          | inr e' ↦ elim (number_from c x m k v within f) [
            | inl (k_is, v_is) ↦ let up =
                h.last i x u in' (subst (λ y. J.Joined i y) k_is a) e' free in omega arith
            | inr f' ↦ h.one i k u v a e' f'
          ]
        ];
        last = λ i k n k_below a e f.
            let old = none_from c x m k within f in
            elim (number_from c x m i n within e) [
              | inl (i_is, n_is) ↦ omega arith
              | inr e' ↦ h.last i k n k_below a e' old.1
            ];
        linked = λ i k n e f. elim (number_from c x m i n within e) [
          | inl (i_is, n_is) ↦ elim (number_from c x m k n within f) [
            | inl (k_is, _) ↦ laws.first i k (ap (λ y. y % J.order) (i_is ∙ sym k_is))
            | inr f' ↦ subst (J.Leads k) (sym i_is) (led k (f' ∙ ap Some n_is))
          ]
          | inr e' ↦ elim (number_from c x m k n within f) [
            | inl (k_is, n_is) ↦
                subst (λ y. J.Leads y i) (sym k_is)
                (laws.back x i (led i (e' ∙ ap Some n_is)))
            | inr f' ↦ h.linked i k n e' f'
          ]
        ];
        below = λ i n e. elim (number_from c x m i n within e)
            [ inl (i_is, n_is) ↦ omega arith | inr e' ↦ h.below i n e' ];
        covered = λ i n e. elim (number_from c x m i n within e) [
          | inl (i_is, n_is) ↦
              subst (Covered J) (sym i_is)
              (covered_next J laws x l.from j.joined (h.covered l.from m j.number))
          | inr e' ↦ h.covered i n e'
        ];
      }

  pub opened_classes : (c : List (Option ℕ)) (count : ℕ) (l : CoverLine)
      (m : ℕ) →
      length c ≡ J.order → AreClasses J c count → l.interval < J.order →
      number_at c l.interval ≡ None →
      IsOpeningOf J c count l m → AreClasses J (set c l.interval (Some m)) (count + 1)
  opened_classes c count l m len h in' free o =
      let x = l.interval in
      let within : l.interval < length c = omega (arith, in') in
      let top = o.number in
      let size : (i n : ℕ) → number_at c i ≡ Some n → i < J.order =
      λ i n e. number_within J.order c i n len e in
      let alone : (k n : ℕ) → number_at c k ≡ Some n → J.Joined x k → ⊥ = λ k n e a.
      o.none x k (record {
        first_within = in';
        second_within = size k n e;
        free = free;
        number =
            (n, e);
        joined = a;
      }) in
      record {
        one = λ i k u v a e f. elim (number_from c x m i u within e) [
          | inl (i_is, u_is) ↦ elim (number_from c x m k v within f) [
            | inl (k_is, v_is) ↦ u_is ∙ sym v_is
            | inr f' ↦ absurd (alone k v f' (subst (λ y. J.Joined y k) i_is a))
          ]
          | inr e' ↦ elim (number_from c x m k v within f) [
            | inl (k_is, v_is) ↦ absurd
                (alone i u e' (laws.turned i x (subst (λ y. J.Joined i y) k_is a)))
            | inr f' ↦ h.one i k u v a e' f'
          ]
        ];
        last = λ i k n k_below a e f.
            let old = none_from c x m k within f in
            elim (number_from c x m i n within e) [
              | inl (i_is, n_is) ↦ omega arith
              | inr e' ↦ absurd (o.none k i (record {
                first_within = k_below;
                second_within = size i n e';
                free = old.1;
                number = (n, e');
                joined = laws.turned i k a;
              }))
            ];
        linked = λ i k n e f. elim (number_from c x m i n within e) [
          | inl (i_is, n_is) ↦ elim (number_from c x m k n within f) [
            | inl (k_is, _) ↦ laws.first i k (ap (λ y. y % J.order) (i_is ∙ sym k_is))
            | inr f' ↦ let below = h.below k n f' in absurd (omega arith)
          ]
          | inr e' ↦ elim (number_from c x m k n within f) [
            | inl (k_is, n_is) ↦ let below = h.below i n e' in absurd (omega arith)
            | inr f' ↦ h.linked i k n e' f'
          ]
        ];
        below = λ i n e. elim (number_from c x m i n within e) [
          | inl (i_is, n_is) ↦ omega arith
          | inr e' ↦ let below = h.below i n e' in omega arith
        ];
        covered = λ i n e. elim (number_from c x m i n within e) [
          | inl (i_is, n_is) ↦ subst (Covered J) (sym i_is) (covered_first J laws x o.direct)
          | inr e' ↦ h.covered i n e'
        ];
      }

  -- ---- the intervals that are joined to one with a line

  -- what a new line adds to what joins
  joins_before : (c : List (Option ℕ)) (x m i j : ℕ) → x < length c →
      JoinsNumbers J (set c x (Some m)) i j → (j ≡ x) ⊎ JoinsNumbers J c i j
  joins_before c x m i j within h = elim (number_from c x m j h.number.0 within h.number.1) [
    | inl (same, is) ↦ inl same
    | inr old ↦ inr (record {
      first_within = h.first_within;
      second_within = h.second_within;
      free = (none_from c x m i within h.free).1;
      number = (h.number.0, old);
      joined = h.joined;
    })
  ]

  joins_after : (c : List (Option ℕ)) (x m i j : ℕ) →
      number_at c x ≡ None →
      number_at (set c x (Some m)) i ≡ None → JoinsNumbers J c i j →
      JoinsNumbers J (set c x (Some m)) i j
  joins_after c x m i j free none h = record {
    first_within = h.first_within;
    second_within = h.second_within;
    free = none;
    number = (h.number.0, number_stays c x m j h.number.0 free h.number.1);
    joined = h.joined;
  }

  pub near_more : (c : List (Option ℕ)) (near linked new : IndexSet) (l : CoverLine) (m : ℕ) →
      length c ≡ J.order → l.interval < J.order → number_at c l.interval ≡ None → AreNear J c near →
      ((k : ℕ) → k < J.order → l.interval ≢ k → IsTrue (has linked k) → J.Joined l.interval k) →
      ((k : ℕ) → k < J.order → l.interval ≢ k → number_at c k ≡ None → J.Joined l.interval k →
      IsTrue (has new k)) →
      ((k : ℕ) → has new k ≡ (has near k || has linked k)) →
      AreNear J (set c l.interval (Some m)) new
  near_more c near linked new l m len in' free before told whole is = record {
    each = λ i i_below none.
        let x = l.interval in
        let within : l.interval < length c = omega (arith, in') in
        let old = none_from c x m i within none in
        let was = before.each i i_below old.1 in
        let other : l.interval ≢ i = λ same. old.0 (sym same) in (
          λ e. elim (or_cases (has near i) (has linked i) (sym (is i) ∙ e)) [
            | inl yes' ↦
                let at = was.0 yes' in (at.0, joins_after c x m i at.0 free none at.1)
            | inr yes' ↦ (
              x,
              record {
                first_within = i_below;
                second_within = in';
                free = none;
                number = (m, number_same c x m within);
                joined = laws.turned x i (told i i_below other yes');
              },
            )
          ],
          λ (j, at). elim (joins_before c x m i j within at) [
            | inl same ↦
                whole i i_below other old.1 (laws.turned i x (subst (J.Joined i) same at.joined))
            | inr k ↦ is i ∙ or_left (has near i) (has linked i) (was.1 (j, k))
          ],
        );
  }

pub free_more : (q : ℕ) (c : List (Option ℕ)) (old new : IndexSet) (x m : ℕ) → x < length c →
    AreFree q c old →
    ((k : ℕ) → has new k ≡ (has old k && not (eqb k x))) → AreFree q (set c x (Some m)) new
free_more q c old new x m within h is = record {
  each = λ i. (
    λ e.
        let both = and_parts (has old i) (not (eqb i x)) (sym (is i) ∙ e) in
        let at = (h.each i).0 both.0 in
        let other = eqb-false i x (not-true (eqb i x) both.1) in
        (at.0, number_other c x m i other ∙ at.1),
    λ (below, none).
        let at = none_from c x m i within none in
        is i ∙ and_from (has old i) (not (eqb i x)) ((h.each i).1 (below, at.1))
        (not_from_false (eqb i x) (ne_eqb i x at.0)),
  );
}

-- ---- how many have no number

pub one_less : (c : List (Option ℕ)) (x m : ℕ) → x < length c → number_at c x ≡ None →
    unnumbered (set c x (Some m)) + 1 ≡ unnumbered c
one_less c x m within free =
    let sums = sum_by-set (λ o. cond (is_none o) 1 0) c x (Some m) None within in
    let was : ◌≡◌ {A = ℕ} (cond (is_none (get_or c x None)) 1 0) 1 =
    ap (λ o. cond (is_none o) 1 0) free in
    omega (arith, sums, was)

-- ---- by tight pairs

-- what joins by lines does so by numbers
pub joins_same : (q : ℕ) (T : ℕ → ℕ → Type 0) (lines : List CoverLine)
    (c : List (Option ℕ)) → AreNumbered lines c → (i j : ℕ) →
    JoinsLines q T lines i j ↔ JoinsNumbers (tight_linking q T) c i j
joins_same q T lines c h i j = (
  λ k. record {
    first_within = k.first_within;
    second_within = k.second_within;
    free = no_number lines c i h k.no_line;
    number = line_number lines c j h k.line;
    joined = k.joined;
  },
  λ k. record {
    first_within = k.first_within;
    second_within = k.second_within;
    no_line = no_line lines c i h k.free;
    line = number_line lines c j k.number.0 h k.number.1;
    joined = k.joined;
  },
)

pub next_to : (q : ℕ) (T : ℕ → ℕ → Type 0) (lines : List CoverLine) (c : List (Option ℕ))
    (count : ℕ) (l : CoverLine) (m : ℕ) →
    AreNumbered lines c → m ≡ unwrap_or (number_at c l.from) count → IsNextLine q T lines l →
    IsNextTo (tight_linking q T) c count l m
next_to q T lines c count l m h e (inl k) =
    let at = (joins_same q T lines c h l.interval l.from).0 k.from.holds in
    let number = at.number.1 in
    let is : m ≡ at.number.0 = e ∙ ap (λ o. unwrap_or o count) number in
    let other : l.from ≢ l.interval = λ same.
    let free : number_at c l.from ≡ None = ap (number_at c) same ∙ at.free in
    absurd (cc (number, free)) in
    record {
      within = at.first_within;
      from_within = at.second_within;
      free = at.free;
      kind = inl (record { other = other; number = number ∙ ap Some (sym is); joined = at.joined });
    }
next_to q T lines c count l m h e (inr k) =
    let free = no_number lines c l.interval h k.interval.holds.no_line in
    record {
      within = k.interval.holds.within;
      from_within = subst (λ n. n < q) (sym k.from) k.interval.holds.within;
      free = free;
      kind = inr (record {
        same = k.from;
        number = e ∙ ap (λ o. unwrap_or o count) (ap (number_at c) k.from ∙ free);
        none = λ i j at. k.none_joins i j ((joins_same q T lines c h i j).1 at);
        direct = k.interval.holds.covered;
        least = λ i below none direct. k.interval.least i (omega arith) below (record {
          within = let in' : i < q = omega (arith, k.interval.holds.within) in in';
          no_line = no_line lines c i h none;
          covered = direct;
        });
      });
    }

-- ---- the search for directly covered intervals

pub searched_on : (q : ℕ) (T : ℕ → ℕ → Type 0) (c : List (Option ℕ)) (x m n : ℕ) → x < length c →
    AreSearched q T c n → AreSearched q T (set c x (Some m)) n
searched_on q T c x m n within h = record {
  each = λ i below none. h.each i below (none_from c x m i within none).1;
}

pub searched_to : (q : ℕ) (T : ℕ → ℕ → Type 0) (c : List (Option ℕ)) (count : ℕ) (l : CoverLine)
    (m : ℕ) →
    l.interval < length c → IsOpeningOf (tight_linking q T) c count l m →
    AreSearched q T (set c l.interval (Some m)) l.interval
searched_to q T c count l m within o = record {
  each = λ i below none. o.least i below (none_from c l.interval m i within none).1;
}
