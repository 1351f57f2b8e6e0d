-- Where no line comes next, the numbers are those of the components.
use Rattle.std.proofs.Common.{◌≡◌, ℕ, ◌%◌, ◌<◌, ◌↔◌, List, Option, Some, None, sym, ap, ◌∙◌, subst, inl, inr, arith}
use Rattle.std.proofs.Math.Nat.{mod-mod, mod-lt, mod-eq_of_lt}
use Rattle.gj_shape.specs.Cover.{IsNextLine, AreCoverLines}
use Rattle.gj_shape.specs.declared.extremality.CoverLine.{CoverLine}
use Rattle.gj_cover.specs.CoverOf.{number_at, AreComponents}
use Rattle.gj_cover.specs.Linking.{Linking, Covered, tight_linking}
use Rattle.gj_cover.specs.Progress.{ProgressData, JoinsNumbers, IsKept, IsProgress, IsComplete, progress_data}
use Rattle.gj_cover.specs.Reached.{AreUncovered}
use Rattle.gj_cover.specs.declared.progress.Progress.{Progress}
use Rattle.gj_cover.proofs.Linked.{AreLinked, tight_linked, joined_rests}
use Rattle.gj_cover.proofs.LineLists.{number_cases, no_line, component_number}
use Rattle.gj_cover.proofs.NextLines.{joins_same}

-- no interval without a number is joined to one with a number, or directly covered
pub record HasEnded (J : Linking) (c : List (Option ℕ)) : Type 0 where
  pub none_joins : (i j : ℕ) → JoinsNumbers J c i j → ⊥
  pub none_direct : (i : ℕ) → i < J.order → number_at c i ≡ None → J.Direct i → ⊥

module _ (J : Linking) (laws : AreLinked J) (Next : List CoverLine → CoverLine → Type 0)
    (p : ProgressData) (h : IsKept J Next p) (end : HasEnded J p.component) where
  -- a list of joined intervals keeps the number
  led_same : (i j n : ℕ) → 0 < J.order → J.Leads i j →
      number_at p.component (j % J.order) ≡ Some n → number_at p.component (i % J.order) ≡ Some n
  led_same i j n some list =
      laws.along (λ k. number_at p.component (k % J.order) ≡ Some n →
      number_at p.component (i % J.order) ≡ Some n) i
      (λ k e number. ap (number_at p.component) (sym e) ∙ number)
      (λ k next joined rest number.
      let both = joined_rests J laws k next joined in
      elim (number_cases (number_at p.component (next % J.order))) [
        | inl free ↦ absurd (end.none_joins (next % J.order) (k % J.order) (record {
          first_within = mod-lt next some;
          second_within = mod-lt k some;
          free = free;
          number = (n, number);
          joined = laws.turned (k % J.order) (next % J.order) both;
        }))
        | inr (m, e) ↦
            let same = h.classes.one (k % J.order) (next % J.order) n m both number e in
            rest (e ∙ ap Some (sym same))
      ])
      j list

  -- a directly covered interval has a number
  direct_number : (j : ℕ) → 0 < J.order → J.Direct j →
      (n : ℕ) × (number_at p.component (j % J.order) ≡ Some n)
  direct_number j some direct = elim (number_cases (number_at p.component (j % J.order))) [
    | inl free ↦ absurd (end.none_direct (j % J.order) (mod-lt j some) free
        (laws.direct j (j % J.order) (sym (mod-mod j J.order)) direct))
    | inr at ↦ at
  ]

  pub covered_number : (i : ℕ) → i < J.order → Covered J i →
      (n : ℕ) × (number_at p.component i ≡ Some n)
  covered_number i below (j, direct, list) =
      let some : 0 < J.order = omega arith in
      let at = direct_number j some direct in (
        at.0,
        ap (number_at p.component) (sym (mod-eq_of_lt below)) ∙ led_same i j at.0 some list at.1,
      )

  pub uncovered : AreUncovered J p.free
  uncovered = record {
    within = λ i e. ((h.free.each i).0 e).0;
    none = λ i e covered.
        let free = (h.free.each i).0 e in
        let at = covered_number i free.0 covered in
        let number = at.1 in let none = free.1 in cc (none, number);
    some = λ i below e. elim (number_cases (number_at p.component i)) [
      | inl none ↦ let free = (h.free.each i).1 (below, none) in absurd (cc (free, e))
      | inr (n, number) ↦ h.classes.covered i n number
    ];
  }

  pub none_uncovered : (i : ℕ) → i < J.order →
      (number_at p.component i ≡ None) ↔ (Covered J i → ⊥)
  none_uncovered i below = (
    λ none. uncovered.none i ((h.free.each i).1 (below, none)),
    λ not. elim (number_cases (number_at p.component i)) [
      | inl free ↦ free
      | inr (n, e) ↦ absurd (not (h.classes.covered i n e))
    ],
  )

  pub same_component : (i j : ℕ) → i < J.order → j < J.order →
      ((n : ℕ) × (number_at p.component i ≡ Some n) × (number_at p.component j ≡ Some n)) ↔
      (Covered J i × Covered J j × J.Leads j i)
  same_component i j i_below j_below = (
    λ (n, e, f). (h.classes.covered i n e, h.classes.covered j n f, h.classes.linked i j n e f),
    λ (first, second, list).
        let some : 0 < J.order = omega arith in
        let at = covered_number i i_below first in
        let rest = ap (number_at p.component) (mod-eq_of_lt i_below) ∙ at.1 in (
          at.0,
          at.1,
          ap (number_at p.component) (sym (mod-eq_of_lt j_below))
              ∙ led_same j i at.0 some list rest,
        ),
  )

-- ---- by tight pairs

pub ended : (q : ℕ) (T : ℕ → ℕ → Type 0) (p : Progress) → IsProgress q T p →
    IsComplete q T p.lines.items → HasEnded (tight_linking q T) p.component.items
ended q T p h end = record {
  none_joins = λ i j at. end.none_joins i j
      ((joins_same q T p.lines.items p.component.items h.kept.numbers i j).1 at);
  none_direct = λ i below none direct. end.none_open i (record {
    within = below;
    no_line = no_line p.lines.items p.component.items i h.kept.numbers none;
    covered = direct;
  });
}

pub components : (q : ℕ) (T : ℕ → ℕ → Type 0) (p : Progress) → IsProgress q T p →
    IsComplete q T p.lines.items →
    AreComponents q T p.lines.items p.component.items
components q T p h end =
    let J = tight_linking q T in
    record {
      length = h.kept.component_length;
      numbers = λ i n below. (
        h.kept.numbers.shown i n,
        component_number p.lines.items p.component.items n i h.kept.numbers,
      );
      uncovered = none_uncovered J (tight_linked q T) (IsNextLine q T) (progress_data p) h.kept
          (ended q T p h end);
      same = same_component J (tight_linked q T) (IsNextLine q T) (progress_data p) h.kept
          (ended q T p h end);
      below = λ i n e. subst (λ m. n < m) h.kept.count (h.kept.classes.below i n e);
    }

pub cover_lines : (q : ℕ) (T : ℕ → ℕ → Type 0) (p : Progress) → IsProgress q T p →
    IsComplete q T p.lines.items →
    AreCoverLines q T p.lines.items
cover_lines q T p h end = record {
  in_turn = h.kept.lines.each;
  complete = λ l next. elim next [
    | inl k ↦ end.none_joins l.interval k.interval.holds.0 k.interval.holds.1
    | inr k ↦ end.none_open l.interval k.interval.holds
  ];
}
