-- The search for lines goes on by one line.
use Rattle.std.proofs.Common.{◌≡◌, ◌≢◌, ℕ, ◌+◌, ◌<◌, ◌≤◌, List, [], ◌∷◌, ◌++◌, length, get_or, ◌&&◌, ◌||◌, not, eqb, IsTrue, false, refl, Option, Some, cond, eq-eqb, sym, ap, ◌∙◌, inl, inr, arith}
use Rattle.std.specs.Option.{unwrap_or}
use Rattle.std.proofs.Math.ListN.{set, length-set}
use Rattle.std.specs.Bool.{◌==◌}
use Rattle.std.proofs.lemmas.List.Sums.{sum_by-append}
use Rattle.std.proofs.lemmas.Bool.{ne_eqb, or_left, or_right, cases_Bool}
use Rattle.gj_shape.specs.Cover.{IsNextLine, components_in}
use Rattle.gj_shape.specs.declared.extremality.CoverLine.{CoverLine}
use Rattle.gj_loops.specs.IndexSets.{has}
use Rattle.gj_loops.specs.declared.index_set.IndexSet.{IndexSet}
use Rattle.gj_cover.specs.CoverOf.{number_at}
use Rattle.gj_cover.specs.Linking.{Linking, tight_linking}
use Rattle.gj_cover.specs.Progress.{IsProgress, progress_data, ProgressData, IsKept, AreNumbered, AreClasses, unnumbered}
use Rattle.gj_cover.specs.declared.progress.Progress.{Progress}
use Rattle.gj_cover.proofs.Linked.{AreLinked, tight_linked}
use Rattle.gj_cover.proofs.NextLines.{IsNextTo, IsOpeningOf, next_to, searched_on, searched_to, in_turn, numbers, joined_classes, opened_classes, near_more, free_more, one_less}
use Rattle.gj_cover.proofs.Pending.{read}

-- the state is the old one with one more line, but for the count: m is the number of its interval,
-- by what is read at the one from which it joins, and the set is of intervals joined to its own
pub record HasLineMore (J : Linking) (old new : ProgressData) (l : CoverLine) (m : ℕ)
    (read : Option ℕ) (joined : IndexSet) : Type 0 where
  pub was : read ≡ get_or old.component l.from read
  pub number : m ≡ unwrap_or read old.count
  pub lines : new.lines ≡ old.lines ++ l ∷ []
  pub component : new.component ≡ set old.component l.interval (Some m)
  pub free : (k : ℕ) → has new.free k ≡ (has old.free k && not (eqb k l.interval))
  pub near : (k : ℕ) → has new.near k ≡ (has old.near k || has joined k)
  pub told : (k : ℕ) → k < J.order → l.interval ≢ k → IsTrue (has joined k) → J.Joined l.interval k
  pub whole : (k : ℕ) → k < J.order → l.interval ≢ k → IsTrue (has old.free k) →
      has old.near k ≡ false → J.Joined l.interval k → IsTrue (has joined k)

opened_joining : (lines : List CoverLine) (l : CoverLine) → l.from ≢ l.interval →
    components_in (lines ++ l ∷ []) ≡ components_in lines
opened_joining lines l other =
    let f : CoverLine → ℕ = λ k. cond (k.from == k.interval) 1 0 in
    let last : ◌≡◌ {A = ℕ} (cond (l.from == l.interval) 1 0) 0 =
    ap (λ b. cond b 1 0) (ne_eqb l.from l.interval other) in
    let sums = sum_by-append f lines (l ∷ []) in
    omega (arith, sums, last)

opened_opening : (lines : List CoverLine) (l : CoverLine) → l.from ≡ l.interval →
    components_in (lines ++ l ∷ []) ≡ components_in lines + 1
opened_opening lines l same =
    let f : CoverLine → ℕ = λ k. cond (k.from == k.interval) 1 0 in
    let last : ◌≡◌ {A = ℕ} (cond (l.from == l.interval) 1 0) 1 =
    ap (λ b. cond b 1 0) (eq-eqb l.from l.interval same) in
    let sums = sum_by-append f lines (l ∷ []) in
    omega (arith, sums, last)

module _ (J : Linking) (laws : AreLinked J) (Next : List CoverLine → CoverLine → Type 0)
    (to : (lines : List CoverLine) (c : List (Option ℕ)) (count : ℕ) (l : CoverLine) (m : ℕ) →
    AreNumbered lines c → m ≡ unwrap_or (number_at c l.from) count → Next lines l →
    IsNextTo J c count l m) where
  -- the line's interval has no number, and there is one less of these with it
  pub fewer : (old : ProgressData) (l : CoverLine) (m : ℕ) → IsKept J Next old →
      Next old.lines l →
      unnumbered (set old.component l.interval (Some m)) + 1 ≡ unnumbered old.component
  fewer old l m h next =
      let at = to old.lines old.component old.count l
      (unwrap_or (number_at old.component l.from) old.count) h.numbers refl next in
      one_less old.component l.interval m
      (let within : l.interval < length old.component =
      omega (arith, at.within, h.component_length) in within) at.free

  module _ (old new : ProgressData) (l : CoverLine) (m : ℕ) (o : Option ℕ) (joined : IndexSet)
      (h : IsKept J Next old) (next : Next old.lines l)
      (more : HasLineMore J old new l m o joined) where
    pub next_at : IsNextTo J old.component old.count l m
    next_at =
        let from = (to old.lines old.component old.count l
        (unwrap_or (number_at old.component l.from) old.count) h.numbers refl next).from_within in
        let within : l.from < length old.component = omega (arith, from, h.component_length) in
        to old.lines old.component old.count l m h.numbers
        (more.number ∙ ap (λ x. unwrap_or x old.count)
        (sym (read old.component l.from o within more.was))) next

    pub next_within : l.interval < length old.component
    next_within = let at = next_at in omega (arith, at.within, h.component_length)

    assembled : new.count ≡ components_in (old.lines ++ l ∷ []) →
        new.count + unnumbered (set old.component l.interval (Some m)) ≤ J.order →
        AreClasses J (set old.component l.interval (Some m)) new.count → IsKept J Next new
    assembled count few classes =
        let at = next_at in
        let number = numbers J laws old.lines old.component old.count l m h.component_length
        h.numbers h.count at in
        record {
          component_length = rw more.component (length-set old.component l.interval (Some m)
              ∙ h.component_length);
          lines = rw more.lines (in_turn Next old.lines l h.lines next);
          numbers = rw (more.lines, more.component) number;
          count = rw more.lines count;
          few = rw more.component few;
          classes = rw more.component classes;
          free = rw more.component (free_more J.order old.component old.free new.free l.interval m
              next_within h.free more.free);
          near = rw more.component (near_more J laws old.component old.near joined new.near l m
              h.component_length at.within at.free h.near more.told
              (λ k low other none both. more.near k ∙ elim (cases_Bool (has old.near k)) [
                | inl yes' ↦ or_left (has old.near k) (has joined k) yes'
                | inr no' ↦ or_right (has old.near k) (has joined k)
                    (more.whole k low other ((h.free.each k).1 (low, none)) no' both)
              ])
              more.near);
        }

    pub joined_on : l.from ≢ l.interval → new.count ≡ old.count → IsKept J Next new
    joined_on other count =
        let at = next_at in
        let less = fewer old l m h next in
        let size = h.few in
        elim at.kind [
          | inl j ↦ assembled (count ∙ h.count ∙ sym (opened_joining old.lines l other))
              (omega arith)
              (rw count (joined_classes J laws old.component old.count l m h.component_length
              h.classes at.within at.free j))
          | inr o ↦ absurd (other o.same)
        ]

    pub opened_on : l.from ≡ l.interval → new.count ≡ old.count + 1 → IsKept J Next new
    opened_on same count =
        let at = next_at in
        let less = fewer old l m h next in
        let size = h.few in
        elim at.kind [
          | inl j ↦ absurd (j.other same)
          | inr o ↦ assembled
              (count ∙ ap (λ n. n + 1) h.count ∙ sym (opened_opening old.lines l same))
              (omega arith)
              (rw count (opened_classes J laws old.component old.count l m h.component_length
              h.classes at.within at.free o))
        ]

-- ---- by tight pairs

module _ (q : ℕ) (T : ℕ → ℕ → Type 0) (old new : Progress) (l : CoverLine) (m : ℕ) (o : Option ℕ)
    (joined : IndexSet) (h : IsProgress q T old) (next : IsNextLine q T old.lines.items l)
    (more : HasLineMore (tight_linking q T) (progress_data old) (progress_data new) l m o joined)
  where
    at_next : IsNextTo (tight_linking q T) old.component.items old.count l m
    at_next = next_at (tight_linking q T) (tight_linked q T) (IsNextLine q T) (next_to q T)
        (progress_data old) (progress_data new) l m o joined h.kept next more

    within_numbers : l.interval < length old.component.items
    within_numbers = next_within (tight_linking q T) (tight_linked q T) (IsNextLine q T)
        (next_to q T) (progress_data old) (progress_data new) l m o joined h.kept next more

    pub joined_line : l.from ≢ l.interval → new.count ≡ old.count → new.searched ≡ old.searched →
        IsProgress q T new
    joined_line other count searched =
        let is : new.component.items ≡ set old.component.items l.interval (Some m) =
        more.component in
        record {
          kept = joined_on (tight_linking q T) (tight_linked q T) (IsNextLine q T) (next_to q T)
              (progress_data old) (progress_data new) l m o joined h.kept next more other count;
          searched = rw (is, searched) (searched_on q T old.component.items l.interval m
              old.searched
              within_numbers h.searched);
        }

    pub opened_line : l.from ≡ l.interval → new.count ≡ old.count + 1 →
        new.searched ≡ l.interval → IsProgress q T new
    opened_line same count searched =
        let is : new.component.items ≡ set old.component.items l.interval (Some m) =
        more.component in
        let opens : IsOpeningOf (tight_linking q T) old.component.items old.count l m =
        elim at_next.kind [ inl j ↦ absurd (j.other same) | inr o ↦ o ] in
        record {
          kept = opened_on (tight_linking q T) (tight_linked q T) (IsNextLine q T) (next_to q T)
              (progress_data old) (progress_data new) l m o joined h.kept next more same count;
          searched = rw (is, searched) (searched_to q T old.component.items old.count l m
              within_numbers opens);
        }
