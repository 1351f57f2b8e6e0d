-- The numbers of components if all intervals are covered.
use Rattle.std.proofs.Common.{◌≡◌, ℕ, ◌<◌, ◌≤◌, ◌==◌, Option, None, Some, List, [], length, map, get_or, refl, sym, subst, ◌∙◌, arith}
use Rattle.std.specs.Prelude.{All, IsSome}
use Rattle.std.proofs.lemmas.List.{get_or_default}
use Rattle.std.proofs.lemmas.List.Sums.{count_by-le-length}
use Rattle.gj_cover.specs.CoverOf.{number_at}
use Rattle.gj_cover.specs.declared.covered.Cover.{Cover}
use Rattle.gj_shape.specs.FunctionData.{FunctionData}
use Rattle.gj_shape.specs.declared.extremality.CoverLine.{CoverLine}
use Rattle.gj_jumps.specs.LimitCover.{IsTightAt}
use Rattle.gj_limit_cover.specs.CoverOf.{IsCoverOf}
use Rattle.gj_limit_system.proofs.Components.{length_is, component_low}
use Rattle.gj_limit_extreme.specs.Decision.{AreAllCovered}
use Rattle.gj_limit_extreme.proofs.ClaimTexts.{lines_count}

module _ (f : FunctionData) (cover : Cover) (is : IsCoverOf f.order (IsTightAt f) cover) where
  -- each interval has a number
  pub all_numbered : cover.class ≡ [] → All IsSome cover.component
  all_numbered none k d below = by_number (get_or cover.component k d) refl
    where
      by_number : (o : Option ℕ) → get_or cover.component k d ≡ o → IsSome o
      by_number None e =
          let low : k < f.order = subst (λ (n : ℕ). k < n) is.component.length below in
          let at_none : number_at cover.component k ≡ None =
          get_or_default cover.component k None d below ∙ e in
          absurd ((is.component.uncovered k low).0 at_none (is.class.none.0 none k low))
      by_number (Some n) e = refl

  module _ (numbers : List ℕ) (same : map Some numbers ≡ cover.component) where
    pub are_all_covered : AreAllCovered f cover numbers
    are_all_covered = record { is_cover = is; numbers = sym same }

    pub numbers_length : length numbers ≡ f.order
    numbers_length = length_is f.order (IsTightAt f) cover numbers is (sym same)

    -- they are below the number of components, which are not more than the intervals
    pub numbers_below : All (λ c. c < cover.count) numbers
    numbers_below k d below =
        let low : k < f.order = subst (λ (n : ℕ). k < n) numbers_length below in
        let less = component_low f.order (IsTightAt f) cover numbers is (sym same) k low in
        let read = get_or_default numbers k d 0 below in
        omega arith

    pub count_few : cover.count ≤ length numbers
    count_few =
        let most = count_by-le-length (λ (l : CoverLine). l.from == l.interval) cover.lines in
        let lines = lines_count f cover numbers are_all_covered in
        let count = is.count in
        let len = numbers_length in
        omega arith
