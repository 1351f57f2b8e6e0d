-- What the decision gives meets the rules of the checker.
use Rattle.std.proofs.Common.{◌≡◌, ℕ, ◌+◌, ◌*◌, ◌<◌, ◌≤◌, ℤ, pos, ◌+ℤ◌, ◌*ℤ◌, List, [], ◌∷◌, ◌++◌, length, map, unsigned_abs, refl, sym, ap, ap₂, subst, ◌∙◌, mul-pos, arith}
use Rattle.std.specs.Prelude.{All}
use Rattle.std.specs.List.{range_with_len}
use Rattle.std.proofs.Math.Nat.{eq_of_mul-eq-mul_left}
use Rattle.std.proofs.lemmas.List.{length-map}
use Rattle.std.proofs.lemmas.List.Elements.{All-nil, All-cons, All-append}
use Rattle.gj_lemmas.proofs.Lists.{All-made, All-one, All-three}
use Rattle.gj_shape.specs.Cover.{HasComponent, components_in}
use Rattle.gj_shape.specs.Elimination.{Elimination, elimination_by, Passes}
use Rattle.gj_shape.specs.FirstViolation.{PassesAll}
use Rattle.gj_shape.specs.FunctionData.{FunctionData, IsWithinBounds, IsPiecewise, at}
use Rattle.gj_shape.specs.Refinement.{refined}
use Rattle.gj_shape.specs.SlopeRows.{component_in}
use Rattle.gj_shape.specs.Table.{IsMinimal}
use Rattle.gj_shape.specs.declared.extremality.CoverLine.{CoverLine}
use Rattle.gj_shape.specs.declared.extremality.LimitHalves.{LimitHalves}
use Rattle.gj_shape.specs.declared.extremality.RowName.TheVariants.{Period}
use Rattle.gj_shape.specs.declared.extremality.SideNumbers.{SideNumbers}
use Rattle.gj_shape.proofs.TableLemmas.{pieces_of}
use Rattle.gj_theory.proofs.TestsFromMinimal.{tests_from_minimal}
use Rattle.gj_jumps.specs.LimitCover.{IsTightAt}
use Rattle.gj_limit_averages.specs.Averages.{IsMinimalOver, AreDifferentParts}
use Rattle.gj_limit_averages.proofs.AverageValues.{pieces_over}
use Rattle.gj_limit_system.specs.Unknowns.{columns_for}
use Rattle.gj_proof.specs.PresentRows.{arithmetic_of, AreNumbersOf}
use Rattle.gj_proof.specs.Rules.{Demand, size_demands, step_demands_by, pair_demands, group_demands_by as plain_demands}
use Rattle.gj_proof.specs.declared.numbers.Numbers.{Numbers}
use Rattle.gj_proof.specs.declared.numbers.Numbers.TheVariants.{Whole, Residues}
use Rattle.gj_proof.specs.declared.pivot.PivotRow.{PivotRow}
use Rattle.gj_limit_proof.specs.LimitMeaning.{half_of, ShowLimitHalves}
use Rattle.gj_limit_proof.specs.LimitRowsKept.{begun_row, rows_before_by}
use Rattle.gj_limit_proof.specs.LimitRules.{AreWithinScale, MeetsLimitRange, MeetsLimitAverage, PassesAsHalf, group_demands_by, DemandHolds, MeetsLimitRules}
use Rattle.gj_limit_proof.specs.LimitText.{triple_at}
use Rattle.gj_limit_proof.specs.declared.claim.LimitClaim.TheVariants.{Extreme, NotExtreme}
use Rattle.gj_limit_proof.specs.declared.claim.LimitPivotRow.{LimitPivotRow}
use Rattle.gj_extreme.proofs.DecidedGroups.{step_is_met}
use Rattle.gj_extreme.proofs.DecidedRules.{HoldAtGroups, each_group, each_pair}
use Rattle.gj_limit_extreme.specs.Decision.{group_of, columns_of, elimination_over, AreExtremeRows}
use Rattle.gj_limit_extreme.proofs.CoverLines.{line_meets_cover}
use Rattle.gj_limit_extreme.proofs.DecidedGroups.{system_rows, rows_same, system_columns, GroupIsMet, group_is_met}
use Rattle.gj_limit_extreme.proofs.HalfBounds.{right_within, left_within, value_within}
use Rattle.gj_limit_extreme.proofs.KeptRows.{IsNarrow, all_kept_meet, residues_are_narrow}
use Rattle.gj_limit_extreme.proofs.OneCover.{has_component, one_component}

-- ---- extreme

pub rows_are_narrow : (numbers : Numbers) (f : FunctionData) (lines : List CoverLine)
    (rows : List LimitPivotRow) →
    (h : AreExtremeRows numbers f lines rows) →
    IsNarrow numbers (columns_of f h.cover)
    (system_rows f (component_in h.component) (columns_of f h.cover))
rows_are_narrow Whole f lines rows h = h.needed
rows_are_narrow Residues f lines rows h =
    residues_are_narrow (columns_of f h.cover)
    (system_rows f (component_in h.component) (columns_of f h.cover))

-- a group of rows of another kind, with the same steps and pivot
abbrev plain_group : LimitPivotRow → PivotRow
plain_group one = record { name = Period; reduce = one.reduce; pivot = one.pivot }

-- the demands on it are the same
demands_same : (numbers : Numbers) (g : ℕ) (rows : List LimitPivotRow) →
    plain_demands numbers g (map plain_group rows) ≡ group_demands_by numbers g rows
demands_same numbers g [] = refl
demands_same numbers g (one ∷ rows) =
    ap (λ ds. Demand.row g ∷ step_demands_by numbers g 0 one.reduce ++ Demand.pivot g ∷ ds)
    (demands_same numbers (g + 1) rows)

module _ (numbers : Numbers) (f : FunctionData) (lines : List CoverLine) (rows : List LimitPivotRow)
    (bounds : IsWithinBounds f)
    (h : AreExtremeRows numbers f lines rows) where
  abbrev n : ℕ
  n = columns_for f.order (components_in lines)

  abbrev P : Demand → Type 0
  P = DemandHolds (Extreme numbers f lines rows)

  pub count_is : columns_of f h.cover ≡ n
  count_is = ap (columns_for f.order)
      (h.covered.is_cover.count ∙ ap components_in (sym h.lines_are))

  own_numbers : AreNumbersOf f lines (component_in h.component)
  own_numbers i low =
      subst (λ (ls : List CoverLine). HasComponent ls (component_in h.component i) i)
      (sym h.lines_are)
      (has_component f h.cover h.component h.covered i low)

  -- the elimination by other numbers of the components is the same
  elimination_same : (component : ℕ → ℕ) → AreNumbersOf f lines component →
      elimination_over numbers f h.component (columns_of f h.cover)
      ≡ elimination_by (arithmetic_of numbers) n (system_rows f component n)
  elimination_same component are =
      let two : 2 ≤ f.order = bounds.order_low in
      let same : (j : ℕ) → j < f.order → component_in h.component j ≡ component j =
      λ j low. one_component f h.cover h.component h.covered j (component j) low
      (subst (λ (ls : List CoverLine). HasComponent ls (component j) j) h.lines_are (are j low)) in
      ap₂ (elimination_by (arithmetic_of numbers)) count_is
      (rows_same f (component_in h.component) component (columns_of f h.cover) (omega arith) same
      ∙ ap (system_rows f component) count_is)

  -- by any numbers of the components each group meets the rules
  groups_met : (component : ℕ → ℕ) → AreNumbersOf f lines component →
      (before : List LimitPivotRow) (one : LimitPivotRow)
      (after : List LimitPivotRow) → rows ≡ before ++ one ∷ after →
      GroupIsMet numbers f component n before one
  groups_met component are before one after place =
      let same = elimination_same component are in
      let all = system_rows f component n in
      group_is_met numbers f component n (elimination_by (arithmetic_of numbers) n all).kept rows
      before one after
      (h.rows_are ∙ ap (λ (e : Elimination). map (group_of f) e.kept) same)
      (all_kept_meet numbers n all (system_columns f component n)
      (subst (λ (e : Elimination). Passes e.marked → ⊥) same
      (rows_are_narrow numbers f lines rows h)))
      place

  -- the demands on steps: of residues there is none on sizes
  reduces : (g r : ℕ) → P (Demand.reduce g r)
  reduces g r component are before one after place index first c last there at =
      (step_is_met numbers (rows_before_by (arithmetic_of numbers) f component n before)
      (begun_row (arithmetic_of numbers) f component n one.name) one.reduce first c last there
      (groups_met component are before one after place).steps).0

  pivots : (g : ℕ) → P (Demand.pivot g)
  pivots g component are before one after place index =
      (groups_met component are before one after place).pivot

  pub at_groups : ((g r : ℕ) → All P (size_demands numbers g r)) → HoldAtGroups numbers P
  at_groups sizes = record {
    row = λ g before one after place index.
        (groups_met (component_in h.component) own_numbers before one after place).row;
    reduce = reduces;
    size = sizes;
    pivot = pivots;
  }

  rank_is : length rows ≡ n
  rank_is =
      ap length h.rows_are
      ∙ length-map (elimination_over numbers f h.component (columns_of f h.cover)).kept
      (group_of f) ∙ h.all
      ∙ count_is

  pub all_demands : IsMinimal f → HoldAtGroups numbers P →
      MeetsLimitRules (Extreme numbers f lines rows)
  all_demands minimal groups =
      let lines_demands = map Demand.cover (range_with_len 0 (length lines)) in
      let each_cover = All-made P Demand.cover 0 (length lines)
      (λ i below before line after place index.
      line_meets_cover f before line
      (h.covered.is_cover.lines.in_turn before line after (sym h.lines_are ∙ place))) in
      All-append P ((Demand.minimal ∷ lines_demands) ++ group_demands_by numbers 0 rows)
      (Demand.rank ∷ [])
      (All-append P (Demand.minimal ∷ lines_demands) (group_demands_by numbers 0 rows)
      (All-cons P Demand.minimal lines_demands (tests_from_minimal f minimal) each_cover)
      (subst (All P) (demands_same numbers 0 rows)
      (each_group numbers P 0 (map plain_group rows) groups)))
      (All-one P Demand.rank rank_is)

size_met : (f : FunctionData) (lines : List CoverLine) (rows : List LimitPivotRow)
    (bounds : IsWithinBounds f)
    (h : AreExtremeRows Whole f lines rows) (g r : ℕ) →
    DemandHolds (Extreme Whole f lines rows) (Demand.size g r)
size_met f lines rows bounds h g r component are before one after place index first c last there
    at =
    let n = columns_for f.order (components_in lines) in
    (step_is_met Whole (rows_before_by (arithmetic_of Whole) f component n before)
    (begun_row (arithmetic_of Whole) f component n one.name) one.reduce first c last there
    (groups_met Whole f lines rows bounds h component are before one after place).steps).1

pub extreme_rules : (numbers : Numbers) (f : FunctionData) (lines : List CoverLine)
    (rows : List LimitPivotRow) → IsWithinBounds f →
    IsMinimal f → AreExtremeRows numbers f lines rows →
    MeetsLimitRules (Extreme numbers f lines rows)
extreme_rules Whole f lines rows bounds minimal h =
    all_demands Whole f lines rows bounds h minimal
    (at_groups Whole f lines rows bounds h
    (λ g r. All-one (DemandHolds (Extreme Whole f lines rows)) (Demand.size g r)
    (size_met f lines rows bounds h g r)))
extreme_rules Residues f lines rows bounds minimal h =
    all_demands Residues f lines rows bounds h minimal
    (at_groups Residues f lines rows bounds h
    (λ g r. All-nil (DemandHolds (Extreme Residues f lines rows))))

-- ---- not extreme

same_pos : (x y : ℕ) → pos x ≡ pos y → x ≡ y
same_pos x y e = ap unsigned_abs e

module _ (f : FunctionData) (h : LimitHalves) (bounds : IsWithinBounds f) (minimal : IsMinimal f)
    (m c : ℕ)
    (scale : h.scale ≡ pos (c * (f.scale * m)))
    (parts : AreDifferentParts f m c (half_of f m h h.first) (half_of f m h h.second)) where
  abbrev Q : Demand → Type 0
  Q = DemandHolds (NotExtreme f h)

  order : h.order ≡ f.order * m
  order = parts.first.order

  order_some : 0 < f.order
  order_some = let two : 2 ≤ f.order = bounds.order_low in omega arith

  same_order : (k : ℕ) → h.order ≡ f.order * k → k ≡ m
  same_order k e = eq_of_mul-eq-mul_left f.order order_some k m (sym e ∙ order)

  same_scale : (k d : ℕ) → h.order ≡ f.order * k → h.scale ≡ pos (d * (f.scale * k)) → d ≡ c
  same_scale k d e s =
      let scale_some : 0 < f.scale * m = mul-pos (omega (arith, bounds.scale_low)) parts.finer in
      let over : h.scale ≡ pos (d * (f.scale * m)) = s
      ∙ ap (λ x. pos (d * (f.scale * x))) (same_order k e) in
      let numbers : d * (f.scale * m) ≡ c * (f.scale * m) =
      same_pos (d * (f.scale * m)) (c * (f.scale * m)) (sym over ∙ scale) in
      eq_of_mul-eq-mul_left (f.scale * m) scale_some d c
      (let left : f.scale * m * d ≡ d * (f.scale * m) = omega arith in
      let right : f.scale * m * c ≡ c * (f.scale * m) = omega arith in left ∙ numbers ∙ sym right)

  -- the limits and values of one half
  in_scale : (s : SideNumbers) → IsMinimalOver f m c (half_of f m h s) → (i : ℕ) →
      AreWithinScale h.scale (triple_at s i)
  in_scale s over i =
      let g = half_of f m h s in
      let l = pieces_over f m c g (pieces_of bounds) parts.finer parts.factor over in
      let whole : pos (unsigned_abs h.scale) ≡ h.scale = ap (λ x. pos (unsigned_abs x)) scale
      ∙ sym scale in
      let left = left_within g l over.minimal i in
      let value = value_within g l over.minimal i in
      let right = right_within g l over.minimal i in
      subst (λ (x : ℤ). AreWithinScale x (triple_at s i)) whole record {
        left_low = left.low;
        left_high = left.high;
        value_low = value.low;
        value_high = value.high;
        right_low = right.low;
        right_high = right.high;
      }

  -- the sum of both by another multiple of the order and the scale
  average_by : (first second xs : List ℤ) (i : ℕ) →
      at first i +ℤ at second i ≡ pos (2 * c) *ℤ refined f xs m i → (k d : ℕ) →
      h.order ≡ f.order * k → h.scale ≡ pos (d * (f.scale * k)) →
      at first i +ℤ at second i ≡ pos (2 * d) *ℤ refined f xs k i
  average_by first second xs i sum k d e s =
      sum ∙ sym (ap₂ (λ y x. pos (2 * y) *ℤ refined f xs x i) (same_scale k d e s) (same_order k e))

  average : (i : ℕ) → MeetsLimitAverage f h i
  average i = record {
    left = average_by h.first.left h.second.left f.left i (parts.average.left i);
    value = average_by h.first.value h.second.value f.value i (parts.average.value i);
    right = average_by h.first.right h.second.right f.right i (parts.average.right i);
  }

  half : (s : SideNumbers) → IsMinimalOver f m c (half_of f m h s) → PassesAsHalf f h s
  half s over k e =
      subst (λ (x : ℕ). PassesAll (half_of f x h s)) (sym (same_order k e))
      (tests_from_minimal (half_of f m h s) over.minimal)

  pub shown_rules : MeetsLimitRules (NotExtreme f h)
  shown_rules =
      let pairs = pair_demands (range_with_len 0 h.order) in
      All-append Q (Demand.minimal ∷ Demand.scale ∷ pairs)
      (Demand.first ∷ Demand.second ∷ Demand.same ∷ [])
      (All-cons Q Demand.minimal (Demand.scale ∷ pairs) (tests_from_minimal f minimal)
      (All-cons Q Demand.scale pairs (m, c, order, scale)
      (each_pair Q 0 h.order
      (λ i below. (
        (in_scale h.first parts.first i, in_scale h.second parts.second i),
        average
            i,
      )))))
      (All-three Q Demand.first Demand.second Demand.same (half h.first parts.first)
      (half h.second parts.second) parts.different)

pub halves_rules : (f : FunctionData) (h : LimitHalves) → IsWithinBounds f → IsMinimal f →
    ShowLimitHalves f h →
    MeetsLimitRules (NotExtreme f h)
halves_rules f h bounds minimal (m, c, scale, parts) =
    shown_rules f h bounds minimal m c scale parts
