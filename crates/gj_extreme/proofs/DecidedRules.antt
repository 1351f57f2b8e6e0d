-- What the decision gives meets the rules of the checker.
use Rattle.std.proofs.Common.{◌≡◌, ℕ, zero, suc, ◌⊎◌, inl, inr, ◌+◌, ◌*◌, ◌<◌, ◌≤◌, ◌^◌, ℤ, pos, ◌+ℤ◌, ◌*ℤ◌, ◌≤ℤ◌, List, [], ◌∷◌, ◌++◌, length, map, unsigned_abs, sym, ap, subst, ◌∙◌, mul-pos, arith}
use Rattle.std.specs.Prelude.{All}
use Rattle.std.specs.List.{range_with_len}
use Rattle.std.proofs.Math.Nat.{eq_of_mul-eq-mul_left}
use Rattle.std.proofs.lemmas.List.{length-map}
use Rattle.std.proofs.lemmas.List.Elements.{All-nil, All-cons, All-append}
use Rattle.gj_shape.specs.Cover.{components_in}
use Rattle.gj_lemmas.proofs.Lists.{All-made, All-one, All-three}
use Rattle.gj_shape.specs.Additive.{IsTight}
use Rattle.gj_shape.specs.Elimination.{Passes}
use Rattle.gj_shape.specs.FunctionData.{FunctionData, IsWithinBounds, IsContinuous, at}
use Rattle.gj_shape.specs.Table.{table, IsMinimalTable, IsMinimal}
use Rattle.gj_shape.specs.declared.extremality.CoverLine.{CoverLine}
use Rattle.gj_shape.specs.declared.extremality.Halves.{Halves}
use Rattle.gj_shape.specs.declared.violations.Violation.{Violation}
use Rattle.gj_theory.proofs.SlacksAndSizes.{at_most_scale}
use Rattle.gj_theory.specs.GridPoints.{IsAtGridPoints}
use Rattle.gj_theory.specs.Halves.{AreDifferentHalves}
use Rattle.gj_theory.proofs.CoverLines.{lines_meet_rules}
use Rattle.gj_theory.proofs.LineComponents.{one_component}
use Rattle.gj_theory.proofs.Violations.{first_shown}
use Rattle.gj_theory.proofs.TestsFromMinimal.{tests_from_minimal}
use Rattle.gj_proof.specs.declared.claim.Claim.TheVariants as claim
use Rattle.gj_proof.specs.declared.pivot.PivotRow.{PivotRow}
use Rattle.gj_proof.proofs.GridCoordinates.{meets_point}
use Rattle.gj_proof.specs.PresentRows.{AreNumbersOf, arithmetic_of, begun_row, named_row, rows_before, rows_before_by}
use Rattle.gj_proof.specs.Rules.{Demand, MeetsRange, MeetsAverage, IsMinimalHalf, size_demands, step_demands_by, group_demands_by, extreme_demands, pair_demands, DemandHolds, MeetsRules}
use Rattle.gj_proof.specs.declared.numbers.Numbers.{Numbers}
use Rattle.gj_proof.specs.declared.numbers.Numbers.TheVariants.{Whole, Residues}
use Rattle.gj_extreme.specs.Decision.{group_of, elimination_over, AreExtremeRows, AreZigzagHalves, AreSlopeHalves, IsDecided}
use Rattle.gj_extreme.proofs.KeptGroups.{all_kept_meet, rows_are_narrow}
use Rattle.gj_extreme.proofs.DecidedGroups.{elimination_same, GroupIsMet, group_is_met, step_is_met}
use Rattle.gj_extreme.proofs.DecidedHalves.{zigzag_halves, slope_halves}

-- ---- demands that hold at each place

each_step : (numbers : Numbers) (P : Demand → Type 0) (g r : ℕ) (columns : List ℕ) →
    ((i : ℕ) → P (Demand.reduce g i)) →
    ((i : ℕ) → All P (size_demands numbers g i)) → All P (step_demands_by numbers g r columns)
each_step numbers P g r [] reduce size = All-nil P
each_step numbers P g r (c ∷ columns) reduce size =
    All-cons P (Demand.reduce g r)
    (size_demands numbers g r ++ step_demands_by numbers g (r + 1) columns) (reduce r)
    (All-append P (size_demands numbers g r) (step_demands_by numbers g (r + 1) columns) (size r)
    (each_step numbers P g (r + 1) columns reduce size))

-- what holds at each group
pub record HoldAtGroups (numbers : Numbers) (P : Demand → Type 0) : Type 0 where
  pub row : (g : ℕ) → P (Demand.row g)
  pub reduce : (g r : ℕ) → P (Demand.reduce g r)
  pub size : (g r : ℕ) → All P (size_demands numbers g r)
  pub pivot : (g : ℕ) → P (Demand.pivot g)

pub each_group : (numbers : Numbers) (P : Demand → Type 0) (g : ℕ) (rows : List PivotRow) →
    HoldAtGroups numbers P →
    All P (group_demands_by numbers g rows)
each_group numbers P g [] h = All-nil P
each_group numbers P g (one ∷ more) h =
    let steps = step_demands_by numbers g 0 one.reduce in
    let later = group_demands_by numbers (g + 1) more in
    All-cons P (Demand.row g) (steps ++ Demand.pivot g ∷ later) (h.row g)
    (All-append P steps (Demand.pivot g ∷ later)
    (each_step numbers P g 0 one.reduce (h.reduce g) (h.size g))
    (All-cons P (Demand.pivot g) later (h.pivot g) (each_group numbers P (g + 1) more h)))

pub each_pair : (P : Demand → Type 0) (a n : ℕ) →
    ((i : ℕ) → i < a + n → P (Demand.range i) × P (Demand.average i)) →
    All P (pair_demands (range_with_len a n))
each_pair P a zero h = All-nil P
each_pair P a (suc n) h =
    let here = h a (omega arith) in
    let later = pair_demands (range_with_len (a + 1) n) in
    All-cons P (Demand.range a) (Demand.average a ∷ later) here.0
    (All-cons P (Demand.average a) later here.1
    (each_pair P (a + 1) n (λ i below. h i (omega arith))))

-- ---- extreme

-- by any numbers of the components each group meets the rules
groups_met : (numbers : Numbers) (f : FunctionData) (lines : List CoverLine)
    (rows : List PivotRow) → IsWithinBounds f →
    AreExtremeRows numbers f lines rows → (component : ℕ → ℕ) → AreNumbersOf f lines component →
    (before : List PivotRow) (one : PivotRow)
    (after : List PivotRow) → rows ≡ before ++ one ∷ after →
    GroupIsMet numbers f component (components_in lines) before one
groups_met numbers f lines rows l h component are before one after place =
    let e = same in
    group_is_met numbers f component n (elimination_over numbers f component n).kept rows before one
    after
    (h.rows_are ∙ ap (λ x. map (group_of f) x.kept) e)
    (all_kept_meet numbers f component n
    (subst (λ x. Passes x.marked → ⊥) e (rows_are_narrow numbers f lines rows h))) place
  where
    n : ℕ
    n = components_in lines

    -- the elimination by other numbers
    same : elimination_over numbers f h.component h.n ≡ elimination_over numbers f component n
    same =
        elimination_same numbers f h.component component h.n l
        (λ i low. one_component f.order (IsTight f) lines i (h.component i) (component i)
        (lines_meet_rules f.order (IsTight f) lines h.covered.are_lines) (h.covered.numbers i low)
        (are i low))
        ∙ ap (elimination_over numbers f component) h.covered.count

whole_groups : (f : FunctionData) (lines : List CoverLine) (rows : List PivotRow) →
    IsWithinBounds f →
    (h : AreExtremeRows Whole f lines rows) →
    HoldAtGroups Whole (DemandHolds (claim.Extreme f lines rows))
whole_groups f lines rows l h =
    let n = components_in lines in
    let met = groups_met Whole f lines rows l h in
    record {
      row = λ g before one after place index.
          (met h.component h.covered.numbers before one after place).row;
      reduce = λ g r before one after place index component numbers first c last there at.
          (step_is_met Whole (rows_before f component n before)
          (named_row f component n one.name) one.reduce first c last there
          (met component numbers before one after place).steps).0;
      size = λ g r. All-one (DemandHolds (claim.Extreme f lines rows)) (Demand.size g r)
          (λ before one after place index component numbers first c last there at.
          (step_is_met Whole (rows_before f component n before)
          (named_row f component n one.name) one.reduce first c last there
          (met component numbers before one after place).steps).1);
      pivot = λ g before one after place index component numbers.
          (met component numbers before one after place).pivot;
    }

residue_groups : (f : FunctionData) (lines : List CoverLine) (rows : List PivotRow) →
    IsWithinBounds f →
    (h : AreExtremeRows Residues f lines rows) →
    HoldAtGroups Residues (DemandHolds (claim.ExtremeByResidues f lines rows))
residue_groups f lines rows l h =
    let n = components_in lines in
    let by = arithmetic_of Residues in
    let met = groups_met Residues f lines rows l h in
    record {
      row = λ g before one after place index.
          (met h.component h.covered.numbers before one after place).row;
      reduce = λ g r before one after place index component numbers first c last there at.
          (step_is_met Residues (rows_before_by by f component n before)
          (begun_row by f component n one.name) one.reduce first c last there
          (met component numbers before one after place).steps).0;
      size = λ g r. All-nil (DemandHolds (claim.ExtremeByResidues f lines rows));
      pivot = λ g before one after place index component numbers.
          (met component numbers before one after place).pivot;
    }

-- the demands that both claims have
record HoldAtFunction (P : Demand → Type 0) (lines : List CoverLine) : Type 0 where
  minimal : P Demand.minimal
  continuous : P Demand.continuous
  cover : (i : ℕ) → P (Demand.cover i)
  rank : P Demand.rank

all_demands : (numbers : Numbers) (P : Demand → Type 0) (lines : List CoverLine)
    (rows : List PivotRow) → HoldAtFunction P lines →
    HoldAtGroups numbers P → All P (extreme_demands numbers lines rows)
all_demands numbers P lines rows h groups =
    All-append P (early ++ group_demands_by numbers 0 rows) (Demand.rank ∷ [])
    (All-append P early (group_demands_by numbers 0 rows)
    (All-cons P Demand.minimal (Demand.continuous ∷ covers) h.minimal
    (All-cons P Demand.continuous covers h.continuous
    (All-made P Demand.cover 0 (length lines) (λ i below. h.cover i))))
    (each_group numbers P 0 rows groups))
    (All-one P Demand.rank h.rank)
  where
    covers : List Demand
    covers = map Demand.cover (range_with_len 0 (length lines))

    early : List Demand
    early = Demand.minimal ∷ Demand.continuous ∷ covers

rank_is : (numbers : Numbers) (f : FunctionData) (lines : List CoverLine) (rows : List PivotRow) →
    AreExtremeRows numbers f lines rows →
    length rows ≡ components_in lines
rank_is numbers f lines rows h =
    ap length h.rows_are ∙ length-map (elimination_over numbers f h.component h.n).kept _ ∙ h.all
    ∙ h.covered.count

extreme_rules : (f : FunctionData) (lines : List CoverLine) (rows : List PivotRow) →
    IsWithinBounds f → IsMinimal f → IsContinuous f →
    AreExtremeRows Whole f lines rows → MeetsRules (claim.Extreme f lines rows)
extreme_rules f lines rows l minimal continuous h =
    all_demands Whole (DemandHolds (claim.Extreme f lines rows)) lines rows record {
      minimal = tests_from_minimal f minimal;
      continuous = continuous;
      cover = λ i before line after place index.
          lines_meet_rules f.order (IsTight f) lines h.covered.are_lines before line after place;
      rank = rank_is Whole f lines rows h;
    } (whole_groups f lines rows l h)

residue_rules : (f : FunctionData) (lines : List CoverLine) (rows : List PivotRow) →
    IsWithinBounds f → IsMinimal f → IsContinuous f →
    AreExtremeRows Residues f lines rows → MeetsRules (claim.ExtremeByResidues f lines rows)
residue_rules f lines rows l minimal continuous h =
    all_demands Residues (DemandHolds (claim.ExtremeByResidues f lines rows)) lines rows record {
      minimal = tests_from_minimal f minimal;
      continuous = continuous;
      cover = λ i before line after place index.
          lines_meet_rules f.order (IsTight f) lines h.covered.are_lines before line after place;
      rank = rank_is Residues f lines rows h;
    } (residue_groups f lines rows l h)

-- ---- not extreme

-- the halves on the grid of order m times the function's, over c times the scale
record AreHalvesOn (f : FunctionData) (h : Halves) (m c : ℕ) : Type 0 where
  some : 0 < m
  order : h.order ≡ f.order * m
  scale : h.scale ≡ pos (c * (f.scale * m))
  different : AreDifferentHalves (table f m) (f.order * m) (f.place * m) (f.scale * m) c
      (at h.first) (at h.second)

halves_rules : (f : FunctionData) (h : Halves) (m c : ℕ) → IsWithinBounds f → IsMinimal f →
    IsContinuous f → AreHalvesOn f h m c →
    MeetsRules (claim.NotExtreme f h)
halves_rules f h m c l minimal continuous on =
    All-append P early (Demand.first ∷ Demand.second ∷ Demand.same ∷ [])
    (All-cons P Demand.minimal (Demand.continuous ∷ Demand.scale ∷ pairs)
    (tests_from_minimal f minimal)
    (All-cons P Demand.continuous (Demand.scale ∷ pairs) continuous
    (All-cons P Demand.scale pairs (m, c, on.order, on.scale)
    (each_pair P 0 h.order (λ i below. (range i, average i))))))
    (All-three P Demand.first Demand.second Demand.same (half h.first on.different.first)
    (half h.second on.different.second)
    (on.different.index, on.different.different))
  where
    P : Demand → Type 0
    P = DemandHolds (claim.NotExtreme f h)

    pairs : List Demand
    pairs = pair_demands (range_with_len 0 h.order)

    early : List Demand
    early = Demand.minimal ∷ Demand.continuous ∷ Demand.scale ∷ pairs

    order_some : 0 < f.order
    order_some = omega (arith, l.order_low)

    n_some : 0 < f.order * m
    n_some = mul-pos order_some on.some

    same_order : (k : ℕ) → h.order ≡ f.order * k → k ≡ m
    same_order k e = eq_of_mul-eq-mul_left f.order order_some k m (sym e ∙ on.order)

    same_pos : (x y : ℕ) → pos x ≡ pos y → x ≡ y
    same_pos x y e = ap unsigned_abs e

    same_scale : (k d : ℕ) → h.order ≡ f.order * k → h.scale ≡ pos (d * (f.scale * k)) → d ≡ c
    same_scale k d e s =
        let scale_some : 0 < f.scale * m = mul-pos (omega (arith, l.scale_low)) on.some in
        let over : h.scale ≡ pos (d * (f.scale * m)) = s
        ∙ ap (λ x. pos (d * (f.scale * x))) (same_order k e) in
        let numbers : d * (f.scale * m) ≡ c * (f.scale * m) =
        same_pos (d * (f.scale * m)) (c * (f.scale * m)) (sym over ∙ on.scale) in
        eq_of_mul-eq-mul_left (f.scale * m) scale_some d c
        (let left : f.scale * m * d ≡ d * (f.scale * m) = omega arith in
        let right : f.scale * m * c ≡ c * (f.scale * m) = omega arith in left ∙ numbers ∙ sym right)

    high : (values : List ℤ) →
        IsMinimalTable (at values) (f.order * m) (f.place * m) (c * (f.scale * m)) → (i : ℕ) →
        at values i ≤ℤ h.scale
    high values t i =
        subst (λ (s : ℤ). at values i ≤ℤ s) (sym on.scale)
        (at_most_scale (at values) (f.order * m) (f.place * m) (c * (f.scale * m)) i n_some t)

    range : (i : ℕ) → MeetsRange h i
    range i = record {
      first_low = on.different.first.nonnegative i;
      first_high = high h.first on.different.first i;
      second_low = on.different.second.nonnegative i;
      second_high = high h.second on.different.second i;
    }

    average : (i : ℕ) → MeetsAverage f h i
    average i k d e s =
        subst (λ (x : ℕ). at h.first i +ℤ at h.second i ≡ pos (2 * x) *ℤ table f k i)
        (sym (same_scale k d e s))
        (subst (λ (x : ℕ). at h.first i +ℤ at h.second i ≡ pos (2 * c) *ℤ table f x i)
        (sym (same_order k e)) (on.different.average i))

    half : (values : List ℤ) →
        IsMinimalTable (at values) (f.order * m) (f.place * m) (c * (f.scale * m)) →
        IsMinimalHalf f h values
    half values t k e =
        subst (λ (x : ℕ). IsMinimalTable (at values) h.order (f.place * x) (unsigned_abs h.scale))
        (sym (same_order k e))
        (subst (λ (x : ℕ). IsMinimalTable (at values) x (f.place * m) (unsigned_abs h.scale))
        (sym on.order)
        (subst (λ (s : ℤ). IsMinimalTable (at values) (f.order * m) (f.place * m) (unsigned_abs s))
        (sym on.scale) t))

-- the halves that the decision gives are such halves
halves_decided : (f : FunctionData) (h : Halves) → IsWithinBounds f → IsMinimal f → IsContinuous f →
    AreZigzagHalves f h ⊎ AreSlopeHalves f h → MeetsRules (claim.NotExtreme f h)
halves_decided f h l minimal continuous (inl zig) =
    halves_rules f h 4 (3 * zig.halves.p) l minimal continuous record {
      some = omega arith;
      order = zig.halves.order;
      scale = zig.halves.scale;
      different = zigzag_halves f h l continuous minimal zig;
    }
halves_decided f h l minimal continuous (inr slope) =
    halves_rules f h 1 (3 * slope.halves.p) l minimal continuous record {
      some = omega arith;
      order = slope.halves.order;
      scale = slope.halves.scale;
      different = slope_halves f h l minimal slope;
    }

-- ---- each claim

-- a first violation at points of a grid of order at most 2^62, as the search finds it
pub decided_violation_rules : (f g : FunctionData) (v : Violation) (h : ℕ) → IsWithinBounds f →
    f.order * h ≤ 2 ^ 62 →
    IsAtGridPoints f h v → IsDecided f (claim.NotMinimal g v) → MeetsRules (claim.NotMinimal g v)
decided_violation_rules f g v h l fine at_points decided =
    subst (λ (x : FunctionData). MeetsRules (claim.NotMinimal x v)) (sym decided.0)
    (All-one (DemandHolds (claim.NotMinimal f v)) Demand.point
    (meets_point f v h fine at_points (first_shown f v l decided.1)))

pub decided_extreme_rules : (f g : FunctionData) (lines : List CoverLine) (rows : List PivotRow) →
    IsWithinBounds f →
    IsDecided f (claim.Extreme g lines rows) → MeetsRules (claim.Extreme g lines rows)
decided_extreme_rules f g lines rows l h =
    subst (λ (x : FunctionData). MeetsRules (claim.Extreme x lines rows)) (sym h.0)
    (extreme_rules f lines rows l h.1 h.2 h.3)

pub decided_residue_rules : (f g : FunctionData) (lines : List CoverLine) (rows : List PivotRow) →
    IsWithinBounds f →
    IsDecided f (claim.ExtremeByResidues g lines rows) →
    MeetsRules (claim.ExtremeByResidues g lines rows)
decided_residue_rules f g lines rows l h =
    subst (λ (x : FunctionData). MeetsRules (claim.ExtremeByResidues x lines rows)) (sym h.0)
    (residue_rules f lines rows l h.1 h.2 h.3)

pub decided_halves_rules : (f g : FunctionData) (halves : Halves) → IsWithinBounds f →
    IsDecided f (claim.NotExtreme g halves) →
    MeetsRules (claim.NotExtreme g halves)
decided_halves_rules f g halves l h =
    subst (λ (x : FunctionData). MeetsRules (claim.NotExtreme x halves)) (sym h.0)
    (halves_decided f halves l h.1 h.2 h.3)
