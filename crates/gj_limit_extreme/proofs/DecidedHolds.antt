-- What the decision gives holds.
use Rattle.std.proofs.Common.{◌≡◌, ℕ, ◌<◌, ◌≤◌, ◌⊎◌, inl, inr, ℤ, pos, List, length, get_or, map, sym, subst, ◌∙◌, lit<, arith}
use Rattle.std.specs.Prelude.{All}
use Rattle.std.proofs.lemmas.List.Elements.{All-nil, All-map}
use Rattle.gj_cover.specs.declared.covered.Cover.{Cover}
use Rattle.gj_shape.specs.FunctionData.{FunctionData, IsWithinBounds}
use Rattle.gj_shape.specs.SlopeRows.{component_in}
use Rattle.gj_shape.specs.Table.{IsMinimal}
use Rattle.gj_shape.specs.declared.extremality.CoverLine.{CoverLine}
use Rattle.gj_theory.specs.Modulus.{modulus}
use Rattle.gj_theory.specs.TriangularRows.{Solves}
use Rattle.gj_theory.proofs.Eliminations.{elimination_has}
use Rattle.gj_theory.proofs.MinimalEntries.{value_at_zero}
use Rattle.gj_theory.proofs.ResidueElimination.{elimination_modulo_zero}
use Rattle.gj_theory.proofs.SoundArithmetic.{whole_sound}
use Rattle.gj_theory.proofs.Triangular.{zeros_of}
use Rattle.gj_jumps.specs.LimitCover.{IsTightAt}
use Rattle.gj_limit_averages.specs.Averages.{IsExtremeFunction}
use Rattle.gj_limit_averages.proofs.FromConditions.{extreme_from_conditions}
use Rattle.gj_limit_system.specs.Decided.{SolveLimitRows, HasOnlyZeroAsList}
use Rattle.gj_limit_system.specs.LimitRows.{limit_rows}
use Rattle.gj_limit_system.proofs.Components.{component_low}
use Rattle.gj_limit_system.proofs.FromLimits.{limits_zero}
use Rattle.gj_limit_system.proofs.ListNumbers.{columns_by_lists}
use Rattle.gj_proof.specs.declared.numbers.Numbers.{Numbers}
use Rattle.gj_proof.specs.declared.numbers.Numbers.TheVariants.{Whole, Residues}
use Rattle.gj_limit_proof.specs.LimitMeaning.{LimitClaimHolds}
use Rattle.gj_limit_proof.specs.LimitRowsKept.{named_row}
use Rattle.gj_limit_proof.specs.LimitRules.{MeetsLimitRules}
use Rattle.gj_limit_proof.specs.declared.claim.LimitClaim.{LimitClaim}
use Rattle.gj_limit_proof.specs.declared.claim.LimitClaim.TheVariants.{Extreme, NotExtreme}
use Rattle.gj_limit_proof.specs.declared.claim.LimitPivotRow.{LimitPivotRow}
use Rattle.gj_limit_proof.proofs.LinearRows.{named_products}
use Rattle.gj_limit_extreme.specs.Decision.{AreAllCovered, columns_of, elimination_over, AreExtremeRows, IsLimitDecided, DeniesExtreme}
use Rattle.gj_limit_extreme.proofs.CoverLines.{covered_by_component}
use Rattle.gj_limit_extreme.proofs.DecidedGroups.{system_rows, system_columns}
use Rattle.gj_limit_extreme.proofs.DecidedHalves.{decided_halves}
use Rattle.gj_limit_extreme.proofs.DecidedRules.{extreme_rules, halves_rules}
use Rattle.gj_limit_extreme.proofs.OneCover.{has_component}

-- as many kept rows as columns leave only 0
only_zero : (numbers : Numbers) (f : FunctionData) (component : List ℕ) (n : ℕ) (w : List ℤ) →
    length (elimination_over numbers f component n).kept ≡ n → length w ≡ n →
    All (Solves w) (system_rows f (component_in component) n) → All (λ x. x ≡ pos 0) w
only_zero Whole f component n w full long solve =
    let rows = system_rows f (component_in component) n in
    let has = elimination_has whole_sound n rows (system_columns f (component_in component) n) in
    zeros_of n (elimination_over Whole f component n).kept w has.triangular full long
    ((has.same w).onward (All-nil (λ k. Solves w k.entries), solve))
only_zero Residues f component n w full long solve =
    elimination_modulo_zero modulus n (system_rows f (component_in component) n) w (lit< tt)
    (system_columns f (component_in component) n) full long solve

-- so only 0 solves the rows
only_zero_solves : (numbers : Numbers) (f : FunctionData) (cover : Cover) (component : List ℕ) →
    IsWithinBounds f →
    AreAllCovered f cover component →
    length (elimination_over numbers f component (columns_of f cover)).kept
    ≡ columns_of f cover →
    HasOnlyZeroAsList f component cover.count
only_zero_solves numbers f cover component bounds covered full w long rows =
    let two : 2 ≤ f.order = bounds.order_low in
    let few = component_low f.order (IsTightAt f) cover component covered.is_cover
    covered.numbers in
    only_zero numbers f component (columns_of f cover) w full long
    (All-map (Solves w) (named_row f (component_in component) (columns_of f cover)) (limit_rows f)
    (λ k d low.
    named_products f (component_in component) cover.count (omega arith) few
    (get_or (limit_rows f) k d) w long ∙ rows k d low))

pub extreme_holds : (numbers : Numbers) (f : FunctionData) (lines : List CoverLine)
    (rows : List LimitPivotRow) → IsWithinBounds f →
    IsMinimal f → AreExtremeRows numbers f lines rows → IsExtremeFunction f
extreme_holds numbers f lines rows bounds minimal h =
    let two : 2 ≤ f.order = bounds.order_low in
    let few = component_low f.order (IsTightAt f) h.cover h.component h.covered.is_cover
    h.covered.numbers in
    let only = columns_by_lists f h.component h.cover.count (omega arith) few
    (only_zero_solves numbers f h.cover h.component bounds h.covered h.all) in
    extreme_from_conditions f bounds record {
      minimal = minimal;
      covered = λ i low.
          covered_by_component f h.cover.lines h.covered.is_cover.lines
          (component_in h.component i) i
          (has_component f h.cover h.component h.covered i low);
      only_zero = λ w solves.
          limits_zero f bounds (value_at_zero f minimal) h.cover h.component h.covered.is_cover
          h.covered.numbers w solves only;
    }

-- what the decision gives of a function within the limits is true
pub decided_holds : (f : FunctionData) (c : LimitClaim) → IsWithinBounds f → IsLimitDecided f c →
    LimitClaimHolds c
decided_holds f (Extreme numbers g lines rows) bounds h =
    subst (λ (x : FunctionData). LimitClaimHolds (Extreme numbers x lines rows)) (sym h.0)
    (extreme_holds numbers f lines rows bounds h.1 h.2)
decided_holds f (NotExtreme g halves) bounds h =
    subst (λ (x : FunctionData). LimitClaimHolds (NotExtreme x halves)) (sym h.0)
    (h.1, decided_halves f halves bounds h.1 h.2)

-- it denies that the function is extreme, if it says so
pub decided_denies : (f : FunctionData) (c : LimitClaim) → IsWithinBounds f → IsLimitDecided f c →
    DeniesExtreme f c
decided_denies f (Extreme numbers g lines rows) bounds h = tt
decided_denies f (NotExtreme g halves) bounds h =
    let shown = decided_halves f halves bounds h.1 h.2 in
    λ extreme. extreme.no_average shown.0 shown.1 _ _ shown.3

-- and meets the rules
pub decided_rules : (f : FunctionData) (c : LimitClaim) → IsWithinBounds f → IsLimitDecided f c →
    MeetsLimitRules c
decided_rules f (Extreme numbers g lines rows) bounds h =
    subst (λ (x : FunctionData). MeetsLimitRules (Extreme numbers x lines rows)) (sym h.0)
    (extreme_rules numbers f lines rows bounds h.1 h.2)
decided_rules f (NotExtreme g halves) bounds h =
    subst (λ (x : FunctionData). MeetsLimitRules (NotExtreme x halves)) (sym h.0)
    (halves_rules f halves bounds h.1 (decided_halves f halves bounds h.1 h.2))
