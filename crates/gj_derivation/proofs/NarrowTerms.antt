-- Where all numbers of the terms that are found fit, none is said not to.
use Rattle.std.proofs.Common.{◌≡◌, ⊎_elim, ℕ, ◌+◌, ◌<◌, ◌≤◌, ◌^◌, Option, Some, None, List, length, get_or, take, pos, sym, ap, subst, subst₂, ◌∙◌, arith}
use Rattle.std.proofs.lemmas.Bool.{cases_lt}
use Rattle.std.proofs.lemmas.List.{get_or-take, length-take-le}
use Rattle.gj_frac.specs.declared.Frac.{Frac}
use Rattle.gj_frac.specs.Fits.{FitsProduct}
use Rattle.gj_frac.specs.Fraction.{numerator}
use Rattle.gj_fields.specs.Rational.{Rational, whole, rational, ◌*ℚ◌, neg_ℚ}
use Rattle.gj_problem.specs.RoundedCuts.{IsWideTimes}
use Rattle.gj_problem.proofs.AddedSums.{zero_frac}
use Rattle.gj_problem.proofs.OneRow.{rational_injective}
use Rattle.gj_problem.proofs.Prefixes.{default_unused}
use Rattle.gj_problem.specs.declared.problem.Column.{Column}
use Rattle.gj_problem.specs.declared.sums.Sum.{Sum}
use Rattle.gj_derivation.specs.Derivations.{times}
use Rattle.gj_derivation.specs.Checks.{line_of_sum}
use Rattle.gj_derivation.specs.Drafts.{IsFoundFor, IsWideGrid, IsWideFoundAt, IsWideFound}
use Rattle.gj_derivation.proofs.CheckedMoves.{claimed_is}
use Rattle.gj_derivation.proofs.FoundTerms.{last_or_before}
use Rattle.gj_derivation.proofs.NarrowMoves.{no_multiple, none_of, zero_turned}
use Rattle.gj_derivation.proofs.NarrowNumbers.{zero_times}

-- ---- one column

pub narrow_above : (n : ℕ) (lower upper : Option Frac) (l x m : Frac) → lower ≡ Some l →
    rational m ≡ neg_ℚ (rational x) → (IsWideTimes n m → ⊥) → IsWideGrid (Some n) lower upper x → ⊥
narrow_above n lower upper l x m is m_is narrow wide =
    let at : IsWideGrid (Some n) (Some l) upper x = subst (λ (o : Option Frac). IsWideGrid (Some n)
    o upper x) is wide in
    narrow (subst (IsWideTimes n) (rational_injective at.0 m (at.1 ∙ sym m_is)) at.2)

pub narrow_below : (n : ℕ) (lower upper : Option Frac) (x : Frac) → lower ≡ None →
    (IsWideTimes n x → ⊥) → IsWideGrid (Some n) lower upper x → ⊥
narrow_below n lower upper x is narrow wide =
    narrow (subst (λ (o : Option Frac). IsWideGrid (Some n) o upper x) is wide)

narrow_zero : (grid : Option ℕ) (lower upper : Option Frac) (x : Frac) →
    rational x ≡ whole (pos 0) → IsWideGrid grid lower upper x → ⊥
narrow_zero None lower upper x none wide = wide
narrow_zero (Some n) (Some l) upper x none (m, m_is, (k, k_is, wide)) =
    wide (zero_times k m (none_of m (m_is ∙ ap neg_ℚ none ∙ zero_turned)))
narrow_zero (Some n) None upper x none (k, k_is, wide) = wide (zero_times k x (none_of x none))

pub narrow_found_zero : (grid : Option ℕ) (c : Column) (factor coefficient : Frac) →
    numerator coefficient ≡ pos 0 → IsWideFoundAt grid c factor coefficient → ⊥
narrow_found_zero grid c factor coefficient none =
    ⊎_elim
    (λ (k : FitsProduct factor coefficient → ⊥). k (zero_times factor coefficient none))
    (λ (k : (x : Frac) × (rational x ≡ rational factor *ℚ rational coefficient)
    × IsWideGrid grid c.lower c.upper x).
    narrow_zero grid c.lower c.upper k.0
    (k.1 ∙ no_multiple (rational factor) (rational coefficient) (zero_frac coefficient none)) k.2)

pub narrow_found : (grid : Option ℕ) (n : ℕ) (c : Column) (factor coefficient x : Frac) →
    grid ≡ Some n → FitsProduct factor coefficient →
    rational x ≡ rational factor *ℚ rational coefficient →
    (IsWideGrid (Some n) c.lower c.upper x → ⊥) → IsWideFoundAt grid c factor coefficient → ⊥
narrow_found grid n c factor coefficient x is fits x_is narrow =
    ⊎_elim
    (λ (k : FitsProduct factor coefficient → ⊥). k fits)
    (λ (k : (z : Frac) × (rational z ≡ rational factor *ℚ rational coefficient)
    × IsWideGrid grid c.lower c.upper z).
    narrow (subst₂ (λ (g : Option ℕ) (z : Frac). IsWideGrid g c.lower c.upper z) is
    (rational_injective k.0 x (k.1 ∙ sym x_is)) k.2))

-- ---- more columns

-- none of the terms before column i has a number that does not fit
abbrev pub IsFoundNarrowTo : Option ℕ → List Column → Frac → Sum → ℕ → Type 0
IsFoundNarrowTo grid columns factor sum i =
    (w : IsWideFound grid columns factor (line_of_sum sum)) → w.index < i → ⊥

pub found_narrow_first : (grid : Option ℕ) (columns : List Column) (factor : Frac) (sum : Sum) →
    IsFoundNarrowTo grid columns factor sum 0
found_narrow_first grid columns factor sum w below = omega arith

pub found_narrow_next : (grid : Option ℕ) (columns : List Column) (factor : Frac) (sum : Sum)
    (i : ℕ) (c : Column) (coefficient : Frac) → i < length columns →
    length sum.coefficients.items ≡ length columns → c ≡ get_or columns i c →
    coefficient ≡ get_or sum.coefficients.items i coefficient →
    IsFoundNarrowTo grid columns factor sum i → (IsWideFoundAt grid c factor coefficient → ⊥) →
    (((y : Rational) → IsFoundFor grid c (times factor (line_of_sum sum) i) y → ⊥) →
    2 ^ 32 ≤ i → ⊥) → IsFoundNarrowTo grid columns factor sum (i + 1)
found_narrow_next grid columns factor sum i c coefficient below count here c_here before narrow
    found w w_below =
    let xs = times factor (line_of_sum sum) in
    ⊎_elim (before w)
    (λ (at : w.index ≡ i).
    let column : w.column ≡ c =
    w.is ∙ ap (λ (k : ℕ). get_or columns k w.column) at ∙ default_unused columns i w.column c below
    ∙ sym here in
    let coefficient_same : w.coefficient ≡ coefficient =
    rational_injective w.coefficient coefficient
    (w.coefficient_is ∙ ap (line_of_sum sum).coefficient at
    ∙ sym (claimed_is sum.coefficients.items i coefficient (omega arith) c_here)) in
    ⊎_elim
    (λ (k : IsWideFoundAt grid w.column factor w.coefficient).
    narrow (subst₂ (λ (d : Column) (x : Frac). IsWideFoundAt grid d factor x) column
    coefficient_same k))
    (λ (k : ((y : Rational) → IsFoundFor grid w.column (xs w.index) y → ⊥)
    × (2 ^ 32 ≤ w.index)).
    let far = k.1 in
    found (subst₂ (λ (d : Column) (j : ℕ). (y : Rational) → IsFoundFor grid d (xs j) y → ⊥) column
    at k.0) (omega arith))
    w.wide)
    (last_or_before i w.index w_below)

-- a column at which none is found has none behind it
pub found_narrow_stuck : (grid : Option ℕ) (columns : List Column) (factor : Frac) (sum : Sum)
    (i : ℕ) (c : Column) → i < length columns → c ≡ get_or columns i c →
    ((y : Rational) → IsFoundFor grid c (times factor (line_of_sum sum) i) y → ⊥) →
    IsFoundNarrowTo grid columns factor sum (i + 1) →
    IsWideFound grid columns factor (line_of_sum sum) → ⊥
found_narrow_stuck grid columns factor sum i c below here none narrow w =
    ⊎_elim (narrow w)
    (λ (past : i + 1 ≤ w.index).
    let within = w.below in
    let fewer : length (take w.index columns) ≡ w.index =
    length-take-le w.index columns (omega arith) in
    none (w.ys i) (w.found_before i c (omega arith)
    (here ∙ sym (get_or-take w.index columns i c (omega arith)))))
    (cases_lt w.index (i + 1))

pub found_narrow_end : (grid : Option ℕ) (columns : List Column) (factor : Frac) (sum : Sum)
    (i : ℕ) → length columns ≤ i → IsFoundNarrowTo grid columns factor sum i →
    IsWideFound grid columns factor (line_of_sum sum) → ⊥
found_narrow_end grid columns factor sum i end narrow w =
    let below = w.below in narrow w (omega arith)
