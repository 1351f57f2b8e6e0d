-- If the rules of a claim that a function is extreme hold, the function is extreme.
use Rattle.std.proofs.Common.{◌≡◌, ◌≢◌, ℕ, ◌⊎◌, inl, inr, ◌+◌, ◌<◌, ◌≤◌, Bool, true, false, cond, Option, None, Some, ℤ, pos, List, [], ◌∷◌, ◌++◌, length, map, eqb, refl, sym, ap, subst, ◌∙◌, append_assoc, arith, lit<}
use Rattle.std.specs.Prelude.{All}
use Rattle.std.specs.List.{range_with_len}
use Rattle.std.proofs.lemmas.Bool.{cases_lt}
use Rattle.std.proofs.lemmas.Bool.Decides.{Decides-eqb}
use Rattle.std.proofs.lemmas.List.{length-append, length_push, length-map}
use Rattle.std.proofs.lemmas.List.FromFn.{length-map-range_with_len}
use Rattle.std.proofs.lemmas.List.Elements.{All-nil, All-cons, All-head, All-tail}
use Rattle.gj_check_groups.proofs.ClaimGroups.{says as groups_say}
use Rattle.gj_check_groups.proofs.GroupsInTurn.{rows_behind_push}
use Rattle.gj_lemmas.proofs.Lists.{All-front, All-back, made_has}
use Rattle.gj_shape.specs.Additive.{IsTight}
use Rattle.gj_shape.specs.Cover.{HasComponent, components_in}
use Rattle.gj_shape.specs.Elimination.{KeptRow, at_column, scaled, row_with_pivot, kept_entries, kept_behind}
use Rattle.gj_shape.specs.Extreme.{IsExtreme}
use Rattle.gj_shape.specs.FunctionData.{FunctionData, IsWithinBounds, IsContinuous}
use Rattle.gj_shape.specs.Residues.{residue, residues, inverse, times_inverse, modulo, SolvesModulo}
use Rattle.gj_shape.specs.SlopeRows.{row_entry, SolveRows}
use Rattle.gj_shape.specs.declared.extremality.CoverLine.{CoverLine}
use Rattle.gj_shape.specs.declared.extremality.RowName.{RowName}
use Rattle.gj_shape.specs.declared.extremality.RowName.TheVariants.{Period, F, Pair}
use Rattle.gj_theory.specs.CoverRules.{MeetsCoverRules}
use Rattle.gj_theory.specs.Modulus.{modulus}
use Rattle.gj_theory.specs.TriangularResidues.{SolvesKeptModulo, AreTriangularResidues}
use Rattle.gj_theory.specs.TriangularRows.{Solves, SolvesKept, AreTriangular, present_row_by, present_row}
use Rattle.gj_theory.proofs.Eliminations.{HasColumns, columns_after_steps, present_row_solved}
use Rattle.gj_theory.proofs.ExtremeByCover.{extreme_by_cover}
use Rattle.gj_theory.proofs.Insertions.{leaves_kept}
use Rattle.gj_theory.proofs.Inverses.{inverse_none}
use Rattle.gj_theory.proofs.ResidueElimination.{to_modulo, kept_residues_leave_zero}
use Rattle.gj_theory.proofs.ResidueSteps.{solves_residues, inverse_keeps, modulo_sound}
use Rattle.gj_theory.proofs.SoundArithmetic.{whole_sound, whole_kept}
use Rattle.gj_theory.proofs.Triangular.{no_rows_triangular, zeros_of}
use Rattle.gj_theory.proofs.LineComponents.{component_of_line}
use Rattle.gj_theory.proofs.LineIntervals.{line_for_each}
use Rattle.gj_theory.proofs.MinimalFromTests.{minimal_from_tests}
use Rattle.gj_theory.proofs.SlopePerturbations.{first_rows_hold, pair_row_holds}
use Rattle.gj_proof.specs.declared.numbers.Numbers.{Numbers}
use Rattle.gj_proof.specs.declared.numbers.Numbers.TheVariants.{Whole, Residues}
use Rattle.gj_proof.specs.declared.pivot.PivotRow.{PivotRow}
use Rattle.gj_proof.specs.PresentRows.{arithmetic_of, AreNumbersOf, named_row, begun_row, entries_or_none, row_kept_by, row_kept, rows_behind_by, rows_behind, rows_before_by, rows_before}
use Rattle.gj_proof.specs.ProofText.{extreme_claim, AreExtremeLines, IsRowNameBelow, IsPivotRowBelow}
use Rattle.gj_proof.specs.Rules.{Demand, MeetsRow, MeetsPivotBy, step_demands_by, group_demands_by, DemandHolds, MeetsRules}
use Rattle.gj_check.proofs.ExtremeDemands.{says}

-- ---- the numbers of components

abbrev pub number_of : (lines : List CoverLine) (q : ℕ) →
    ((i : ℕ) → i < q → (number : ℕ) × HasComponent lines number i) →
    (i : ℕ) → (i < q) ⊎ (q ≤ i) → ℕ
number_of lines q has i (inl low) = (has i low).0
number_of lines q has i (inr high) = 0

pub number_is : (lines : List CoverLine) (q : ℕ) (has : (i : ℕ) → i < q →
    (number : ℕ) × HasComponent lines number i) →
    (i : ℕ) (place : (i < q) ⊎ (q ≤ i)) → i < q →
    HasComponent lines (number_of lines q has i place) i
number_is lines q has i (inl below) low = (has i below).1
number_is lines q has i (inr high) low = absurd (omega arith)

-- ---- present rows

-- a row that is not 0 somewhere has entries
pub some_columns : (n : ℕ) (row : List ℤ) (c : ℕ) → HasColumns n row → at_column row c ≢ pos 0 →
    length row ≡ n
some_columns n row c (inl is) some = absurd (some (ap (λ r. at_column r c) is))
some_columns n row c (inr len) some = len

pub pivot_free : (kept : List KeptRow) (c : ℕ) → All (λ k. k.pivot ≢ c) kept →
    row_with_pivot kept c ≡ None
pivot_free [] c h = refl
pivot_free (k ∷ kept) c h =
    by_test (eqb k.pivot c) refl (pivot_free kept c (All-tail (λ r. r.pivot ≢ c) k kept h))
  where
    by_test : (b : Bool) → eqb k.pivot c ≡ b → row_with_pivot kept c ≡ None →
        cond b (Some k) (row_with_pivot kept c) ≡ None
    by_test true t later =
        absurd (All-head (λ r. r.pivot ≢ c) k kept h ((Decides-eqb k.pivot c).0 t))
    by_test false t later = later

-- ---- what the groups keep

-- behind kept rows a group begins with a row of the system, and has a new pivot
record MeetsGroup (numbers : Numbers) (f : FunctionData) (component : ℕ → ℕ) (n : ℕ)
    (kept : List KeptRow) (group : PivotRow) : Type 0 where
  below : IsRowNameBelow f.order group.name
  row : MeetsRow f group.name
  pivot : MeetsPivotBy numbers n kept
      (present_row_by (arithmetic_of numbers) kept
      (begun_row (arithmetic_of numbers) f component n group.name) group.reduce) group.pivot

abbrev MeetGroups : Numbers → FunctionData → (ℕ → ℕ) → ℕ → List KeptRow → List PivotRow → Type 0
MeetGroups numbers f component n kept [] = Unit {0}
MeetGroups numbers f component n kept (group ∷ more) =
    MeetsGroup numbers f component n kept group
    × MeetGroups numbers f component n
    (kept ++ row_kept_by (arithmetic_of numbers) f component n kept group ∷ []) more

named_solved : (f : FunctionData) (component : ℕ → ℕ) (n : ℕ) (w : List ℤ) (name : RowName) →
    SolveRows component n f w →
    IsRowNameBelow f.order name → MeetsRow f name → Solves w (named_row f component n name)
named_solved f component n w Period all below tight =
    (first_rows_hold (λ name. Solves w (named_row f component n name)) f all).0
named_solved f component n w F all below tight =
    (first_rows_hold (λ name. Solves w (named_row f component n name)) f all).1
named_solved f component n w (Pair a b) all below tight =
    pair_row_holds (λ name. Solves w (named_row f component n name)) f all a b below.0 below.1
    below.2 tight

-- the row that a group keeps makes triangular rows with the others, and is solved by all slopes
group_keeps : (f : FunctionData) (component : ℕ → ℕ) (n : ℕ) (w : List ℤ) (kept : List KeptRow)
    (group : PivotRow) →
    SolveRows component n f w → AreTriangular n kept → SolvesKept w kept →
    MeetsGroup Whole f component n kept group →
    AreTriangular n (kept ++ row_kept f component n kept group ∷ [])
    × SolvesKept w (kept ++ row_kept f component n kept group ∷ [])
unfolding kept_behind
group_keeps f component n w kept group all h solved meets =
    let begun = named_row f component n group.name in
    let len : length begun ≡ n =
    length-map-range_with_len (row_entry component f.order f.place group.name) 0 n in
    let columns : All (λ k. length k.entries ≡ n) kept = λ i d low. (h.rows i d low).columns in
    let present = present_row kept begun group.reduce in
    let c = group.pivot in
    let long : length present ≡ n =
    some_columns n present c
    (columns_after_steps whole_sound n kept begun group.reduce columns (inr len))
    meets.pivot.not_zero in
    let left =
    leaves_kept whole_sound n kept present c (kept_entries present c) h long meets.pivot.column
    (pivot_free kept c meets.pivot.new)
    meets.pivot.zero_before
    (whole_kept present c (kept_entries present c) meets.pivot.not_zero refl) in
    let here = present_row_solved whole_sound n kept begun w group.reduce columns len solved
    (named_solved f component n w group.name all meets.below meets.row) in (
      left.triangular (length kept) group.reduce,
      (left.solutions (length kept) group.reduce w).onward (solved, here),
    )

-- the rows behind groups: triangular, solved, and as many more as groups
record AreKept (n : ℕ) (w : List ℤ) (count : ℕ) (kept : List KeptRow) : Type 0 where
  triangular : AreTriangular n kept
  solved : SolvesKept w kept
  many : length kept ≡ count

groups_keep : (f : FunctionData) (component : ℕ → ℕ) (n : ℕ) (w : List ℤ) (kept : List KeptRow)
    (groups : List PivotRow) →
    SolveRows component n f w → AreTriangular n kept → SolvesKept w kept →
    MeetGroups Whole f component n kept groups →
    AreKept n w (length kept + length groups) (rows_behind f component n kept groups)
groups_keep f component n w kept [] all h solved meets =
    record { triangular = h; solved = solved; many = omega arith }
groups_keep f component n w kept (group ∷ more) all h solved meets =
    let next = group_keeps f component n w kept group all h solved meets.0 in
    let long = length_push kept (row_kept f component n kept group) in
    let behind =
    groups_keep f component n w (kept ++ row_kept f component n kept group ∷ []) more all next.0
    next.1 meets.1 in
    record {
      triangular = behind.triangular;
      solved = behind.solved;
      many = let many =
          behind.many in omega arith;
    }

-- ---- by residues

-- the rows with which groups begin
abbrev rows_of : FunctionData → (ℕ → ℕ) → ℕ → List PivotRow → List (List ℤ)
rows_of f component n rows = map (λ group. named_row f component n group.name) rows

-- a row of residues that a group keeps
abbrev modulo_row : FunctionData → (ℕ → ℕ) → ℕ → List KeptRow → PivotRow → KeptRow
modulo_row f component n kept group = row_kept_by (modulo modulus) f component n kept group

-- the kept rows behind a group: triangular, and solved modulo the modulus by what solves the kept
-- rows before and its row
record KeepsModulo (f : FunctionData) (component : ℕ → ℕ) (n : ℕ) (kept : List KeptRow)
    (group : PivotRow) (after : List KeptRow) : Type 0 where
  triangular : AreTriangularResidues n after
  solved : (w : List ℤ) → SolvesKeptModulo modulus w kept →
      SolvesModulo modulus w (named_row f component n group.name) →
      SolvesKeptModulo modulus w after

keeps_by_inverse : (f : FunctionData) (component : ℕ → ℕ) (n : ℕ) (kept : List KeptRow)
    (group : PivotRow) (present : List ℤ) →
    AreTriangularResidues n kept → MeetsPivotBy Residues n kept present group.pivot →
    length present ≡ n →
    ((w : List ℤ) → SolvesKeptModulo modulus w kept →
    SolvesModulo modulus w (named_row f component n group.name) →
    SolvesModulo modulus w present) → (o : Option ℕ) →
    inverse modulus (at_column present group.pivot) ≡ o →
    KeepsModulo f component n kept group (kept ++ record {
      number = length kept;
      reduce = group.reduce;
      pivot = group.pivot;
      entries = entries_or_none (times_inverse modulus present o);
    } ∷ [])
unfolding kept_behind
keeps_by_inverse f component n kept group present h meets long solves None e =
    absurd ((inverse_none modulus (at_column present group.pivot) (lit< tt)).0 e meets.1)
keeps_by_inverse f component n kept group present h meets long solves (Some u) e =
    let c = group.pivot in
    let entries = residues modulus (scaled (pos u) present) in
    let pivot = meets.0 in
    let left =
    leaves_kept (modulo_sound modulus (lit< tt)) n kept present c entries h long pivot.column
    (pivot_free kept c pivot.new)
    pivot.zero_before (inverse_keeps modulus present c u (lit< tt) e) in
    record {
      triangular = left.triangular (length kept) group.reduce;
      solved = λ w all row. (left.solutions (length kept) group.reduce w).onward
          (all, solves w all row);
    }

group_keeps_modulo : (f : FunctionData) (component : ℕ → ℕ) (n : ℕ) (kept : List KeptRow)
    (group : PivotRow) → AreTriangularResidues n kept →
    MeetsGroup Residues f component n kept group →
    KeepsModulo f component n kept group (kept ++ modulo_row f component n kept group ∷ [])
group_keeps_modulo f component n kept group h meets =
    let named = named_row f component n group.name in
    let begun = residues modulus named in
    let present = present_row_by (modulo modulus) kept begun group.reduce in
    let c = group.pivot in
    let columns : All (λ k. length k.entries ≡ n) kept = λ i d low. (h.rows i d low).columns in
    let len : length begun ≡ n =
    length-map named (residue modulus)
    ∙ length-map-range_with_len (row_entry component f.order f.place group.name) 0 n in
    let long : length present ≡ n =
    some_columns n present c
    (columns_after_steps (modulo_sound modulus (lit< tt)) n kept begun group.reduce columns
    (inr len)) meets.pivot.0.not_zero in
    keeps_by_inverse f component n kept group present h meets.pivot long
    (λ w all row.
    present_row_solved (modulo_sound modulus (lit< tt)) n kept begun w group.reduce columns len all
    (solves_residues modulus named w (lit< tt) row))
    (inverse modulus (at_column present c)) refl

-- the rows behind groups, which what solves all their rows modulo the modulus solves, and as many
-- more as groups
record AreKeptModulo (f : FunctionData) (component : ℕ → ℕ) (n : ℕ) (kept : List KeptRow)
    (groups : List PivotRow) (after : List KeptRow) :
    Type 0 where
  triangular : AreTriangularResidues n after
  solved : (w : List ℤ) → SolvesKeptModulo modulus w kept →
      All (SolvesModulo modulus w) (rows_of f component n groups) →
      SolvesKeptModulo modulus w after
  many : length after ≡ length kept + length groups

groups_keep_modulo : (f : FunctionData) (component : ℕ → ℕ) (n : ℕ) (kept : List KeptRow)
    (groups : List PivotRow) →
    AreTriangularResidues n kept → MeetGroups Residues f component n kept groups →
    AreKeptModulo f component n kept groups
    (rows_behind_by (modulo modulus) f component n kept groups)
groups_keep_modulo f component n kept [] h meets =
    record { triangular = h; solved = λ w all rows. all; many = omega arith }
groups_keep_modulo f component n kept (group ∷ more) h meets =
    let next = group_keeps_modulo f component n kept group h meets.0 in
    let long = length_push kept (modulo_row f component n kept group) in
    let behind = groups_keep_modulo f component n (kept ++ modulo_row f component n kept group ∷ [])
    more next.triangular meets.1 in
    let first = named_row f component n group.name in
    record {
      triangular = behind.triangular;
      solved = λ w all rows.
          behind.solved w (next.solved w all
          (All-head (SolvesModulo modulus w) first (rows_of f component n more) rows))
          (All-tail (SolvesModulo modulus w) first (rows_of f component n more) rows);
      many = let many = behind.many in omega arith;
    }

-- slopes that solve the linear system solve the rows of groups
each_row_solved : (numbers : Numbers) (f : FunctionData) (component : ℕ → ℕ) (n : ℕ)
    (rows : List PivotRow) (slopes : List ℤ) (kept : List KeptRow) →
    MeetGroups numbers f component n kept rows → SolveRows component n f slopes →
    All (Solves slopes) (rows_of f component n rows)
each_row_solved numbers f component n [] slopes kept meets solve = All-nil (Solves slopes)
each_row_solved numbers f component n (group ∷ more) slopes kept meets solve =
    All-cons (Solves slopes) (named_row f component n group.name) (rows_of f component n more)
    (named_solved f component n slopes group.name solve meets.0.below meets.0.row)
    (each_row_solved numbers f component n more slopes
    (kept ++ row_kept_by (arithmetic_of numbers) f component n kept group ∷ []) meets.1 solve)

groups_leave_residues_zero : (f : FunctionData) (component : ℕ → ℕ) (n : ℕ) (rows : List PivotRow)
    (slopes : List ℤ) →
    MeetGroups Residues f component n [] rows → length rows ≡ n → length slopes ≡ n →
    All (Solves slopes) (rows_of f component n rows) →
    All (λ x. x ≡ pos 0) slopes
groups_leave_residues_zero f component n rows slopes meets full long solved =
    let kept = groups_keep_modulo f component n [] rows (no_rows_triangular n) meets in
    kept_residues_leave_zero modulus n (rows_behind_by (modulo modulus) f component n [] rows)
    (rows_of f component n rows) slopes (lit< tt)
    kept.triangular (let many = kept.many in omega arith)
    (λ v len all. kept.solved v (All-nil (λ k. SolvesModulo modulus v k.entries))
    (to_modulo modulus v (rows_of f component n rows) all))
    long solved

-- ---- from the demands

groups_meet : (numbers : Numbers) (f : FunctionData) (lines : List CoverLine) (rows : List PivotRow)
    (component : ℕ → ℕ) →
    AreNumbersOf f lines component → All (IsPivotRowBelow f.order) rows →
    (front rest : List PivotRow) → rows ≡ front ++ rest →
    All (DemandHolds (extreme_claim numbers f lines rows))
    (group_demands_by numbers (length front) rest) →
    MeetGroups numbers f component (components_in lines)
    (rows_before_by (arithmetic_of numbers) f component (components_in lines) front) rest
groups_meet numbers f lines rows component are below front [] place h = tt
groups_meet numbers f lines rows component are below front (one ∷ rest) place h =
    let n = components_in lines in
    let P : Demand → Type 0 = DemandHolds (extreme_claim numbers f lines rows) in
    let g = length front in
    let steps = step_demands_by numbers g 0 one.reduce in
    let later = group_demands_by numbers (g + 1) rest in
    let behind = All-back P steps (Demand.pivot g ∷ later)
    (All-tail P (Demand.row g) (steps ++ Demand.pivot g ∷ later) h) in
    let tight : MeetsRow f one.name =
    (groups_say numbers f lines rows (Demand.row g) tt).1
    (All-head P (Demand.row g) (steps ++ Demand.pivot g ∷ later) h) front one rest place refl in
    let last = (groups_say numbers f lines rows (Demand.pivot g) tt).1
    (All-head P (Demand.pivot g) later behind) front one rest place refl
    component are in
    let within : IsPivotRowBelow f.order one =
    All-head (IsPivotRowBelow f.order) one rest
    (All-back (IsPivotRowBelow f.order) front (one ∷ rest)
    (subst (All (IsPivotRowBelow f.order)) place below)) in
    let long : g + 1 ≡ length (front ++ one ∷ []) = sym (length_push front one) in (
      record { below = within.name; row = tight; pivot = last },
      subst (λ (kept : List KeptRow). MeetGroups numbers f component n kept rest)
          (rows_behind_push (arithmetic_of numbers) f component n [] front one)
          (groups_meet numbers f lines rows component are below (front ++ one ∷ []) rest
          (place ∙ sym (append_assoc front (one ∷ []) rest))
          (subst (λ (k : ℕ). All P (group_demands_by numbers k rest)) long
          (All-tail P (Demand.pivot g) later behind))),
    )

-- as many groups as components leave only 0
groups_leave_zero : (numbers : Numbers) (f : FunctionData) (component : ℕ → ℕ) (n : ℕ)
    (rows : List PivotRow) (slopes : List ℤ) →
    MeetGroups numbers f component n [] rows → length rows ≡ n → length slopes ≡ n →
    SolveRows component n f slopes →
    All (λ x. x ≡ pos 0) slopes
groups_leave_zero Whole f component n rows slopes meets full long solve =
    let kept = groups_keep f component n slopes [] rows solve (no_rows_triangular n)
    (All-nil (λ k. Solves slopes k.entries)) meets in
    zeros_of n (rows_before f component n rows) slopes kept.triangular (let many = kept.many in
    omega arith) long kept.solved
groups_leave_zero Residues f component n rows slopes meets full long solve =
    groups_leave_residues_zero f component n rows slopes meets full long
    (each_row_solved Residues f component n rows slopes [] meets solve)

-- what all rules say
pub extreme_meaning : (numbers : Numbers) (f : FunctionData) (lines : List CoverLine)
    (rows : List PivotRow) → IsWithinBounds f →
    AreExtremeLines f lines rows → MeetsRules (extreme_claim numbers f lines rows) →
    IsContinuous f × IsExtreme f
extreme_meaning numbers f lines rows b text rules =
    let P : Demand → Type 0 = DemandHolds (extreme_claim numbers f lines rows) in
    let all = says numbers f lines rows in
    let covers = map Demand.cover (range_with_len 0 (length lines)) in
    let groups = group_demands_by numbers 0 rows in
    let asked : All P (Demand.minimal ∷ Demand.continuous ∷ covers ++ groups ++ Demand.rank ∷ []) =
    subst (All P) all.demands rules in
    let first = All-tail P Demand.minimal (Demand.continuous ∷ covers ++ groups ++ Demand.rank ∷ [])
    asked in
    let is_continuous = all.continuity.1
    (All-head P Demand.continuous (covers ++ groups ++ Demand.rank ∷ []) first) in
    let behind = All-tail P Demand.continuous (covers ++ groups ++ Demand.rank ∷ []) first in
    let early = All-front P (covers ++ groups) (Demand.rank ∷ []) behind in
    let cover_rules : MeetsCoverRules f.order (IsTight f) lines =
    λ before l after place.
    let long = ap length place ∙ length-append before (l ∷ after) in
    (all.meets_cover (length before)).1
    (made_has P Demand.cover (length before) (length lines) (omega arith)
    (All-front P covers groups early)) before l after place refl in
    let full = all.has_rank.1
    (All-head P Demand.rank [] (All-back P (covers ++ groups) (Demand.rank ∷ []) behind)) in
    let has = λ (i : ℕ) (low : i < f.order).
    component_of_line f.order (IsTight f) lines i cover_rules
    (line_for_each f.order (IsTight f) lines cover_rules (λ k d k_low. (text.1 k d k_low).interval)
    text.0 i low) in
    let component = λ (i : ℕ). number_of lines f.order has i (cases_lt i f.order) in
    let are : AreNumbersOf f lines component =
    λ i low. number_is lines f.order has i (cases_lt i f.order) low in
    let n = components_in lines in
    let meets = groups_meet numbers f lines rows component are text.2 [] rows refl
    (All-back P covers groups early) in
    let is_minimal =
    minimal_from_tests f b
    (all.is_minimal.1 (All-head P Demand.minimal
    (Demand.continuous ∷ covers ++ groups ++ Demand.rank ∷ []) asked)) in (
      is_continuous,
      extreme_by_cover f lines component n b is_continuous is_minimal cover_rules are refl
          (λ slopes long solve. groups_leave_zero numbers f component n rows slopes meets full long
          solve),
    )
