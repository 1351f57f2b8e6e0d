-- What the answers say of the table.
use Rattle.std.proofs.Common.{◌≡◌, ℕ, ◌*◌, ◌<ℤ◌, ◌↔◌, ℤ, pos, List, Option, None, Some, length, Result, Ok, Err, refl, sym, ap, subst, subst₂, ◌∙◌, arith}
use Rattle.std.specs.Prelude.{All, Any, IsErr, IsErrOf}
use Rattle.std.specs.Result.{IsErrAnd}
use Rattle.std.specs.declared.alloc.AllocError.{AllocError}
use Rattle.std.proofs.Math.Nat.{mul-one}
use Rattle.std.proofs.lemmas.Int.{ints}
use Rattle.std.proofs.lemmas.List.{get_or_default}
use Rattle.gj_frac.specs.Fraction.{Fits}
use Rattle.gj_shape.proofs.AtLemmas.{at_below}
use Rattle.gj_shape.specs.Elimination.{Solution, elimination, kernel, Passes}
use Rattle.gj_shape.specs.FunctionData.{FunctionData, IsWithinBounds, at}
use Rattle.gj_shape.specs.Perturbation.{IsGreatestSize, AreHalvesOf, AreHalvesInBounds}
use Rattle.gj_shape.specs.Table.{table, IsMinimal, IsMinimalOnGrid}
use Rattle.gj_shape.specs.declared.violations.Violation.{Violation}
use Rattle.gj_shape.specs.declared.extremality.Halves.{Halves}
use Rattle.gj_theory.proofs.Eliminations.{elimination_has}
use Rattle.gj_theory.proofs.SoundArithmetic.{whole_sound}
use Rattle.gj_theory.proofs.Fillings.{halves_deny}
use Rattle.gj_theory.proofs.Kernels.{kernel_none}
use Rattle.gj_theory.specs.Halves.{AreDifferentHalves}
use Rattle.gj_theory.specs.TriangularRows.{Solves}
use Rattle.gj_elim.proofs.KernelFits.{kernel_fits}
use Rattle.gj_elim.specs.declared.log.LogRow.{LogRow}
use Rattle.gj_residue.specs.Settled.{OnlyZeroSolves, AnswersRows, IsSettled, IsPlain, IsByResidues, IsKernel, AreRowsTooWide, insertion_passes, kernel_passes}
use Rattle.gj_residue.specs.declared.settling.Settled.{Settled}
use Rattle.gj_residue.specs.declared.settling.Settled.TheVariants.{Plain, Residues, Kernel}
use Rattle.gj_residue.specs.declared.settling.SettleFault.{SettleFault}
use Rattle.gj_residue.specs.declared.settling.SettleFault.TheVariants as settle
use Rattle.gj_perturb.specs.declared.faults.SplitFault.{SplitFault}
use Rattle.gj_perturb.specs.declared.faults.SplitFault.TheVariants as split
use Rattle.gj_group.specs.Faults.{of_settling, of_split}
use Rattle.gj_group.specs.declared.faults.GroupFault.{GroupFault}
use Rattle.gj_group.specs.declared.faults.GroupFault.TheVariants.{Wide, Memory}
use Rattle.gj_group.proofs.RowBounds.{rows_length}
use Rattle.gj_perturb.specs.Split.{CanSplit, IsWide}
use Rattle.gj_perturb.specs.declared.tables.Perturbation.{Perturbation}
use Rattle.gj_group.specs.Decision.{IsExtremeOnOwnGrid, SplitTable, SaysOfTable, own_rows, AreGroupHalves, IsTooWideGroup, rows_too_wide, halves_too_wide}
use Rattle.gj_group.specs.declared.decision.GroupAnswer.{GroupAnswer}
use Rattle.gj_group.specs.declared.decision.GroupAnswer.TheVariants.{NotMinimal, Extreme, NotExtreme}
use Rattle.gj_group.proofs.GroupSolutions.{function_extreme, own_perturbation}

-- ---- an extreme table

pub extreme_by_rows : (f : FunctionData) → IsWithinBounds f → IsMinimalOnGrid f 1 →
    OnlyZeroSolves f.order (own_rows f) → IsExtremeOnOwnGrid f
extreme_by_rows f l minimal only = function_extreme f l minimal (λ w len solved. only w len solved)

-- ---- one that is not

-- the kernel as a perturbation on the function's own grid
abbrev pub of_kernel : List ℤ → Perturbation
of_kernel numbers = record { times = 1; values = numbers }

pub kernel_can_split : (f : FunctionData) (numbers : List ℤ) → IsWithinBounds f →
    IsKernel f.order (own_rows f) numbers →
    length numbers ≡ f.order → All (Solves numbers) (own_rows f) → Any (λ x. pos 0 <ℤ x) numbers →
    CanSplit f (of_kernel numbers)
kernel_can_split f numbers l h len solves (k, x, low, there, positive) = record {
  times_low = omega arith;
  times_high = omega arith;
  whole = len ∙ sym (mul-one f.order);
  entries = subst (All Fits) (sym h.numbers_are)
      (kernel_fits f.order (elimination f.order (own_rows f)).kept h.solution h.solves
      h.solution_narrow);
  perturbation = own_perturbation f numbers l len solves;
  index = k;
  not_zero = λ none.
      let is : at numbers k ≡ x = at_below numbers k low
      ∙ sym (get_or_default numbers k x (pos 0) low) ∙ there in
      let zero : x ≡ pos 0 = sym is ∙ none in
      omega (arith, ints);
}

pub split_table : (f : FunctionData) (p : ℕ → ℤ) (h : Halves) → (halves : AreHalvesOf f 1 p h) →
    ((size : ℕ) → IsGreatestSize p size →
    AreDifferentHalves (table f 1) (f.order * 1) (f.place * 1) (f.scale * 1) (3 * size) (at h.first)
    (at h.second)) → SplitTable f h
split_table f p h halves different = record {
  factor = 3 * halves.p;
  order = halves.order ∙ mul-one f.order;
  scale = halves.scale;
  halves = different halves.p halves.greatest_size;
}

pub split_denies : (f : FunctionData) (h : Halves) → SplitTable f h → IsExtremeOnOwnGrid f → ⊥
split_denies f h split =
    halves_deny (table f 1) (f.order * 1) (f.place * 1) (f.scale * 1) split.factor (at h.first)
    (at h.second) split.halves

-- ---- each answer exactly if it holds

pub extreme_exactly : (f : FunctionData) (answer : GroupAnswer) → SaysOfTable f answer →
    (answer ≡ Extreme) ↔ IsExtremeOnOwnGrid f
extreme_exactly f (NotMinimal v) says = (λ e. absurd cc, λ extreme. absurd (says.0 extreme.minimal))
extreme_exactly f Extreme says = (λ e. says, λ extreme. refl)
extreme_exactly f (NotExtreme h) says = (λ e. absurd cc, λ extreme. absurd (says.1 extreme))

-- ---- when no number is too wide

-- the rows that are settled are not too wide
pub plain_narrow : (n : ℕ) (rows : List (List ℤ)) → All (λ row. length row ≡ n) rows →
    (Passes (elimination n rows).marked → ⊥) →
    length (elimination n rows).kept ≡ n → AreRowsTooWide n rows → ⊥
plain_narrow n rows lengths narrow full (insertion_passes passes fewer) = narrow passes
plain_narrow n rows lengths narrow full (kernel_passes short s is passes) =
    none_some (kernel n (elimination n rows).kept) s
    ((kernel_none n (elimination n rows).kept
    (elimination_has whole_sound n rows lengths).triangular).1 full) is
  where
    none_some : (o : Option Solution) (s : Solution) → o ≡ None → o ≡ Some s → ⊥
    none_some o s none some = absurd cc

same_solution : (o : Option Solution) (s t : Solution) → o ≡ Some s → o ≡ Some t → s ≡ t
same_solution o s t e f = cc

pub kernel_narrow : (n : ℕ) (rows : List (List ℤ)) (numbers : List ℤ) → IsKernel n rows numbers →
    AreRowsTooWide n rows → ⊥
kernel_narrow n rows numbers h (insertion_passes passes fewer) = h.narrow passes
kernel_narrow n rows numbers h (kernel_passes short s is passes) =
    h.solution_narrow (subst (λ (t : Solution). Passes t.marked)
    (same_solution (kernel n (elimination n rows).kept) s h.solution is h.solves) passes)

pub kernels_same : (n : ℕ) (rows : List (List ℤ)) (xs ys : List ℤ) → IsKernel n rows xs →
    IsKernel n rows ys → xs ≡ ys
kernels_same n rows xs ys g h =
    g.numbers_are
    ∙ ap (λ (s : Solution). s.numbers)
    (same_solution (kernel n (elimination n rows).kept) g.solution h.solution g.solves h.solves)
    ∙ sym h.numbers_are

-- ---- what the call settles

-- the function is within the limits and minimal, and these are the columns and the rows of its
-- table
pub record IsAsked (f : FunctionData) (columns : ℕ) (all : List (List ℤ)) : Type 0 where
  pub within : IsWithinBounds f
  pub minimal : IsMinimal f
  pub columns_is : columns ≡ f.order
  pub all_is : all ≡ own_rows f

pub asked_of : (f : FunctionData) (columns : ℕ) (all : List (List ℤ)) → IsWithinBounds f →
    IsMinimal f → columns ≡ f.order → all ≡ own_rows f →
    IsAsked f columns all
asked_of f columns all within minimal columns_is all_is =
    record { within = within; minimal = minimal; columns_is = columns_is; all_is = all_is }

own_minimal : (f : FunctionData) → IsMinimal f → IsMinimalOnGrid f 1
own_minimal f minimal = minimal 1 (omega arith)

answers_own : (f : FunctionData) (columns : ℕ) (all : List (List ℤ)) (s t : Settled) →
    IsAsked f columns all → s ≡ t → AnswersRows columns all s →
    AnswersRows f.order (own_rows f) t
answers_own f columns all s t asked is h =
    subst₂ (λ (n : ℕ) (rows : List (List ℤ)). AnswersRows n rows t) asked.columns_is asked.all_is
    (subst (AnswersRows columns all) is h)

settled_own : (f : FunctionData) (columns : ℕ) (all : List (List ℤ)) (s t : Settled) →
    IsAsked f columns all → s ≡ t → IsSettled columns all s →
    IsSettled f.order (own_rows f) t
settled_own f columns all s t asked is h =
    subst₂ (λ (n : ℕ) (rows : List (List ℤ)). IsSettled n rows t) asked.columns_is asked.all_is
    (subst (IsSettled columns all) is h)

pub plain_says : (f : FunctionData) (columns : ℕ) (all : List (List ℤ)) (s : Settled)
    (log : List LogRow) → IsAsked f columns all →
    s ≡ Plain log → AnswersRows columns all s → IsExtremeOnOwnGrid f
plain_says f columns all s log asked is h =
    extreme_by_rows f asked.within (own_minimal f asked.minimal)
    (answers_own f columns all s (Plain log) asked is h)

pub residues_say : (f : FunctionData) (columns : ℕ) (all : List (List ℤ)) (s : Settled)
    (log : List LogRow) → IsAsked f columns all →
    s ≡ Residues log → AnswersRows columns all s → IsExtremeOnOwnGrid f
residues_say f columns all s log asked is h =
    extreme_by_rows f asked.within (own_minimal f asked.minimal)
    (answers_own f columns all s (Residues log) asked is h)

plain_own_narrow : (f : FunctionData) (log : List LogRow) → IsPlain f.order (own_rows f) log →
    IsTooWideGroup f → ⊥
plain_own_narrow f log h (rows_too_wide wide) =
    plain_narrow f.order (own_rows f) (rows_length (at f.value) f.order f.place) h.narrow h.full
    wide
plain_own_narrow f log h (halves_too_wide numbers k wide) =
    let full = h.full in
    let fewer = k.fewer in
    absurd (omega arith)

pub plain_fits : (f : FunctionData) (columns : ℕ) (all : List (List ℤ)) (s : Settled)
    (log : List LogRow) → IsAsked f columns all →
    s ≡ Plain log → IsSettled columns all s → IsTooWideGroup f → ⊥
plain_fits f columns all s log asked is h =
    plain_own_narrow f log (settled_own f columns all s (Plain log) asked is h)

residues_own_narrow : (f : FunctionData) (log : List LogRow) →
    IsByResidues f.order (own_rows f) log → IsTooWideGroup f → ⊥
residues_own_narrow f log h (rows_too_wide (insertion_passes passes fewer)) =
    let full = h.full in
    absurd (omega arith)
residues_own_narrow f log h (rows_too_wide (kernel_passes narrow s is passes)) = narrow h.passes
residues_own_narrow f log h (halves_too_wide numbers k wide) = k.narrow h.passes

pub residues_fit : (f : FunctionData) (columns : ℕ) (all : List (List ℤ)) (s : Settled)
    (log : List LogRow) → IsAsked f columns all →
    s ≡ Residues log → IsSettled columns all s → IsTooWideGroup f → ⊥
residues_fit f columns all s log asked is h =
    residues_own_narrow f log (settled_own f columns all s (Residues log) asked is h)

pub kernel_own : (f : FunctionData) (columns : ℕ) (all : List (List ℤ)) (s : Settled)
    (numbers : List ℤ) → IsAsked f columns all →
    s ≡ Kernel numbers → IsSettled columns all s → IsKernel f.order (own_rows f) numbers
kernel_own f columns all s numbers asked is h =
    settled_own f columns all s (Kernel numbers) asked is h

pub kernel_splits : (f : FunctionData) (columns : ℕ) (all : List (List ℤ)) (s : Settled)
    (numbers : List ℤ) → IsAsked f columns all →
    s ≡ Kernel numbers → IsSettled columns all s → AnswersRows columns all s →
    CanSplit f (of_kernel numbers)
kernel_splits f columns all s numbers asked is settled h =
    let answers = answers_own f columns all s (Kernel numbers) asked is h in
    kernel_can_split f numbers asked.within (kernel_own f columns all s numbers asked is settled)
    answers.0 answers.1 answers.2

pub kernel_says : (f : FunctionData) (numbers : List ℤ) (h : Halves) → IsMinimal f →
    AreHalvesOf f 1 (at numbers) h →
    ((size : ℕ) → IsGreatestSize (at numbers) size →
    AreDifferentHalves (table f 1) (f.order * 1) (f.place * 1) (f.scale * 1) (3 * size) (at h.first)
    (at h.second)) →
    SaysOfTable f (NotExtreme h)
kernel_says f numbers h minimal halves different =
    let split = split_table f (at numbers) h halves different in
    (own_minimal f minimal, split_denies f h split, split)

pub kernel_finds : (f : FunctionData) (numbers : List ℤ) (h : Halves) →
    IsKernel f.order (own_rows f) numbers → AreHalvesOf f 1 (at numbers) h →
    AreHalvesInBounds h → AreGroupHalves f h
kernel_finds f numbers h k halves bounds = record {
  solution = k.solution;
  solves = k.solves;
  halves = subst (λ (w : List ℤ). AreHalvesOf f 1 (at w) h) k.numbers_are halves;
  bounds = bounds;
}

pub kernel_fits_group : (f : FunctionData) (numbers : List ℤ) →
    IsKernel f.order (own_rows f) numbers → (IsWide f (of_kernel numbers) → ⊥) →
    IsTooWideGroup f → ⊥
kernel_fits_group f numbers k narrow (rows_too_wide wide) =
    kernel_narrow f.order (own_rows f) numbers k wide
kernel_fits_group f numbers k narrow (halves_too_wide others other wide) =
    narrow (subst (λ (w : List ℤ). IsWide f (of_kernel w))
    (kernels_same f.order (own_rows f) others numbers other k) wide)

-- ---- faults that a part hands on

pub wide_settling : {T U : Type 0} (r : Result T GroupFault) (x : SettleFault) → IsErr r →
    IsErrAnd r (λ e. e ≡ of_settling x) → IsErrOf r Wide →
    IsErrOf {T = U} (Err x) settle.Wide
wide_settling (Ok v) x is_err h e = absurd cc
wide_settling (Err z) settle.Wide is_err h e = refl
wide_settling (Err z) (settle.Memory m) is_err h e = absurd cc

pub wide_split : {T U : Type 0} (r : Result T GroupFault) (x : SplitFault) → IsErr r →
    IsErrAnd r (λ e. e ≡ of_split x) → IsErrOf r Wide →
    IsErrOf {T = U} (Err x) split.Wide
wide_split (Ok v) x is_err h e = absurd cc
wide_split (Err z) split.Wide is_err h e = refl
wide_split (Err z) (split.Memory m) is_err h e = absurd cc

pub no_wide : {T : Type 0} (r : Result T GroupFault) (x : AllocError) → IsErr r →
    IsErrAnd r (λ e. e ≡ Memory x) → IsErrOf r Wide → ⊥
no_wide (Ok v) x is_err h e = absurd cc
no_wide (Err z) x is_err h e = absurd cc

pub some_is_not_none : (v : Violation) → Some v ≡ None → ⊥
some_is_not_none v e = cc
