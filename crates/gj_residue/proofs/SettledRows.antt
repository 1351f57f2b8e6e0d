-- What the answers say of the rows.
use Rattle.std.proofs.Common.{◌≡◌, ◌≢◌, ℕ, ◌<◌, ◌<ℤ◌, Option, None, Some, ℤ, pos, List, length, map, refl, sym, ap, subst, ◌∙◌, lit<, arith}
use Rattle.std.specs.Prelude.{All, Any, IfSome, IsNone, Vec, Result, Ok, Err, IsErr, IsErrAnd, IsErrOf}
use Rattle.std.specs.declared.alloc.Global.{Global}
use Rattle.std.proofs.lemmas.List.Elements.{All-nil}
use Rattle.gj_shape.specs.Elimination.{KeptRow, Solution, elimination, elimination_by, kernel, Passes}
use Rattle.gj_shape.specs.Residues.{modulo}
use Rattle.gj_theory.specs.Modulus.{modulus}
use Rattle.gj_theory.specs.TriangularRows.{Solves, SolvesKept, AreTriangular}
use Rattle.gj_theory.proofs.Eliminations.{elimination_has}
use Rattle.gj_theory.proofs.SoundArithmetic.{whole_sound}
use Rattle.gj_theory.proofs.Kernels.{kernel_none, kernel_columns, kernel_solves, kernel_positive}
use Rattle.gj_theory.proofs.Passing.{none_passes}
use Rattle.gj_theory.proofs.ResidueElimination.{elimination_modulo_zero}
use Rattle.gj_theory.proofs.Triangular.{rank_at_most, zeros_of}
use Rattle.gj_residue.specs.Settled.{AnswersRows, IsSettled, AreRowsTooWide, insertion_passes, kernel_passes, IsByResidues, IsFullLog, IsKernelOf, IsSettledBy, fault_of}
use Rattle.gj_elim.specs.declared.faults.ElimFault.{ElimFault}
use Rattle.gj_elim.specs.declared.faults.ElimFault.TheVariants.{Wide as ElimWide, Memory as ElimMemory}
use Rattle.gj_residue.specs.declared.settling.SettleFault.{SettleFault}
use Rattle.gj_residue.specs.declared.settling.SettleFault.TheVariants.{Wide}
use Rattle.gj_residue.specs.declared.settling.Settled.{Settled}
use Rattle.gj_residue.specs.declared.settling.Settled.TheVariants.{Plain, Residues, Kernel}
use Rattle.gj_elim.specs.KeptRows.{log_row, marked_in}
use Rattle.gj_elim.specs.declared.log.LogRow.{LogRow}

-- ---- what solves the rows

some_of : (P : Solution → Type 0) (o : Option Solution) (s : Solution) → o ≡ Some s → IfSome o P →
    P s
some_of P o s e h = subst (λ (x : Option Solution). IfSome x P) e h

pub settled_answers : (n : ℕ) (rows : List (List ℤ)) (s : Settled) →
    All (λ row. length row ≡ n) rows → IsSettled n rows s →
    AnswersRows n rows s
settled_answers n rows (Plain log) lengths h =
    λ w len solved.
    let has = elimination_has whole_sound n rows lengths in
    zeros_of n (elimination n rows).kept w has.triangular h.full len
    ((has.same w).onward (All-nil (λ k. Solves w k.entries), solved))
settled_answers n rows (Residues log) lengths h =
    λ w len solved. elimination_modulo_zero modulus n rows w (lit< tt) lengths h.full len solved
settled_answers n rows (Kernel numbers) lengths h =
    let has = elimination_has whole_sound n rows lengths in
    let kept = (elimination n rows).kept in
    let columns = some_of (λ s. length s.numbers ≡ n) (kernel n kept) h.solution h.solves
    (kernel_columns n kept) in
    let solves = some_of (λ s. SolvesKept s.numbers kept) (kernel n kept) h.solution h.solves
    (kernel_solves n kept has.triangular) in
    let some = some_of (λ s. Any (λ x. pos 0 <ℤ x) s.numbers) (kernel n kept) h.solution h.solves
    (kernel_positive n kept has.triangular) in (
      ap length h.numbers_are ∙ columns,
      subst (λ (w : List ℤ). All (Solves w) rows) (sym h.numbers_are)
          ((has.same h.solution.numbers).before (tt, columns) solves).1,
      subst (Any (λ x. pos 0 <ℤ x)) (sym h.numbers_are) some,
    )

-- ---- from the kept rows to all rows

fewer : (n : ℕ) (kept : List KeptRow) (s : Solution) → AreTriangular n kept →
    kernel n kept ≡ Some s → length kept < n
fewer n kept s h is =
    let most = rank_at_most n kept h in
    let apart : length kept ≢ n =
    λ full. absurd (none_some (kernel n kept) s ((kernel_none n kept h).1 full) is) in
    omega arith
  where
    none_some : (o : Option Solution) (s : Solution) → o ≡ None → o ≡ Some s → ⊥
    none_some o s none some = absurd cc

settled_by_all : (n : ℕ) (rows : List (List ℤ)) (kept : List KeptRow) (s : Settled) →
    All (λ row. length row ≡ n) rows →
    kept ≡ (elimination n rows).kept → (Passes (elimination n rows).marked → ⊥) →
    IsSettledBy n kept s → IsSettled n rows s
settled_by_all n rows kept (Plain log) lengths same narrow h = record {
  narrow = narrow;
  full = ap length (sym same) ∙ h.0;
  log_is = h.1 ∙ ap (map log_row) same;
}
settled_by_all n rows kept (Residues log) lengths same narrow h = absurd h
settled_by_all n rows kept (Kernel numbers) lengths same narrow h = record {
  narrow = narrow;
  fewer = subst (λ (k : List KeptRow). length k < n) same
      (fewer n kept h.solution
      (subst (AreTriangular n) (sym same)
      (elimination_has whole_sound n rows lengths).triangular) h.solves);
  solution = h.solution;
  solves = ap (kernel n) (sym same) ∙ h.solves;
  solution_narrow = h.narrow;
  numbers_are = h.numbers_are;
}

pub by_residues : (n : ℕ) (rows left : List (List ℤ)) (log given : List LogRow) → left ≡ rows →
    log ≡ given →
    Passes (elimination n rows).marked → IsFullLog n left given → IsByResidues n rows log
by_residues n rows left log given same is p h =
    let e = ap (λ rs. (elimination_by (modulo modulus) n rs).kept) same in record {
      passes = p;
      full = ap length (sym e) ∙ h.full;
      log_is = is ∙ h.log_is ∙ ap (map log_row) e;
    }

-- a marked number of the kernel is one of a solution
wide_kernel : (n : ℕ) (rows : List (List ℤ)) (kept : List KeptRow) →
    kept ≡ (elimination n rows).kept →
    (Passes (elimination n rows).marked → ⊥) → Passes (marked_in (kernel n kept)) →
    AreRowsTooWide n rows
wide_kernel n rows kept same narrow p = by_case (kernel n kept) refl p
  where
    by_case : (o : Option Solution) → kernel n kept ≡ o → Passes (marked_in o) →
        AreRowsTooWide n rows
    by_case None e q = absurd (none_passes q)
    by_case (Some s) e q = kernel_passes narrow s (ap (kernel n) (sym same) ∙ e) q

pub wide_residues : (n : ℕ) (rows left : List (List ℤ)) → left ≡ rows →
    Passes (elimination n rows).marked →
    length (elimination_by (modulo modulus) n left).kept < n → AreRowsTooWide n rows
wide_residues n rows left same p few =
    insertion_passes p (subst
    (λ (rs : List (List ℤ)). length (elimination_by (modulo modulus) n rs).kept < n) same few)

-- the kernel of a basis
kernel_of : (n : ℕ) (kept : List KeptRow) (numbers : List ℤ) → (kernel n kept ≡ None → ⊥) →
    IfSome (kernel n kept) (λ s. numbers ≡ s.numbers) → (Passes (marked_in (kernel n kept)) → ⊥) →
    IsKernelOf n kept numbers
kernel_of n kept numbers some value narrow = by_case (kernel n kept) refl some value narrow
  where
    by_case : (o : Option Solution) → kernel n kept ≡ o → (o ≡ None → ⊥) →
        IfSome o (λ s. numbers ≡ s.numbers) →
        (Passes (marked_in o) → ⊥) → IsKernelOf n kept numbers
    by_case None e some value narrow = absurd (some refl)
    by_case (Some s) e some value narrow =
        record { solution = s; solves = e; narrow = narrow; numbers_are = value }

not_none : (o : Option (Vec ℤ Global)) (v : Vec ℤ Global) → o ≡ Some v → IsNone o → ⊥
not_none o v e none = absurd cc

pub kernel_of_basis : (n : ℕ) (kept : List KeptRow) (o : Option (Vec ℤ Global))
    (numbers : Vec ℤ Global) → AreTriangular n kept →
    (length kept ≡ n → IsNone o) → o ≡ Some numbers →
    IfSome o (λ v. IfSome (kernel n kept) (λ s. v.items ≡ s.numbers)) →
    (Passes (marked_in (kernel n kept)) → ⊥) →
    IsKernelOf n kept numbers.items
kernel_of_basis n kept o numbers h none is value narrow =
    kernel_of n kept numbers.items (λ e. not_none o numbers is (none ((kernel_none n kept h).0 e)))
    (subst (λ (x : Option (Vec ℤ Global)). IfSome x
    (λ v. IfSome (kernel n kept) (λ s. v.items ≡ s.numbers))) is value) narrow

-- ---- as the code has them

pub settled_plain : (n m : ℕ) (rows left : List (List ℤ)) (kept : List KeptRow) (s : Settled) →
    m ≡ n → left ≡ rows →
    All (λ row. length row ≡ n) rows → kept ≡ (elimination n left).kept →
    (Passes (elimination n left).marked → ⊥) →
    IsSettledBy m kept s → IsSettled n rows s
settled_plain n m rows left kept s columns same lengths kept_is narrow h =
    settled_by_all n rows kept s lengths (kept_is ∙ ap (λ rs. (elimination n rs).kept) same)
    (subst (λ (rs : List (List ℤ)). Passes (elimination n rs).marked → ⊥) same narrow)
    (subst (λ (k : ℕ). IsSettledBy k kept s) columns h)

pub wide_plain : (n m : ℕ) (rows left : List (List ℤ)) (kept : List KeptRow) → m ≡ n → left ≡ rows →
    kept ≡ (elimination n left).kept → (Passes (elimination n left).marked → ⊥) →
    Passes (marked_in (kernel m kept)) → AreRowsTooWide n rows
wide_plain n m rows left kept columns same kept_is narrow p =
    wide_kernel n rows kept (kept_is ∙ ap (λ rs. (elimination n rs).kept) same)
    (subst (λ (rs : List (List ℤ)). Passes (elimination n rs).marked → ⊥) same narrow)
    (subst (λ (k : ℕ). Passes (marked_in (kernel k kept))) columns p)

-- a fault that goes on as too wide was that
pub wide_fault : {T U : Type 0} (r : Result T SettleFault) (x : ElimFault) → IsErr r →
    IsErrAnd r (λ e. e ≡ fault_of x) →
    IsErrOf r Wide → IsErrOf {T = U} (Err x) ElimWide
wide_fault (Ok v) x is_err h e = absurd cc
wide_fault (Err z) ElimWide is_err h e = cc
wide_fault (Err z) (ElimMemory y) is_err h e = absurd cc

pub wide_here : {T : Type 0} (x : ElimFault) → x ≡ ElimWide → IsErrOf {T = T} (Err x) ElimWide
wide_here x e = cc
