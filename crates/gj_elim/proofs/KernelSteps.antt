-- The columns below the free column are solved, one after another.
use Rattle.std.proofs.Common.{◌≡◌, ℕ, ◌+◌, ◌<◌, ◌⊎◌, inl, inr, ◌↔◌, Option, None, Some, ℤ, pos, ◌<ℤ◌, List, ◌++◌, length, eqb, if◌then◌else◌, refl, sym, ap, ap₂, subst, subst₂, ◌∙◌, add-one}
use Rattle.std.proofs.lemmas.Option.{none-some}
use Rattle.std.specs.Prelude.{Any, IfSome}
use Rattle.std.proofs.lemmas.List.FromFn.{length-map-range_with_len}
use Rattle.gj_shape.specs.Elimination.{KeptRow, Solution, solution_below, solution_from, solved_at, marked_in_solving, entries_of, row_with_pivot, unit_row, free_column, kernel, Passes}
use Rattle.gj_theory.specs.TriangularRows.{SolvesKept, AreTriangular}
use Rattle.gj_theory.proofs.Kernels.{kernel_none, kernel_solves, kernel_positive, length-solved, free_has_no_row}
use Rattle.gj_elim.specs.Data.{BasisData}
use Rattle.gj_elim.specs.KeptRows.{marked_in}
use Rattle.gj_elim.proofs.Places.{IsRowAt}
use Rattle.gj_theory.proofs.Passing.{none_passes, front_passes, back_passes, either_passes}

-- the columns from j on are solved, and none of the numbers so far passes
pub record IsSolvedTo (kept : List KeptRow) (n free j : ℕ) (w : List ℤ) : Type 0 where
  pub numbers : (solution_below kept free (unit_row n free)).numbers
      ≡ (solution_below kept j w).numbers
  pub marked : Passes (solution_below kept free (unit_row n free)).marked
      ↔ Passes (solution_below kept j w).marked
  pub columns : length w ≡ n

pub solved_start : (kept : List KeptRow) (n free : ℕ) (w : List ℤ) → w ≡ unit_row n free →
    IsSolvedTo kept n free free w
solved_start kept n free w is =
    subst (IsSolvedTo kept n free free) (sym is) record {
      numbers = refl;
      marked = (λ p. p, λ p. p);
      columns = length-map-range_with_len (λ j. if eqb j free then pos 1 else pos 0) 0 n;
    }

-- the solution below the next column
below_next : (kept : List KeptRow) (j : ℕ) (w e : List ℤ) → IsRowAt kept j e →
    solution_below kept (j + 1) w
    ≡ record {
      numbers = (solution_below kept j (solved_at e j w)).numbers;
      marked = marked_in_solving e j w ++ (solution_below kept j (solved_at e j w)).marked;
    }
unfolding solution_below entries_of
below_next kept j w e (k, found, is) =
    let here : entries_of (row_with_pivot kept j) ≡ e = ap entries_of found ∙ is in
    ap (λ m. solution_below kept m w) (add-one j)
    ∙ ap (λ xs. let s : Solution = record {
      numbers = (solution_below kept j (solved_at xs j w)).numbers;
      marked = marked_in_solving xs j w ++ (solution_below kept j (solved_at xs j w)).marked;
    } in s) here

pub solved_more : (kept : List KeptRow) (n free j : ℕ) (w w' e : List ℤ) →
    IsSolvedTo kept n free (j + 1) w → IsRowAt kept j e →
    (Passes (marked_in_solving e j w) → ⊥) → w' ≡ solved_at e j w → IsSolvedTo kept n free j w'
solved_more kept n free j w w' e h at narrow is =
    let next = below_next kept j w e at in
    subst (IsSolvedTo kept n free j) (sym is) record {
      numbers = h.numbers ∙ ap (λ s. s.numbers) next;
      marked = (
        λ p. later (either_passes (marked_in_solving e j w)
            (solution_below kept j (solved_at e j w)).marked
            (subst (λ (s : Solution). Passes s.marked) next (h.marked.0 p))),
        λ p. h.marked.1 (subst (λ (s : Solution). Passes s.marked) (sym next)
            (back_passes (marked_in_solving e j w) (solution_below kept j (solved_at e j w)).marked
            p)),
      );
      columns = length-solved e j w ∙ h.columns;
    }
  where
    later : Passes (marked_in_solving e j w)
        ⊎ Passes (solution_below kept j (solved_at e j w)).marked →
        Passes (solution_below kept j (solved_at e j w)).marked
    later (inl p) = absurd (narrow p)
    later (inr p) = p

-- the kernel's marked numbers, from the free column on
marked_of : (kept : List KeptRow) (n free : ℕ) → Some free ≡ free_column n kept →
    kernel n kept ≡ Some (solution_below kept free (unit_row n free))
unfolding solution_from
marked_of kept n free e = ap (solution_from n kept) (sym e)

pub solved_wide : (b : BasisData) (kept : List KeptRow) (n free j : ℕ) (w e : List ℤ) →
    kept ≡ b.kept → n ≡ b.columns →
    Some free ≡ free_column n kept → IsSolvedTo kept n free (j + 1) w → IsRowAt kept j e →
    Passes (marked_in_solving e j w) → Passes (marked_in (kernel b.columns b.kept))
solved_wide b kept n free j w e kept_is n_is free_is h at p =
    let whole : Passes (solution_below kept free (unit_row n free)).marked =
    h.marked.1 (subst (λ (s : Solution). Passes s.marked) (sym (below_next kept j w e at))
    (front_passes (marked_in_solving e j w) (solution_below kept j (solved_at e j w)).marked p)) in
    subst₂ (λ (m : ℕ) (ks : List KeptRow). Passes (marked_in (kernel m ks))) n_is kept_is
    (subst (λ (o : Option Solution). Passes (marked_in o))
    (sym (marked_of kept n free free_is)) whole)

-- ---- the end

pub record IsKernel (b : BasisData) (w : List ℤ) : Type 0 where
  pub some : length b.kept ≡ b.columns → ⊥
  pub value : IfSome (kernel b.columns b.kept) (λ s. w ≡ s.numbers)
  pub narrow : Passes (marked_in (kernel b.columns b.kept)) → ⊥
  pub solves : SolvesKept w b.kept
  pub positive : Any (λ x. pos 0 <ℤ x) w

pub solved_end : (b : BasisData) (kept : List KeptRow) (n free j : ℕ) (w : List ℤ) → kept ≡ b.kept →
    n ≡ b.columns →
    AreTriangular n kept → Some free ≡ free_column n kept → IsSolvedTo kept n free j w → j ≡ 0 →
    IsKernel b w
unfolding solution_below
solved_end b kept n free j w kept_is n_is h free_is solved zero =
    subst (λ (x : BasisData). IsKernel x w) (same_basis b kept n kept_is n_is) here
  where
    same_basis : (b : BasisData) (kept : List KeptRow) (n : ℕ) → kept ≡ b.kept → n ≡ b.columns →
        (let x : BasisData = record { columns = n; inserted = b.inserted; kept = kept } in x) ≡ b
    same_basis b kept n kept_is n_is =
        ap₂ (λ (m : ℕ) (ks : List KeptRow). let x : BasisData =
        record { columns = m; inserted = b.inserted; kept = ks } in x) n_is kept_is

    is : kernel n kept ≡ Some (solution_below kept free (unit_row n free))
    is = marked_of kept n free free_is

    numbers : w ≡ (solution_below kept free (unit_row n free)).numbers
    numbers = sym (solved.numbers ∙ ap (λ m. (solution_below kept m w).numbers) zero)

    here : IsKernel (record { columns = n; inserted = b.inserted; kept = kept }) w
    here = record {
      some = λ full.
          let none : kernel n kept ≡ None = (kernel_none n kept h).1 full in
          let clash : None ≡ Some (solution_below kept free (unit_row n free)) = sym none ∙ is in
          none-some _ clash;
      value = subst (λ (o : Option Solution). IfSome o (λ s. w ≡ s.numbers)) (sym is) numbers;
      narrow = λ p.
          none_passes (subst (λ (m : ℕ). Passes (solution_below kept m w).marked) zero
          (solved.marked.0 (subst (λ (o : Option Solution). Passes (marked_in o)) is p)));
      solves = subst (λ (xs : List ℤ). SolvesKept xs kept) (sym numbers)
          (subst (λ (o : Option Solution). IfSome o (λ s. SolvesKept s.numbers kept)) is
          (kernel_solves n kept h));
      positive = subst (λ (xs : List ℤ). Any (λ x. pos 0 <ℤ x) xs) (sym numbers)
          (subst (λ (o : Option Solution). IfSome o (λ s. Any (λ x. pos 0 <ℤ x) s.numbers)) is
          (kernel_positive n kept h));
    }

-- if there is no free column
pub record HasNoKernel (b : BasisData) : Type 0 where
  pub full : length b.kept ≡ b.columns
  pub narrow : Passes (marked_in (kernel b.columns b.kept)) → ⊥

pub no_kernel : (b : BasisData) (kept : List KeptRow) (n : ℕ) → kept ≡ b.kept → n ≡ b.columns →
    AreTriangular n kept →
    None ≡ free_column n kept → HasNoKernel b
unfolding solution_from
no_kernel b kept n kept_is n_is h none =
    let is : kernel n kept ≡ None = ap (solution_from n kept) (sym none) in record {
      full = ap length (sym kept_is) ∙ (kernel_none n kept h).0 is ∙ n_is;
      narrow = λ p.
          none_passes (subst (λ (o : Option Solution). Passes (marked_in o)) is
          (subst₂ (λ (m : ℕ) (ks : List KeptRow). Passes (marked_in (kernel m ks))) (sym n_is)
          (sym kept_is) p));
    }

-- a column below the free one has a row
pub row_there : (kept : List KeptRow) (n free j : ℕ) → Some free ≡ free_column n kept → j < free →
    row_with_pivot kept j ≡ None → ⊥
row_there kept n free j free_is below none =
    (free_has_no_row n kept free (sym free_is)).2 j below none

pub free_below : (kept : List KeptRow) (n free : ℕ) → Some free ≡ free_column n kept → free < n
free_below kept n free free_is = (free_has_no_row n kept free (sym free_is)).0
