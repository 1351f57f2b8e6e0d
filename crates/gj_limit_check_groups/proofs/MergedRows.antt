-- The row that a step makes of two rows, entry by entry.
use Rattle.std.proofs.Common.{◌≡◌, ◌≢◌, ℕ, ◌+◌, ◌-◌, ◌<◌, ◌≤◌, ◌⊎◌, inl, inr, min, ℤ, pos, ◌-ℤ◌, ◌*ℤ◌, List, [], ◌∷◌, ◌++◌, length, take, drop, below_more, refl, sym, ap, ap₂, subst, subst₂, ◌∙◌, arith}
use Rattle.std.proofs.lemmas.Bool.{cases_lt}
use Rattle.std.proofs.lemmas.Int.{ints}
use Rattle.std.proofs.lemmas.List.{length-map, length-take-le, length-append, length-drop, get_or-take, get_or_append_left, get_or-append_right, get_or-drop, get_or_past}
use Rattle.gj_lemmas.proofs.Integers.{same_or_apart_z}
use Rattle.gj_frac.specs.Fraction.{Fits}
use Rattle.gj_shape.specs.Elimination.{at_column, scaled, differences, Passes}
use Rattle.gj_shape.specs.Residues.{residue}
use Rattle.gj_theory.specs.Fitting.{FitsCombined}
use Rattle.gj_theory.specs.Modulus.{modulus}
use Rattle.gj_theory.proofs.CombinedRows.{combined_narrow, combined_wide}
use Rattle.gj_theory.proofs.Entries.{at_scaled, at_differences}
use Rattle.gj_theory.proofs.Modulo.{at_residues, residue_of_zero}
use Rattle.gj_theory.proofs.Passing.{none_passes}
use Rattle.gj_theory.proofs.Steps.{length-differences}
use Rattle.gj_check_groups.specs.RowNumbers.{IsResidue}
use Rattle.gj_check_groups.proofs.ResidueRows.{residue_is}
use Rattle.gj_sparse_elim.specs.declared.entry.Entry.{Entry}
use Rattle.gj_sparse_elim.specs.Sparse.{factor_at, dense, AreSparse}
use Rattle.gj_sparse_elim.proofs.SparseRows.{IsAtEntry, at_start, at_dense, length-dense, IsGathered, gathered_start, gathered_zero, gathered_more, gathered_end}
use Rattle.gj_sparse_elim.proofs.SparseSteps.{further}
use Rattle.gj_limit_check_groups.specs.declared.step.Step.{Step}
use Rattle.gj_limit_check_groups.specs.declared.step.Step.TheVariants.{Combine, Modulo}
use Rattle.gj_limit_check_groups.specs.Steps.{stepped_entry, FitsStep, stepped_row, marked_by}
use Rattle.gj_limit_check_groups.specs.Merging.{IsReached}
use Rattle.gj_limit_check_groups.proofs.SideBySide.{IsNext, none_before, next_behind, later_at, IsTaken, taken}

-- ---- whole rows

length-stepped : (step : Step) (kept row : List ℤ) → length kept ≡ length row →
    length (stepped_row step kept row) ≡ length row
length-stepped (Combine u w) kept row same =
    let first = length-map row (λ x. u *ℤ x) in
    let second = length-map kept (λ x. w *ℤ x) in
    length-differences (scaled u row) (scaled w kept) (omega arith) ∙ first
length-stepped (Modulo w) kept row same =
    let second = length-map kept (λ x. w *ℤ x) in
    length-map (differences row (scaled w kept)) (residue modulus)
    ∙ length-differences row (scaled w kept) (omega arith)

at_stepped : (step : Step) (kept row : List ℤ) (k : ℕ) → length kept ≡ length row →
    at_column (stepped_row step kept row) k ≡ stepped_entry step (at_column row k)
    (at_column kept k)
at_stepped (Combine u w) kept row k same =
    let first = length-map row (λ x. u *ℤ x) in
    let second = length-map kept (λ x. w *ℤ x) in
    at_differences (scaled u row) (scaled w kept) k (omega arith)
    ∙ ap₂ (λ a b. a -ℤ b) (at_scaled u row k) (at_scaled w kept k)
at_stepped (Modulo w) kept row k same =
    let second = length-map kept (λ x. w *ℤ x) in
    at_residues modulus (differences row (scaled w kept)) k
    ∙ ap (residue modulus) (at_differences row (scaled w kept) k (omega arith)
    ∙ ap (λ z. at_column row k -ℤ z) (at_scaled w kept k))

-- ---- one entry

no_product : (u : ℤ) → u *ℤ pos 0 ≡ pos 0
no_product u = omega (arith, ints)

stepped_zero : (step : Step) → stepped_entry step (pos 0) (pos 0) ≡ pos 0
stepped_zero (Combine u w) = omega (arith, ints, no_product u, no_product w)
stepped_zero (Modulo w) =
    let none : pos 0 -ℤ w *ℤ pos 0 ≡ pos 0 = omega (arith, ints, no_product w) in
    ap (residue modulus) none ∙ residue_of_zero modulus

zero_fits : (z : ℤ) → z ≡ pos 0 → Fits z
zero_fits z none = let some : Fits (pos 0) = omega arith in subst Fits (sym none) some

fits_zero : (step : Step) → FitsStep step (pos 0) (pos 0)
fits_zero (Combine u w) = record {
  first = zero_fits (u *ℤ pos 0) (no_product u);
  second = zero_fits (w *ℤ pos 0) (no_product w);
  difference = zero_fits (u *ℤ pos 0 -ℤ w *ℤ pos 0) (stepped_zero (Combine u w));
}
fits_zero (Modulo w) = tt

pub residue_fits : (x : ℤ) → IsResidue x → Fits x
residue_fits x is = let low = is.low in let below = is.below in omega (arith, ints)

stepped_fits : (step : Step) (x e : ℤ) → FitsStep step x e → Fits (stepped_entry step x e)
stepped_fits (Combine u w) x e h = h.difference
stepped_fits (Modulo w) x e h = residue_fits (residue modulus (x -ℤ w *ℤ e))
    (residue_is (x -ℤ w *ℤ e))

-- ---- the entries so far

-- of both rows those up to the indices are read, with columns below a, and those of the new row are
-- made
pub record IsMerged (step : Step) (n : ℕ) (kept row next : List Entry) (i j a : ℕ) : Type 0 where
  pub low : a ≤ n
  pub row_at : IsAtEntry n row i a
  pub kept_at : IsAtEntry n kept j a
  pub gathered : IsGathered (stepped_row step (dense n kept) (dense n row)) next a
  pub fit : (k : ℕ) → k < a → FitsStep step (factor_at row k) (factor_at kept k)

module _ (step : Step) (n : ℕ) (kept row : List Entry) where
  same_length : length (dense n kept) ≡ length (dense n row)
  same_length = length-dense n kept ∙ sym (length-dense n row)

  at_made : (k : ℕ) → k < n → at_column (stepped_row step (dense n kept) (dense n row)) k
      ≡ stepped_entry step (factor_at row k) (factor_at kept k)
  at_made k below =
      at_stepped step (dense n kept) (dense n row) k same_length
      ∙ ap₂ (stepped_entry step) (at_dense n row k below) (at_dense n kept k below)

  pub merged_start : (next : List Entry) → AreSparse n kept → AreSparse n row → next ≡ [] →
      IsMerged step n kept row next 0 0 0
  merged_start next kept_sparse row_sparse empty = record {
    low = omega arith;
    row_at = at_start n row row_sparse;
    kept_at = at_start n kept kept_sparse;
    gathered = gathered_start (stepped_row step (dense n kept) (dense n row)) next empty;
    fit = λ k below. absurd (omega arith);
  }

  -- on to a column before which no entry is left
  pub merged_on : (next : List Entry) (i j a b c d : ℕ) → IsMerged step n kept row next i j a →
      IsNext n row i c →
      IsNext n kept j d → a ≤ b → b ≤ n → b ≤ c → b ≤ d → IsMerged step n kept row next i j b
  merged_on next i j a b c d h row_next kept_next on low row_to kept_to =
      let row_none = λ (k : ℕ) (from : a ≤ k) (to : k < b). none_before n row i a c k h.row_at
      row_next from (omega arith) in
      let kept_none = λ (k : ℕ) (from : a ≤ k) (to : k < b). none_before n kept j a d k h.kept_at
      kept_next from (omega arith) in
      record {
        low = low;
        row_at = later_at n row i a b c h.row_at row_next on row_to;
        kept_at = later_at n kept j a b d h.kept_at kept_next on kept_to;
        gathered = further (λ k. IsGathered (stepped_row step (dense n kept) (dense n row)) next k)
            a b on h.gathered
            (λ k from to so_far. gathered_zero (stepped_row step (dense n kept) (dense n row)) next
            k so_far
            (at_made k (omega arith) ∙ ap₂ (stepped_entry step) (row_none k from to)
            (kept_none k from to)
            ∙ stepped_zero step));
        fit = λ k below. by_place k below (cases_lt k a) row_none kept_none;
      }
    where
      by_place : (k : ℕ) → k < b → (k < a) ⊎ (a ≤ k) →
          ((k : ℕ) → a ≤ k → k < b → factor_at row k ≡ pos 0) →
          ((k : ℕ) → a ≤ k → k < b → factor_at kept k ≡ pos 0) →
          FitsStep step (factor_at row k) (factor_at kept k)
      by_place k below (inl before) row_none kept_none = h.fit k before
      by_place k below (inr from) row_none kept_none =
          subst₂ (FitsStep step) (sym (row_none k from below)) (sym (kept_none k from below))
          (fits_zero step)

  -- at the end, or at the next column
  pub merged_past : (next : List Entry) (i j a c d m : ℕ) → IsMerged step n kept row next i j a →
      IsNext n row i c →
      IsNext n kept j d → m ≡ min c d → n ≤ m → IsMerged step n kept row next i j n
  merged_past next i j a c d m h row_next kept_next is past =
      merged_on next i j a n c d h row_next kept_next h.low (omega arith) (omega arith)
      (omega arith)

  pub merged_here : (next : List Entry) (i j a c d m : ℕ) → IsMerged step n kept row next i j a →
      IsNext n row i c →
      IsNext n kept j d → m ≡ min c d → m < n → IsMerged step n kept row next i j m
  merged_here next i j a c d m h row_next kept_next is below =
      let row_behind = next_behind n row i a c h.row_at row_next h.low in
      let kept_behind = next_behind n kept j a d h.kept_at kept_next h.low in
      merged_on next i j a m c d h row_next kept_next (omega arith) (omega arith) (omega arith)
      (omega arith)

  -- one turn: what both rows have at the next column
  pub record IsTurn (next : List Entry) (i j c d m : ℕ) (x : ℤ) (i' : ℕ) (e : ℤ)
      (j' : ℕ) : Type 0 where
    pub at : IsMerged step n kept row next i j m
    pub row_taken : IsTaken n row i m c x i'
    pub kept_taken : IsTaken n kept j m d e j'

  pub turn : (next : List Entry) (i j a c d m : ℕ) (x : ℤ) (i' : ℕ) (e : ℤ) (j' : ℕ) →
      IsMerged step n kept row next i j a →
      IsNext n row i c → IsNext n kept j d → m ≡ min c d → m < n → IsReached row i m x i' →
      IsReached kept j m e j' →
      IsTurn next i j c d m x i' e j'
  turn next i j a c d m x i' e j' h row_next kept_next is below row_reached kept_reached =
      let at = merged_here next i j a c d m h row_next kept_next is below in record {
        at = at;
        row_taken = taken n row i m c x i' at.row_at row_next (omega arith) below row_reached;
        kept_taken = taken n kept j m d e j' at.kept_at kept_next (omega arith) below kept_reached;
      }

  -- past one column
  pub merged_more : (next after : List Entry) (i j b c d i' j' : ℕ) (x e z : ℤ) →
      IsMerged step n kept row next i j b → b < n →
      IsTaken n row i b c x i' → IsTaken n kept j b d e j' → z ≡ stepped_entry step x e →
      FitsStep step x e →
      (z ≡ pos 0 → after ≡ next) →
      (z ≢ pos 0 → after ≡ next ++ record { column = b; factor = z } ∷ []) →
      IsMerged step n kept row after i' j' (b + 1)
  merged_more next after i j b c d i' j' x e z h below row_taken kept_taken z_is fits zero some =
      record {
        low = omega arith;
        row_at = row_taken.at;
        kept_at = kept_taken.at;
        gathered = by_value (same_or_apart_z z (pos 0));
        fit = below_more (λ k. FitsStep step (factor_at row k) (factor_at kept k)) b h.fit
            (subst₂ (FitsStep step) row_taken.factor_is kept_taken.factor_is fits);
      }
    where
      here : z ≡ at_column (stepped_row step (dense n kept) (dense n row)) b
      here = z_is ∙ ap₂ (stepped_entry step) row_taken.factor_is kept_taken.factor_is
          ∙ sym (at_made b below)

      by_value : (z ≡ pos 0) ⊎ (z ≢ pos 0) →
          IsGathered (stepped_row step (dense n kept) (dense n row)) after (b + 1)
      by_value (inl none) =
          subst (λ (xs : List Entry). IsGathered (stepped_row step (dense n kept) (dense n row)) xs
          (b + 1)) (sym (zero none))
          (gathered_zero (stepped_row step (dense n kept) (dense n row)) next b h.gathered
          (sym here ∙ none))
      by_value (inr apart) =
          gathered_more (stepped_row step (dense n kept) (dense n row)) next after b
          (record { column = b; factor = z }) h.gathered refl
          here (λ none. apart (here ∙ none))
          (subst Fits (sym z_is ∙ here) (stepped_fits step x e fits)) (some apart)

  -- ---- the end

  length-made : length (stepped_row step (dense n kept) (dense n row)) ≡ n
  length-made = length-stepped step (dense n kept) (dense n row) same_length ∙ length-dense n row

  pub merged_value : (next : List Entry) (i j : ℕ) → IsMerged step n kept row next i j n →
      AreSparse n next × (dense n next ≡ stepped_row step (dense n kept) (dense n row))
  merged_value next i j h =
      let end = gathered_end (stepped_row step (dense n kept) (dense n row)) next n h.gathered
      (sym length-made) in
      subst (λ (m : ℕ). AreSparse m next
      × (dense m next ≡ stepped_row step (dense n kept) (dense n row))) length-made end

-- what fits at all columns passes nowhere
pub merged_narrow : (step : Step) (n : ℕ) (kept row next : List Entry) (i j : ℕ) →
    IsMerged step n kept row next i j n →
    Passes (marked_by step (dense n kept) (dense n row)) → ⊥
merged_narrow (Combine u w) n kept row next i j h =
    let whole = stepped_row (Combine u w) (dense n kept) (dense n row) in
    let same = same_length (Combine u w) n kept row in
    combined_narrow u w (dense n row) (dense n kept) whole n record {
      done = λ k below. at_stepped (Combine u w) (dense n kept) (dense n row) k same;
      fit = λ k below. subst₂ (λ x e. FitsCombined u x w e) (sym (at_dense n row k below))
          (sym (at_dense n kept k below)) (h.fit k below);
      later = λ k from. get_or_past whole k (pos 0)
          (omega (arith, length-made (Combine u w) n kept row))
          ∙ sym (get_or_past (dense n row) k (pos 0) (omega (arith, length-dense n row)));
    } same (length-stepped (Combine u w) (dense n kept) (dense n row) same)
    (omega (arith, length-made (Combine u w) n kept row))
merged_narrow (Modulo w) n kept row next i j h = none_passes

-- the first columns of one row and the others of another
module _ (new old : List ℤ) (b : ℕ) (within : b ≤ length new) where
  front : length (take b new) ≡ b
  front = length-take-le b new within

  at_front : (k : ℕ) → k < b → at_column (take b new ++ drop b old) k ≡ at_column new k
  at_front k below =
      get_or_append_left (take b new) (drop b old) (pos 0) k (omega (arith, front))
      ∙ get_or-take b new k (pos 0) below

  at_back : (k : ℕ) → b ≤ k → at_column (take b new ++ drop b old) k ≡ at_column old k
  at_back k from =
      get_or-append_right (take b new) (drop b old) b k (pos 0) front from
      ∙ get_or-drop b old (k - b) (pos 0)
      ∙ ap (λ m. at_column old m) (omega arith)

-- what does not fit at a column passes
pub merged_wide : (step : Step) (n : ℕ) (kept row next : List Entry) (i j b : ℕ) (x e : ℤ) →
    IsMerged step n kept row next i j b →
    b < n → x ≡ factor_at row b → e ≡ factor_at kept b → (FitsStep step x e → ⊥) →
    Passes (marked_by step (dense n kept) (dense n row))
merged_wide (Combine u w) n kept row next i j b x e h below x_is e_is wide =
    let old = dense n row in
    let by = dense n kept in
    let same = same_length (Combine u w) n kept row in
    let new = stepped_row (Combine u w) by old in
    let long = length-made (Combine u w) n kept row in
    let old_long = length-dense n row in
    combined_wide u w old by (take b new ++ drop b old) b record {
      done = λ k before. at_front new old b (omega arith) k before
          ∙ at_stepped (Combine u w) by old k same;
      fit = λ k before. subst₂ (λ x e. FitsCombined u x w e) (sym (at_dense n row k (omega arith)))
          (sym (at_dense n kept k (omega arith))) (h.fit k before);
      later = λ k from. at_back new old b (omega arith) k from;
    } same (omega (
      arith,
      length-append (take b new) (drop b old),
      front new old b
          (omega arith),
      length-drop b old,
    ))
    (omega (
      arith,
      length-append (take b new) (drop b old),
      front new old b
          (omega arith),
      length-drop b old,
    ))
    (λ fits. wide (subst₂ (λ x e. FitsCombined u x w e)
    (at_back new old b (omega arith) b (omega arith) ∙ at_dense n row b below ∙ sym x_is)
    (at_dense n kept b below ∙ sym e_is) fits))
merged_wide (Modulo w) n kept row next i j b x e h below x_is e_is wide = absurd (wide tt)
