-- The rows that an elimination keeps of any rows meet the rules for groups, over whole numbers and
-- over residues.
use Rattle.std.proofs.Common.{◌≡◌, ℕ, ◌+◌, ◌<◌, ◌≤◌, Bool, true, false, if◌then◌else◌, Option, None, Some, ℤ, List, [], ◌∷◌, ◌++◌, length, get_or, refl, sym, ap, subst, ◌∙◌, append_assoc, arith}
use Rattle.std.specs.Prelude.{All, nat_le}
use Rattle.std.proofs.Math.Seq.{get_or-append_seam}
use Rattle.std.proofs.lemmas.List.{append-nil, length-append, length_push}
use Rattle.std.proofs.lemmas.List.Elements.{All-head, All-tail}
use Rattle.gj_shape.specs.Elimination.{KeptRow, Insertion, Elimination, inserted_by, kept_behind, elimination_by, elimination_from_by, behind_insertion, Passes}
use Rattle.gj_theory.proofs.Passing.{none_passes, front_passes, back_passes}
use Rattle.gj_theory.proofs.Triangular.{no_rows_triangular}
use Rattle.gj_proof.specs.PresentRows.{arithmetic_of, entries_or_none}
use Rattle.gj_proof.specs.Rules.{MeetsPivotBy}
use Rattle.gj_proof.specs.declared.numbers.Numbers.{Numbers}
use Rattle.gj_proof.specs.declared.numbers.Numbers.TheVariants.{Whole, Residues}
use Rattle.gj_extreme.proofs.KeptGroups.{AreTriangularOver, length_read, triangular_over, residues_mark_none, StepsMeet, present_over, PivotMeets, insertion_meets}

-- the row with which a kept row began, read
abbrev pub begun : Numbers → List (List ℤ) → KeptRow → List ℤ
begun numbers rows k = (arithmetic_of numbers).read (get_or rows k.number [])

-- a kept row behind others: it began with one of the rows, its steps and its pivot meet the rules,
-- and it has its entries
pub record MeetsKept (numbers : Numbers) (n : ℕ) (rows : List (List ℤ)) (kept : List KeptRow)
    (k : KeptRow) : Type 0 where
  pub low : k.number < length rows
  pub steps : StepsMeet numbers kept (begun numbers rows k) k.reduce
  pub pivot : MeetsPivotBy numbers n kept
      (present_over numbers kept (begun numbers rows k) k.reduce) k.pivot
  pub entries : k.entries
      ≡ entries_or_none ((arithmetic_of numbers).keep
      (present_over numbers kept (begun numbers rows k) k.reduce) k.pivot)

-- each behind those before it
abbrev pub AllMeet : Numbers → ℕ → List (List ℤ) → List KeptRow → List KeptRow → Type 0
AllMeet numbers n rows kept [] = Unit {0}
AllMeet numbers n rows kept (k ∷ more) = MeetsKept numbers n rows kept k
    × AllMeet numbers n rows (kept ++ k ∷ []) more

-- no number of the elimination over these numbers passes
abbrev pub IsNarrow : Numbers → ℕ → List (List ℤ) → Type 0
IsNarrow numbers n rows = Passes (elimination_by (arithmetic_of numbers) n rows).marked → ⊥

module _ (numbers : Numbers) (n : ℕ) (rows : List (List ℤ)) where
  -- rows are kept behind others that meet the rules
  record Grows (kept after : List KeptRow) : Type 0 where
    more : List KeptRow
    is : after ≡ kept ++ more
    meet : AllMeet numbers n rows kept more

  grows_not : (kept : List KeptRow) → Grows kept kept
  grows_not kept = record { more = []; is = sym (append-nil kept); meet = tt }

  -- one of the rows is kept
  kept_meets : (number : ℕ) (kept : List KeptRow) (row : List ℤ) (reduce : List ℕ)
      (p : ℕ × List ℤ) → number < length rows →
      get_or rows number [] ≡ row →
      StepsMeet numbers kept ((arithmetic_of numbers).read row) reduce →
      PivotMeets numbers n kept ((arithmetic_of numbers).read row) reduce (Some p) →
      MeetsKept numbers n rows kept
      (record { number = number; reduce = reduce; pivot = p.0; entries = p.1 })
  kept_meets number kept row reduce p low there steps pivot =
      let read = (arithmetic_of numbers).read in
      record {
        low = low;
        steps = subst (λ (r : List ℤ). StepsMeet numbers kept (read r) reduce) (sym there) steps;
        pivot = subst (λ (r : List ℤ). MeetsPivotBy numbers n kept
            (present_over numbers kept (read r) reduce) p.0) (sym there) pivot.0;
        entries = subst (λ (r : List ℤ). p.1
            ≡ entries_or_none ((arithmetic_of numbers).keep
            (present_over numbers kept (read r) reduce) p.0))
            (sym there) pivot.1;
      }

  grows_behind : (number : ℕ) (kept : List KeptRow) (row : List ℤ) (reduce : List ℕ)
      (o : Option (ℕ × List ℤ)) (after : List KeptRow) →
      number < length rows → get_or rows number [] ≡ row →
      StepsMeet numbers kept ((arithmetic_of numbers).read row) reduce →
      PivotMeets numbers n kept ((arithmetic_of numbers).read row) reduce o →
      Grows (kept_behind kept number reduce o) after →
      Grows kept after
  unfolding kept_behind
  grows_behind number kept row reduce None after low there steps pivot h = h
  grows_behind number kept row reduce (Some p) after low there steps pivot h =
      let k : KeptRow = record { number = number; reduce = reduce; pivot = p.0; entries = p.1 } in
      record {
        more = k ∷ h.more;
        is = h.is ∙ append_assoc kept (k ∷ []) h.more;
        meet = (kept_meets number kept row reduce p low there steps pivot, h.meet);
      }

  -- one row and those behind it, if not all columns have a pivot
  row_grows : (number : ℕ) (kept : List KeptRow) (row : List ℤ) (later : Elimination) →
      number < length rows →
      get_or rows number [] ≡ row → AreTriangularOver numbers n kept → length row ≡ n →
      ((Passes later.marked → ⊥) →
      Grows (kept_behind kept number (inserted_by (arithmetic_of numbers) n kept row).reduce
      (inserted_by (arithmetic_of numbers) n kept row).kept)
      later.kept) →
      (b : Bool) →
      (Passes (if b then record { kept = kept; marked = [] }
      else behind_insertion (inserted_by (arithmetic_of numbers) n kept row).marked later).marked →
      ⊥) →
      Grows kept
      (if b then record { kept = kept; marked = [] } else behind_insertion
      (inserted_by (arithmetic_of numbers) n kept row).marked later).kept
  row_grows number kept row later low there h len onward true narrow = grows_not kept
  row_grows number kept row later low there h len onward false narrow =
      let i = inserted_by (arithmetic_of numbers) n kept row in
      let meets = insertion_meets numbers n kept 0 n ((arithmetic_of numbers).read row) h
      (omega arith) (length_read numbers n row len)
      (λ j below. absurd (omega arith)) (λ p. narrow (front_passes i.marked later.marked p)) in
      grows_behind number kept row i.reduce i.kept later.kept low there meets.steps meets.pivot
      (onward (λ p. narrow (back_passes i.marked later.marked p)))

  elimination_grows : (kept : List KeptRow) (front rest : List (List ℤ)) (number : ℕ) →
      rows ≡ front ++ rest → length front ≡ number →
      All (λ row. length row ≡ n) rest → AreTriangularOver numbers n kept →
      (Passes (elimination_from_by (arithmetic_of numbers) n kept number rest).marked → ⊥) →
      Grows kept (elimination_from_by (arithmetic_of numbers) n kept number rest).kept
  unfolding elimination_from_by
  elimination_grows kept front [] number place index columns h fits = grows_not kept
  elimination_grows kept front (row ∷ rest) number place index columns h fits =
      let i = inserted_by (arithmetic_of numbers) n kept row in
      let len = All-head (λ r. length r ≡ n) row rest columns in
      let there : get_or rows number [] ≡ row =
      ap (λ rs. get_or rs number []) place ∙ ap (λ j. get_or (front ++ row ∷ rest) j []) (sym index)
      ∙ get_or-append_seam front row rest [] in
      let whole = ap length place in
      let parts = length-append front (row ∷ rest) in
      row_grows number kept row
      (elimination_from_by (arithmetic_of numbers) n (kept_behind kept number i.reduce i.kept)
      (number + 1) rest)
      (omega arith) there h len
      (elimination_grows (kept_behind kept number i.reduce i.kept) (front ++ row ∷ []) rest
      (number + 1)
      (place ∙ sym (append_assoc front (row ∷ []) rest))
      (length_push front row ∙ (let same : length front + 1 ≡ number + 1 = omega arith in same))
      (All-tail (λ r. length r ≡ n) row rest columns)
      (triangular_over numbers n number kept row h len))
      (nat_le n (length kept)) fits

  pub all_kept_meet : All (λ row. length row ≡ n) rows → IsNarrow numbers n rows →
      AllMeet numbers n rows [] (elimination_by (arithmetic_of numbers) n rows).kept
  all_kept_meet columns fits =
      let h = elimination_grows [] [] rows 0 refl refl columns (no_rows_triangular n) fits in
      subst (AllMeet numbers n rows []) (sym h.is) h.meet

pub residues_are_narrow : (n : ℕ) (rows : List (List ℤ)) → IsNarrow Residues n rows
residues_are_narrow n rows p = none_passes (subst Passes (residues_mark_none n [] 0 rows) p)
