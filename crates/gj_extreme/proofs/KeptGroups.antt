-- The rows that the elimination keeps meet the rules for groups, over whole numbers and over
-- residues.
use Rattle.std.proofs.Common.{◌≡◌, ◌≢◌, ℕ, zero, suc, ◌⊎◌, inl, inr, ◌+◌, ◌<◌, ◌≤◌, Bool, true, false, if◌then◌else◌, Option, None, Some, ℤ, pos, List, [], ◌∷◌, ◌++◌, length, map, get_or, unsigned_abs, ◌^◌, refl, sym, ap, ap₂, subst, ◌∙◌, append_assoc, lit<, arith}
use Rattle.std.specs.Prelude.{All, Any, nat_le}
use Rattle.std.specs.List.{range_with_len}
use Rattle.std.specs.Ordering.{int_eq}
use Rattle.std.proofs.Math.Seq.{get_or-append_seam}
use Rattle.std.proofs.lemmas.Bool.{cases_eq}
use Rattle.std.proofs.lemmas.Bool.Decides.{Decides-int_eq, not_from_Decides}
use Rattle.std.proofs.lemmas.List.{append-nil, length_push, length-map}
use Rattle.std.proofs.lemmas.List.FromFn.{length-map-range_with_len}
use Rattle.std.proofs.lemmas.List.Elements.{All-head, All-tail}
use Rattle.gj_lemmas.specs.Divisors.{gcd_of}
use Rattle.gj_cover.proofs.Parts.{any_none, any_cases, any_here, any_there}
use Rattle.gj_shape.specs.Elimination.{KeptRow, Insertion, at_column, entries_of, row_with_pivot, insertion_by, inserted_by, inserted_at_by, kept_behind, Elimination, elimination_from_by, behind_insertion, with_pivot, Passes}
use Rattle.gj_shape.specs.FunctionData.{FunctionData}
use Rattle.gj_shape.specs.Residues.{residue, residues, inverse, times_inverse, modulo}
use Rattle.gj_shape.specs.SlopeRows.{row_entry, row_names}
use Rattle.gj_shape.specs.declared.extremality.CoverLine.{CoverLine}
use Rattle.gj_shape.specs.declared.extremality.RowName.{RowName}
use Rattle.gj_shape.specs.declared.extremality.RowName.TheVariants.{Period}
use Rattle.gj_theory.specs.Modulus.{modulus}
use Rattle.gj_theory.specs.TriangularRows.{AreTriangularBy, present_row_by}
use Rattle.gj_theory.proofs.ExtremeByCover.{each_row}
use Rattle.gj_theory.proofs.Insertions.{inserted_leaves, IsZeroBefore, zero_before_next, step_leaves_columns, step_leaves_zero}
use Rattle.gj_theory.proofs.Inverses.{inverse_none}
use Rattle.gj_theory.proofs.Kernels.{any_with_pivot, no_pivot_at}
use Rattle.gj_theory.proofs.Passing.{none_passes}
use Rattle.gj_theory.proofs.ResidueSteps.{modulo_sound}
use Rattle.gj_theory.proofs.SoundArithmetic.{SoundArithmetic, whole_sound}
use Rattle.gj_theory.proofs.Triangular.{no_rows_triangular}
use Rattle.gj_residue.proofs.Inserting.{no_marks}
use Rattle.gj_proof.specs.PresentRows.{arithmetic_of, begun_row, entries_or_none, named_row}
use Rattle.gj_proof.specs.Rules.{MeetsRow, MeetsReduce, MeetsPivot, MeetsPivotBy}
use Rattle.gj_proof.specs.declared.numbers.Numbers.{Numbers}
use Rattle.gj_proof.specs.declared.numbers.Numbers.TheVariants.{Whole, Residues}
use Rattle.gj_proof.specs.declared.pivot.PivotRow.{PivotRow}
use Rattle.gj_extreme.specs.Decision.{group_of, elimination_over, AreExtremeRows}

-- ---- marked numbers of a part

pub any_front : {X : Type 0} (P : X → Type 0) (xs ys : List X) → Any P xs → Any P (xs ++ ys)
any_front P [] ys h = absurd (any_none P h)
any_front P (x ∷ xs) ys h = elim (any_cases P x xs h) [
  | inl first ↦ any_here P x (xs ++ ys) first
  | inr later ↦ any_there P x (xs ++ ys) (any_front P xs ys later)
]

pub any_back : {X : Type 0} (P : X → Type 0) (xs ys : List X) → Any P ys → Any P (xs ++ ys)
any_back P [] ys h = h
any_back P (x ∷ xs) ys h = any_there P x (xs ++ ys) (any_back P xs ys h)

abbrev IsWide : ℤ → Type 0
IsWide x = 2 ^ 127 ≤ unsigned_abs x

-- ---- the two arithmetics

abbrev pub sound_of : Numbers → SoundArithmetic
sound_of Whole = whole_sound
sound_of Residues = modulo_sound modulus (lit< tt)

-- kept rows of n columns with different pivots
abbrev pub AreTriangularOver : Numbers → ℕ → List KeptRow → Type 0
AreTriangularOver numbers n kept = AreTriangularBy (sound_of numbers).is_pivot n kept

pub length_read : (numbers : Numbers) (n : ℕ) (row : List ℤ) → length row ≡ n →
    length ((arithmetic_of numbers).read row) ≡ n
length_read Whole n row len = len
length_read Residues n row len = length-map row (residue modulus) ∙ len

-- a step leaves 0 up to its column
step_over : (numbers : Numbers) (n : ℕ) (kept : List KeptRow) (row : List ℤ) (a : ℕ) (k : KeptRow) →
    AreTriangularOver numbers n kept →
    length row ≡ n → row_with_pivot kept a ≡ Some k → IsZeroBefore row a →
    (length ((arithmetic_of numbers).step k.entries row a) ≡ n)
    × IsZeroBefore ((arithmetic_of numbers).step k.entries row a) (a + 1)
step_over Whole n kept row a k h len e none = (
  step_leaves_columns whole_sound n kept row a k h len e,
  step_leaves_zero whole_sound n kept row
      a k h len e none,
)
step_over Residues n kept row a k h len e none =
    let law = sound_of Residues in (
      step_leaves_columns law n kept row a k h len e,
      step_leaves_zero law n kept row a k h len e
          none,
    )

pub triangular_over : (numbers : Numbers) (n number : ℕ) (kept : List KeptRow) (row : List ℤ) →
    AreTriangularOver numbers n kept →
    length row ≡ n →
    AreTriangularOver numbers n
    (kept_behind kept number (inserted_by (arithmetic_of numbers) n kept row).reduce
    (inserted_by (arithmetic_of numbers) n kept row).kept)
triangular_over Whole n number kept row h len =
    (inserted_leaves whole_sound n kept row h len).triangular number
    (inserted_by (arithmetic_of Whole) n kept row).reduce
triangular_over Residues n number kept row h len =
    (inserted_leaves (sound_of Residues) n kept row h len).triangular number
    (inserted_by (arithmetic_of Residues) n kept row).reduce

-- a row that can be kept at a column meets the rule for its pivot
pivot_over : (numbers : Numbers) (n : ℕ) (kept : List KeptRow) (row : List ℤ) (c : ℕ)
    (entries : List ℤ) → MeetsPivot n kept row c →
    (arithmetic_of numbers).keep row c ≡ Some entries → MeetsPivotBy numbers n kept row c
pivot_over Whole n kept row c entries meets e = meets
pivot_over Residues n kept row c entries meets e =
    (meets, by_gcd (cases_eq (gcd_of (unsigned_abs (at_column row c)) modulus) 1))
  where
    none_kept : (o : Option ℕ) → o ≡ None → times_inverse modulus row o ≡ Some entries → ⊥
    none_kept None is kept_is = cc
    none_kept (Some w) is kept_is = cc

    by_gcd : (gcd_of (unsigned_abs (at_column row c)) modulus ≡ 1)
        ⊎ (gcd_of (unsigned_abs (at_column row c)) modulus ≡ 1 → ⊥) →
        gcd_of (unsigned_abs (at_column row c)) modulus ≡ 1
    by_gcd (inl one) = one
    by_gcd (inr other) =
        absurd (none_kept (inverse modulus (at_column row c))
        ((inverse_none modulus (at_column row c) (lit< tt)).1 other) e)

pub residues_mark_none : (n : ℕ) (kept : List KeptRow) (number : ℕ) (rows : List (List ℤ)) →
    (elimination_from_by (modulo modulus) n kept number rows).marked ≡ []
unfolding elimination_from_by
residues_mark_none n kept number [] = refl
residues_mark_none n kept number (row ∷ rows) =
    let i = inserted_by (modulo modulus) n kept row in
    by_rank (nat_le n (length kept)) i.marked
    (elimination_from_by (modulo modulus) n (kept_behind kept number i.reduce i.kept)
    (number + 1) rows)
    (residues_mark_none n (kept_behind kept number i.reduce i.kept) (number + 1) rows)
    (no_marks kept (range_with_len 0 n) (residues modulus row))
  where
    by_rank : (b : Bool) (marked : List ℤ) (later : Elimination) → later.marked ≡ [] → marked ≡ [] →
        (if b then record { kept = kept; marked = [] } else behind_insertion marked later).marked
        ≡ []
    by_rank true marked later behind here = refl
    by_rank false marked later behind here = ap₂ (λ xs ys. xs ++ ys) here behind

-- ---- the steps and the pivot of a row

-- none of the numbers that the step marks is above 2^127 - 1 in absolute value
abbrev pub SizeMeets : Numbers → List KeptRow → List ℤ → ℕ → Type 0
SizeMeets numbers kept row c =
    Passes ((arithmetic_of numbers).marked (entries_of (row_with_pivot kept c)) row c) → ⊥

-- each step behind the kept rows is possible, and its numbers are not too wide
abbrev pub StepsMeet : Numbers → List KeptRow → List ℤ → List ℕ → Type 0
StepsMeet numbers kept row [] = Unit {0}
StepsMeet numbers kept row (c ∷ columns) =
    MeetsReduce kept row c × SizeMeets numbers kept row c
    × StepsMeet numbers kept
    ((arithmetic_of numbers).step (entries_of (row_with_pivot kept c)) row c) columns

-- the row after these steps
abbrev pub present_over : Numbers → List KeptRow → List ℤ → List ℕ → List ℤ
present_over numbers kept row columns = present_row_by (arithmetic_of numbers) kept row columns

-- nothing is left of the row that can be kept, or it has a new pivot after its steps, and is kept
-- with its entries
abbrev pub PivotMeets : Numbers → ℕ → List KeptRow → List ℤ → List ℕ → Option (ℕ × List ℤ) → Type 0
PivotMeets numbers n kept row reduce None = Unit {0}
PivotMeets numbers n kept row reduce (Some p) =
    MeetsPivotBy numbers n kept (present_over numbers kept row reduce) p.0
    × (p.1 ≡ entries_or_none
    ((arithmetic_of numbers).keep (present_over numbers kept row reduce) p.0))

pub record InsertionMeets (numbers : Numbers) (n : ℕ) (kept : List KeptRow) (row : List ℤ)
    (i : Insertion) : Type 0 where
  pub steps : StepsMeet numbers kept row i.reduce
  pub pivot : PivotMeets numbers n kept row i.reduce i.kept

-- one step in front
steps_behind : (numbers : Numbers) (n : ℕ) (kept : List KeptRow) (row entries : List ℤ) (c : ℕ)
    (i : Insertion) →
    entries_of (row_with_pivot kept c) ≡ entries → MeetsReduce kept row c →
    (Passes ((arithmetic_of numbers).marked entries row c) → ⊥) →
    InsertionMeets numbers n kept ((arithmetic_of numbers).step entries row c) i →
    InsertionMeets numbers n kept row
    (record {
      reduce = c ∷ i.reduce;
      kept = i.kept;
      marked =
          (arithmetic_of numbers).marked entries row c ++ i.marked;
    })
steps_behind numbers n kept row entries c i is possible narrow h =
    let next = subst (λ (es : List ℤ). InsertionMeets numbers n kept
    ((arithmetic_of numbers).step es row c) i) (sym is) h in
    record {
      steps = (
        possible,
        subst (λ (es : List ℤ). Passes ((arithmetic_of numbers).marked es row c) → ⊥)
            (sym is) narrow,
        next.steps,
      );
      pivot = behind i.kept next.pivot;
    }
  where
    behind : (o : Option (ℕ × List ℤ)) →
        PivotMeets numbers n kept
        ((arithmetic_of numbers).step (entries_of (row_with_pivot kept c)) row c) i.reduce o →
        PivotMeets numbers n kept row (c ∷ i.reduce) o
    behind None p = p
    behind (Some q) p = p

-- a row that has something left at a column without a pivot
kept_here : (numbers : Numbers) (n : ℕ) (kept : List KeptRow) (row : List ℤ) (a : ℕ) →
    MeetsPivot n kept row a →
    (o : Option (List ℤ)) → (arithmetic_of numbers).keep row a ≡ o →
    PivotMeets numbers n kept row [] (with_pivot a o)
kept_here numbers n kept row a meets None e = tt
kept_here numbers n kept row a meets (Some entries) e =
    (pivot_over numbers n kept row a entries meets e, ap entries_or_none (sym e))

meets_here : (numbers : Numbers) (n : ℕ) (kept : List KeptRow) (a : ℕ) (row : List ℤ)
    (onward : List ℤ → Insertion) →
    AreTriangularOver numbers n kept → a < n → length row ≡ n → IsZeroBefore row a →
    ((next : List ℤ) → length next ≡ n → IsZeroBefore next (a + 1) →
    (Passes (onward next).marked → ⊥) →
    InsertionMeets numbers n kept next (onward next)) →
    (o : Option KeptRow) → row_with_pivot kept a ≡ o → at_column row a ≢ pos 0 →
    (Passes (inserted_at_by (arithmetic_of numbers) o a row onward).marked → ⊥) →
    InsertionMeets numbers n kept row (inserted_at_by (arithmetic_of numbers) o a row onward)
unfolding inserted_at_by entries_of
meets_here numbers n kept a row onward h below len none later None e some fits = record {
  steps = tt;
  pivot = kept_here numbers n kept row a
      (record { column = below; new = no_pivot_at kept a e; zero_before = none; not_zero = some })
      ((arithmetic_of numbers).keep row a) refl;
}
meets_here numbers n kept a row onward h below len none later (Some k) e some fits =
    let next = (arithmetic_of numbers).step k.entries row a in
    let marked = (arithmetic_of numbers).marked k.entries row a in
    let behind = step_over numbers n kept row a k h len e none in
    steps_behind numbers n kept row k.entries a (onward next) (ap entries_of e)
    (record { pivot = any_with_pivot kept a k e; not_zero = some })
    (λ p. fits (any_front IsWide marked (onward next).marked p))
    (later next behind.0 behind.1 (λ p. fits (any_back IsWide marked (onward next).marked p)))

meets_at : (numbers : Numbers) (n : ℕ) (kept : List KeptRow) (a : ℕ) (row : List ℤ)
    (onward : List ℤ → Insertion) →
    AreTriangularOver numbers n kept → a < n → length row ≡ n → IsZeroBefore row a →
    ((next : List ℤ) → length next ≡ n → IsZeroBefore next (a + 1) →
    (Passes (onward next).marked → ⊥) →
    InsertionMeets numbers n kept next (onward next)) →
    (b : Bool) → int_eq (at_column row a) (pos 0) ≡ b →
    (Passes (if b then onward row else inserted_at_by (arithmetic_of numbers)
    (row_with_pivot kept a) a row onward).marked → ⊥) →
    InsertionMeets numbers n kept row
    (if b then onward row else inserted_at_by (arithmetic_of numbers)
    (row_with_pivot kept a) a row onward)
meets_at numbers n kept a row onward h below len none later true e fits =
    later row len (zero_before_next row a none ((Decides-int_eq (at_column row a) (pos 0)).0 e))
    fits
meets_at numbers n kept a row onward h below len none later false e fits =
    meets_here numbers n kept a row onward h below len none later (row_with_pivot kept a) refl
    (not_from_Decides (int_eq (at_column row a) (pos 0)) (Decides-int_eq (at_column row a) (pos 0))
    e) fits

pub insertion_meets : (numbers : Numbers) (n : ℕ) (kept : List KeptRow) (a m : ℕ) (row : List ℤ) →
    AreTriangularOver numbers n kept →
    a + m ≡ n → length row ≡ n → IsZeroBefore row a →
    (Passes (insertion_by (arithmetic_of numbers) kept (range_with_len a m) row).marked → ⊥) →
    InsertionMeets numbers n kept row
    (insertion_by (arithmetic_of numbers) kept (range_with_len a m) row)
unfolding insertion_by
insertion_meets numbers n kept a zero row h whole len none fits = record { steps = tt; pivot = tt }
insertion_meets numbers n kept a (suc m) row h whole len none fits =
    meets_at numbers n kept a row
    (insertion_by (arithmetic_of numbers) kept (range_with_len (a + 1) m)) h
    (omega arith) len none
    (λ next columns before narrow. insertion_meets numbers n kept (a + 1) m next h
    (omega arith) columns before narrow)
    (int_eq (at_column row a) (pos 0)) refl fits

-- ---- the rows of an elimination

-- a kept row behind others: it begins with a row of the function, its steps and its pivot meet the
-- rules, and it has its entries
pub record MeetsKept (numbers : Numbers) (f : FunctionData) (component : ℕ → ℕ) (n : ℕ)
    (kept : List KeptRow) (k : KeptRow) : Type 0 where
  pub row : MeetsRow f (group_of f k).name
  pub steps : StepsMeet numbers kept
      (begun_row (arithmetic_of numbers) f component n (group_of f k).name) k.reduce
  pub pivot : MeetsPivotBy numbers n kept
      (present_over numbers kept
      (begun_row (arithmetic_of numbers) f component n (group_of f k).name) k.reduce) k.pivot
  pub entries : k.entries
      ≡ entries_or_none
      ((arithmetic_of numbers).keep
      (present_over numbers kept
      (begun_row (arithmetic_of numbers) f component n (group_of f k).name) k.reduce) k.pivot)

-- each behind those before it
abbrev pub AllMeet : Numbers → FunctionData → (ℕ → ℕ) → ℕ → List KeptRow → List KeptRow → Type 0
AllMeet numbers f component n kept [] = Unit {0}
AllMeet numbers f component n kept (k ∷ more) =
    MeetsKept numbers f component n kept k × AllMeet numbers f component n (kept ++ k ∷ []) more

-- rows are kept behind others that meet the rules
record Grows (numbers : Numbers) (f : FunctionData) (component : ℕ → ℕ) (n : ℕ)
    (kept after : List KeptRow) : Type 0 where
  more : List KeptRow
  is : after ≡ kept ++ more
  meet : AllMeet numbers f component n kept more

grows_not : (numbers : Numbers) (f : FunctionData) (component : ℕ → ℕ) (n : ℕ)
    (kept : List KeptRow) →
    Grows numbers f component n kept kept
grows_not numbers f component n kept = record { more = []; is = sym (append-nil kept); meet = tt }

-- the row of a name is kept
kept_meets : (numbers : Numbers) (f : FunctionData) (component : ℕ → ℕ) (n number : ℕ)
    (kept : List KeptRow) (name : RowName)
    (reduce : List ℕ) (p : ℕ × List ℤ) → get_or (row_names f) number Period ≡ name →
    MeetsRow f name →
    StepsMeet numbers kept (begun_row (arithmetic_of numbers) f component n name) reduce →
    PivotMeets numbers n kept (begun_row (arithmetic_of numbers) f component n name) reduce
    (Some p) →
    MeetsKept numbers f component n kept
    (record { number = number; reduce = reduce; pivot = p.0; entries = p.1 })
kept_meets numbers f component n number kept name reduce p named tight steps pivot =
    let begun = λ (r : RowName). begun_row (arithmetic_of numbers) f component n r in
    record {
      row = subst (MeetsRow f) (sym named) tight;
      steps = subst (λ (r : RowName). StepsMeet numbers kept (begun r) reduce) (sym named) steps;
      pivot = subst (λ (r : RowName). MeetsPivotBy numbers n kept
          (present_over numbers kept (begun r) reduce) p.0) (sym named) pivot.0;
      entries =
          subst (λ (r : RowName). p.1
          ≡ entries_or_none ((arithmetic_of numbers).keep
          (present_over numbers kept (begun r) reduce) p.0))
          (sym named) pivot.1;
    }

grows_behind : (numbers : Numbers) (f : FunctionData) (component : ℕ → ℕ) (n number : ℕ)
    (kept : List KeptRow) (name : RowName)
    (reduce : List ℕ) (o : Option (ℕ × List ℤ)) (after : List KeptRow) →
    get_or (row_names f) number Period ≡ name → MeetsRow f name →
    StepsMeet numbers kept (begun_row (arithmetic_of numbers) f component n name) reduce →
    PivotMeets numbers n kept (begun_row (arithmetic_of numbers) f component n name) reduce o →
    Grows numbers f component n (kept_behind kept number reduce o) after →
    Grows numbers f component n kept after
unfolding kept_behind
grows_behind numbers f component n number kept name reduce None after named tight steps pivot h = h
grows_behind numbers f component n number kept name reduce
    (Some p) after named tight steps pivot h =
    let k : KeptRow = record { number = number; reduce = reduce; pivot = p.0; entries = p.1 } in
    record {
      more = k ∷ h.more;
      is = h.is ∙ append_assoc kept (k ∷ []) h.more;
      meet = (
        kept_meets numbers f component n number kept name reduce p named tight steps pivot,
        h.meet,
      );
    }

-- the insertion of the row of a name
abbrev inserted_name : Numbers → FunctionData → (ℕ → ℕ) → ℕ → List KeptRow → RowName → Insertion
inserted_name numbers f component n kept name =
    inserted_by (arithmetic_of numbers) n kept (named_row f component n name)

-- one row and those behind it, if not all columns have a pivot
row_grows : (numbers : Numbers) (f : FunctionData) (component : ℕ → ℕ) (n number : ℕ)
    (kept : List KeptRow) (name : RowName)
    (later : Elimination) → get_or (row_names f) number Period ≡ name → MeetsRow f name →
    AreTriangularOver numbers n kept →
    length (named_row f component n name) ≡ n →
    ((Passes later.marked → ⊥) →
    Grows numbers f component n
    (kept_behind kept number (inserted_name numbers f component n kept name).reduce
    (inserted_name numbers f component n kept name).kept)
    later.kept) →
    (b : Bool) →
    (Passes (if b then record { kept = kept; marked = [] }
    else behind_insertion (inserted_name numbers f component n kept name).marked later).marked →
    ⊥) →
    Grows numbers f component n kept
    (if b then record { kept = kept; marked = [] }
    else behind_insertion (inserted_name numbers f component n kept name).marked later).kept
row_grows numbers f component n number kept name later named tight h len onward true narrow =
    grows_not numbers f component n kept
row_grows numbers f component n number kept name later named tight h len onward false narrow =
    let i = inserted_name numbers f component n kept name in
    let meets = insertion_meets numbers n kept 0 n
    (begun_row (arithmetic_of numbers) f component n name) h (omega arith)
    (length_read numbers n (named_row f component n name) len) (λ j below. absurd (omega arith))
    (λ p. narrow (any_front IsWide i.marked later.marked p)) in
    grows_behind numbers f component n number kept name i.reduce i.kept later.kept named tight
    meets.steps meets.pivot
    (onward (λ p. narrow (any_back IsWide i.marked later.marked p)))

elimination_grows : (numbers : Numbers) (f : FunctionData) (component : ℕ → ℕ) (n : ℕ)
    (kept : List KeptRow) (front rest : List RowName)
    (number : ℕ) → row_names f ≡ front ++ rest → length front ≡ number → All (MeetsRow f) rest →
    AreTriangularOver numbers n kept →
    (Passes (elimination_from_by (arithmetic_of numbers) n kept number
    (map (named_row f component n) rest)).marked → ⊥) →
    Grows numbers f component n kept
    (elimination_from_by (arithmetic_of numbers) n kept number
    (map (named_row f component n) rest)).kept
unfolding elimination_from_by
elimination_grows numbers f component n kept front [] number place index tight h fits =
    grows_not numbers f component n kept
elimination_grows numbers f component n kept front (name ∷ rest) number place index tight h fits =
    let begun = named_row f component n name in
    let i = inserted_name numbers f component n kept name in
    let len : length begun ≡ n =
    length-map-range_with_len (row_entry component f.order f.place name) 0 n in
    let named : get_or (row_names f) number Period ≡ name =
    ap (λ names. get_or names number Period) place
    ∙ ap (λ j. get_or (front ++ name ∷ rest) j Period) (sym index)
    ∙ get_or-append_seam front name rest Period in
    row_grows numbers f component n number kept name
    (elimination_from_by (arithmetic_of numbers) n (kept_behind kept number i.reduce i.kept)
    (number + 1) (map (named_row f component n) rest))
    named (All-head (MeetsRow f) name rest tight) h len
    (elimination_grows numbers f component n (kept_behind kept number i.reduce i.kept)
    (front ++ name ∷ []) rest (number + 1)
    (place ∙ sym (append_assoc front (name ∷ []) rest))
    (length_push front name ∙ (let same : length front + 1 ≡ number + 1 = omega arith in same))
    (All-tail (MeetsRow f) name rest tight)
    (triangular_over numbers n number kept begun h len))
    (nat_le n (length kept)) fits

-- no number of the elimination over these numbers passes
abbrev pub IsNarrow : Numbers → FunctionData → (ℕ → ℕ) → ℕ → Type 0
IsNarrow numbers f component n = Passes (elimination_over numbers f component n).marked → ⊥

pub all_kept_meet : (numbers : Numbers) (f : FunctionData) (component : ℕ → ℕ) (n : ℕ) →
    IsNarrow numbers f component n →
    AllMeet numbers f component n [] (elimination_over numbers f component n).kept
all_kept_meet numbers f component n fits =
    let h = elimination_grows numbers f component n [] [] (row_names f) 0 refl refl
    (each_row (MeetsRow f) f tt tt (λ a b a_low b_low tight. tight)) (no_rows_triangular n) fits in
    subst (AllMeet numbers f component n []) (sym h.is) h.meet

pub residues_are_narrow : (f : FunctionData) (component : ℕ → ℕ) (n : ℕ) →
    IsNarrow Residues f component n
residues_are_narrow f component n p =
    none_passes (subst Passes
    (residues_mark_none n [] 0 (map (named_row f component n) (row_names f))) p)

pub rows_are_narrow : (numbers : Numbers) (f : FunctionData) (lines : List CoverLine)
    (rows : List PivotRow) →
    (h : AreExtremeRows numbers f lines rows) → IsNarrow numbers f h.component h.n
rows_are_narrow Whole f lines rows h = h.needed
rows_are_narrow Residues f lines rows h = residues_are_narrow f h.component h.n
