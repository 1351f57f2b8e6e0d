-- A row that is inserted again, and a row of zeros, change nothing.
use Rattle.std.proofs.Common.{◌≡◌, ◌≢◌, ℕ, zero, suc, ◌*◌, ◌<◌, ◌≤◌, ◌^◌, ◌⊎◌, inl, inr, Bool, true, false, if◌then◌else◌, cond, Option, None, Some, ℤ, pos, ◌*ℤ◌, neg_ℤ, ◌<ℤ◌, List, [], ◌∷◌, ◌++◌, map, eqb, unsigned_abs, refl, sym, ap, ap₂, subst, ◌∙◌, lit<, arith}
use Rattle.std.specs.Prelude.{All, IfSome, int_lt}
use Rattle.std.specs.Int.{IsGcd}
use Rattle.std.specs.List.{range_with_len}
use Rattle.std.specs.Option.{option_or}
use Rattle.std.specs.Ordering.{int_eq}
use Rattle.std.proofs.Math.Nat.{dvd-mul_left}
use Rattle.std.proofs.lemmas.Bool.{cases_lt, eq-eqb}
use Rattle.std.proofs.lemmas.Bool.Decides.{Decides-int_eq, not_from_Decides}
use Rattle.std.proofs.lemmas.Int.{ints, unsigned_abs-mul}
use Rattle.std.proofs.lemmas.List.Elements.{All-nil, All-cons, All-get_or}
use Rattle.std.proofs.lemmas.List.Folds.{find-append}
use Rattle.std.proofs.lemmas.Nat.Gcd.{dvd_refl}
use Rattle.gj_lemmas.proofs.Divisors.{gcd_is_gcd_of}
use Rattle.gj_lemmas.proofs.Integers.{mul_cancel_right_z, neg_mul_z, mul_neg_z, positive_some_z, pos_abs_z, one_mul_z}
use Rattle.gj_lemmas.proofs.Lists.{All-back}
use Rattle.gj_lemmas.specs.Divisors.{gcd_of}
use Rattle.gj_frac.specs.Fraction.{Fits}
use Rattle.gj_shape.specs.Elimination.{KeptRow, Insertion, Arithmetic, whole_numbers, at_column, scaled, differences, divided, row_factor, kept_factor, eliminated, reduced, marked_in_step, kept_entries, insertion, insertion_by, inserted, inserted_at, inserted_at_by, kept_behind, row_with_pivot, Passes}
use Rattle.gj_theory.specs.HandedOver.{kept_after}
use Rattle.gj_theory.proofs.DividedRows.{divided_fits, scaled_one}
use Rattle.gj_theory.proofs.Entries.{at_scaled, divided_at_zero, kept_at_pivot}
use Rattle.gj_theory.proofs.Passing.{none_passes, first_passes, later_passes, front_passes, back_passes, either_passes, none_pass}
use Rattle.gj_theory.proofs.RowSums.{divided_times}
use Rattle.gj_theory.proofs.Steps.{row_factor_times, kept_factor_times}

-- ---- numbers that pass, or fit

pub pass_or_fit : (xs : List ℤ) → Passes xs ⊎ All Fits xs
pass_or_fit [] = inr (All-nil Fits)
pass_or_fit (x ∷ xs) = by_size (cases_lt (unsigned_abs x) (2 ^ 127)) (pass_or_fit xs)
  where
    by_size : (unsigned_abs x < 2 ^ 127) ⊎ (2 ^ 127 ≤ unsigned_abs x) → Passes xs ⊎ All Fits xs →
        Passes (x ∷ xs) ⊎ All Fits (x ∷ xs)
    by_size (inr large) rest = inl (first_passes x xs large)
    by_size (inl small) (inl p) = inl (later_passes x xs p)
    by_size (inl small) (inr all) = inr (All-cons Fits x xs small all)

fitting_pass_not : (xs : List ℤ) → All Fits xs → Passes xs → ⊥
fitting_pass_not xs all p = none_pass xs (λ k below. All-get_or Fits xs k (pos 0) below all) p

-- ---- a row of zeros

abbrev pub IsZeros : List ℤ → Type 0
IsZeros row = (i : ℕ) → at_column row i ≡ pos 0

abbrev pub nothing_left : Insertion
nothing_left = record { reduce = []; kept = None; marked = [] }

pub zeros_inserted : (by : Arithmetic) (kept : List KeptRow) (columns : List ℕ) (row : List ℤ) →
    IsZeros row →
    insertion_by by kept columns row ≡ nothing_left
unfolding insertion_by
zeros_inserted by kept [] row zeros = refl
zeros_inserted by kept (c ∷ columns) row zeros =
    ap
    (λ b.
    if b then insertion_by by kept columns row
    else inserted_at_by by (row_with_pivot kept c) c row (insertion_by by kept columns))
    ((Decides-int_eq (at_column row c) (pos 0)).1 (zeros c))
    ∙ zeros_inserted by kept columns row zeros

-- ---- a step by the row itself

-- the row is a multiple of the row as it is kept
multiple_of_kept : (row : List ℤ) (c : ℕ) → (d : ℤ) × (scaled d (kept_entries row c) ≡ row)
unfolding kept_entries
multiple_of_kept row c = by_sign (int_lt (at_column row c) (pos 0)) (divided_times row)
  where
    turned : (g : ℕ) (xs : List ℤ) → scaled (neg_ℤ (pos g)) (map neg_ℤ xs) ≡ scaled (pos g) xs
    turned g [] = refl
    turned g (x ∷ xs) =
        ap₂ (λ y ys. y ∷ ys)
        (let first = neg_mul_z (pos g) (neg_ℤ x) in let second = mul_neg_z (pos g) x in
        omega (arith, ints)) (turned g xs)

    by_sign : (b : Bool) → (g : ℕ) × (0 < g) × (scaled (pos g) (divided row) ≡ row) →
        (d : ℤ) × (scaled d (if b then map neg_ℤ (divided row) else divided row) ≡ row)
    by_sign true (g, some, is) = (neg_ℤ (pos g), turned g (divided row) ∙ is)
    by_sign false (g, some, is) = (pos g, is)

-- the factors are 1 and that multiple
factors_of_itself : (row : List ℤ) (c : ℕ) (d : ℤ) → at_column row c ≢ pos 0 →
    scaled d (kept_entries row c) ≡ row →
    (row_factor (kept_entries row c) row c ≡ pos 1) × (kept_factor (kept_entries row c) row c ≡ d)
factors_of_itself row c d some is =
    let e = at_column (kept_entries row c) c in
    let v = at_column row c in
    let positive : pos 0 <ℤ e = kept_at_pivot row c some in
    let product : d *ℤ e ≡ v = sym (at_scaled d (kept_entries row c) c)
    ∙ ap (λ xs. at_column xs c) is in
    let size : unsigned_abs v ≡ unsigned_abs d * unsigned_abs e = ap unsigned_abs (sym product)
    ∙ unsigned_abs-mul d e in
    let common : IsGcd (unsigned_abs d * unsigned_abs e) (unsigned_abs e) (unsigned_abs e) =
    (dvd-mul_left (unsigned_abs e) (unsigned_abs d), dvd_refl (unsigned_abs e), λ a p q. q) in
    let gcd : gcd_of (unsigned_abs v) (unsigned_abs e) ≡ unsigned_abs e =
    ap (λ n. gcd_of n (unsigned_abs e)) size
    ∙ sym (gcd_is_gcd_of (unsigned_abs d * unsigned_abs e) (unsigned_abs e)
    (unsigned_abs e) common) in
    let whole : pos (gcd_of (unsigned_abs v) (unsigned_abs e)) ≡ e = ap pos gcd
    ∙ pos_abs_z e (omega (arith, ints)) in
    let first : row_factor (kept_entries row c) row c *ℤ e ≡ e =
    ap (λ z. row_factor (kept_entries row c) row c *ℤ z) (sym whole)
    ∙ row_factor_times (kept_entries row c) row c in
    let second : kept_factor (kept_entries row c) row c *ℤ e ≡ v =
    ap (λ z. kept_factor (kept_entries row c) row c *ℤ z) (sym whole)
    ∙ kept_factor_times (kept_entries row c) row c in (
      mul_cancel_right_z (row_factor (kept_entries row c) row c) (pos 1) e
          (first ∙ sym (one_mul_z e)) (positive_some_z e positive),
      mul_cancel_right_z (kept_factor (kept_entries row c) row c) d e (second ∙ sym product)
          (positive_some_z e positive),
    )

no_difference : (xs : List ℤ) → IsZeros (differences xs xs)
no_difference [] i = refl
no_difference (x ∷ xs) zero = omega (arith, ints)
no_difference (x ∷ xs) (suc i) = no_difference xs i

-- what a step by the row itself leaves and marks
products_of_itself : (row : List ℤ) (c : ℕ) → at_column row c ≢ pos 0 →
    (scaled (row_factor (kept_entries row c) row c) row ≡ row)
    × (scaled (kept_factor (kept_entries row c) row c) (kept_entries row c) ≡ row)
products_of_itself row c some =
    let (d, is) = multiple_of_kept row c in
    let (first, second) = factors_of_itself row c d some is in (
      ap (λ u. scaled u row) first ∙ scaled_one row,
      ap (λ u. scaled u (kept_entries row c)) second
          ∙ is,
    )

zeros_left : (row : List ℤ) (c : ℕ) → at_column row c ≢ pos 0 →
    IsZeros (eliminated (kept_entries row c) row c)
unfolding eliminated
zeros_left row c some i =
    let (first, second) = products_of_itself row c some in
    ap (λ xs. at_column xs i) (ap₂ differences first second) ∙ no_difference row i

reduced_by_itself : (row : List ℤ) (c : ℕ) → at_column row c ≢ pos 0 →
    IsZeros (reduced (kept_entries row c) row c)
unfolding reduced
reduced_by_itself row c some i = divided_at_zero (eliminated (kept_entries row c) row c) i
    (zeros_left row c some i)

itself_marks_nothing : (row : List ℤ) (c : ℕ) → at_column row c ≢ pos 0 → All Fits row →
    Passes (marked_in_step (kept_entries row c) row c) → ⊥
unfolding marked_in_step
itself_marks_nothing row c some fits p =
    by_part
    (either_passes
    (scaled (row_factor (kept_entries row c) row c) row ++ scaled
    (kept_factor (kept_entries row c) row c) (kept_entries row c))
    (eliminated (kept_entries row c) row c) p)
  where
    products : Passes (scaled (row_factor (kept_entries row c) row c) row)
        ⊎ Passes (scaled (kept_factor (kept_entries row c) row c) (kept_entries row c)) → ⊥
    products (inl q) = fitting_pass_not row fits (subst Passes (products_of_itself row c some).0 q)
    products (inr q) = fitting_pass_not row fits (subst Passes (products_of_itself row c some).1 q)

    by_part : Passes
        (scaled (row_factor (kept_entries row c) row c) row ++ scaled
        (kept_factor (kept_entries row c) row c) (kept_entries row c))
        ⊎ Passes (eliminated (kept_entries row c) row c) → ⊥
    by_part (inl q) =
        products
        (either_passes (scaled (row_factor (kept_entries row c) row c) row)
        (scaled (kept_factor (kept_entries row c) row c) (kept_entries row c)) q)
    by_part (inr q) =
        none_pass (eliminated (kept_entries row c) row c)
        (λ k below. subst Fits (sym (zeros_left row c some k)) (lit< tt)) q

-- ---- the insertion again

-- rows among which those with a pivot are found again, and one with what is kept
pub record Extends (kept all : List KeptRow) (o : Option (ℕ × List ℤ)) : Type 0 where
  pub same : (c : ℕ) (k : KeptRow) → row_with_pivot kept c ≡ Some k → row_with_pivot all c ≡ Some k
  pub new : IfSome o (λ p. (k : KeptRow) × (row_with_pivot all p.0 ≡ Some k) × (k.entries ≡ p.1))

-- the second insertion keeps nothing, and passes only if the first does
pub record ChangesNothing (row : List ℤ) (first second : Insertion) : Type 0 where
  pub nothing : second.kept ≡ None
  pub passes : All Fits row → Passes second.marked → Passes first.marked

abbrev at_pivot : Option KeptRow → ℕ → List ℤ → (List ℤ → Insertion) → Insertion
at_pivot o c row onward = inserted_at o c row onward

by_step : (kept all : List KeptRow) (columns : List ℕ) (k : List ℤ) (row : List ℤ) (c : ℕ) →
    ChangesNothing (reduced k row c) (insertion kept columns (reduced k row c))
    (insertion all columns (reduced k row c)) →
    All Fits row → Passes
    (marked_in_step k row c ++ (insertion all columns (reduced k row c)).marked) →
    Passes (marked_in_step k row c ++ (insertion kept columns (reduced k row c)).marked)
unfolding reduced marked_in_step
by_step kept all columns k row c inner fits p =
    by_marked (pass_or_fit (marked_in_step k row c))
    (either_passes (marked_in_step k row c) (insertion all columns (reduced k row c)).marked p)
  where
    by_marked : Passes (marked_in_step k row c) ⊎ All Fits (marked_in_step k row c) →
        Passes (marked_in_step k row c) ⊎ Passes (insertion all columns (reduced k row c)).marked →
        Passes (marked_in_step k row c ++ (insertion kept columns (reduced k row c)).marked)
    by_marked (inl q) either =
        front_passes (marked_in_step k row c) (insertion kept columns (reduced k row c)).marked q
    by_marked (inr small) (inl q) =
        front_passes (marked_in_step k row c) (insertion kept columns (reduced k row c)).marked q
    by_marked (inr small) (inr q) =
        back_passes (marked_in_step k row c) (insertion kept columns (reduced k row c)).marked
        (inner.passes
        (divided_fits (eliminated k row c)
        (All-back Fits (scaled (row_factor k row c) row ++ scaled (kept_factor k row c) k)
        (eliminated k row c) small))
        q)

again_at_pivot : (kept all : List KeptRow) (columns : List ℕ) (row : List ℤ) (c : ℕ) →
    at_column row c ≢ pos 0 →
    ((next : List ℤ) → Extends kept all (insertion kept columns next).kept →
    ChangesNothing next (insertion kept columns next) (insertion all columns next)) →
    (o : Option KeptRow) → row_with_pivot kept c ≡ o →
    Extends kept all (at_pivot o c row (insertion kept columns)).kept →
    ChangesNothing row (at_pivot o c row (insertion kept columns))
    (at_pivot (row_with_pivot all c) c row (insertion all columns))
unfolding inserted_at_by
again_at_pivot kept all columns row c some later (Some k) e h =
    let inner = later (reduced k.entries row c) h in
    subst (λ a. ChangesNothing row (at_pivot (Some k) c row (insertion kept columns))
    (at_pivot a c row (insertion all columns)))
    (sym (h.same c k e))
    record { nothing = inner.nothing; passes = by_step kept all columns k.entries row c inner }
again_at_pivot kept all columns row c some later None e h =
    let (k, found, is) = h.new in
    let zeros : IsZeros (reduced k.entries row c) =
    λ i. ap (λ xs. at_column (reduced xs row c) i) is ∙ reduced_by_itself row c some i in
    let left : insertion all columns (reduced k.entries row c) ≡ nothing_left =
    zeros_inserted whole_numbers all columns (reduced k.entries row c) zeros in
    subst (λ a. ChangesNothing row (at_pivot None c row (insertion kept columns))
    (at_pivot a c row (insertion all columns)))
    (sym found)
    record {
      nothing = ap (λ i. i.kept) left;
      passes = λ fits p. absurd (no_marks k.entries is left fits p);
    }
  where
    rest_marks : (i : Insertion) → i ≡ nothing_left → Passes i.marked → ⊥
    rest_marks i left p = none_passes (subst (λ (j : Insertion). Passes j.marked) left p)

    no_marks : (xs : List ℤ) → xs ≡ kept_entries row c → insertion all columns (reduced xs row c)
        ≡ nothing_left → All Fits row →
        Passes (marked_in_step xs row c ++ (insertion all columns (reduced xs row c)).marked) → ⊥
    no_marks xs is left fits p =
        elim (either_passes (marked_in_step xs row c)
        (insertion all columns (reduced xs row c)).marked p) [
          | inl q ↦ itself_marks_nothing row c some fits
              (subst (λ (ys : List ℤ). Passes (marked_in_step ys row c)) is q)
          | inr q ↦ rest_marks (insertion all columns (reduced xs row c)) left q
        ]

again_at : (kept all : List KeptRow) (columns : List ℕ) (row : List ℤ) (c : ℕ) →
    ((next : List ℤ) → Extends kept all (insertion kept columns next).kept →
    ChangesNothing next (insertion kept columns next) (insertion all columns next)) →
    (b : Bool) → int_eq (at_column row c) (pos 0) ≡ b →
    Extends kept all (if b then insertion kept columns row else at_pivot
    (row_with_pivot kept c) c row (insertion kept columns)).kept →
    ChangesNothing row (if b then insertion kept columns row else at_pivot
    (row_with_pivot kept c) c row (insertion kept columns))
    (if b then insertion all columns row else at_pivot (row_with_pivot all c) c row
    (insertion all columns))
again_at kept all columns row c later true e h = later row h
again_at kept all columns row c later false e h =
    again_at_pivot kept all columns row c
    (not_from_Decides (int_eq (at_column row c) (pos 0)) (Decides-int_eq (at_column row c) (pos 0))
    e)
    later (row_with_pivot kept c) refl h

pub again : (kept all : List KeptRow) (columns : List ℕ) (row : List ℤ) →
    Extends kept all (insertion kept columns row).kept →
    ChangesNothing row (insertion kept columns row) (insertion all columns row)
unfolding insertion_by
again kept all [] row h = record { nothing = refl; passes = λ fits p. p }
again kept all (c ∷ columns) row h =
    again_at kept all columns row c (again kept all columns) (int_eq (at_column row c) (pos 0)) refl
    h

-- ---- the kept rows behind the first insertion

-- the pivot of a row that is kept was free
free_at : (kept : List KeptRow) (columns : List ℕ) (row : List ℤ) (c : ℕ) →
    ((next : List ℤ) → IfSome (insertion kept columns next).kept
    (λ p. row_with_pivot kept p.0 ≡ None)) →
    (o : Option KeptRow) → row_with_pivot kept c ≡ o →
    IfSome (at_pivot o c row (insertion kept columns)).kept (λ p. row_with_pivot kept p.0 ≡ None)
unfolding inserted_at_by
free_at kept columns row c later None e = e
free_at kept columns row c later (Some k) e = later (reduced k.entries row c)

pub kept_is_free : (kept : List KeptRow) (columns : List ℕ) (row : List ℤ) →
    IfSome (insertion kept columns row).kept (λ p. row_with_pivot kept p.0 ≡ None)
unfolding insertion_by
kept_is_free kept [] row = tt
kept_is_free kept (c ∷ columns) row =
    by_test (int_eq (at_column row c) (pos 0)) (kept_is_free kept columns row)
    (free_at kept columns row c (kept_is_free kept columns) (row_with_pivot kept c) refl)
  where
    by_test : (b : Bool) →
        IfSome (insertion kept columns row).kept (λ p. row_with_pivot kept p.0 ≡ None) →
        IfSome (at_pivot (row_with_pivot kept c) c row (insertion kept columns)).kept
        (λ p. row_with_pivot kept p.0 ≡ None) →
        IfSome (if b then insertion kept columns row else at_pivot (row_with_pivot kept c) c row
        (insertion kept columns)).kept
        (λ p. row_with_pivot kept p.0 ≡ None)
    by_test true first second = first
    by_test false first second = second

-- a row that is found is found with more rows behind
found_before : (kept more : List KeptRow) (c : ℕ) (k : KeptRow) → row_with_pivot kept c ≡ Some k →
    row_with_pivot (kept ++ more) c ≡ Some k
found_before kept more c k e =
    find-append (λ r. eqb r.pivot c) kept more ∙ ap (λ o. option_or o (row_with_pivot more c)) e

found_new : (kept : List KeptRow) (k : KeptRow) → row_with_pivot kept k.pivot ≡ None →
    row_with_pivot (kept ++ k ∷ []) k.pivot ≡ Some k
found_new kept k e =
    find-append (λ r. eqb r.pivot k.pivot) kept (k ∷ [])
    ∙ ap (λ o. option_or o (row_with_pivot (k ∷ []) k.pivot)) e
    ∙ ap (λ b. cond b (Some k) None) (eq-eqb k.pivot k.pivot refl)

extends_behind : (kept more : List KeptRow) (number : ℕ) (reduce : List ℕ)
    (o : Option (ℕ × List ℤ)) →
    IfSome o (λ p. row_with_pivot kept p.0 ≡ None) →
    Extends kept (kept_behind kept number reduce o ++ more) o
unfolding kept_behind
extends_behind kept more number reduce None free =
    record { same = λ c k e. found_before kept more c k e; new = tt }
extends_behind kept more number reduce (Some p) free =
    let k : KeptRow = record { number = number; reduce = reduce; pivot = p.0; entries = p.1 } in
    record {
      same = λ c r e. found_before (kept ++ k ∷ []) more c r (found_before kept (k ∷ []) c r e);
      new = (k, found_before (kept ++ k ∷ []) more p.0 k (found_new kept k free), refl);
    }

repeated : (n number : ℕ) (kept more : List KeptRow) (row : List ℤ) →
    ChangesNothing row (inserted n kept row) (inserted n (kept_after n kept number row more) row)
repeated n number kept more row =
    again kept (kept_after n kept number row more) (range_with_len 0 n) row
    (extends_behind kept more number (inserted n kept row).reduce (inserted n kept row).kept
    (kept_is_free kept (range_with_len 0 n) row))

pub repeated_keeps_nothing : (n number : ℕ) (kept more : List KeptRow) (row : List ℤ) →
    (inserted n (kept_after n kept number row more) row).kept ≡ None
repeated_keeps_nothing n number kept more row = (repeated n number kept more row).nothing

pub repeated_passes : (n number : ℕ) (kept more : List KeptRow) (row : List ℤ) → All Fits row →
    Passes (inserted n (kept_after n kept number row more) row).marked →
    Passes (inserted n kept row).marked
repeated_passes n number kept more row = (repeated n number kept more row).passes
