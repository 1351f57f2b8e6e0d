-- Rows that are read, written and combined entry by entry, and their extents.
use Rattle.std.proofs.Common.{◌≡◌, ◌≢◌, ℕ, ◌*◌, ◌<◌, ◌≤◌, ◌^◌, ◌⊎◌, inl, inr, ℤ, pos, ◌-ℤ◌, ◌*ℤ◌, ◌+ℤ◌, ◌<ℤ◌, int_div, int_rem, Bool, true, false, FitsSigned, to_z, of_z, List, length, unsigned_abs, mul-le-mul_left, refl, sym, ap, ap₂, subst, subst₂, ◌∙◌, arith}
use Rattle.std.proofs.lemmas.Bool.{cases_lt}
use Rattle.std.proofs.lemmas.Int.{ints, quot-rem, rem_is, quot_fits, fits_signed_from_abs, to_z-of_z}
use mir.Syntax.{w64, w128}
use Rattle.std.proofs.lemmas.List.{same_lists, get_or_default, get_or_past, length-map}
use Rattle.gj_lemmas.proofs.Integers.{unsigned_abs-mul, abs_sub_z, abs_positive_z, pos_abs_z, one_mul_z}
use Rattle.gj_shape.specs.Elimination.{at_column, divided, scaled, differences}
use Rattle.gj_theory.specs.Fitting.{FitsCombined}
use Rattle.gj_theory.proofs.CombinedRows.{AreCombined, combined_value}
use Rattle.gj_theory.proofs.DividedRows.{scaled_one}
use Rattle.gj_theory.proofs.Entries.{at_scaled, at_differences, at_divided}
use Rattle.gj_theory.proofs.Steps.{length-differences}
use Rattle.gj_elim.proofs.LazySteps.{AreNarrow, divided_multiple}
use Rattle.gj_elim.specs.Lazy.{IsMultipleRow, IsExactly, AreLazyFactors, IsExtent, HasRoom, IsZeroOutside}

-- ---- extents

-- the extent of the entries so far
pub record IsExtentTo (bound end : ℕ) (row : List ℤ) (i : ℕ) : Type 0 where
  pub small : bound < 2 ^ 63 → (k : ℕ) → k < i → unsigned_abs (at_column row k) ≤ bound
  pub zero_from : (k : ℕ) → end ≤ k → k < i → at_column row k ≡ pos 0
  pub within : end ≤ i

-- ---- rows that are copied

pub copied_all : (row source : List ℤ) (i : ℕ) → length row ≡ length source → length row ≤ i →
    ((k : ℕ) → k < i → at_column row k ≡ at_column source k) → row ≡ source
copied_all row source i len all same =
    same_lists row source len
    (λ k d below.
    get_or_default row k d (pos 0) below ∙ same k (omega arith)
    ∙ get_or_default source k (pos 0) d (omega arith))

-- ---- one entry of a step, as the code has it

read_small : (z : ℤ) → unsigned_abs z < 2 ^ 63 → to_z w64 (of_z w64 z) ≡ z
read_small z h = to_z-of_z w64 z (fits_signed_from_abs w64 z h)

-- an entry below 2^63 in absolute value
pub record IsSmallEntry (e : ℤ) : Type 0 where
  pub fits : FitsSigned w64 (to_z w128 (of_z w128 e))
  pub read : to_z w64 (of_z w64 (to_z w128 (of_z w128 e))) ≡ e

pub small_entry : (e : ℤ) → FitsSigned w128 e → unsigned_abs e < 2 ^ 63 → IsSmallEntry e
small_entry e fits small =
    let same = to_z-of_z w128 e fits in record {
      fits = subst (FitsSigned w64) (sym same) (fits_signed_from_abs w64 e small);
      read = ap (λ z. to_z w64 (of_z w64 z)) same ∙ read_small e small;
    }

-- the kept entry, and its product with the factor
pub record IsCodeProduct (w e : ℤ) : Type 0 where
  pub entry : FitsSigned w64 (to_z w128 (of_z w128 e))
  pub product : FitsSigned w64
      (to_z w64 (of_z w64 w) *ℤ to_z w64 (of_z w64 (to_z w128 (of_z w128 e))))

pub code_product : (w e : ℤ) → FitsSigned w64 w → FitsSigned w128 e →
    unsigned_abs (w *ℤ e) < 2 ^ 62 → unsigned_abs e < 2 ^ 63 →
    IsCodeProduct w e
code_product w e w_fits e_fits narrow small =
    let here = small_entry e e_fits small in
    let product = ap₂ (λ a b. a *ℤ b) (to_z-of_z w64 w w_fits) here.read in record {
      entry = here.fits;
      product = subst (FitsSigned w64) (sym product)
          (fits_signed_from_abs w64 (w *ℤ e) (omega arith));
    }

-- the product of a factor and an entry
pub code_factor : (u x : ℤ) → FitsSigned w64 u → FitsSigned w64 x → unsigned_abs (u *ℤ x) < 2 ^ 62 →
    FitsSigned w64 (to_z w64 (of_z w64 u) *ℤ to_z w64 (of_z w64 x))
code_factor u x u_fits x_fits narrow =
    subst (FitsSigned w64)
    (sym (ap₂ (λ a b. a *ℤ b) (to_z-of_z w64 u u_fits) (to_z-of_z w64 x x_fits)))
    (fits_signed_from_abs w64 (u *ℤ x) (omega arith))

pub record IsCodeDifference (u x w e code : ℤ) : Type 0 where
  pub fits : FitsSigned w64 code
  pub value : to_z w64 (of_z w64 code) ≡ u *ℤ x -ℤ w *ℤ e
  pub narrow : FitsCombined u x w e

pub code_difference : (u x w e : ℤ) → FitsSigned w64 u → FitsSigned w64 x → FitsSigned w64 w →
    FitsSigned w128 e →
    unsigned_abs (u *ℤ x) < 2 ^ 62 → unsigned_abs (w *ℤ e) < 2 ^ 62 → unsigned_abs e < 2 ^ 63 →
    IsCodeDifference u x w e (to_z w64 (of_z w64 (to_z w64 (of_z w64 u) *ℤ to_z w64 (of_z w64 x)))
    -ℤ to_z w64 (of_z w64 (to_z w64 (of_z w64 w) *ℤ to_z w64 (of_z w64 (to_z w128 (of_z w128 e))))))
code_difference u x w e u_fits x_fits w_fits e_fits first second small =
    let first_is : to_z w64 (of_z w64 (to_z w64 (of_z w64 u) *ℤ to_z w64 (of_z w64 x))) ≡ u *ℤ x =
    ap (λ z. to_z w64 (of_z w64 z))
    (ap₂ (λ a b. a *ℤ b) (to_z-of_z w64 u u_fits) (to_z-of_z w64 x x_fits))
    ∙ read_small (u *ℤ x) (omega arith) in
    let e_is : to_z w64 (of_z w64 (to_z w128 (of_z w128 e))) ≡ e =
    ap (λ z. to_z w64 (of_z w64 z)) (to_z-of_z w128 e e_fits) ∙ read_small e small in
    let second_is : to_z w64
    (of_z w64 (to_z w64 (of_z w64 w) *ℤ to_z w64 (of_z w64 (to_z w128 (of_z w128 e)))))
    ≡ w *ℤ e =
    ap (λ z. to_z w64 (of_z w64 z)) (ap₂ (λ a b. a *ℤ b) (to_z-of_z w64 w w_fits) e_is)
    ∙ read_small (w *ℤ e) (omega arith) in
    let whole = ap₂ (λ a b. a -ℤ b) first_is second_is in
    let less = abs_sub_z (u *ℤ x) (w *ℤ e) in
    let low : unsigned_abs (u *ℤ x -ℤ w *ℤ e) < 2 ^ 63 = omega arith in record {
      fits = subst (FitsSigned w64) (sym whole) (fits_signed_from_abs w64 (u *ℤ x -ℤ w *ℤ e) low);
      value = ap (λ z. to_z w64 (of_z w64 z)) whole ∙ read_small (u *ℤ x -ℤ w *ℤ e) low;
      narrow = record { first = omega arith; second = omega arith; difference = omega arith };
    }

-- the same for a row that is not multiplied
pub code_subtraction : (x w e : ℤ) → FitsSigned w64 x → FitsSigned w64 w → FitsSigned w128 e →
    unsigned_abs x < 2 ^ 62 → unsigned_abs (w *ℤ e) < 2 ^ 62 → unsigned_abs e < 2 ^ 63 →
    IsCodeDifference (pos 1) x w e (to_z w64 (of_z w64 x)
    -ℤ to_z w64 (of_z w64 (to_z w64 (of_z w64 w) *ℤ to_z w64 (of_z w64 (to_z w128 (of_z w128 e))))))
code_subtraction x w e x_fits w_fits e_fits first second small =
    let e_is : to_z w64 (of_z w64 (to_z w128 (of_z w128 e))) ≡ e =
    ap (λ z. to_z w64 (of_z w64 z)) (to_z-of_z w128 e e_fits) ∙ read_small e small in
    let second_is : to_z w64
    (of_z w64 (to_z w64 (of_z w64 w) *ℤ to_z w64 (of_z w64 (to_z w128 (of_z w128 e)))))
    ≡ w *ℤ e =
    ap (λ z. to_z w64 (of_z w64 z)) (ap₂ (λ a b. a *ℤ b) (to_z-of_z w64 w w_fits) e_is)
    ∙ read_small (w *ℤ e) (omega arith) in
    let one : x ≡ pos 1 *ℤ x = sym (one_mul_z x) in
    let first' : unsigned_abs (pos 1 *ℤ x) < 2 ^ 62 =
    subst (λ (y : ℤ). unsigned_abs y < 2 ^ 62) one first in
    let whole = ap₂ (λ a b. a -ℤ b) (to_z-of_z w64 x x_fits ∙ one) second_is in
    let less = abs_sub_z (pos 1 *ℤ x) (w *ℤ e) in
    let low : unsigned_abs (pos 1 *ℤ x -ℤ w *ℤ e) < 2 ^ 63 = omega arith in record {
      fits = subst (FitsSigned w64) (sym whole)
          (fits_signed_from_abs w64 (pos 1 *ℤ x -ℤ w *ℤ e) low);
      value = ap (λ z. to_z w64 (of_z w64 z)) whole ∙ read_small (pos 1 *ℤ x -ℤ w *ℤ e) low;
      narrow = record { first = omega arith; second = omega arith; difference = omega arith };
    }

-- ---- all entries of a step

-- a factor as the code reads it
pub read_factor : (u w w' : ℤ) (old kept row : List ℤ) (i : ℕ) → w' ≡ w →
    AreCombined u w old kept row i → AreCombined u w' old kept row i
read_factor u w w' old kept row i e h = subst (λ (v : ℤ). AreCombined u v old kept row i) (sym e) h

zeros : (u w : ℤ) → pos 0 ≡ u *ℤ pos 0 -ℤ w *ℤ pos 0
zeros u w = omega (arith, ints)

zero_fits : (u w x e : ℤ) → x ≡ pos 0 → e ≡ pos 0 → FitsCombined u x w e
zero_fits u w x e x_is e_is =
    subst (λ (y : ℤ). FitsCombined u y w e) (sym x_is)
    (subst (λ (y : ℤ). FitsCombined u (pos 0) w y) (sym e_is)
    record {
      first = omega (arith, ints);
      second = omega (arith, ints);
      difference =
          omega (arith, ints);
    })

-- before the first of the columns all is 0, and so combined
pub combined_from : (u w : ℤ) (old kept : List ℤ) (from to : ℕ) → IsZeroOutside from to old →
    IsZeroOutside from to kept →
    AreCombined u w old kept old from
combined_from u w old kept from to old_zero kept_zero = record {
  done = λ k below. let x = old_zero.before k below in
      x ∙ zeros u w ∙ ap₂ (λ a b. u *ℤ a -ℤ w *ℤ b) (sym x) (sym (kept_zero.before k below));
  fit = λ k below. zero_fits u w (at_column old k) (at_column kept k) (old_zero.before k below)
      (kept_zero.before k below);
  later = λ k there. refl;
}

-- outside of the columns all is 0, and so combined
pub combined_end : (u w : ℤ) (old kept row : List ℤ) (from to i : ℕ) →
    AreCombined u w old kept row i → IsZeroOutside from to old →
    IsZeroOutside from to kept → to ≤ i → length kept ≡ length old → length row ≡ length old →
    row ≡ differences (scaled u old) (scaled w kept)
combined_end u w old kept row from to i h old_zero kept_zero past len same =
    combined_value u w old kept row (length row) all len same (omega arith)
  where
    done_at : (k : ℕ) → (k < i) ⊎ (i ≤ k) →
        at_column row k ≡ u *ℤ at_column old k -ℤ w *ℤ at_column kept k
    done_at k (inl before) = h.done k before
    done_at k (inr there) =
        let x = old_zero.behind k (omega arith) in
        let e = kept_zero.behind k (omega arith) in
        h.later k there ∙ x ∙ zeros u w ∙ ap₂ (λ a b. u *ℤ a -ℤ w *ℤ b) (sym x) (sym e)

    fit_at : (k : ℕ) → (k < i) ⊎ (i ≤ k) → FitsCombined u (at_column old k) w (at_column kept k)
    fit_at k (inl before) = h.fit k before
    fit_at k (inr there) =
        zero_fits u w (at_column old k) (at_column kept k) (old_zero.behind k (omega arith))
        (kept_zero.behind k (omega arith))

    all : AreCombined u w old kept row (length row)
    all = record {
      done = λ k below. done_at k (cases_lt k i);
      fit = λ k below. fit_at k (cases_lt k i);
      later = λ k from'. past_end k from';
    }
      where
        past_end : (k : ℕ) → length row ≤ k → at_column row k ≡ at_column old k
        past_end k from' = get_or_past row k (pos 0) from'
            ∙ sym (get_or_past old k (pos 0) (omega arith))

-- ---- what there is room for

product_below : (u x : ℤ) (bound : ℕ) → unsigned_abs x ≤ bound → unsigned_abs u * bound < 2 ^ 62 →
    unsigned_abs (u *ℤ x) < 2 ^ 62
product_below u x bound small room =
    let size = unsigned_abs-mul u x in
    let more : unsigned_abs u * unsigned_abs x ≤ unsigned_abs u * bound =
    mul-le-mul_left (unsigned_abs u) small in
    omega arith

-- two rows with their extents, and the extent behind a step
pub record HaveRoom (u w : ℤ) (row kept : List ℤ)
    (row_bound row_end kept_bound kept_end bound end : ℕ) : Type 0 where
  pub row_extent : IsExtent row_bound row_end row
  pub kept_extent : IsExtent kept_bound kept_end kept
  pub row_bounded : row_bound < 2 ^ 63
  pub kept_bounded : kept_bound < 2 ^ 63
  pub room : HasRoom u w row_bound row_end kept_bound kept_end bound end

pub have_room : {u w : ℤ} {row kept : List ℤ} {b d b' d' bound end : ℕ} → IsExtent b d row →
    IsExtent b' d' kept → b < 2 ^ 63 → b' < 2 ^ 62 →
    HasRoom u w b d b' d' bound end → HaveRoom u w row kept b d b' d' bound end
have_room row_extent kept_extent low low' room = record {
  row_extent = row_extent;
  kept_extent = kept_extent;
  row_bounded = low;
  kept_bounded = omega arith;
  room = room;
}

pub row_products : (u w : ℤ) (row kept : List ℤ) (b d b' d' bound end : ℕ) →
    HaveRoom u w row kept b d b' d' bound end →
    (k : ℕ) → unsigned_abs (u *ℤ at_column row k) < 2 ^ 62
row_products u w row kept b d b' d' bound end h k =
    product_below u (at_column row k) b (h.row_extent.small h.row_bounded k) h.room.row

pub kept_products : (u w : ℤ) (row kept : List ℤ) (b d b' d' bound end : ℕ) →
    HaveRoom u w row kept b d b' d' bound end →
    (k : ℕ) → unsigned_abs (w *ℤ at_column kept k) < 2 ^ 62
kept_products u w row kept b d b' d' bound end h k =
    product_below w (at_column kept k) b' (h.kept_extent.small h.kept_bounded k) h.room.kept

pub are_narrow : (u w : ℤ) (row kept : List ℤ) (b d b' d' bound end : ℕ) →
    HaveRoom u w row kept b d b' d' bound end →
    AreNarrow u w row kept
are_narrow u w row kept b d b' d' bound end h = record {
  first = λ k. let small = row_products u w row kept b d b' d' bound end h k in omega arith;
  second = λ k. let small = kept_products u w row kept b d b' d' bound end h k in omega arith;
  difference = λ k.
      let first = row_products u w row kept b d b' d' bound end h k in
      let second = kept_products u w row kept b d b' d' bound end h k in
      let less = abs_sub_z (u *ℤ at_column row k) (w *ℤ at_column kept k) in
      omega arith;
}

pub zero_outside : (row : List ℤ) (c bound end to : ℕ) →
    ((k : ℕ) → k < c → at_column row k ≡ pos 0) → IsExtent bound end row → end ≤ to →
    IsZeroOutside c to row
zero_outside row c bound end to before h more = record {
  before = before;
  behind = λ k from. h.zero_from k (omega arith);
}

pub extent_behind : (u w : ℤ) (row kept next : List ℤ) (b d b' d' bound end : ℕ) →
    HaveRoom u w row kept b d b' d' bound end →
    length kept ≡ length row → next ≡ differences (scaled u row) (scaled w kept) →
    IsExtent bound end next
extent_behind u w row kept next b d b' d' bound end h len is = record {
  small = λ low k. subst (λ (x : ℤ). unsigned_abs x ≤ bound) (sym (entry k)) (below k);
  zero_from = λ k from. entry k ∙ ap₂ (λ x y. u *ℤ x -ℤ w *ℤ y)
      (h.row_extent.zero_from k (let more = h.room.row_inside in omega arith))
      (h.kept_extent.zero_from k (let more = h.room.kept_inside in omega arith)) ∙ zeros u w;
  within = by_end h.room.end;
}
  where
    first : length (scaled u row) ≡ length row
    first = length-map row (λ x. u *ℤ x)

    second : length (scaled w kept) ≡ length row
    second = length-map kept (λ x. w *ℤ x) ∙ len

    entry : (k : ℕ) → at_column next k ≡ u *ℤ at_column row k -ℤ w *ℤ at_column kept k
    entry k =
        ap (λ xs. at_column xs k) is
        ∙ at_differences (scaled u row) (scaled w kept) k (first ∙ sym second)
        ∙ ap₂ (λ a b. a -ℤ b) (at_scaled u row k) (at_scaled w kept k)

    columns : length next ≡ length row
    columns = ap length is ∙ length-differences (scaled u row) (scaled w kept) (first ∙ sym second)
        ∙ first

    zeros : (u w : ℤ) → u *ℤ pos 0 -ℤ w *ℤ pos 0 ≡ pos 0
    zeros u w = omega (arith, ints)

    below : (k : ℕ) → unsigned_abs (u *ℤ at_column row k -ℤ w *ℤ at_column kept k) ≤ bound
    below k =
        let less = abs_sub_z (u *ℤ at_column row k) (w *ℤ at_column kept k) in
        let size = unsigned_abs-mul u (at_column row k) in
        let size' = unsigned_abs-mul w (at_column kept k) in
        let more : unsigned_abs u * unsigned_abs (at_column row k) ≤ unsigned_abs u * b =
        mul-le-mul_left (unsigned_abs u) (h.row_extent.small h.row_bounded k) in
        let more' : unsigned_abs w * unsigned_abs (at_column kept k) ≤ unsigned_abs w * b' =
        mul-le-mul_left (unsigned_abs w) (h.kept_extent.small h.kept_bounded k) in
        let is = h.room.bound in
        omega arith

    by_end : (end ≡ d) ⊎ (end ≡ d') → end ≤ length next
    by_end (inl e) = let inside = h.row_extent.within in omega (arith, columns)
    by_end (inr e) = let inside = h.kept_extent.within in omega (arith, columns, len)

-- the factors, as the code reads the entries
pub factors_read : (e x u w : ℤ) → FitsSigned w128 e → FitsSigned w64 x → unsigned_abs e < 2 ^ 63 →
    AreLazyFactors (to_z w64 (of_z w64 (to_z w128 (of_z w128 e)))) (to_z w64 (of_z w64 x)) u w →
    AreLazyFactors e x u w
factors_read e x u w e_fits x_fits small h =
    subst₂ (λ (p y : ℤ). AreLazyFactors p y u w)
    (ap (λ z. to_z w64 (of_z w64 z)) (to_z-of_z w128 e e_fits) ∙ read_small e small)
    (to_z-of_z w64 x x_fits) h

-- the quotient of a number without a rest
pub exact_factors : (p x : ℤ) → FitsSigned w64 p → FitsSigned w64 x → pos 0 <ℤ p →
    of_z w64 (int_rem (to_z w64 (of_z w64 x)) (to_z w64 (of_z w64 p))) ≡ 0 →
    AreLazyFactors p x (pos 1)
    (to_z w64 (of_z w64 (int_div (to_z w64 (of_z w64 x)) (to_z w64 (of_z w64 p)))))
exact_factors p x p_fits x_fits positive none =
    let size : pos (unsigned_abs p) ≡ p = pos_abs_z p (omega (arith, ints)) in
    let rest : int_rem x p ≡ pos 0 =
    sym (rem_is w64 x p x_fits p_fits) ∙ ap (to_z w64) none in
    let quotient : to_z w64 (of_z w64 (int_div (to_z w64 (of_z w64 x)) (to_z w64 (of_z w64 p))))
    ≡ int_div x p =
    ap (λ z. to_z w64 (of_z w64 z)) (ap₂ int_div (to_z-of_z w64 x x_fits) (to_z-of_z w64 p p_fits))
    ∙ to_z-of_z w64 (int_div x p) (quot_fits w64 x p x_fits positive) in
    let whole : int_div x p *ℤ p ≡ x = plus_none (int_div x p *ℤ p) (int_rem x p) rest
    ∙ quot-rem x p in record {
      divisor = unsigned_abs p;
      some = abs_positive_z p positive;
      row = one_mul_z (pos (unsigned_abs p)) ∙ size;
      kept = ap₂ (λ a b. a *ℤ b) quotient size ∙ whole;
    }
  where
    plus_none : (a r : ℤ) → r ≡ pos 0 → a ≡ a +ℤ r
    plus_none a r e = omega (arith, ints)

-- ---- a row that is divided before the step

pub divided_some_at : (row : List ℤ) (c : ℕ) → at_column row c ≢ pos 0 →
    at_column (divided row) c ≢ pos 0
divided_some_at row c some e =
    let (g, above, is) = at_divided row c in
    some (sym is ∙ ap (λ z. pos g *ℤ z) e ∙ times_zero g)
  where
    times_zero : (g : ℕ) → pos g *ℤ pos 0 ≡ pos 0
    times_zero g = omega (arith, ints)

-- a multiple of a divided row is that row when it is divided
pub multiple_divided : (other row next : List ℤ) → IsMultipleRow other row → other ≡ divided other →
    next ≡ divided row → IsMultipleRow other next
multiple_divided other row next multiple is next_is = record {
  factor = 1;
  some = omega arith;
  is = next_is ∙ ap divided multiple.is ∙ divided_multiple multiple.factor other multiple.some
      ∙ sym is ∙ sym (scaled_one other);
}

pub divided_if : (is_stepped : Bool) (other row : List ℤ) → is_stepped ≡ true →
    IsExactly is_stepped other row → other ≡ divided other
divided_if true other row e h = h
divided_if false other row e h = absurd cc

pub exact_divided : (other row exact : List ℤ) → IsMultipleRow other row → other ≡ divided other →
    exact ≡ divided row → exact ≡ other
exact_divided other row exact multiple is exact_is =
    exact_is ∙ ap divided multiple.is ∙ divided_multiple multiple.factor other multiple.some
    ∙ sym is
