-- Numbers are laid into lanes, one after the other.
use Rattle.std.proofs.Common.{◌≡◌, ◌≢◌, inl, inr, ℕ, ◌+◌, ◌-◌, ◌*◌, ◌<◌, ℤ, pos, ◌≤ℤ◌, List, length, get_or, set, ap, subst, refl, sym, ◌∙◌, get_or-set_other, get_or-set_same, below_more, w64, to_z, of_z, arith}
use Rattle.std.proofs.lemmas.Int.{ints, to_z-of_z}
use Rattle.std.proofs.Math.ListN.{length-set}
use Rattle.std.proofs.lemmas.Bool.{cases_lt}
use Rattle.gj_shape.specs.FunctionData.{at}
use Rattle.gj_shape.proofs.AtLemmas.{at_below, at_plus_length}
use Rattle.gj_loops.specs.Lanes.{IsInRange, AreInRange, IsNarrow, ArePeriods}

-- a number of the list is in the range, as the code has it
pub read_number : {least : ℤ} {bound : ℕ} → IsNarrow least bound → (numbers : List ℤ) (i : ℕ) →
    i < length numbers →
    AreInRange least bound numbers →
    IsInRange least bound (to_z w64 (of_z w64 (get_or numbers i (pos 0))))
    × (to_z w64 (of_z w64 (get_or numbers i (pos 0))) ≡ at numbers i)
read_number {least} {bound} narrow numbers i below range =
    of_at (get_or numbers i (pos 0)) (at numbers i) (sym (at_below numbers i below)) (range i)
  where
    of_at : (x y : ℤ) → x ≡ y → IsInRange least bound y →
        IsInRange least bound (to_z w64 (of_z w64 x)) × (to_z w64 (of_z w64 x) ≡ y)
    of_at x y e h =
        let low = h.0 in
        let high = h.1 in
        let least_low = narrow.0 in
        let bound_low = narrow.1 in
        let read = to_z-of_z w64 x (omega (arith, ints)) in
        rw read ((omega (arith, ints), omega (arith, ints)), e)

-- numbers from 0 to a scale are in a range that begins at 0, if the scale is
pub up_to_scale : {least : ℤ} (bound scale : ℕ) (numbers known : List ℤ) → numbers ≡ known →
    least ≡ pos 0 → scale < bound →
    ((i : ℕ) → pos 0 ≤ℤ at known i) → ((i : ℕ) → at known i ≤ℤ pos scale) →
    AreInRange least bound numbers
up_to_scale {least} bound scale numbers known is zero fits low high =
    subst (AreInRange least bound) (sym is)
    (λ i. let above = low i in let below = high i in (omega (arith, ints), omega (arith, ints)))

-- the first n numbers lie in the lanes twice: from lane 0 on, and behind the last number
pub record AreLaid {L : Type 0} (number : L → ℤ) (lanes : List L) (numbers : List ℤ) (n : ℕ) :
    Type 0 where
  pub once : (k : ℕ) (e : L) → k < n → number (get_or lanes k e) ≡ at numbers k
  pub again : (k : ℕ) (e : L) → k < n → number (get_or lanes (length numbers + k) e) ≡ at numbers k

-- what holds of the lanes at some indices holds after one more is written
each_still : {L : Type 0} (P : ℕ → L → Type 0) (lanes : List L) (place : ℕ → ℕ) (n m : ℕ) (x : L) →
    ((k : ℕ) → k < n → place k ≢ m) → ((k : ℕ) (e : L) → k < n → P k (get_or lanes (place k) e)) →
    (k : ℕ) (e : L) → k < n → P k (get_or (set lanes m x) (place k) e)
each_still P lanes place n m x apart h k e below = let other = apart k below in
    rw get_or-set_other (h k e below)

each_with : {L : Type 0} (P : ℕ → L → Type 0) (lanes : List L) (place : ℕ → ℕ) (n m : ℕ) (x : L) →
    place n ≡ m → m < length lanes →
    ((k : ℕ) → k < n → place k ≢ m) → ((k : ℕ) (e : L) → k < n → P k (get_or lanes (place k) e)) →
    P n x →
    (k : ℕ) (e : L) → k < n + 1 → P k (get_or (set lanes m x) (place k) e)
each_with P lanes place n m x last within apart h p k e =
    below_more (λ k. P k (get_or (set lanes m x) (place k) e)) n
    (λ k below. each_still P lanes place n m x apart h k e below)
    (subst (λ (j : ℕ). P n (get_or (set lanes m x) j e)) (sym last) (rw get_or-set_same p)) k

pub one_laid : {L : Type 0} (number : L → ℤ) (lanes : List L) (numbers : List ℤ) (n : ℕ) (x : L) →
    AreLaid number lanes numbers n →
    n < length numbers → 2 * length numbers < length lanes → number x ≡ at numbers n →
    AreLaid number (set (set lanes n x) (length numbers + n) x) numbers (n + 1)
one_laid {L} number lanes numbers n x h below room is =
    let one = set lanes n x in
    let one_count = length-set lanes n x in
    let P = λ (k : ℕ) (z : L). number z ≡ at numbers k in
    record {
      once = each_still P one (λ k. k) (n + 1) (length numbers + n) x (λ k early. omega arith)
          (each_with P lanes (λ k. k) n n x refl (omega arith) (λ k early. omega arith) h.once is);
      again = each_with P one (λ k. length numbers + k) n (length numbers + n) x refl (omega arith)
          (λ k early. omega arith)
          (each_still P lanes (λ k. length numbers + k) n n x (λ k early. omega arith) h.again) is;
    }

-- all of them, and the first once more
pub all_laid : {L : Type 0} (number : L → ℤ) (least : ℤ) (bound : ℕ) (lanes : List L)
    (numbers : List ℤ) (x : L) →
    AreLaid number lanes numbers (length numbers) → 0 < length numbers →
    2 * length numbers < length lanes →
    AreInRange least bound numbers → number x ≡ at numbers 0 →
    ArePeriods number least bound (set lanes (2 * length numbers) x) numbers
all_laid {L} number least bound lanes numbers x h some room range is =
    let q = length numbers in
    let count = length-set lanes (2 * length numbers) x in
    record {
      room = omega arith;
      same = λ i e most. elim (cases_lt i (2 * length numbers)) [
        | inl below ↦
            let other : i ≢ 2 * length numbers = omega arith in
            rw get_or-set_other (twice i e below)
        | inr last ↦
            let end : 2 * length numbers ≡ i = omega arith in
            let twice_on : 0 + length numbers + length numbers ≡ i = omega arith in
            subst (λ (k : ℕ). number (get_or (set lanes (2 * length numbers) x) k e) ≡ at numbers k)
            end
            (rw get_or-set_same (is ∙ sym (at_plus_length numbers 0)
            ∙ sym (at_plus_length numbers (0 + q))
            ∙ ap (at numbers) (twice_on ∙ sym end)))
      ];
      range = range;
    }
  where
    twice : (i : ℕ) (e : L) → i < 2 * length numbers → number (get_or lanes i e) ≡ at numbers i
    twice i e below = elim (cases_lt i (length numbers)) [
      | inl first ↦ h.once i e first
      | inr second ↦
          let place : length numbers + (i - length numbers) ≡ i = omega arith in
          let shifted : i - length numbers + length numbers ≡ i = omega arith in
          subst (λ (k : ℕ). number (get_or lanes k e) ≡ at numbers i) place
          (h.again (i - length numbers) e (omega arith)
          ∙ sym (at_plus_length numbers (i - length numbers)) ∙ ap (at numbers) shifted)
    ]
