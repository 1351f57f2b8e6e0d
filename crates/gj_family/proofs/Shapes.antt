-- The closed forms, from whole numbers over one denominator.
use Rattle.std.proofs.Common.{◌≡◌, ◌≢◌, ℕ, ◌-◌, ◌*◌, ◌%◌, ◌<◌, ◌≤◌, ◌^◌, ℤ, pos, ◌*ℤ◌, [], ◌∷◌, List, Bool, true, false, length, unsigned_abs, eqb, if◌then◌else◌, refl, sym, ap, subst, subst₂, ◌∙◌, below_more, arith}
use Rattle.std.proofs.Math.Nat.{mul-pos, mod_self}
use Rattle.std.proofs.lemmas.Bool.{eq-eqb, ne_eqb}
use Rattle.std.proofs.lemmas.Int.{ints}
use Rattle.gj_lemmas.proofs.Integers.{mul_cancel_right_z}
use Rattle.gj_lemmas.proofs.Ring.{by_ring, ring}
use Rattle.gj_shape.specs.FunctionData.{FunctionData, IsContinuous, at}
use Rattle.gj_shape.specs.Gmic.{gmic_table, gmic_scale}
use Rattle.gj_shape.proofs.AtLemmas.{at_wrapped}
use Rattle.gj_family.specs.Families.{IsGmic, IsHalf, IsTwoSlope}
use Rattle.gj_shape.specs.Entries.{HasEntries}
use Rattle.gj_family.specs.Numerators.{IsOver, doubled_value}
use Rattle.gj_family.specs.Signs.{rises, falls, sum_of_steps, height}
use Rattle.gj_shape.proofs.ListEntries.{same_entries, entries_everywhere}
use Rattle.gj_family.proofs.Heights.{height_start, height_end}
use Rattle.gj_family.proofs.Tables.{table_remainder, table_rising, table_falling, table_high}

-- ---- continuous functions

-- if the limits are the values the function is continuous
continuous_over : (k d : ℕ) (values : List ℤ) (f : FunctionData) → 0 < d →
    IsOver k d values values f → IsContinuous f
continuous_over k d values f some h =
    let bounds = h.within in
    let some_z : unsigned_abs (pos d) ≢ 0 = omega arith in (
      same_entries f.left f.value (bounds.left_length ∙ sym bounds.value_length)
          (λ i. mul_cancel_right_z (at f.left i) (at f.value i) (pos d)
          (h.left_is i ∙ sym (h.value_is i)) some_z),
      same_entries f.right f.value (bounds.right_length ∙ sym bounds.value_length)
          (λ i. mul_cancel_right_z (at f.right i) (at f.value i) (pos d)
          (h.right_is i ∙ sym (h.value_is i)) some_z),
    )

-- ---- the mixed-integer cut

out_rising : (x : ℤ) (k c : ℕ) → x *ℤ pos k *ℤ pos c ≡ x *ℤ pos (k * c)
out_rising x k c = by_ring (x ∷ pos k ∷ pos c ∷ []) (search ring depth 20) refl

in_rising : (i c s : ℕ) → pos (c * i) *ℤ pos s ≡ pos i *ℤ pos s *ℤ pos c
in_rising i c s = by_ring (pos i ∷ pos c ∷ pos s ∷ []) (search ring depth 20) refl

out_falling : (x : ℤ) (k c : ℕ) → x *ℤ pos c *ℤ pos k ≡ x *ℤ pos (k * c)
out_falling x k c = by_ring (x ∷ pos k ∷ pos c ∷ []) (search ring depth 20) refl

pub gmic_small : (q k i : ℕ) → k < q → i < q →
    unsigned_abs (pos (gmic_table q k i)) ≤ 2 ^ 20 * gmic_scale q k
gmic_small q k i place below = let high = table_high q k i place below in omega arith

pub gmic_over : (q k : ℕ) (values : List ℤ) (f : FunctionData) → 0 < k → k < q →
    HasEntries (λ i. pos (gmic_table q k i)) q values → IsOver k (gmic_scale q k) values values f →
    IsGmic q k f
gmic_over q k values f some place entries h =
    let c_some : 0 < q - k = omega arith in
    let d_some : 0 < k * (q - k) = mul-pos some c_some in
    let k_z : unsigned_abs (pos k) ≢ 0 = omega arith in
    let c_z : unsigned_abs (pos (q - k)) ≢ 0 = omega arith in
    let entry = entries_everywhere (λ i. pos (gmic_table q k i)) q values entries (omega arith)
    (λ i. ap pos (table_remainder q k i)) in
    let value : (i : ℕ) (n : ℕ) → gmic_table q k i ≡ n →
    at f.value i *ℤ pos (k * (q - k)) ≡ pos n *ℤ pos f.scale =
    λ i n e. h.value_is i ∙ ap (λ z. z *ℤ pos f.scale) (entry i ∙ ap pos e) in
    record {
      order = h.order ∙ entries.length_is;
      place = h.place;
      continuous = continuous_over k (k * (q - k)) values f d_some h;
      rises = λ i low. mul_cancel_right_z (at f.value i *ℤ pos k) (pos i *ℤ pos f.scale)
          (pos (q - k))
          (out_rising (at f.value i) k (q - k) ∙ value i _ (table_rising q k i (omega arith) low)
          ∙ in_rising i (q - k) f.scale) c_z;
      falls = λ i high below. mul_cancel_right_z (at f.value i *ℤ pos (q - k))
          (pos (q - i) *ℤ pos f.scale) (pos k)
          (out_falling (at f.value i) k (q - k) ∙ value i _ (table_falling q k i place high below)
          ∙ in_rising (q - i) k f.scale) k_z;
    }

-- ---- the function that is 1/2 almost everywhere

pub doubled_at_zero : (k i : ℕ) → i ≡ 0 → doubled_value k i ≡ pos 0
doubled_at_zero k i e = ap (λ b. pos (if b then 0 else (if eqb i k then 2 else 1))) (eq-eqb i 0 e)

doubled_after_zero : (k i : ℕ) → i ≢ 0 → doubled_value k i ≡ pos (if eqb i k then 2 else 1)
doubled_after_zero k i e = ap (λ b. pos (if b then 0 else (if eqb i k then 2 else 1)))
    (ne_eqb i 0 e)

pub doubled_at_place : (k i : ℕ) → i ≢ 0 → i ≡ k → doubled_value k i ≡ pos 2
doubled_at_place k i some e = doubled_after_zero k i some
    ∙ ap (λ b. pos (if b then 2 else 1)) (eq-eqb i k e)

pub doubled_elsewhere : (k i : ℕ) → i ≢ 0 → i ≢ k → doubled_value k i ≡ pos 1
doubled_elsewhere k i some e = doubled_after_zero k i some
    ∙ ap (λ b. pos (if b then 2 else 1)) (ne_eqb i k e)

pub half_over : (q k : ℕ) (limits values : List ℤ) (f : FunctionData) → 0 < k → k < q →
    HasEntries (λ _. pos 1) q limits →
    HasEntries (doubled_value k) q values → IsOver k 2 limits values f → IsHalf q k f
half_over q k limits values f some place ones entries h =
    let one = entries_everywhere (λ _. pos 1) q limits ones (omega arith) (λ i. refl) in
    let value : (i : ℕ) (z : ℤ) → i < q → doubled_value k i ≡ z →
    at f.value i *ℤ pos 2 ≡ z *ℤ pos f.scale =
    λ i z below e. h.value_is i ∙ ap (λ x. x *ℤ pos f.scale) (entries.entry_is i below ∙ e) in
    record {
      order = h.order ∙ entries.length_is;
      place = h.place;
      at_zero = let e = value 0 (pos 0) (omega arith) (doubled_at_zero k 0 refl) in
          omega (arith, ints);
      at_place = let e = value k (pos 2) place (doubled_at_place k k (omega arith) refl) in
          omega (arith, ints);
      elsewhere = λ i low below apart.
          let e = value i (pos 1) below (doubled_elsewhere k i (omega arith) apart) in
          omega (arith, ints);
      left_is = λ i. let e = h.left_is i ∙ ap (λ x. x *ℤ pos f.scale) (one i) in
          omega (arith, ints);
      right_is = λ i. let e = h.right_is i ∙ ap (λ x. x *ℤ pos f.scale) (one i) in
          omega (arith, ints);
    }

pub doubled_small : (k i : ℕ) → unsigned_abs (doubled_value k i) ≤ 2 ^ 20 * 2
doubled_small k i = small (eqb i 0) (eqb i k)
  where
    small : (b c : Bool) → unsigned_abs (pos (if b then 0 else (if c then 2 else 1))) ≤ 2 ^ 20 * 2
    small true c = omega arith
    small false true = omega arith
    small false false = omega arith

-- ---- two slopes

-- the sums of steps of the code are the heights
pub heights_are : (up down n : ℕ) (signs : List Bool) (made read : List ℤ) → up ≡ falls signs →
    down ≡ rises signs → read ≡ made →
    HasEntries (sum_of_steps up down signs) n made → HasEntries (height signs) n read
heights_are up down n signs made read u d e h =
    subst (HasEntries (height signs) n) (sym e)
    (subst₂ (λ x y. HasEntries (sum_of_steps x y signs) n made) u d h)

pub two_slope_over : (k d : ℕ) (signs : List Bool) (values : List ℤ) (f : FunctionData) → 0 < d →
    pos d ≡ height signs k →
    HasEntries (height signs) (length signs) values → IsOver k d values values f →
    IsTwoSlope k signs f
two_slope_over k d signs values f some d_is entries h =
    let n = length signs in
    let whole = h.order ∙ entries.length_is in
    let n_some : 0 < n = let low = h.within.order_low in omega arith in
    let P : ℕ → Type 0 = λ i. at values i ≡ height signs i in
    let here : P n =
    sym (at_wrapped values n (n % n) n entries.length_is refl) ∙ ap (at values) (mod_self n)
    ∙ entries.entry_is 0 n_some
    ∙ height_start signs ∙ sym (height_end signs n (omega arith)) in
    record {
      order = whole;
      place = h.place;
      continuous = continuous_over k d values f some h;
      value_is = λ i high.
          subst (λ z. at f.value i *ℤ z ≡ height signs i *ℤ pos f.scale) d_is
          (h.value_is i ∙ ap (λ z. z *ℤ pos f.scale)
          (below_more P n entries.entry_is here i (omega arith)));
    }
