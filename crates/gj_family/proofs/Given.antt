-- What three lists of fractions over one denominator give.
use Rattle.std.proofs.Common.{◌≡◌, ℕ, ◌%◌, ◌<◌, ◌^◌, ℤ, pos, ◌*ℤ◌, List, length, get_or, All, unsigned_abs, refl, sym, ap, ◌∙◌, arith}
use Rattle.gj_frac.specs.declared.Frac.{Frac}
use Rattle.gj_frac.specs.Fraction.{IsRatio, numerator, denominator}
use Rattle.gj_lemmas.proofs.Divisors.{whole_multiple}
use Rattle.gj_lemmas.proofs.Integers.{mul_comm_z, pos_abs_z}
use Rattle.gj_lemmas.proofs.FirstThatFails.{first_failing_denies}
use Rattle.std.proofs.lemmas.Int.{ints}
use Rattle.gj_shape.specs.FunctionData.{FunctionData, IsSmallOver, at}
use Rattle.gj_shape.specs.Given.{in_order, IsSmall, IsCommonDenominator, AreWithinBounds, IsOrder, IsPlace, HaveLength, HasFault, IsGivenBy, AreOver, IsMemory}
use Rattle.gj_shape.specs.declared.faults.ShapeFault.{ShapeFault}
use Rattle.gj_shape.specs.declared.faults.ShapeFault.TheVariants as fault
use Rattle.gj_shape.proofs.AtLemmas.{at_wrapped, all_at}
use Rattle.gj_shape.proofs.GivenFractions.{all_small, list_is_at}
use Rattle.gj_shape.proofs.InOrder.{all_in_order, all_from_in_order}
use Rattle.gj_shape.proofs.LeastDenominator.{Divides, within_bounds_closed}
use Rattle.gj_family.specs.Numerators.{IsOver}

-- ---- fractions over one denominator are within bounds

-- the denominator of n/d in lowest terms divides d
denominator_divides : (x : Frac) (n : ℤ) (d : ℕ) → IsRatio x n (pos d) → Divides d x
denominator_divides x n d is =
    let positive = x.lowest.positive in
    let whole : pos (unsigned_abs (denominator x)) ≡ denominator x =
    pos_abs_z (denominator x) (omega (arith, ints)) in
    whole_multiple (numerator x) n (unsigned_abs (denominator x)) d x.lowest.coprime
    (mul_comm_z (pos d) (numerator x) ∙ is ∙ ap (λ z. n *ℤ z) (sym whole))

all_divide : (t : ℕ → ℤ) (d : ℕ) (xs : List Frac) → AreOver t d xs → IsCommonDenominator xs d
all_divide t d xs are k x h = denominator_divides (get_or xs k x) (t k) d (are k x h)

-- the entries of a list, which are small
list_small : (ns : List ℤ) (d : ℕ) (xs : List Frac) → 0 < length ns → 0 < d →
    All (IsSmallOver d) ns →
    AreOver (at ns) d xs → All IsSmall xs
list_small ns d xs some low small are =
    all_small (at ns) d xs low (λ i. all_at (IsSmallOver d) ns i some small) are

-- the fractions over d of three lists of numbers
pub record AreFractions (d : ℕ) (limits values : List ℤ) (ls vs : List Frac) : Type 0 where
  pub some : 0 < length values
  pub lengths : length limits ≡ length values
  pub low : 0 < d
  pub high : d < 2 ^ 31
  pub limits_small : All (IsSmallOver d) limits
  pub values_small : All (IsSmallOver d) values
  pub limits_length : length ls ≡ length limits
  pub values_length : length vs ≡ length values
  pub limits_are : AreOver (at limits) d ls
  pub values_are : AreOver (at values) d vs

within : (d : ℕ) (limits values : List ℤ) (ls vs : List Frac) → AreFractions d limits values ls vs →
    AreWithinBounds (in_order ls vs ls)
within d limits values ls vs h =
    let e : length vs ≡ length ls = h.values_length ∙ sym h.lengths ∙ sym h.limits_length in
    let sides = list_small limits d ls (omega (arith, h.lengths, h.some)) h.low h.limits_small
    h.limits_are in
    let middle = list_small values d vs h.some h.low h.values_small h.values_are in
    let in_limits = all_divide (at limits) d ls h.limits_are in
    let in_values = all_divide (at values) d vs h.values_are in
    record {
      small = all_in_order IsSmall ls vs ls e refl sides middle sides;
      common = (
        d,
        h.low,
        h.high,
        all_in_order (Divides d) ls vs ls e refl in_limits in_values
            in_limits,
      );
    }

-- lists within bounds have no fault but want of memory
no_fault_within : (q k : ℕ) (l v r : List Frac) (e : ShapeFault) → IsOrder q → IsPlace q k →
    HaveLength l v r q →
    AreWithinBounds (in_order l v r) → HasFault q k l v r e → IsMemory e
no_fault_within q k l v r (fault.Memory e) order place lengths within h = tt
no_fault_within q k l v r fault.Order order place lengths within h = absurd (h order)
no_fault_within q k l v r fault.Place order place lengths within h = absurd (h.1 place)
no_fault_within q k l v r fault.Count order place lengths within h = absurd (h.2 lengths)
no_fault_within q k l v r (fault.TooLarge i) order place lengths within h =
    let (before, x, first, large) = h.3 in
    absurd (first_failing_denies AreWithinBounds within_bounds_closed _ before x first.first within)
no_fault_within q k l v r (fault.TooFine i) order place lengths within h =
    let (before, x, first, small) = h.3 in
    absurd (first_failing_denies AreWithinBounds within_bounds_closed _ before x first.first within)

pub only_memory : (k d : ℕ) (limits values : List ℤ) (ls vs : List Frac) (e : ShapeFault) →
    IsOrder (length values) →
    IsPlace (length values) k → AreFractions d limits values ls vs →
    HasFault (length values) k ls vs ls e → IsMemory e
only_memory k d limits values ls vs e order place h fault =
    no_fault_within (length values) k ls vs ls e order place
    (h.limits_length ∙ h.lengths, h.values_length, h.limits_length ∙ h.lengths)
    (within d limits values ls vs h) fault

-- ---- the function that they give

-- the entries of a list go by the remainder of the index
at_remainder_of : (ns : List ℤ) (n i : ℕ) → length ns ≡ n → at ns (i % n) ≡ at ns i
at_remainder_of ns n i e = at_wrapped ns i (i % n) n e refl

pub over_from_given : (k d : ℕ) (limits values : List ℤ) (ls vs : List Frac) (f : FunctionData) →
    AreFractions d limits values ls vs → IsGivenBy (length values) k ls vs ls f →
    IsOver k d limits values f
over_from_given k d limits values ls vs f h given =
    let n = length values in
    let limits_n : length ls ≡ n = h.limits_length ∙ h.lengths in
    let e : length vs ≡ length ls = h.values_length ∙ sym limits_n in
    let common = all_from_in_order (Divides f.scale) ls vs ls e refl given.common in
    record {
      order = given.order;
      place = given.place;
      left_is = list_is_at f.scale f.left ls (at limits) d n given.left_is limits_n h.some common.0
          h.limits_are
          (λ i. at_remainder_of limits n i h.lengths);
      value_is = list_is_at f.scale f.value vs (at values) d n given.value_is h.values_length h.some
          common.1 h.values_are
          (λ i. at_remainder_of values n i refl);
      right_is = list_is_at f.scale f.right ls (at limits) d n given.right_is limits_n h.some
          common.2 h.limits_are
          (λ i. at_remainder_of limits n i h.lengths);
      within = given.within;
    }
