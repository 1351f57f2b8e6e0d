-- The least common denominator of the numbers of a row, with one more.
use Rattle.std.proofs.Common.{ℕ, ◌<◌, ◌≤◌, ◌^◌, List, [], ◌∷◌, unsigned_abs, arith}
use Rattle.std.proofs.Math.Nat.{one-dvd}
use Rattle.std.proofs.lemmas.List.Elements.{All-nil, All-head, All-push}
use Rattle.std.proofs.lemmas.Nat.Gcd.{dvd_trans, le_of_dvd}
use Rattle.gj_frac.specs.declared.Frac.{Frac}
use Rattle.gj_frac.specs.Fraction.{denominator}
use Rattle.gj_lemmas.specs.Divisors.{IsLcm}
use Rattle.gj_lemmas.proofs.Divisors.{lcm_positive}
use Rattle.gj_lemmas.proofs.Lists.{All-front, All-back}
use Rattle.gj_shape.proofs.LeastDenominator.{Divides, denominator_some}
use Rattle.gj_proof.specs.Rules.{MeetsLimit}
use Rattle.gj_shape.specs.Limits.{IsRowNumber}
use Rattle.gj_check.specs.RowLimits.{IsRowDenominator, ExtendsRowDenominator, IsBeyond}

-- no numbers
pub none_yet : IsRowDenominator [] 1
none_yet = record {
  some = omega arith;
  high = omega arith;
  least = record { common = All-nil (Divides 1); least = λ d h. one-dvd d };
}

pub extends : (c m : ℕ) (x : Frac) → IsRowNumber x →
    IsLcm c (unsigned_abs (denominator x)) m → m < 2 ^ 31 → ExtendsRowDenominator c x m
extends c m x within lcm high xs h =
    let some = lcm_positive c (unsigned_abs (denominator x)) m lcm h.some (denominator_some x) in
    let common = All-push (Divides m) xs x (λ k y l. dvd_trans _ (h.least.common k y l) lcm.0)
    lcm.1 in (
      record { small = within.small; common = (m, omega arith, high, common) },
      record {
        some = some;
        high = high;
        least = record {
          common = common;
          least = λ d all. lcm.2 d (h.least.least d (All-front (Divides d) xs (x ∷ []) all))
              (All-head (Divides d) x [] (All-back (Divides d) xs (x ∷ []) all));
        };
      },
    )

-- the denominator of a number within the limits divides a common one
last_divides : (xs : List Frac) (x : Frac) → (h : MeetsLimit xs x) → Divides h.common.0 x
last_divides xs x h = let d = h.common.0 in
    All-head (Divides d) x [] (All-back (Divides d) xs (x ∷ []) h.common.3)

pub limit_small : (xs : List Frac) (x : Frac) → MeetsLimit xs x → IsRowNumber x
limit_small xs x h =
    let most = le_of_dvd h.common.1 (last_divides xs x h) in
    let high = h.common.2 in
    record { small = h.small; fine = omega arith }

pub beyond_multiple : (c m : ℕ) (x : Frac) → IsLcm c (unsigned_abs (denominator x)) m → 2 ^ 31 ≤ m →
    IsBeyond c x
beyond_multiple c m x lcm high xs h meets =
    let d = meets.common.0 in
    let divides = lcm.2 d (h.least.least d (All-front (Divides d) xs (x ∷ []) meets.common.3))
    (last_divides xs x meets) in
    let most = le_of_dvd meets.common.1 divides in
    let below = meets.common.2 in
    absurd (omega arith)
