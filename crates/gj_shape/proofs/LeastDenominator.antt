-- The least common denominator with more fractions, and the first fraction that fails a test.
use Rattle.std.proofs.Common.{◌≡◌, ℕ, zero, suc, ◌+◌, ◌*◌, ◌/◌, ◌<◌, List, [], ◌∷◌, ◌++◌, length, drop, unsigned_abs, refl, sym, ap, subst, ◌∙◌, append_assoc, arith}
use Rattle.std.proofs.Math.Nat.{mul-pos, dvd-mul_left, dvd-mul_right, zero-mul, one-dvd}
use Rattle.std.proofs.lemmas.Nat.Gcd.{dvd_trans}
use Rattle.std.proofs.lemmas.List.Elements.{All-nil, All-cons, All-head, All-push}
use Rattle.std.proofs.lemmas.List.{append-nil, length-append}
use Rattle.std.specs.Int.{◌∣◌}
use Rattle.gj_frac.specs.declared.Frac.{Frac}
use Rattle.gj_frac.specs.Fraction.{denominator, IsAtMost}
use Rattle.gj_lemmas.specs.Divisors.{IsLcm}
use Rattle.gj_lemmas.proofs.Integers.{abs_positive_z}
use Rattle.gj_lemmas.proofs.Divisors.{cofactor, lcm_positive}
use Rattle.gj_lemmas.proofs.FirstThatFails.{IsPrefixClosed}
use Rattle.gj_lemmas.proofs.Lists.{All-front, All-back}
use Rattle.gj_shape.specs.Limits.{greatest_value}
use Rattle.gj_shape.specs.Given.{in_order, IsSmall, IsCommonDenominator, IsLeastCommonDenominator, HasCommonDenominator, AreWithin, AreWithinBounds, IsFirstFractionAtFault}
use Rattle.gj_shape.specs.Denominators.{Extends, ExtendsBy, AreWithinOver, AreWithinBoundsOver, HasNoCommonWith, IsFractionRefused, IsFirstRefused, IsFractionRefusal, IsRefusedBehind, IsFaultIn, fault_at}
use Rattle.gj_shape.proofs.InOrder.{before, length-before, place_of_index, StandAt}
use Rattle.gj_shape.specs.declared.faults.FractionFault.{FractionFault}
use Rattle.gj_shape.specs.declared.faults.FractionFault.TheVariants.{Large, Fine}

-- the denominator of a fraction is not 0
pub denominator_some : (x : Frac) → 0 < unsigned_abs (denominator x)
denominator_some x = abs_positive_z (denominator x) x.lowest.positive

-- no fraction
pub least_of_none : {limit : ℕ} → AreWithinOver limit [] 1
least_of_none {limit = limit} = record {
  small = All-nil (IsAtMost limit);
  low = omega arith;
  high = omega arith;
  least = record {
    common = All-nil (λ x. unsigned_abs (denominator x) ∣ 1);
    least =
        λ c h. one-dvd c;
  };
}

-- the denominator divides
abbrev pub Divides : ℕ → Frac → Type 0
Divides m x = unsigned_abs (denominator x) ∣ m

-- ---- the least common denominator

-- some number above 0 is a common denominator
common_some : (xs : List Frac) → (d : ℕ) × (0 < d) × IsCommonDenominator xs d
common_some [] = (1, omega arith, All-nil (Divides 1))
common_some (x ∷ xs) =
    let (d, some, common) = common_some xs in
    let e = unsigned_abs (denominator x) in (
      e * d,
      mul-pos (denominator_some x) some,
      All-cons (Divides (e * d)) x xs (dvd-mul_right e d)
          (λ k y l. dvd_trans _ (common k y l) (dvd-mul_left d e)),
    )

-- so the least is above 0
pub least_common_some : (xs : List Frac) (c : ℕ) → IsLeastCommonDenominator xs c → 0 < c
least_common_some xs zero h =
    let (d, some, common) = common_some xs in
    let multiple = cofactor 0 d (h.least d common) in
    let none : d ≡ 0 = multiple.1 ∙ zero-mul multiple.0 in
    absurd (omega arith)
least_common_some xs (suc c) h = omega arith

-- one more fraction
pub least_common_more : (xs : List Frac) (x : Frac) (c m : ℕ) → IsLeastCommonDenominator xs c →
    IsLcm c (unsigned_abs (denominator x)) m → IsLeastCommonDenominator (xs ++ x ∷ []) m
least_common_more xs x c m h lcm = record {
  common = All-push (Divides m) xs x (λ k d l. dvd_trans _ (h.common k d l) lcm.0) lcm.1;
  least = λ d all. lcm.2 d (h.least d (All-front (Divides d) xs (x ∷ []) all))
      (All-head (Divides d) x [] (All-back (Divides d) xs (x ∷ []) all));
}

-- ---- one more fraction within bounds

pub least_with_next : {limit : ℕ} (xs : List Frac) (x : Frac) (scale m : ℕ) →
    AreWithinOver limit xs scale →
    Extends limit scale x m → AreWithinOver limit (xs ++ x ∷ []) m
least_with_next {limit = limit} xs x scale m h next = record {
  small = All-push (IsAtMost limit) xs x h.small next.small;
  low = lcm_positive scale (unsigned_abs (denominator x)) m next.least h.low (denominator_some x);
  high = next.high;
  least = least_common_more xs x scale m h.least next.least;
}

-- three more fractions
pub least_with_three : (scale a b c : ℕ) (l v r : Frac) → Extends greatest_value scale l a →
    Extends greatest_value a v b → Extends greatest_value b r c →
    ExtendsBy scale (l ∷ v ∷ r ∷ []) c
least_with_three scale a b c l v r h k m xs least =
    let first = least_with_next xs l scale a least h in
    let second = least_with_next (xs ++ l ∷ []) v a b first k in
    subst (λ ys. AreWithinBoundsOver ys c)
    (append_assoc (xs ++ l ∷ []) (v ∷ []) (r ∷ []) ∙ append_assoc xs (l ∷ []) (v ∷ r ∷ []))
    (least_with_next (xs ++ l ∷ [] ++ v ∷ []) r b c second m)

pub extended_some : (scale : ℕ) (x : Frac) (m : ℕ) → Extends greatest_value scale x m → 0 < scale →
    0 < m
extended_some scale x m h some = lcm_positive scale (unsigned_abs (denominator x)) m h.least some
    (denominator_some x)

-- ---- fractions within bounds

pub within_of_least : {limit : ℕ} (xs : List Frac) (scale : ℕ) → AreWithinOver limit xs scale →
    AreWithin limit xs
within_of_least xs scale least =
    record { small = least.small; common = (scale, least.low, least.high, least.least.common) }

pub within_bounds_closed : IsPrefixClosed AreWithinBounds
within_bounds_closed xs ys h =
    let d = h.common in
    record {
      small = All-front IsSmall xs ys h.small;
      common = (d.0, d.1, d.2, All-front (Divides d.0) xs ys d.3);
    }

-- ---- a fraction that is refused

-- with it the fractions have no common denominator
pub no_common_with : {limit : ℕ} (xs : List Frac) (x : Frac) (scale : ℕ) →
    AreWithinOver limit xs scale → HasNoCommonWith scale x →
    HasCommonDenominator (xs ++ x ∷ []) → ⊥
no_common_with xs x scale h none d =
    none d.0 d.1 d.2 (h.least.least d.0 (All-front (Divides d.0) xs (x ∷ []) d.3))
    (All-head (Divides d.0) x [] (All-back (Divides d.0) xs (x ∷ []) d.3))

-- with it the fractions are not within bounds
leaves_bounds : (xs : List Frac) (x : Frac) (scale : ℕ) (e : FractionFault) →
    AreWithinBoundsOver xs scale →
    IsFractionRefused scale x e → AreWithinBounds (xs ++ x ∷ []) → ⊥
leaves_bounds xs x scale Large least refused within =
    refused (All-head IsSmall x [] (All-back IsSmall xs (x ∷ []) within.small))
leaves_bounds xs x scale Fine least refused within =
    no_common_with xs x scale least refused.1 within.common

-- it is the first of some fractions, behind those that have passed
refused_first : (xs ys passed after : List Frac) (x : Frac) (scale : ℕ) (e : FractionFault) →
    ys ≡ passed ++ x ∷ after →
    AreWithinBoundsOver (xs ++ passed) scale → IsFractionRefused scale x e →
    IsFirstRefused xs ys passed x
refused_first xs ys passed after x scale e place least refused = record {
  after = after;
  place = place;
  good = within_of_least (xs ++ passed) scale least;
  bad = λ within.
      leaves_bounds (xs ++ passed) x scale e least refused
      (subst AreWithinBounds (sym (append_assoc xs passed (x ∷ []))) within);
}

refused_at : (xs ys passed after : List Frac) (x : Frac) (scale : ℕ) (e : FractionFault) →
    ys ≡ passed ++ x ∷ after →
    AreWithinBoundsOver (xs ++ passed) scale → IsFractionRefused scale x e →
    IsFractionRefusal xs ys e
refused_at xs ys passed after x scale Large place least refused =
    (passed, x, refused_first xs ys passed after x scale Large place least refused, refused)
refused_at xs ys passed after x scale Fine place least refused =
    (passed, x, refused_first xs ys passed after x scale Fine place least refused, refused.0)

-- the first, the second or the third of three
pub refused_left : (scale : ℕ) (l v r : Frac) (e : FractionFault) → IsFractionRefused scale l e →
    IsRefusedBehind scale (l ∷ v ∷ r ∷ []) e
refused_left scale l v r e refused xs least =
    refused_at xs _ [] (v ∷ r ∷ []) l scale e refl
    (subst (λ ys. AreWithinBoundsOver ys scale) (sym (append-nil xs)) least) refused

pub refused_value : (scale a : ℕ) (l v r : Frac) (e : FractionFault) →
    Extends greatest_value scale l a → IsFractionRefused a v e →
    IsRefusedBehind scale (l ∷ v ∷ r ∷ []) e
refused_value scale a l v r e h refused xs least =
    refused_at xs _ (l ∷ []) (r ∷ []) v a e refl (least_with_next xs l scale a least h) refused

pub refused_right : (scale a b : ℕ) (l v r : Frac) (e : FractionFault) →
    Extends greatest_value scale l a → Extends greatest_value a v b →
    IsFractionRefused b r e → IsRefusedBehind scale (l ∷ v ∷ r ∷ []) e
refused_right scale a b l v r e h k refused xs least =
    refused_at xs _ (l ∷ v ∷ []) [] r b e refl
    (subst (λ ys. AreWithinBoundsOver ys b) (append_assoc xs (l ∷ []) (v ∷ []))
    (least_with_next (xs ++ l ∷ []) v a b (least_with_next xs l scale a least h) k)) refused

-- ---- the first fault of three lists

first_fault : (ls vs rs : List Frac) (i : ℕ) (l v r : Frac) (passed : List Frac) (x : Frac) →
    StandAt ls vs rs i l v r →
    IsFirstRefused (before ls vs rs i) (l ∷ v ∷ r ∷ []) passed x →
    IsFirstFractionAtFault ls vs rs i (before ls vs rs i ++ passed) x
first_fault ls vs rs i l v r passed x at h =
    let xs = before ls vs rs i in
    let later = in_order (drop (i + 1) ls) (drop (i + 1) vs) (drop (i + 1) rs) in
    let count : length xs ≡ 3 * i = length-before ls vs rs i at.value_length at.right_length
    (omega (arith, at.within)) in
    let three : length (l ∷ v ∷ r ∷ []) ≡ length passed + length (x ∷ h.after) =
    ap length h.place ∙ length-append passed (x ∷ h.after) in
    let index : i ≡ length (xs ++ passed) / 3 = let n = length-append xs passed in omega arith in
    record {
      first = record {
        after = h.after ++ later;
        place = place_of_index ls vs rs i l v r at ∙ ap (λ ys. xs ++ (ys ++ later)) h.place
            ∙ ap (λ ys. xs ++ ys) (append_assoc passed (x ∷ h.after) later)
            ∙ sym (append_assoc xs passed (x ∷ (h.after ++ later)));
        good = h.good;
        bad = λ within. h.bad (subst AreWithinBounds (append_assoc xs passed (x ∷ [])) within);
      };
      index_is = index;
    }

-- the first fraction of a point that is refused behind all fractions before is the first fault
pub fault_in : (ls vs rs : List Frac) (i : ℕ) (l v r : Frac) (e : FractionFault) →
    StandAt ls vs rs i l v r →
    IsFractionRefusal (before ls vs rs i) (l ∷ v ∷ r ∷ []) e → IsFaultIn ls vs rs (fault_at e i)
fault_in ls vs rs i l v r Large at (passed, x, first, large) =
    (before ls vs rs i ++ passed, x, first_fault ls vs rs i l v r passed x at first, large)
fault_in ls vs rs i l v r Fine at (passed, x, first, small) =
    (before ls vs rs i ++ passed, x, first_fault ls vs rs i l v r passed x at first, small)
