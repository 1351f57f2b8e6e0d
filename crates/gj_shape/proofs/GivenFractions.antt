-- Lists of fractions over one scale, and the functions that they give.
use Rattle.std.proofs.Common.{◌≡◌, ℕ, ◌*◌, ◌/◌, ◌%◌, ◌<◌, ◌≤◌, ◌^◌, ℤ, pos, ◌*ℤ◌, ◌≤ℤ◌, List, [], ◌∷◌, ◌++◌, length, map, get_or, All, unsigned_abs, refl, sym, ap, subst, ◌∙◌, below_more, arith}
use Rattle.std.proofs.Math.Nat.{mul-div_cancel', mul-le-mul_right, le_of_mul-le-mul_right, mod-lt}
use Rattle.std.proofs.Math.Seq.{get_or-append_seam}
use Rattle.std.proofs.lemmas.Int.{ints, unsigned_abs-mul}
use Rattle.std.proofs.lemmas.List.{length-map, get_or-map, get_or_default, get_or_append_left, length_push}
use Rattle.std.proofs.lemmas.List.Elements.{All-head}
use Rattle.std.specs.Int.{◌∣◌}
use Rattle.gj_frac.specs.declared.Frac.{Frac}
use Rattle.gj_frac.specs.Fraction.{IsRatio, numerator, denominator}
use Rattle.gj_lemmas.proofs.Integers.{mul_assoc_z, pos_abs_z}
use Rattle.gj_lemmas.proofs.Lists.{All-back}
use Rattle.gj_lemmas.proofs.Ring.{by_ring, ring}
use Rattle.gj_shape.specs.FunctionData.{FunctionData, at}
use Rattle.gj_shape.specs.Given.{in_order, IsSmall, IsCommonDenominator, IsOrder, IsPlace, HaveLength, IsTooLarge, HasFault, IsGivenBy, numerator_over, AreOver, IsTooFineOf}
use Rattle.gj_shape.specs.declared.faults.ShapeFault.{ShapeFault}
use Rattle.gj_shape.specs.declared.faults.ShapeFault.TheVariants as fault
use Rattle.gj_shape.proofs.AtLemmas.{at_below, at_remainder}
use Rattle.gj_shape.proofs.InOrder.{all_in_order}

-- ---- fractions over one scale

-- one more fraction
pub are_over_push : (t : ℕ → ℤ) (s : ℕ) (xs : List Frac) (x : Frac) (n : ℕ) → length xs ≡ n →
    AreOver t s xs →
    IsRatio x (t n) (pos s) → AreOver t s (xs ++ x ∷ [])
are_over_push t s xs x n e are is i d within =
    let more = length_push xs x in
    let P : ℕ → Type 0 = λ k. (y : Frac) → IsRatio (get_or (xs ++ x ∷ []) k y) (t k) (pos s) in
    let before : (k : ℕ) → k < n → P k = λ k h y.
    let small : k < length xs = omega arith in
    subst (λ z. IsRatio z (t k) (pos s)) (sym (get_or_append_left xs (x ∷ []) y k small))
    (are k y small) in
    let here : P n = λ y. subst (λ z. IsRatio z (t n) (pos s))
    (sym (ap (λ k. get_or (xs ++ x ∷ []) k y)
    (sym e) ∙ get_or-append_seam xs x [] y)) is in
    below_more P n before here i (omega arith) d

-- a fraction n/d is small if n is at most 2^20 d
pub is_small : (x : Frac) (n : ℤ) (d : ℕ) → 0 < d → unsigned_abs n ≤ 2 ^ 20 * d →
    IsRatio x n (pos d) → IsSmall x
is_small x n d some small is =
    let b = unsigned_abs (denominator x) in
    let sizes : unsigned_abs (numerator x) * d ≡ unsigned_abs n * b =
    sym (unsigned_abs-mul (numerator x) (pos d)) ∙ ap unsigned_abs is
    ∙ unsigned_abs-mul n (denominator x) in
    let high = mul-le-mul_right b small in
    let scaled : unsigned_abs (numerator x) * d ≤ 2 ^ 20 * b * d = omega arith in
    le_of_mul-le-mul_right scaled some

-- the same for all of a list
pub all_small : (t : ℕ → ℤ) (s : ℕ) (xs : List Frac) → 0 < s →
    ((i : ℕ) → unsigned_abs (t i) ≤ 2 ^ 20 * s) →
    AreOver t s xs → All IsSmall xs
all_small t s xs some small are k d h = is_small (get_or xs k d) (t k) s some (small k) (are k d h)

-- ---- faults

-- if all fractions are small none is too large
none_too_large : (l v r : List Frac) (i : ℕ) → All IsSmall (in_order l v r) → IsTooLarge l v r i → ⊥
none_too_large l v r i small (before, x, first, large) =
    let rest = x ∷ first.first.after in
    large (All-head IsSmall x first.first.after
    (All-back IsSmall before rest (subst (All IsSmall) first.first.place small)))

-- the only faults of small fractions are that they are too fine, and want of memory
pub too_fine_of : (P : List Frac → List Frac → List Frac → Type 0) (q k : ℕ) (l v r : List Frac)
    (e : ShapeFault) →
    IsOrder q → IsPlace q k → HaveLength l v r q → All IsSmall l → All IsSmall v → All IsSmall r →
    P l v r →
    HasFault q k l v r e → IsTooFineOf P e
too_fine_of P q k l v r fault.Order order place lengths sl sv sr p h = absurd (h order)
too_fine_of P q k l v r fault.Place order place lengths sl sv sr p h = absurd (h.1 place)
too_fine_of P q k l v r fault.Count order place lengths sl sv sr p h = absurd (h.2 lengths)
too_fine_of P q k l v r (fault.TooLarge i) order place lengths sl sv sr p h =
    let small = all_in_order IsSmall l v r (lengths.1 ∙ sym lengths.0)
    (lengths.2 ∙ sym lengths.0) sl sv sr in
    absurd (none_too_large l v r i small h.3)
too_fine_of P q k l v r (fault.TooFine i) order place lengths sl sv sr p h = (l, v, r, p, h.3)
too_fine_of P q k l v r (fault.Memory e) order place lengths sl sv sr p h = tt

-- ---- the lists that are given

move_factor_z : (x c d : ℤ) → x *ℤ c *ℤ d ≡ x *ℤ d *ℤ c
move_factor_z x c d = by_ring (x ∷ c ∷ d ∷ []) (search ring depth 20) refl

-- the numerator of n/d over a common denominator
numerator_is : (x : Frac) (n : ℤ) (d scale : ℕ) → unsigned_abs (denominator x) ∣ scale →
    IsRatio x n (pos d) →
    numerator_over scale x *ℤ pos d ≡ n *ℤ pos scale
numerator_is x n d scale divides is =
    let b = unsigned_abs (denominator x) in
    let c = scale / b in
    let positive = x.lowest.positive in
    let low : pos 0 ≤ℤ denominator x = omega (arith, ints) in
    let whole : denominator x *ℤ pos c ≡ pos scale =
    ap (λ z. z *ℤ pos c) (sym (pos_abs_z (denominator x) low))
    ∙ ap pos (mul-div_cancel' b divides) in
    move_factor_z (numerator x) (pos c) (pos d) ∙ ap (λ z. z *ℤ pos c) is
    ∙ mul_assoc_z n (denominator x) (pos c)
    ∙ ap (λ z. n *ℤ z) whole

-- what a list of numerators is over the scale of its fractions
list_is : (scale : ℕ) (xs : List Frac) (t : ℕ → ℤ) (s : ℕ) (y : Frac) →
    IsCommonDenominator xs scale → AreOver t s xs →
    (i : ℕ) → i < length xs → at (map (numerator_over scale) xs) i *ℤ pos s ≡ t i *ℤ pos scale
list_is scale xs t s y common are i within =
    let F = numerator_over scale in
    let inside : i < length (map F xs) = subst (λ n. i < n) (sym (length-map xs F)) within in
    let entry : at (map F xs) i ≡ F (get_or xs i y) =
    at_below (map F xs) i inside ∙ get_or_default (map F xs) i (pos 0) (F y) inside
    ∙ get_or-map F xs i y (F y) within in
    ap (λ z. z *ℤ pos s) entry ∙ numerator_is (get_or xs i y) (t i) s scale (common i y within)
    (are i y within)

-- the same at any index, if t goes by the remainder of the index
pub list_is_at : (scale : ℕ) (hs : List ℤ) (xs : List Frac) (t : ℕ → ℤ) (s n : ℕ) →
    hs ≡ map (numerator_over scale) xs →
    length xs ≡ n → 0 < n → IsCommonDenominator xs scale → AreOver t s xs →
    ((i : ℕ) → t (i % n) ≡ t i) →
    (i : ℕ) → at hs i *ℤ pos s ≡ t i *ℤ pos scale
list_is_at scale hs [] t s n is e some common are same i = absurd (omega arith)
list_is_at scale hs (y ∷ ys) t s n is e some common are same i =
    let xs = y ∷ ys in
    let F = numerator_over scale in
    let mapped : length (map F xs) ≡ n = length-map xs F ∙ e in
    let within : i % n < length xs = let h = mod-lt i some in omega arith in
    let rest : at hs i ≡ at (map F xs) (i % n) =
    ap (λ zs. at zs i) is ∙ sym (at_remainder (map F xs) i)
    ∙ ap (λ k. at (map F xs) (i % k)) mapped in
    ap (λ z. z *ℤ pos s) rest ∙ list_is scale xs t s y common are (i % n) within
    ∙ ap (λ z. z *ℤ pos scale) (same i)

-- the same under other names for the order, the place and the lists
pub given_as : (q q' k k' : ℕ) (l l' v v' r r' : List Frac) (f : FunctionData) → q ≡ q' → k ≡ k' →
    l ≡ l' → v ≡ v' → r ≡ r' →
    IsGivenBy q k l v r f → IsGivenBy q' k' l' v' r' f
given_as q q' k k' l l' v v' r r' f a b c d e h =
    let one = subst (λ n. IsGivenBy n k l v r f) a h in
    let two = subst (λ n. IsGivenBy q' n l v r f) b one in
    let three = subst (λ xs. IsGivenBy q' k' xs v r f) c two in
    let four = subst (λ xs. IsGivenBy q' k' l' xs r f) d three in
    subst (λ xs. IsGivenBy q' k' l' v' xs f) e four

pub fault_as : (q q' k k' : ℕ) (l l' v v' r r' : List Frac) (f : ShapeFault) → q ≡ q' → k ≡ k' →
    l ≡ l' → v ≡ v' → r ≡ r' →
    HasFault q k l v r f → HasFault q' k' l' v' r' f
fault_as q q' k k' l l' v v' r r' f a b c d e h =
    let one = subst (λ n. HasFault n k l v r f) a h in
    let two = subst (λ n. HasFault q' n l v r f) b one in
    let three = subst (λ xs. HasFault q' k' xs v r f) c two in
    let four = subst (λ xs. HasFault q' k' l' xs r f) d three in
    subst (λ xs. HasFault q' k' l' v' xs f) e four
