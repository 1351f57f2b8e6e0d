-- The numbers of a half, as the code reads them.
use Rattle.std.proofs.Common.{◌≡◌, ℕ, ◌+◌, ◌%◌, ◌<◌, ℤ, pos, ◌+ℤ◌, List, get_or, unsigned_abs, FitsSigned, to_z, of_z, sym, ap, ap₂, ◌∙◌, arith}
use mir.Syntax.{w128}
use Rattle.std.proofs.Math.Nat.{mod-lt, add-mod}
use Rattle.std.proofs.lemmas.Int.{ints, to_z-of_z}
use Rattle.gj_shape.specs.FunctionData.{at}
use Rattle.gj_shape.proofs.AtLemmas.{at_below, at_wrapped}
use Rattle.gj_limit_faces.specs.Terms.{by_side}
use Rattle.gj_limit_faces.specs.declared.terms.Side.{Side}
use Rattle.gj_limit_faces.specs.declared.terms.Side.TheVariants.{Left, Value, Right}
use Rattle.gj_limit_check_halves.specs.declared.half.Half.{Half}
use Rattle.gj_limit_check_halves.specs.Half.{AreNumbersOf, IsHalf}

-- a number at an index that was reduced
pub number_read : (h : Half) (xs : List ℤ) (i k : ℕ) → IsHalf h → AreNumbersOf h xs →
    k ≡ i % h.order →
    to_z w128 (of_z w128 (get_or xs k (pos 0))) ≡ at xs i
number_read h xs i k half numbers is =
    let order = half.order_low in
    let rest : i % h.order < h.order = mod-lt i (omega arith) in
    let len = numbers.length in
    let here = at_below xs k (omega arith) in
    let low = (numbers.between k).0 in
    let high = (numbers.between k).1 in
    let most = half.scale_high in
    let read : to_z w128 (of_z w128 (get_or xs k (pos 0))) ≡ at xs k = omega (arith, ints) in
    read ∙ at_wrapped xs i k h.order len is

-- at an index below the order
pub number_below : (h : Half) (xs : List ℤ) (i : ℕ) → IsHalf h → AreNumbersOf h xs → i < h.order →
    to_z w128 (of_z w128 (get_or xs i (pos 0))) ≡ at xs i
number_below h xs i half numbers below =
    let len = numbers.length in
    let here = at_below xs i (omega arith) in
    let low = (numbers.between i).0 in
    let high = (numbers.between i).1 in
    let most = half.scale_high in
    omega (arith, ints)

-- the sum of two numbers fits
pub sum_fits : (h : Half) (xs ys : List ℤ) (i j : ℕ) (x y : ℤ) → IsHalf h → AreNumbersOf h xs →
    AreNumbersOf h ys →
    x ≡ at xs i → y ≡ at ys j → FitsSigned w128 (x +ℤ y)
sum_fits h xs ys i j x y half first second x_is y_is =
    let x_low = (first.between i).0 in
    let x_high = (first.between i).1 in
    let y_low = (second.between j).0 in
    let y_high = (second.between j).1 in
    let most = half.scale_high in
    omega (arith, ints)

-- and is read as such
pub sum_read : (h : Half) (xs ys : List ℤ) (i j : ℕ) (x y : ℤ) → IsHalf h → AreNumbersOf h xs →
    AreNumbersOf h ys →
    x ≡ at xs i → y ≡ at ys j → to_z w128 (of_z w128 (x +ℤ y)) ≡ at xs i +ℤ at ys j
sum_read h xs ys i j x y half first second x_is y_is =
    to_z-of_z w128 (x +ℤ y) (sum_fits h xs ys i j x y half first second x_is y_is)
    ∙ ap₂ (λ a b. a +ℤ b) x_is y_is

-- the numbers on each side
pub on_side : (h : Half) (side : Side) → IsHalf h →
    AreNumbersOf h (by_side side h.left.now h.value.now h.right.now)
on_side h Left half = half.left
on_side h Value half = half.value
on_side h Right half = half.right

pub side_read : (h : Half) (side : Side) (xs : List ℤ) (i k : ℕ) → IsHalf h →
    xs ≡ by_side side h.left.now h.value.now h.right.now → k ≡ i % h.order →
    to_z w128 (of_z w128 (get_or xs k (pos 0)))
    ≡ at (by_side side h.left.now h.value.now h.right.now) i
side_read h side xs i k half is k_is =
    ap (λ ys. to_z w128 (of_z w128 (get_or ys k (pos 0)))) is
    ∙ number_read h (by_side side h.left.now h.value.now h.right.now) i k half
    (on_side h side half) k_is

-- the rest of a sum of rests
pub rest_of_sum : (x y u v n s : ℕ) → x ≡ u % n → y ≡ v % n → s ≡ (x + y) % n → s ≡ (u + v) % n
rest_of_sum x y u v n s x_is y_is s_is =
    s_is ∙ ap₂ (λ a b. (a + b) % n) x_is y_is ∙ sym (add-mod u v n)

-- the scale is no less than 0
pub scale_is : (h : Half) → IsHalf h → pos (unsigned_abs h.scale) ≡ h.scale
scale_is h half =
    let low = (half.value.between 0).0 in
    let high = (half.value.between 0).1 in
    omega (arith, ints)

pub scale_read : (h : Half) → IsHalf h → to_z w128 (of_z w128 h.scale) ≡ h.scale
scale_read h half =
    let low = (half.value.between 0).0 in
    let high = (half.value.between 0).1 in
    let most = half.scale_high in
    omega (arith, ints)
