-- A family has one function.
use Rattle.std.proofs.Common.{◌≡◌, ◌≢◌, ◌⊎◌, ⊎_elim, inl, inr, ℕ, ◌-◌, ◌<◌, ◌≤◌, ℤ, pos, ◌*ℤ◌, ◌<ℤ◌, List, Bool, length, unsigned_abs, sym, ap, ◌∙◌, arith}
use Rattle.std.proofs.lemmas.Int.{ints}
use Rattle.std.proofs.lemmas.Bool.{cases_lt, cases_eq}
use Rattle.gj_lemmas.proofs.Integers.{positive_some_z, mul_comm_z, one_mul_z}
use Rattle.gj_lemmas.proofs.Ratios.{ratio_along}
use Rattle.gj_shape.specs.FunctionData.{FunctionData, IsWithinBounds, at}
use Rattle.gj_shape.proofs.AlikeFunctions.{alike_are_same, continuous_alike}
use Rattle.gj_family.specs.Families.{IsGmic, IsHalf, IsTwoSlope}
use Rattle.gj_family.specs.Signs.{height}

-- what is n/d in both is the same in both
one_ratio : (x y n d : ℤ) (s t : ℕ) → unsigned_abs d ≢ 0 → x *ℤ d ≡ n *ℤ pos s →
    y *ℤ d ≡ n *ℤ pos t → x *ℤ pos t ≡ y *ℤ pos s
one_ratio x y n d s t some h k = ratio_along x (pos s) n d y (pos t) some h (sym k)

-- what is 1/2 in both
one_half : (x y : ℤ) (s t : ℕ) → x *ℤ pos 2 ≡ pos s → y *ℤ pos 2 ≡ pos t → x *ℤ pos t ≡ y *ℤ pos s
one_half x y s t h k =
    one_ratio x y (pos 1) (pos 2) s t (omega arith) (h ∙ sym (one_mul_z (pos s)))
    (k ∙ sym (one_mul_z (pos t)))

nothing_z : (s t : ℕ) → pos 0 *ℤ pos t ≡ pos 0 *ℤ pos s
nothing_z s t = omega (arith, ints)

-- ---- the families

pub one_gmic : (q k : ℕ) (f g : FunctionData) → IsGmic q k f → IsGmic q k g → IsWithinBounds f →
    IsWithinBounds g → f ≡ g
one_gmic q k f g h j in_f in_g =
    let low = in_f.place_low in
    let high = in_f.place_high in
    let q_is = h.order in
    let k_is = h.place in
    let k_some : unsigned_abs (pos k) ≢ 0 = omega arith in
    let c_some : unsigned_abs (pos (q - k)) ≢ 0 = omega arith in
    alike_are_same f g in_f in_g
    (continuous_alike f g (h.order ∙ sym j.order) (h.place ∙ sym j.place) h.continuous j.continuous
    (λ i below.
    let under : i ≤ q = omega arith in
    ⊎_elim
    (λ rising. one_ratio (at f.value i) (at g.value i) (pos i) (pos k) f.scale g.scale k_some
    (h.rises i (omega arith)) (j.rises i (omega arith)))
    (λ falling. one_ratio (at f.value i) (at g.value i) (pos (q - i))
    (pos (q - k)) f.scale g.scale c_some
    (h.falls i (omega arith) under) (j.falls i (omega arith) under))
    (cases_lt i k)))

-- the entry of a half at an index
half_ratio : (q k : ℕ) (f g : FunctionData) → IsHalf q k f → IsHalf q k g → (i : ℕ) → i < q →
    (i ≡ 0) ⊎ (i ≢ 0) → (i ≡ k) ⊎ (i ≢ k) →
    at f.value i *ℤ pos g.scale ≡ at g.value i *ℤ pos f.scale
half_ratio q k f g h j i below (inl zero) other =
    ap (λ n. at f.value n *ℤ pos g.scale) zero ∙ ap (λ x. x *ℤ pos g.scale) h.at_zero
    ∙ nothing_z f.scale g.scale
    ∙ sym (ap (λ n. at g.value n *ℤ pos f.scale) zero ∙ ap (λ x. x *ℤ pos f.scale) j.at_zero)
half_ratio q k f g h j i below (inr some) (inl place) =
    ap (λ n. at f.value n *ℤ pos g.scale) place ∙ ap (λ x. x *ℤ pos g.scale) h.at_place
    ∙ mul_comm_z (pos f.scale) (pos g.scale)
    ∙ sym (ap (λ n. at g.value n *ℤ pos f.scale) place ∙ ap (λ x. x *ℤ pos f.scale) j.at_place)
half_ratio q k f g h j i below (inr some) (inr apart) =
    one_half (at f.value i) (at g.value i) f.scale g.scale (h.elsewhere i (omega arith) below apart)
    (j.elsewhere i (omega arith) below apart)

pub one_half_function : (q k : ℕ) (f g : FunctionData) → IsHalf q k f → IsHalf q k g →
    IsWithinBounds f → IsWithinBounds g → f ≡ g
one_half_function q k f g h j in_f in_g =
    let q_is = h.order in
    alike_are_same f g in_f in_g (record {
      order = h.order ∙ sym j.order;
      place = h.place ∙ sym j.place;
      left = λ i below. one_half (at f.left i) (at g.left i) f.scale g.scale (h.left_is i)
          (j.left_is i);
      value = λ i below. half_ratio q k f g h j i (omega arith) (cases_eq i 0) (cases_eq i k);
      right = λ i below. one_half (at f.right i) (at g.right i) f.scale g.scale (h.right_is i)
          (j.right_is i);
    })

pub one_two_slope : (k : ℕ) (signs : List Bool) (f g : FunctionData) → pos 0 <ℤ height signs k →
    IsTwoSlope k signs f →
    IsTwoSlope k signs g → IsWithinBounds f → IsWithinBounds g → f ≡ g
one_two_slope k signs f g high h j in_f in_g =
    let q_is = h.order in
    alike_are_same f g in_f in_g
    (continuous_alike f g (h.order ∙ sym j.order) (h.place ∙ sym j.place) h.continuous j.continuous
    (λ i below.
    let under : i ≤ length signs = omega arith in
    one_ratio (at f.value i) (at g.value i) (height signs i) (height signs k) f.scale g.scale
    (positive_some_z (height signs k) high)
    (h.value_is i under) (j.value_is i under)))
