-- What the code reads of an entry that is moved.
use Rattle.std.proofs.Common.{◌≡◌, ◌<◌, ◌^◌, ℤ, ◌+ℤ◌, ◌*ℤ◌, unsigned_abs, FitsSigned, to_z, of_z, ap₂, ◌∙◌, arith}
use Rattle.std.proofs.lemmas.Int.{to_z-of_z, fits_signed_from_abs}
use Rattle.gj_lemmas.proofs.Integers.{abs_add_z}
use mir.Syntax.{w128}

abbrev pub wide : ℤ → ℤ
wide z = to_z w128 (of_z w128 z)

product_read : (x y : ℤ) → FitsSigned w128 x → FitsSigned w128 y → unsigned_abs (x *ℤ y) < 2 ^ 126 →
    wide (wide x *ℤ wide y) ≡ x *ℤ y
product_read x y x_fits y_fits small =
    ap₂ (λ u v. wide (u *ℤ v)) (to_z-of_z w128 x x_fits) (to_z-of_z w128 y y_fits)
    ∙ to_z-of_z w128 (x *ℤ y) (fits_signed_from_abs w128 (x *ℤ y) (omega arith))

-- four numbers of 128 bits with small products
pub record AreSmallProducts (x y z t : ℤ) : Type 0 where
  pub x_fits : FitsSigned w128 x
  pub y_fits : FitsSigned w128 y
  pub z_fits : FitsSigned w128 z
  pub t_fits : FitsSigned w128 t
  pub first : unsigned_abs (x *ℤ y) < 2 ^ 126
  pub second : unsigned_abs (z *ℤ t) < 2 ^ 126

pub sum_of_products_fits : (x y z t : ℤ) → AreSmallProducts x y z t →
    FitsSigned w128 (wide (wide x *ℤ wide y) +ℤ wide (wide z *ℤ wide t))
sum_of_products_fits x y z t h =
    let both = abs_add_z (x *ℤ y) (z *ℤ t) in
    rw (product_read x y h.x_fits h.y_fits h.first, product_read z t h.z_fits h.t_fits h.second)
    (fits_signed_from_abs w128 _ (omega arith))

pub sum_of_products_read : (x y z t : ℤ) → AreSmallProducts x y z t →
    wide (wide (wide x *ℤ wide y) +ℤ wide (wide z *ℤ wide t)) ≡ x *ℤ y +ℤ z *ℤ t
sum_of_products_read x y z t h =
    let both = abs_add_z (x *ℤ y) (z *ℤ t) in
    rw (product_read x y h.x_fits h.y_fits h.first, product_read z t h.z_fits h.t_fits h.second)
    (to_z-of_z w128 _ (fits_signed_from_abs w128 _ (omega arith)))
