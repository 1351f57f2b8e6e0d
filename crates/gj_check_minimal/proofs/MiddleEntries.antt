-- A number is halfway between two others exactly if the rises to it and from it are the same.
use Rattle.std.proofs.Common.{◌≡◌, ◌↔◌, ℤ, ◌+ℤ◌, ◌-ℤ◌, IsTrue, nat_eq, FitsSigned, to_z, of_z, sym, ap, ap₂, ◌∙◌, arith}
use mir.Syntax.{Width}
use Rattle.std.proofs.lemmas.Bool.{eqb-true, eq-eqb}
use Rattle.std.proofs.lemmas.Int.{ints, to_z-of_z}

-- the difference of two numbers that were read
difference_read : (w : Width) (x y : ℤ) → FitsSigned w x → FitsSigned w y →
    (to_z w (of_z w x) -ℤ to_z w (of_z w y)) ≡ x -ℤ y
difference_read w x y x_fits y_fits =
    ap₂ (λ a b. a -ℤ b) (to_z-of_z w x x_fits) (to_z-of_z w y y_fits)

pub middle_test : (w : Width) (before here next : ℤ) → FitsSigned w before → FitsSigned w here →
    FitsSigned w next →
    FitsSigned w (here -ℤ before) → FitsSigned w (next -ℤ here) →
    IsTrue (nat_eq (of_z w (to_z w (of_z w here) -ℤ to_z w (of_z w before)))
    (of_z w (to_z w (of_z w next) -ℤ to_z w (of_z w here))))
    ↔ (before +ℤ next ≡ here +ℤ here)
middle_test w before here next before_fits here_fits next_fits first_fits second_fits =
    let first = difference_read w here before here_fits before_fits in
    let second = difference_read w next here next_fits here_fits in (
      λ h.
          let same = sym (ap (of_z w) first) ∙ eqb-true _ _ h ∙ ap (of_z w) second in
          let rise : here -ℤ before ≡ next -ℤ here =
          sym (to_z-of_z w (here -ℤ before) first_fits) ∙ ap (to_z w) same
          ∙ to_z-of_z w (next -ℤ here) second_fits in
          omega (arith, ints),
      λ h.
          let rise : here -ℤ before ≡ next -ℤ here = omega (arith, ints) in
          eq-eqb _ _ (ap (of_z w) (first ∙ rise ∙ sym second)),
    )
