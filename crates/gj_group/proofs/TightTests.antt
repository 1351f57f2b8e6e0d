-- Whether signed numbers of 128 bits are equal.
use Rattle.std.proofs.Common.{◌≡◌, ℕ, ◌+◌, ◌%◌, ◌<◌, Bool, true, false, nat_eq, ℤ, pos, ◌+ℤ◌, to_z, of_z, List, length, get_or, refl, sym, ap, ap₂, ◌∙◌, arith}
use Rattle.std.specs.Ordering.{int_eq}
use Rattle.std.proofs.lemmas.Bool.{eq-eqb, ne_eqb}
use Rattle.std.proofs.lemmas.Bool.Decides.{Decides-int_eq}
use Rattle.std.proofs.lemmas.Int.{to_z-of_z}
use mir.Syntax.{w128}
use mir.Val.{SFits}
use Rattle.std.proofs.Math.Nat.{mod-lt}
use Rattle.gj_shape.specs.FunctionData.{at}
use Rattle.gj_shape.proofs.AtLemmas.{at_below, at_wrapped}
use Rattle.gj_group.specs.GroupRows.{is_tight_pair}

pub same_numbers : (x y : ℤ) → SFits w128 x → SFits w128 y →
    nat_eq (of_z w128 x) (of_z w128 y) ≡ int_eq x y
same_numbers x y x_fits y_fits = go (int_eq x y) refl
  where
    go : (b : Bool) → int_eq x y ≡ b → nat_eq (of_z w128 x) (of_z w128 y) ≡ b
    go true e = eq-eqb (of_z w128 x) (of_z w128 y) (ap (of_z w128) ((Decides-int_eq x y).0 e))
    go false e =
        ne_eqb (of_z w128 x) (of_z w128 y)
        (λ same.
        let equal : x ≡ y = sym (to_z-of_z w128 x x_fits) ∙ ap (to_z w128) same
        ∙ to_z-of_z w128 y y_fits in
        let is : int_eq x y ≡ true = (Decides-int_eq x y).1 equal in
        absurd (cc))

-- the test of the code is that of the definition
pub tight_read : (xs : List ℤ) (a b : ℕ) (x y z : ℤ) → a < length xs → b < length xs →
    x ≡ get_or xs a (pos 0) → y ≡ get_or xs b (pos 0) →
    z ≡ get_or xs ((a + b) % length xs) (pos 0) → SFits w128 x → SFits w128 y → SFits w128 z →
    SFits w128 (x +ℤ y) →
    nat_eq (of_z w128 (to_z w128 (of_z w128 x) +ℤ to_z w128 (of_z w128 y))) (of_z w128 z)
    ≡ is_tight_pair (at xs) a b
tight_read xs a b x y z a_low b_low x_is y_is z_is x_fits y_fits z_fits sum_fits =
    let first : x ≡ at xs a = x_is ∙ sym (at_below xs a a_low) in
    let second : y ≡ at xs b = y_is ∙ sym (at_below xs b b_low) in
    let low : (a + b) % length xs < length xs = mod-lt (a + b) (omega arith) in
    let third : z ≡ at xs (a + b) =
    z_is ∙ sym (at_below xs ((a + b) % length xs) low)
    ∙ at_wrapped xs (a + b) ((a + b) % length xs) (length xs) refl refl in
    ap (λ s. nat_eq (of_z w128 s) (of_z w128 z))
    (ap₂ (λ p q. p +ℤ q) (to_z-of_z w128 x x_fits) (to_z-of_z w128 y y_fits))
    ∙ same_numbers (x +ℤ y) z sum_fits z_fits
    ∙ ap₂ int_eq (ap₂ (λ p q. p +ℤ q) first second) third
