-- The rational numbers are numbers of each ordered field.
use Rattle.std.proofs.Common.{◌≡◌, ◌≢◌, ℤ, pos, ◌+ℤ◌, ◌*ℤ◌, ◌≤ℤ◌, [], ◌∷◌, refl, sym, ap, ap₂, ◌∙◌, arith}
use Rattle.std.proofs.lemmas.Int.{ints}
use Rattle.gj_lemmas.proofs.Integers.{mul_positive_z}
use Rattle.gj_fields.specs.Fields.{OrderedField, whole}
use Rattle.gj_fields.proofs.Ring.{ring}
use Rattle.gj_fields.proofs.Ring.Term.{var, nil, unit, ◌⊕◌, ◌⊗◌}
use Rattle.gj_fields.proofs.Wholes.{whole_plus}
use Rattle.gj_reals.proofs.Lift.{whole_times}
use Rattle.gj_real_cuts.proofs.FractionValues.{not_zero}
use Rattle.gj_real_cuts.proofs.Over.{over, over_times, is_over, over_same, over_product, over_most, most_over, whole_over}
use Rattle.gj_fields.specs.Rational as q
use Rattle.gj_fields.specs.Rational.{Rational, ◌+ℚ◌, ◌*ℚ◌}
use Rattle.gj_fields.proofs.RationalLaws.{sum_is, product_is}
use Rattle.gj_real_problems.proofs.Forms.{Embeds}
use Rattle.gj_fields.proofs.Rationals.{rationals, most_from, most_is}

bottom_some : (x : Rational) → x.bottom ≢ pos 0
bottom_some x = not_zero x.bottom x.reduced.positive

bottom_low : (x : Rational) → pos 0 ≤ℤ x.bottom
bottom_low x = let some = x.reduced.positive in omega (arith, ints)

both_some : (x y : Rational) → (x.bottom *ℤ y.bottom) ≢ pos 0
both_some x y = not_zero (x.bottom *ℤ y.bottom)
    (mul_positive_z x.bottom y.bottom x.reduced.positive y.reduced.positive)

module _ {R : Type 0} (K : OrderedField R) where
  open K use {plus, times, zero as o, one as e, negative, inverse}

  abbrev pub image : Rational → R
  image x = over K x.top x.bottom

  pub whole_image : (z : ℤ) → image (q.whole z) ≡ whole K z
  unfolding q.whole
  whole_image z =
      ap (λ w. over K w (pos 1)) (let same : z ≡ z *ℤ pos 1 = omega (arith, ints) in same)
      ∙ whole_over K z (pos 1) (not_zero (pos 1) (omega (arith, ints)))

  over_sum : (a b c d : ℤ) → b ≢ pos 0 → d ≢ pos 0 → (b *ℤ d) ≢ pos 0 →
      over K (a *ℤ d +ℤ c *ℤ b) (b *ℤ d) ≡ plus (over K a b) (over K c d)
  over_sum a b c d b_some d_some some =
      sym (is_over K (plus (over K a b) (over K c d)) (a *ℤ d +ℤ c *ℤ b) (b *ℤ d) some
      (ap (λ w. times w (plus (over K a b) (over K c d))) (whole_times K b d)
      ∙ ring K (whole K b ∷ whole K d ∷ over K a b ∷ over K c d ∷ [])
      (var 0 ⊗ var 1 ⊗ (var 2 ⊕ var 3)) (var 0 ⊗ var 2 ⊗ var 1 ⊕ var 1 ⊗ var 3 ⊗ var 0) refl
      ∙ ap₂ (λ s t. plus (times s (whole K d)) (times t (whole K b))) (over_times K a b b_some)
      (over_times K c d d_some)
      ∙ ap₂ plus (sym (whole_times K a d)) (sym (whole_times K c b))
      ∙ sym (whole_plus K (a *ℤ d) (c *ℤ b))))

  pub embeds : Embeds rationals K image
  embeds = record {
    zero_is = whole_image (pos 0);
    one_is = whole_image (pos 1) ∙ ring K [] (nil ⊕ unit) unit refl;
    plus_is = λ x y.
        over_same K (x +ℚ y).top (x +ℚ y).bottom (x.top *ℤ y.bottom +ℤ y.top *ℤ x.bottom)
        (x.bottom *ℤ y.bottom)
        (bottom_some (x +ℚ y)) (both_some x y) (sum_is x y)
        ∙ over_sum x.top x.bottom y.top y.bottom (bottom_some x) (bottom_some y) (both_some x y);
    times_is = λ x y.
        over_same K (x *ℚ y).top (x *ℚ y).bottom (x.top *ℤ y.top) (x.bottom *ℤ y.bottom)
        (bottom_some (x *ℚ y)) (both_some x y) (product_is x y)
        ∙ sym (over_product K x.top x.bottom y.top y.bottom (bottom_some x) (bottom_some y)
        (both_some x y));
    keeps = λ x y h.
        most_over K x.top x.bottom y.top y.bottom (bottom_some x) (bottom_some y) (bottom_low x)
        (bottom_low y)
        (most_from x y h).crosswise;
    reflects = λ x y h. most_is x y (record {
      crosswise =
          over_most K x.top x.bottom y.top y.bottom (bottom_some x) (bottom_some y) (bottom_low x)
          (bottom_low y) h;
    });
  }
