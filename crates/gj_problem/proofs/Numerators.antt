-- The numerator of a fraction over a common denominator.
use Rattle.std.proofs.Common.{◌≡◌, ℕ, ℤ, pos, ◌*ℤ◌, ◌<ℤ◌, sym, ap, ◌∙◌}
use Rattle.gj_frac.specs.declared.Frac.{Frac}
use Rattle.gj_lemmas.proofs.Integers.{mul_comm_z, one_mul_z, mul_cancel_right_z, positive_some_z, swap_last_z}
use Rattle.gj_shape.specs.Given.{numerator_over}
use Rattle.gj_shape.proofs.LeastDenominator.{Divides}
use Rattle.gj_shape.proofs.OverScale.{over_scale}
use Rattle.gj_fields.specs.Rational.{whole, rational, ◌*ℚ◌}
use Rattle.gj_fields.proofs.RationalLaws.{equal_q, product_is}

pub ratio_whole : (p b n d c k : ℤ) → pos 0 <ℤ d → p *ℤ (d *ℤ pos 1) ≡ (n *ℤ c) *ℤ b →
    n *ℤ c ≡ k *ℤ d → p *ℤ pos 1 ≡ k *ℤ b
ratio_whole p b n d c k some e h =
    let scaled : p *ℤ d ≡ (k *ℤ b) *ℤ d =
    ap (λ z. p *ℤ z) (sym (one_mul_z d) ∙ mul_comm_z (pos 1) d) ∙ e ∙ ap (λ z. z *ℤ b) h
    ∙ swap_last_z k d b in
    mul_comm_z p (pos 1) ∙ one_mul_z p
    ∙ mul_cancel_right_z p (k *ℤ b) d scaled (positive_some_z d some)

pub numerator_is : (c : ℕ) (x : Frac) → Divides c x →
    rational x *ℚ whole (pos c) ≡ whole (numerator_over c x)
unfolding whole
numerator_is c x h =
    let k = numerator_over c x in
    equal_q (rational x *ℚ whole (pos c)) (whole k)
    (ratio_whole (rational x *ℚ whole (pos c)).top (rational x *ℚ whole (pos c)).bottom x.num x.den
    (pos c) k x.lowest.positive
    (product_is (rational x) (whole (pos c))) (over_scale c x h))
