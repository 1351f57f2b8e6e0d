use Rattle.std.proofs.Common.{pos, ◌∙◌, arith, subst₂}
use Rattle.std.proofs.lemmas.Int.{ints}
use Rattle.gj_frac.specs.Fraction.{SameValue, fraction_of, quotient_of}
use Rattle.gj_rule.proofs.ClosedForm.{one_minus_top, one_times}
use Rattle.gj_safe_cut.proofs.ValueParts.{complement_parts}
use Rattle.gj_safe_cut.proofs.values.Place.slopes.Goals as goal

pub returns : goal.returns
returns c =
    let f = c.args.self.now.f in
    let inside = c.args.self.now.inside in
    let parts = complement_parts f c.complement.result (omega (arith, ints, inside.0))
    (omega (arith, ints, inside.1)) c.complement.ensures in
    record {
      up_is = c.inverse.ensures;
      down_is = subst₂
          (λ n d. SameValue (fraction_of c.inverse-2.result)
          (quotient_of (record { top = pos 1; bottom = pos 1 })
          (record { top = n; bottom = d })))
          (parts.0 ∙ one_minus_top f.den f.num) (parts.1 ∙ one_times f.den) c.inverse-2.ensures;
    }

pub inverse-requires-2 : goal.inverse-requires-2
inverse-requires-2 c =
    let f = c.args.self.now.f in
    let inside = c.args.self.now.inside in
    let parts = complement_parts f c.complement.result (omega (arith, ints, inside.0))
    (omega (arith, ints, inside.1)) c.complement.ensures in
    omega (arith, ints, inside.1, parts.0)
