use Rattle.std.proofs.Common.{rules, IsTrue, false, sym, arith}
use Rattle.std.proofs.lemmas.Int.{ints}
use Rattle.std.proofs.lemmas.Result.{IfOk-weaker, on_err_weaker}
use Rattle.gj_frac.specs.declared.Frac.{Frac}
use Rattle.gj_frac.specs.Fraction.{SameValue, fraction_of, quotient_of}
use Rattle.gj_rule.proofs.ClosedForm.{rest_parts}
use Rattle.gj_theory.specs.Cuts.{IsGmicValue}
use Rattle.gj_safe_cut.specs.SafeCuts.{HasNoValue}
use Rattle.gj_safe_cut.proofs.ValueParts.{complement_parts, rising_value, falling_value, rising_back, falling_back}
use Rattle.gj_safe_cut.proofs.values.PlaceValues.value.Goals as goal

false_is_not_true : IsTrue false → ⊥
false_is_not_true h = search rules

pub returns-then-is_below-clause-value : goal.returns-then-is_below-clause-value
returns-then-is_below-clause-value c =
    let f = c.args.self.now.f in
    let inside = c.args.self.now.inside in
    let rest = c.fract-rest.result in
    let low = c.fract-rest.ensures.not_negative in
    let high = c.fract-rest.ensures.below_one in
    IfOk-weaker c.divided.result
    (λ y. SameValue (fraction_of y)
    (quotient_of (fraction_of c.complement.result)
    (fraction_of c.complement-then-is_below.result)))
    (IsGmicValue f c.args.x)
    (λ y is. falling_value f c.args.x rest c.complement.result c.complement-then-is_below.result y
    (rest_parts c.args.x rest c.fract-rest.ensures.value) (c.if-is_below.ensures.0 (search rules))
    (complement_parts rest c.complement.result low (omega (arith, ints)) c.complement.ensures)
    (complement_parts f c.complement-then-is_below.result (omega (arith, ints, inside.0))
    (omega (arith, ints, inside.1))
    c.complement-then-is_below.ensures) is)
    c.divided.ensures.value

pub returns-then-is_below-clause-wide : goal.returns-then-is_below-clause-wide
returns-then-is_below-clause-wide c =
    let f = c.args.self.now.f in
    let inside = c.args.self.now.inside in
    let rest = c.fract-rest.result in
    let low = c.fract-rest.ensures.not_negative in
    let high = c.fract-rest.ensures.below_one in
    let d = c.complement-then-is_below.result in
    let d_is = complement_parts f d (omega (arith, ints, inside.0))
    (omega (arith, ints, inside.1)) c.complement-then-is_below.ensures in
    on_err_weaker c.divided.result
    (λ wide (y : Frac) is. wide (record {
      divisor = λ none. let top = sym d_is.0 in omega (arith, ints, inside.1);
      fits = (
        y,
        falling_back f c.args.x rest c.complement.result d y
            (rest_parts c.args.x rest c.fract-rest.ensures.value)
            (c.if-is_below.ensures.0 (search rules))
            (complement_parts rest c.complement.result low
            (omega (arith, ints)) c.complement.ensures) d_is is,
      );
    }))
    c.divided.ensures.wide

pub returns-else-is_below-clause-value : goal.returns-else-is_below-clause-value
returns-else-is_below-clause-value c =
    let f = c.args.self.now.f in
    let rest = c.fract-rest.result in
    IfOk-weaker c.divided-else-is_below.result
    (λ y. SameValue (fraction_of y) (quotient_of (fraction_of rest) (fraction_of f)))
    (IsGmicValue f c.args.x)
    (λ y is. rising_value f c.args.x rest y (rest_parts c.args.x rest c.fract-rest.ensures.value)
    (λ above. false_is_not_true (c.if-is_below.ensures.1 above)) is)
    c.divided-else-is_below.ensures.value

pub returns-else-is_below-clause-wide : goal.returns-else-is_below-clause-wide
returns-else-is_below-clause-wide c =
    let f = c.args.self.now.f in
    let inside = c.args.self.now.inside in
    let rest = c.fract-rest.result in
    on_err_weaker c.divided-else-is_below.result
    (λ wide (y : Frac) is. wide (record {
      divisor = λ none. omega (arith, ints, inside.0);
      fits = (
        y,
        rising_back f c.args.x rest y (rest_parts c.args.x rest c.fract-rest.ensures.value)
            (λ above. false_is_not_true (c.if-is_below.ensures.1 above)) is,
      );
    }))
    c.divided-else-is_below.ensures.wide

pub returns-then-is_below-clause-narrow : goal.returns-then-is_below-clause-narrow
returns-then-is_below-clause-narrow c =
    IfOk-weaker c.divided.result (IsGmicValue c.args.self.now.f c.args.x)
    (λ y. HasNoValue (IsGmicValue c.args.self.now.f) c.args.x → ⊥)
    (λ y is none. none y is) (returns-then-is_below-clause-value c)

pub returns-else-is_below-clause-narrow : goal.returns-else-is_below-clause-narrow
returns-else-is_below-clause-narrow c =
    IfOk-weaker c.divided-else-is_below.result (IsGmicValue c.args.self.now.f c.args.x)
    (λ y. HasNoValue (IsGmicValue c.args.self.now.f) c.args.x → ⊥)
    (λ y is none. none y is) (returns-else-is_below-clause-value c)
