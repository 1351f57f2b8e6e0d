use Rattle.std.proofs.Common.{subst₂, sym, arith}
use Rattle.std.proofs.lemmas.Int.{ints}
use Rattle.std.proofs.lemmas.Result.{IfOk-weaker, on_err_weaker}
use Rattle.gj_frac.specs.declared.Frac.{Frac}
use Rattle.gj_frac.specs.Fraction.{SameValue, fraction_of, product_of}
use Rattle.gj_rule.proofs.ClosedForm.{reads_as}
use Rattle.gj_mixed.specs.Slopes.{IsWeight}
use Rattle.gj_mixed.proofs.SlopeParts.{turned_parts, falling_weight}
use Rattle.gj_safe_cut.proofs.values.weight.Goals as goal

pub returns-then-num-lt0-clause-weight : goal.returns-then-num-lt0-clause-weight
returns-then-num-lt0-clause-weight c =
    let x = c.args.c in
    let sign = reads_as c.num.result x.num c.num.ensures x.lowest.num_fits in
    let here = c.if-num-lt0.true in
    IfOk-weaker c.checked_mul.result
    (λ w. SameValue (fraction_of w)
    (product_of (fraction_of c.args.slopes.down) (fraction_of c.neg.result)))
    (IsWeight c.args.slopes.up c.args.slopes.down x)
    (λ w is. falling_weight c.args.slopes.up c.args.slopes.down x c.neg.result w
    (omega (arith, ints)) (turned_parts x c.neg.result c.neg.ensures) is)
    c.checked_mul.ensures.value

pub returns-then-num-lt0-clause-wide : goal.returns-then-num-lt0-clause-wide
returns-then-num-lt0-clause-wide c =
    let x = c.args.c in
    let sign = reads_as c.num.result x.num c.num.ensures x.lowest.num_fits in
    let here = c.if-num-lt0.true in
    let parts = turned_parts x c.neg.result c.neg.ensures in
    on_err_weaker c.checked_mul.result
    (λ wide (w : Frac) is. wide (
      w,
      subst₂ (λ n d. SameValue (fraction_of w)
          (product_of (fraction_of c.args.slopes.down) (record { top = n; bottom = d })))
          (sym parts.0)
          (sym parts.1) (is.falls (omega (arith, ints))),
    ))
    c.checked_mul.ensures.wide

pub returns-else-num-lt0-clause-wide : goal.returns-else-num-lt0-clause-wide
returns-else-num-lt0-clause-wide c =
    let x = c.args.c in
    let sign = reads_as c.num.result x.num c.num.ensures x.lowest.num_fits in
    let here = c.if-num-lt0.false in
    on_err_weaker c.checked_mul-else-num-lt0.result
    (λ wide (w : Frac) is. wide (w, is.rises (omega (arith, ints))))
    c.checked_mul-else-num-lt0.ensures.wide
