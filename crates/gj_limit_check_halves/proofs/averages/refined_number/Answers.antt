use Rattle.std.proofs.Common.{◌/◌, ◌<◌, arith}
use Rattle.std.proofs.Math.Nat.{div-lt_iff_lt-mul}
use Rattle.gj_limit_check_halves.proofs.Refinements.{refined_read, between_read}
use Rattle.gj_limit_check_halves.proofs.averages.refined_number.Goals as goal

pub returns-then-rest-eq0 : goal.returns-then-rest-eq0
returns-then-rest-eq0 c =
    let low : c.args.index / c.args.times_finer < c.args.shape.now.order =
    (div-lt_iff_lt-mul c.requires.some).1 c.requires.within in
    let len = c.requires.length in
    refined_read c.args.shape.now c.args.numbers.now c.args.times_finer c.args.index _
    c.if-rest-eq0.true (omega arith)
    c.requires.small c.times.ensures.value c.times.ensures.fits

pub returns : goal.returns
returns c =
    between_read c.args.shape.now c.args.numbers.now c.args.times_finer c.args.index _ _ _ _
    c.if-rest-eq0.false
    c.right_numerator.ensures.small c.left_numerator.ensures.small c.right_numerator.ensures.value
    c.left_numerator.ensures.value
    c.times-start.ensures.value c.times-2.ensures.value c.times-start.ensures.fits
    c.times-2.ensures.fits
