use Rattle.std.proofs.Common.{◌∙◌, sym, arith}
use Rattle.gj_lex.proofs.Decimals.{decimal_some, decimal_at_most, length-decimal-step, digit_written, last_digit_written}
use Rattle.gj_lex.proofs.digits.write_long_digits.Goals as goal

pub loop-rest-init : goal.loop-rest-init
loop-rest-init c = grind (arith, decimal_at_most)

pub overflow_sub-start : goal.overflow_sub-start
overflow_sub-start c = omega (arith, decimal_some c.loop-rest.rest c.loop-rest.invariant.small)

pub returns-then-rest-eq0-clause-written : goal.returns-then-rest-eq0-clause-written
returns-then-rest-eq0-clause-written c =
    let some = decimal_some c.loop-rest.rest c.loop-rest.invariant.small in
    sym (c.loop-rest.invariant.written
    ∙ last_digit_written c.loop-rest.text c.loop-rest.start c.loop-rest.rest (omega arith)
    (omega arith) (omega arith))

pub returns-then-rest-eq0-clause-room : goal.returns-then-rest-eq0-clause-room
returns-then-rest-eq0-clause-room c =
    omega (arith, decimal_some c.loop-rest.rest c.loop-rest.invariant.small)

pub loop-rest-smaller : goal.loop-rest-smaller
loop-rest-smaller c = omega (arith, decimal_some c.loop-rest.rest c.loop-rest.invariant.small)

pub loop-rest-preserved : goal.loop-rest-preserved
loop-rest-preserved c =
    let some = decimal_some c.loop-rest.rest c.loop-rest.invariant.small in
    record {
      written = c.loop-rest.invariant.written
          ∙ digit_written c.loop-rest.text c.loop-rest.start c.loop-rest.rest (omega arith)
          (omega arith) (omega arith) c.loop-rest.invariant.small;
      room = omega (
        arith,
        length-decimal-step c.loop-rest.rest
            (omega arith) c.loop-rest.invariant.small,
      );
      within = omega arith;
      small = omega arith;
    }
