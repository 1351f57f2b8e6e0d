use Rattle.std.proofs.Common.{◌+◌, ◌-◌, ◌*◌, ◌^◌, length, get_or, arith, ap, sym, ◌∙◌}
use Rattle.std.specs.Char.{digit_value}
use Rattle.std.proofs.lemmas.Int.Digits.{digits_more}
use Rattle.gj_lex.proofs.Decimals.{room_behind_digit, room_is_below, value_after_more}
use Rattle.gj_lex.proofs.digits.leading_value_after.Goals as goal

pub overflow_mul-value : goal.overflow_mul-value
overflow_mul-value c =
    let room = room_behind_digit c.loop-place.value 0 (length c.args.word.now) c.loop-place.place
    (10 ^ 19) c.loop-place-test.true
    (omega arith) c.loop-place.invariant.small in
    let small = room_is_below (c.loop-place.value * 10 + 0)
    (length c.args.word.now - (c.loop-place.place + 1)) (10 ^ 19) room in
    omega (arith, small)

pub overflow_add-value : goal.overflow_add-value
overflow_add-value c =
    let e = c.in-Some.ensures in
    let room = room_behind_digit c.loop-place.value c.in-Some.digit
    (length c.args.word.now) c.loop-place.place (10 ^ 19)
    c.loop-place-test.true (omega (arith, e.0, e.1)) c.loop-place.invariant.small in
    let small = room_is_below (c.loop-place.value * 10 + c.in-Some.digit)
    (length c.args.word.now - (c.loop-place.place + 1))
    (10 ^ 19) room in
    omega (arith, small)

pub loop-place-preserved : goal.loop-place-preserved
loop-place-preserved c =
    let e = c.in-Some.ensures in
    let step = value_after_more c.args.front c.args.word.now c.loop-place.place
    c.loop-place-test.true in
    record {
      digits = digits_more 10 _ _ c.loop-place-test.true c.loop-place.invariant.digits e.0;
      value = (λ i. c.loop-place.value * 10 + e.1 i)
          ∙ ap (λ v. v * 10 + digit_value (get_or c.args.word.now c.loop-place.place 0))
          c.loop-place.invariant.value ∙ sym step;
      small = room_behind_digit c.loop-place.value c.in-Some.digit
          (length c.args.word.now) c.loop-place.place (10 ^ 19)
          c.loop-place-test.true (omega (arith, e.0, e.1)) c.loop-place.invariant.small;
    }
