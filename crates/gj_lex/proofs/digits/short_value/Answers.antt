use Rattle.std.proofs.Common.{◌≡◌, ◌+◌, ◌-◌, ◌*◌, ◌^◌, length, get_or, arith, ap, sym, subst, ◌∙◌}
use Rattle.std.specs.Char.{digit_value}
use Rattle.std.proofs.lemmas.List.{take_all}
use Rattle.std.specs.Str.Parse.{AllDigits, digits_value_after}
use Rattle.std.proofs.lemmas.Int.Digits.{digits_more}
use Rattle.gj_lex.proofs.Decimals.{no_digit_there, room_behind_digit, room_is_below, value_after_more}
use Rattle.gj_lex.proofs.digits.short_value.Goals as goal

pub overflow_mul-value : goal.overflow_mul-value
overflow_mul-value c =
    let room = room_behind_digit c.loop-byte.value 0 (length c.args.word.now) c.loop-byte.byte-index
    (10 ^ 19) c.loop-byte-test.true
    (omega arith) c.loop-byte.invariant.small in
    let small = room_is_below (c.loop-byte.value * 10 + 0)
    (length c.args.word.now - (c.loop-byte.byte-index + 1)) (10 ^ 19) room in
    omega (arith, small)

pub returns-in_err-value : goal.returns-in_err-value
returns-in_err-value c =
    rw c.from_residual.ensures
    (no_digit_there c.args.front c.args.word.now _ _ c.loop-byte-test.true
    c.in_err-value.ensures)

pub overflow_add-value : goal.overflow_add-value
overflow_add-value c =
    let e = c.in_ok-value.ensures in
    let room = room_behind_digit c.loop-byte.value c.in_ok-value.field-0
    (length c.args.word.now) c.loop-byte.byte-index (10 ^ 19)
    c.loop-byte-test.true (omega (arith, e.0, e.1)) c.loop-byte.invariant.small in
    let small = room_is_below (c.loop-byte.value * 10 + c.in_ok-value.field-0)
    (length c.args.word.now - (c.loop-byte.byte-index + 1))
    (10 ^ 19) room in
    omega (arith, small)

pub loop-byte-preserved : goal.loop-byte-preserved
loop-byte-preserved c =
    let e = c.in_ok-value.ensures in
    let step = value_after_more c.args.front c.args.word.now c.loop-byte.byte-index
    c.loop-byte-test.true in
    record {
      digits = digits_more 10 _ _ c.loop-byte-test.true c.loop-byte.invariant.digits e.0;
      value = (λ i. c.loop-byte.value * 10 + e.1 i)
          ∙ ap (λ v. v * 10 + digit_value (get_or c.args.word.now c.loop-byte.byte-index 0))
          c.loop-byte.invariant.value ∙ sym step;
      small = room_behind_digit c.loop-byte.value c.in_ok-value.field-0
          (length c.args.word.now) c.loop-byte.byte-index (10 ^ 19)
          c.loop-byte-test.true (omega (arith, e.0, e.1)) c.loop-byte.invariant.small;
    }

pub returns : goal.returns
returns c =
    let all = take_all c.loop-byte.byte-index c.args.word.now (omega arith) in
    let small = room_is_below c.loop-byte.value (length c.args.word.now - c.loop-byte.byte-index)
    (10 ^ 19) c.loop-byte.invariant.small in
    let is = c.loop-byte.invariant.value ∙ ap (digits_value_after 10 c.args.front) all in
    let value : digits_value_after 10 c.args.front c.args.word.now ≡ c.loop-byte.value = sym is in (
      (subst (AllDigits 10) all c.loop-byte.invariant.digits, omega (arith, value, small)),
      c.from.ensures ∙ is,
    )
