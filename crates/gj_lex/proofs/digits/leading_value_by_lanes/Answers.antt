use Rattle.std.proofs.Common.{take, refl, arith}
use Rattle.std.specs.Str.Parse.{digits_value}
use Rattle.gj_lex.proofs.DigitLanes.{value_is_joined, joined_has_room, joined_fits}
use Rattle.gj_lex.proofs.digits.leading_value_by_lanes.Goals as goal

pub overflow_mul-result : goal.overflow_mul-result
overflow_mul-result c =
    let front = c.in-Some.ensures.found in
    let small = joined_fits c.args.front c.args.word.now c.in-Some.count
    (digits_value 10 (take c.in-Some.count c.args.word.now)) front.0 (omega arith)
    front.1 refl c.requires in
    omega (arith, small)

pub overflow_add-result : goal.overflow_add-result
overflow_add-result c =
    let front = c.in-Some.ensures.found in
    let small = joined_fits c.args.front c.args.word.now c.in-Some.count c.value_of_front.result
    front.0 (omega arith) front.1 c.value_of_front.ensures
    c.requires in
    omega (arith, small)

pub returns-in-Some-clause-value : goal.returns-in-Some-clause-value
returns-in-Some-clause-value c =
    let front = c.in-Some.ensures.found in
    value_is_joined c.args.front c.args.word.now c.in-Some.count c.value_of_front.result front.0
    (omega arith) front.1 c.value_of_front.ensures

pub returns-in-Some-clause-room : goal.returns-in-Some-clause-room
returns-in-Some-clause-room c =
    let front = c.in-Some.ensures.found in
    joined_has_room c.args.front c.args.word.now c.in-Some.count c.value_of_front.result front.0
    (omega arith) front.1 c.value_of_front.ensures
    c.requires
