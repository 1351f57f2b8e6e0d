use Rattle.std.proofs.Common.{◌<◌, length, refl, arith}
use Rattle.gj_shape.proofs.GivenFractions.{given_as, fault_as}
use Rattle.gj_family.proofs.Given.{AreFractions, only_memory, over_from_given}
use Rattle.gj_family.proofs.numerators.shape_over.Goals as goal

pub returns-in-Ok : goal.returns-in-Ok
returns-in-Ok c =
    let some : 0 < length c.args.values.now = let low = c.requires.order.0 in omega arith in
    let are : AreFractions c.args.denominator c.args.limits.now c.args.values.now
    c.in_ok-sides.sides.items c.in_ok-middle.middle.items = record {
      some = some;
      lengths = c.requires.lengths;
      low = c.requires.low;
      high = c.requires.high;
      limits_small = c.requires.limits_small;
      values_small = c.requires.values_small;
      limits_length = c.in_ok-sides.ensures.length;
      values_length = c.in_ok-middle.ensures.length;
      limits_are = c.in_ok-sides.ensures.fractions;
      values_are = c.in_ok-middle.ensures.fractions;
    } in
    over_from_given c.args.place c.args.denominator _ _ _ _ c.in-Ok.shape are
    (given_as _ _ _ _ _ _ _ _ _ _ c.in-Ok.shape refl refl c.as_slice.ensures.value
    c.as_slice-2.ensures.value c.as_slice-3.ensures.value
    c.in-Ok.ensures.given)

pub want_of_memory-requires : goal.want_of_memory-requires
want_of_memory-requires c =
    let some : 0 < length c.args.values.now = let low = c.requires.order.0 in omega arith in
    let are : AreFractions c.args.denominator c.args.limits.now c.args.values.now
    c.in_ok-sides.sides.items c.in_ok-middle.middle.items = record {
      some = some;
      lengths = c.requires.lengths;
      low = c.requires.low;
      high = c.requires.high;
      limits_small = c.requires.limits_small;
      values_small = c.requires.values_small;
      limits_length = c.in_ok-sides.ensures.length;
      values_length = c.in_ok-middle.ensures.length;
      limits_are = c.in_ok-sides.ensures.fractions;
      values_are = c.in_ok-middle.ensures.fractions;
    } in
    only_memory c.args.place c.args.denominator _ _ _ _ c.in-Err.fault c.requires.order
    c.requires.place_fits are
    (fault_as _ _ _ _ _ _ _ _ _ _ c.in-Err.fault refl refl c.as_slice.ensures.value
    c.as_slice-2.ensures.value c.as_slice-3.ensures.value
    c.in-Err.ensures.fault)
