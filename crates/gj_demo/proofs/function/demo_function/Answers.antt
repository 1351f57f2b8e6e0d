use Rattle.std.proofs.Common.{◌+◌, ◌*◌, refl, arith}
use Rattle.gj_shape.proofs.GivenFractions.{given_as, fault_as}
use Rattle.gj_demo.proofs.GivenValues.{AreDemoValues, demo_from_given, demo_only_memory}
use Rattle.gj_demo.proofs.function.demo_function.Goals as goal

pub returns-in-Ok-clause-closed_form : goal.returns-in-Ok-clause-closed_form
returns-in-Ok-clause-closed_form c =
    let n = c.args.n in
    let e = c.as_slice-entries.ensures.value in
    let are : AreDemoValues (2 * n + 1) c.in_ok-values.values.items = record {
      some = omega arith;
      high = omega arith;
      length_is = c.in_ok-values.ensures.length;
      values_are = c.in_ok-values.ensures.values;
    } in
    demo_from_given n c.in_ok-values.values.items c.in-Ok.shape are
    (given_as _ _ _ _ _ _ _ _ _ _ c.in-Ok.shape refl refl e e e c.in-Ok.ensures.given)

pub want_of_memory-requires : goal.want_of_memory-requires
want_of_memory-requires c =
    let n = c.args.n in
    let e = c.as_slice-entries.ensures.value in
    let are : AreDemoValues (2 * n + 1) c.in_ok-values.values.items = record {
      some = omega arith;
      high = omega arith;
      length_is = c.in_ok-values.ensures.length;
      values_are = c.in_ok-values.ensures.values;
    } in
    demo_only_memory (2 * n + 1) c.in_ok-values.values.items c.in-Err.fault are
    (fault_as _ _ _ _ _ _ _ _ _ _ c.in-Err.fault refl refl e e e c.in-Err.ensures.fault)
