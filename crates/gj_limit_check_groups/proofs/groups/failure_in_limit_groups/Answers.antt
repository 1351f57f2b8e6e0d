use Rattle.std.proofs.Common.{length, ap, ◌∙◌, arith}
use Rattle.std.specs.Prelude.{None}
use Rattle.std.proofs.lemmas.List.FromFn.{length-map-range_with_len}
use Rattle.gj_limit_check_groups.proofs.groups.failure_in_limit_groups.Goals as goal

pub failure_in_turn-requires-clause-columns : goal.failure_in_turn-requires-clause-columns
failure_in_turn-requires-clause-columns c =
    let long = ap length c.as_mut_slice.ensures.value ∙ ap length c.in_ok-table.ensures
    ∙ length-map-range_with_len (λ i. None) 0 c.columns.result in
    omega (arith, c.columns.ensures.few)
