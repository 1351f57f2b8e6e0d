use Rattle.std.proofs.Common.{◌≡◌, ◌-◌, ◌++◌}
use Rattle.std.specs.List.{flat_map, range_with_len}
use Rattle.gj_limit_system.specs.LimitRows.{tight_rows_at}
use Rattle.gj_limit_system.proofs.tight_rows.push_tight_rows.Given as goal

abbrev pub invariant-loop-b : goal.invariant-loop-b
invariant-loop-b l =
    l.rows.items ≡ l.initial.rows.items
    ++ flat_map (tight_rows_at l.shape l.a) (range_with_len l.a (l.b - l.a))
