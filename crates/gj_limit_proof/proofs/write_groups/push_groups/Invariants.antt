use Rattle.std.proofs.Common.{◌≡◌, ◌++◌, flat_map, take}
use Rattle.gj_limit_proof.specs.LimitText.{group_text}
use Rattle.gj_limit_proof.proofs.write_groups.push_groups.Given as goal

abbrev pub invariant-loop-row : goal.invariant-loop-row
invariant-loop-row l = l.out.items ≡ l.fn.out.items ++ flat_map group_text (take l.row-index l.rows)
