use Rattle.std.proofs.Common.{◌≡◌, ◌++◌, flat_map, take}
use Rattle.gj_function_lines.specs.FaceLines.{cover_line}
use Rattle.gj_function_lines.proofs.faces.push_cover_lines.Given as goal

abbrev pub invariant-loop-line : goal.invariant-loop-line
invariant-loop-line l = l.out.items ≡ l.fn.out.items ++ flat_map cover_line
    (take l.line-index l.lines)
