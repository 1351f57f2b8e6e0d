use Rattle.std.proofs.Common.{◌≡◌, ◌*◌, ◌≤◌, drop, flat_map, length}
use Rattle.gj_cut_text.specs.MixedLines.{named_line}
use Rattle.gj_cut_text.proofs.named.write_lines.Given as goal

abbrev pub invariant-loop-left : goal.invariant-loop-left
invariant-loop-left l = record {
  written : drop l.start l.text ≡ flat_map (named_line l.word l.columns) (drop l.left l.terms);
  room : 425 * l.left ≤ l.start;
  within : l.start ≤ 1700;
  fewer : l.left ≤ length l.terms;
  space : length l.text ≡ length l.initial.text;
}

abbrev pub decreases-loop-left : goal.decreases-loop-left
decreases-loop-left l = l.left
