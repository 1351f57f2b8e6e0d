use Rattle.std.proofs.Common.{◌≡◌, ◌<◌, ◌++◌, All, flat_map, length}
use Rattle.gj_cut_text.specs.MixedLines.{named_line}
use Rattle.gj_cut_text.proofs.named.push_lines.Given as goal

abbrev pub invariant-loop-left : goal.invariant-loop-left
invariant-loop-left l = record {
  written : l.out.items ++ flat_map (named_line l.word l.columns) l.left
      ≡ l.fn.out.items ++ flat_map (named_line l.word l.columns) l.terms;
  below : All (λ t. t.column < length l.columns) l.left;
  space : length l.text ≡ 1700;
}

abbrev pub decreases-loop-left : goal.decreases-loop-left
decreases-loop-left l = length l.left
