use Rattle.std.proofs.Common.{ℕ, List, length}
use Rattle.gj_forms.specs.TextLines.{HasNextLine, IsSkippedText}
use Rattle.gj_forms.proofs.text_lines.next_lenient_line.Given as goal

abbrev pub invariant-loop-left : goal.invariant-loop-left
invariant-loop-left l = record {
  found : (start : List ℕ) (words : List (List ℕ)) (rest : List ℕ) →
      HasNextLine start words rest l.left →
      HasNextLine start words rest l.text;
  skipped : IsSkippedText l.left → IsSkippedText l.text;
}

abbrev pub decreases-loop-left : goal.decreases-loop-left
decreases-loop-left l = length l.left
