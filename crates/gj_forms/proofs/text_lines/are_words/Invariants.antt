use Rattle.std.proofs.Common.{◌↔◌, ◌≤◌, drop}
use Rattle.std.specs.List.{All, slice_split}
use Rattle.gj_forms.specs.TextLines.{IsWord}
use Rattle.gj_forms.proofs.StrictLines.{is_space, IsPlainBetween}
use Rattle.gj_forms.proofs.text_lines.are_words.Given as goal

abbrev pub invariant-loop-place : goal.invariant-loop-place
invariant-loop-place l = record {
  same : All IsWord (slice_split is_space (drop l.start l.bytes))
      ↔ All IsWord (slice_split is_space l.bytes);
  within : l.start ≤ l.place;
  plain : IsPlainBetween l.bytes l.start l.place;
}
