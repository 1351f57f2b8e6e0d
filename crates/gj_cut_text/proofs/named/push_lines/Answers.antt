use Rattle.std.proofs.Common.{◌≡◌, ◌-◌, ◌<◌, ◌++◌, All, drop, flat_map, length, take, ap, subst, sym, ◌∙◌, append_assoc, length-drop, take-append-drop, arith}
use Rattle.std.proofs.lemmas.List.{take_all}
use Rattle.std.proofs.lemmas.List.Concat.{flat_map-append}
use Rattle.std.proofs.lemmas.List.Elements.{All-drop, All-take}
use Rattle.gj_cut.specs.declared.cut.Term.{Term}
use Rattle.gj_cut_text.specs.MixedLines.{named_line}
use Rattle.gj_cut_text.proofs.named.push_lines.Goals as goal

pub write_lines-start-requires-clause-columns : goal.write_lines-start-requires-clause-columns
write_lines-start-requires-clause-columns c =
    let below = λ (t : Term). t.column < length c.args.columns.now in
    subst (All below) (sym c.split_at.ensures.front)
    (All-take below c.min.result c.loop-left.left.now c.loop-left.invariant.below)

pub loop-left-preserved : goal.loop-left-preserved
loop-left-preserved c =
    let line = named_line c.args.word.now c.args.columns.now in
    let below = λ (t : Term). t.column < length c.args.columns.now in
    let out = c.loop-left.out.items in
    let left = c.loop-left.left.now in
    let few = c.split_at.result.0.now in
    let rest = c.split_at.result.1.now in
    let text = c.write_lines-start.new.text in
    let start = c.write_lines-start.result in
    let whole : few ++ rest ≡ left =
    ap (λ xs. xs ++ rest) c.split_at.ensures.front
    ∙ ap (λ xs. take c.min.result left ++ xs) c.split_at.ensures.back
    ∙ take-append-drop c.min.result left in
    let lines : take (1700 - start) (drop start text) ≡ flat_map line few =
    take_all (1700 - start) (drop start text)
    (omega (
      arith,
      length-drop start text,
      c.write_lines-start.ensures.space,
      c.loop-left.invariant.space,
    ))
    ∙ c.write_lines-start.ensures.written in
    record {
      written = ap (λ xs. xs ++ flat_map line rest)
          (c.in_ok-extend_from_slice.ensures.items ∙ ap (λ xs. out ++ xs) lines)
          ∙ append_assoc out (flat_map line few) (flat_map line rest)
          ∙ ap (λ xs. out ++ xs) (sym (flat_map-append line few rest))
          ∙ ap (λ xs. out ++ flat_map line xs) whole ∙ c.loop-left.invariant.written;
      below = subst (All below) (sym c.split_at.ensures.back)
          (All-drop below c.min.result left c.loop-left.invariant.below);
      space = c.write_lines-start.ensures.space ∙ c.loop-left.invariant.space;
    }
