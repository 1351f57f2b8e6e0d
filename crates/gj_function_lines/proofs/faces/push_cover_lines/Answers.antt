use Rattle.std.proofs.Common.{List, ◌++◌, flat_map, take, get_or, sym, ap, ◌∙◌}
use Rattle.std.proofs.lemmas.List.{flat_map_more, take_more}
use Rattle.gj_shape.specs.declared.extremality.CoverLine.{CoverLine}
use Rattle.gj_shape.specs.declared.faces.FaceKind.TheVariants.{Vertex}
use Rattle.gj_function_lines.specs.FaceLines.{cover_line}
use Rattle.gj_function_lines.proofs.faces.push_cover_lines.Goals as goal

pub loop-line-preserved : goal.loop-line-preserved
loop-line-preserved c =
    let before = c.args.out.now.items in
    let lines = c.args.lines.now in
    let i = c.loop-line.line-index in
    let none : CoverLine =
    record { interval = 0; from = 0; face = record { kind = Vertex; a = 0; b = 0 } } in
    let next = get_or lines i none in
    c.in_ok-push_cover_line.ensures ∙ ap (λ t. t ++ cover_line next) c.loop-line.invariant
    ∙ flat_map_more cover_line before (take i lines) next
    ∙ ap (λ (ls : List CoverLine). before ++ flat_map cover_line ls)
    (sym (take_more lines i none c.loop-line-test.true))
