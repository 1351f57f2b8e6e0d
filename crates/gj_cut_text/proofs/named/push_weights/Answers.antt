use Rattle.std.proofs.Common.{◌++◌, map, ap, ◌∙◌}
use Rattle.gj_cut_text.proofs.NamedTerms.{are_named, named_term, weight_lines_are}
use Rattle.gj_cut_text.proofs.named.push_weights.Goals as goal

pub returns : goal.returns
returns c =
    let columns = c.args.columns.now in
    let weights = c.args.weights.now in (
      map (named_term columns) weights,
      are_named columns weights,
      c.in_ok-push_any_lines.ensures
          ∙ ap (λ xs. c.args.out.now.items ++ xs) (weight_lines_are columns weights),
    )
