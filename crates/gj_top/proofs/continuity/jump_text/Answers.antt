use Rattle.std.proofs.Common.{◌≡◌, pos, codes, ◌++◌, w64, to_z, of_z, ap, subst₂, ◌∙◌, rules}
use Rattle.std.proofs.lemmas.Int.{to_z-of_z}
use Rattle.gj_frac.specs.Fraction.{IsRatio}
use Rattle.gj_function_lines.specs.FunctionLines.{fraction_line}
use Rattle.gj_top.proofs.continuity.jump_text.Goals as goal

pub returns : goal.returns
returns c =
    let numerator : to_z w64 (of_z w64 c.from.result) ≡ pos c.args.index =
    to_z-of_z w64 c.from.result (search rules) ∙ c.from.ensures in
    record {
      index = c.args.index;
      first = c.requires;
      point = c.ratio-point.result;
      point_is = subst₂ (λ n q. IsRatio c.ratio-point.result n (pos q)) numerator
          c.order.ensures.value c.ratio-point.ensures;
      spelled = c.in_ok-push_fraction_line.ensures
          ∙ ap (λ xs. xs ++ fraction_line (codes "not continuous ") c.ratio-point.result)
          c.new-text.ensures.items;
    }
