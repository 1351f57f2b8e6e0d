use Rattle.std.proofs.Common.{ap, ◌∙◌}
use mir.Val.{of_z}
use mir.Syntax.{w128}
use Rattle.std.proofs.lemmas.Int.{to_z-of_z}
use Rattle.gj_lex.proofs.CanonicalTexts.{lowest_parts}
use Rattle.gj_lex.proofs.canonical.long_in_lowest_terms.Goals as goal
use Rattle.gj_lex.proofs.canonical.long_in_lowest_terms.Goals.{then-num-via-then-num, then-num-via-else-num+then-den}

pub returns-then-num-clause-only : goal.returns-then-num-clause-only
returns-then-num-clause-only c = λ lowest.
    let num_fits = c.ranges.num in
    let den_fits = c.ranges.den in
    let is = simp to_z-of_z at c.in_ok-x.ensures.value in
    let parts = lowest_parts c.in_ok-x.x c.args.num c.args.den is lowest in
    let num = c.num.ensures in
    absurd
    (elim c.then-num.branch [
      | then-num-via-then-num w ↦ w.if-num.true (ap (of_z w128) (num ∙ parts.0))
      | then-num-via-else-num+then-den w ↦ w.if-den.true (ap (of_z w128) (w.den.ensures ∙ parts.1))
    ])
