use Rattle.std.proofs.Common.{drop}
use Rattle.gj_top.proofs.InputLines.{lines_of_rule}
use Rattle.gj_top.proofs.cut_input.cut_input_of.Goals as goal

pub tableau_behind-requires-clause-rule : goal.tableau_behind-requires-clause-rule
tableau_behind-requires-clause-rule c = (c.in_ok-rule.rule, c.in_ok-rule.ensures.found.1)

pub returns : goal.returns
returns c =
    let rest = drop c.in_ok-rule.len c.args.input.now in
    record {
      rest = rest;
      «rule» = lines_of_rule c.args.input.now c.in_ok-rule.rule rest c.in_ok-rule.ensures.found.1;
      tableau = c.in_ok-tableau.ensures.found;
    }
