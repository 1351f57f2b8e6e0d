use Rattle.std.proofs.Common.{◌-◌, ◌++◌, List, ℕ, drop, length, codes, decimal, ap, ◌∙◌, subst, arith}
use Rattle.std.proofs.lemmas.List.{length-drop, take_all}
use Rattle.gj_function_lines.specs.FunctionLines.{line}
use Rattle.gj_row.specs.FirstFault.{IsFirstFaultOfTableau}
use Rattle.gj_top.specs.Cut.RefusesCutInput.{of_tableau}
use Rattle.gj_top.proofs.cut_input.tableau_behind.Goals as goal

pub returns-in_ok-line-in-Err-Refused-clause-refused :
    goal.returns-in_ok-line-in-Err-Refused-clause-refused
returns-in_ok-line-in-Err-Refused-clause-refused c =
    let input = c.args.input.now in
    let rest = drop c.args.len input in
    let long = length-drop c.args.len input in
    let n = c.in-Err-Refused.number in
    let e = c.in-Err-Refused.reason in
    of_tableau (record {
      «rule» = c.requires.rule.0;
      rest = rest;
      begins = c.requires.rule.1;
      record_number = n;
      reason = e;
      first = subst (λ (text : List ℕ). IsFirstFaultOfTableau text n e)
          (take_all (length input - c.args.len) rest (omega arith))
          (rw c.in-Err-Refused.field-0-is at c.in-Err-Refused.ensures.refused);
      spelled = c.in_ok-line-in-Err-Refused.ensures
          ∙ ap (λ word. line (codes "refused record " ++ decimal n ++ codes " " ++ word))
          c.word.ensures;
    })
