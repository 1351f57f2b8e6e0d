use Rattle.std.proofs.Common.{length, ap, arith}
use Rattle.std.proofs.lemmas.Result.{IfOk-weaker, on_err_weaker}
use Rattle.gj_proof.specs.ProofText.{terms_of}
use Rattle.gj_proof.proofs.LineCounts.{length-terms, length-row}
use Rattle.gj_proof.proofs.layout.line_behind_row.Goals as goal

pub returns-in-Cut : goal.returns-in-Cut
returns-in-Cut c =
    let own = ap (λ l. length (terms_of l)) c.in-Cut.is in
    let slice = ap length c.as_slice.ensures in
    let terms = length-terms 0 0 c.as_slice.result.now in
    let some = c.lines_with_terms.ensures in
    let all = length-row 0 c.args.row.now in
    record {
      number = IfOk-weaker c.line_below.result _ _
          (λ n is. omega arith) c.line_below.ensures.number;
      memory = on_err_weaker c.line_below.result (λ high. omega arith) c.line_below.ensures.memory;
    }

pub returns-in-Skip : goal.returns-in-Skip
returns-in-Skip c =
    let none = ap (λ l. length (terms_of l)) c.in-Skip.is in
    let all = length-row 0 c.args.row.now in
    record {
      number = IfOk-weaker c.line_below-in-Skip.result _ _
          (λ n is. omega arith) c.line_below-in-Skip.ensures.number;
      memory = on_err_weaker c.line_below-in-Skip.result
          (λ high. omega arith) c.line_below-in-Skip.ensures.memory;
    }
