use Rattle.std.proofs.Common.{ℕ, List, ◌++◌, ap, ◌∙◌, arith}
use Rattle.gj_forms.specs.LineForms.{line_of}
use Rattle.gj_problem.specs.declared.problem.Column.{Column}
use Rattle.gj_problem_text.specs.PrintedProblem.{column_told}
use Rattle.gj_problem_text.specs.ProblemLines.{problem_form}
use Rattle.gj_derivation_text.proofs.PrintedPairs.{one_pair, all_pairs}
use Rattle.gj_derivation_text.proofs.print.push_columns.Goals as goal

pub loop-j-preserved : goal.loop-j-preserved
loop-j-preserved c =
    one_pair (λ name (c : Column). line_of problem_form (column_told name c)) _ _ _ c.args.names.now
    c.args.columns.now c.loop-j.j c.index-names-j.result c.index-columns-j.result
    (omega (arith, c.loop-j-test.true, c.requires)) c.loop-j-test.true c.index-names-j.is
    c.index-columns-j.is c.loop-j.invariant
    (c.in_ok-push_column.ensures
    ∙ ap (λ (name : List ℕ). c.loop-j.out.items ++ line_of problem_form
    (column_told name c.index-columns-j.result)) c.bytes.ensures.value)

pub returns : goal.returns
returns c =
    all_pairs (λ name (c : Column). line_of problem_form (column_told name c)) _ _ c.args.names.now
    c.args.columns.now c.loop-j.j c.loop-j-test.false c.loop-j.invariant
