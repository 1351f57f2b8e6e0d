use Rattle.std.proofs.Common.{ℕ, List, ◌++◌, ap, ◌∙◌, arith}
use Rattle.gj_problem.specs.declared.problem.Constraint.{Constraint}
use Rattle.gj_problem_text.specs.PrintedProblem.{constraint_told, printed}
use Rattle.gj_derivation_text.proofs.PrintedPairs.{one_pair, all_pairs}
use Rattle.gj_derivation_text.proofs.print.push_constraints.Goals as goal

pub loop-i-preserved : goal.loop-i-preserved
loop-i-preserved c =
    let lines = λ (name : List ℕ) (d : Constraint). printed
    (constraint_told c.args.columns.now name d) in
    one_pair lines _ _ _ c.args.names.now c.args.constraints.now c.loop-i.i c.index-names-i.result
    c.index-constraints-i.result
    (omega (arith, c.loop-i-test.true, c.requires)) c.loop-i-test.true c.index-names-i.is
    c.index-constraints-i.is c.loop-i.invariant
    (c.in_ok-push_constraint.ensures
    ∙ ap (λ (name : List ℕ). c.loop-i.out.items ++ lines name c.index-constraints-i.result)
    c.bytes.ensures.value)

pub returns : goal.returns
returns c =
    all_pairs (λ (name : List ℕ) (d : Constraint). printed
    (constraint_told c.args.columns.now name d)) _ _ c.args.names.now
    c.args.constraints.now c.loop-i.i c.loop-i-test.false c.loop-i.invariant
