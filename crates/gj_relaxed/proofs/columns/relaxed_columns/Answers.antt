use Rattle.std.proofs.Common.{List, ◌+◌, take, drop, sym, subst}
use Rattle.std.specs.List.{AllZip}
use Rattle.std.proofs.lemmas.List.{take_all}
use Rattle.std.proofs.lemmas.List.Elements.{all_zip_more}
use Rattle.gj_problem.specs.declared.problem.Column.{Column}
use Rattle.gj_problem.proofs.Prefixes.{split_at}
use Rattle.gj_relaxed.specs.RelaxedProblems.{IsRelaxedColumn, AreWideColumns}
use Rattle.gj_relaxed.proofs.NarrowRelaxing.{narrow_next_column}
use Rattle.gj_relaxed.proofs.columns.relaxed_columns.Goals as goal

pub returns-in_err-relaxed_column-clause-wide : goal.returns-in_err-relaxed_column-clause-wide
returns-in_err-relaxed_column-clause-wide c = λ fault.
    let cs = c.args.columns.now in
    let i = c.loop-column.column-index in
    let column = c.column-item.result in
    record {
      before = take i cs;
      next = column;
      after = drop (i + 1) cs;
      place = split_at cs i column c.loop-column-test.true c.column-item.is;
      wide = c.in_err-relaxed_column.ensures.wide;
    }

pub loop-column-preserved : goal.loop-column-preserved
loop-column-preserved c =
    let cs = c.args.columns.now in
    let i = c.loop-column.column-index in
    let column = c.column-item.result in
    record {
      made = subst (λ (made : List Column). AllZip (IsRelaxedColumn c.args.grid)
          (take (i + 1) cs) made) (sym {A = List Column} c.in_ok-push.ensures.items)
          (all_zip_more (IsRelaxedColumn c.args.grid) cs c.loop-column.made.items i column
          c.in_ok-relaxed_column.field-0 c.loop-column-test.true
          c.column-item.is c.loop-column.invariant.made c.in_ok-relaxed_column.ensures.column);
      narrow = narrow_next_column c.args.grid cs i column c.loop-column-test.true c.column-item.is
          c.loop-column.invariant.narrow
          c.in_ok-relaxed_column.ensures.narrow;
    }

pub returns-clause-columns : goal.returns-clause-columns
returns-clause-columns c =
    subst (λ (cs : List Column). AllZip (IsRelaxedColumn c.args.grid) cs c.loop-column.made.items)
    (take_all c.loop-column.column-index c.args.columns.now c.loop-column-test.false)
    c.loop-column.invariant.made

pub returns-clause-narrow : goal.returns-clause-narrow
returns-clause-narrow c =
    subst (λ (cs : List Column). AreWideColumns c.args.grid cs → ⊥)
    (take_all c.loop-column.column-index c.args.columns.now c.loop-column-test.false)
    c.loop-column.invariant.narrow
