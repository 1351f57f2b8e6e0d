use Rattle.std.proofs.Common.{length, map, ap, ◌∙◌, arith}
use Rattle.gj_elim.specs.KeptRows.{log_row}
use Rattle.gj_theory.proofs.Triangular.{rank_at_most}
use Rattle.gj_residue.proofs.KeptNumbers.{numbers_of_log}
use Rattle.gj_residue.proofs.settling.log_by_residues.Goals as goal

pub returns-clause-log : goal.returns-clause-log
returns-clause-log g c =
    let same = c.in_ok-basis.ensures.kept in
    let most = rank_at_most c.in_ok-basis.basis.columns c.in_ok-basis.basis.kept
    c.rank.ensures.triangular in
    let columns = c.in_ok-basis.ensures.columns in
    let rank = c.rank.ensures.count in
    let least = c.if-rank-columns.false in
    let len = ap length same in
    record {
      full = omega arith;
      log_is = c.into_log.ensures ∙ ap (map log_row) same;
    }

pub returns-clause-numbers : goal.returns-clause-numbers
returns-clause-numbers g c =
    numbers_of_log c.args.columns (g.R.RowSource.left c.args.rows.now) c.into_log.result.items
    (returns-clause-log g c)
