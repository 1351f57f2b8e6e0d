use Rattle.std.proofs.Common.{length, take, ap, ◌∙◌, arith}
use Rattle.gj_proof.specs.ProofText.{group_lines}
use Rattle.gj_proof.proofs.AtPlaces.{with_place}
use Rattle.gj_proof.proofs.LineCounts.{length-group}
use Rattle.gj_check.proofs.OwnLineNumbers.{one_group_more}
use Rattle.gj_check.proofs.extremality.line_behind_groups.Goals as goal

pub loop-row-preserved : goal.loop-row-preserved
loop-row-preserved c =
    let rows = c.args.rows.now in
    let i = c.loop-row.row-index in
    let row = c.row-item.result in
    let so_far = c.loop-row.invariant in
    let more = ap (λ rs. length (group_lines 0 rs))
    (with_place rows i row c.loop-row-test.true c.row-item.is)
    ∙ one_group_more 0 (take i rows) row in
    let one = length-group 0 row in
    let line = c.in_ok-line.ensures in
    omega arith
