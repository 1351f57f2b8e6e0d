use Rattle.std.proofs.Common.{◌++◌, ◌∷◌, [], length, take, map, ap, ◌∙◌, arith}
use Rattle.std.proofs.lemmas.List.{map-append}
use Rattle.gj_proof.specs.ProofText as plain
use Rattle.gj_proof.proofs.AtPlaces.{with_place}
use Rattle.gj_proof.proofs.LineCounts.{length-reductions}
use Rattle.gj_check.proofs.OwnLineNumbers.{one_group_more}
use Rattle.gj_limit_proof.specs.LimitText.{group_lines}
use Rattle.gj_limit_check.proofs.PlainClaims.{plain_row, count_of_groups}
use Rattle.gj_limit_check.proofs.extremality.line_behind_groups.Goals as goal

pub loop-row-preserved : goal.loop-row-preserved
loop-row-preserved c =
    let rows = c.args.rows.now in
    let i = c.loop-row.row-index in
    let row = c.row-item.result in
    let before = take i rows in
    let so_far = c.loop-row.invariant in
    let counted = ap (λ rs. length (group_lines 0 rs))
    (with_place rows i row c.loop-row-test.true c.row-item.is)
    ∙ count_of_groups (before ++ row ∷ [])
    ∙ ap (λ rs. length (plain.group_lines 0 rs)) (map-append plain_row before (row ∷ []))
    ∙ one_group_more 0 (map plain_row before) (plain_row row) in
    let others = count_of_groups before in
    let steps = ap (λ columns. length (plain.reduction_lines 0 0 columns)) c.as_slice.ensures
    ∙ length-reductions 0 0 row.reduce in
    let pivot = c.in_ok-pivot.ensures in
    let line = c.in_ok-line.ensures in
    omega arith
