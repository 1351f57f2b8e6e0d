use Rattle.std.proofs.lemmas.Bool.{false≢true}
use Rattle.std.proofs.lemmas.Result.{err_from_is_err_and}
use Rattle.std.proofs.Common.{refl}
use Rattle.gj_forms.proofs.ListRead.{until_on, until_end, until_at_fault}
use Rattle.gj_proof.proofs.CutTexts.{BeginsEnd}
use Rattle.gj_limit_proof.specs.LimitGrammar.{group_part}
use Rattle.gj_limit_proof.proofs.GroupTexts.{shorter_behind_group}
use Rattle.gj_limit_proof.proofs.groups.groups_at.Goals as goal

pub loop-alloc-preserved : goal.loop-alloc-preserved
loop-alloc-preserved c =
    until_on (group_part c.args.order) BeginsEnd _ _ _ _ _ _ c.loop-alloc.invariant
    (λ is. false≢true (c.loop-alloc-test.ensures.1 is))
    c.in_ok-row.ensures c.in_ok-push.ensures.items

pub loop-alloc-smaller : goal.loop-alloc-smaller
loop-alloc-smaller c = shorter_behind_group _ _ _ c.in_ok-row.row c.in_ok-row.ensures

pub returns : goal.returns
returns c = until_end (group_part c.args.order) BeginsEnd _ _ _ c.loop-alloc.invariant
    (c.loop-alloc-test.ensures.0 refl)

pub returns-in_err-row : goal.returns-in_err-row
returns-in_err-row c =
    let p = err_from_is_err_and c.from_residual.result c.from_residual.ensures.1 in
    rw (p.1, p.2)
    (until_at_fault (group_part c.args.order) BeginsEnd _ _ _ _ c.loop-alloc.invariant
    (λ is. false≢true (c.loop-alloc-test.ensures.1 is)) c.in_err-row.ensures)
