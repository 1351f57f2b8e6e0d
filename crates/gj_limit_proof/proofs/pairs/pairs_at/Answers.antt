use Rattle.std.proofs.Common.{arith}
use Rattle.std.proofs.lemmas.Result.{err_from_is_err_and}
use Rattle.gj_forms.specs.Parts.{IsFaultOf}
use Rattle.gj_forms.proofs.ListRead.{times_at_fault}
use Rattle.gj_forms.proofs.PartLaws.{passed_on}
use Rattle.gj_limit_proof.specs.LimitGrammar.{pair_part, pairs_part}
use Rattle.gj_limit_proof.proofs.PairsRead.{pairs_begin, pairs_on, pairs_end}
use Rattle.gj_limit_proof.proofs.pairs.pairs_at.Goals as goal

pub loop-init : goal.loop-init
loop-init c = pairs_begin c.args.count _ _ _ c.no_numbers-first.ensures c.no_numbers-second.ensures

pub loop-preserved : goal.loop-preserved
loop-preserved c =
    pairs_on c.args.count c.loop.counter _ _ _ _ _ _ _ (c.in_ok-x.x, c.in_ok-x.y) c.loop.invariant
    (omega arith) c.in_ok-x.ensures
    c.in_ok-push_triple.ensures c.in_ok-push_triple-2.ensures

pub returns-in_err-x-clause-fault : goal.returns-in_err-x-clause-fault
returns-in_err-x-clause-fault c =
    let p = err_from_is_err_and c.from_residual.result c.from_residual.ensures.1 in
    passed_on (IsFaultOf (pairs_part c.args.count) c.args.text.now) _ _ _ p.1 p.2
    (times_at_fault pair_part c.args.count c.loop.counter _ _ _ c.loop.invariant.leaves
    (omega arith) _ c.in_err-x.ensures)

pub returns-clause-found : goal.returns-clause-found
returns-clause-found c =
    pairs_end c.args.count c.loop.counter _ _ _ _ c.loop.invariant (let over = c.loop-test.false in
    omega arith)
