use Rattle.std.proofs.Common.{Some, arith, ◌≤◌, length}
use Rattle.std.proofs.lemmas.Grind.{common_steps}
use Rattle.std.proofs.lemmas.List.{take-append-le}
use Rattle.gj_port.proofs.Reading.{read_more, read_end}
use Rattle.gj_port.proofs.whole.read_on.Goals as goal

pub returns-then-count-eq0-clause-told : goal.returns-then-count-eq0-clause-told
returns-then-count-eq0-clause-told g c =
    λ all read. read_end (Some all) _ _ c.loop-bytes.bytes _ c.args.limit _
    (c.loop-bytes.invariant.told all read)
    c.in_ok-count.ensures.told c.if-count-eq0.true

pub loop-bytes-preserved : goal.loop-bytes-preserved
loop-bytes-preserved g c =
    let fits : c.in_ok-count.count ≤ length c.read.new.buf =
    omega (arith, c.in_ok-count.ensures.within, c.read.auto.buf) in
    record {
      within = grind (arith, common_steps);
      buffer = grind (arith, common_steps);
      told = λ all read. read_more (Some all) _ _ _ _ _ _ _
          (c.loop-bytes.invariant.told all read) c.in_ok-count.ensures.told
          c.in_ok-extend_from_slice.ensures.items (take-append-le _ _ _ fits);
      count = omega arith;
      steady = cc;
    }
