use Rattle.std.proofs.Common.{arith, length-take, length-drop, ℕ}
use Rattle.std.proofs.lemmas.List.{take_rest}
use Rattle.gj_port.proofs.Writing.{write_more}
use Rattle.gj_port.proofs.whole.write_all.Goals as goal

pub loop-done-preserved : goal.loop-done-preserved
loop-done-preserved g c = record {
  within = omega (arith, length-take {A = ℕ}, length-drop {A = ℕ}, c.in_ok-done.ensures.some.1);
  told = write_more _ _ _ _ _ _ _ c.loop-done.invariant.told c.in_ok-done.ensures.told
      (take_rest c.args.bytes.now c.loop-done.done);
  count = omega arith;
  sure = omega (arith, c.in_ok-done.ensures.sure_falls);
}
