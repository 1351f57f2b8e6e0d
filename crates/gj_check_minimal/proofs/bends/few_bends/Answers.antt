use Rattle.std.proofs.Common.{◌+◌, slice_set, refl, ◌∙◌, arith}
use Rattle.std.proofs.lemmas.List.{length-set}
use Rattle.gj_check_minimal.specs.declared.bends.Bends.{Bends}
use Rattle.gj_check_minimal.proofs.BendTests.{IsPushed, bend_more, index_more}
use Rattle.gj_check_minimal.proofs.bends.few_bends.Goals as goal

pub loop-i-preserved : goal.loop-i-preserved
loop-i-preserved g c =
    let b = c.loop-i.bends in
    let h = c.loop-i.invariant in
    let few = h.1 in
    let long = h.3 in
    let most = c.min-most.ensures in
    let other = c.if-bends-most.false in
    let index = c.loop-i-test.true in
    let more : Bends = record {
      indices = slice_set b.indices b.count (c.loop-i.i + 1);
      count =
          b.count + 1;
    } in
    let pushed : IsPushed b more (c.loop-i.i + 1) =
    record { room = omega arith; count = refl; indices = refl } in (
      index_more c.args.count b more (c.loop-i.i + 1) (omega arith) pushed h.0,
      omega arith,
      λ values len periods. bend_more values b more c.loop-i.i pushed (h.2 values len periods),
      length-set b.indices b.count (c.loop-i.i + 1) ∙ long,
    )
