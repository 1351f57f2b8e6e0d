use Rattle.std.proofs.Common.{◌*◌, rules}
use Rattle.gj_shape.specs.FunctionData.{at}
use Rattle.gj_shape.proofs.ListEntries.{entries_pushed}
use Rattle.gj_shape.proofs.NumeratorReadings.{rest_read}
use Rattle.gj_transform.proofs.entries.entries_at_multiples.Goals as goal
use Rattle.std.proofs.Common.{refl}

pub loop-i-preserved : goal.loop-i-preserved
loop-i-preserved c =
    let xs = c.args.entries.now in
    let i = c.loop-i.i in
    entries_pushed (λ j. at xs (j * c.args.factor)) i _ _ _ c.loop-i.invariant
    c.in_ok-push.ensures.items
    (rest_read xs xs (i * c.args.factor) _ _ refl refl refl (search rules))
