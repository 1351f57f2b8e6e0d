use Rattle.std.proofs.Common.{◌≡◌, ◌∙◌, sym, w64, to_z}
use Rattle.gj_family.specs.Numerators.{doubled_value}
use Rattle.gj_shape.proofs.ListEntries.{entries_pushed}
use Rattle.gj_family.proofs.Shapes.{doubled_at_zero, doubled_at_place, doubled_elsewhere}
use Rattle.gj_family.proofs.halves.doubled_values.Goals as goal
use Rattle.gj_family.proofs.halves.doubled_values.Goals.{then-i-eq0, else-i-eq0+then-i-place, else-i-eq0+else-i-place}

pub loop-i-preserved : goal.loop-i-preserved
loop-i-preserved c =
    let k = c.args.place in
    let i = c.loop-i.i in
    let is : to_z w64 c.if-i-eq0.entry-bits ≡ doubled_value k i =
    elim c.if-i-eq0.branch [
      | then-i-eq0 w ↦ w.entry-is ∙ sym (doubled_at_zero k i w.if-i-eq0.true)
      | else-i-eq0+then-i-place w ↦ w.entry-is
          ∙ sym (doubled_at_place k i w.if-i-eq0.false w.if-i-place.true)
      | else-i-eq0+else-i-place w ↦ w.entry-is
          ∙ sym (doubled_elsewhere k i w.if-i-eq0.false w.if-i-place.false)
    ] in
    entries_pushed _ _ _ _ _ c.loop-i.invariant c.in_ok-push.ensures.items is
