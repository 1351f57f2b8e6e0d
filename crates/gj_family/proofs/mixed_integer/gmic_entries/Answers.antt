use Rattle.std.proofs.Common.{◌≡◌, ◌≤◌, ◌∙◌, sym, ap, rules, arith, pos, w64}
use Rattle.std.proofs.lemmas.Int.{to_z-of_z}
use Rattle.gj_shape.specs.Gmic.{gmic_table}
use Rattle.gj_shape.proofs.ListEntries.{entries_pushed}
use Rattle.gj_family.proofs.Tables.{table_rising, table_falling}
use Rattle.gj_family.proofs.mixed_integer.gmic_entries.Goals as goal
use Rattle.gj_family.proofs.mixed_integer.gmic_entries.Goals.{then-i-place, else-i-place}

pub loop-i-preserved : goal.loop-i-preserved
loop-i-preserved c =
    let i = c.loop-i.i in
    let is : c.if-i-place.entry ≡ gmic_table c.args.order c.args.place i =
    elim c.if-i-place.branch [
      | then-i-place w ↦ w.entry-is
          ∙ sym (table_rising c.args.order c.args.place i c.loop-i-test.true w.if-i-place.true)
      | else-i-place w ↦
          let high : c.args.place ≤ i = omega arith in
          w.entry-is ∙ sym (table_falling c.args.order c.args.place i c.requires.place_fits.1 high
          (omega arith))
    ] in
    entries_pushed (λ j. pos (gmic_table c.args.order c.args.place j)) i _ _ _ c.loop-i.invariant
    c.in_ok-push.ensures.items
    (to_z-of_z w64 c.from.result (search rules) ∙ c.from.ensures ∙ ap pos is)
