use Rattle.std.proofs.Common.{Bool, ◌+◌, ◌-◌, ◌&&◌, ◌||◌, nat_lt, nat_le, ap, ap₂, ◌∙◌}
use Rattle.gj_loops.specs.IndexSets.{has}
use Rattle.gj_loops.proofs.Shifts.{turned_bits}
use Rattle.gj_loops.proofs.index_set.IndexSet.turned.Goals as goal

pub returns : goal.returns
returns c i =
    let p = has c.args.self.now in
    let s = c.args.s in
    let n = c.args.n in
    let both = has c.both_up_and_down.result i in
    let within = c.below-within.ensures in
    turned_bits p i s n both (has c.and.result i) c.requires.period
    (c.both_up_and_down.ensures i
    ∙ ap₂ (λ (x y : Bool). (nat_lt i 1024 && (nat_le s i && (p (i - s) && x)))
    || (p (i + (n - s)) && y))
    (within (i - s)) (within (i + (n - s))))
    (c.and.ensures i ∙ ap (λ b. both && b) (within i)) c.requires.step
