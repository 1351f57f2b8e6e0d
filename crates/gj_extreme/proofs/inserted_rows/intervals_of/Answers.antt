use Rattle.std.proofs.Common.{◌≡◌, length, replicate, refl, sym, ap, subst, arith, rules}
use Rattle.gj_shape.specs.SlopeRows.{component_in}
use Rattle.gj_extreme.specs.PairsLeft.{AreIntervalsOf}
use Rattle.gj_extreme.proofs.IntervalSets.{no_intervals, one_interval_more}
use Rattle.gj_extreme.proofs.inserted_rows.intervals_of.Goals.{then-number-len, else-number-len}
use Rattle.gj_extreme.proofs.inserted_rows.intervals_of.Goals as goal

pub loop-i-init : goal.loop-i-init
loop-i-init c =
    let none : c.in_ok-intervals.intervals.items ≡ replicate c.columns.result c.empty.result =
    search rules in
    no_intervals (component_in c.component-component.result.now)
    (length c.component-component.result.now) c.columns.result _ c.empty.result none
    c.empty.ensures

pub loop-i-preserved : goal.loop-i-preserved
loop-i-preserved c =
    let component = c.component-component.result.now in
    elim c.if-number-len.branch [
      | then-number-len w ↦
          subst (AreIntervalsOf (component_in component) (length component))
          (sym (ap (λ v. v.items) w.intervals-is))
          (one_interval_more (component_in component) (length component) c.loop-i.intervals.items
          w.index_mut.result.now w.insert.new.self
          (component_in component c.loop-i.i) c.loop-i.i
          (omega (arith, w.if-number-len.true, c.len.ensures)) w.index_mut.ensures.value refl
          w.insert.ensures c.loop-i.invariant)
      | else-number-len w ↦
          subst (AreIntervalsOf (component_in component) (length component))
          (sym (ap (λ v. v.items) w.intervals-is)) c.loop-i.invariant
    ]

pub returns : goal.returns
returns c =
    subst (λ xs. AreIntervalsOf (component_in xs) (length xs) c.loop-i.intervals.items)
    c.component-component.ensures c.loop-i.invariant
