use Rattle.std.proofs.Common.{rules, ◌≡◌, ℕ, ℤ, length, pos, get_or, to_z, of_z, subst, subst₂, arith}
use Rattle.std.proofs.lemmas.Int.{to_z-of_z}
use Rattle.gj_problem.specs.EntriesOver.{AreEntriesOver, IsNumeratorPushed}
use Rattle.gj_problem.proofs.EntriesOver.{no_entry_over, next_entry_over}
use Rattle.gj_problem.proofs.combination.entries_over.Goals as goal
use mir.Syntax.{w128}

pub loop-column-init : goal.loop-column-init
loop-column-init c = record {
  entries = no_entry_over _ c.args.numerators.now c.new-entries.result.items
      c.new-entries.ensures.items;
  below = omega arith;
}

pub loop-column-preserved : goal.loop-column-preserved
loop-column-preserved c =
    let ns = c.args.numerators.now in
    let i = c.loop-column.column in
    let read = to_z-of_z w128 (get_or ns i (pos 0)) (search rules) in
    let pushed : IsNumeratorPushed i (get_or ns i (pos 0))
    (to_z w128 (of_z w128 c.args.denominator)) c.loop-column.entries.items
    c.push_numerator.new.entries.items =
    subst (λ (n : ℤ). IsNumeratorPushed i n (to_z w128 (of_z w128 c.args.denominator))
    c.loop-column.entries.items c.push_numerator.new.entries.items)
    read c.in_ok-push_numerator.ensures in
    record {
      entries = next_entry_over _ ns i
          (pos 0) c.loop-column.entries.items c.push_numerator.new.entries.items
          c.loop-column-test.true
          c.loop-column.invariant.entries pushed;
      below = omega (arith, c.loop-column-test.true);
    }

pub returns-clause-entries : goal.returns-clause-entries
returns-clause-entries c =
    let ns = c.args.numerators.now in
    let end : c.loop-column.column ≡ length ns =
    omega (arith, c.loop-column-test.false, c.loop-column.invariant.below) in
    subst₂ (λ (d : ℤ) (k : ℕ). AreEntriesOver d ns k c.loop-column.entries.items)
    (to_z-of_z w128 c.args.denominator c.ranges.denominator) end
    c.loop-column.invariant.entries
