use Rattle.std.proofs.Common.{ℤ, List, to_z, of_z, refl, sym, subst, ◌∙◌}
use Rattle.std.proofs.lemmas.Int.{to_z-of_z}
use Rattle.std.proofs.lemmas.List.{take_all}
use Rattle.gj_frac.specs.Fraction.{IsRatio}
use Rattle.gj_problem.specs.declared.problem.Entry.{Entry}
use Rattle.gj_problem.specs.Combinations.{AreEntriesAdded}
use Rattle.gj_problem.proofs.Combinations.{no_entries, next_entry}
use Rattle.gj_problem.proofs.combination.Combination.add_entries.Goals as goal
use mir.Syntax.{w128}

pub loop-entry-init : goal.loop-entry-init
loop-entry-init c = record { factors = refl; added = λ x x_is cs r h. (cs, h, no_entries cs x) }

pub loop-entry-preserved : goal.loop-entry-preserved
loop-entry-preserved c = record {
  factors = c.in_ok-add_entry.ensures.factors ∙ c.loop-entry.invariant.factors;
  added = λ x x_is cs r h.
      let (now, parts, so_far) = c.loop-entry.invariant.added x x_is cs r h in
      let here = subst (λ (d : ℤ). IsRatio x (to_z w128 (of_z w128 c.args.factor)) d)
      (sym c.loop-entry.invariant.factors) x_is in
      let (next, next_parts, added) = c.in_ok-add_entry.ensures.added x here now r parts in (
        next,
        next_parts,
        next_entry cs now next x c.args.entries.now c.loop-entry.entry-index c.entry-item.result
            c.loop-entry-test.true c.entry-item.is so_far added,
      );
}

pub returns-clause-added : goal.returns-clause-added
returns-clause-added c = λ x x_is cs r h.
    let factor = to_z-of_z w128 c.args.factor c.ranges.factor in
    let (ds, parts, added) =
    c.loop-entry.invariant.added x
    (subst (λ (m : ℤ). IsRatio x m c.args.self.now.factors) (sym factor) x_is) cs r h in (
      ds,
      parts,
      subst (λ (es : List Entry). AreEntriesAdded cs x es ds)
          (take_all c.loop-entry.entry-index c.args.entries.now c.loop-entry-test.false) added,
    )
