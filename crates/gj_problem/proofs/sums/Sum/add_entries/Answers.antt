use Rattle.std.proofs.Common.{◌+◌, List, take, drop, refl, subst, ◌∙◌}
use Rattle.std.proofs.lemmas.List.{take_all}
use Rattle.gj_frac.proofs.Refusals.{on_err}
use Rattle.gj_fields.specs.Rational.{Rational, rational}
use Rattle.gj_problem.specs.Rows.{dot}
use Rattle.gj_problem.specs.Steps.{IsWideWithin}
use Rattle.gj_problem.proofs.Prefixes.{split_at}
use Rattle.gj_problem.proofs.AddedSums.{nothing_added, entries_added, all_added}
use Rattle.gj_problem.specs.declared.problem.Entry.{Entry}
use Rattle.gj_problem.proofs.NarrowSums.{narrow_at_first, narrow_next}
use Rattle.gj_problem.proofs.sums.Sum.add_entries.Goals as goal

pub loop-entry-init : goal.loop-entry-init
loop-entry-init c = record {
  right = refl;
  count = refl;
  added = λ (point : List Rational). nothing_added (dot c.args.self.now.coefficients.items point)
      (rational c.args.factor);
  narrow = narrow_at_first c.args.self.now.coefficients.items c.args.factor;
}

pub loop-entry-preserved : goal.loop-entry-preserved
loop-entry-preserved c = record {
  right = c.add_entry.ensures.right ∙ c.loop-entry.invariant.right;
  count = c.add_entry.ensures.count ∙ c.loop-entry.invariant.count;
  added = λ (point : List Rational). entries_added point c.args.entries.now c.loop-entry.entry-index
      c.entry-item.result (rational c.args.factor)
      (dot c.args.self.now.coefficients.items point)
      (dot c.loop-entry.self.coefficients.items point)
      (dot c.add_entry.new.self.coefficients.items point) c.loop-entry-test.true c.entry-item.is
      (c.loop-entry.invariant.added point)
      (c.in_ok-add_entry.ensures.added point);
  narrow = narrow_next c.args.self.now.coefficients.items c.args.factor c.args.entries.now
      c.loop-entry.entry-index c.entry-item.result
      c.loop-entry.self.coefficients.items c.loop-entry-test.true c.entry-item.is
      c.loop-entry.invariant.count c.loop-entry.invariant.added
      c.loop-entry.invariant.narrow c.in_ok-add_entry.ensures.narrow;
}

pub returns-clause-added : goal.returns-clause-added
returns-clause-added c = λ (point : List Rational).
    all_added (dot c.args.self.now.coefficients.items point)
    (dot c.loop-entry.self.coefficients.items point) point c.args.entries.now
    c.loop-entry.entry-index (rational c.args.factor) c.loop-entry-test.false
    (c.loop-entry.invariant.added point)

pub returns-in_err-add_entry-clause-wide : goal.returns-in_err-add_entry-clause-wide
returns-in_err-add_entry-clause-wide c =
    let es = c.args.entries.now in
    let i = c.loop-entry.entry-index in
    on_err c.from_residual.result (IsWideWithin c.args.self.now.coefficients.items c.args.factor es)
    (record {
      before = take i es;
      entry = c.entry-item.result;
      after = drop (i + 1) es;
      place = split_at es i c.entry-item.result c.loop-entry-test.true c.entry-item.is;
      reached = c.loop-entry.self.coefficients.items;
      count = c.loop-entry.invariant.count;
      adds = c.loop-entry.invariant.added;
      wide = c.in_err-add_entry.ensures.wide;
    })

pub returns-clause-narrow : goal.returns-clause-narrow
returns-clause-narrow c =
    subst (λ (es : List Entry). IsWideWithin c.args.self.now.coefficients.items c.args.factor es →
    ⊥)
    (take_all c.loop-entry.entry-index c.args.entries.now c.loop-entry-test.false)
    c.loop-entry.invariant.narrow
