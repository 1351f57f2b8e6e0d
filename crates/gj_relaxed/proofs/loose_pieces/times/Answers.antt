use Rattle.std.proofs.Common.{List, [], refl, sym, subst, subst₂}
use Rattle.std.specs.List.{AllZip}
use Rattle.std.proofs.lemmas.List.{take_all}
use Rattle.gj_fields.specs.Rational.{rational}
use Rattle.gj_problem.specs.declared.problem.Entry.{Entry}
use Rattle.gj_problem.proofs.AddedSums.{product_value}
use Rattle.gj_problem.proofs.OneColumn.{IsTimes, multiple_more}
use Rattle.gj_relaxed.proofs.LoosePieces.{product_fits, entry_fits}
use Rattle.gj_relaxed.proofs.loose_pieces.times.Goals as goal

pub loop-entry-init : goal.loop-entry-init
loop-entry-init c = subst (λ (made : List Entry). AllZip (IsTimes (rational c.args.factor)) [] made)
    (sym c.in_ok-scaled.ensures.items) tt

pub loop-entry-preserved : goal.loop-entry-preserved
loop-entry-preserved c =
    let made : Entry = record {
      column = c.entry-item.result.column;
      value =
          c.in_ok-value.value;
    } in
    multiple_more c.args.entries.now c.loop-entry.entry-index c.entry-item.result made c.args.factor
    c.loop-entry.scaled.items
    c.push.new.self.items c.loop-entry-test.true c.entry-item.is c.loop-entry.invariant
    c.in_ok-push.ensures.items refl
    c.in_ok-value.ensures.value

pub returns-clause-is : goal.returns-clause-is
returns-clause-is c = record {
  entries_are = subst₂ (λ (es made : List Entry). AllZip (IsTimes (rational c.args.factor)) es made)
      (take_all c.loop-entry.entry-index c.args.entries.now c.loop-entry-test.false)
      (sym c.of.ensures) c.loop-entry.invariant;
  right_is = product_value c.args.factor c.args.right c.in_ok-right.right
      c.in_ok-right.ensures.value;
}

pub returns-in_err-value-clause-wide : goal.returns-in_err-value-clause-wide
returns-in_err-value-clause-wide c = λ fault q is.
    c.in_err-value.ensures.wide
    (entry_fits c.args.factor c.args.entries.now q.entries c.loop-entry.entry-index
    c.entry-item.result c.loop-entry-test.true c.entry-item.is
    is.entries_are)

pub returns-in_err-right-clause-wide : goal.returns-in_err-right-clause-wide
returns-in_err-right-clause-wide c = λ fault q is.
    c.in_err-right.ensures.wide (product_fits c.args.factor c.args.right q.right is.right_is)
