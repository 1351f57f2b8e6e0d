use Rattle.std.proofs.Common.{All, List, [], map, refl, sym, subst, subst₂}
use Rattle.std.specs.List.{AllZip}
use Rattle.std.proofs.lemmas.List.{take_all}
use Rattle.std.proofs.lemmas.List.Elements.{All-nil, All-cons, All-head, All-tail, All-map, All-more}
use Rattle.gj_frac.specs.Fits.{FitsProduct}
use Rattle.gj_fields.specs.Rational.{rational}
use Rattle.gj_problem.specs.declared.problem.Entry.{Entry}
use Rattle.gj_problem.proofs.AddedSums.{product_value}
use Rattle.gj_problem.proofs.OneColumn.{IsTimes, multiple_more}
use Rattle.gj_problem.proofs.WideScales.{value_in}
use Rattle.gj_problem.specs.WideRows.{numbers_of}
use Rattle.gj_problem.proofs.Multiples.{signs_fit}
use Rattle.gj_problem.proofs.slacks.times.Goals as goal

pub loop-entry-init : goal.loop-entry-init
loop-entry-init c = record {
  are = subst (λ (made : List Entry). AllZip (IsTimes (rational c.args.factor)) [] made)
      (sym c.in_ok-scaled.ensures.items) tt;
  fit = All-nil (λ (e : Entry). FitsProduct c.args.factor e.value);
}

pub loop-entry-preserved : goal.loop-entry-preserved
loop-entry-preserved c =
    let made : Entry = record {
      column = c.entry-item.result.column;
      value =
          c.in_ok-value.value;
    } in
    let P : Entry → Type 0 = λ e. FitsProduct c.args.factor e.value in
    record {
      are = multiple_more c.args.entries.now c.loop-entry.entry-index c.entry-item.result made
          c.args.factor c.loop-entry.scaled.items
          c.push.new.self.items c.loop-entry-test.true c.entry-item.is c.loop-entry.invariant.are
          c.in_ok-push.ensures.items refl
          c.in_ok-value.ensures.value;
      fit = All-more P c.args.entries.now c.loop-entry.entry-index c.entry-item.result
          c.loop-entry-test.true c.loop-entry.invariant.fit
          (subst P c.entry-item.is c.in_ok-value.ensures.fits);
    }

pub returns-then-is_sign-clause-fits : goal.returns-then-is_sign-clause-fits
returns-then-is_sign-clause-fits c =
    signs_fit c.args.factor (numbers_of c.args.right c.args.entries.now)
    (c.is_sign.ensures.0 c.if-is_sign.true)

pub returns-clause-is : goal.returns-clause-is
returns-clause-is c = record {
  entries_are = subst₂ (λ (es made : List Entry). AllZip (IsTimes (rational c.args.factor)) es made)
      (take_all c.loop-entry.entry-index c.args.entries.now c.loop-entry-test.false)
      (sym c.of.ensures) c.loop-entry.invariant.are;
  right_is = product_value c.args.factor c.args.right c.in_ok-right.right
      c.in_ok-right.ensures.value;
}

pub returns-clause-fits : goal.returns-clause-fits
returns-clause-fits c =
    let P : Entry → Type 0 = λ e. FitsProduct c.args.factor e.value in
    All-cons (FitsProduct c.args.factor) c.args.right
    (map (λ (e : Entry). e.value) c.args.entries.now) c.in_ok-right.ensures.fits
    (All-map (FitsProduct c.args.factor) (λ (e : Entry). e.value) c.args.entries.now
    (subst (All P) (take_all c.loop-entry.entry-index c.args.entries.now c.loop-entry-test.false)
    c.loop-entry.invariant.fit))

pub returns-in_err-value-clause-wide : goal.returns-in_err-value-clause-wide
returns-in_err-value-clause-wide c = λ fault all.
    let values = map (λ (f : Entry). f.value) c.args.entries.now in
    c.in_err-value.ensures.wide
    (value_in (FitsProduct c.args.factor) c.args.entries.now c.loop-entry.entry-index
    c.entry-item.result c.loop-entry-test.true c.entry-item.is
    (All-tail (FitsProduct c.args.factor) c.args.right values all))

pub returns-in_err-right-clause-wide : goal.returns-in_err-right-clause-wide
returns-in_err-right-clause-wide c = λ fault all.
    let values = map (λ (f : Entry). f.value) c.args.entries.now in
    c.in_err-right.ensures.wide (All-head (FitsProduct c.args.factor) c.args.right values all)
