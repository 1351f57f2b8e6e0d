use Rattle.std.proofs.Common.{List, ◌+◌, take, refl, sym, subst}
use Rattle.std.specs.List.{AllZip}
use Rattle.std.proofs.lemmas.List.Elements.{all_zip_more}
use Rattle.gj_fields.specs.Rational.{whole}
use Rattle.gj_problem.specs.declared.problem.Entry.{Entry}
use Rattle.gj_problem.proofs.OneColumn.{IsTimes}
use Rattle.gj_relaxed.specs.RelaxedSteps.{sign_of}
use Rattle.gj_relaxed.proofs.forms.as_inequality.Goals as goal

pub loop-entry-preserved : goal.loop-entry-preserved
loop-entry-preserved c =
    let es = c.as_slice-entry-items.result.now in
    let i = c.loop-entry.entry-index in
    let e = c.entry-item.result in
    let made : Entry = record { column = e.column; value = c.with_sign.result } in
    let Times : Entry → Entry → Type 0 = IsTimes (whole (sign_of c.args.is_turned)) in
    subst (λ (fs : List Entry). AllZip Times (take (i + 1) es) fs)
    (sym {A = List Entry} c.in_ok-push.ensures.items)
    (all_zip_more Times es c.loop-entry.entries.items i e made c.loop-entry-test.true
    c.entry-item.is c.loop-entry.invariant
    (refl, c.with_sign.ensures))
