use Rattle.std.proofs.Common.{◌≡◌, ◌↔◌, inl, inr, IsTrue, All, List, sym, ap, subst, subst₂, ◌∙◌}
use Rattle.gj_frac.specs.Fits.{FitsProduct}
use Rattle.gj_fields.specs.Rational.{whole, rational, ◌*ℚ◌}
use Rattle.gj_problem.specs.declared.problem.Entry.{Entry}
use Rattle.gj_problem.specs.Problems.{IsWholeColumn}
use Rattle.gj_problem.specs.Rows.{IsMultiple}
use Rattle.gj_problem.specs.Aggregates.{IsScale, signed}
use Rattle.gj_problem.specs.WideRows.{numbers_of, IsWideScale, IsWideMultiple}
use Rattle.gj_problem.proofs.WideRoundings.{handed_on}
use Rattle.gj_problem.proofs.AddedSums.{quotient_value, negation_value}
use Rattle.gj_problem.proofs.NarrowRows.{narrow_slack}
use Rattle.gj_problem.proofs.slacks.slack.Goals as goal

pub returns-clause-slack : goal.returns-clause-slack
returns-clause-slack c =
    let k = c.args.constraint.now in
    let n = c.in_ok-scale.ensures.scale.0 in
    let factor = c.with_sign-factor.result in
    let entries_are = c.as_slice-entries.ensures in
    let factor_is : rational factor ≡ whole (signed k.sense n) =
    c.with_sign-factor.ensures n c.in_ok-scale.ensures.scale.2 in
    record {
      is_whole = subst (λ (es : List Entry). IsTrue c.have_whole_columns-is_whole.result
          ↔ All (λ e. IsWholeColumn c.args.problem.now e.column) es)
          entries_are c.have_whole_columns-is_whole.ensures;
      scale = n;
      scale_is = subst (λ (es : List Entry). IsScale k.right es c.have_whole_columns-is_whole.result
          n) entries_are c.in_ok-scale.ensures.scale.1;
      slack_is = subst₂ (λ f (es : List Entry). IsMultiple f es k.right
          c.in_ok-inequality.inequality) factor_is entries_are
          c.in_ok-inequality.ensures.is;
      entry_is = ap (λ f. f *ℚ rational c.in_ok-entry.entry) (sym factor_is)
          ∙ quotient_value c.neg.result factor c.in_ok-entry.entry c.in_ok-entry.ensures.value
          ∙ negation_value c.args.multiplier c.neg.result c.neg.ensures;
    }

pub returns-in_err-scale-clause-wide : goal.returns-in_err-scale-clause-wide
returns-in_err-scale-clause-wide c = λ fault.
    let k = c.args.constraint.now in
    let is_whole = c.have_whole_columns-is_whole.result in
    let entries_are = c.as_slice-entries.ensures in (
      is_whole,
      subst (λ (es : List Entry). IsTrue is_whole
          ↔ All (λ e. IsWholeColumn c.args.problem.now e.column) es) entries_are
          c.have_whole_columns-is_whole.ensures,
      inl (subst (λ (es : List Entry). IsWideScale k.right es is_whole) entries_are
          c.in_err-scale.ensures.wide),
    )

pub returns-in_err-entry-clause-wide : goal.returns-in_err-entry-clause-wide
returns-in_err-entry-clause-wide c = λ fault.
    let k = c.args.constraint.now in
    let n = c.in_ok-scale.ensures.scale.0 in
    let is_whole = c.have_whole_columns-is_whole.result in
    let entries_are = c.as_slice-entries.ensures in (
      is_whole,
      subst (λ (es : List Entry). IsTrue is_whole
          ↔ All (λ e. IsWholeColumn c.args.problem.now e.column) es) entries_are
          c.have_whole_columns-is_whole.ensures,
      inr (record {
        scale = n;
        scale_is = subst (λ (es : List Entry). IsScale k.right es is_whole n) entries_are
            c.in_ok-scale.ensures.scale.1;
        factor = c.with_sign-factor.result;
        factor_is = c.with_sign-factor.ensures n c.in_ok-scale.ensures.scale.2;
        turned = c.neg.result;
        turned_is = negation_value c.args.multiplier c.neg.result c.neg.ensures;
        wide = inl c.in_err-entry.ensures.wide;
      }),
    )

pub returns-in_err-inequality-clause-wide : goal.returns-in_err-inequality-clause-wide
returns-in_err-inequality-clause-wide c = λ fault.
    let k = c.args.constraint.now in
    let n = c.in_ok-scale.ensures.scale.0 in
    let is_whole = c.have_whole_columns-is_whole.result in
    let factor = c.with_sign-factor.result in
    let entries_are = c.as_slice-entries.ensures in (
      is_whole,
      subst (λ (es : List Entry). IsTrue is_whole
          ↔ All (λ e. IsWholeColumn c.args.problem.now e.column) es) entries_are
          c.have_whole_columns-is_whole.ensures,
      inr (record {
        scale = n;
        scale_is = subst (λ (es : List Entry). IsScale k.right es is_whole n) entries_are
            c.in_ok-scale.ensures.scale.1;
        factor = factor;
        factor_is = c.with_sign-factor.ensures n c.in_ok-scale.ensures.scale.2;
        turned = c.neg.result;
        turned_is = negation_value c.args.multiplier c.neg.result c.neg.ensures;
        wide = inr (subst (λ (es : List Entry). IsWideMultiple factor k.right es) entries_are
            (c.in_err-inequality.ensures.wide
            (handed_on c.from_residual-in_err-inequality.result _ _
            c.from_residual-in_err-inequality.ensures.1 fault)));
      }),
    )

pub returns-clause-narrow : goal.returns-clause-narrow
returns-clause-narrow c =
    let k = c.args.constraint.now in
    let n = c.in_ok-scale.ensures.scale.0 in
    let is_whole = c.have_whole_columns-is_whole.result in
    let factor = c.with_sign-factor.result in
    let entries_are = c.as_slice-entries.ensures in
    narrow_slack c.args.problem.now (record { multiplier = c.args.multiplier; constraint = k })
    is_whole n factor c.neg.result
    (subst (λ (es : List Entry). IsTrue is_whole
    ↔ All (λ e. IsWholeColumn c.args.problem.now e.column) es) entries_are
    c.have_whole_columns-is_whole.ensures)
    (subst (λ (es : List Entry). IsScale k.right es is_whole n) entries_are
    c.in_ok-scale.ensures.scale.1)
    (c.with_sign-factor.ensures n c.in_ok-scale.ensures.scale.2)
    (negation_value c.args.multiplier c.neg.result c.neg.ensures)
    (subst (λ (es : List Entry). IsWideScale k.right es is_whole →
    ⊥) entries_are c.in_ok-scale.ensures.narrow)
    c.in_ok-entry.ensures.fits
    (subst (λ (es : List Entry). All (FitsProduct factor) (numbers_of k.right es)) entries_are
    c.in_ok-inequality.ensures.fits)
