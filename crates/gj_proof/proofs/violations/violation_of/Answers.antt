use Rattle.std.proofs.Common.{◌≡◌, inl, true, false, refl, sym, ◌∙◌}
use Rattle.std.proofs.lemmas.Result.{err_from_is_err_and}
use Rattle.gj_lex.specs.Words.{word_texts}
use Rattle.gj_forms.specs.LineForms.{BreaksForm}
use Rattle.gj_forms.proofs.PartLaws.{passed_on}
use Rattle.gj_forms.proofs.LineLaws.{no_such_numbers}
use Rattle.gj_shape.specs.declared.violations.Violation.TheVariants as violation
use Rattle.gj_proof.specs.ProofGrammar.{violation_form}
use Rattle.gj_proof.proofs.BrokenLines.{zero_fraction, no_point, no_points, no_violation}
use Rattle.gj_proof.proofs.violations.violation_of.Goals as goal

pub returns-in_err-number_of-clause-fault : goal.returns-in_err-number_of-clause-fault
returns-in_err-number_of-clause-fault c =
    let p = err_from_is_err_and c.from_residual.result c.from_residual.ensures.1 in
    let fault = c.in_err-number_of.ensures.fault in
    passed_on (BreaksForm violation_form (word_texts c.args.line.now)) _ _ _ p.1 p.2
    (no_such_numbers violation_form _ _ (violation.Negative zero_fraction) _ c.in-Some.ensures.found
    refl tt fault.0
    (no_point _ _ fault.1))

pub returns-in_err-number_of-2-clause-fault : goal.returns-in_err-number_of-2-clause-fault
returns-in_err-number_of-2-clause-fault c =
    let p = err_from_is_err_and c.from_residual-in_err-number_of-2.result
    c.from_residual-in_err-number_of-2.ensures.1 in
    let fault = c.in_err-number_of-2.ensures.fault in
    passed_on (BreaksForm violation_form (word_texts c.args.line.now)) _ _ _ p.1 p.2
    (no_such_numbers violation_form _ _
    (violation.Asymmetric zero_fraction) _ c.in-Some-field_of.ensures.found refl tt fault.0
    (no_point _ _ fault.1))

pub returns-in_err-x-clause-fault : goal.returns-in_err-x-clause-fault
returns-in_err-x-clause-fault c =
    let p = err_from_is_err_and c.from_residual-in_err-x.result
    c.from_residual-in_err-x.ensures.1 in
    let fault = c.in_err-x.ensures.fault in
    passed_on (BreaksForm violation_form (word_texts c.args.line.now)) _ _ _ p.1 p.2
    (no_such_numbers violation_form _ _ (violation.Superadditive zero_fraction zero_fraction) _
    c.in-Some-two_fields_of.ensures.found refl tt
    fault.0 (no_points _ _ _ (λ x y h k. fault.1 x h)))

pub returns-in_err-y-clause-fault : goal.returns-in_err-y-clause-fault
returns-in_err-y-clause-fault c =
    let p = err_from_is_err_and c.from_residual-in_err-y.result
    c.from_residual-in_err-y.ensures.1 in
    let fault = c.in_err-y.ensures.fault in
    passed_on (BreaksForm violation_form (word_texts c.args.line.now)) _ _ _ p.1 p.2
    (no_such_numbers violation_form _ _ (violation.Superadditive zero_fraction zero_fraction) _
    c.in-Some-two_fields_of.ensures.found refl tt
    fault.0 (no_points _ _ _ (λ x y h k. fault.1 y k)))

pub returns-clause-fault : goal.returns-clause-fault
returns-clause-fault c =
    inl (
      refl,
      no_violation _ (λ e. absurd (let a : false ≡ true = sym c.if-has_words.false
          ∙ c.has_words.ensures.1 e in cc))
          (λ x e. c.in_default.ensures.none x e) (λ x e. c.in_default-field_of.ensures.none x e)
          (λ x y e. c.in_default-two_fields_of.ensures.none x y e),
    )
