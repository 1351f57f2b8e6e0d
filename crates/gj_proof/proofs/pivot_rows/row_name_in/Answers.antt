use Rattle.std.proofs.Common.{◌≡◌, refl, sym, ◌∙◌, arith}
use Rattle.std.proofs.lemmas.Result.{err_from_is_err_and}
use Rattle.gj_lex.specs.Words.{word_texts}
use Rattle.gj_lex.proofs.Decimals.{same_from_decimal}
use Rattle.gj_forms.specs.LineForms.{BreaksForm}
use Rattle.gj_forms.proofs.PartLaws.{passed_on}
use Rattle.gj_forms.proofs.LineLaws.{no_such_numbers}
use Rattle.gj_shape.specs.declared.extremality.RowName.TheVariants.{Pair}
use Rattle.gj_proof.specs.ProofGrammar.{row_name_form}
use Rattle.gj_proof.proofs.BrokenLines.{no_pair_name}
use Rattle.gj_proof.proofs.pivot_rows.row_name_in.Goals as goal
use Rattle.gj_proof.proofs.pivot_rows.row_name_in.Goals.{then-a-lt1-via-then-a-lt1, then-a-lt1-via-else-a-lt1+then-b-a}

pub returns-in_err-a-clause-fault : goal.returns-in_err-a-clause-fault
returns-in_err-a-clause-fault c =
    let p = err_from_is_err_and c.from_residual.result c.from_residual.ensures.1 in
    let fault = c.in_err-a.ensures.fault in
    passed_on (BreaksForm (row_name_form c.args.order) (word_texts c.args.line.now)) _ _ _ p.1 p.2
    (no_such_numbers (row_name_form c.args.order) _ _ (Pair 0 0) _ c.in-Some.ensures.found refl tt
    fault.0
    (no_pair_name _ _ _ (λ a b h k below. fault.1 a (omega (arith, below.1, below.2)) h)))

pub returns-in_err-b-clause-fault : goal.returns-in_err-b-clause-fault
returns-in_err-b-clause-fault c =
    let p = err_from_is_err_and c.from_residual-in_err-b.result
    c.from_residual-in_err-b.ensures.1 in
    let fault = c.in_err-b.ensures.fault in
    passed_on (BreaksForm (row_name_form c.args.order) (word_texts c.args.line.now)) _ _ _ p.1 p.2
    (no_such_numbers (row_name_form c.args.order) _ _ (Pair 0 0) _ c.in-Some.ensures.found refl tt
    fault.0
    (no_pair_name _ _ _ (λ a b h k below. fault.1 b below.2 k)))

pub returns-then-a-lt1-clause-fault : goal.returns-then-a-lt1-clause-fault
returns-then-a-lt1-clause-fault c =
    no_such_numbers (row_name_form c.args.order) _ _ (Pair 0 0) _ c.in-Some.ensures.found refl tt
    refl
    (no_pair_name _ _ _ (λ m n h k below.
    let fits = c.ranges.order.fits in
    let a_found = c.in_ok-a.ensures.found in
    let b_found = c.in_ok-b.ensures.found in
    let a : c.in_ok-a.a ≡ m =
    same_from_decimal _ m (omega (arith, a_found.1)) (omega (arith, below.1, below.2))
    (sym a_found.0 ∙ h) in
    let b : c.in_ok-b.b ≡ n =
    same_from_decimal _ n (omega (arith, b_found.1)) (omega (arith, below.2))
    (sym b_found.0 ∙ k) in
    elim c.then-a-lt1.branch [
      | then-a-lt1-via-then-a-lt1 w ↦ omega (arith, below.0)
      | then-a-lt1-via-else-a-lt1+then-b-a w ↦ omega (arith, below.1)
    ]))
