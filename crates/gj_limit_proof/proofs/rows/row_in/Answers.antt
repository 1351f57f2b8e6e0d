use Rattle.std.proofs.Common.{◌≡◌, inl, refl, sym, subst₂, ◌∙◌, arith}
use Rattle.std.proofs.lemmas.Bool.{false≢true}
use Rattle.std.proofs.lemmas.Result.{err_from_is_err_and}
use Rattle.gj_lex.specs.Words.{word_texts}
use Rattle.gj_lex.proofs.Decimals.{same_from_decimal}
use Rattle.gj_forms.specs.LineForms.{BreaksForm}
use Rattle.gj_forms.proofs.LineLaws.{no_such_numbers}
use Rattle.gj_forms.proofs.PartLaws.{passed_on}
use Rattle.gj_limit_system.specs.declared.limit_row.LimitRow.TheVariants.{Tight}
use Rattle.gj_limit_proof.specs.LimitGrammar.{row_form}
use Rattle.gj_limit_proof.specs.LimitText.{IsLimitRowWithin}
use Rattle.gj_limit_proof.proofs.BrokenRows.{of_row, no_row, no_words}
use Rattle.gj_limit_proof.proofs.rows.row_in.Goals as goal

pub returns-in_default-clause-fault : goal.returns-in_default-clause-fault
returns-in_default-clause-fault c =
    inl (
      refl,
      no_words c.args.order _ (λ is. false≢true (c.if-has_words.ensures.1 is))
          c.in_default.ensures.none,
    )

pub returns-in_err-a-clause-fault : goal.returns-in_err-a-clause-fault
returns-in_err-a-clause-fault c =
    let p = err_from_is_err_and c.from_residual.result c.from_residual.ensures.1 in
    let fault = c.in_err-a.ensures.fault in
    let words = c.in-Some.words in
    passed_on (BreaksForm (row_form c.args.order) (word_texts c.args.line.now)) _ _ _ p.1 p.2
    (no_such_numbers (row_form c.args.order) _ _
    (Tight words.kind words.corner 0 0) _ c.in-Some.ensures.found
    (of_row words.kind words.corner words.first.now words.second.now) tt fault.0
    (no_row c.args.order words.kind words.corner _ _ c.in-Some.ensures.corner
    (λ a b h k within. fault.1 a (omega (arith, within.ascending, within.below)) h)))

pub returns-in_err-b-clause-fault : goal.returns-in_err-b-clause-fault
returns-in_err-b-clause-fault c =
    let p = err_from_is_err_and c.from_residual-in_err-b.result
    c.from_residual-in_err-b.ensures.1 in
    let fault = c.in_err-b.ensures.fault in
    let words = c.in-Some.words in
    passed_on (BreaksForm (row_form c.args.order) (word_texts c.args.line.now)) _ _ _ p.1 p.2
    (no_such_numbers (row_form c.args.order) _ _
    (Tight words.kind words.corner 0 0) _ c.in-Some.ensures.found
    (of_row words.kind words.corner words.first.now words.second.now) tt fault.0
    (no_row c.args.order words.kind words.corner _ _ c.in-Some.ensures.corner
    (λ a b h k within. fault.1 b within.below k)))

pub returns-then-not-are_points_within-clause-fault :
    goal.returns-then-not-are_points_within-clause-fault
returns-then-not-are_points_within-clause-fault c =
    let words = c.in-Some.words in
    no_such_numbers (row_form c.args.order) _ _
    (Tight words.kind words.corner 0 0) _ c.in-Some.ensures.found
    (of_row words.kind words.corner words.first.now words.second.now) tt refl
    (no_row c.args.order words.kind words.corner _ _ c.in-Some.ensures.corner
    (λ m n h k within.
    let fits = c.ranges.order.fits in
    let a_found = c.in_ok-a.ensures.found in
    let b_found = c.in_ok-b.ensures.found in
    let a : c.in_ok-a.a ≡ m =
    same_from_decimal _ m (omega (arith, a_found.1)) (omega (arith, within.ascending, within.below))
    (sym a_found.0 ∙ h) in
    let b : c.in_ok-b.b ≡ n =
    same_from_decimal _ n (omega (arith, b_found.1)) (omega (arith, within.below))
    (sym b_found.0 ∙ k) in
    let here = subst₂ (IsLimitRowWithin c.args.order words.kind words.corner) (sym a)
    (sym b) within in
    false≢true ((c.if-not-are_points_within.ensures words.corner c.in-Some.ensures.corner).1 here)))
