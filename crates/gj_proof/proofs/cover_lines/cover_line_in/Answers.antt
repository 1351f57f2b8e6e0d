use Rattle.std.proofs.Common.{inl, refl}
use Rattle.std.proofs.lemmas.Result.{err_from_is_err_and}
use Rattle.gj_lex.specs.Words.{word_texts}
use Rattle.gj_forms.specs.LineForms.{BreaksForm}
use Rattle.gj_forms.proofs.PartLaws.{passed_on}
use Rattle.gj_forms.proofs.LineLaws.{no_such_numbers}
use Rattle.gj_proof.specs.ProofGrammar.{cover_form}
use Rattle.gj_proof.proofs.BrokenLines.{of_kind, no_cover}
use Rattle.gj_proof.proofs.cover_lines.cover_line_in.Goals as goal

pub returns-in_err-interval-clause-fault : goal.returns-in_err-interval-clause-fault
returns-in_err-interval-clause-fault c =
    let p = err_from_is_err_and c.from_residual.result c.from_residual.ensures.1 in
    let fault = c.in_err-interval.ensures.fault in
    passed_on (BreaksForm (cover_form c.args.order) (word_texts c.args.line.now)) _ _ _ p.1 p.2
    (no_such_numbers (cover_form c.args.order) _ _
    (of_kind c.in-Some.words.kind) _ c.in-Some.ensures.found refl c.in-Some.ensures.kind fault.0
    (no_cover _ _ _ _ _ _ (λ l i j a b below. fault.1 l.interval below.interval i)))

pub returns-in_err-from-clause-fault : goal.returns-in_err-from-clause-fault
returns-in_err-from-clause-fault c =
    let p = err_from_is_err_and c.from_residual-in_err-from.result
    c.from_residual-in_err-from.ensures.1 in
    let fault = c.in_err-from.ensures.fault in
    passed_on (BreaksForm (cover_form c.args.order) (word_texts c.args.line.now)) _ _ _ p.1 p.2
    (no_such_numbers (cover_form c.args.order) _ _
    (of_kind c.in-Some.words.kind) _ c.in-Some.ensures.found refl c.in-Some.ensures.kind fault.0
    (no_cover _ _ _ _ _ _ (λ l i j a b below. fault.1 l.from below.from j)))

pub returns-in_err-a-clause-fault : goal.returns-in_err-a-clause-fault
returns-in_err-a-clause-fault c =
    let p = err_from_is_err_and c.from_residual-in_err-a.result
    c.from_residual-in_err-a.ensures.1 in
    let fault = c.in_err-a.ensures.fault in
    passed_on (BreaksForm (cover_form c.args.order) (word_texts c.args.line.now)) _ _ _ p.1 p.2
    (no_such_numbers (cover_form c.args.order) _ _
    (of_kind c.in-Some.words.kind) _ c.in-Some.ensures.found refl c.in-Some.ensures.kind fault.0
    (no_cover _ _ _ _ _ _ (λ l i j a b below. fault.1 l.face.a below.first a)))

pub returns-in_err-b-clause-fault : goal.returns-in_err-b-clause-fault
returns-in_err-b-clause-fault c =
    let p = err_from_is_err_and c.from_residual-in_err-b.result
    c.from_residual-in_err-b.ensures.1 in
    let fault = c.in_err-b.ensures.fault in
    passed_on (BreaksForm (cover_form c.args.order) (word_texts c.args.line.now)) _ _ _ p.1 p.2
    (no_such_numbers (cover_form c.args.order) _ _
    (of_kind c.in-Some.words.kind) _ c.in-Some.ensures.found refl c.in-Some.ensures.kind fault.0
    (no_cover _ _ _ _ _ _ (λ l i j a b below. fault.1 l.face.b below.second b)))

pub returns-in_default-clause-fault : goal.returns-in_default-clause-fault
returns-in_default-clause-fault c = inl (refl, c.in_default.ensures.none c.args.order)
