use Rattle.std.proofs.Common.{ap, ◌∙◌, subst, codes, IfSome, IfNone, OnSome, length}
use Rattle.std.proofs.lemmas.Result.{err_from_is_err_and}
use Rattle.gj_lex.specs.Words.{word_texts}
use Rattle.gj_lex.specs.declared.reason.Reason.{Reason}
use Rattle.gj_lex.specs.declared.spelling.Spelling.TheVariants.{Lenient}
use Rattle.gj_forms.specs.LineFaults.{IsRefusedFor}
use Rattle.gj_forms.specs.Parts.{BeginsWithWord}
use Rattle.gj_forms.specs.TextLines.{HasLine}
use Rattle.gj_forms.specs.declared.fault.PartFault.TheVariants.{Refused}
use Rattle.gj_forms.proofs.PartLaws.{line_refused, no_line_refused}
use Rattle.gj_forms.proofs.WhereLaws.{begins_nothing, shorter_behind_line}
use Rattle.gj_problem_text.specs.Tasks.{task_rule}
use Rattle.gj_problem_text.proofs.LinesOfProblem.{line_on, fault_in_line, lines_end, fault_at_end}
use Rattle.gj_problem_text.proofs.read.lines_at.Goals as goal

pub returns-in_err-line : goal.returns-in_err-line
returns-in_err-line c =
    let rest = c.loop-places.rest.now in
    let none = c.in_err-line.ensures.fault in
    let p = err_from_is_err_and c.from_residual.result c.from_residual.ensures.1 in
    rw (p.1, p.2)
    (fault_in_line c.args.text.now _ _ c.loop-places.invariant.leads _
    (begins_nothing Lenient rest (codes "end") _ none)
    (no_line_refused Lenient (task_rule c.loop-places.task) rest _ none))

pub returns-in-Err-Broken : goal.returns-in-Err-Broken
returns-in-Err-Broken c =
    let rest = c.loop-places.rest.now in
    let line = subst (λ o. IfSome o (λ l. HasLine Lenient rest l.start.now
    (word_texts l.bytes.now) l.rest.now)) c.in-Some.is c.in_ok-line.ensures.line in
    let other = subst (λ o. OnSome o (BeginsWithWord Lenient (codes "end") rest → ⊥)) c.in-Some.is
    c.in_ok-line.ensures.other in
    fault_in_line c.args.text.now _ _ c.loop-places.invariant.leads _ other
    (line_refused Lenient (task_rule c.loop-places.task) rest c.in-Some.line.start.now
    (word_texts c.in-Some.line.bytes.now) c.in-Some.line.rest.now c.in-Err-Broken.reason _ line
    (subst (IsRefusedFor ((task_rule c.loop-places.task).Breaks
    (word_texts c.in-Some.line.bytes.now))) c.in-Err-Broken.field-0-is
    c.in-Err-Broken.ensures.broken) (c.at.ensures
    ∙ ap (λ (e : Reason). Refused (length c.in-Some.line.start.now) e) c.in-Err-Broken.reason-is))

pub loop-places-smaller : goal.loop-places-smaller
loop-places-smaller c =
    let rest = c.loop-places.rest.now in
    let line = subst (λ o. IfSome o (λ l. HasLine Lenient rest l.start.now
    (word_texts l.bytes.now) l.rest.now)) c.in-Some.is c.in_ok-line.ensures.line in
    shorter_behind_line Lenient (task_rule c.loop-places.task) rest c.in-Some.line.rest.now
    c.with_line_of.new.task
    (c.in-Some.line.start.now, word_texts c.in-Some.line.bytes.now, line, c.in-Ok.ensures.found)

pub loop-places-preserved : goal.loop-places-preserved
loop-places-preserved c =
    let rest = c.loop-places.rest.now in
    let line = subst (λ o. IfSome o (λ l. HasLine Lenient rest l.start.now
    (word_texts l.bytes.now) l.rest.now)) c.in-Some.is c.in_ok-line.ensures.line in
    let other = subst (λ o. OnSome o (BeginsWithWord Lenient (codes "end") rest → ⊥)) c.in-Some.is
    c.in_ok-line.ensures.other in
    record {
      few = c.in-Ok.ensures.few;
      places = c.in-Ok.ensures.places;
      leads = line_on c.args.text.now _ _ c.loop-places.invariant.leads _ _ other (
        c.in-Some.line.start.now,
        word_texts c.in-Some.line.bytes.now,
        line,
        c.in-Ok.ensures.found,
      );
    }

pub returns-in_err-rest : goal.returns-in_err-rest
returns-in_err-rest c =
    let ended = subst (λ o. IfNone o (BeginsWithWord Lenient (codes "end")
    c.loop-places.rest.now)) c.in_default.is c.in_ok-line.ensures.end in
    let p = err_from_is_err_and c.from_residual-in_err-rest.result
    c.from_residual-in_err-rest.ensures.1 in
    rw (p.1, p.2)
    (fault_at_end c.args.text.now _ _ c.loop-places.invariant.leads _ ended
    c.in_err-rest.ensures.passed)

pub returns : goal.returns
returns c =
    let ended = subst (λ o. IfNone o (BeginsWithWord Lenient (codes "end")
    c.loop-places.rest.now)) c.in_default.is c.in_ok-line.ensures.end in
    lines_end c.args.text.now _ _ c.loop-places.invariant.leads _ ended c.in_ok-rest.ensures.passed
