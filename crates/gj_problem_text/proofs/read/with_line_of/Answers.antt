use Rattle.std.proofs.Common.{inr}
use Rattle.std.proofs.lemmas.Result.{on_ok_weaker, IfErr-weaker}
use Rattle.gj_forms.specs.LineFaults.{IsRefusedFor}
use Rattle.gj_lex.specs.Words.{word_texts}
use Rattle.gj_forms.specs.declared.line_fault.LineFault.{LineFault}
use Rattle.gj_forms.proofs.PartLaws.{refused_for}
use Rattle.gj_problem_text.specs.LinesRead.{line_told}
use Rattle.gj_problem_text.specs.ProblemLines.{entry}
use Rattle.gj_problem_text.specs.Tasks.{Adds, Refuses, task_rule}
use Rattle.gj_problem_text.proofs.read.with_line_of.Goals as goal

pub returns-clause-found : goal.returns-clause-found
returns-clause-found c =
    let told = line_told c.in_ok-told.told in
    on_ok_weaker c.with_line.result
    (λ (h : Adds c.args.task.now told c.with_line.new.task). (told, c.in_ok-told.ensures.told, h))
    c.with_line.ensures.added

pub returns-clause-broken : goal.returns-clause-broken
returns-clause-broken c =
    let told = line_told c.in_ok-told.told in
    let breaks = (task_rule c.args.task.now).Breaks (word_texts c.args.line.now) in
    IfErr-weaker c.with_line.result (IsRefusedFor (Refuses c.args.task.now told))
    (IsRefusedFor breaks)
    (λ (e : LineFault) h. refused_for (Refuses c.args.task.now told) breaks e
    (λ r k. inr (told, c.in_ok-told.ensures.told, k)) h) c.with_line.ensures.refused

pub returns-in-Some-clause-found : goal.returns-in-Some-clause-found
returns-in-Some-clause-found c =
    let told = entry c.in-Some.name.now c.in-Some.value in
    on_ok_weaker c.with_entry.result
    (λ (h : Adds c.args.task.now told c.with_entry.new.task). (told, c.in-Some.ensures, h))
    c.with_entry.ensures.added

pub returns-in-Some-clause-broken : goal.returns-in-Some-clause-broken
returns-in-Some-clause-broken c =
    let told = entry c.in-Some.name.now c.in-Some.value in
    let breaks = (task_rule c.args.task.now).Breaks (word_texts c.args.line.now) in
    IfErr-weaker c.with_entry.result (IsRefusedFor (Refuses c.args.task.now told))
    (IsRefusedFor breaks)
    (λ (e : LineFault) h. refused_for (Refuses c.args.task.now told) breaks e
    (λ r k. inr (told, c.in-Some.ensures, k)) h) c.with_entry.ensures.refused
