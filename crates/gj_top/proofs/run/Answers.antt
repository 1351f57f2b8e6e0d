use Rattle.std.proofs.Common.{◌≡◌, inl, inr, ℕ, ◌<◌, ◌≤◌, true, false, refl, sym, subst, arith}
use Rattle.std.proofs.lemmas.Bool.{cases_lt}
use Rattle.gj_port.specs.Runs.{Gains}
use Rattle.gj_top.specs.declared.status.Status.{Status}
use Rattle.gj_top.specs.Answer.{answer_status, answer_text}
use Rattle.gj_top.specs.Outcome.{IsOutcome}
use Rattle.gj_top.specs.Outcome.IsOutcome.{silent, told, cut_off}
use Rattle.gj_top.specs.Run.{Run, IsAnswerOf}
use Rattle.gj_top.proofs.Clauses.{no_write_fault, headline_clause}
use Rattle.gj_top.proofs.EveryRun.{is_run}
use Rattle.gj_top.proofs.run.Given.{Over}
use Rattle.gj_top.proofs.run.Goals as goal

-- ---- a run that had an answer

-- with this status
abbrev run : (g : Over) (c : goal.Joined-answer g) → Status → Run
run g c status = record {
  words = c.args.words.now;
  steady = g.S.Source.steady c.args.source.now;
  left = g.S.Source.left c.args.source.now;
  left_after = g.S.Source.left c.answer_to.new.source;
  read_faults = g.S.Source.faults c.args.source.now;
  read_faults_after = g.S.Source.faults c.answer_to.new.source;
  sure = g.K.Sink.sure c.args.sink.now;
  written = g.K.Sink.written c.args.sink.now;
  written_after = g.K.Sink.written c.write_all.new.sink;
  write_faults = g.K.Sink.faults c.args.sink.now;
  write_faults_after = g.K.Sink.faults c.write_all.new.sink;
  status = status;
}

-- the answer that was written
answer : (g : Over) (c : goal.Joined-answer g) →
    IsAnswerOf (run g c c.status.result) c.status.result (answer_text c.in-Ok.answer)
answer g c = subst (λ (s : Status). IsAnswerOf (run g c c.status.result) s
    (answer_text c.in-Ok.answer)) (sym c.status.ensures) c.in-Ok.ensures.answer

outcome : (g : Over) (c : goal.Joined-answer g) → IsOutcome (run g c c.status.result)
outcome g c = told (record {
  text = answer_text c.in-Ok.answer;
  answer = answer g c;
  gain = subst (Gains (g.K.Sink.written c.args.sink.now) (g.K.Sink.written c.write_all.new.sink))
      c.text.ensures c.in-Ok-write_all.ensures.told;
})

pub returns-in-Ok-write_all-clause-headline : goal.returns-in-Ok-write_all-clause-headline
returns-in-Ok-write_all-clause-headline g c =
    headline_clause (run g c c.status.result) (outcome g c)

pub returns-in-Ok-write_all-clause-is_run : goal.returns-in-Ok-write_all-clause-is_run
returns-in-Ok-write_all-clause-is_run g c =
    is_run (run g c c.status.result) (outcome g c)
    (λ e. absurd (no_write_fault _ _ _ _ _ _ (answer g c) e)) c.in-Ok.ensures.count
    c.in-Ok-write_all.ensures.count

-- ---- without memory, and if the sink failed

pub returns-in_default-clause-is_run : goal.returns-in_default-clause-is_run
returns-in_default-clause-is_run g c =
    is_run _ (silent (record {
      status_is = refl;
      unanswered =
          c.in_default.ensures.memory;
      unwritten = refl;
    })) (λ e. absurd (cc))
    c.in_default.ensures.count (omega arith)

-- a call that would not have failed if the sink was sure
unsure : (length sure : ℕ) → (length ≤ sure → false ≡ true) → sure < length
unsure length sure takes = elim (cases_lt sure length) [
  | inl is ↦ is
  | inr more ↦ absurd (let wrong = takes (omega arith) in cc)
]

pub returns-clause-is_run : goal.returns-clause-is_run
returns-clause-is_run g c = is_run _ (cut_off (record {
  status_is = refl;
  status = answer_status c.in-Ok.answer;
  text = answer_text c.in-Ok.answer;
  answer = c.in-Ok.ensures.answer;
  unsure = unsure _ _ (rw c.text.ensures at c.in-Err.ensures.sure_takes);
  gain = (rw c.text.ensures at c.in-Err.ensures.told);
})) (λ e. c.in-Err.ensures.cause) c.in-Ok.ensures.count c.in-Err.ensures.count
