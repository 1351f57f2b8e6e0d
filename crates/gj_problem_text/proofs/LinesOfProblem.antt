-- The lines of a problem, one after another.
use Rattle.std.proofs.Common.{◌≡◌, ◌⊎◌, inl, inr, ℕ, List, codes, refl}
use Rattle.gj_forms.specs.Parts.{Part, words_rule, line_part, made_part, BeginsWithWord, IsFaultOf}
use Rattle.gj_forms.specs.declared.fault.PartFault.{PartFault}
use Rattle.gj_lex.specs.declared.spelling.Spelling.TheVariants.{Lenient}
use Rattle.gj_forms.proofs.LoopRead.{LeadsOn, leads_on, leads_to_end, leads_to_fault}
use Rattle.gj_forms.proofs.PartLaws.{fault_in_made}
use Rattle.gj_forms.proofs.WhereLaws.{fault_where, fault_else}
use Rattle.gj_function_text.specs.BreaksText.{end_words}
use Rattle.gj_problem_text.specs.ProblemText.{no_task, next_line, lines_part}
use Rattle.gj_problem_text.specs.Tasks.{task_rule}
use Rattle.gj_problem_text.specs.declared.task.Task.{Task}

abbrev Begins : List ℕ → Type 0
Begins text = BeginsWithWord Lenient (codes "end") text

abbrev pub end_line : Part (Unit {0})
end_line = line_part Lenient (words_rule end_words)

abbrev pub ends : Task → Part (Task ⊎ Task)
ends s = made_part (λ u next. next ≡ inr s) end_line

abbrev pub goes_on : Task → Part (Task ⊎ Task)
goes_on s = made_part (λ t next. next ≡ inl t) (line_part Lenient (task_rule s))

module _ (text : List ℕ) (s : Task) (rest : List ℕ) (h : LeadsOn next_line no_task text s rest)
  where
    pub line_on : (t : Task) (behind : List ℕ) → (BeginsWithWord Lenient (codes "end") rest → ⊥) →
        (line_part Lenient (task_rule s)).Reads rest t behind →
        LeadsOn next_line no_task text t behind
    line_on t behind not one =
        leads_on next_line no_task text s t rest behind h (inr (not, (t, one, refl)))

    pub fault_in_line : (e : PartFault) → (BeginsWithWord Lenient (codes "end") rest → ⊥) →
        IsFaultOf (line_part Lenient (task_rule s)) rest e → IsFaultOf lines_part text e
    fault_in_line e not fault =
        leads_to_fault next_line no_task text s rest e h
        (fault_else Begins (ends s) (goes_on s) rest e not
        (fault_in_made (λ (t : Task) (next : Task ⊎ Task). next ≡ inl t)
        (line_part Lenient (task_rule s)) rest e fault))

    pub lines_end : (behind : List ℕ) → BeginsWithWord Lenient (codes "end") rest →
        (line_part Lenient (words_rule end_words)).Reads rest tt behind →
        lines_part.Reads text s behind
    lines_end behind is one = leads_to_end next_line no_task text s rest s behind h
        (inl (is, (tt, one, refl)))

    pub fault_at_end : (e : PartFault) → BeginsWithWord Lenient (codes "end") rest →
        IsFaultOf (line_part Lenient (words_rule end_words)) rest e → IsFaultOf lines_part text e
    fault_at_end e is fault =
        leads_to_fault next_line no_task text s rest e h
        (fault_where Begins (ends s) (goes_on s) rest e is
        (fault_in_made (λ (u : Unit {0}) (next : Task ⊎ Task). next ≡ inr s) end_line rest e fault))
