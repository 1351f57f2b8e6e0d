-- The parts of a problem text, one after another.
use Rattle.std.proofs.Common.{ℕ, List, refl}
use Rattle.gj_forms.specs.TextLines.{HasNothing}
use Rattle.gj_forms.specs.Parts.{Part, words_rule, line_part, then_part, end_part, IsFaultOf, IsTail}
use Rattle.gj_forms.specs.declared.fault.PartFault.{PartFault}
use Rattle.gj_lex.specs.declared.spelling.Spelling.TheVariants.{Lenient}
use Rattle.gj_forms.proofs.PartLaws.{fault_in_first, fault_in_next, tail_refused}
use Rattle.gj_problem_text.specs.ProblemText.{title_words, rule_words, lines_part, problem_text, IsProblemText}
use Rattle.gj_problem_text.specs.declared.task.Task.{Task}

abbrev pub title_line : Part (Unit {0})
title_line = line_part Lenient (words_rule title_words)

abbrev pub rule_line : Part (Unit {0})
rule_line = line_part Lenient (words_rule rule_words)

abbrev pub behind_rule : Part Task
behind_rule = then_part lines_part (λ task. end_part Lenient task)

abbrev pub behind_title : Part Task
behind_title = then_part rule_line (λ u. behind_rule)

module _ (text behind : List ℕ) (title : title_line.Reads text tt behind) where
  pub fault_in_rule : (e : PartFault) → IsFaultOf rule_line behind e → IsFaultOf problem_text text e
  fault_in_rule e fault =
      fault_in_next title_line (λ t. behind_title) text tt behind e title
      (fault_in_first rule_line (λ u. behind_rule) behind e fault)

  module _ (lines : List ℕ) (rule : rule_line.Reads behind tt lines) where
    in_rest : (e : PartFault) → IsFaultOf behind_rule lines e → IsFaultOf problem_text text e
    in_rest e fault =
        fault_in_next title_line (λ t. behind_title) text tt behind e title
        (fault_in_next rule_line (λ u. behind_rule) behind tt lines e rule fault)

    pub fault_in_lines : (e : PartFault) → IsFaultOf lines_part lines e →
        IsFaultOf problem_text text e
    fault_in_lines e fault =
        in_rest e (fault_in_first lines_part (λ task. end_part Lenient task) lines e fault)

    pub fault_behind : (task : Task) (rest : List ℕ) (e : PartFault) →
        lines_part.Reads lines task rest → IsTail Lenient rest e →
        IsFaultOf problem_text text e
    fault_behind task rest e h tail =
        in_rest e (fault_in_next lines_part (λ task. end_part Lenient task) lines task rest e h
        (tail_refused Lenient task rest e tail))

    pub whole_text : (task : Task) (rest : List ℕ) → lines_part.Reads lines task rest →
        HasNothing Lenient rest → IsProblemText text task
    whole_text task rest h nothing =
        (rest, (tt, behind, title, (tt, lines, rule, (task, rest, h, (refl, refl, nothing)))))
