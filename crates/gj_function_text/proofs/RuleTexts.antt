-- A rule text ends at one place, and how its lines make it.
use Rattle.std.proofs.Common.{◌≡◌, ℕ, List}
use Rattle.gj_lex.specs.declared.reason.Reason.{Reason}
use Rattle.gj_forms.specs.declared.fault.PartFault.{PartFault}
use Rattle.gj_lex.specs.declared.spelling.Spelling.TheVariants.{Lenient}
use Rattle.gj_forms.specs.Parts.{words_rule, Part, line_part, empty_part, then_part, IsExactPart, IsFaultOf}
use Rattle.gj_forms.proofs.PartLaws.{words_rule_is_exact, line_part_is_exact, framed_part_is_exact, fault_in_first, fault_in_next}
use Rattle.gj_forms.proofs.LineNumbers as numbers
use Rattle.gj_function_text.specs.BreaksText.{end_words}
use Rattle.gj_function_text.specs.RuleText.{rule_title_words, rule_name_words, rule_text, IsRuleText, IsFirstFaultOfRule}

abbrev pub title_part : Part (Unit {0})
title_part = line_part Lenient (words_rule rule_title_words)

abbrev pub name_part : Part (Unit {0})
name_part = line_part Lenient (words_rule rule_name_words)

abbrev pub last_part : Part (Unit {0})
last_part = line_part Lenient (words_rule end_words)

-- behind the name, and behind the title
abbrev behind_name : Unit {0} → Part (Unit {0})
behind_name a = then_part last_part (λ t. empty_part a)

abbrev behind_title : Unit {0} → Part (Unit {0})
behind_title t = then_part name_part behind_name

pub rule_text_is_exact : IsExactPart rule_text.Reads rule_text.Faults
rule_text_is_exact =
    framed_part_is_exact Lenient rule_title_words name_part end_words
    (line_part_is_exact Lenient (words_rule rule_name_words) (words_rule_is_exact rule_name_words))

pub one_end : (text a b : List ℕ) → IsRuleText text a → IsRuleText text b → a ≡ b
one_end text a b h k = (rule_text_is_exact.one_thing text tt tt a b h k).1

pub no_fault_of_rule : (text rest : List ℕ) (n : ℕ) (e : Reason) → IsRuleText text rest →
    IsFirstFaultOfRule text n e → ⊥
no_fault_of_rule text rest n e h fault =
    numbers.no_first_fault rule_text rule_text_is_exact text tt rest n e h fault

pub one_fault_of_rule : (text : List ℕ) (n m : ℕ) (e d : Reason) → IsFirstFaultOfRule text n e →
    IsFirstFaultOfRule text m d →
    (n ≡ m) × (e ≡ d)
one_fault_of_rule text n m e d h k =
    numbers.one_first_fault rule_text rule_text_is_exact text n m e d h k

-- ---- its lines

pub fault_in_name : (text first : List ℕ) (fault : PartFault) → title_part.Reads text tt first →
    IsFaultOf name_part first fault →
    IsFaultOf rule_text text fault
fault_in_name text first fault title h =
    fault_in_next title_part behind_title text tt first fault title
    (fault_in_first name_part behind_name first fault h)

pub fault_in_last : (text first second : List ℕ) (fault : PartFault) →
    title_part.Reads text tt first → name_part.Reads first tt second →
    IsFaultOf last_part second fault → IsFaultOf rule_text text fault
fault_in_last text first second fault title name h =
    fault_in_next title_part behind_title text tt first fault title
    (fault_in_next name_part behind_name first tt second fault name
    (fault_in_first last_part (λ t. empty_part {A = Unit {0}} tt) second fault h))
