-- The lines of steps, printed part by part.
use Rattle.std.proofs.Common.{◌≡◌, ℕ, ◌+◌, ◌<◌, List, [], ◌∷◌, ◌++◌, map, flat_map, length, drop, get_or, codes, decimal, append_assoc, refl, sym, ap, ap₂, ◌∙◌}
use Rattle.std.proofs.lemmas.Grind.{flat_map-append}
use Rattle.gj_forms.specs.LineForms.{Field, bytes_of, line_of}
use Rattle.gj_forms.specs.LineForms.Field.{word, count}
use Rattle.gj_line.specs.FieldForms.{tail_of}
use Rattle.gj_line.proofs.NamedLines.{tail_bytes}
use Rattle.gj_problem_text.proofs.PrintedItems.{next_item}
use Rattle.gj_problem.specs.declared.problem.Constraint.{Constraint}
use Rattle.gj_problem.specs.declared.problem.Entry.{Entry}
use Rattle.gj_problem.specs.declared.problem.Inequality.{Inequality}
use Rattle.gj_derivation.specs.declared.step.Combination.{Combination}
use Rattle.gj_derivation.specs.declared.step.Multiplier.{Multiplier}
use Rattle.gj_derivation.specs.declared.step.Step.{Step}
use Rattle.gj_problem_text.specs.PrintedProblem.{entry_told, constraint_told, printed}
use Rattle.gj_problem_text.specs.ProblemLines.{constraint, problem_form}
use Rattle.gj_derivation_text.specs.StepLines.{StepLine, claim, line_form, step_form}
use Rattle.gj_derivation_text.specs.PrintedDerivation.{by_told, upper_told, term_told, factor_told, combination_told, claim_told, step_told, printed_lines, step_lines}
use Rattle.gj_lex.specs.NumberText.{fraction_text}

-- the lines of what is told of each
each_line : {A : Type 0} (told : A → StepLine) (things : List A) →
    printed_lines (map told things) ≡ flat_map (λ a. line_of line_form (told a)) things
each_line told [] = refl
each_line told (a ∷ things) = ap (λ xs. line_of line_form (told a) ++ xs) (each_line told things)

pub combination_is : (columns lines : List (List ℕ)) (c : Combination) →
    printed_lines (combination_told columns lines c)
    ≡ flat_map (λ (m : Multiplier). line_of line_form (by_told lines m)) c.multipliers
    ++ (flat_map (λ (j : ℕ). line_of line_form (upper_told columns j)) c.at_upper ++ printed_lines
    (factor_told c.factor))
combination_is columns lines c =
    flat_map-append (line_of line_form) (map (by_told lines) c.multipliers)
    (map (upper_told columns) c.at_upper ++ factor_told c.factor)
    ∙ ap₂ (λ xs ys. xs ++ ys) (each_line (by_told lines) c.multipliers)
    (flat_map-append (line_of line_form) (map (upper_told columns) c.at_upper)
    (factor_told c.factor)
    ∙ ap (λ xs. xs ++ printed_lines (factor_told c.factor))
    (each_line (upper_told columns) c.at_upper))

each_entry : (columns : List (List ℕ)) (es : List Entry) →
    printed (map (entry_told columns) es)
    ≡ flat_map (λ (e : Entry). line_of problem_form (entry_told columns e)) es
each_entry columns [] = refl
each_entry columns (e ∷ es) = ap (λ xs. line_of problem_form (entry_told columns e) ++ xs)
    (each_entry columns es)

pub constraint_is : (columns : List (List ℕ)) (name : List ℕ) (c : Constraint) →
    printed (constraint_told columns name c)
    ≡ line_of problem_form (constraint name c.sense c.right) ++ flat_map
    (λ (e : Entry). line_of problem_form (entry_told columns e)) c.entries
constraint_is columns name c =
    ap (λ xs. line_of problem_form (constraint name c.sense c.right) ++ xs)
    (each_entry columns c.entries)

pub claim_is : (columns : List (List ℕ)) (q : Inequality) →
    printed_lines (claim_told columns q)
    ≡ line_of line_form (claim (fraction_text q.right)) ++ flat_map
    (λ (e : Entry). line_of line_form (term_told columns e)) q.entries
claim_is columns q = ap (λ xs. line_of line_form (claim (fraction_text q.right)) ++ xs)
    (each_line (term_told columns) q.entries)

pub step_is : (columns lines : List (List ℕ)) (name : List ℕ) (s : Step) →
    step_lines columns lines name s
    ≡ line_of step_form (name, (s.combination.rule, tt))
    ++ (printed_lines (combination_told columns lines s.combination) ++ printed_lines
    (claim_told columns s.claim))
step_is columns lines name s =
    ap (λ xs. line_of step_form (name, (s.combination.rule, tt)) ++ xs)
    (flat_map-append (line_of line_form) (combination_told columns lines s.combination)
    (claim_told columns s.claim))

-- ---- appended one after another

pub two : (before a b front back all : List ℕ) → a ≡ before ++ front → b ≡ a ++ back →
    all ≡ front ++ back → b ≡ before ++ all
two before a b front back all a_is b_is is =
    b_is ∙ ap (λ xs. xs ++ back) a_is ∙ append_assoc before front back
    ∙ ap (λ xs. before ++ xs) (sym is)

pub three : (before a b c first second third all : List ℕ) → a ≡ before ++ first → b ≡ a ++ second →
    c ≡ b ++ third →
    all ≡ first ++ (second ++ third) → c ≡ before ++ all
three before a b c first second third all a_is b_is c_is is =
    c_is ∙ ap (λ xs. xs ++ third) (b_is ∙ ap (λ xs. xs ++ second) a_is)
    ∙ append_assoc (before ++ first) second third ∙ append_assoc before first (second ++ third)
    ∙ ap (λ xs. before ++ xs) (sym is)

pub front_is : (before a b c d text title columns constraints lines : List ℕ) → a ≡ before ++ text →
    b ≡ a ++ title → c ≡ b ++ columns →
    d ≡ c ++ constraints → lines ≡ columns ++ constraints → d ≡ before ++ (text ++ (title ++ lines))
front_is before a b c d text title columns constraints lines a_is b_is c_is d_is is =
    two b c d columns constraints lines c_is d_is is ∙ ap (λ xs. xs ++ lines) b_is
    ∙ append_assoc a title lines ∙ ap (λ xs. xs ++ (title ++ lines)) a_is
    ∙ append_assoc before text (title ++ lines)

-- one more name
pub one_name : (names : List (List ℕ)) (i : ℕ) (name copy : List ℕ) (now next all : List (List ℕ)) →
    i < length names → name ≡ get_or names i name →
    copy ≡ name → next ≡ now ++ copy ∷ [] → now ++ drop i names ≡ all →
    next ++ drop (i + 1) names ≡ all
one_name names i name copy now next all below here same is h =
    let rest = drop (i + 1) names in
    ap (λ (ns : List (List ℕ)). ns ++ rest) (is ∙ ap (λ (n : List ℕ). now ++ n ∷ []) same)
    ∙ append_assoc now (name ∷ []) rest
    ∙ sym (ap (λ (ns : List (List ℕ)). now ++ ns) (next_item names i name below here)) ∙ h

-- ---- verdicts

pub rejected_is : (n : ℕ) (fields : List Field) →
    bytes_of (word (codes "rejected") ∷ word (codes "line") ∷ count n ∷ fields)
    ≡ codes "rejected line" ++ ((32 ∷ decimal n) ++ tail_of fields)
rejected_is n fields = ap (λ xs. codes "rejected line " ++ xs) (tail_bytes (count n) fields)
