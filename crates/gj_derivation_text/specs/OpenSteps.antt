-- A step of a derivation, line by line (own).
use Rattle.std.specs.Prelude.{ℕ, ◌≡◌, ◌≢◌, ◌⊎◌, pos, IsTrue, Bool, true, false, Option, Some, None, List, [], ◌∷◌, ◌++◌, Contains, codes, map, nat_eq}
use Rattle.std.specs.Cmp.Lexicographic.{pointwise}
use Rattle.std.specs.List.{position}
use Rattle.std.proofs.Common.{inl, inr}
use Rattle.gj_frac.specs.Fraction.{IsRatio}
use Rattle.gj_frac.specs.declared.Frac.{Frac}
use Rattle.gj_lex.specs.declared.reason.Reason.{Reason}
use Rattle.gj_lex.specs.declared.reason.Reason.TheVariants as reason
use Rattle.gj_lex.specs.declared.spelling.Spelling.TheVariants.{Lenient}
use Rattle.gj_forms.specs.Parts.{LineRule, Part, line_part, empty_part, made_part, where_part, loop_part, BeginsWithWord}
use Rattle.gj_forms.specs.SpelledForms.{made_rule}
use Rattle.gj_problem.specs.declared.problem.Entry.{Entry}
use Rattle.gj_derivation.specs.declared.draft.Claim.{Claim}
use Rattle.gj_derivation.specs.declared.draft.Claim.TheVariants.{Absent, Terms, Given}
use Rattle.gj_derivation.specs.declared.draft.Draft.{Draft}
use Rattle.gj_derivation.specs.declared.step.Multiplier.{Multiplier}
use Rattle.gj_derivation.specs.declared.step.StepRule.{StepRule}
use Rattle.gj_derivation.specs.declared.step.StepRule.TheVariants.{Linear}
use Rattle.gj_problem_text.specs.NumberLines.{number_rule}
use Rattle.gj_problem_text.specs.Tasks.{Unless, Never, SpellsBound}
use Rattle.gj_derivation_text.specs.StepLines.{StepLine, by, upper, times, claim, term, line_form}
use Rattle.gj_derivation_text.specs.declared.names.Names.{Names}
use Rattle.gj_derivation_text.specs.declared.open.OpenStep.{OpenStep}
use Rattle.gj_derivation_text.specs.declared.open.Used.{Used}

-- ---- names

-- the index of the first of these with the name
abbrev pub index_in : List (List ℕ) → List ℕ → Option ℕ
index_in names name = position (pointwise nat_eq name) names

-- the name has this index, which is none of these
abbrev pub HasNewIndex : List (List ℕ) → List ℕ → List ℕ → ℕ → Type 0
HasNewIndex names name taken i = (index_in names name ≡ Some i) × (Contains taken i → ⊥)

abbrev pub IsNewIn : List (List ℕ) → List ℕ → List ℕ → Type 0
IsNewIn names name taken = (i : ℕ) × HasNewIndex names name taken i

-- ---- the lines of a step

-- a step of which no line is told but the first
abbrev pub begun : StepRule → OpenStep
begun r = record {
  «rule» = r;
  multipliers = [];
  at_upper = [];
  factor = None;
  is_claimed = false;
  right = None;
  entries = [];
}

-- the lines and the columns that it names
abbrev pub lines_named : OpenStep → List ℕ
lines_named s = map (λ (m : Multiplier). m.line) s.multipliers

abbrev pub columns_claimed : OpenStep → List ℕ
columns_claimed s = map (λ (e : Entry). e.column) s.entries

-- a multiplier of a line that is not yet named
abbrev pub AddsBy : List (List ℕ) → OpenStep → List ℕ → Frac → OpenStep → Type 0
AddsBy lines s name value t = (s.is_claimed ≡ false) × (i : ℕ)
    × HasNewIndex lines name (lines_named s) i
    × (t ≡ record s { multipliers = s.multipliers ++ record { line = i; value = value } ∷ [] })

abbrev pub RefusesBy : List (List ℕ) → OpenStep → List ℕ → Reason → Type 0
RefusesBy lines s name =
    Unless (s.is_claimed ≡ false) reason.Form
    (Unless (IsNewIn lines name (lines_named s)) reason.Place Never)

-- a column that is turned by its upper bound: not in a linear step
abbrev pub TakesUpper : OpenStep → Type 0
TakesUpper s = (s.is_claimed ≡ false) × (s.rule ≢ Linear)

abbrev pub AddsUpper : List (List ℕ) → OpenStep → List ℕ → OpenStep → Type 0
AddsUpper columns s name t = TakesUpper s × (j : ℕ) × HasNewIndex columns name s.at_upper j
    × (t ≡ record s { at_upper = s.at_upper ++ j ∷ [] })

abbrev pub RefusesUpper : List (List ℕ) → OpenStep → List ℕ → Reason → Type 0
RefusesUpper columns s name =
    Unless (TakesUpper s) reason.Form (Unless (IsNewIn columns name s.at_upper) reason.Place Never)

-- the factor, once
abbrev pub TakesFactor : OpenStep → Type 0
TakesFactor s = (s.is_claimed ≡ false) × (s.factor ≡ None)

abbrev pub AddsTimes : OpenStep → Frac → OpenStep → Type 0
AddsTimes s factor t = TakesFactor s × (t ≡ record s { factor = Some factor })

-- the right side of the claim, once; `-` is none, for drafts alone
abbrev pub SpellsRight : Bool → List ℕ → Option Frac → Type 0
SpellsRight drafts word right = SpellsBound word right × (right ≡ None → IsTrue drafts)

abbrev pub AddsClaim : Bool → OpenStep → List ℕ → OpenStep → Type 0
AddsClaim drafts s word t = (s.is_claimed ≡ false) × (right : Option Frac)
    × SpellsRight drafts word right
    × (t ≡ record s { is_claimed = true; right = right })

abbrev pub RefusesClaim : Bool → OpenStep → List ℕ → Reason → Type 0
RefusesClaim drafts s word =
    Unless (s.is_claimed ≡ false) reason.Form
    (Unless ((right : Option Frac) × SpellsRight drafts word right) reason.Number Never)

-- a term of the claim, of a column that has none yet
abbrev pub AddsTerm : List (List ℕ) → OpenStep → List ℕ → Frac → OpenStep → Type 0
AddsTerm columns s name value t = (s.is_claimed ≡ true) × (j : ℕ)
    × HasNewIndex columns name (columns_claimed s) j
    × (t ≡ record s { entries = s.entries ++ record { column = j; value = value } ∷ [] })

abbrev pub RefusesTerm : List (List ℕ) → OpenStep → List ℕ → Reason → Type 0
RefusesTerm columns s name =
    Unless (s.is_claimed ≡ true) reason.Form
    (Unless (IsNewIn columns name (columns_claimed s)) reason.Place Never)

-- ---- all lines

-- the line makes of the step s the step t
abbrev pub Adds : Names → OpenStep → StepLine → OpenStep → Type 0
Adds c s (by name value) t = AddsBy c.lines s name value t
Adds c s (upper name) t = AddsUpper c.columns s name t
Adds c s (times factor) t = AddsTimes s factor t
Adds c s (claim word) t = AddsClaim c.drafts s word t
Adds c s (term name value) t = AddsTerm c.columns s name value t

-- or is refused
abbrev pub Refuses : Names → OpenStep → StepLine → Reason → Type 0
Refuses c s (by name value) e = RefusesBy c.lines s name e
Refuses c s (upper name) e = RefusesUpper c.columns s name e
Refuses c s (times factor) e = Unless (TakesFactor s) reason.Form Never e
Refuses c s (claim word) e = RefusesClaim c.drafts s word e
Refuses c s (term name value) e = RefusesTerm c.columns s name e

abbrev pub step_line_rule : Names → OpenStep → LineRule OpenStep
step_line_rule c s = made_rule (Adds c s) (Refuses c s) (number_rule line_form)

-- ---- the end of a step

abbrev pub claim_of : Bool → Option Frac → List Entry → Claim
claim_of false right entries = Absent
claim_of true None entries = Terms entries
claim_of true (Some r) entries = Given (record { entries = entries; right = r })

-- the factor; 1 without a line `times`
abbrev pub IsFactor : Option Frac → Frac → Type 0
IsFactor None x = IsRatio x (pos 1) (pos 1)
IsFactor (Some y) x = x ≡ y

abbrev pub draft_of : OpenStep → Frac → Draft
draft_of s factor = record {
  combination = record {
    «rule» = s.rule;
    multipliers = s.multipliers;
    at_upper =
        s.at_upper;
    factor = factor;
  };
  claim = claim_of s.is_claimed s.right s.entries;
}

abbrev pub IsDraftOf : OpenStep → Draft → Type 0
IsDraftOf s draft = (factor : Frac) × IsFactor s.factor factor × (draft ≡ draft_of s factor)

-- the next line begins with `step` or `end`
abbrev pub StepsGoOn : List ℕ → Type 0
StepsGoOn text = BeginsWithWord Lenient (codes "step") text
    ⊎ BeginsWithWord Lenient (codes "end") text

-- the step ends here: it has a claim, or drafts are read, and no line of it follows
abbrev pub EndsHere : Names → OpenStep → List ℕ → Type 0
EndsHere c s text = (IsTrue c.drafts ⊎ IsTrue s.is_claimed) × StepsGoOn text

abbrev pub next_of_step : Names → OpenStep → Part (OpenStep ⊎ Draft)
next_of_step c s =
    where_part (EndsHere c s)
    (made_part (λ (u : Unit {0}) next. (draft : Draft) × IsDraftOf s draft × (next ≡ inr draft))
    (empty_part {A = Unit {0}} tt))
    (made_part (λ t next. next ≡ inl t) (line_part Lenient (step_line_rule c s)))

abbrev pub lines_of_step : Names → OpenStep → Part Draft
lines_of_step c = loop_part (next_of_step c)

-- ---- what the reader notes

-- the indices that the step has used
pub record AreUsedBy (u : Used) (s : OpenStep) : Type 0 where
  pub lines : u.lines ≡ lines_named s
  pub turned : u.turned ≡ s.at_upper
  pub claimed : u.claimed ≡ columns_claimed s
