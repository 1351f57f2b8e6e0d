-- Lines of a problem text, each by its words and numbers (own).
use Rattle.std.specs.Prelude.{ℕ, ◌<◌, ◌^◌, Bool, true, false, List, [], ◌∷◌, map, codes}
use Rattle.gj_frac.specs.declared.Frac.{Frac}
use Rattle.gj_forms.specs.Parts.{LineRule}
use Rattle.gj_forms.specs.LineForms.{Field, LineForm}
use Rattle.gj_forms.specs.LineForms.Field.{word, fraction, count}
use Rattle.gj_problem.specs.declared.problem.Sense.{Sense}
use Rattle.gj_problem.specs.declared.problem.Sense.TheVariants.{AtMost, AtLeast, Equal}
use Rattle.gj_problem_text.specs.NumberLines.{number_rule}

-- a line with what it tells: names and bounds as they are spelled
pub data ProblemLine : Type 0 where
  column : List ℕ → Bool → List ℕ → List ℕ → ProblemLine
  constraint : List ℕ → Sense → Frac → ProblemLine
  entry : List ℕ → Frac → ProblemLine
  upper : List ℕ → ProblemLine
  sum : List Frac → ProblemLine
  grid : ℕ → ProblemLine
  round : ℕ → ProblemLine

abbrev pub kind_word : Bool → List ℕ
kind_word true = codes "whole"
kind_word false = codes "continuous"

abbrev pub sense_word : Sense → List ℕ
sense_word AtMost = codes "<="
sense_word AtLeast = codes ">="
sense_word Equal = codes "="

-- `column NAME whole|continuous LOWER UPPER`, `constraint NAME <=|>=|= RIGHT`, `entry NAME VALUE`,
-- `upper NAME`, `sum MULTIPLIER ..`, `grid N` or `round N`
abbrev pub problem_fields : ProblemLine → List Field
problem_fields (column name is_whole low high) =
    word (codes "column") ∷ word name ∷ word (kind_word is_whole) ∷ word low ∷ word high ∷ []
problem_fields (constraint name sense right) =
    word (codes "constraint") ∷ word name ∷ word (sense_word sense) ∷ fraction right ∷ []
problem_fields (entry name value) = word (codes "entry") ∷ word name ∷ fraction value ∷ []
problem_fields (upper name) = word (codes "upper") ∷ word name ∷ []
problem_fields (sum multipliers) = word (codes "sum") ∷ map fraction multipliers
problem_fields (grid n) = word (codes "grid") ∷ count n ∷ []
problem_fields (round n) = word (codes "round") ∷ count n ∷ []

-- a grid is that of the multiples of 1/n, n from 1 to 2^32 - 1
abbrev pub IsGrid : ℕ → Type 0
IsGrid n = (0 < n) × (n < 2 ^ 32)

abbrev pub HasProblemLine : ProblemLine → Type 0
HasProblemLine (grid n) = IsGrid n
HasProblemLine (round n) = IsGrid n
HasProblemLine line = Unit {0}

abbrev pub problem_form : LineForm ProblemLine
problem_form = record {
  fields = problem_fields;
  HasForm = λ line. Unit {0};
  HasLine =
      HasProblemLine;
}

abbrev pub told_rule : LineRule ProblemLine
told_rule = number_rule problem_form
