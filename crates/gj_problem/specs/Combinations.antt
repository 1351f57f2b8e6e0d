-- Sums as numerators over one denominator (own).
use Rattle.std.specs.Prelude.{◌≡◌, ℕ, ◌<◌, ◌^◌, ℤ, pos, ◌*ℤ◌, List, length}
use Rattle.std.specs.List.{AllZip}
use Rattle.gj_frac.specs.declared.Frac.{Frac}
use Rattle.gj_frac.specs.Fraction.{Fits, IsRatio}
use Rattle.gj_fields.specs.Rational.{Rational, whole, rational, ◌+ℚ◌, ◌*ℚ◌, ◌-ℚ◌}
use Rattle.gj_problem.specs.declared.combination.Combination.{Combination}
use Rattle.gj_problem.specs.declared.problem.Entry.{Entry}
use Rattle.gj_problem.specs.declared.problem.Inequality.{Inequality}
use Rattle.gj_problem.specs.declared.problem.Problem.{Problem}
use Rattle.gj_problem.specs.declared.sums.Sum.{Sum}
use Rattle.gj_problem.specs.Aggregates.{Weighted}
use Rattle.gj_problem.specs.WideRows.{IsWideNext}
use Rattle.gj_problem.specs.Problems.{sum_at, surplus_at, value_at, AreTermsWithin}
use Rattle.gj_problem.specs.Rows.{dot}
use Rattle.gj_problem.specs.Steps.{IsWideAt, IsWideEntry, IsWideWithin}

-- x is n/d, and n fits
pub record IsOver (d n : ℤ) (x : Frac) : Type 0 where
  pub fits : Fits n
  pub ratio : IsRatio x n d

-- the fractions are these numerators over d
abbrev pub AreOver : ℤ → List ℤ → List Frac → Type 0
AreOver d = AllZip (IsOver d)

-- the sum has these coefficients, against this right side
pub record HasParts (sum : Combination) (coefficients : List Frac) (right : Frac) : Type 0 where
  pub coefficients_are : AreOver (sum.factors *ℤ sum.numbers) sum.numerators.items coefficients
  pub right_is : IsOver (sum.factors *ℤ sum.numbers) sum.right right

-- it has no coefficient but 0 in so many columns, against this whole number
pub record HasNone (columns right : ℕ) (cs : List Frac) (r : Frac) : Type 0 where
  pub count : length cs ≡ columns
  pub none : (point : List Rational) → dot cs point ≡ whole (pos 0)
  pub right_is : rational r ≡ whole (pos right)

abbrev pub StartsAt : ℕ → ℕ → Combination → Type 0
StartsAt columns right sum = (cs : List Frac) × (r : Frac) × HasParts sum cs r
    × HasNone columns right cs r

-- what was made has its parts
abbrev pub IsSumOf : Combination → Sum → Type 0
IsSumOf sum made = (cs : List Frac) (r : Frac) → HasParts sum cs r →
    (made.coefficients.items ≡ cs) × (made.right ≡ r)

-- the inequality of these coefficients, against this right side; there are at most 2^32 columns
pub record IsInequalityOfParts (cs : List Frac) (r : Frac) (q : Inequality) : Type 0 where
  pub surplus : (point : List Rational) → surplus_at point q ≡ dot cs point -ℚ rational r
  pub terms : AreTermsWithin 0 (length cs) q.entries
  pub few : 2 ^ 32 < length cs → ⊥

abbrev pub IsInequalityOf : Combination → Inequality → Type 0
IsInequalityOf sum q = (cs : List Frac) (r : Frac) → HasParts sum cs r → IsInequalityOfParts cs r q

-- it has the same parts still
abbrev pub KeepsParts : Combination → Combination → Type 0
KeepsParts old new = (coefficients : List Frac) (right : Frac) → HasParts old coefficients right →
    HasParts new coefficients right

-- these coefficients are those with the multiple of an entry added, and all numbers on the way fit
pub record IsEntryAdded (cs : List Frac) (factor : Frac) (e : Entry) (ds : List Frac) : Type 0 where
  pub count : length ds ≡ length cs
  pub adds : (point : List Rational) →
      dot ds point ≡ dot cs point +ℚ rational factor
      *ℚ (rational e.value *ℚ value_at point e.column)
  pub fits : IsWideEntry cs factor e → ⊥

-- so they are with the multiple of each entry added
pub record AreEntriesAdded (cs : List Frac) (factor : Frac) (entries : List Entry)
    (ds : List Frac) : Type 0 where
  pub count : length ds ≡ length cs
  pub adds : (point : List Rational) →
      dot ds point ≡ dot cs point +ℚ rational factor *ℚ sum_at point entries
  pub fit : IsWideWithin cs factor entries → ⊥

-- these coefficients, against this right side, are those with the multiple of an inequality added
pub record IsAdded (cs : List Frac) (r : Frac) (factor : Frac) (entries : List Entry) (right : Frac)
    (ds : List Frac) (s : Frac) : Type 0 where
  pub count : length ds ≡ length cs
  pub adds : (point : List Rational) → dot ds point -ℚ rational s
      ≡ (dot cs point -ℚ rational r) +ℚ rational factor *ℚ (sum_at point entries -ℚ rational right)
  pub entries_fit : IsWideWithin cs factor entries → ⊥
  pub right_fits : IsWideAt r factor right → ⊥

-- whatever the parts of the old sum are, those of the new one are these with the multiple added; m
-- is the numerator of the factor
abbrev pub AddsEntry : Combination → ℤ → Entry → Combination → Type 0
AddsEntry old m e new = (factor : Frac) → IsRatio factor m old.factors →
    (cs : List Frac) (r : Frac) → HasParts old cs r →
    (ds : List Frac) × HasParts new ds r × IsEntryAdded cs factor e ds

abbrev pub AddsEntries : Combination → ℤ → List Entry → Combination → Type 0
AddsEntries old m entries new = (factor : Frac) → IsRatio factor m old.factors →
    (cs : List Frac) (r : Frac) → HasParts old cs r →
    (ds : List Frac) × HasParts new ds r × AreEntriesAdded cs factor entries ds

abbrev pub Adds : Combination → Frac → List Entry → Frac → Combination → Type 0
Adds old factor entries right new = (cs : List Frac) (r : Frac) → HasParts old cs r →
    (ds : List Frac) × (s : Frac) × HasParts new ds s × IsAdded cs r factor entries right ds s

-- the same for a constraint with its multiplier, and neither the sum nor its slack is wide
pub record IsConstraintAdded (p : Problem) (cs : List Frac) (r : Frac) (w : Weighted)
    (ds : List Frac) (s : Frac) : Type 0 where
  pub count : length ds ≡ length cs
  pub adds : (point : List Rational) → dot ds point -ℚ rational s
      ≡ (dot cs point -ℚ rational r) +ℚ rational w.multiplier
      *ℚ (sum_at point w.constraint.entries -ℚ rational w.constraint.right)
  pub fits : IsWideNext p cs r w → ⊥

abbrev pub AddsConstraint : Problem → Combination → Weighted → Combination → Type 0
AddsConstraint p old w new = (cs : List Frac) (r : Frac) → HasParts old cs r →
    (ds : List Frac) × (s : Frac) × HasParts new ds s × IsConstraintAdded p cs r w ds s
