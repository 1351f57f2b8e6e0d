-- The entries of a sum over one denominator that are not 0 (own).
use Rattle.std.specs.Prelude.{◌≡◌, ℕ, ℤ, List, take}
use Rattle.std.specs.List.{AllZip}
use Rattle.gj_frac.specs.declared.Frac.{Frac}
use Rattle.gj_frac.specs.Fraction.{IsRatio}
use Rattle.gj_fields.specs.Rational.{Rational}
use Rattle.gj_problem.specs.declared.problem.Entry.{Entry}
use Rattle.gj_problem.specs.Problems.{sum_at, AreTermsWithin}
use Rattle.gj_problem.specs.Rows.{dot}
use Rattle.gj_problem.specs.RoundedCuts.{IsZero}
use Rattle.gj_problem.specs.Steps.{IsMadeNext}

-- an entry in a column
abbrev pub entry_in : ℕ → Frac → Entry
entry_in column x = record { column = column; value = x }

-- n/d is pushed as an entry, unless it is 0
abbrev pub IsNumeratorPushed : ℕ → ℤ → ℤ → List Entry → List Entry → Type 0
IsNumeratorPushed column n d old new = (x : Frac) → IsRatio x n d →
    IsMadeNext (IsZero (entry_in column x)) (λ e. e ≡ entry_in column x) old new

-- the entries are those of the first k coefficients, which have these numerators over d
pub record AreEntriesOfFirst (k : ℕ) (cs : List Frac) (entries : List Entry) : Type 0 where
  pub sum : (point : List Rational) → sum_at point entries ≡ dot (take k cs) point
  pub terms : AreTermsWithin 0 k entries

abbrev pub AreEntriesOver : ℤ → List ℤ → ℕ → List Entry → Type 0
AreEntriesOver d ns k entries = (cs : List Frac) →
    AllZip (λ (n : ℤ) (x : Frac). IsRatio x n d) ns cs → AreEntriesOfFirst k cs entries
