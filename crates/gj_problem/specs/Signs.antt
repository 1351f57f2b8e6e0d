-- Entries times 1 or -1 (own).
use Rattle.std.specs.Prelude.{◌≡◌, ◌⊎◌, pos, negsuc}
use Rattle.gj_frac.specs.declared.Frac.{Frac}
use Rattle.gj_frac.specs.Fraction.{IsWhole, numerator}
use Rattle.gj_fields.specs.Rational.{rational, neg_ℚ}
use Rattle.gj_problem.specs.declared.problem.Entry.{Entry}

-- the number is 1 or -1
pub record IsSign (x : Frac) : Type 0 where
  pub is_whole : IsWhole x
  pub is : (numerator x ≡ pos 1) ⊎ (numerator x ≡ negsuc 0)

-- the entry has the sign turned
pub record IsNegated (e f : Entry) : Type 0 where
  pub column : f.column ≡ e.column
  pub value : rational f.value ≡ neg_ℚ (rational e.value)
