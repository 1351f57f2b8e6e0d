-- The numbers that the rows of a proof may have (own).
use Rattle.std.specs.Prelude.{ℤ, pos, ◌≤ℤ◌, ◌<ℤ◌, List, All}
use Rattle.gj_frac.specs.Fraction.{Fits}
use Rattle.gj_theory.specs.Modulus.{modulus}
use Rattle.gj_proof.specs.declared.numbers.Numbers.{Numbers}
use Rattle.gj_proof.specs.declared.numbers.Numbers.TheVariants.{Whole, Residues}

-- it is from 0 on and below the modulus
pub record IsResidue (x : ℤ) : Type 0 where
  pub low : pos 0 ≤ℤ x
  pub below : x <ℤ pos modulus

-- whole numbers are at most 2^127 - 1 in absolute value
abbrev pub AreRowNumbers : Numbers → List ℤ → Type 0
AreRowNumbers Whole row = All Fits row
AreRowNumbers Residues row = All IsResidue row

-- of whole numbers, a row that is kept is positive at its pivot
abbrev pub IsPivotEntry : Numbers → ℤ → Type 0
IsPivotEntry Whole x = pos 0 <ℤ x
IsPivotEntry Residues x = Unit {0}
