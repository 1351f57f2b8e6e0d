-- Words in the places of fractions.
use Rattle.std.proofs.Common.{pos, arith}
use Rattle.std.proofs.lemmas.Int.{ints}
use Rattle.gj_frac.specs.declared.Frac.{Frac}
use Rattle.gj_forms.proofs.WholeNumbers.{whole}

-- a fraction for a word that spells none
pub zero : Frac
zero = whole (pos 0) (omega (arith, ints))
