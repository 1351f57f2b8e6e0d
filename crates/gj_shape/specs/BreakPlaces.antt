-- Where a breakpoint can stand by those before it alone (own).
use Rattle.std.specs.Prelude.{◌≡◌, List, [], ◌∷◌, ◌++◌}
use Rattle.gj_frac.specs.declared.Frac.{Frac}
use Rattle.gj_frac.specs.Fraction.{LessValue, fraction_of}
use Rattle.gj_shape.specs.declared.breaks.Break.{Break}

-- the first x is `start`, and each further one greater than the one before
pub record IsBehindOthers (breaks : List Break) (start x : Frac) : Type 0 where
  pub first : breaks ≡ [] → x ≡ start
  pub further : (front : List Break) (b : Break) → breaks ≡ front ++ b ∷ [] →
      LessValue (fraction_of b.x) (fraction_of x)
