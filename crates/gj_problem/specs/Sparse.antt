-- Lists of fractions of which only those that are not 0 are kept (own).
use Rattle.std.specs.Prelude.{◌≡◌, ℕ, pos, List, [], ◌∷◌, ◌++◌, replicate, refl}
use Rattle.std.proofs.lemmas.Nat.{pow_pos, pow_below}
use Rattle.std.proofs.lemmas.Nat.Gcd.{IsGcd-from_zero, IsGcd-swap}
use Rattle.std.proofs.Math.Nat.{zero-lt-suc}
use Rattle.gj_frac.specs.declared.Frac.{Frac}
use Rattle.gj_problem.specs.declared.sparse.Run.{Run}

-- the fraction 0
abbrev pub no_fraction : Frac
no_fraction = record {
  num = pos 0;
  den = pos 1;
  lowest = record {
    positive = record { lt = tt };
    num_fits = pow_pos 127;
    den_fits = pow_below 0 127 (zero-lt-suc 126);
    coprime = IsGcd-swap 1 0 1 (IsGcd-from_zero 1 0 refl);
  };
}

-- each fraction with the zeros before it, and then so many zeros
abbrev pub spread : List Run → ℕ → List Frac
spread [] behind = replicate behind no_fraction
spread (r ∷ rs) behind = replicate r.zeros no_fraction ++ r.value ∷ spread rs behind

-- the list is that of these fractions with their zeros, and zeros behind the last
abbrev pub AreRunsOf : List Frac → List Run → Type 0
AreRunsOf xs runs = (behind : ℕ) × (xs ≡ spread runs behind)
