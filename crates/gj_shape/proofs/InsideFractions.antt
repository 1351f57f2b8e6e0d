-- Fractions between 0 and 1, both excluded.
use Rattle.std.proofs.Common.{ℕ, ◌<◌, pos, ◌<ℤ◌, arith}
use Rattle.std.proofs.lemmas.Int.{ints}
use Rattle.gj_lemmas.proofs.Ratios.{ratio_less}
use Rattle.gj_frac.specs.declared.Frac.{Frac}
use Rattle.gj_frac.specs.Fraction.{IsRatio, IsInside}

pub inside_from_ratio : (x : Frac) (k q : ℕ) → 0 < k → k < q → IsRatio x (pos k) (pos q) →
    IsInside x
inside_from_ratio x k q some low h =
    let wide : pos 0 <ℤ pos q = omega (arith, ints) in
    let above = (ratio_less (pos 0) (pos 1) x.num x.den (pos 0) (pos k) (pos q)
    (omega (arith, ints)) x.lowest.positive wide
    (omega (arith, ints)) h).1 (omega (arith, ints)) in
    let below = (ratio_less x.num x.den (pos 1) (pos 1) (pos k) (pos q) (pos q) x.lowest.positive
    (omega (arith, ints)) wide h
    (omega (arith, ints))).1 (omega (arith, ints)) in
    (omega (arith, ints), omega (arith, ints))
