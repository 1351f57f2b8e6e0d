-- The numbers of a function at a point.
use Rattle.std.proofs.Common.{◌≡◌, ℕ, ◌<◌, ℤ, pos, List, All, length, get_or, sym, ap, subst, ◌∙◌, arith}
use Rattle.gj_frac.specs.Fraction.{Fits}
use Rattle.gj_shape.specs.FunctionData.{at}
use Rattle.gj_shape.specs.declared.extremality.LimitHalves.{LimitHalves}
use Rattle.gj_shape.proofs.AtLemmas.{at_below}
use Rattle.gj_limit_proof.specs.LimitText.{triple_at}
use Rattle.gj_limit_proof.specs.declared.triple.Triple.{Triple}

module _ (xs : List ℤ) (n i : ℕ) (long : length xs ≡ n) (below : i < n) where
  within : i < length xs
  within = omega arith

  pub item_is : (ys : List ℤ) → ys ≡ xs → get_or ys i (pos 0) ≡ at xs i
  item_is ys same = ap (λ zs. get_or zs i (pos 0)) same ∙ sym (at_below xs i within)

  pub item_fits : All Fits xs → Fits (at xs i)
  item_fits fit = subst Fits (sym (at_below xs i within)) (fit i (pos 0) within)

-- the numbers of both halves at an index
abbrev pub pair_at : LimitHalves → ℕ → Triple × Triple
pair_at h i = (triple_at h.first i, triple_at h.second i)
