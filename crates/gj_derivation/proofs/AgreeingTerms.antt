-- Moves and their numbers depend on the claimed coefficients of the columns alone.
use Rattle.std.proofs.Common.{◌≡◌, ⊎_elim, inl, inr, ℕ, zero, suc, ◌<◌, ◌^◌, ◌≤◌, List, [], ◌∷◌, length, take, subst, ◌∙◌, arith}
use Rattle.std.proofs.lemmas.List.{length-take-le}
use Rattle.gj_frac.specs.declared.Frac.{Frac}
use Rattle.gj_frac.specs.Fits.{FitsProduct}
use Rattle.gj_fields.specs.Rational.{Rational, rational}
use Rattle.gj_problem.specs.declared.problem.Column.{Column}
use Rattle.gj_problem.specs.Moves.{HasLower, HasUpper, IsMovedBy, AreMovedBy}
use Rattle.gj_derivation.specs.Derivations.{Line, times}
use Rattle.gj_derivation.specs.Checks.{IsUnmovable, IsFirstUnmovable, IsWideColumn, IsWideMoving}

-- equal in these columns
abbrev pub AgreeIn : List Column → (ℕ → Rational) → (ℕ → Rational) → Type 0
AgreeIn columns ys zs = (j : ℕ) → j < length columns → ys j ≡ zs j

pub moved_along : (columns : List Column) (xs ys zs : ℕ → Rational) (total : Rational) →
    AgreeIn columns ys zs → AreMovedBy columns xs ys total → AreMovedBy columns xs zs total
moved_along [] xs ys zs total same h = h
moved_along (c ∷ columns) xs ys zs total same (shift, rest, first, more, is) = (
  shift,
  rest,
  subst (λ y. IsMovedBy (HasLower c) (HasUpper c) (xs zero) y shift)
      (same zero (omega arith)) first,
  moved_along columns (λ j. xs (suc j)) (λ j. ys (suc j)) (λ j. zs (suc j)) rest
      (λ j below. same (suc j) (omega arith)) more,
  is,
)

in_front : (columns : List Column) (i : ℕ) (ys zs : ℕ → Rational) → i < length columns →
    AgreeIn columns ys zs → AgreeIn (take i columns) ys zs
in_front columns i ys zs below same j j_below =
    let fewer : length (take i columns) ≡ i = length-take-le i columns (omega arith) in
    same j (omega arith)

unmovable_along : (columns : List Column) (xs ys zs : ℕ → Rational) (j : ℕ) →
    AgreeIn columns ys zs → IsFirstUnmovable columns xs ys j → IsFirstUnmovable columns xs zs j
unmovable_along columns xs ys zs j same h = record {
  below = h.below;
  column = h.column;
  is = h.is;
  total = h.total;
  moved_before = moved_along (take j columns) xs ys zs h.total (in_front columns j ys zs h.below
      same) h.moved_before;
  unmovable = subst (IsUnmovable h.column (xs j)) (same j h.below) h.unmovable;
}

pub wide_along : (columns : List Column) (factor : Frac) (base : Line) (ys zs : ℕ → Rational) →
    AgreeIn columns ys zs → IsWideMoving columns factor base ys →
    IsWideMoving columns factor base zs
wide_along columns factor base ys zs same =
    ⊎_elim
    (λ (a : (right : Frac) × (rational right ≡ base.right) × (FitsProduct factor right → ⊥)). inl a)
    (⊎_elim
    (λ (w : IsWideColumn columns factor base ys).
    inr (inl (record {
      index = w.index;
      below = w.below;
      column = w.column;
      is = w.is;
      coefficient = w.coefficient;
      coefficient_is = w.coefficient_is;
      claimed = w.claimed;
      claimed_is = w.claimed_is ∙ same w.index w.below;
      total = w.total;
      moved_before = moved_along (take w.index columns) (times factor base) ys zs w.total
          (in_front columns w.index ys zs w.below same) w.moved_before;
      right = w.right;
      right_is = w.right_is;
      wide = w.wide;
    })))
    (λ (k : (j : ℕ) × IsFirstUnmovable columns (times factor base) ys j × (2 ^ 32 ≤ j)).
    inr (inr (k.0, unmovable_along columns (times factor base) ys zs k.0 same k.1, k.2))))
