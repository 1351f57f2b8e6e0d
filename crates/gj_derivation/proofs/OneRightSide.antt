-- A step shows one right side.
use Rattle.std.proofs.Common.{◌≡◌, ⊎_elim, ◌↔◌, ℕ, zero, suc, Option, Some, List, [], ◌∷◌, sym, ap₂, subst, ◌∙◌}
use Rattle.gj_frac.specs.declared.Frac.{Frac}
use Rattle.gj_shape.specs.FunctionData.{FunctionData}
use Rattle.gj_fields.specs.Rational.{Rational, rational, ◌+ℚ◌, ◌*ℚ◌, ◌≤ℚ◌}
use Rattle.gj_problem.proofs.OneMove.{one_shift, one_above}
use Rattle.gj_problem.proofs.OneRow.{one_lower, one_upper}
use Rattle.gj_problem.specs.declared.problem.Column.{Column}
use Rattle.gj_problem.specs.declared.problem.Problem.{Problem}
use Rattle.gj_problem.specs.Aggregates.{IsLowerBound, IsUpperBound}
use Rattle.gj_derivation.specs.declared.step.Step.{Step}
use Rattle.gj_problem.specs.Moves.{HasLower, HasUpper, AreMovedBy}
use Rattle.gj_derivation.specs.Derivations.{Line, coefficient_in, times, IsUsableFor, AreWholeTerms, IsRoundedUp, IsRightFor, IsRightOf, IsShown, Follows}
use Rattle.gj_derivation.proofs.OneBase.{one_base}

-- ---- one bound

some_same : (o : Option Frac) (a b : Frac) → o ≡ Some a → o ≡ Some b → b ≡ a
some_same o a b h k = let both : Some b ≡ Some a = sym k ∙ h in cc

pub lower_same : (c : Column) (b d : Frac) → HasLower c b → HasLower c d → rational b ≡ rational d
lower_same c b d (l, is, h) (m, is', k) =
    one_lower c.is_whole l b d h (subst (λ (x : Frac). IsLowerBound c.is_whole x d)
    (some_same c.lower l m is is') k)

pub upper_same : (c : Column) (b d : Frac) → HasUpper c b → HasUpper c d → rational b ≡ rational d
upper_same c b d (u, is, h) (m, is', k) =
    one_upper c.is_whole u b d h (subst (λ (x : Frac). IsUpperBound c.is_whole x d)
    (some_same c.upper u m is is') k)

pub one_total : (columns : List Column) (xs ys : ℕ → Rational) (s t : Rational) →
    AreMovedBy columns xs ys s → AreMovedBy columns xs ys t → s ≡ t
one_total [] xs ys s t h k = h ∙ sym k
one_total (c ∷ columns) xs ys s t h k =
    h.4
    ∙ ap₂ (λ v w. v +ℚ w)
    (one_shift (HasLower c) (HasUpper c) (lower_same c) (upper_same c) (xs zero) (ys zero) h.0 k.0
    h.2 k.2)
    (one_total columns (λ j. xs (suc j)) (λ j. ys (suc j)) h.1 k.1 h.3 k.3)
    ∙ sym k.4

-- ---- one right side

one_rounded : (x y z : Rational) → IsRoundedUp x y → IsRoundedUp x z → y ≡ z
one_rounded x y z h k = one_above 1 x y z h k

one_right_for : (Whole : Type 0) (x y z : Rational) → IsRightFor Whole x y → IsRightFor Whole x z →
    y ≡ z
one_right_for Whole x y z h k =
    ⊎_elim
    (λ (a : Whole × IsRoundedUp x y).
    ⊎_elim (λ (b : Whole × IsRoundedUp x z). one_rounded x y z a.1 b.1) (λ (b : (Whole → ⊥)
    × (z ≡ x)). absurd (b.0 a.0)) k)
    (λ (a : (Whole → ⊥) × (y ≡ x)).
    ⊎_elim (λ (b : Whole × IsRoundedUp x z). absurd (a.0 b.0)) (λ (b : (Whole → ⊥) × (z ≡ x)). a.1
    ∙ sym b.1) k)
    h

pub one_right_of : (columns : List Column) (factor : Frac) (base : Line) (ys : ℕ → Rational)
    (right other : Rational) →
    IsRightOf columns factor base ys right → IsRightOf columns factor base ys other → right ≡ other
one_right_of columns factor base ys right other h k =
    let shift : h.shift ≡ k.shift = one_total columns (times factor base) ys h.shift k.shift h.moved
    k.moved in
    one_right_for (AreWholeTerms columns ys) (rational factor *ℚ base.right +ℚ k.shift) right other
    (subst (λ t. IsRightFor (AreWholeTerms columns ys) (rational factor *ℚ base.right +ℚ t) right)
    shift h.right_is) k.right_is

pub one_shown : (f : Option FunctionData) (p : Problem) (s : Step) (right other : Rational) →
    IsUsableFor f s.combination.rule → IsShown f p s right →
    IsShown f p s other → right ≡ other
one_shown f p s right other usable h k =
    let factor = s.combination.factor in
    let ys = coefficient_in s.claim.entries in
    let same : h.base ≡ k.base = one_base f p s.combination h.base k.base usable h.base_is k.base_is
    in
    one_right_of p.columns factor k.base ys right other
    (subst (λ (l : Line). IsRightOf p.columns factor l ys right) same h.right_is) k.right_is

pub follows_if : (f : Option FunctionData) (p : Problem) (s : Step) (right : Rational) →
    IsUsableFor f s.combination.rule → IsShown f p s right →
    (Follows f p s ↔ (rational s.claim.right ≤ℚ right))
follows_if f p s right usable shown = (
  λ (h : Follows f p s). subst (λ w. rational s.claim.right ≤ℚ w)
      (one_shown f p s h.0 right usable h.1 shown) h.2,
  λ below. (right, shown, below),
)
