-- The greatest absolute value of the numbers of three sides.
use Rattle.std.proofs.Common.{ℕ, inl, inr, max, ◌∙◌, arith}
use Rattle.std.proofs.lemmas.Bool.{cases_lt}
use Rattle.gj_shape.specs.FunctionData.{at}
use Rattle.gj_shape.specs.Perturbation.{IsGreatestSize}
use Rattle.gj_shape.specs.declared.extremality.SideNumbers.{SideNumbers}
use Rattle.gj_limit_averages.specs.Moved.{IsBoundOf}
use Rattle.gj_limit_halves.specs.Sides.{limits_on_sides, IsGreatestOf}

pub greatest_of_sides : (s : SideNumbers) (l v r : ℕ) → IsGreatestSize (at s.left) l →
    IsGreatestSize (at s.value) v →
    IsGreatestSize (at s.right) r → IsGreatestOf (limits_on_sides s) (max (max l v) r)
greatest_of_sides s l v r left value right = elim (cases_lt (max l v) r) [
  | inl less ↦ record {
    bound = bound;
    i = right.i;
    reached =
        inr (inr (right.reached ∙ omega (arith, less)));
  }
  | inr high ↦ elim (cases_lt l v) [
    | inl less ↦ record {
      bound = bound;
      i = value.i;
      reached =
          inr (inl (value.reached ∙ omega (arith, less, high)));
    }
    | inr more ↦ record {
      bound = bound;
      i = left.i;
      reached =
          inl (left.reached ∙ omega (arith, more, high));
    }
  ]
]
  where
    bound : IsBoundOf (limits_on_sides s) (max (max l v) r)
    bound = record {
      left = λ i. let most = left.greatest i in omega (arith, most);
      value = λ i. let most = value.greatest i in omega (arith, most);
      right = λ i. let most = right.greatest i in omega (arith, most);
    }
