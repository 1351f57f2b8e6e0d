-- Half the sum of two functions (own).
use Rattle.std.specs.Prelude.{ℕ, ℤ, pos, ◌≡◌, ◌*◌, ◌+ℤ◌, ◌*ℤ◌, List}
use Rattle.gj_frac.specs.declared.Frac.{Frac}
use Rattle.gj_shape.specs.FunctionData.{FunctionData, at}
use Rattle.gj_shape.specs.Given.{HaveLength, AreOver}

-- half the sum of the entries of a list of f and one of g, over twice the product of the scales
abbrev pub half_sum : FunctionData → FunctionData → List ℤ → List ℤ → ℕ → ℤ
half_sum f g xs ys i = pos g.scale *ℤ at xs i +ℤ pos f.scale *ℤ at ys i

-- in each list half the sums of the entries
pub record AreHalfSums (f g : FunctionData) (left value right : List Frac) : Type 0 where
  pub lengths : HaveLength left value right f.order
  pub left_is : AreOver (half_sum f g f.left g.left) (2 * (f.scale * g.scale)) left
  pub value_is : AreOver (half_sum f g f.value g.value) (2 * (f.scale * g.scale)) value
  pub right_is : AreOver (half_sum f g f.right g.right) (2 * (f.scale * g.scale)) right

-- h is in each list half the sum of f and g
pub record IsAverageOf (f g h : FunctionData) : Type 0 where
  pub order : h.order ≡ f.order
  pub place : h.place ≡ f.place
  pub left_is : (i : ℕ) →
      at h.left i *ℤ pos (2 * (f.scale * g.scale)) ≡ half_sum f g f.left g.left i *ℤ pos h.scale
  pub value_is : (i : ℕ) →
      at h.value i *ℤ pos (2 * (f.scale * g.scale)) ≡ half_sum f g f.value g.value i *ℤ pos h.scale
  pub right_is : (i : ℕ) →
      at h.right i *ℤ pos (2 * (f.scale * g.scale)) ≡ half_sum f g f.right g.right i *ℤ pos h.scale
