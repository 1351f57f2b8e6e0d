-- Functions from the numbers of a field to its numbers: what valid, minimal and extreme mean
-- (Gomory and Johnson 1972).
use Rattle.std.specs.Prelude.{ℕ, ◌≡◌, List, [], ◌∷◌, map}
use Rattle.gj_fields.specs.Fields.{OrderedField, AtMost, number}

-- x and y are one point modulo 1: x + n is y + m, for whole numbers n and m
abbrev pub IsSamePoint : {R : Type 0} → OrderedField R → R → R → Type 0
IsSamePoint K x y = (n m : ℕ) × (K.plus x (number K n) ≡ K.plus y (number K m))

-- the sum of the numbers of a list
abbrev pub total_of : {R : Type 0} → OrderedField R → List R → R
total_of K [] = K.zero
total_of K (x ∷ xs) = K.plus x (total_of K xs)

-- a function of period 1, nowhere negative
pub record IsFunction {R : Type 0} (K : OrderedField R) (v : R → R) : Type 0 where
  pub nonnegative : (x : R) → AtMost K K.zero (v x)
  pub has_period : (x : R) → v (K.plus x K.one) ≡ v x

-- a valid function for f: if points, each as often as it is used, add up to f modulo 1, its values
-- at them add up to 1 or more
pub record IsValid {R : Type 0} (K : OrderedField R) (v : R → R) (f : R) : Type 0 where
  pub function : IsFunction K v
  pub at_solutions : (points : List R) → IsSamePoint K (total_of K points) f →
      AtMost K K.one (total_of K (map v points))

-- a valid function such that each valid function that is nowhere above it equals it
pub record IsMinimalAmong {R : Type 0} (K : OrderedField R) (v : R → R) (f : R) : Type 0 where
  pub valid : IsValid K v f
  pub none_below : (u : R → R) → IsValid K u f → ((x : R) → AtMost K (u x) (v x)) → (x : R) →
      u x ≡ v x

-- a valid function that is not half the sum of two different valid functions
pub record IsExtremeAmong {R : Type 0} (K : OrderedField R) (v : R → R) (f : R) : Type 0 where
  pub valid : IsValid K v f
  pub no_average : (a b : R → R) → IsValid K a f → IsValid K b f →
      ((x : R) → K.plus (a x) (b x) ≡ K.plus (v x) (v x)) → (x : R) → a x ≡ b x

-- 0 at 0, nowhere above a sum, and the values at x and f - x add up to 1
pub record HasRules {R : Type 0} (K : OrderedField R) (v : R → R) (f : R) : Type 0 where
  pub function : IsFunction K v
  pub zero_at_zero : v K.zero ≡ K.zero
  pub subadditive : (x y : R) → AtMost K (v (K.plus x y)) (K.plus (v x) (v y))
  pub symmetric : (x : R) → K.plus (v x) (v (K.plus f (K.negative x))) ≡ K.one
