-- Points near the ends of an open interval and near the corners of a face, on the coarsest grid
-- that shows a failure.
use Rattle.std.proofs.Common.{◌≡◌, ℕ, ◌+◌, ◌-◌, ◌*◌, ◌<◌, ◌≤◌, ◌^◌, ℤ, pos, ◌+ℤ◌, ◌*ℤ◌, ◌<ℤ◌, ◌≤ℤ◌, refl, sym, ap, subst, ◌∙◌, arith}
use Rattle.std.proofs.Math.Nat.{mul-le-mul}
use Rattle.std.proofs.lemmas.Int.{ints}
use Rattle.gj_frac.specs.declared.Frac.{Frac}
use Rattle.gj_frac.specs.Fraction.{IsRatio}
use Rattle.gj_shape.specs.FunctionData.{FunctionData, at}
use Rattle.gj_shape.specs.FirstViolation.{Shows, IsLeastFrom, IsNegativeOnGrid}
use Rattle.gj_shape.specs.FirstViolation.Test.{nonnegative_after, nonnegative_before}
use Rattle.gj_shape.specs.declared.violations.Violation.TheVariants as violation
use Rattle.gj_theory.specs.GridPoints.{IsGridPoint}
use Rattle.gj_minimal.proofs.Theory.{near_after, near_before}

-- the least number with a property is the least with another that holds at the same numbers
pub least_along : (m : ℕ) (P Q : ℕ → Type 0) (n : ℕ) → ((k : ℕ) → m ≤ k → P k → Q k) →
    ((k : ℕ) → m ≤ k → Q k → P k) →
    IsLeastFrom m P n → IsLeastFrom m Q n
least_along m P Q n there back h = record {
  from = h.from;
  holds = there n h.from h.holds;
  least = λ k from below q. h.least k from below (back k from q);
}

-- the grid is within 2^62
pub fine_grid : (q h : ℕ) → q ≤ 1000 → h ≤ 2 ^ 52 → q * h ≤ 2 ^ 62
fine_grid q h few small = let most : q * h ≤ 1000 * 2 ^ 52 = mul-le-mul few small in omega arith

-- near the end of an open interval
pub fine_near_end : (q h : ℕ) (total : ℤ) → q ≤ 1000 → total ≤ℤ pos (2 ^ 51) →
    ((t : ℕ) → total ≤ℤ pos t → h ≤ 2 + t + 1) → q * h ≤ 2 ^ 62
fine_near_end q h total few small bounded =
    let most = bounded (2 ^ 51) small in
    fine_grid q h few (omega arith)

-- one point on a grid
pub one_point : (f : FunctionData) (q h i : ℕ) (x : Frac) → q ≡ f.order → 0 < h → q * h ≤ 2 ^ 62 →
    i < q * h →
    IsRatio x (pos i) (pos (q * h)) → (h : ℕ) × (0 < h) × (f.order * h ≤ 2 ^ 62) × IsGridPoint f h x
one_point f q h i x order some fine below point = (
  h,
  some,
  subst (λ (n : ℕ). n * h ≤ 2 ^ 62) order fine,
  (
    i,
    subst (λ (n : ℕ). i < n * h) order below,
    subst (λ (n : ℕ). IsRatio x (pos i) (pos (n * h)))
        order point,
  ),
)

-- and two on one grid
pub two_points : (f : FunctionData) (q h i j : ℕ) (x y : Frac) → q ≡ f.order → 0 < h →
    q * h ≤ 2 ^ 62 → i < q * h →
    j < q * h → IsRatio x (pos i) (pos (q * h)) → IsRatio y (pos j) (pos (q * h)) →
    (h : ℕ) × (0 < h) × (f.order * h ≤ 2 ^ 62) × (IsGridPoint f h x × IsGridPoint f h y)
two_points f q h i j x y order some fine below_i below_j first second = (
  h,
  some,
  subst (λ (n : ℕ). n * h ≤ 2 ^ 62) order fine,
  (
    (
      i,
      subst (λ (n : ℕ). i < n * h) order below_i,
      subst
          (λ (n : ℕ). IsRatio x (pos i) (pos (n * h))) order first,
    ),
    (
      j,
      subst (λ (n : ℕ). j < n * h) order below_j,
      subst
          (λ (n : ℕ). IsRatio y (pos j) (pos (n * h))) order second,
    ),
  ),
)

-- near the start of an open interval
after_index : (i h : ℕ) → 2 ≤ h → (h - 2) * i + (2 * i + 1) ≡ i * h + 1
after_index i h two =
    let u = h - 2 in
    let whole : h ≡ h - 2 + 2 = omega arith in
    omega arith ∙ ap (λ (k : ℕ). i * k + 1) (sym whole)

pub shows_after : (f : FunctionData) (i h : ℕ) (limit total : ℤ) (x : Frac) → limit ≡ at f.right i →
    total ≡ at f.right i +ℤ at f.left (i + 1) →
    IsLeastFrom 2 (λ n. (pos (n - 2) *ℤ limit +ℤ total) <ℤ pos 0) h →
    IsRatio x (pos ((h - 2) * i + (2 * i + 1))) (pos (f.order * h)) →
    Shows f (nonnegative_after i) (violation.Negative x)
shows_after f i h limit total x limit_is total_is least point = (
  h,
  x,
  least_along 2 (λ n. (pos (n - 2) *ℤ limit +ℤ total) <ℤ pos 0)
      (λ n. IsNegativeOnGrid f n (i * n + 1)) h
      (λ k two negative. let value = near_after f i k two in
      let weighted = ap (λ z. pos (k - 2) *ℤ z) limit_is in
      omega (arith, ints))
      (λ k two negative. let value = near_after f i k two in
      let weighted = ap (λ z. pos (k - 2) *ℤ z) limit_is in
      omega (arith, ints)) least,
  subst (λ (n : ℕ). IsRatio x (pos n) (pos (f.order * h))) (after_index i h least.from) point,
  refl,
)

-- near its end
before_index : (i h : ℕ) → 2 ≤ h → (h - 2) * (i + 1) + (2 * i + 1) ≡ i * h + h - 1
before_index i h two =
    let u = h - 2 in
    let whole : h ≡ h - 2 + 2 = omega arith in
    omega arith ∙ ap (λ (k : ℕ). i * k + k - 1) (sym whole)

pub shows_before : (f : FunctionData) (i h : ℕ) (limit total : ℤ) (x : Frac) →
    limit ≡ at f.left (i + 1) →
    total ≡ at f.right i +ℤ at f.left (i + 1) →
    IsLeastFrom 2 (λ n. (pos (n - 2) *ℤ limit +ℤ total) <ℤ pos 0) h →
    IsRatio x (pos ((h - 2) * (i + 1) + (2 * i + 1))) (pos (f.order * h)) →
    Shows f (nonnegative_before i) (violation.Negative x)
shows_before f i h limit total x limit_is total_is least point = (
  h,
  x,
  least_along 2 (λ n. (pos (n - 2) *ℤ limit +ℤ total) <ℤ pos 0)
      (λ n. IsNegativeOnGrid f n (i * n + n - 1)) h
      (λ k two negative. let value = near_before f i k two in
      let weighted = ap (λ z. pos (k - 2) *ℤ z) limit_is in
      omega (arith, ints))
      (λ k two negative. let value = near_before f i k two in
      let weighted = ap (λ z. pos (k - 2) *ℤ z) limit_is in
      omega (arith, ints)) least,
  subst (λ (n : ℕ). IsRatio x (pos n) (pos (f.order * h))) (before_index i h least.from) point,
  refl,
)
