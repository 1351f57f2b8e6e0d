-- The products of the row of a name with numbers for the columns are what the row says of these.
use Rattle.std.proofs.Common.{◌≡◌, ℕ, zero, suc, ◌+◌, ◌-◌, ◌%◌, ◌<◌, ℤ, pos, ◌+ℤ◌, ◌-ℤ◌, ◌*ℤ◌, List, [], ◌∷◌, length, map, get_or, refl, ap, ap₂, ◌∙◌, arith}
use Rattle.std.specs.Prelude.{if◌then◌else◌}
use Rattle.std.specs.List.{range_with_len}
use Rattle.std.proofs.Math.Nat.{mod-lt}
use Rattle.std.proofs.lemmas.Bool.{eq-eqb, ne_eqb}
use Rattle.std.proofs.lemmas.Int.{ints}
use Rattle.gj_lemmas.proofs.Ring.{by_ring, ring}
use Rattle.gj_shape.specs.FunctionData.{FunctionData}
use Rattle.gj_shape.specs.SlopeRows.{sum_of_products}
use Rattle.gj_limit_faces.specs.Terms.{terms_at}
use Rattle.gj_limit_faces.specs.declared.terms.Side.{Side}
use Rattle.gj_limit_faces.specs.declared.terms.Side.TheVariants.{Left, Value, Right}
use Rattle.gj_limit_system.specs.LimitRows.{row_value}
use Rattle.gj_limit_system.specs.LimitSlacks.{number_on}
use Rattle.gj_limit_system.specs.Unknowns.{right_column, value_column, slope_column, columns_for, value_from, interval_before, limits_from}
use Rattle.gj_limit_system.specs.declared.limit_row.LimitRow.{LimitRow}
use Rattle.gj_limit_system.specs.declared.limit_row.LimitRow.TheVariants.{F, Tight}
use Rattle.gj_limit_proof.specs.LimitRowsKept.{unit_at, named_row}

-- ---- sums and differences of numbers for the first n columns

pub data IsLinear (n : ℕ) : ((ℕ → ℤ) → ℤ) → Type 0 where
  column : (c : ℕ) → c < n → IsLinear n (λ x. x c)
  none : IsLinear n (λ x. pos 0)
  plus : (f g : (ℕ → ℤ) → ℤ) → IsLinear n f → IsLinear n g → IsLinear n (λ x. f x +ℤ g x)
  minus : (f g : (ℕ → ℤ) → ℤ) → IsLinear n f → IsLinear n g → IsLinear n (λ x. f x -ℤ g x)

-- they look at no other columns
pub linear_same : (n : ℕ) (f : (ℕ → ℤ) → ℤ) (x y : ℕ → ℤ) → IsLinear n f →
    ((c : ℕ) → c < n → x c ≡ y c) → f x ≡ f y
linear_same n _ x y (column c low) same = same c low
linear_same n _ x y none same = refl
linear_same n _ x y (plus f g a b) same =
    ap₂ (λ s t. s +ℤ t) (linear_same n f x y a same) (linear_same n g x y b same)
linear_same n _ x y (minus f g a b) same =
    ap₂ (λ s t. s -ℤ t) (linear_same n f x y a same) (linear_same n g x y b same)

-- ---- products of the columns from a on, m in number

abbrev products : (ℕ → ℤ) → ℕ → ℕ → List ℤ → ℤ
products f a m w = sum_of_products (map f (range_with_len a m)) w

no_products : (a m : ℕ) (w : List ℤ) → products (λ j. pos 0) a m w ≡ pos 0
no_products a zero w = refl
no_products a (suc m) [] = refl
no_products a (suc m) (y ∷ ys) = let rest = no_products (a + 1) m ys in omega (arith, ints, rest)

plus_products : (f g : ℕ → ℤ) (a m : ℕ) (w : List ℤ) →
    products (λ j. f j +ℤ g j) a m w ≡ products f a m w +ℤ products g a m w
plus_products f g a zero w = refl
plus_products f g a (suc m) [] = refl
plus_products f g a (suc m) (y ∷ ys) =
    let rest = plus_products f g (a + 1) m ys in
    let here : (f a +ℤ g a) *ℤ y ≡ f a *ℤ y +ℤ g a *ℤ y =
    by_ring (f a ∷ g a ∷ y ∷ []) (search ring depth 30) refl in
    omega (arith, ints, rest, here)

minus_products : (f g : ℕ → ℤ) (a m : ℕ) (w : List ℤ) →
    products (λ j. f j -ℤ g j) a m w ≡ products f a m w -ℤ products g a m w
minus_products f g a zero w = refl
minus_products f g a (suc m) [] = refl
minus_products f g a (suc m) (y ∷ ys) =
    let rest = minus_products f g (a + 1) m ys in
    let here : (f a -ℤ g a) *ℤ y ≡ f a *ℤ y -ℤ g a *ℤ y =
    by_ring (f a ∷ g a ∷ y ∷ []) (search ring depth 30) refl in
    omega (arith, ints, rest, here)

-- of the row with 1 at the column c alone: before it there is nothing
before_column : (a m c : ℕ) (w : List ℤ) → c < a → products (λ j. unit_at j c) a m w ≡ pos 0
before_column a zero c w low = refl
before_column a (suc m) c [] low = refl
before_column a (suc m) c (y ∷ ys) low =
    let rest = before_column (a + 1) m c ys (omega (arith, low)) in
    let other : unit_at a c ≡ pos 0 =
    ap (λ t. if t then pos 1 else pos 0) (ne_eqb c a (λ e. absurd (omega (arith, low, e)))) in
    let here : unit_at a c *ℤ y ≡ pos 0 = ap (λ u. u *ℤ y) other
    ∙ (let z : pos 0 *ℤ y ≡ pos 0 = omega (arith, ints) in z) in
    omega (arith, ints, rest, here)

unit_products : (a m k c : ℕ) (w : List ℤ) → c ≡ a + k → k < m → length w ≡ m →
    products (λ j. unit_at j c) a m w ≡ get_or w k (pos 0)
unit_products a zero k c w is low len = absurd (omega (arith, low))
unit_products a (suc m) k c [] is low len = absurd (omega (arith, len))
unit_products a (suc m) zero c (y ∷ ys) is low len =
    let same : unit_at a c ≡ pos 1 =
    ap (λ t. if t then pos 1 else pos 0) (eq-eqb c a (omega (arith, is))) in
    let here : unit_at a c *ℤ y ≡ y = ap (λ u. u *ℤ y) same
    ∙ (let z : pos 1 *ℤ y ≡ y = omega (arith, ints) in z) in
    let rest = before_column (a + 1) m c ys (omega (arith, is)) in
    omega (arith, ints, rest, here)
unit_products a (suc m) (suc k) c (y ∷ ys) is low len =
    let other : unit_at a c ≡ pos 0 =
    ap (λ t. if t then pos 1 else pos 0) (ne_eqb c a (λ e. absurd (omega (arith, is, e)))) in
    let here : unit_at a c *ℤ y ≡ pos 0 = ap (λ u. u *ℤ y) other
    ∙ (let z : pos 0 *ℤ y ≡ pos 0 = omega (arith, ints) in z) in
    let rest = unit_products (a + 1) m k c ys (omega (arith, is)) (omega (arith, low))
    (omega (arith, len)) in
    omega (arith, ints, rest, here)

-- at each column what it is if that one is 1 and all others are 0, times the numbers for the columns
pub linear_products : (n : ℕ) (f : (ℕ → ℤ) → ℤ) (w : List ℤ) → IsLinear n f → length w ≡ n →
    products (λ j. f (unit_at j)) 0 n w ≡ f (λ c. get_or w c (pos 0))
linear_products n _ w (column c low) len = unit_products 0 n c c w (omega arith) low len
linear_products n _ w none len = no_products 0 n w
linear_products n _ w (plus f g a b) len =
    plus_products (λ j. f (unit_at j)) (λ j. g (unit_at j)) 0 n w
    ∙ ap₂ (λ s t. s +ℤ t) (linear_products n f w a len) (linear_products n g w b len)
linear_products n _ w (minus f g a b) len =
    minus_products (λ j. f (unit_at j)) (λ j. g (unit_at j)) 0 n w
    ∙ ap₂ (λ s t. s -ℤ t) (linear_products n f w a len) (linear_products n g w b len)

-- ---- rows

module _ (f : FunctionData) (comp : ℕ → ℕ) (count : ℕ) (some : 0 < f.order)
    (few : (i : ℕ) → i < f.order → comp i < count) where
  value_linear : (i : ℕ) → i < f.order →
      IsLinear (columns_for f.order count) (λ x. value_from f.order x i)
  value_linear zero low = none
  value_linear (suc i) low = column (value_column f.order (suc i)) (omega (arith, low))

  number_linear : (side : Side) (i : ℕ) →
      IsLinear (columns_for f.order count) (λ x. number_on (limits_from f.order comp x) side i)
  number_linear Right i = let low = mod-lt i some in
      column (right_column f.order (i % f.order)) (omega (arith, low))
  number_linear Value i = value_linear (i % f.order) (mod-lt i some)
  number_linear Left i =
      let j = interval_before f.order i in
      let low = mod-lt (i + (f.order - 1)) some in
      let component = few j low in
      plus (λ x. x (right_column f.order j)) (λ x. x (slope_column f.order (comp j)))
      (column (right_column f.order j) (omega (arith, low)))
      (column (slope_column f.order (comp j)) (omega (arith, component)))

  pub row_linear : (name : LimitRow) →
      IsLinear (columns_for f.order count)
      (λ x. row_value f.place (limits_from f.order comp x) name)
  row_linear F = number_linear Value f.place
  row_linear (Tight kind corner a b) =
      let t = terms_at kind corner in
      minus (λ x. number_on (limits_from f.order comp x) t.x a +ℤ number_on
      (limits_from f.order comp x) t.y b)
      (λ x. number_on (limits_from f.order comp x) t.sum (a + b))
      (plus (λ x. number_on (limits_from f.order comp x) t.x a)
      (λ x. number_on (limits_from f.order comp x) t.y b)
      (number_linear t.x a) (number_linear t.y b))
      (number_linear t.sum (a + b))

  -- the products of the row of a name
  pub named_products : (name : LimitRow) (w : List ℤ) → length w ≡ columns_for f.order count →
      sum_of_products (named_row f comp (columns_for f.order count) name) w
      ≡ row_value f.place (limits_from f.order comp (λ c. get_or w c (pos 0))) name
  named_products name w len =
      linear_products (columns_for f.order count)
      (λ x. row_value f.place (limits_from f.order comp x) name) w (row_linear name) len
