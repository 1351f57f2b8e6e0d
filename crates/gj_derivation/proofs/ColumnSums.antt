-- Sums over the columns of a point.
use Rattle.std.proofs.Common.{◌≡◌, ℕ, zero, suc, List, [], ◌∷◌, pos, refl, sym, ap, ap₂, ◌∙◌}
use Rattle.gj_fields.specs.Rational.{Rational, whole, rational, ◌+ℚ◌, ◌*ℚ◌, ◌-ℚ◌}
use Rattle.gj_fields.proofs.RationalRing.{by_ring_q, ring_q}
use Rattle.gj_problem.specs.declared.problem.Entry.{Entry}
use Rattle.gj_problem.specs.Problems.{value_at, sum_at}
use Rattle.gj_problem.proofs.AddedSums.{zero_step}
use Rattle.gj_fields.proofs.RationalLaws.{mul_zero_q}
use Rattle.gj_derivation.specs.Derivations.{Line, unit, coefficient_in}
use Rattle.gj_problem.proofs.OneColumn.{scaled_step}

-- the coefficients, each times its column
abbrev pub column_sum : List Rational → (ℕ → Rational) → Rational
column_sum [] xs = whole (pos 0)
column_sum (v ∷ point) xs = xs zero *ℚ v +ℚ column_sum point (λ j. xs (suc j))

-- what the line has at a point above its right side
abbrev pub line_at : List Rational → Line → Rational
line_at point l = column_sum point l.coefficient -ℚ l.right

pub column_sum_zero : (point : List Rational) → column_sum point (λ j. whole (pos 0)) ≡ whole
    (pos 0)
column_sum_zero [] = refl
column_sum_zero (v ∷ point) = ap (λ w. whole (pos 0) *ℚ v +ℚ w) (column_sum_zero point)
    ∙ zero_step v

no_point : (a : Rational) → whole (pos 0) ≡ a *ℚ whole (pos 0) +ℚ whole (pos 0)
no_point a = by_ring_q (a ∷ []) (search ring_q depth 30) refl

more_columns : (a x y v f g : Rational) → (a *ℚ x +ℚ y) *ℚ v +ℚ (a *ℚ f +ℚ g) ≡ a *ℚ (x *ℚ v +ℚ f)
    +ℚ (y *ℚ v +ℚ g)
more_columns a x y v f g = by_ring_q (a ∷ x ∷ y ∷ v ∷ f ∷ g ∷ []) (search ring_q depth 60 fits 3000)
    refl

pub column_sum_more : (point : List Rational) (a : Rational) (xs ys : ℕ → Rational) →
    column_sum point (λ j. a *ℚ xs j +ℚ ys j) ≡ a *ℚ column_sum point xs +ℚ column_sum point ys
column_sum_more [] a xs ys = no_point a
column_sum_more (v ∷ point) a xs ys =
    ap (λ w. (a *ℚ xs zero +ℚ ys zero) *ℚ v +ℚ w) (column_sum_more point a (λ j. xs (suc j))
    (λ j. ys (suc j)))
    ∙ more_columns a (xs zero) (ys zero) v (column_sum point (λ j. xs (suc j)))
    (column_sum point (λ j. ys (suc j)))

pub column_sum_times : (point : List Rational) (a : Rational) (xs : ℕ → Rational) →
    column_sum point (λ j. a *ℚ xs j) ≡ a *ℚ column_sum point xs
column_sum_times [] a xs = sym (mul_zero_q a)
column_sum_times (v ∷ point) a xs =
    ap (λ w. (a *ℚ xs zero) *ℚ v +ℚ w) (column_sum_times point a (λ j. xs (suc j)))
    ∙ scaled_step a (xs zero) v (column_sum point (λ j. xs (suc j)))

-- ---- sums of entries

first_column : (v : Rational) → whole (pos 1) *ℚ v +ℚ whole (pos 0) ≡ v
first_column v = by_ring_q (v ∷ []) (search ring_q depth 30) refl

later_column : (v w : Rational) → whole (pos 0) *ℚ v +ℚ w ≡ w
later_column v w = by_ring_q (v ∷ w ∷ []) (search ring_q depth 30) refl

column_sum_unit : (point : List Rational) (c : ℕ) → column_sum point (λ j. value_at (unit j) c) ≡
    value_at point c
column_sum_unit [] c = refl
column_sum_unit (v ∷ point) zero = ap (λ w. whole (pos 1) *ℚ v +ℚ w) (column_sum_zero point)
    ∙ first_column v
column_sum_unit (v ∷ point) (suc c) =
    ap (λ w. whole (pos 0) *ℚ v +ℚ w) (column_sum_unit point c) ∙ later_column v (value_at point c)

pub sum_by_columns : (point : List Rational) (entries : List Entry) →
    sum_at point entries ≡ column_sum point (coefficient_in entries)
sum_by_columns point [] = sym (column_sum_zero point)
sum_by_columns point (e ∷ entries) =
    ap₂ (λ v w. rational e.value *ℚ v +ℚ w) (sym (column_sum_unit point e.column))
    (sum_by_columns point entries)
    ∙ sym (column_sum_more point (rational e.value) (λ j. value_at (unit j) e.column)
    (coefficient_in entries))
