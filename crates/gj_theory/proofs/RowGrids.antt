-- A grid that holds all entries of a row: cuts by minimal functions and by the closed form of the
-- mixed-integer cut.
use Rattle.std.proofs.Common.{◌≡◌, ℕ, zero, suc, ◌*◌, ◌<◌, List, [], ◌∷◌, ℤ, pos, ◌*ℤ◌, unsigned_abs, refl, sym, ap, subst, subst₂, ◌∙◌, arith}
use Rattle.std.specs.List.{AllZip}
use Rattle.std.proofs.Math.Nat.{mul-pos, mul-lt-mul_of_pos_right}
use Rattle.std.proofs.lemmas.Int.{ints}
use Rattle.std.proofs.lemmas.List.Elements.{All-head, All-tail}
use Rattle.gj_frac.specs.declared.Frac.{Frac}
use Rattle.gj_frac.specs.Fraction.{IsRatio, numerator, denominator, IsInside}
use Rattle.gj_lemmas.proofs.Divisors.{cofactor}
use Rattle.gj_lemmas.proofs.Integers.{pos_abs_z, mul_assoc_z, swap_last_z}
use Rattle.gj_lemmas.proofs.Ring.{by_ring, ring}
use Rattle.gj_shape.specs.FunctionData.{FunctionData, IsWithinBounds}
use Rattle.gj_shape.specs.Given.{IsCommonDenominator}
use Rattle.gj_shape.specs.Gmic.{gmic_table, gmic_scale}
use Rattle.gj_shape.specs.RowCut.{CutHolds}
use Rattle.gj_shape.specs.Table.{table, IsMinimal}
use Rattle.gj_shape.specs.Values.{IsCongruent}
use Rattle.gj_shape.proofs.LeastDenominator.{Divides, denominator_some}
use Rattle.gj_shape.proofs.TableLemmas.{table_finer}
use Rattle.gj_shape.proofs.OverScale.{denominator_is}
use Rattle.gj_shape.proofs.ValueLemmas.{natural_index, moved_index_z}
use Rattle.gj_frac.specs.Floor.{HasFractionalPart}
use Rattle.gj_theory.specs.Cuts.{IsEntryAt, IsValueOf, IsGmicValue}
use Rattle.gj_theory.proofs.CutsByTables.{product_of, product_some, product_common, cut_by_table}
use Rattle.gj_theory.proofs.GmicTable.{gmic_minimal}
use Rattle.gj_theory.proofs.GmicValues.{closed_form}

-- ---- places on a grid

-- a fractional part on a finer grid
pub part_on_grid : (x : Frac) (k n m : ℕ) → HasFractionalPart x (pos k) (pos n) →
    HasFractionalPart x (pos (k * m)) (pos (n * m))
part_on_grid x k n m h w floor =
    sym (mul_assoc_z _ (pos n) (pos m)) ∙ ap (λ z. z *ℤ pos m) (h w floor)
    ∙ swap_last_z (pos k) x.den (pos m)

-- a fraction on a grid of its denominator d times e times n
place_on_grid : (x : Frac) (n d e : ℕ) → pos d ≡ denominator x →
    IsRatio x (numerator x *ℤ pos n *ℤ pos e) (pos (n * (d * e)))
place_on_grid x n d e h = place_moved x.num n d e ∙ ap (λ z. (x.num *ℤ pos n *ℤ pos e) *ℤ z) h
  where
    place_moved : (a : ℤ) (n d e : ℕ) → a *ℤ pos (n * (d * e)) ≡ (a *ℤ pos n *ℤ pos e) *ℤ pos d
    place_moved a n d e = by_ring (a ∷ pos n ∷ pos d ∷ pos e ∷ []) (search ring depth 30) refl

congruent_on_grid : (i : ℕ) (a : ℤ) (n d e : ℕ) → IsCongruent (pos i) a (n * d) →
    IsCongruent (pos (i * e)) (a *ℤ pos e) (n * (d * e))
congruent_on_grid i a n d e (k, h) = (k, ap (λ z. z *ℤ pos e) h ∙ moved_index_z a k n d e)

-- ---- values of a function

ratio_left : (y : ℤ) (s d e : ℕ) → y *ℤ pos (s * (d * e)) ≡ (y *ℤ pos (s * d)) *ℤ pos e
ratio_left y s d e = by_ring (y ∷ pos s ∷ pos d ∷ pos e ∷ []) (search ring depth 30) refl

ratio_right : (t b e : ℤ) → (t *ℤ b) *ℤ e ≡ (e *ℤ t) *ℤ b
ratio_right t b e = by_ring (t ∷ b ∷ e ∷ []) (search ring depth 30) refl

value_on_grid : (f : FunctionData) (x y : Frac) (m : ℕ) → 0 < f.order → 0 < m → Divides m x →
    IsValueOf f x y →
    IsEntryAt (table f m) (f.order * m) (f.scale * m) x y
value_on_grid f x y m order_some some divides value =
    let d = unsigned_abs (denominator x) in
    let d_some : 0 < d = denominator_some x in
    let (e, whole) = cofactor d m divides in
    let e_some : 0 < e = factor_positive d e m whole some in
    let a = numerator x *ℤ pos f.order in
    let i = natural_index a (f.order * d) (mul-pos order_some d_some) in
    subst (λ (n : ℕ). IsEntryAt (table f n) (f.order * n) (f.scale * n) x y) (sym whole) (record {
      place = a *ℤ pos e;
      place_is = place_on_grid x f.order d e (denominator_is x);
      index = i.0 * e;
      index_is = congruent_on_grid i.0 a f.order d e i.1;
      entry_is =
          ratio_left y.num f.scale d e ∙ ap (λ z. z *ℤ pos e) (value i.0 i.1)
          ∙ ratio_right (table f d i.0) y.den (pos e)
          ∙ ap (λ z. z *ℤ y.den) (sym (table_finer f d e i.0 d_some e_some));
    })
  where
    factor_positive : (d e m : ℕ) → m ≡ d * e → 0 < m → 0 < e
    factor_positive d zero m whole some = absurd (omega arith)
    factor_positive d (suc e) m whole some = omega arith

pub values_on_grid : (f : FunctionData) (xs ys : List Frac) (m : ℕ) → 0 < f.order → 0 < m →
    IsCommonDenominator xs m →
    AllZip (IsValueOf f) xs ys → AllZip (IsEntryAt (table f m) (f.order * m) (f.scale * m)) xs ys
values_on_grid f [] [] m order_some some divide h = tt
values_on_grid f [] (y ∷ ys) m order_some some divide h = absurd h
values_on_grid f (x ∷ xs) [] m order_some some divide h = absurd h
values_on_grid f (x ∷ xs) (y ∷ ys) m order_some some divide h = (
  value_on_grid f x y m order_some some (All-head (Divides m) x xs divide) h.0,
  values_on_grid f xs ys m order_some some (All-tail (Divides m) x xs divide) h.1,
)

pub cut_by_function : (f : FunctionData) (entries : List Frac) (right : Frac)
    (coefficients : List Frac) →
    IsWithinBounds f → IsMinimal f → HasFractionalPart right (pos f.place) (pos f.order) →
    AllZip (IsValueOf f) entries coefficients → CutHolds entries right coefficients
cut_by_function f entries right coefficients bounds minimal part h =
    let m = product_of entries in
    let some : 0 < m = product_some entries in
    let order_some : 0 < f.order = omega (arith, bounds.order_low) in
    let scale_some : 0 < f.scale = omega (arith, bounds.scale_low) in
    cut_by_table (table f m) (f.order * m) (f.place * m) (f.scale * m) entries right coefficients
    (minimal m some)
    (mul-pos order_some some) (mul-pos scale_some some) (part_on_grid right f.place f.order m part)
    (values_on_grid f entries coefficients m order_some some (product_common entries) h)

-- ---- the mixed-integer cut

-- the table of period q m with f at the place p m
abbrev pub table_of : ℕ → ℕ → ℕ → ℕ → ℤ
table_of q p m i = pos (gmic_table (q * m) (p * m) i)

pub place_over : (f : Frac) (q p m : ℕ) → pos q ≡ denominator f → pos p ≡ numerator f →
    IsRatio f (pos (p * m)) (pos (q * m))
place_over f q p m q_is p_is =
    ap (λ z. z *ℤ pos (q * m)) (sym p_is) ∙ crossed p q m ∙ ap (λ z. pos (p * m) *ℤ z) q_is
  where
    crossed : (p q m : ℕ) → pos p *ℤ pos (q * m) ≡ pos (p * m) *ℤ pos q
    crossed p q m = by_ring (pos p ∷ pos q ∷ pos m ∷ []) (search ring depth 30) refl

gmic_on_grid : (f x y : Frac) (q p m : ℕ) → pos q ≡ denominator f → pos p ≡ numerator f → 0 < p →
    p < q → 0 < m →
    Divides m x → IsGmicValue f x y →
    IsEntryAt (table_of q p m) (q * m) (gmic_scale (q * m) (p * m)) x y
gmic_on_grid f x y q p m q_is p_is p_some below some divides value =
    let d = unsigned_abs (denominator x) in
    let (e, whole) = cofactor d m divides in
    let a = numerator x *ℤ pos q *ℤ pos e in
    let i = natural_index a (q * m) (mul-pos (omega arith) some) in
    let place_is : IsRatio x a (pos (q * m)) =
    subst (λ (n : ℕ). IsRatio x a (pos (q * n))) (sym whole)
    (place_on_grid x q d e (denominator_is x)) in
    record {
      place = a;
      place_is = place_is;
      index = i.0;
      index_is = i.1;
      entry_is = closed_form f x y (q * m) (p * m) i.0 a (mul-pos p_some some)
          (mul-lt-mul_of_pos_right below some)
          (place_over f q p m q_is p_is) place_is i.1 value;
    }

pub gmics_on_grid : (f : Frac) (xs ys : List Frac) (q p m : ℕ) → pos q ≡ denominator f →
    pos p ≡ numerator f → 0 < p → p < q → 0 < m →
    IsCommonDenominator xs m → AllZip (IsGmicValue f) xs ys →
    AllZip (IsEntryAt (table_of q p m) (q * m) (gmic_scale (q * m) (p * m))) xs ys
gmics_on_grid f [] [] q p m q_is p_is p_some below some divide h = tt
gmics_on_grid f [] (y ∷ ys) q p m q_is p_is p_some below some divide h = absurd h
gmics_on_grid f (x ∷ xs) [] q p m q_is p_is p_some below some divide h = absurd h
gmics_on_grid f (x ∷ xs) (y ∷ ys) q p m q_is p_is p_some below some divide h = (
  gmic_on_grid f x y q p m q_is p_is p_some below some (All-head (Divides m) x xs divide) h.0,
  gmics_on_grid f xs ys q p m q_is p_is p_some below some (All-tail (Divides m) x xs divide) h.1,
)

pub cut_by_gmic : (f : Frac) (entries : List Frac) (right : Frac) (coefficients : List Frac) →
    IsInside f →
    HasFractionalPart right (numerator f) (denominator f) →
    AllZip (IsGmicValue f) entries coefficients →
    CutHolds entries right coefficients
cut_by_gmic f entries right coefficients inside part h =
    let m = product_of entries in
    let some : 0 < m = product_some entries in
    let q = unsigned_abs (denominator f) in
    let p = unsigned_abs (numerator f) in
    let q_is : pos q ≡ denominator f = denominator_is f in
    let p_is : pos p ≡ numerator f = pos_abs_z f.num (omega (arith, ints, inside.0)) in
    let p_some : 0 < p = omega (arith, ints, inside.0) in
    let below : p < q = omega (arith, ints, inside.0, inside.1) in
    let n = q * m in
    let k = p * m in
    let k_some : 0 < k = mul-pos p_some some in
    let k_below : k < n = mul-lt-mul_of_pos_right below some in
    cut_by_table (table_of q p m) n k (gmic_scale n k) entries right coefficients
    (gmic_minimal n k k_some k_below)
    (mul-pos (omega arith) some) (mul-pos k_some (omega arith))
    (part_on_grid right p q m (subst₂ (HasFractionalPart right) (sym p_is) (sym q_is) part))
    (gmics_on_grid f entries coefficients q p m q_is p_is p_some below some
    (product_common entries) h)
