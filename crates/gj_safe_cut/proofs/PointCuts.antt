-- At a feasible point the pieces of a row, whole and continuous, are a solution of a row with whole
-- and continuous columns. So its cut holds there.
use Rattle.std.proofs.Common.{◌≡◌, ℕ, suc, ◌*◌, ◌<◌, inr, Bool, true, false, List, [], ◌∷◌, ◌++◌, length, map, All, IsTrue, unsigned_abs, ℤ, pos, ◌+ℤ◌, ◌-ℤ◌, ◌*ℤ◌, ◌<ℤ◌, ◌≤ℤ◌, refl, sym, ap, ap₂, subst, ◌∙◌, arith, rules, append_assoc, append-nil}
use Rattle.std.specs.List.{AllZip}
use Rattle.std.proofs.Math.Nat.{mul_comm, mul-pos, one-dvd}
use Rattle.std.proofs.lemmas.Int.{ints}
use Rattle.std.proofs.lemmas.List.Elements.{All-nil, All-cons, All-head, All-tail}
use Rattle.gj_frac.specs.declared.Frac.{Frac}
use Rattle.gj_frac.specs.Fraction.{denominator}
use Rattle.gj_lemmas.specs.Divisors.{gcd_of}
use Rattle.gj_lemmas.proofs.Divisors.{cofactor, gcd_of_is, gcd_positive, lcm_from_gcd}
use Rattle.gj_lemmas.proofs.Integers.{abs_positive_z, pos_abs_z, positive_some_z, mul_cancel_right_z, mul_comm_z, one_mul_z, swap_last_z}
use Rattle.gj_lemmas.proofs.Lists.{All-front, All-back}
use Rattle.gj_shape.specs.Given.{IsCommonDenominator, IsLeastCommonDenominator, numerator_over}
use Rattle.gj_shape.specs.SlopeRows.{sum_of_products}
use Rattle.gj_shape.proofs.LeastDenominator.{Divides, denominator_some, least_common_more, least_common_some}
use Rattle.gj_mixed.specs.MixedRows.{MixedCutHolds}
use Rattle.gj_mixed.specs.Slopes.{IsWeight}
use Rattle.gj_fields.specs.Rational.{Rational, whole, rational, ◌+ℚ◌, ◌*ℚ◌, ◌-ℚ◌, ◌≤ℚ◌, IsWholeNumber}
use Rattle.gj_fields.proofs.RationalLaws.{equal_q, product_is, mul_assoc_q, mul_zero_q, whole_add, whole_sub, whole_mul, whole_injective}
use Rattle.gj_fields.proofs.RationalOrder.{IsNonnegativeQ, nonnegative_whole, whole_nonnegative, nonnegative_cancel, difference_nonnegative, at_most_from_difference}
use Rattle.gj_fields.proofs.RationalRing.{by_ring_q, ring_q}
use Rattle.gj_problem.specs.declared.problem.Problem.{Problem}
use Rattle.gj_problem.specs.declared.pieces.Piece.{Piece}
use Rattle.gj_problem.specs.Problems.{IsFeasible, surplus_at}
use Rattle.gj_problem.specs.Rows.{dot}
use Rattle.gj_problem.specs.Aggregates.{combined_at, pieces_at, IsSound, AddsUpAt, IsCutOver}
use Rattle.gj_problem.proofs.Numerators.{numerator_is}
use Rattle.gj_safe_cut.specs.SafeCuts.{IsCoefficient}

-- ---- natural numbers for surpluses

-- x is a natural number
abbrev pub IsNatural : Rational → Type 0
IsNatural x = (n : ℕ) × (x ≡ whole (pos n))

natural_from : (x : Rational) → IsNonnegativeQ x → IsWholeNumber x → IsNatural x
natural_from x low is =
    let n_low : pos 0 ≤ℤ is.0 = whole_nonnegative is.0 (subst IsNonnegativeQ is.1 low) in
    (unsigned_abs is.0, is.1 ∙ ap whole (sym (pos_abs_z is.0 n_low)))

natural_product : (n : ℕ) (x : Rational) → IsNatural x → IsNatural (whole (pos n) *ℚ x)
natural_product n x h =
    (n * h.0, ap (λ y. whole (pos n) *ℚ y) h.1 ∙ sym (whole_mul (pos n) (pos h.0)))

bottom_cross : (p b n d : ℤ) → pos 0 <ℤ d → p *ℤ (pos 1 *ℤ d) ≡ (d *ℤ n) *ℤ b → p *ℤ pos 1 ≡ n *ℤ b
bottom_cross p b n d some e =
    let scaled : p *ℤ d ≡ (n *ℤ b) *ℤ d =
    ap (λ z. p *ℤ z) (sym (one_mul_z d)) ∙ e ∙ ap (λ z. z *ℤ b) (mul_comm_z d n)
    ∙ swap_last_z n d b in
    mul_comm_z p (pos 1) ∙ one_mul_z p
    ∙ mul_cancel_right_z p (n *ℤ b) d scaled (positive_some_z d some)

-- a number times its bottom is its top
bottom_times : (x : Rational) → whole x.bottom *ℚ x ≡ whole x.top
unfolding whole
bottom_times x =
    let p = whole x.bottom *ℚ x in
    equal_q p (whole x.top)
    (bottom_cross p.top p.bottom x.top x.bottom x.reduced.positive
    (product_is (whole x.bottom) x))

-- it is a natural number times the bottom, if it is not below 0
bottom_natural : (x : Rational) → IsNonnegativeQ x →
    IsNatural (whole (pos (unsigned_abs x.bottom)) *ℚ x)
bottom_natural x low =
    let bottom : pos (unsigned_abs x.bottom) ≡ x.bottom =
    pos_abs_z x.bottom (omega (arith, ints, x.reduced.positive)) in (
      unsigned_abs x.top,
      ap (λ z. whole z *ℚ x) bottom ∙ bottom_times x ∙ ap whole (sym (pos_abs_z x.top low.low)),
    )

-- e times the surplus is a natural number, and so is a surplus that is said to be whole
pub record IsAmountAt (point : List Rational) (e : ℕ) (s : Piece) : Type 0 where
  pub amount : IsNatural (whole (pos e) *ℚ surplus_at point s.inequality)
  pub natural : s.is_whole ≡ true → IsNatural (surplus_at point s.inequality)

scaled_amount : (a b : ℕ) (x : Rational) →
    whole (pos a) *ℚ (whole (pos b) *ℚ x) ≡ whole (pos (a * b)) *ℚ x
scaled_amount a b x = sym (mul_assoc_q (whole (pos a)) (whole (pos b)) x)
    ∙ ap (λ z. z *ℚ x) (sym (whole_mul (pos a) (pos b)))

more_amounts : (point : List Rational) (b e : ℕ) (ps : List Piece) → All (IsAmountAt point e) ps →
    All (IsAmountAt point (b * e)) ps
more_amounts point b e ps h k d below =
    let is = h k d below in
    record {
      amount = subst IsNatural (scaled_amount b e _) (natural_product b _ is.amount);
      natural = is.natural;
    }

-- the surplus of the piece is at least 0, and whole if it says so
pub record IsHeldAt (point : List Rational) (s : Piece) : Type 0 where
  pub low : IsNonnegativeQ (surplus_at point s.inequality)
  pub is_whole : s.is_whole ≡ true → IsWholeNumber (surplus_at point s.inequality)

swapped_amount : (a b : ℕ) (x : Rational) →
    whole (pos b) *ℚ (whole (pos a) *ℚ x) ≡ whole (pos (a * b)) *ℚ x
swapped_amount a b x = turned (whole (pos a)) (whole (pos b)) x ∙ scaled_amount a b x
  where
    turned : (a b x : Rational) → b *ℚ (a *ℚ x) ≡ a *ℚ (b *ℚ x)
    turned a b x = by_ring_q (a ∷ b ∷ x ∷ []) (search ring_q depth 40) refl

amounts_at : (point : List Rational) (ps : List Piece) → All (IsHeldAt point) ps →
    (e : ℕ) × (0 < e) × All (IsAmountAt point e) ps
amounts_at point [] h = (1, omega arith, All-nil (IsAmountAt point 1))
amounts_at point (s ∷ ps) h =
    let here = All-head (IsHeldAt point) s ps h in
    let (e, some, are) = amounts_at point ps (All-tail (IsHeldAt point) s ps h) in
    let x = surplus_at point s.inequality in
    let b = unsigned_abs x.bottom in (
      b * e,
      mul-pos (abs_positive_z x.bottom x.reduced.positive) some,
      All-cons (IsAmountAt point (b * e)) s ps
          (record {
            amount = subst IsNatural (swapped_amount b e x)
                (natural_product e _ (bottom_natural x here.low));
            natural = λ flag. natural_from x here.low (here.is_whole flag);
          })
          (more_amounts point b e ps are),
    )

-- ---- the two kinds of columns

-- the sum of the products of numbers and natural numbers
abbrev pub over : List Frac → List ℕ → Rational
over xs ns = dot xs (map (λ n. whole (pos n)) ns)

-- the whole and the continuous columns of a row and their coefficients, with the amounts of the
-- latter over e
pub record IsSplit (IsValue : Frac → Frac → Type 0) (up down : Frac) (e : ℕ) (row cut : Rational) :
    Type 0 where
  pub entries : List Frac
  pub columns : List Frac
  pub coefficients : List Frac
  pub weights : List Frac
  pub others : List ℕ
  pub amounts : List ℕ
  pub count : length others ≡ length entries
  pub column_count : length amounts ≡ length columns
  pub values : AllZip IsValue entries coefficients
  pub are_weights : AllZip (IsWeight up down) columns weights
  pub row_is : whole (pos e) *ℚ row ≡ whole (pos e) *ℚ over entries others +ℚ over columns amounts
  pub cut_is : whole (pos e) *ℚ cut ≡ whole (pos e) *ℚ over coefficients others
      +ℚ over weights amounts

with_whole : (e c v n r o a : Rational) → v ≡ n → e *ℚ r ≡ e *ℚ o +ℚ a →
    e *ℚ (c *ℚ v +ℚ r) ≡ e *ℚ (c *ℚ n +ℚ o) +ℚ a
with_whole e c v n r o a v_is h =
    ap (λ w. e *ℚ (c *ℚ w +ℚ r)) v_is ∙ first e c n r ∙ ap (λ w. e *ℚ (c *ℚ n) +ℚ w) h
    ∙ second e c n o a
  where
    first : (e c n r : Rational) → e *ℚ (c *ℚ n +ℚ r) ≡ e *ℚ (c *ℚ n) +ℚ e *ℚ r
    first e c n r = by_ring_q (e ∷ c ∷ n ∷ r ∷ []) (search ring_q depth 40) refl

    second : (e c n o a : Rational) → e *ℚ (c *ℚ n) +ℚ (e *ℚ o +ℚ a) ≡ e *ℚ (c *ℚ n +ℚ o) +ℚ a
    second e c n o a = by_ring_q (e ∷ c ∷ n ∷ o ∷ a ∷ []) (search ring_q depth 40) refl

with_amount : (e c v n r o a : Rational) → e *ℚ v ≡ n → e *ℚ r ≡ e *ℚ o +ℚ a →
    e *ℚ (c *ℚ v +ℚ r) ≡ e *ℚ o +ℚ (c *ℚ n +ℚ a)
with_amount e c v n r o a v_is h =
    first e c v r ∙ ap₂ (λ x y. c *ℚ x +ℚ y) v_is h ∙ second e c n o a
  where
    first : (e c v r : Rational) → e *ℚ (c *ℚ v +ℚ r) ≡ c *ℚ (e *ℚ v) +ℚ e *ℚ r
    first e c v r = by_ring_q (e ∷ c ∷ v ∷ r ∷ []) (search ring_q depth 40) refl

    second : (e c n o a : Rational) → c *ℚ n +ℚ (e *ℚ o +ℚ a) ≡ e *ℚ o +ℚ (c *ℚ n +ℚ a)
    second e c n o a = by_ring_q (e ∷ c ∷ n ∷ o ∷ a ∷ []) (search ring_q depth 40) refl

one_more : (IsValue : Frac → Frac → Type 0) (up down : Frac) (e : ℕ) (point : List Rational)
    (s : Piece) (k : Frac) (b : Bool) (row cut : Rational) →
    s.is_whole ≡ b → IsCoefficient IsValue up down s k → IsAmountAt point e s →
    IsSplit IsValue up down e row cut →
    IsSplit IsValue up down e (rational s.entry *ℚ surplus_at point s.inequality +ℚ row)
    (rational k *ℚ surplus_at point s.inequality +ℚ cut)
one_more IsValue up down e point s k true row cut flag given is split =
    let (n, n_is) = is.natural flag in
    let v = surplus_at point s.inequality in
    record {
      entries = s.entry ∷ split.entries;
      columns = split.columns;
      coefficients = k ∷ split.coefficients;
      weights = split.weights;
      others = n ∷ split.others;
      amounts = split.amounts;
      count = ap suc split.count;
      column_count = split.column_count;
      values = (given.whole flag, split.values);
      are_weights = split.are_weights;
      row_is = with_whole (whole (pos e)) (rational s.entry) v (whole (pos n)) row
          (over split.entries split.others)
          (over split.columns split.amounts) n_is split.row_is;
      cut_is = with_whole (whole (pos e)) (rational k) v (whole (pos n)) cut
          (over split.coefficients split.others)
          (over split.weights split.amounts) n_is split.cut_is;
    }
one_more IsValue up down e point s k false row cut flag given is split =
    let (n, n_is) = is.amount in
    let v = surplus_at point s.inequality in
    record {
      entries = split.entries;
      columns = s.entry ∷ split.columns;
      coefficients = split.coefficients;
      weights = k ∷ split.weights;
      others = split.others;
      amounts = n ∷ split.amounts;
      count = split.count;
      column_count = ap suc split.column_count;
      values = split.values;
      are_weights = (given.continuous flag, split.are_weights);
      row_is = with_amount (whole (pos e)) (rational s.entry) v (whole (pos n)) row
          (over split.entries split.others)
          (over split.columns split.amounts) n_is split.row_is;
      cut_is = with_amount (whole (pos e)) (rational k) v (whole (pos n)) cut
          (over split.coefficients split.others)
          (over split.weights split.amounts) n_is split.cut_is;
    }

none_split : (e : Rational) → e *ℚ whole (pos 0) ≡ e *ℚ whole (pos 0) +ℚ whole (pos 0)
none_split e = by_ring_q (e ∷ []) (search ring_q depth 30) refl

split_at : (IsValue : Frac → Frac → Type 0) (up down : Frac) (e : ℕ) (point : List Rational)
    (ps : List Piece) (ks : List Frac) →
    AllZip (IsCoefficient IsValue up down) ps ks → All (IsAmountAt point e) ps →
    IsSplit IsValue up down e (pieces_at point ps) (combined_at point ks ps)
split_at IsValue up down e point [] [] h are = record {
  entries = [];
  columns = [];
  coefficients = [];
  weights = [];
  others = [];
  amounts = [];
  count = refl;
  column_count = refl;
  values = tt;
  are_weights = tt;
  row_is = none_split (whole (pos e));
  cut_is = none_split (whole (pos e));
}
split_at IsValue up down e point [] (k ∷ ks) h are = absurd h
split_at IsValue up down e point (s ∷ ps) [] h are = absurd h
split_at IsValue up down e point (s ∷ ps) (k ∷ ks) h are =
    one_more IsValue up down e point s k s.is_whole (pieces_at point ps)
    (combined_at point ks ps) refl h.0
    (All-head (IsAmountAt point e) s ps are)
    (split_at IsValue up down e point ps ks h.1 (All-tail (IsAmountAt point e) s ps are))

-- ---- sums over a common denominator

over_step : (x c n o : Rational) → (x *ℚ c) *ℚ n +ℚ c *ℚ o ≡ c *ℚ (x *ℚ n +ℚ o)
over_step x c n o = by_ring_q (x ∷ c ∷ n ∷ o ∷ []) (search ring_q depth 40) refl

sum_over : (c : ℕ) (xs : List Frac) (ns : List ℕ) → IsCommonDenominator xs c →
    whole (sum_of_products (map (numerator_over c) xs) (map pos ns)) ≡ whole (pos c) *ℚ over xs ns
sum_over c [] ns h = sym (mul_zero_q (whole (pos c)))
sum_over c (x ∷ xs) [] h = sym (mul_zero_q (whole (pos c)))
sum_over c (x ∷ xs) (n ∷ ns) h =
    whole_add (numerator_over c x *ℤ pos n)
    (sum_of_products (map (numerator_over c) xs) (map pos ns))
    ∙ ap₂ (λ a b. a +ℚ b)
    (whole_mul (numerator_over c x) (pos n)
    ∙ ap (λ z. z *ℚ whole (pos n)) (sym (numerator_is c x (All-head (Divides c) x xs h))))
    (sum_over c xs ns (All-tail (Divides c) x xs h))
    ∙ over_step (rational x) (whole (pos c)) (whole (pos n)) (over xs ns)

least_with : (xs ys : List Frac) (c : ℕ) → IsLeastCommonDenominator xs c →
    (m : ℕ) × IsLeastCommonDenominator (xs ++ ys) m
least_with xs [] c h = (c, subst (λ zs. IsLeastCommonDenominator zs c) (sym (append-nil xs)) h)
least_with xs (y ∷ ys) c h =
    let d = unsigned_abs (denominator y) in
    let g = gcd_of c d in
    let is = gcd_of_is c d in
    let some : 0 < g = gcd_positive c d g is (inr (denominator_some y)) in
    let (a, a_is) = cofactor g c is.0 in
    let next = least_common_more xs y c (a * d) h
    (lcm_from_gcd c d g a is (a_is ∙ mul_comm g a) some) in
    let (m, m_is) = least_with (xs ++ y ∷ []) ys (a * d) next in
    (m, subst (λ zs. IsLeastCommonDenominator zs m) (append_assoc xs (y ∷ []) ys) m_is)

least_of : (xs : List Frac) → (m : ℕ) × IsLeastCommonDenominator xs m
least_of xs = least_with [] xs 1 (record { common = All-nil (Divides 1); least = λ c h. one-dvd c })

-- ---- the cut at a point

solves_at : (e c z r a b x : Rational) → e *ℚ x ≡ e *ℚ a +ℚ b → x +ℚ z ≡ r →
    e *ℚ (c *ℚ z +ℚ c *ℚ a) +ℚ c *ℚ b ≡ e *ℚ (r *ℚ c)
solves_at e c z r a b x split adds =
    first e c z a b ∙ ap (λ w. c *ℚ (e *ℚ z +ℚ w)) (sym split) ∙ second e c z x
    ∙ ap (λ w. e *ℚ (w *ℚ c)) adds
  where
    first : (e c z a b : Rational) →
        e *ℚ (c *ℚ z +ℚ c *ℚ a) +ℚ c *ℚ b ≡ c *ℚ (e *ℚ z +ℚ (e *ℚ a +ℚ b))
    first e c z a b = by_ring_q (e ∷ c ∷ z ∷ a ∷ b ∷ []) (search ring_q depth 60 fits 3000) refl

    second : (e c z x : Rational) → c *ℚ (e *ℚ z +ℚ e *ℚ x) ≡ e *ℚ ((x +ℚ z) *ℚ c)
    second e c z x = by_ring_q (e ∷ c ∷ z ∷ x ∷ []) (search ring_q depth 60 fits 3000) refl

reached : (e g a b x : Rational) → e *ℚ x ≡ e *ℚ a +ℚ b →
    (e *ℚ (g *ℚ a) +ℚ g *ℚ b) -ℚ e *ℚ g ≡ (e *ℚ g) *ℚ (x -ℚ whole (pos 1))
reached e g a b x split =
    first e g a b ∙ ap (λ w. g *ℚ (w -ℚ e)) (sym split) ∙ second e g x
  where
    first : (e g a b : Rational) → (e *ℚ (g *ℚ a) +ℚ g *ℚ b) -ℚ e *ℚ g ≡ g *ℚ ((e *ℚ a +ℚ b) -ℚ e)
    first e g a b = by_ring_q (e ∷ g ∷ a ∷ b ∷ []) (search ring_q depth 60 fits 3000) refl

    second : (e g x : Rational) → g *ℚ (e *ℚ x -ℚ e) ≡ (e *ℚ g) *ℚ (x -ℚ whole (pos 1))
    second e g x = by_ring_q (e ∷ g ∷ x ∷ []) (search ring_q depth 60 fits 3000) refl

both_wholes : (e a b : ℤ) → whole (e *ℤ a +ℤ b) ≡ whole e *ℚ whole a +ℚ whole b
both_wholes e a b = whole_add (e *ℤ a) b ∙ ap (λ z. z +ℚ whole b) (whole_mul e a)

-- the cuts of all rows with such coefficients hold
abbrev pub AreCutsHeld : (Frac → Frac → Type 0) → Frac → Frac → Frac → Type 0
AreCutsHeld IsValue up down right = (entries columns coefficients weights : List Frac) →
    AllZip IsValue entries coefficients →
    AllZip (IsWeight up down) columns weights →
    MixedCutHolds entries columns right coefficients weights

cut_at_point : (IsValue : Frac → Frac → Type 0) (up down right : Frac) (point : List Rational)
    (ps : List Piece) (ks : List Frac) →
    AreCutsHeld IsValue up down right → AllZip (IsCoefficient IsValue up down) ps ks →
    All (IsHeldAt point) ps → AddsUpAt point ps right →
    whole (pos 1) ≤ℚ combined_at point ks ps
cut_at_point IsValue up down right point ps ks held given sound (z, adds) =
    let (e, e_some, are) = amounts_at point ps sound in
    let s = split_at IsValue up down e point ps ks given are in
    let numbers = right ∷ (s.entries ++ s.columns) in
    let (c, c_least) = least_of numbers in
    let (g, g_least) = least_of (s.coefficients ++ s.weights) in
    let behind = All-tail (Divides c) right (s.entries ++ s.columns) c_least.common in
    let e_sum = sum_over c s.entries s.others (All-front (Divides c) s.entries s.columns behind) in
    let c_sum = sum_over c s.columns s.amounts (All-back (Divides c) s.entries s.columns behind) in
    let k_sum = sum_over g s.coefficients s.others
    (All-front (Divides g) s.coefficients s.weights g_least.common) in
    let w_sum = sum_over g s.weights s.amounts
    (All-back (Divides g) s.coefficients s.weights g_least.common) in
    let first = sum_of_products (map (numerator_over c) s.entries) (map pos s.others) in
    let second = sum_of_products (map (numerator_over c) s.columns) (map pos s.amounts) in
    let third = sum_of_products (map (numerator_over g) s.coefficients) (map pos s.others) in
    let fourth = sum_of_products (map (numerator_over g) s.weights) (map pos s.amounts) in
    let solves : pos e *ℤ (pos c *ℤ z +ℤ first) +ℤ second ≡ pos e *ℤ numerator_over c right =
    whole_injective _ _
    (both_wholes (pos e) (pos c *ℤ z +ℤ first) second
    ∙ ap₂ (λ a b. whole (pos e) *ℚ a +ℚ b) (both_wholes (pos c) z first
    ∙ ap (λ a. whole (pos c) *ℚ whole z +ℚ a) e_sum) c_sum
    ∙ solves_at (whole (pos e)) (whole (pos c)) (whole z) (rational right) (over s.entries s.others)
    (over s.columns s.amounts)
    (pieces_at point ps) s.row_is adds
    ∙ ap (λ a. whole (pos e) *ℚ a)
    (numerator_is c right (All-head (Divides c) right (s.entries ++ s.columns) c_least.common))
    ∙ sym (whole_mul (pos e) (numerator_over c right))) in
    let high = held s.entries s.columns s.coefficients s.weights s.values s.are_weights z s.others
    s.amounts e g
    (record {
      count = s.count;
      column_count = s.column_count;
      over = e_some;
      c = c;
      least =
          c_least;
      solves = solves;
    }) g_least in
    let eg : pos e *ℤ pos g ≡ pos (e * g) = refl in
    let surplus : IsNonnegativeQ (whole ((pos e *ℤ third +ℤ fourth) -ℤ pos e *ℤ pos g)) =
    nonnegative_whole ((pos e *ℤ third +ℤ fourth) -ℤ pos e *ℤ pos g) (omega (arith, ints)) in
    at_most_from_difference (whole (pos 1)) (combined_at point ks ps)
    (nonnegative_cancel (e * g) (combined_at point ks ps -ℚ whole (pos 1))
    (mul-pos e_some (least_common_some _ g g_least))
    (subst IsNonnegativeQ
    (whole_sub (pos e *ℤ third +ℤ fourth) (pos e *ℤ pos g)
    ∙ ap₂ (λ a b. a -ℚ b)
    (both_wholes (pos e) third fourth ∙ ap₂ (λ a b. whole (pos e) *ℚ a +ℚ b) k_sum w_sum)
    (whole_mul (pos e) (pos g))
    ∙ reached (whole (pos e)) (whole (pos g)) (over s.coefficients s.others)
    (over s.weights s.amounts) (combined_at point ks ps) s.cut_is
    ∙ ap (λ w. w *ℚ (combined_at point ks ps -ℚ whole (pos 1))) (sym (whole_mul (pos e) (pos g))))
    surplus))

pub is_true : (b : Bool) → b ≡ true → IsTrue b
is_true b e = subst IsTrue (sym e) (search rules)

pub cut_over : (IsValue : Frac → Frac → Type 0) (up down right : Frac) (p : Problem)
    (ps : List Piece) (ks : List Frac) →
    AreCutsHeld IsValue up down right → AllZip (IsCoefficient IsValue up down) ps ks →
    All (IsSound p) ps →
    ((point : List Rational) → IsFeasible p point → AddsUpAt point ps right) → IsCutOver p ps ks
cut_over IsValue up down right p ps ks held given sound adds point feasible =
    cut_at_point IsValue up down right point ps ks held given
    (λ k d below. let is = sound k d below in
    record {
      low = difference_nonnegative _ _ (is.holds point feasible);
      is_whole = λ flag. is.is_whole (is_true _ flag) point feasible;
    })
    (adds point feasible)
