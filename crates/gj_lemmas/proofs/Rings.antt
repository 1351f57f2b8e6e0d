-- Commutative rings: an expression has a normal form, which is worth what the expression is in each
-- ring. So an identity between sums and products holds if both sides have one normal form.
use Rattle.std.proofs.Common.{◌≡◌, ℕ, zero, suc, Bool, true, false, T, eqb, ltb, leb, List, [], ◌∷◌, ℤ, pos, negsuc, ◌+ℤ◌, ◌*ℤ◌, neg_ℤ, refl, sym, ap, ap₂, subst, ◌∙◌, arith, eqb→eq}
use Rattle.std.proofs.lemmas.Int.{ints}
use Rattle.gj_lemmas.proofs.Choices.{by_test}

-- sums and products in R, with their laws
pub record Ring (R : Type 0) : Type 0 where
  pub zero : R
  pub one : R
  pub plus : R → R → R
  pub times : R → R → R
  pub negative : R → R
  pub plus_associates : (x y z : R) → plus (plus x y) z ≡ plus x (plus y z)
  pub plus_commutes : (x y : R) → plus x y ≡ plus y x
  pub plus_zero : (x : R) → plus x zero ≡ x
  pub plus_negative : (x : R) → plus x (negative x) ≡ zero
  pub times_associates : (x y z : R) → times (times x y) z ≡ times x (times y z)
  pub times_commutes : (x y : R) → times x y ≡ times y x
  pub times_one : (x : R) → times x one ≡ x
  pub times_plus : (x y z : R) → times x (plus y z) ≡ plus (times x y) (times x z)

-- the whole numbers of a ring
pub record Wholes {R : Type 0} (K : Ring R) : Type 0 where
  pub whole : ℤ → R
  pub whole_zero : whole (pos 0) ≡ K.zero
  pub whole_one : whole (pos 1) ≡ K.one
  pub whole_plus : (x y : ℤ) → whole (x +ℤ y) ≡ K.plus (whole x) (whole y)
  pub whole_times : (x y : ℤ) → whole (x *ℤ y) ≡ K.times (whole x) (whole y)

-- ---- expressions

-- a sum of products of atoms, each given by its number
pub data Expr : Type 0 where
  var : ℕ → Expr
  num : ℤ → Expr
  add : Expr → Expr → Expr
  mul : Expr → Expr → Expr
  neg : Expr → Expr

-- the atom of a number; past the last it is another
abbrev pub atom : {R : Type 0} → R → List R → ℕ → R
atom other [] i = other
atom other (x ∷ atoms) zero = x
atom other (x ∷ atoms) (suc i) = atom other atoms i

-- what an expression is worth
abbrev pub value : {R : Type 0} {K : Ring R} → Wholes K → List R → Expr → R
value {K = K} W atoms (var i) = atom K.zero atoms i
value W atoms (num z) = W.whole z
value {K = K} W atoms (add e f) = K.plus (value W atoms e) (value W atoms f)
value {K = K} W atoms (mul e f) = K.times (value W atoms e) (value W atoms f)
value {K = K} W atoms (neg e) = K.negative (value W atoms e)

-- ---- the normal form

-- a sum of terms, each a factor other than 0 and the numbers of its atoms in ascending order
pub data Poly : Type 0 where
  none : Poly
  term : ℤ → List ℕ → Poly → Poly

-- one more atom, in its place
abbrev pub with_atom : ℕ → List ℕ → List ℕ
with_atom i [] = i ∷ []
with_atom i (j ∷ js) = elim (leb i j) [ true ↦ i ∷ j ∷ js | false ↦ j ∷ with_atom i js ]

-- the atoms of a product
abbrev pub joined : List ℕ → List ℕ → List ℕ
joined [] js = js
joined (i ∷ is) js = with_atom i (joined is js)

-- where one list of atoms stands to another
pub data Order : Type 0 where
  before same after : Order

-- which of two lists of atoms comes first
abbrev pub order : List ℕ → List ℕ → Order
order [] [] = same
order [] (j ∷ js) = before
order (i ∷ is) [] = after
order (i ∷ is) (j ∷ js) =
    elim (eqb i j) [
      | true ↦ order is js
      | false ↦ elim (ltb i j) [ true ↦ before | false ↦ after ]
    ]

-- a term, unless its factor is 0
abbrev pub plus_some : ℤ → List ℕ → Poly → Poly
plus_some (pos zero) is p = p
plus_some (pos (suc n)) is p = term (pos (suc n)) is p
plus_some (negsuc n) is p = term (negsuc n) is p

-- one more term, in its place
abbrev pub with_term : ℤ → List ℕ → Poly → Poly
with_term z is none = term z is none
with_term z is (term y js p) =
    elim (order is js) [
      | before ↦ term z is (term y js p)
      | same ↦ plus_some (z +ℤ y) js p
      | after ↦ term y js (with_term z is p)
    ]

-- the sum of two sums of terms
abbrev pub sum_of : Poly → Poly → Poly
sum_of none q = q
sum_of (term z is p) q = with_term z is (sum_of p q)

-- each term times one term
abbrev pub times_term : ℤ → List ℕ → Poly → Poly
times_term z is none = none
times_term z is (term y js p) = with_term (z *ℤ y) (joined is js) (times_term z is p)

-- the product of two sums of terms
abbrev pub times_of : Poly → Poly → Poly
times_of none q = none
times_of (term z is p) q = sum_of (times_term z is q) (times_of p q)

-- each term turned in sign
abbrev pub opposite : Poly → Poly
opposite none = none
opposite (term z is p) = term (neg_ℤ z) is (opposite p)

-- the normal form of an expression
abbrev pub normal : Expr → Poly
normal (var i) = term (pos 1) (i ∷ []) none
normal (num z) = plus_some z [] none
normal (add e f) = sum_of (normal e) (normal f)
normal (mul e f) = times_of (normal e) (normal f)
normal (neg e) = opposite (normal e)

-- ---- laws that follow

module _ {A : Type 0} (op : A → A → A) (associates : (x y z : A) → op (op x y) z ≡ op x (op y z))
    (commutes : (x y : A) → op x y ≡ op y x) where
  pub exchanged : (x y z : A) → op x (op y z) ≡ op y (op x z)
  exchanged x y z = sym (associates x y z) ∙ ap (λ w. op w z) (commutes x y) ∙ associates y x z

  pub regrouped : (x y z w : A) → op (op x y) (op z w) ≡ op (op x z) (op y w)
  regrouped x y z w =
      associates x y (op z w) ∙ ap (op x) (exchanged y z w) ∙ sym (associates x z (op y w))

module _ {R : Type 0} (K : Ring R) where
  open K use {zero as o, one as e, plus, times, negative}

  abbrev pub plus_exchanges : (x y z : R) → plus x (plus y z) ≡ plus y (plus x z)
  plus_exchanges = exchanged plus K.plus_associates K.plus_commutes

  pub zero_plus : (x : R) → plus o x ≡ x
  zero_plus x = K.plus_commutes o x ∙ K.plus_zero x

  pub one_times : (x : R) → times e x ≡ x
  one_times x = K.times_commutes e x ∙ K.times_one x

  pub plus_times : (x y z : R) → times (plus x y) z ≡ plus (times x z) (times y z)
  plus_times x y z =
      K.times_commutes (plus x y) z ∙ K.times_plus z x y
      ∙ ap₂ plus (K.times_commutes z x) (K.times_commutes z y)

  back : (w z : R) → plus (plus w z) (negative z) ≡ w
  back w z = K.plus_associates w z (negative z) ∙ ap (plus w) (K.plus_negative z) ∙ K.plus_zero w

  pub cancel : (x y z : R) → plus x z ≡ plus y z → x ≡ y
  cancel x y z h = sym (back x z) ∙ ap (λ w. plus w (negative z)) h ∙ back y z

  pub times_zero : (x : R) → times x o ≡ o
  times_zero x =
      cancel (times x o) o (times x o)
      (sym (K.times_plus x o o) ∙ ap (times x) (K.plus_zero o) ∙ sym (zero_plus (times x o)))

  pub zero_times : (x : R) → times o x ≡ o
  zero_times x = K.times_commutes o x ∙ times_zero x

  -- what makes 0 with x is its negative
  pub negative_is : (x y : R) → plus x y ≡ o → y ≡ negative x
  negative_is x y h =
      cancel y (negative x) x
      (K.plus_commutes y x ∙ h ∙ sym (K.plus_negative x) ∙ K.plus_commutes x (negative x))

-- ---- the normal form is worth what the expression is

not_same : (b : Bool) → elim b [ true ↦ before | false ↦ after ] ≡ same → ⊥
not_same true e = cc
not_same false e = cc

order_step : (i j : ℕ) (is js : List ℕ) → (order is js ≡ same → is ≡ js) →
    (b : Bool) → eqb i j ≡ b →
    elim b [
      | true ↦ order is js
      | false ↦ elim (ltb i j) [ true ↦ before | false ↦ after ]
    ] ≡ same →
    i ∷ is ≡ j ∷ js
order_step i j is js h true b e = ap₂ (λ k ks. k ∷ ks) (eqb→eq i j (subst T (sym b) tt)) (h e)
order_step i j is js h false b e = absurd (not_same (ltb i j) e)

-- lists that come at one place are equal
order_same : (is js : List ℕ) → order is js ≡ same → is ≡ js
order_same [] [] e = refl
order_same [] (j ∷ js) e = absurd (cc)
order_same (i ∷ is) [] e = absurd (cc)
order_same (i ∷ is) (j ∷ js) e = order_step i j is js (order_same is js) (eqb i j) refl e

opposites : (z : ℤ) → z +ℤ neg_ℤ z ≡ pos 0
opposites z = omega (arith, ints)

module _ {R : Type 0} {K : Ring R} (W : Wholes K) (atoms : List R) where
  open K use {zero as o, one as unit, plus, times, negative}
  open W use {whole}

  abbrev atom_of : ℕ → R
  atom_of = atom o atoms

  -- the product of the atoms
  abbrev product_of : List ℕ → R
  product_of [] = unit
  product_of (i ∷ is) = times (atom_of i) (product_of is)

  -- what a term is worth, and a sum of terms
  abbrev worth : ℤ → List ℕ → R
  worth z is = times (whole z) (product_of is)

  abbrev total : Poly → R
  total none = o
  total (term z is p) = plus (worth z is) (total p)

  with_atom_is : (i : ℕ) (js : List ℕ) →
      product_of (with_atom i js) ≡ times (atom_of i) (product_of js)
  with_atom_is i [] = refl
  with_atom_is i (j ∷ js) =
      by_test
      (λ b. product_of (elim b [ true ↦ i ∷ j ∷ js | false ↦ j ∷ with_atom i js ])
      ≡ times (atom_of i) (times (atom_of j) (product_of js)))
      refl
      (ap (times (atom_of j)) (with_atom_is i js)
      ∙ exchanged times K.times_associates K.times_commutes (atom_of j) (atom_of i) (product_of js))
      (leb i j)

  joined_is : (is js : List ℕ) → product_of (joined is js) ≡ times (product_of is) (product_of js)
  joined_is [] js = sym (one_times K (product_of js))
  joined_is (i ∷ is) js =
      with_atom_is i (joined is js)
      ∙ ap (times (atom_of i)) (joined_is is js)
      ∙ sym (K.times_associates (atom_of i) (product_of is) (product_of js))

  plus_some_is : (z : ℤ) (is : List ℕ) (p : Poly) →
      total (plus_some z is p) ≡ plus (worth z is) (total p)
  plus_some_is (pos zero) is p =
      sym (ap (λ w. plus (times w (product_of is)) (total p)) W.whole_zero
      ∙ ap (λ w. plus w (total p)) (zero_times K (product_of is)) ∙ zero_plus K (total p))
  plus_some_is (pos (suc n)) is p = refl
  plus_some_is (negsuc n) is p = refl

  term_step : (z : ℤ) (is : List ℕ) (y : ℤ) (js : List ℕ) (p : Poly) →
      total (with_term z is p) ≡ plus (worth z is) (total p) →
      (c : Order) → order is js ≡ c →
      total (elim c [
        | before ↦ term z is (term y js p)
        | same ↦ plus_some (z +ℤ y) js p
        | after ↦ term y js (with_term z is p)
      ])
      ≡ plus (worth z is) (plus (worth y js) (total p))
  term_step z is y js p h before e = refl
  term_step z is y js p h same e =
      plus_some_is (z +ℤ y) js p
      ∙ ap (λ w. plus w (total p))
      (ap (λ w. times w (product_of js)) (W.whole_plus z y)
      ∙ plus_times K (whole z) (whole y) (product_of js))
      ∙ K.plus_associates (worth z js) (worth y js) (total p)
      ∙ ap (λ ks. plus (worth z ks) (plus (worth y js) (total p))) (sym (order_same is js e))
  term_step z is y js p h after e =
      ap (plus (worth y js)) h ∙ plus_exchanges K (worth y js) (worth z is) (total p)

  with_term_is : (z : ℤ) (is : List ℕ) (p : Poly) →
      total (with_term z is p) ≡ plus (worth z is) (total p)
  with_term_is z is none = refl
  with_term_is z is (term y js p) =
      term_step z is y js p (with_term_is z is p) (order is js) refl

  sum_of_is : (p q : Poly) → total (sum_of p q) ≡ plus (total p) (total q)
  sum_of_is none q = sym (zero_plus K (total q))
  sum_of_is (term z is p) q =
      with_term_is z is (sum_of p q)
      ∙ ap (plus (worth z is)) (sum_of_is p q)
      ∙ sym (K.plus_associates (worth z is) (total p) (total q))

  times_term_is : (z : ℤ) (is : List ℕ) (p : Poly) →
      total (times_term z is p) ≡ times (worth z is) (total p)
  times_term_is z is none = sym (times_zero K (worth z is))
  times_term_is z is (term y js p) =
      with_term_is (z *ℤ y) (joined is js) (times_term z is p)
      ∙ ap₂ plus
      (ap₂ times (W.whole_times z y) (joined_is is js)
      ∙ regrouped times K.times_associates K.times_commutes
      (whole z) (whole y) (product_of is) (product_of js))
      (times_term_is z is p)
      ∙ sym (K.times_plus (worth z is) (worth y js) (total p))

  times_is : (p q : Poly) → total (times_of p q) ≡ times (total p) (total q)
  times_is none q = sym (zero_times K (total q))
  times_is (term z is p) q =
      sum_of_is (times_term z is q) (times_of p q)
      ∙ ap₂ plus (times_term_is z is q) (times_is p q)
      ∙ sym (plus_times K (worth z is) (total p) (total q))

  opposite_sums : (p : Poly) → plus (total p) (total (opposite p)) ≡ o
  opposite_sums none = K.plus_zero o
  opposite_sums (term z is p) =
      regrouped plus K.plus_associates K.plus_commutes (worth z is) (total p) (worth (neg_ℤ z) is)
      (total (opposite p))
      ∙ ap₂ plus
      (sym (plus_times K (whole z) (whole (neg_ℤ z)) (product_of is))
      ∙ ap (λ w. times w (product_of is))
      (sym (W.whole_plus z (neg_ℤ z)) ∙ ap whole (opposites z) ∙ W.whole_zero)
      ∙ zero_times K (product_of is))
      (opposite_sums p)
      ∙ K.plus_zero o

  normal_is : (e : Expr) → total (normal e) ≡ value W atoms e
  normal_is (var i) =
      K.plus_zero _ ∙ ap (λ w. times w (times (atom_of i) unit)) W.whole_one ∙ one_times K _
      ∙ K.times_one (atom_of i)
  normal_is (num z) = plus_some_is z [] none ∙ K.plus_zero _ ∙ K.times_one (whole z)
  normal_is (add e f) = sum_of_is (normal e) (normal f) ∙ ap₂ plus (normal_is e) (normal_is f)
  normal_is (mul e f) = times_is (normal e) (normal f) ∙ ap₂ times (normal_is e) (normal_is f)
  normal_is (neg e) =
      negative_is K (total (normal e)) (total (opposite (normal e))) (opposite_sums (normal e))
      ∙ ap negative (normal_is e)

  -- expressions with one normal form are worth the same
  pub same_value : (e f : Expr) → normal e ≡ normal f → value W atoms e ≡ value W atoms f
  same_value e f form = sym (normal_is e) ∙ ap total form ∙ normal_is f

-- ---- reading an expression off a value

-- an expression over the atoms that is worth x
pub data Reading {R : Type 0} {K : Ring R} (W : Wholes K) (atoms : List R) (x : R) : Type 0 where
  reading : (e : Expr) → value W atoms e ≡ x → Reading W atoms x

module _ {R : Type 0} {K : Ring R} {W : Wholes K} {atoms : List R} where
  -- a sum, a product, a value turned in sign
  abbrev pub read_plus : {x y : R} →
      Reading W atoms x → Reading W atoms y → Reading W atoms (K.plus x y)
  read_plus (reading e p) (reading f q) = reading (add e f) (ap₂ K.plus p q)

  abbrev pub read_times : {x y : R} →
      Reading W atoms x → Reading W atoms y → Reading W atoms (K.times x y)
  read_times (reading e p) (reading f q) = reading (mul e f) (ap₂ K.times p q)

  abbrev pub read_negative : {x : R} → Reading W atoms x → Reading W atoms (K.negative x)
  read_negative (reading e p) = reading (neg e) (ap K.negative p)

  -- an atom, by its number
  abbrev pub read_0 : {x : R} → Reading W (x ∷ atoms) x
  read_0 = reading (var 0) refl

  abbrev pub read_1 : {y0 x : R} → Reading W (y0 ∷ x ∷ atoms) x
  read_1 = reading (var 1) refl

  abbrev pub read_2 : {y0 y1 x : R} → Reading W (y0 ∷ y1 ∷ x ∷ atoms) x
  read_2 = reading (var 2) refl

  abbrev pub read_3 : {y0 y1 y2 x : R} → Reading W (y0 ∷ y1 ∷ y2 ∷ x ∷ atoms) x
  read_3 = reading (var 3) refl

  abbrev pub read_4 : {y0 y1 y2 y3 x : R} → Reading W (y0 ∷ y1 ∷ y2 ∷ y3 ∷ x ∷ atoms) x
  read_4 = reading (var 4) refl

  abbrev pub read_5 : {y0 y1 y2 y3 y4 x : R} → Reading W (y0 ∷ y1 ∷ y2 ∷ y3 ∷ y4 ∷ x ∷ atoms) x
  read_5 = reading (var 5) refl

  abbrev pub read_6 : {y0 y1 y2 y3 y4 y5 x : R} →
      Reading W (y0 ∷ y1 ∷ y2 ∷ y3 ∷ y4 ∷ y5 ∷ x ∷ atoms) x
  read_6 = reading (var 6) refl

  abbrev pub read_7 : {y0 y1 y2 y3 y4 y5 y6 x : R} →
      Reading W (y0 ∷ y1 ∷ y2 ∷ y3 ∷ y4 ∷ y5 ∷ y6 ∷ x ∷ atoms) x
  read_7 = reading (var 7) refl

  abbrev pub read_8 : {y0 y1 y2 y3 y4 y5 y6 y7 x : R} →
      Reading W (y0 ∷ y1 ∷ y2 ∷ y3 ∷ y4 ∷ y5 ∷ y6 ∷ y7 ∷ x ∷ atoms) x
  read_8 = reading (var 8) refl

  abbrev pub read_9 : {y0 y1 y2 y3 y4 y5 y6 y7 y8 x : R} →
      Reading W (y0 ∷ y1 ∷ y2 ∷ y3 ∷ y4 ∷ y5 ∷ y6 ∷ y7 ∷ y8 ∷ x ∷ atoms) x
  read_9 = reading (var 9) refl

  abbrev pub read_10 : {y0 y1 y2 y3 y4 y5 y6 y7 y8 y9 x : R} →
      Reading W (y0 ∷ y1 ∷ y2 ∷ y3 ∷ y4 ∷ y5 ∷ y6 ∷ y7 ∷ y8 ∷ y9 ∷ x ∷ atoms) x
  read_10 = reading (var 10) refl

  abbrev pub read_11 : {y0 y1 y2 y3 y4 y5 y6 y7 y8 y9 y10 x : R} →
      Reading W (y0 ∷ y1 ∷ y2 ∷ y3 ∷ y4 ∷ y5 ∷ y6 ∷ y7 ∷ y8 ∷ y9 ∷ y10 ∷ x ∷ atoms) x
  read_11 = reading (var 11) refl

  abbrev pub read_12 : {y0 y1 y2 y3 y4 y5 y6 y7 y8 y9 y10 y11 x : R} →
      Reading W (y0 ∷ y1 ∷ y2 ∷ y3 ∷ y4 ∷ y5 ∷ y6 ∷ y7 ∷ y8 ∷ y9 ∷ y10 ∷ y11 ∷ x ∷ atoms) x
  read_12 = reading (var 12) refl

  abbrev pub read_13 : {y0 y1 y2 y3 y4 y5 y6 y7 y8 y9 y10 y11 y12 x : R} →
      Reading W (y0 ∷ y1 ∷ y2 ∷ y3 ∷ y4 ∷ y5 ∷ y6 ∷ y7 ∷ y8 ∷ y9 ∷ y10 ∷ y11 ∷ y12 ∷ x ∷ atoms) x
  read_13 = reading (var 13) refl

  abbrev pub read_14 : {y0 y1 y2 y3 y4 y5 y6 y7 y8 y9 y10 y11 y12 y13 x : R} →
      Reading W (y0 ∷ y1 ∷ y2 ∷ y3 ∷ y4 ∷ y5 ∷ y6 ∷ y7 ∷ y8 ∷ y9 ∷ y10 ∷ y11 ∷ y12 ∷
      y13 ∷ x ∷ atoms) x
  read_14 = reading (var 14) refl

  abbrev pub read_15 : {y0 y1 y2 y3 y4 y5 y6 y7 y8 y9 y10 y11 y12 y13 y14 x : R} →
      Reading W (y0 ∷ y1 ∷ y2 ∷ y3 ∷ y4 ∷ y5 ∷ y6 ∷ y7 ∷ y8 ∷ y9 ∷ y10 ∷ y11 ∷ y12 ∷
      y13 ∷ y14 ∷ x ∷ atoms) x
  read_15 = reading (var 15) refl

  abbrev pub read_16 : {y0 y1 y2 y3 y4 y5 y6 y7 y8 y9 y10 y11 y12 y13 y14 y15 x : R} →
      Reading W (y0 ∷ y1 ∷ y2 ∷ y3 ∷ y4 ∷ y5 ∷ y6 ∷ y7 ∷ y8 ∷ y9 ∷ y10 ∷ y11 ∷ y12 ∷
      y13 ∷ y14 ∷ y15 ∷ x ∷ atoms) x
  read_16 = reading (var 16) refl

  abbrev pub read_17 : {y0 y1 y2 y3 y4 y5 y6 y7 y8 y9 y10 y11 y12 y13 y14 y15 y16 x : R} →
      Reading W (y0 ∷ y1 ∷ y2 ∷ y3 ∷ y4 ∷ y5 ∷ y6 ∷ y7 ∷ y8 ∷ y9 ∷ y10 ∷ y11 ∷ y12 ∷
      y13 ∷ y14 ∷ y15 ∷ y16 ∷ x ∷ atoms) x
  read_17 = reading (var 17) refl

  abbrev pub read_18 : {y0 y1 y2 y3 y4 y5 y6 y7 y8 y9 y10 y11 y12 y13 y14 y15 y16 y17 x : R} →
      Reading W (y0 ∷ y1 ∷ y2 ∷ y3 ∷ y4 ∷ y5 ∷ y6 ∷ y7 ∷ y8 ∷ y9 ∷ y10 ∷ y11 ∷ y12 ∷
      y13 ∷ y14 ∷ y15 ∷ y16 ∷ y17 ∷ x ∷ atoms) x
  read_18 = reading (var 18) refl

  abbrev pub read_19 : {y0 y1 y2 y3 y4 y5 y6 y7 y8 y9 y10 y11 y12 y13 y14 y15 y16 y17 y18 x : R} →
      Reading W (y0 ∷ y1 ∷ y2 ∷ y3 ∷ y4 ∷ y5 ∷ y6 ∷ y7 ∷ y8 ∷ y9 ∷ y10 ∷ y11 ∷ y12 ∷
      y13 ∷ y14 ∷ y15 ∷ y16 ∷ y17 ∷ y18 ∷ x ∷ atoms) x
  read_19 = reading (var 19) refl

-- expressions over the same atoms that are worth x and y
pub data Readings {R : Type 0} {K : Ring R} (W : Wholes K) (atoms : List R) (x y : R) : Type 0 where
  readings : (e f : Expr) → value W atoms e ≡ x → value W atoms f ≡ y → Readings W atoms x y

abbrev pub read_both : {R : Type 0} {K : Ring R} {W : Wholes K} {atoms : List R} {x y : R} →
    Reading W atoms x → Reading W atoms y → Readings W atoms x y
read_both (reading e p) (reading f q) = readings e f p q

-- that the two have one normal form
abbrev pub SameForm : {R : Type 0} {K : Ring R} {W : Wholes K} {atoms : List R} {x y : R} →
    Readings W atoms x y → Type 0
SameForm (readings e f p q) = normal e ≡ normal f

-- two values are equal if they are read as expressions with one normal form
pub by_form : {R : Type 0} {K : Ring R} {W : Wholes K} {atoms : List R} {x y : R} →
    (h : Readings W atoms x y) → SameForm h → x ≡ y
by_form {W = W} {atoms = atoms} (readings e f p q) form = sym p ∙ same_value W atoms e f form ∙ q
