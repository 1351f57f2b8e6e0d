-- An equation of sums, products and negatives holds in each field if both sides have one normal
-- form.
use Rattle.std.proofs.Common.{◌≡◌, ℕ, zero, suc, ◌+◌, ◌*◌, ℤ, pos, negsuc, ◌+ℤ◌, ◌*ℤ◌, List, refl, sym, ap, ap₂, ◌∙◌, arith}
use Rattle.std.proofs.lemmas.Int.{ints}
use Rattle.gj_fields.specs.Fields.{OrderedField, number, whole}
use Rattle.gj_lemmas.proofs.Integers.{add_mul_z, one_mul_z}
use lib.IntN.{zero-*ℤ}
use Rattle.gj_lemmas.proofs.Rings as rings
use Rattle.gj_lemmas.proofs.Rings.{Expr, atom, normal, same_value}

infixl 60 ◌⊕◌
infixl 70 ◌⊗◌
pub data Term : Type 0 where
  var : ℕ → Term
  nil : Term
  unit : Term
  ◌⊕◌ : Term → Term → Term
  ◌⊗◌ : Term → Term → Term
  neg : Term → Term

abbrev pub value : {R : Type 0} → OrderedField R → List R → Term → R
value K env (var i) = atom K.zero env i
value K env nil = K.zero
value K env unit = K.one
value K env (s ⊕ t) = K.plus (value K env s) (value K env t)
value K env (s ⊗ t) = K.times (value K env s) (value K env t)
value K env (neg t) = K.negative (value K env t)

-- the same as an expression over a ring
abbrev pub expr : Term → Expr
expr (var i) = rings.var i
expr nil = rings.num (pos 0)
expr unit = rings.num (pos 1)
expr (s ⊕ t) = rings.add (expr s) (expr t)
expr (s ⊗ t) = rings.mul (expr s) (expr t)
expr (neg t) = rings.neg (expr t)

-- both sides have one normal form
abbrev pub IsSame : Term → Term → Type 0
IsSame s t = normal (expr s) ≡ normal (expr t)

next_of_pos : (n : ℕ) → pos (suc n) ≡ pos n +ℤ pos 1
next_of_pos n = omega (arith, ints)

next_of_negsuc : (n : ℕ) → negsuc (suc n) +ℤ pos 1 ≡ negsuc n
next_of_negsuc n = omega (arith, ints)

next_of_sum : (x y : ℤ) → (x +ℤ pos 1) +ℤ y ≡ (x +ℤ y) +ℤ pos 1
next_of_sum x y = omega (arith, ints)

next_of_product : (x y : ℤ) → (x +ℤ pos 1) *ℤ y ≡ x *ℤ y +ℤ y
next_of_product x y = add_mul_z x (pos 1) y ∙ ap (λ w. x *ℤ y +ℤ w) (one_mul_z y)

module _ {R : Type 0} (K : OrderedField R) where
  open K use {plus, times, zero as o, one as e, negative}

  abbrev pub ring_of : rings.Ring R
  ring_of = record {
    zero = o;
    one = e;
    plus = plus;
    times = times;
    negative = negative;
    plus_associates = K.plus_associates;
    plus_commutes = K.plus_commutes;
    plus_zero = K.plus_zero;
    plus_negative = K.plus_negative;
    times_associates = K.times_associates;
    times_commutes = K.times_commutes;
    times_one = K.times_one;
    times_plus = K.times_plus;
  }

  pub plus_exchanges : (x y z : R) → plus x (plus y z) ≡ plus y (plus x z)
  plus_exchanges = rings.plus_exchanges ring_of

  pub cancel : (x y z : R) → plus x z ≡ plus y z → x ≡ y
  cancel = rings.cancel ring_of

  pub times_zero : (x : R) → times x o ≡ o
  times_zero = rings.times_zero ring_of

  -- ---- whole numbers

  -- one less below 0
  less : (x : R) → plus (negative (plus x e)) e ≡ negative x
  less x =
      rings.negative_is ring_of x (plus (negative (plus x e)) e)
      (plus_exchanges x (negative (plus x e)) e ∙ K.plus_commutes (negative (plus x e)) (plus x e)
      ∙ K.plus_negative (plus x e))

  whole_next : (z : ℤ) → whole K (z +ℤ pos 1) ≡ plus (whole K z) e
  whole_next (pos n) = ap (whole K) (sym (next_of_pos n))
  whole_next (negsuc zero) = rings.negative_is ring_of o o (K.plus_zero o) ∙ sym (less o)
  whole_next (negsuc (suc n)) = ap (whole K) (next_of_negsuc n) ∙ sym (less (number K (suc n)))

  -- two that agree at 0 and grow by c from each whole number to the next are one
  agree : (f g : ℤ → R) (c : R) → f (pos 0) ≡ g (pos 0) →
      ((z : ℤ) → f (z +ℤ pos 1) ≡ plus (f z) c) → ((z : ℤ) → g (z +ℤ pos 1) ≡ plus (g z) c) →
      (z : ℤ) → f z ≡ g z
  agree f g c h s t (pos zero) = h
  agree f g c h s t (pos (suc n)) =
      ap f (next_of_pos n) ∙ s (pos n) ∙ ap (λ w. plus w c) (agree f g c h s t (pos n))
      ∙ sym (t (pos n)) ∙ ap g (sym (next_of_pos n))
  agree f g c h s t (negsuc zero) =
      cancel (f (negsuc 0)) (g (negsuc 0)) c (sym (s (negsuc 0)) ∙ h ∙ t (negsuc 0))
  agree f g c h s t (negsuc (suc n)) =
      cancel (f (negsuc (suc n))) (g (negsuc (suc n))) c
      (sym (s (negsuc (suc n))) ∙ ap f (next_of_negsuc n) ∙ agree f g c h s t (negsuc n)
      ∙ ap g (sym (next_of_negsuc n)) ∙ t (negsuc (suc n)))

  zero_sum : (y : ℤ) → pos 0 +ℤ y ≡ y
  zero_sum y = omega (arith, ints)

  pub whole_plus : (x y : ℤ) → whole K (x +ℤ y) ≡ plus (whole K x) (whole K y)
  whole_plus x y =
      agree (λ z. whole K (z +ℤ y)) (λ z. plus (whole K z) (whole K y)) e
      (ap (whole K) (zero_sum y) ∙ sym (rings.zero_plus ring_of (whole K y)))
      (λ z. ap (whole K) (next_of_sum z y) ∙ whole_next (z +ℤ y))
      (λ z. ap (λ w. plus w (whole K y)) (whole_next z)
      ∙ K.plus_associates (whole K z) e (whole K y)
      ∙ ap (plus (whole K z)) (K.plus_commutes e (whole K y))
      ∙ sym (K.plus_associates (whole K z) (whole K y) e))
      x

  pub whole_times : (x y : ℤ) → whole K (x *ℤ y) ≡ times (whole K x) (whole K y)
  whole_times x y =
      agree (λ z. whole K (z *ℤ y)) (λ z. times (whole K z) (whole K y)) (whole K y)
      (ap (whole K) (zero-*ℤ y) ∙ sym (rings.zero_times ring_of (whole K y)))
      (λ z. ap (whole K) (next_of_product z y) ∙ whole_plus (z *ℤ y) y)
      (λ z. ap (λ w. times w (whole K y)) (whole_next z)
      ∙ rings.plus_times ring_of (whole K z) e (whole K y)
      ∙ ap (plus (times (whole K z) (whole K y))) (rings.one_times ring_of (whole K y)))
      x

  pub number_plus : (n m : ℕ) → number K (n + m) ≡ plus (number K n) (number K m)
  number_plus n m = whole_plus (pos n) (pos m)

  pub number_times : (n m : ℕ) → number K (n * m) ≡ times (number K n) (number K m)
  number_times n m = whole_times (pos n) (pos m)

  abbrev pub wholes_of : rings.Wholes ring_of
  wholes_of = record {
    whole = whole K;
    whole_zero = refl;
    whole_one = rings.zero_plus ring_of e;
    whole_plus = whole_plus;
    whole_times = whole_times;
  }

module _ {R : Type 0} (K : OrderedField R) (env : List R) where
  value_is : (t : Term) → value K env t ≡ rings.value (wholes_of K) env (expr t)
  value_is (var i) = refl
  value_is nil = refl
  value_is unit = sym (rings.zero_plus (ring_of K) K.one)
  value_is (s ⊕ t) = ap₂ K.plus (value_is s) (value_is t)
  value_is (s ⊗ t) = ap₂ K.times (value_is s) (value_is t)
  value_is (neg t) = ap K.negative (value_is t)

  pub ring : (s t : Term) → IsSame s t → value K env s ≡ value K env t
  ring s t same =
      value_is s ∙ same_value (wholes_of K) env (expr s) (expr t) same ∙ sym (value_is t)
