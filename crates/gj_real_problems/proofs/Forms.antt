-- Linear forms with coefficients of one ordered field, at points of a greater one.
use Rattle.std.proofs.Common.{◌≡◌, ℕ, zero, suc, List, [], ◌∷◌, refl, sym, ap, ap₂, ◌∙◌}
use Rattle.std.specs.Prelude.{slice_index_or}
use Rattle.gj_fields.specs.Fields.{OrderedField, AtMost}
use Rattle.gj_fields.proofs.Ring.{ring, cancel}
use Rattle.gj_fields.proofs.Ring.Term.{var, nil, unit, neg, ◌⊕◌, ◌⊗◌}

-- the numbers of F are numbers of K, with the same sums, products and order
pub record Embeds {A B : Type 0} (F : OrderedField A) (K : OrderedField B) (image : A → B) :
    Type 0 where
  pub zero_is : image F.zero ≡ K.zero
  pub one_is : image F.one ≡ K.one
  pub plus_is : (x y : A) → image (F.plus x y) ≡ K.plus (image x) (image y)
  pub times_is : (x y : A) → image (F.times x y) ≡ K.times (image x) (image y)
  pub keeps : (x y : A) → AtMost F x y → AtMost K (image x) (image y)
  pub reflects : (x y : A) → AtMost K (image x) (image y) → AtMost F x y

pub itself : {A : Type 0} (F : OrderedField A) → Embeds F F (λ x. x)
itself F = record {
  zero_is = refl;
  one_is = refl;
  plus_is = λ x y. refl;
  times_is = λ x y. refl;
  keeps = λ x y h. h;
  reflects = λ x y h. h;
}

pub negative_is : {A B : Type 0} (F : OrderedField A) (K : OrderedField B) (image : A → B) →
    Embeds F K image → (x : A) → image (F.negative x) ≡ K.negative (image x)
negative_is F K image h x =
    cancel K (image (F.negative x)) (K.negative (image x)) (image x)
    (sym (h.plus_is (F.negative x) x)
    ∙ ap image (F.plus_commutes (F.negative x) x ∙ F.plus_negative x)
    ∙ h.zero_is ∙ sym (K.plus_negative (image x))
    ∙ K.plus_commutes (image x) (K.negative (image x)))

-- ---- forms and points

pub record Pair (A T : Type 0) : Type 0 where
  pub head : A
  pub tail : T

-- a coefficient for each of n variables, and a number alone
abbrev pub Form : Type 0 → ℕ → Type 0
Form A zero = A
Form A (suc n) = Pair A (Form A n)

abbrev pub Point : Type 0 → ℕ → Type 0
Point A zero = Unit {0}
Point A (suc n) = Pair A (Point A n)

abbrev pub numbers : {A : Type 0} (n : ℕ) → Point A n → List A
numbers zero x = []
numbers (suc n) x = x.head ∷ numbers n x.tail

module _ {A : Type 0} (F : OrderedField A) where
  abbrev pub constant : (n : ℕ) → A → Form A n
  constant zero k = k
  constant (suc n) k = record { head = F.zero; tail = constant n k }

  -- the variable with this index; past the last it is 0
  abbrev pub variable : (n : ℕ) → ℕ → Form A n
  variable zero j = F.zero
  variable (suc n) zero = record { head = F.one; tail = constant n F.zero }
  variable (suc n) (suc j) = record { head = F.zero; tail = variable n j }

  abbrev pub scaled : (n : ℕ) → A → Form A n → Form A n
  scaled zero c f = F.times c f
  scaled (suc n) c f = record { head = F.times c f.head; tail = scaled n c f.tail }

  abbrev pub sum : (n : ℕ) → Form A n → Form A n → Form A n
  sum zero f g = F.plus f g
  sum (suc n) f g = record { head = F.plus f.head g.head; tail = sum n f.tail g.tail }

  abbrev pub difference : (n : ℕ) → Form A n → Form A n → Form A n
  difference n f g = sum n f (scaled n (F.negative F.one) g)

-- ---- values

abbrev pub value : {A B : Type 0} (K : OrderedField B) (image : A → B) (n : ℕ) → Form A n →
    Point B n → B
value K image zero f y = image f
value K image (suc n) f y = K.plus (K.times (image f.head) y.head) (value K image n f.tail y.tail)

module _ {A B : Type 0} (F : OrderedField A) (K : OrderedField B) (image : A → B)
    (h : Embeds F K image) where
  open K use {plus, times, zero as o, one as e, negative}

  abbrev val : (n : ℕ) → Form A n → Point B n → B
  val n f y = value K image n f y

  pub value_ahead : (n : ℕ) (f : Form A n) (x : B) (y : Point B n) →
      plus (times (image F.zero) x) (val n f y) ≡ val n f y
  value_ahead n f x y =
      ap (λ z. plus (times z x) (val n f y)) h.zero_is
      ∙ ring K (x ∷ val n f y ∷ []) (nil ⊗ var 0 ⊕ var 1) (var 1) refl

  pub value_constant : (n : ℕ) (k : A) (y : Point B n) → val n (constant F n k) y ≡ image k
  value_constant zero k y = refl
  value_constant (suc n) k y = value_ahead n (constant F n k) y.head y.tail
      ∙ value_constant n k y.tail

  pub value_variable : (n j : ℕ) (y : Point B n) →
      val n (variable F n j) y ≡ slice_index_or (numbers n y) j o
  value_variable zero j y = h.zero_is
  value_variable (suc n) zero y =
      ap₂ (λ s t. plus (times s y.head) t) h.one_is (value_constant n F.zero y.tail ∙ h.zero_is)
      ∙ ring K (y.head ∷ []) (unit ⊗ var 0 ⊕ nil) (var 0) refl
  value_variable (suc n) (suc j) y = value_ahead n (variable F n j) y.head y.tail
      ∙ value_variable n j y.tail

  pub value_scaled : (n : ℕ) (c : A) (f : Form A n) (y : Point B n) →
      val n (scaled F n c f) y ≡ times (image c) (val n f y)
  value_scaled zero c f y = h.times_is c f
  value_scaled (suc n) c f y =
      ap₂ (λ s t. plus (times s y.head) t) (h.times_is c f.head) (value_scaled n c f.tail y.tail)
      ∙ ring K (image c ∷ image f.head ∷ y.head ∷ val n f.tail y.tail ∷ [])
      ((var 0 ⊗ var 1) ⊗ var 2 ⊕ var 0 ⊗ var 3) (var 0 ⊗ (var 1 ⊗ var 2 ⊕ var 3)) refl

  pub value_sum : (n : ℕ) (f g : Form A n) (y : Point B n) →
      val n (sum F n f g) y ≡ plus (val n f y) (val n g y)
  value_sum zero f g y = h.plus_is f g
  value_sum (suc n) f g y =
      ap₂ (λ s t. plus (times s y.head) t) (h.plus_is f.head g.head)
      (value_sum n f.tail g.tail y.tail)
      ∙ ring K (image f.head ∷ image g.head ∷ y.head ∷ val n f.tail y.tail ∷ val n g.tail y.tail
      ∷ [])
      ((var 0 ⊕ var 1) ⊗ var 2 ⊕ (var 3 ⊕ var 4))
      ((var 0 ⊗ var 2 ⊕ var 3) ⊕ (var 1 ⊗ var 2 ⊕ var 4)) refl

  pub value_difference : (n : ℕ) (f g : Form A n) (y : Point B n) →
      val n (difference F n f g) y ≡ plus (val n f y) (negative (val n g y))
  value_difference n f g y =
      value_sum n f (scaled F n (F.negative F.one) g) y
      ∙ ap (plus (val n f y)) (value_scaled n (F.negative F.one) g y
      ∙ ap (λ z. times z (val n g y)) (negative_is F K image h F.one ∙ ap negative h.one_is)
      ∙ ring K (val n g y ∷ []) (neg unit ⊗ var 0) (neg (var 0)) refl)
