-- The order of a field: an inequality follows from others by sums, with terms that have the same
-- monomials.
use Rattle.std.proofs.Common.{◌≡◌, ℕ, zero, suc, Bool, true, false, ◌⊎◌, inl, inr, ⊎_elim, List, [], ◌∷◌, refl, sym, subst, subst₂, ◌∙◌}
use Rattle.gj_fields.specs.Fields.{OrderedField, AtMost, number}
use Rattle.gj_fields.proofs.Ring.{Term, IsSame, value, ring}
pub use Rattle.gj_fields.proofs.Ring.{number_plus}
use Rattle.gj_fields.proofs.Ring.Term.{var, nil, unit, neg, ◌⊕◌, ◌⊗◌}

-- a test answers true or false
pub either : (b : Bool) → (b ≡ true) ⊎ (b ≡ false)
either true = inl refl
either false = inr refl

module _ {R : Type 0} (K : OrderedField R) where
  open K use {plus, times, zero as o, one as e, negative}

  pub le_refl : (x : R) → AtMost K x x
  le_refl x = ⊎_elim (λ h. h) (λ h. h) (K.total x x)

  pub le_of_eq : (x y : R) → x ≡ y → AtMost K x y
  le_of_eq x y h = subst (λ z. AtMost K x z) h (le_refl x)

  pub le_of_not : (x y : R) → K.at_most x y ≡ false → AtMost K y x
  le_of_not x y h =
      ⊎_elim (λ k. absurd (let same : false ≡ true = sym h ∙ k in cc)) (λ k. k) (K.total x y)

  pub add_le : (x y z w : R) → AtMost K x y → AtMost K z w → AtMost K (plus x z) (plus y w)
  add_le x y z w h k =
      K.transitive (plus x z) (plus y z) (plus y w) (K.plus_keeps x y z h)
      (subst₂ (AtMost K) (K.plus_commutes z y) (K.plus_commutes w y) (K.plus_keeps z w y k))

  -- from one inequality: the two sides differ by no more
  pub from_one : (x y a b : R) → AtMost K a b → plus x b ≡ plus y a → AtMost K x y
  from_one x y a b h same =
      let env = x ∷ y ∷ a ∷ b ∷ [] in
      let kept : AtMost K (plus (plus x b) (plus (negative b) o))
      (plus (plus y b) (plus (negative b) o)) =
      K.plus_keeps (plus x b) (plus y b) (plus (negative b) o)
      (subst (λ z. AtMost K z (plus y b)) (sym same)
      (subst₂ (AtMost K) (K.plus_commutes a y) (K.plus_commutes b y) (K.plus_keeps a b y h))) in
      subst₂ (AtMost K)
      (ring K env ((var 0 ⊕ var 3) ⊕ (neg (var 3) ⊕ nil)) (var 0) refl)
      (ring K env ((var 1 ⊕ var 3) ⊕ (neg (var 3) ⊕ nil)) (var 1) refl)
      kept

  pub times_le : (x y z : R) → AtMost K o z → AtMost K x y → AtMost K (times x z) (times y z)
  times_le x y z some h =
      let env = x ∷ y ∷ z ∷ [] in
      from_one (times x z) (times y z) o (times (plus y (negative x)) z)
      (K.times_keeps (plus y (negative x)) z
      (from_one o (plus y (negative x)) x y h
      (ring K env (nil ⊕ var 1) ((var 1 ⊕ neg (var 0)) ⊕ var 0) refl))
      some)
      (ring K env (var 0 ⊗ var 2 ⊕ (var 1 ⊕ neg (var 0)) ⊗ var 2) (var 1 ⊗ var 2 ⊕ nil) refl)

  pub zero_le_one : AtMost K o e
  zero_le_one =
      ⊎_elim (λ h. h)
      (λ h.
      let low : AtMost K o (negative e) =
      from_one o (negative e) e o h (ring K [] (nil ⊕ nil) (neg unit ⊕ unit) refl) in
      from_one o e o (times (negative e) (negative e))
      (K.times_keeps (negative e) (negative e) low low)
      (ring K [] (nil ⊕ neg unit ⊗ neg unit) (unit ⊕ nil) refl))
      (K.total o e)

  pub number_low : (n : ℕ) → AtMost K o (number K n)
  number_low zero = le_refl o
  number_low (suc n) =
      subst (λ z. AtMost K z (plus (number K n) e)) (K.plus_zero o)
      (add_le o (number K n) o e (number_low n) zero_le_one)

-- the same over terms
module _ {R : Type 0} (K : OrderedField R) (env : List R) where
  abbrev Most : Term → Term → Type 0
  Most s t = AtMost K (value K env s) (value K env t)

  pub by_one : (s t a b : Term) → AtMost K (value K env a) (value K env b) →
      IsSame (s ⊕ b) (t ⊕ a) →
      AtMost K (value K env s) (value K env t)
  by_one s t a b h same = from_one K _ _ _ _ h (ring K env (s ⊕ b) (t ⊕ a) same)

  pub by_two : (s t a b c d : Term) → AtMost K (value K env a) (value K env b) →
      AtMost K (value K env c) (value K env d) →
      IsSame (s ⊕ (b ⊕ d)) (t ⊕ (a ⊕ c)) → AtMost K (value K env s) (value K env t)
  by_two s t a b c d h k same = by_one s t (a ⊕ c) (b ⊕ d) (add_le K _ _ _ _ h k) same

  pub by_three : (s t a b c d g l : Term) → AtMost K (value K env a) (value K env b) →
      AtMost K (value K env c) (value K env d) →
      AtMost K (value K env g) (value K env l) → IsSame (s ⊕ (b ⊕ d ⊕ l)) (t ⊕ (a ⊕ c ⊕ g)) →
      AtMost K (value K env s) (value K env t)
  by_three s t a b c d g l h k i same = by_two s t (a ⊕ c) (b ⊕ d) g l (add_le K _ _ _ _ h k) i same
