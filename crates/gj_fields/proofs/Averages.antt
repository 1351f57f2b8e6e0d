-- Of a minimal function that is half the sum of two valid functions, both are minimal; what is
-- extreme is minimal.
use Rattle.std.proofs.Common.{◌≡◌, ◌≢◌, List, [], ◌∷◌, map, refl, sym, subst, ap, ap₂, ◌∙◌}
use Rattle.gj_fields.specs.Fields.{OrderedField, AtMost}
use Rattle.gj_fields.specs.Functions.{total_of, IsValid, IsMinimalAmong, IsExtremeAmong}
use Rattle.gj_fields.proofs.Ring.{ring, cancel}
use Rattle.gj_fields.proofs.Ring.Term.{var, nil, unit, neg, ◌⊕◌, ◌⊗◌}
use Rattle.gj_fields.proofs.Order.{add_le, le_refl, le_of_eq, zero_le_one, by_one, by_two}

module _ {R : Type 0} (K : OrderedField R) where
  open K use {plus, times, zero as o, one as e, negative}

  abbrev two : R
  two = plus e e

  abbrev half : R
  half = K.inverse two

  two_some : two ≢ o
  two_some none =
      K.different (K.antisymmetric e o
      (by_two K [] unit nil (unit ⊕ unit) nil nil unit (le_of_eq K two o none) (zero_le_one K) refl)
      (zero_le_one K))

  half_is : plus half half ≡ e
  half_is =
      ring K (half ∷ []) (var 0 ⊕ var 0) ((unit ⊕ unit) ⊗ var 0) refl ∙ K.times_inverse two two_some

  half_low : AtMost K o half
  half_low =
      Rattle.std.proofs.Common.⊎_elim (λ h. h)
      (λ h. by_two K (half ∷ []) nil (var 0) (var 0) nil nil (var 0 ⊕ var 0) h
      (subst (AtMost K o) (sym half_is) (zero_le_one K)) refl)
      (K.total o half)

  -- a number is twice its half
  halved : (x : R) → times half (plus x x) ≡ x
  halved x =
      ring K (half ∷ x ∷ []) (var 0 ⊗ (var 1 ⊕ var 1)) ((var 0 ⊕ var 0) ⊗ var 1) refl
      ∙ ap (λ w. times w x) half_is
      ∙ K.times_commutes e x ∙ K.times_one x

  pub double_injective : (x y : R) → plus x x ≡ plus y y → x ≡ y
  double_injective x y h = sym (halved x) ∙ ap (times half) h ∙ halved y

  values-half : (u b : R → R) (xs : List R) →
      total_of K (map (λ x. times half (plus (u x) (b x))) xs)
      ≡ times half (plus (total_of K (map u xs)) (total_of K (map b xs)))
  values-half u b [] = ring K (half ∷ []) nil (var 0 ⊗ (nil ⊕ nil)) refl
  values-half u b (x ∷ xs) =
      ap (plus (times half (plus (u x) (b x)))) (values-half u b xs)
      ∙ ring K (half ∷ u x ∷ b x ∷ total_of K (map u xs) ∷ total_of K (map b xs) ∷ [])
      (var 0 ⊗ (var 1 ⊕ var 2) ⊕ var 0 ⊗ (var 3 ⊕ var 4))
      (var 0 ⊗ ((var 1 ⊕ var 3) ⊕ (var 2 ⊕ var 4))) refl

  half_sum_low : (x y : R) → AtMost K o x → AtMost K o y → AtMost K o (times half (plus x y))
  half_sum_low x y h k =
      K.times_keeps half (plus x y) half_low
      (by_two K (x ∷ y ∷ []) nil (var 0 ⊕ var 1) nil (var 0) nil (var 1) h k refl)

  half_valid : (u b : R → R) (f : R) → IsValid K u f → IsValid K b f →
      IsValid K (λ x. times half (plus (u x) (b x))) f
  half_valid u b f h k = record {
    function = record {
      nonnegative = λ x. half_sum_low (u x) (b x) (h.function.nonnegative x)
          (k.function.nonnegative x);
      has_period = λ x. ap₂ (λ s t. times half (plus s t)) (h.function.has_period x)
          (k.function.has_period x);
    };
    at_solutions = λ xs solution.
        let s = total_of K (map u xs) in
        let t = total_of K (map b xs) in
        subst (AtMost K e) (sym (values-half u b xs))
        (by_two K (half ∷ s ∷ t ∷ []) unit (var 0 ⊗ (var 1 ⊕ var 2))
        nil (var 0 ⊗ ((var 1 ⊕ neg unit) ⊕ (var 2 ⊕ neg unit))) unit (var 0 ⊕ var 0)
        (half_sum_low (plus s (negative e)) (plus t (negative e))
        (by_one K (s ∷ []) nil (var 0 ⊕ neg unit) unit (var 0) (h.at_solutions xs solution) refl)
        (by_one K (t ∷ []) nil (var 0 ⊕ neg unit) unit (var 0) (k.at_solutions xs solution) refl))
        (le_of_eq K e (plus half half) (sym half_is)) refl);
  }

  pub average_minimal : (v a b : R → R) (f : R) → IsMinimalAmong K v f → IsValid K a f →
      IsValid K b f →
      ((x : R) → plus (a x) (b x) ≡ plus (v x) (v x)) → IsMinimalAmong K a f
  average_minimal v a b f h a_valid b_valid average = record {
    valid = a_valid;
    none_below = λ u valid below x.
        let same = h.none_below (λ y. times half (plus (u y) (b y)))
        (half_valid u b f valid b_valid)
        (λ y. subst (AtMost K (times half (plus (u y) (b y))))
        (ap (times half) (average y) ∙ halved (v y))
        (by_one K (half ∷ u y ∷ b y ∷ a y ∷ []) (var 0 ⊗ (var 1 ⊕ var 2)) (var 0 ⊗ (var 3 ⊕ var 2))
        nil (var 0 ⊗ (var 3 ⊕ neg (var 1)))
        (K.times_keeps half (plus (a y) (negative (u y))) half_low
        (by_one K (u y ∷ a y ∷ []) nil (var 1 ⊕ neg (var 0)) (var 0) (var 1) (below y) refl)) refl))
        x in
        cancel K (u x) (a x) (b x)
        (sym (halved (plus (u x) (b x)))
        ∙ ring K (half ∷ u x ∷ b x ∷ []) (var 0 ⊗ ((var 1 ⊕ var 2) ⊕ (var 1 ⊕ var 2)))
        (var 0 ⊗ (var 1 ⊕ var 2) ⊕ var 0 ⊗ (var 1 ⊕ var 2)) refl
        ∙ ap (λ w. plus w w) same ∙ sym (average x));
  }

  pub extreme_minimal : (v : R → R) (f : R) → IsExtremeAmong K v f → IsMinimalAmong K v f
  extreme_minimal v f h = record {
    valid = h.valid;
    none_below = λ u valid below x.
        let b = λ (y : R). plus (v y) (plus (v y) (negative (u y))) in
        let more = λ (y : R). by_one K (u y ∷ v y ∷ []) (var 1) (var 1 ⊕ (var 1 ⊕ neg (var 0)))
        (var 0) (var 1) (below y) refl in
        let b_valid : IsValid K b f = record {
          function = record {
            nonnegative = λ y. K.transitive o (v y) (b y) (h.valid.function.nonnegative y) (more y);
            has_period = λ y. ap₂ (λ s t. plus s (plus s (negative t)))
                (h.valid.function.has_period y) (valid.function.has_period y);
          };
          at_solutions = λ xs solution. K.transitive e (total_of K (map v xs))
              (total_of K (map b xs)) (h.valid.at_solutions xs solution) (totals v b more xs);
        } in
        let same =
        h.no_average u b valid b_valid (λ y. ring K (u y ∷ v y ∷ [])
        (var 0 ⊕ (var 1 ⊕ (var 1 ⊕ neg (var 0)))) (var 1 ⊕ var 1) refl) x in
        double_injective (u x) (v x)
        (ap (plus (u x)) same ∙ ring K (u x ∷ v x ∷ []) (var 0 ⊕ (var 1 ⊕ (var 1 ⊕ neg (var 0))))
        (var 1 ⊕ var 1) refl);
  }
    where
      totals : (v b : R → R) → ((y : R) → AtMost K (v y) (b y)) → (xs : List R) →
          AtMost K (total_of K (map v xs)) (total_of K (map b xs))
      totals v b more [] = le_refl K o
      totals v b more (x ∷ xs) =
          add_le K (v x) (b x) (total_of K (map v xs)) (total_of K (map b xs)) (more x)
          (totals v b more xs)
