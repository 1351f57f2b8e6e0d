-- Cuts of rows of fractions, from those of points and columns.
use Rattle.std.proofs.Common.{◌≡◌, ℕ, zero, suc, ℤ, neg_ℤ, ◌+ℤ◌, List, [], ◌∷◌, ◌++◌, map, All, refl, sym, subst₂, ap, ap₂, ◌∙◌}
use Rattle.std.specs.List.{AllZip}
use Rattle.std.proofs.lemmas.List.Elements.{All-head, All-tail}
use Rattle.gj_frac.specs.declared.Frac.{Frac}
use Rattle.gj_fields.specs.Fields.{OrderedField, HasFloor, AtMost, number, whole}
use Rattle.gj_fields.specs.Functions.{IsSamePoint, total_of, HasRules}
use Rattle.gj_fields.specs.MixedCuts.{HasSlopesAtZero, Column, weight_of, total_amount, total_weight}
use Rattle.gj_fields.proofs.Ring.{ring, times_zero}
use Rattle.gj_fields.proofs.Ring.Term.{var, unit, neg, ◌⊕◌, ◌⊗◌}
use Rattle.gj_fields.proofs.Points.{total-append, values-append}
use Rattle.gj_fields.proofs.Wholes.{above, below, whole_parts, whole_plus}
use Rattle.gj_fields.proofs.Mixed.{mixed_cut}
use Rattle.gj_reals.proofs.Lift.{whole_negative}
use Rattle.gj_real_cuts.specs.RealRows.{number_of, sum_of_products, RealCutHolds, IsRealValue}

module _ {R : Type 0} (K : OrderedField R) where
  open K use {plus, times, zero as o, one as e, negative}

  -- points that differ by a whole number are one
  pub point_of_whole : (y : R) (z : ℤ) (x : R) → x ≡ plus y (whole K z) → IsSamePoint K x y
  point_of_whole y z x is = (
    below z,
    above z,
    ap (λ w. plus w (number K (below z))) is
        ∙ K.plus_associates y (whole K z) (number K (below z)) ∙ ap (plus y) (whole_parts K z),
  )

  -- a point, n times
  copies : ℕ → R → List R
  copies zero x = []
  copies (suc n) x = x ∷ copies n x

  total_copies : (n : ℕ) (x : R) → total_of K (copies n x) ≡ times x (number K n)
  unfolding copies
  total_copies zero x = sym (times_zero K x)
  total_copies (suc n) x =
      ap (plus x) (total_copies n x)
      ∙ ring K (x ∷ number K n ∷ []) (var 0 ⊕ var 0 ⊗ var 1) (var 0 ⊗ (var 1 ⊕ unit)) refl

  values_copies : (v : R → R) (n : ℕ) (x : R) →
      total_of K (map v (copies n x)) ≡ times (v x) (number K n)
  unfolding copies
  values_copies v zero x = sym (times_zero K (v x))
  values_copies v (suc n) x =
      ap (plus (v x)) (values_copies v n x)
      ∙ ring K (v x ∷ number K n ∷ []) (var 0 ⊕ var 0 ⊗ var 1) (var 0 ⊗ (var 1 ⊕ unit)) refl

  -- the points of whole columns
  record Used (v : R → R) (entries coefficients : List Frac) (others : List ℕ) : Type 0 where
    points : List R
    sum : total_of K points ≡ sum_of_products K entries (map (number K) others)
    values : total_of K (map v points) ≡ sum_of_products K coefficients (map (number K) others)

  used : (v : R → R) (xs ys : List Frac) (ns : List ℕ) → AllZip (IsRealValue K v) xs ys →
      Used v xs ys ns
  used v [] [] ns h = record { points = []; sum = refl; values = refl }
  used v [] (y ∷ ys) ns h = absurd h
  used v (x ∷ xs) [] ns h = absurd h
  used v (x ∷ xs) (y ∷ ys) [] h = record { points = []; sum = refl; values = refl }
  used v (x ∷ xs) (y ∷ ys) (n ∷ ns) h =
      let rest = used v xs ys ns h.1 in
      let these = copies n (number_of K x) in
      record {
        points = these ++ rest.points;
        sum = total-append K these rest.points
            ∙ ap₂ plus (total_copies n (number_of K x)) rest.sum;
        values = values-append K v these rest.points
            ∙ ap₂ plus (values_copies v n (number_of K x)
            ∙ ap (λ z. times z (number K n)) (sym h.0)) rest.values;
      }

  -- the continuous columns
  record Weighed (up down : R) (columns weights : List Frac) (amounts : List R) : Type 0 where
    list : List (Column K)
    sum : total_amount K list ≡ sum_of_products K columns amounts
    values : total_weight K up down list ≡ sum_of_products K weights amounts

  weighed : (up down : R) (cs ws : List Frac) (amounts : List R) → All (AtMost K o) amounts →
      AllZip (IsRealValue K (weight_of K up down)) cs ws → Weighed up down cs ws amounts
  weighed up down [] [] amounts low h = record { list = []; sum = refl; values = refl }
  weighed up down [] (w ∷ ws) amounts low h = absurd h
  weighed up down (c ∷ cs) [] amounts low h = absurd h
  weighed up down (c ∷ cs) (w ∷ ws) [] low h = record { list = []; sum = refl; values = refl }
  weighed up down (c ∷ cs) (w ∷ ws) (z ∷ amounts) low h =
      let rest = weighed up down cs ws amounts (All-tail (AtMost K o) z amounts low) h.1 in
      let column : Column K = record {
        entry = number_of K c;
        amount = z;
        nonnegative = All-head (AtMost K o) z amounts low;
      } in
      record {
        list = column ∷ rest.list;
        sum = ap (plus (times (number_of K c) z)) rest.sum;
        values = ap₂ plus (ap (λ s. times s z) (sym h.0)) rest.values;
      }

  -- the cut of a row whose right side is a whole number and f
  pub row_cut : (floors : HasFloor K) (v : R → R) (f up down : R) → HasRules K v f →
      HasSlopesAtZero K v up down →
      (entries columns : List Frac) (right : Frac) (coefficients weights : List Frac) (w : ℤ) →
      number_of K right ≡ plus (whole K w) f →
      AllZip (IsRealValue K v) entries coefficients →
      AllZip (IsRealValue K (weight_of K up down)) columns weights →
      RealCutHolds K entries columns right coefficients weights
  row_cut floors v f up down h slopes entries columns right coefficients weights w is at_entries
      at_columns basic others amounts solution =
      let row = used v entries coefficients others at_entries in
      let rest = weighed up down columns weights amounts solution.nonnegative at_columns in
      let x = sum_of_products K entries (map (number K) others) in
      let y = sum_of_products K columns amounts in
      let there : plus (total_of K row.points) (total_amount K rest.list)
      ≡ plus f (whole K (w +ℤ neg_ℤ basic)) =
      ap₂ plus row.sum rest.sum
      ∙ ring K (whole K basic ∷ x ∷ y ∷ []) (var 1 ⊕ var 2)
      (var 0 ⊕ (var 1 ⊕ var 2) ⊕ neg (var 0)) refl
      ∙ ap (λ z. plus z (negative (whole K basic))) (solution.solves ∙ is)
      ∙ ring K (whole K w ∷ f ∷ whole K basic ∷ []) (var 0 ⊕ var 1 ⊕ neg (var 2))
      (var 1 ⊕ (var 0 ⊕ neg (var 2))) refl
      ∙ ap (λ z. plus f (plus (whole K w) z)) (sym (whole_negative K basic))
      ∙ ap (plus f) (sym (whole_plus K w (neg_ℤ basic))) in
      subst₂ (λ s t. AtMost K e (plus s t)) row.values rest.values
      (mixed_cut K floors v f up down h slopes row.points rest.list
      (point_of_whole f (w +ℤ neg_ℤ basic) _ there))
