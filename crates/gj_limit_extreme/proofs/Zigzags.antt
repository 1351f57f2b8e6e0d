-- The zigzag of the class of the least uncovered interval is a perturbation, and not 0.
use Rattle.std.proofs.Common.{◌≡◌, ◌≢◌, ℕ, zero, suc, inl, ◌+◌, ◌*◌, ◌%◌, ◌<◌, ◌≤◌, ◌==◌, Bool, true, false, ℤ, pos, List, [], ◌∷◌, get_or, refl, sym, ap, subst, ◌∙◌, arith}
use Rattle.std.specs.Prelude.{All, Contains}
use Rattle.std.specs.List.{list_any}
use Rattle.std.proofs.Math.Nat.{mod-lt, mod-eq_of_lt, add-mod_right}
use Rattle.std.proofs.lemmas.Int.{ints}
use Rattle.std.proofs.lemmas.List.Elements.{All-contains_itself}
use Rattle.gj_lemmas.proofs.Choices.{same_tests, never_true}
use Rattle.gj_shape.specs.FirstViolation.{IsLeastFrom}
use Rattle.gj_shape.specs.FunctionData.{FunctionData, IsWithinBounds}
use Rattle.gj_shape.specs.Table.{IsMinimal}
use Rattle.gj_shape.specs.declared.faces.FaceKind.TheVariants.{Lower, Upper}
use Rattle.gj_jumps.specs.LimitCover.{IsTightAt, Links, IsApartFromTriangles}
use Rattle.gj_limit_averages.specs.Moved.{HasSome}
use Rattle.gj_limit_averages.proofs.FromAverages.{zigzag_there}
use Rattle.gj_limit_cover.specs.CoverOf.{IsLeastClass}
use Rattle.gj_limit_cover.specs.LimitCover.{AreJoined, LeadsTo, here, onward, IsDirectlyCovered, IsCovered}
use Rattle.gj_limit_cover.proofs.Ends.{joined_rests}
use Rattle.gj_limit_cover.proofs.Joining.{joined_turned, leads_on, leads_turned, covered_directly, directly_same}
use Rattle.gj_limit_grids.specs.Grids.{IsLimitPerturbation, zigzag_of}
use Rattle.gj_limit_grids.proofs.Zigzag.{zigzag_perturbs}
use Rattle.gj_limit_proof.proofs.CoveredFaces.{joined_by}
use Rattle.gj_extreme.proofs.DecidedHalves.{less_stable, contains_stable, not_not_all, first_of_class}
use Rattle.gj_extreme.proofs.OneDecision.{contains_from_test, test_from_contains}
use Rattle.gj_limit_extreme.specs.Decision.{class_zigzag}

-- ---- the least uncovered interval

abbrev pub IsLeastUncovered : FunctionData → ℕ → Type 0
IsLeastUncovered f least =
    IsLeastFrom 0 (λ i. (i < f.order) × (IsCovered f.order (IsTightAt f) i → ⊥)) least

-- if none is the least that is uncovered, each is not not covered
none_uncovered : (f : FunctionData) → ((least : ℕ) → IsLeastUncovered f least → ⊥) → (n i : ℕ) →
    i < n → i < f.order →
    (IsCovered f.order (IsTightAt f) i → ⊥) → ⊥
none_uncovered f none zero i low within out = absurd (omega arith)
none_uncovered f none (suc n) i low within out =
    none i record {
      from = omega arith;
      holds = (within, out);
      least = λ k from before both. none_uncovered f none n k (omega arith) both.0 both.1;
    }

module _ (f : FunctionData) (class : List ℕ) (h : IsLeastClass f.order (IsTightAt f) class)
    (some : class ≢ []) where
  -- there is one
  pub some_least : ((least : ℕ) → IsLeastUncovered f least → ⊥) → ⊥
  some_least none =
      not_not_all (IsCovered f.order (IsTightAt f)) f.order
      (λ i low. none_uncovered f none (suc i) i (omega arith) low)
      (λ all. some (h.none.1 all))

  abbrev chosen : ℕ → Bool
  chosen i = list_any (λ a. a == i % f.order) class

  -- ---- its class

  module _ (order_some : 0 < f.order) where
    -- what is joined to an interval of the class is one
    class_on : (i j : ℕ) → AreJoined f.order (IsTightAt f) i j → Contains class (i % f.order) →
        Contains class (j % f.order)
    class_on i j joined has =
        contains_stable class (j % f.order)
        (λ no. some_least (λ least is.
        let leads = ((h.members least is (i % f.order)).0 has).1 in
        no ((h.members least is (j % f.order)).1 (
          mod-lt j order_some,
          leads_on f.order (IsTightAt f) (j % f.order) (i % f.order) least leads
              (onward (i % f.order) (j % f.order) (joined_rests f.order (IsTightAt f) i j joined)
              (here (j % f.order) refl)),
        ))))

    chosen_on : (i j : ℕ) → AreJoined f.order (IsTightAt f) i j → chosen i ≡ true → chosen j ≡ true
    chosen_on i j joined e =
        test_from_contains class (j % f.order)
        (class_on i j joined (contains_from_test class (i % f.order) e))

    -- no triangle with slack 0 projects on one
    not_direct : (i : ℕ) → IsDirectlyCovered f.order (IsTightAt f) i → chosen i ≡ false
    not_direct i direct =
        never_true (chosen i) (λ e.
        some_least (λ least is.
        let leads = ((h.members least is (i % f.order)).0
        (contains_from_test class (i % f.order) e)).1 in
        is.holds.1 (
          i % f.order,
          directly_same f.order (IsTightAt f) i (i % f.order) (sym (rest_of_rest i)) direct,
          leads_turned f.order (IsTightAt f) (i % f.order) least leads,
        )))
      where
        rest_of_rest : (n : ℕ) → n % f.order % f.order ≡ n % f.order
        rest_of_rest n = mod-eq_of_lt (mod-lt n order_some)

    -- no link leaves it
    apart : IsApartFromTriangles f chosen
    apart = record {
      has_period = λ i. ap (λ n. list_any (λ a. a == n) class) (add-mod_right i f.order);
      linked = λ i j links.
          let joined = joined_by f i j links in
          same_tests (chosen i) (chosen j) (chosen_on i j joined)
          (chosen_on j i (joined_turned f.order (IsTightAt f) i j joined));
      lower_free = λ a b x y z. not_direct a (Lower, a, b, ((x, y, z), inl refl));
      upper_free = λ a b x y z. not_direct a (Upper, a, b, ((x, y, z), inl refl));
    }

  pub zigzag_is_perturbation : IsWithinBounds f → IsMinimal f →
      IsLimitPerturbation f 4 (class_zigzag f class)
  zigzag_is_perturbation bounds minimal =
      let low : 2 ≤ f.order = bounds.order_low in
      zigzag_perturbs f chosen minimal (apart (omega arith))

  -- its intervals are below the order
  pub class_within : All (λ a. a < f.order) class
  class_within k d low =
      less_stable (get_or class k d) f.order
      (λ no. some_least (λ least is. no
      ((h.members least is (get_or class k d)).0 (All-contains_itself class k d low)).0))

  pub zigzag_some : HasSome (class_zigzag f class)
  zigzag_some =
      let first = first_of_class class some in
      let a = first.0 in
      let within : a < f.order =
      less_stable a f.order
      (λ no. some_least (λ least is. no ((h.members least is a).0 first.1).0)) in
      let is_chosen : chosen a ≡ true =
      test_from_contains class (a % f.order)
      (subst (Contains class) (sym (mod-eq_of_lt within)) first.1) in
      let one : zigzag_of chosen (a * 4 + 1) ≡ pos 1 = zigzag_there chosen a is_chosen in
      (a * 4 + 1, inl (λ none. let flat : pos 1 ≡ pos 0 = sym one ∙ none in omega (arith, ints)))
