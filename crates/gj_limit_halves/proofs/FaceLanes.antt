-- The least positive limits of one face, from the lanes that stand for its limits.
use Rattle.std.proofs.Common.{◌≡◌, ◌≢◌, ℕ, zero, suc, ◌⊎◌, inl, inr, ◌+◌, ◌≤◌, min, max, ℤ, pos, ◌<ℤ◌, ◌≤ℤ◌, List, [], ◌∷◌, All, refl, sym, subst, ◌∙◌, arith}
use Rattle.std.specs.List.{Contains}
use Rattle.std.proofs.lemmas.Bool.{cases_lt}
use Rattle.std.proofs.lemmas.Int.{ints}
use Rattle.std.proofs.lemmas.List.Elements.{All-nil, All-cons}
use Rattle.gj_limit_halves.specs.LimitLanes.{StandsFor, AreLeastIn, no_lane}

-- the least and the greatest of the lanes that stand for limits
pub record AreExtremes (limits : List ℤ) (least greatest : ℕ) : Type 0 where
  pub met : (least ≡ no_lane) ⊎ Contains limits (pos (least + 1))
  pub low : All (λ s. pos 0 <ℤ s → pos least <ℤ s) limits
  pub none : Contains limits (pos 0) → greatest ≡ no_lane
  pub tight : greatest ≡ no_lane → Contains limits (pos 0)
  pub fits : least ≤ no_lane
  pub most : greatest ≤ no_lane

pub of_none : AreExtremes [] no_lane 0
of_none = record {
  met = inl refl;
  low = All-nil _;
  none = λ (k, below, e). absurd (omega (arith, below));
  tight = λ e. absurd (omega (arith, e));
  fits = omega arith;
  most = omega arith;
}

later : (limits : List ℤ) (s x : ℤ) → Contains limits x → Contains (s ∷ limits) x
later limits s x (k, below, e) = (suc k, omega (arith, below), e)

here : (limits : List ℤ) (s x : ℤ) → s ≡ x → Contains (s ∷ limits) x
here limits s x e = (0, omega arith, e)

sign_cases : (s : ℤ) → pos 0 ≤ℤ s → (s ≡ pos 0) ⊎ (pos 0 <ℤ s)
sign_cases (pos zero) h = inl refl
sign_cases (pos (suc n)) h = inr (omega (arith, ints))
sign_cases s h = absurd (omega (arith, ints, h))

-- one limit more
module _ (limits : List ℤ) (s : ℤ) (x least greatest : ℕ) (h : StandsFor s x)
    (d : AreExtremes limits least greatest) where
  met_more : (min x least ≡ no_lane) ⊎ Contains (s ∷ limits) (pos (min x least + 1))
  met_more = elim (cases_lt x least) [
    | inl less ↦ elim (sign_cases s h.sign) [
      | inl zero_is ↦
          let none = h.none zero_is in
          let fits = d.fits in
          absurd (omega (arith, none, less, fits))
      | inr positive ↦
          let some = h.some positive in
          let same : min x least ≡ x = omega (arith, less) in
          inr (here limits s (pos (min x least + 1)) (subst (λ n. s ≡ pos (n + 1)) (sym same) some))
    ]
    | inr high ↦
        let same : min x least ≡ least = omega (arith, high) in
        elim d.met [
          | inl none ↦ inl (same ∙ none)
          | inr found ↦
              inr (later limits s (pos (min x least + 1))
              (subst (λ n. Contains limits (pos (n + 1))) (sym same) found))
        ]
  ]

  low_more : All (λ s'. pos 0 <ℤ s' → pos (min x least) <ℤ s') (s ∷ limits)
  low_more =
      All-cons (λ s'. pos 0 <ℤ s' → pos (min x least) <ℤ s') s limits
      (λ positive. let some = h.some positive in omega (arith, ints, some))
      (λ k e below positive. let less = d.low k e below positive in omega (arith, ints, less))

  none_more : Contains (s ∷ limits) (pos 0) → max x greatest ≡ no_lane
  none_more (zero, below, e) =
      let none = h.none e in
      let most = d.most in
      omega (arith, none, most)
  none_more (suc k, below, e) =
      let none = d.none (k, omega (arith, below), e) in
      let fits = h.fits in
      omega (arith, none, fits)

  tight_more : max x greatest ≡ no_lane → Contains (s ∷ limits) (pos 0)
  tight_more is = elim (cases_lt x greatest) [
    | inl less ↦
        later limits s (pos 0)
        (d.tight (let same : max x greatest ≡ greatest = omega (arith, less) in sym same ∙ is))
    | inr high ↦ elim (sign_cases s h.sign) [
      | inl zero_is ↦ here limits s (pos 0) zero_is
      | inr positive ↦
          let small = h.small positive in
          absurd (omega (arith, is, high, small))
    ]
  ]

  pub one_more : AreExtremes (s ∷ limits) (min x least) (max x greatest)
  one_more =
      let fits = d.fits in
      let most = d.most in
      let lane_fits = h.fits in
      record {
        met = met_more;
        low = low_more;
        none = none_more;
        tight = tight_more;
        fits = omega (arith, fits);
        most = omega (arith, most, lane_fits);
      }

-- the lane that is chosen beside a limit 0
pub are_least : (limits : List ℤ) (least greatest chosen : ℕ) → AreExtremes limits least greatest →
    (greatest ≡ no_lane → chosen ≡ least) → (greatest ≢ no_lane → chosen ≡ no_lane) →
    AreLeastIn limits least chosen
are_least limits least greatest chosen d none some = record {
  any_met = d.met;
  beside_met = elim (cases_lt greatest no_lane) [
    | inl less ↦ inl (some (λ e. absurd (omega (arith, less, e))))
    | inr high ↦
        let most = d.most in
        let is : greatest ≡ no_lane = omega (arith, high, most) in
        let same = none is in
        elim d.met [
          | inl nothing ↦ inl (same ∙ nothing)
          | inr found ↦ inr (
            d.tight is,
            subst (λ n. Contains limits (pos (n + 1)))
                (sym same) found,
          )
        ]
  ];
  any_low = d.low;
  beside_low = λ zero_in.
      let same = none (d.none zero_in) in
      subst (λ (n : ℕ). All (λ s. pos 0 <ℤ s → pos n <ℤ s) limits) (sym same) d.low;
}

-- with other spellings of the least and the greatest
spelled : (limits : List ℤ) (l g l' g' : ℕ) → l ≡ l' → g ≡ g' → AreExtremes limits l g →
    AreExtremes limits l' g'
spelled limits l g l' g' e h d =
    subst (λ n. AreExtremes limits n g') e (subst (AreExtremes limits l) h d)

pub of_two : (s t : ℤ) (x y chosen : ℕ) → (max x y ≡ no_lane → chosen ≡ min x y) →
    (max x y ≢ no_lane → chosen ≡ no_lane) → StandsFor s x → StandsFor t y →
    AreLeastIn (s ∷ t ∷ []) (min x y) chosen
of_two s t x y chosen none some first second =
    let fits = second.fits in
    let all = one_more (t ∷ []) s x (min y no_lane) (max y 0) first
    (one_more [] t y no_lane 0 second of_none) in
    are_least (s ∷ t ∷ []) (min x y) (max x y) chosen
    (spelled (s ∷ t ∷ []) (min x (min y no_lane)) (max x (max y 0)) (min x y) (max x y)
    (omega (arith, fits))
    (omega arith) all)
    none some

pub of_three : (s t r : ℤ) (x y z chosen : ℕ) →
    (max (max x y) z ≡ no_lane → chosen ≡ min (min x y) z) →
    (max (max x y) z ≢ no_lane → chosen ≡ no_lane) → StandsFor s x → StandsFor t y → StandsFor r z →
    AreLeastIn (s ∷ t ∷ r ∷ []) (min (min x y) z) chosen
of_three s t r x y z chosen none some first second third =
    let fits = third.fits in
    let last = one_more [] r z no_lane 0 third of_none in
    let all = one_more (t ∷ r ∷ []) s x (min y (min z no_lane)) (max y (max z 0)) first
    (one_more (r ∷ []) t y (min z no_lane) (max z 0) second last) in
    are_least (s ∷ t ∷ r ∷ []) (min (min x y) z) (max (max x y) z) chosen
    (spelled (s ∷ t ∷ r ∷ []) (min x (min y (min z no_lane))) (max x (max y (max z 0)))
    (min (min x y) z)
    (max (max x y) z) (omega (arith, fits)) (omega arith) all)
    none some

-- of one limit there is none beside 0
pub of_one : (s : ℤ) (x : ℕ) → StandsFor s x → AreLeastIn (s ∷ []) x no_lane
of_one s x h =
    let fits = h.fits in
    let all = spelled (s ∷ []) (min x no_lane) (max x 0) x x (omega (arith, fits)) (omega arith)
    (one_more [] s x no_lane 0 h of_none) in
    record {
      any_met = all.met;
      beside_met = inl refl;
      any_low = all.low;
      beside_low = λ zero_in.
          let is = all.none zero_in in
          subst (λ (n : ℕ). All (λ v. pos 0 <ℤ v → pos n <ℤ v) (s ∷ [])) is all.low;
    }
