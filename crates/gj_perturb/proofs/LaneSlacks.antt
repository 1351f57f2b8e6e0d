-- The least positive slacks over lanes: what is one below a slack stands for it.
use Rattle.std.proofs.Common.{◌≡◌, ◌≢◌, ℕ, zero, suc, ◌⊎◌, inl, inr, ◌+◌, ◌-◌, ◌*◌, ◌%◌, ◌<◌, ◌≤◌, ◌^◌, min, max, List, [], ◌∷◌, All, refl, sym, subst, ◌∙◌, arith}
use Rattle.std.specs.List.{Contains}
use Rattle.std.proofs.lemmas.Bool.{cases_lt}
use Rattle.gj_lemmas.proofs.Lists.{All-three}
use Rattle.gj_perturb.specs.Lanes.{lane_slack, triangle, AreSubadditive, no_slack, IsAtCorner, IsBesideZero, AreLeast, IsLeastAt, IsInRow, IsInRows}

-- ---- the least of two choices of triangles

lesser_met : (M : ℕ → Type 0) (x y : ℕ) → (x ≡ no_slack) ⊎ M (x + 1) → (y ≡ no_slack) ⊎ M (y + 1) →
    (min x y ≡ no_slack) ⊎ M (min x y + 1)
lesser_met M x y first second =
    let P : ℕ → Type 0 = λ v. (v ≡ no_slack) ⊎ M (v + 1) in
    elim (cases_lt y x) [
      | inl less ↦ let is : min x y ≡ y = omega arith in subst P (sym is) second
      | inr high ↦ let is : min x y ≡ x = omega arith in subst P (sym is) first
    ]

lesser_low : (x y s : ℕ) → x < s → min x y < s
lesser_low x y s h = omega arith

other_low : (x y s : ℕ) → y < s → min x y < s
other_low x y s h = omega arith

pub together : (lanes : List ℕ) (n : ℕ) (Q R S : ℕ → ℕ → Type 0) (x y x' y' : ℕ) →
    ((a b : ℕ) → S a b → Q a b ⊎ R a b) →
    AreLeast lanes n Q x y → AreLeast lanes n R x' y' → AreLeast lanes n S (min x x') (min y y')
together lanes n Q R S x y x' y' split g h = record {
  any_met = lesser_met (IsAtCorner lanes n) x x' g.any_met h.any_met;
  beside_met = lesser_met (IsBesideZero lanes n) y y' g.beside_met h.beside_met;
  any_low = λ a b s. elim (split a b s) [
    | inl q ↦ λ k d below above. lesser_low x x' _ (g.any_low a b q k d below above)
    | inr r ↦ λ k d below above. other_low x x' _ (h.any_low a b r k d below above)
  ];
  beside_low = λ a b s tight. elim (split a b s) [
    | inl q ↦ λ k d below above. lesser_low y y' _ (g.beside_low a b q tight k d below above)
    | inr r ↦ λ k d below above. other_low y y' _ (h.beside_low a b r tight k d below above)
  ];
}

corners_together : (lanes : List ℕ) (n : ℕ) (Q R S : ℕ → ℕ → Type 0) (x x' : ℕ) →
    ((a b : ℕ) → S a b → Q a b ⊎ R a b) →
    IsLeastAt lanes n Q x → IsLeastAt lanes n R x' → IsLeastAt lanes n S (min x x')
corners_together lanes n Q R S x x' split g h = record {
  met = lesser_met (IsAtCorner lanes n) x x' g.met h.met;
  low = λ a b s. elim (split a b s) [
    | inl q ↦ λ above. lesser_low x x' _ (g.low a b q above)
    | inr r ↦ λ above. other_low x x' _ (h.low a b r above)
  ];
}

-- if no corner is chosen
pub no_corner : (lanes : List ℕ) (n : ℕ) (Q : ℕ → ℕ → Type 0) → ((a b : ℕ) → Q a b → ⊥) →
    IsLeastAt lanes n Q no_slack
no_corner lanes n Q none = record { met = inl refl; low = λ a b q. absurd (none a b q) }

-- if no triangle is chosen
pub nothing : (lanes : List ℕ) (n : ℕ) (Q : ℕ → ℕ → Type 0) → ((a b : ℕ) → Q a b → ⊥) →
    AreLeast lanes n Q no_slack no_slack
nothing lanes n Q none = record {
  any_met = inl refl;
  beside_met = inl refl;
  any_low = λ a b q. absurd (none a b q);
  beside_low = λ a b q. absurd (none a b q);
}

-- ---- one triangle

-- the lane that stands for a slack
pub record StandsFor (s x : ℕ) : Type 0 where
  pub none : s ≡ 0 → x ≡ no_slack
  pub some : 0 < s → s ≡ x + 1
  pub fits : x ≤ no_slack

pub stands_for : (s : ℕ) → s < 2 ^ 32 → StandsFor s ((s + (2 ^ 32 - 1)) % 2 ^ 32)
stands_for s small = record { none = λ e. omega arith; some = λ h. omega arith; fits = omega arith }

-- what the code computes of three lanes
pub record AreComputed (x y z least greatest chosen : ℕ) : Type 0 where
  pub least_is : least ≡ min (min x y) z
  pub greatest_is : greatest ≡ max (max x y) z
  pub none : greatest ≡ no_slack → chosen ≡ least
  pub some : greatest ≢ no_slack → chosen ≡ no_slack

least_of : (x y z : ℕ) → (min (min x y) z ≡ x) ⊎ ((min (min x y) z ≡ y) ⊎ (min (min x y) z ≡ z))
least_of x y z = elim (cases_lt y x) [
  | inl less ↦ elim (cases_lt z y)
      [ inl low ↦ inr (inr (omega arith)) | inr high ↦ inr (inl (omega arith)) ]
  | inr more ↦ elim (cases_lt z x)
      [ inl low ↦ inr (inr (omega arith)) | inr high ↦ inl (omega arith) ]
]

greatest_of : (x y z : ℕ) → (max (max x y) z ≡ x) ⊎ ((max (max x y) z ≡ y) ⊎ (max (max x y) z ≡ z))
greatest_of x y z = elim (cases_lt x y) [
  | inl less ↦ elim (cases_lt y z)
      [ inl low ↦ inr (inr (omega arith)) | inr high ↦ inr (inl (omega arith)) ]
  | inr more ↦ elim (cases_lt x z)
      [ inl low ↦ inr (inr (omega arith)) | inr high ↦ inl (omega arith) ]
]

-- a slack in the list that the lane stands for
met_by : (xs : List ℕ) (s x least : ℕ) → Contains xs s → StandsFor s x → least ≡ x →
    (least ≡ no_slack) ⊎ Contains xs (least + 1)
met_by xs zero x least here h e = let none = h.none refl in inl (omega arith)
met_by xs (suc s) x least here h e =
    let some : suc s ≡ x + 1 = h.some (omega arith) in
    inr (subst (Contains xs) (let same : suc s ≡ least + 1 = omega arith in same) here)

-- a lane that stands for none stands for the slack 0
tight_by : (xs : List ℕ) (s x : ℕ) → Contains xs s → StandsFor s x → s < 2 ^ 32 - 1 → x ≡ no_slack →
    Contains xs 0
tight_by xs zero x here h small e = here
tight_by xs (suc s) x here h small e = let some : suc s ≡ x + 1 = h.some (omega arith) in
    absurd (omega arith)

module _ (s t r x y z least greatest chosen : ℕ)
    (first : StandsFor s x) (second : StandsFor t y) (third : StandsFor r z)
    (s_small : s < 2 ^ 32 - 1) (t_small : t < 2 ^ 32 - 1) (r_small : r < 2 ^ 32 - 1)
    (h : AreComputed x y z least greatest chosen) where
  met : (least ≡ no_slack) ⊎ Contains (s ∷ t ∷ r ∷ []) (least + 1)
  met = elim (least_of x y z) [
    | inl e ↦ met_by (s ∷ t ∷ r ∷ []) s x least (0, omega arith, refl) first (h.least_is ∙ e)
    | inr other ↦ elim other [
      | inl e ↦ met_by (s ∷ t ∷ r ∷ []) t y least (1, omega arith, refl) second (h.least_is ∙ e)
      | inr e ↦ met_by (s ∷ t ∷ r ∷ []) r z least (2, omega arith, refl) third (h.least_is ∙ e)
    ]
  ]

  tight : greatest ≡ no_slack → Contains (s ∷ t ∷ r ∷ []) 0
  tight g = elim (greatest_of x y z) [
    | inl e ↦ tight_by (s ∷ t ∷ r ∷ []) s x (0, omega arith, refl) first s_small
        (sym e ∙ sym h.greatest_is ∙ g)
    | inr other ↦ elim other [
      | inl e ↦ tight_by (s ∷ t ∷ r ∷ []) t y (1, omega arith, refl) second t_small
          (sym e ∙ sym h.greatest_is ∙ g)
      | inr e ↦ tight_by (s ∷ t ∷ r ∷ []) r z (2, omega arith, refl) third r_small
          (sym e ∙ sym h.greatest_is ∙ g)
    ]
  ]

  low : All (λ v. 0 < v → least < v) (s ∷ t ∷ r ∷ [])
  low =
      let least_is = h.least_is in
      All-three (λ v. 0 < v → least < v) s t r (λ above. let e = first.some above in omega arith)
      (λ above. let e = second.some above in omega arith) (λ above. let e = third.some above in
      omega arith)

  -- if a slack is 0 the greatest lane is that of none
  greatest_none : Contains (s ∷ t ∷ r ∷ []) 0 → greatest ≡ no_slack
  greatest_none (zero, below, e) =
      let here = first.none e in
      let is = h.greatest_is in
      let y_fits = second.fits in
      let z_fits = third.fits in
      omega arith
  greatest_none (suc zero, below, e) =
      let here = second.none e in
      let is = h.greatest_is in
      let x_fits = first.fits in
      let z_fits = third.fits in
      omega arith
  greatest_none (suc (suc zero), below, e) =
      let here = third.none e in
      let is = h.greatest_is in
      let x_fits = first.fits in
      let y_fits = second.fits in
      omega arith
  greatest_none (suc (suc (suc k)), below, e) = absurd (omega arith)

  chosen_low : Contains (s ∷ t ∷ r ∷ []) 0 → All (λ v. 0 < v → chosen < v) (s ∷ t ∷ r ∷ [])
  chosen_low zero_in =
      let same : chosen ≡ least = h.none (greatest_none zero_in) in
      subst (λ (v : ℕ). All (λ w. 0 < w → v < w) (s ∷ t ∷ r ∷ [])) (sym same) low

  chosen_met : (chosen ≡ no_slack) ⊎ Contains (s ∷ t ∷ r ∷ []) 0
      × Contains (s ∷ t ∷ r ∷ []) (chosen + 1)
  chosen_met = elim (cases_lt greatest no_slack) [
    | inl less ↦ inl (h.some (λ e. omega arith))
    | inr high ↦
        let is = h.greatest_is in
        let x_fits = first.fits in
        let y_fits = second.fits in
        let z_fits = third.fits in
        let g : greatest ≡ no_slack = omega arith in
        let same : chosen ≡ least = h.none g in
        elim met [
          | inl none ↦ inl (same ∙ none)
          | inr here ↦ inr (
            tight g,
            subst (λ (v : ℕ). Contains (s ∷ t ∷ r ∷ []) (v + 1))
                (sym same) here,
          )
        ]
  ]

-- the one chosen square
abbrev pub IsSquare : ℕ → ℕ → ℕ → ℕ → Type 0
IsSquare i j a b = (a ≡ i) × (b ≡ j)

at_square : (P : ℕ → ℕ → Type 0) (i j a b : ℕ) → IsSquare i j a b → P i j → P a b
at_square P i j a b (e, g) p = subst (λ (k : ℕ). P k b) (sym e) (subst (P i) (sym g) p)

pub slack_small : (lanes : List ℕ) (n a b : ℕ) → AreSubadditive lanes n → a < 2 * n → b < 2 * n →
    lane_slack lanes a b < 2 ^ 32 - 1
slack_small lanes n a b h a_below b_below =
    let first = h.small a a_below in
    let second = h.small b b_below in
    omega arith

-- the lane that the code makes of a slack
abbrev pub lane_of : ℕ → ℕ
lane_of s = (s + (2 ^ 32 - 1)) % 2 ^ 32

pub one_triangle : (lanes : List ℕ) (n i j least greatest chosen : ℕ) → AreSubadditive lanes n →
    i < n → j < n →
    AreComputed (lane_of (lane_slack lanes i j)) (lane_of (lane_slack lanes (i + 1) j))
    (lane_of (lane_slack lanes i (j + 1)))
    least greatest chosen →
    AreLeast lanes n (IsSquare i j) least chosen
one_triangle lanes n i j least greatest chosen h i_below j_below d = record {
  any_met = elim (met s t r _ _ _ least greatest chosen first second third s_small t_small r_small
      d) [
        | inl none ↦ inl none
        | inr here ↦ inr (record {
          a = i;
          b = j;
          a_below = i_below;
          b_below = j_below;
          here =
              here;
        })
      ];
  beside_met = elim (chosen_met s t r _ _ _ least greatest chosen first second third s_small t_small
      r_small d) [
        | inl none ↦ inl none
        | inr both ↦
            inr (record {
              a = i;
              b = j;
              a_below = i_below;
              b_below = j_below;
              tight = both.0;
              here =
                  both.1;
            })
      ];
  any_low = λ a b e. at_square (λ a' b'. All (λ v. 0 < v → least < v) (triangle lanes a' b')) i j a
      b e
      (low s t r _ _ _ least greatest chosen first second third s_small t_small r_small d);
  beside_low = λ a b e. at_square
      (λ a' b'. Contains (triangle lanes a' b') 0 →
      All (λ v. 0 < v → chosen < v) (triangle lanes a' b')) i j a b e
      (chosen_low s t r _ _ _ least greatest chosen first second third s_small t_small r_small d);
}
  where
    s : ℕ
    s = lane_slack lanes i j

    t : ℕ
    t = lane_slack lanes (i + 1) j

    r : ℕ
    r = lane_slack lanes i (j + 1)

    s_small : lane_slack lanes i j < 2 ^ 32 - 1
    s_small = slack_small lanes n i j h (omega arith) (omega arith)

    t_small : lane_slack lanes (i + 1) j < 2 ^ 32 - 1
    t_small = slack_small lanes n (i + 1) j h (omega arith) (omega arith)

    r_small : lane_slack lanes i (j + 1) < 2 ^ 32 - 1
    r_small = slack_small lanes n i (j + 1) h (omega arith) (omega arith)

    first : StandsFor (lane_slack lanes i j) (lane_of (lane_slack lanes i j))
    first = stands_for s (let small = s_small in omega arith)

    second : StandsFor (lane_slack lanes (i + 1) j) (lane_of (lane_slack lanes (i + 1) j))
    second = stands_for t (let small = t_small in omega arith)

    third : StandsFor (lane_slack lanes i (j + 1)) (lane_of (lane_slack lanes i (j + 1)))
    third = stands_for r (let small = r_small in omega arith)

-- ---- one corner

pub one_corner : (lanes : List ℕ) (n i j : ℕ) → AreSubadditive lanes n → i < n → j < n →
    IsLeastAt lanes n (IsSquare i j) (lane_of (lane_slack lanes i j))
one_corner lanes n i j h i_below j_below =
    let s = lane_slack lanes i j in
    let small : s < 2 ^ 32 - 1 = slack_small lanes n i j h (omega arith) (omega arith) in
    let stands = stands_for s (omega arith) in
    record {
      met = elim (met_by (triangle lanes i j) s (lane_of s) (lane_of s)
          (0, omega arith, refl) stands refl) [
            | inl none ↦ inl none
            | inr here ↦ inr (record {
              a = i;
              b = j;
              a_below = i_below;
              b_below = j_below;
              here =
                  here;
            })
          ];
      low = λ a b e. at_square (λ a' b'. 0 < lane_slack lanes a' b' →
          lane_of s < lane_slack lanes a' b') i j a b e
          (λ above. let some = stands.some above in omega arith);
    }

-- ---- the loops

-- the last square of a row, and the last row
in_row : (i j a b : ℕ) → IsInRow i (j + 1) a b → IsInRow i j a b ⊎ IsSquare i j a b
in_row i j a b (e, from, below) = elim (cases_lt b j) [
  | inl less ↦ inl (e, from, less)
  | inr high ↦ inr (e, omega arith)
]

in_rows : (n i a b : ℕ) → IsInRows n (i + 1) a b → IsInRows n i a b ⊎ IsInRow i n a b
in_rows n i a b (low, from, below) = elim (cases_lt a i) [
  | inl less ↦ inl (less, from, below)
  | inr high ↦ inr (let e : a ≡ i = omega arith in (e, omega arith, below))
]

pub one_square_more : (lanes : List ℕ) (n i j x y x' y' : ℕ) → AreLeast lanes n (IsInRow i j) x y →
    AreLeast lanes n (IsSquare i j) x' y' →
    AreLeast lanes n (IsInRow i (j + 1)) (min x x') (min y y')
one_square_more lanes n i j x y x' y' =
    together lanes n (IsInRow i j) (IsSquare i j) (IsInRow i (j + 1)) x y x' y' (in_row i j)

pub no_row : (lanes : List ℕ) (n : ℕ) → AreLeast lanes n (IsInRows n 0) no_slack no_slack
no_row lanes n = nothing lanes n (IsInRows n 0) (λ a b (low, from, below). omega arith)

pub one_row_more : (lanes : List ℕ) (n i x y x' y' : ℕ) → AreLeast lanes n (IsInRows n i) x y →
    AreLeast lanes n (IsInRow i n) x' y' →
    AreLeast lanes n (IsInRows n (i + 1)) (min x x') (min y y')
one_row_more lanes n i x y x' y' =
    together lanes n (IsInRows n i) (IsInRow i n) (IsInRows n (i + 1)) x y x' y' (in_rows n i)

pub one_corner_more : (lanes : List ℕ) (n i j x x' : ℕ) → IsLeastAt lanes n (IsInRow i j) x →
    IsLeastAt lanes n (IsSquare i j) x' →
    IsLeastAt lanes n (IsInRow i (j + 1)) (min x x')
one_corner_more lanes n i j x x' =
    corners_together lanes n (IsInRow i j) (IsSquare i j) (IsInRow i (j + 1)) x x' (in_row i j)

pub one_row_of_corners_more : (lanes : List ℕ) (n i x x' : ℕ) → IsLeastAt lanes n (IsInRows n i) x →
    IsLeastAt lanes n (IsInRow i n) x' →
    IsLeastAt lanes n (IsInRows n (i + 1)) (min x x')
one_row_of_corners_more lanes n i x x' =
    corners_together lanes n (IsInRows n i) (IsInRow i n) (IsInRows n (i + 1)) x x' (in_rows n i)
