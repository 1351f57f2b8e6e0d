-- The zigzag of intervals that no link leaves has the slack 0 at each limit on the grid of order
-- 4 q at which the function's slack is 0.
use Rattle.std.proofs.Common.{◌≡◌, ℕ, zero, suc, inl, inr, ◌+◌, ◌*◌, ◌<◌, ◌≤◌, ◌==◌, if◌then◌else◌, Bool, true, false, ℤ, pos, negsuc, ◌+ℤ◌, ◌≤ℤ◌, List, [], ◌∷◌, length, get_or, All, refl, sym, ap, ap₂, subst, ◌∙◌, arith}
use Rattle.std.proofs.lemmas.Bool.{cases_lt}
use Rattle.std.proofs.lemmas.Int.{ints}
use Rattle.std.proofs.lemmas.List.Elements.{All-head, All-tail}
use Rattle.gj_lemmas.proofs.Integers.{mul_nonnegative_z, zero_factor_z}
use Rattle.gj_lemmas.proofs.Quotients.{parts_of_place}
use Rattle.gj_shape.specs.Faces.{corners_of, limits_of, slack_from}
use Rattle.gj_shape.specs.FunctionData.{FunctionData}
use Rattle.gj_shape.specs.Table.{IsMinimal}
use Rattle.gj_shape.specs.declared.faces.FaceKind.{FaceKind}
use Rattle.gj_shape.specs.declared.faces.FaceKind.TheVariants.{Horizontal, Vertical, Diagonal, Lower, Upper}
use Rattle.gj_shape.proofs.TableLemmas.{period_of_parts}
use Rattle.gj_theory.proofs.Affine.{weighted, limit_count}
use Rattle.gj_theory.proofs.CornerSlacks.{sum_nonnegative}
use Rattle.gj_jumps.specs.LimitCover.{IsTightAt, IsApartFromTriangles}
use Rattle.gj_jumps.specs.LimitCover.Links.{horizontal as horizontal_edge, vertical as vertical_edge, diagonal as diagonal_edge, lower_horizontal, lower_vertical, lower_diagonal, upper_horizontal, upper_vertical, upper_diagonal}
use Rattle.gj_jumps.specs.LimitSystem.{Limits}
use Rattle.gj_limit_grids.specs.Grids.{IsLimitPerturbation, limits_on, zigzag_of, zigzag_limits}
use Rattle.gj_limit_grids.proofs.Bounds.{limits_low}
use Rattle.gj_limit_grids.proofs.FaceWeights.{IsFromFace, IsLimit, limit_at}
use Rattle.gj_limit_grids.proofs.FaceWeights.IsFromFace.{vertex, horizontal, vertical, diagonal, lower, upper}
use Rattle.gj_limit_grids.proofs.FaceWeights.IsLimit.{at_point, beyond}

-- ---- the zigzag on a closed interval

-- r quarters after the start of an interval, by whether it is chosen
abbrev bump : Bool → ℕ → ℤ
bump b r = if b then (if r == 1 then pos 1 else if r == 3 then negsuc 0 else pos 0) else pos 0

none_at_start : (b : Bool) → bump b 0 ≡ pos 0
none_at_start true = refl
none_at_start false = refl

none_at_end : (b : Bool) (r : ℕ) → r ≡ 4 → bump b r ≡ pos 0
none_at_end true r e = ap (bump true) e
none_at_end false r e = refl

zigzag_on : (chosen : ℕ → Bool) (i a r : ℕ) → i ≡ a * 4 + r → r ≤ 4 →
    zigzag_of chosen i ≡ bump (chosen a) r
zigzag_on chosen i a r e within = elim (cases_lt r 4) [
  | inl below ↦
      let parts = parts_of_place i a 4 r e below in
      ap₂ (λ k s. bump (chosen k) s) parts.0 parts.1
  | inr full ↦
      let parts = parts_of_place i (a + 1) 4 0 (omega arith) (omega arith) in
      ap₂ (λ k s. bump (chosen k) s) parts.0 parts.1 ∙ none_at_start (chosen (a + 1))
      ∙ sym (none_at_end (chosen a) r (omega arith))
]

-- at two intervals that are the same inside
same_bump : (b c : Bool) (u r : ℕ) → u + r ≡ 4 → (0 < u → 0 < r → b ≡ c) → bump b r ≡ bump c r
same_bump b c u zero whole same = none_at_start b ∙ sym (none_at_start c)
same_bump b c zero (suc r) whole same =
    let end : suc r ≡ 4 = omega arith in none_at_end b (suc r) end ∙ sym (none_at_end c (suc r) end)
same_bump b c (suc u) (suc r) whole same =
    ap (λ d. bump d (suc r)) (same (omega arith) (omega arith))

mirrored_at : (r s n : ℕ) → s ≡ n → bump true r +ℤ bump true n ≡ pos 0 →
    bump true r +ℤ bump true s ≡ pos 0
mirrored_at r s n e sum = ap (λ k. bump true r +ℤ bump true k) e ∙ sum

mirrored : (b : Bool) (r s : ℕ) → r + s ≡ 4 → bump b r +ℤ bump b s ≡ pos 0
mirrored false r s whole = refl
mirrored true zero s whole = mirrored_at 0 s 4 (omega arith) refl
mirrored true (suc zero) s whole = mirrored_at 1 s 3 (omega arith) refl
mirrored true (suc (suc zero)) s whole = mirrored_at 2 s 2 (omega arith) refl
mirrored true (suc (suc (suc zero))) s whole = mirrored_at 3 s 1 (omega arith) refl
mirrored true (suc (suc (suc (suc zero)))) s whole = mirrored_at 4 s 0 (omega arith) refl
mirrored true (suc (suc (suc (suc (suc r))))) s whole = absurd (omega arith)

opposite_bump : (b c : Bool) (r s : ℕ) → r + s ≡ 4 → (0 < r → 0 < s → b ≡ c) →
    bump b r +ℤ bump c s ≡ pos 0
opposite_bump b c r s whole same =
    ap (λ z. bump b r +ℤ z) (sym (same_bump b c r s whole same)) ∙ mirrored b r s whole

-- ---- limits with a weight

-- numbers that are not negative are 0 where they have a weight, if their sum is 0
zero_term : (ws : List ℕ) (xs : List ℤ) (c : ℕ) → All (λ x. pos 0 ≤ℤ x) xs →
    weighted ws xs ≡ pos 0 → c < length xs → 0 < get_or ws c 0 → get_or xs c (pos 1) ≡ pos 0
zero_term [] xs c low e below some = absurd (omega arith)
zero_term (w ∷ ws) [] c low e below some = absurd (omega arith)
zero_term (w ∷ ws) (x ∷ xs) zero low e below some =
    let P = λ (y : ℤ). pos 0 ≤ℤ y in
    let first = mul_nonnegative_z (pos w) x (omega (arith, ints)) (All-head P x xs low) in
    let rest = sum_nonnegative ws xs (All-tail P x xs low) in
    zero_factor_z w x some (omega (arith, ints))
zero_term (w ∷ ws) (x ∷ xs) (suc c) low e below some =
    let P = λ (y : ℤ). pos 0 ≤ℤ y in
    let first = mul_nonnegative_z (pos w) x (omega (arith, ints)) (All-head P x xs low) in
    let rest = sum_nonnegative ws xs (All-tail P x xs low) in
    zero_term ws xs c (All-tail P x xs low) (omega (arith, ints)) (omega arith) some

-- ---- the slack of the zigzag

no_slack : (x y z x' y' z' : ℤ) → x ≡ x' → y ≡ y' → z ≡ z' → x' +ℤ y' ≡ z' →
    slack_from x y z ≡ pos 0
no_slack x y z x' y' z' e g h sum = omega (arith, ints)

zero_sum : (x y z : ℤ) → x ≡ pos 0 → y ≡ pos 0 → z ≡ pos 0 → x +ℤ y ≡ z
zero_sum x y z e g h = omega (arith, ints)

first_zero : (x y z : ℤ) → x ≡ pos 0 → y ≡ z → x +ℤ y ≡ z
first_zero x y z e g = omega (arith, ints)

second_zero : (x y z : ℤ) → y ≡ pos 0 → x ≡ z → x +ℤ y ≡ z
second_zero x y z e g = omega (arith, ints)

not_chosen : (b : Bool) (r : ℕ) → b ≡ false → bump b r ≡ pos 0
not_chosen b r e = ap (λ c. bump c r) e

module _ (f : FunctionData) (chosen : ℕ → Bool) (minimal : IsMinimal f)
    (h : IsApartFromTriangles f chosen) where
  abbrev z : ℕ → ℤ
  z = zigzag_of chosen

  abbrev HasNoSlack : ℕ → ℕ → Type 0
  HasNoSlack x y = slack_from (z x) (z y) (z (x + y)) ≡ pos 0

  at_parts : (x y a r b s c t : ℕ) → (x ≡ a * 4 + r) × (y ≡ b * 4 + s) × (x + y ≡ c * 4 + t) →
      (r ≤ 4) × (s ≤ 4) × (t ≤ 4) →
      bump (chosen a) r +ℤ bump (chosen b) s ≡ bump (chosen c) t → HasNoSlack x y
  at_parts x y a r b s c t places within =
      no_slack (z x) (z y) (z (x + y)) _ _ _ (zigzag_on chosen x a r places.0 within.0)
      (zigzag_on chosen y b s places.1 within.1) (zigzag_on chosen (x + y) c t places.2 within.2)

  tight : (kind : FaceKind) (a b c : ℕ) (ws : List ℕ) → weighted ws (limits_of f kind a b) ≡ pos 0 →
      c < length (corners_of kind a b) → 0 < get_or ws c 0 → IsTightAt f kind a b c
  tight kind a b c ws e below =
      zero_term ws (limits_of f kind a b) c (limits_low f minimal kind a b) e
      (subst (λ n. c < n) (sym (limit_count f kind a b)) below)

  -- a corner of a triangle, if it has a weight
  abbrev TightIf : FaceKind → ℕ → ℕ → ℕ → ℕ → Type 0
  TightIf kind a b c w = 0 < w → IsTightAt f kind a b c

  lower_sum : (a b w r s t : ℕ) → w + r + s ≡ 4 → t ≡ r + s → TightIf Lower a b 0 w →
      TightIf Lower a b 1 r → TightIf Lower a b 2 s →
      bump (chosen a) r +ℤ bump (chosen b) s ≡ bump (chosen (a + b)) t
  lower_sum a b zero r s t whole sum first second third =
      opposite_bump (chosen a) (chosen b) r s (omega arith)
      (λ p q. h.linked a b (lower_diagonal a b (second p) (third q)))
      ∙ sym (none_at_end (chosen (a + b)) t (omega arith))
  lower_sum a b (suc w) zero s t whole sum first second third =
      let all : s ≡ t = omega arith in
      first_zero _ _ _ (none_at_start (chosen a))
      (same_bump (chosen b) (chosen (a + b)) (suc w) s (omega arith)
      (λ p q. h.linked b (a + b) (lower_vertical a b (first p) (third q)))
      ∙ ap (bump (chosen (a + b))) all)
  lower_sum a b (suc w) (suc r) zero t whole sum first second third =
      let all : suc r ≡ t = omega arith in
      second_zero _ _ _ (none_at_start (chosen b))
      (same_bump (chosen a) (chosen (a + b)) (suc w) (suc r) (omega arith)
      (λ p q. h.linked a (a + b) (lower_horizontal a b (first p) (second q)))
      ∙ ap (bump (chosen (a + b))) all)
  lower_sum a b (suc w) (suc r) (suc s) t whole sum first second third =
      let c0 = first (omega arith) in
      let c1 = second (omega arith) in
      let c2 = third (omega arith) in
      let none = h.lower_free a b c0 c1 c2 in
      zero_sum _ _ _ (not_chosen (chosen a) (suc r) none)
      (not_chosen (chosen b) (suc s) (sym (h.linked a b (lower_diagonal a b c1 c2)) ∙ none))
      (not_chosen (chosen (a + b)) t (sym (h.linked a (a + b) (lower_horizontal a b c0 c1)) ∙ none))

  upper_sum : (a b u v w r s : ℕ) → u + v + w ≡ 4 → r ≡ u + w → s ≡ v + w → TightIf Upper a b 0 u →
      TightIf Upper a b 1 v → TightIf Upper a b 2 w →
      bump (chosen a) r +ℤ bump (chosen b) s ≡ bump (chosen (a + b + 1)) w
  upper_sum a b zero v w r s whole r_is s_is first second third =
      let all : r ≡ w = omega arith in
      second_zero _ _ _ (none_at_end (chosen b) s (omega arith))
      (ap (bump (chosen a)) all
      ∙ same_bump (chosen a) (chosen (a + b + 1)) v w (omega arith)
      (λ p q. h.linked a (a + b + 1) (upper_horizontal a b (second p) (third q))))
  upper_sum a b (suc u) zero w r s whole r_is s_is first second third =
      let all : s ≡ w = omega arith in
      first_zero _ _ _ (none_at_end (chosen a) r (omega arith))
      (ap (bump (chosen b)) all
      ∙ same_bump (chosen b) (chosen (a + b + 1)) (suc u) w (omega arith)
      (λ p q. h.linked b (a + b + 1) (upper_vertical a b (first p) (third q))))
  upper_sum a b (suc u) (suc v) zero r s whole r_is s_is first second third =
      let r_all : r ≡ suc u = omega arith in
      let s_all : s ≡ suc v = omega arith in
      ap₂ (λ m n. bump (chosen a) m +ℤ bump (chosen b) n) r_all s_all
      ∙ opposite_bump (chosen a) (chosen b) (suc u) (suc v) (omega arith)
      (λ p q. h.linked a b (upper_diagonal a b (first p) (second q)))
      ∙ sym (none_at_start (chosen (a + b + 1)))
  upper_sum a b (suc u) (suc v) (suc w) r s whole r_is s_is first second third =
      let c0 = first (omega arith) in
      let c1 = second (omega arith) in
      let c2 = third (omega arith) in
      let none = h.upper_free a b c0 c1 c2 in
      zero_sum _ _ _ (not_chosen (chosen a) r none)
      (not_chosen (chosen b) s (sym (h.linked a b (upper_diagonal a b c0 c1)) ∙ none))
      (not_chosen (chosen (a + b + 1)) (suc w)
      (sym (h.linked a (a + b + 1) (upper_horizontal a b c1 c2)) ∙ none))

  on_face : (x y : ℕ) (limit : ℤ) → IsFromFace f 4 x y limit → limit ≡ pos 0 → HasNoSlack x y
  on_face x y limit (vertex a b e g is) none =
      at_parts x y a 0 b 0 (a + b) 0 (omega arith, omega arith, omega arith)
      (omega arith, omega arith, omega arith)
      (zero_sum _ _ _ (none_at_start (chosen a)) (none_at_start (chosen b))
      (none_at_start (chosen (a + b))))
  on_face x y limit (horizontal a b u r whole e g is) none =
      let at = λ (c : ℕ). tight Horizontal a b c (u ∷ r ∷ []) (sym is ∙ none) in
      at_parts x y a r b 0 (a + b) r (e, omega arith, omega arith)
      (omega arith, omega arith, omega arith)
      (second_zero _ _ _ (none_at_start (chosen b))
      (same_bump (chosen a) (chosen (a + b)) u r whole (λ p q. h.linked a (a + b)
      (horizontal_edge a b (at 0 (omega arith) p) (at 1 (omega arith) q)))))
  on_face x y limit (vertical a b v s whole e g is) none =
      let at = λ (c : ℕ). tight Vertical a b c (v ∷ s ∷ []) (sym is ∙ none) in
      at_parts x y a 0 b s (a + b) s (omega arith, g, omega arith)
      (omega arith, omega arith, omega arith)
      (first_zero _ _ _ (none_at_start (chosen a))
      (same_bump (chosen b) (chosen (a + b)) v s whole (λ p q. h.linked b (a + b)
      (vertical_edge a b (at 0 (omega arith) p) (at 1 (omega arith) q)))))
  on_face x y limit (diagonal a b r s whole e g is) none =
      let at = λ (c : ℕ). tight Diagonal a b c (r ∷ s ∷ []) (sym is ∙ none) in
      at_parts x y a r b s (a + b + 1) 0 (e, g, omega arith) (omega arith, omega arith, omega arith)
      (opposite_bump (chosen a) (chosen b) r s whole (λ p q. h.linked a b
      (diagonal_edge a b (at 0 (omega arith) p) (at 1 (omega arith) q)))
      ∙ sym (none_at_start (chosen (a + b + 1))))
  on_face x y limit (lower a b w r s whole e g is) none =
      let at = λ (c : ℕ). tight Lower a b c (w ∷ r ∷ s ∷ []) (sym is ∙ none) in
      at_parts x y a r b s (a + b) (r + s) (e, g, omega arith)
      (omega arith, omega arith, omega arith)
      (lower_sum a b w r s (r + s) whole refl (at 0 (omega arith)) (at 1 (omega arith))
      (at 2 (omega arith)))
  on_face x y limit (upper a b u v w whole e g is) none =
      let at = λ (c : ℕ). tight Upper a b c (u ∷ v ∷ w ∷ []) (sym is ∙ none) in
      at_parts x y a (u + w) b (v + w) (a + b + 1) w (e, g, omega arith)
      (omega arith, omega arith, omega arith)
      (upper_sum a b u v w (u + w) (v + w) whole refl refl (at 0 (omega arith)) (at 1 (omega arith))
      (at 2 (omega arith)))

  at_limit : (limit : Limits ℤ → ℤ) → IsLimit f 4 (omega arith) limit →
      limit (limits_on f 4) ≡ pos 0 → limit (zigzag_limits chosen) ≡ pos 0
  at_limit limit (at_point x y face same) none =
      same z ∙ on_face x y (limit (limits_on f 4)) face none
  at_limit limit (beyond zero') none = zero' (zigzag_limits chosen)

  period : (i : ℕ) → z (i + f.order * 4) ≡ z i
  period i =
      period_of_parts (λ k r. bump (chosen k) r) f.order 4 i (omega arith) (λ a r.
      ap (λ b. bump b r) (h.has_period a))

  pub zigzag_perturbs : IsLimitPerturbation f 4 (zigzag_limits chosen)
  zigzag_perturbs = record {
    left_period = period;
    value_period = period;
    right_period = period;
    zero_at_place =
        zigzag_on chosen (f.place * 4) f.place 0 (omega arith) (omega arith)
        ∙ none_at_start (chosen f.place);
    at_tight = λ kind i j c. at_limit _ (limit_at f 4 (omega arith) kind i j c);
  }
