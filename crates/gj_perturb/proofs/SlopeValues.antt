-- Sums of slopes, one after another.
use Rattle.std.proofs.Common.{◌≡◌, ℕ, ◌+◌, ◌<◌, ℤ, pos, ◌+ℤ◌, List, [], ◌∷◌, ◌++◌, length, get_or, map, All, sym, ap, ap₂, subst, ◌∙◌, arith}
use Rattle.std.specs.List.{range_with_len}
use Rattle.std.proofs.Math.Nat.{mod-eq_of_lt, zero-add}
use Rattle.std.proofs.lemmas.List.{get_or_append_left}
use Rattle.std.proofs.lemmas.List.Elements.{All-push}
use Rattle.std.proofs.lemmas.List.FromFn.{map-range_with_len_more}
use Rattle.gj_frac.specs.Fraction.{Fits}
use Rattle.gj_theory.proofs.SlopePerturbations.{total_push}
use Rattle.gj_shape.specs.Perturbation.{perturbation_of}
use Rattle.gj_shape.specs.SlopeRows.{total}
use Rattle.gj_perturb.specs.SlopeSums.{slope_at, slope_sum, IsWideSum}

sum_more : (q : ℕ) (slope : ℕ → ℤ) (i : ℕ) → i + 1 < q →
    perturbation_of q slope (i + 1) ≡ perturbation_of q slope i +ℤ slope i
sum_more q slope i below =
    let earlier : i < q = omega arith in
    ap (λ r. total (map slope (range_with_len 0 r))) (mod-eq_of_lt below)
    ∙ ap total (map-range_with_len_more slope 0 i i (zero-add i))
    ∙ total_push (map slope (range_with_len 0 i)) (slope i)
    ∙ ap (λ r. total (map slope (range_with_len 0 r)) +ℤ slope i) (sym (mod-eq_of_lt earlier))

-- the sums up to that at n are listed, none of them is wide, and `value` is the last
pub record AreSums (component : List ℕ) (slopes values : List ℤ) (n : ℕ) (value : ℤ) : Type 0 where
  pub below : n < length component
  pub listed : values ≡ map (slope_sum component slopes) (range_with_len 0 (n + 1))
  pub last : value ≡ slope_sum component slopes n
  pub narrow : All Fits values

-- the first sum is 0
pub first_sum : (component : List ℕ) (slopes values more : List ℤ) → 0 < length component →
    values ≡ [] → more ≡ values ++ pos 0 ∷ [] →
    AreSums component slopes more 0 (pos 0)
first_sum component slopes values more some empty items =
    let here : pos 0 ≡ slope_sum component slopes 0 =
    sym (ap (λ r. total (map (slope_at component slopes) (range_with_len 0 r)))
    (mod-eq_of_lt some)) in
    let one : more ≡ pos 0 ∷ [] = items ∙ ap (λ xs. xs ++ pos 0 ∷ []) empty in
    record {
      below = some;
      listed = one ∙ ap (λ y. y ∷ []) here;
      last = here;
      narrow = subst (All Fits) (sym one)
          (All-push Fits [] (pos 0) (λ k d h. absurd (omega arith)) (omega arith));
    }

pub next_sum : (component : List ℕ) (slopes : List ℤ) (n : ℕ) (value : ℤ) →
    n + 1 < length component →
    value ≡ slope_sum component slopes n →
    value +ℤ slope_at component slopes n ≡ slope_sum component slopes (n + 1)
next_sum component slopes n value below e =
    ap (λ z. z +ℤ slope_at component slopes n) e
    ∙ sym (sum_more (length component) (slope_at component slopes) n below)

pub one_sum_more : (component : List ℕ) (slopes values more : List ℤ) (n : ℕ) (value x next : ℤ) →
    n + 1 < length component →
    AreSums component slopes values n value → x ≡ slope_at component slopes n → Fits (value +ℤ x) →
    next ≡ value +ℤ x →
    more ≡ values ++ next ∷ [] → AreSums component slopes more (n + 1) next
one_sum_more component slopes values more n value x next below h x_is fits e items =
    let sums = slope_sum component slopes in
    let here : next ≡ sums (n + 1) =
    e ∙ ap (λ y. value +ℤ y) x_is ∙ next_sum component slopes n value below h.last in
    record {
      below = below;
      listed = items ∙ ap₂ (λ xs y. xs ++ y ∷ []) h.listed here
          ∙ sym (map-range_with_len_more sums 0 (n + 1) (n + 1) (zero-add (n + 1)));
      last = here;
      narrow = subst (All Fits) (sym items)
          (All-push Fits values next h.narrow (subst Fits (sym e) fits));
    }

pub wide_sum : (component : List ℕ) (slopes values : List ℤ) (n : ℕ) (value x : ℤ) →
    n + 1 < length component →
    AreSums component slopes values n value → x ≡ slope_at component slopes n →
    (Fits (value +ℤ x) → ⊥) →
    IsWideSum component slopes
wide_sum component slopes values n value x below h x_is wide =
    let here : value +ℤ x ≡ slope_sum component slopes (n + 1) =
    ap (λ y. value +ℤ y) x_is ∙ next_sum component slopes n value below h.last in
    record { index = n + 1; below = below; wide = λ fits. wide (subst Fits (sym here) fits) }

-- an interval before the last one has the slope of its component in the whole list
pub slope_before_last : (component before_last : List ℕ) (slopes : List ℤ) (last n : ℕ) →
    component ≡ before_last ++ last ∷ [] →
    n < length before_last → get_or slopes (get_or before_last n 0) (pos 0)
    ≡ slope_at component slopes n
slope_before_last component before_last slopes last n e below =
    ap (λ c. get_or slopes c (pos 0))
    (sym (ap (λ cs. get_or cs n 0) e ∙ get_or_append_left before_last (last ∷ []) 0 n below))

-- it names one of the slopes
pub slope_there : (component before_last : List ℕ) (last n m : ℕ) →
    component ≡ before_last ++ last ∷ [] → n < length before_last →
    n + 1 < length component → All (λ c. c < m) component → get_or before_last n 0 < m
slope_there component before_last last n m e below more h =
    let within : n < length component = omega arith in
    subst (λ c. c < m) (ap (λ cs. get_or cs n 0) e
    ∙ get_or_append_left before_last (last ∷ []) 0 n below) (h n 0 within)

-- after the last interval but one all sums are listed
pub all_sums : (component : List ℕ) (slopes values : List ℤ) (n : ℕ) (value : ℤ) →
    n + 1 ≡ length component →
    AreSums component slopes values n value →
    values ≡ map (slope_sum component slopes) (range_with_len 0 (length component))
all_sums component slopes values n value e h = h.listed
    ∙ ap (λ m. map (slope_sum component slopes) (range_with_len 0 m)) e
