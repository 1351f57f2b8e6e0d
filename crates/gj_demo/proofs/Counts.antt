-- Elements that a test picks, and the covered intervals.
use Rattle.std.proofs.Common.{◌≡◌, ℕ, suc, ◌+◌, ◌<◌, ◌↔◌, Bool, true, false, cond, List, [], ◌∷◌, length, Option, None, Some, is_some, count_by, refl, sym, ap, ap₂, ◌∙◌, zero-add, arith}
use Rattle.std.specs.List.{All, filter, range_with_len}
use Rattle.std.proofs.lemmas.List.Elements.{All-head, All-tail}
use Rattle.std.proofs.lemmas.List.Sums.{length-filter, sum_by-cons}
use Rattle.gj_lemmas.proofs.Lists.{All-range}
use Rattle.gj_shape.specs.Additive.{IsTight}
use Rattle.gj_shape.specs.Cover.{IsCovered}
use Rattle.gj_shape.specs.FunctionData.{FunctionData}
use Rattle.gj_shape.specs.declared.extremality.CoverLine.{CoverLine}
use Rattle.gj_faces.specs.Picked.{ArePicked, none, kept, dropped}
use Rattle.gj_cover.specs.CoverOf.{AreComponents, number_at}
use Rattle.gj_demo.specs.Summary.{AreCoveredIntervals}

-- ---- elements that a test picks

picked_next : {X : Type 0} (p : X → Bool) (P : X → Type 0) (x : X) (xs ys : List X) (b : Bool) →
    p x ≡ b →
    ((p x ≡ true) ↔ P x) → ArePicked P xs ys → ArePicked P (x ∷ xs) (cond b (x ∷ ys) ys)
picked_next p P x xs ys true e h more = kept (h.0 e) more
picked_next p P x xs ys false e h more = dropped (λ held. let yes = h.1 held in absurd cc) more

-- the elements at which a test gives true are those with the property for which it tests
picked_by_test : {X : Type 0} (p : X → Bool) (P : X → Type 0) (xs : List X) →
    All (λ x. (p x ≡ true) ↔ P x) xs →
    ArePicked P xs (filter p xs)
picked_by_test p P [] all = none
picked_by_test p P (x ∷ xs) all =
    picked_next p P x xs (filter p xs) (p x) refl (All-head (λ y. (p y ≡ true) ↔ P y) x xs all)
    (picked_by_test p P xs (All-tail (λ y. (p y ≡ true) ↔ P y) x xs all))

-- ---- covered intervals

has_number : (o : Option ℕ) → is_some o ≡ true → (n : ℕ) × (o ≡ Some n)
has_number None e = absurd cc
has_number (Some n) e = (n, refl)

some_unless_none : (o : Option ℕ) → (o ≡ None → ⊥) → is_some o ≡ true
some_unless_none None h = absurd (h refl)
some_unless_none (Some n) h = refl

-- an interval has a number exactly if it is covered
number_where_covered : (q : ℕ) (Tight : ℕ → ℕ → Type 0) (lines : List CoverLine)
    (component : List (Option ℕ)) (i : ℕ) →
    AreComponents q Tight lines component → i < q → (is_some (number_at component i) ≡ true)
    ↔ IsCovered q Tight i
number_where_covered q Tight lines component i h below = (
  (λ some.
      let (n, at) = has_number (number_at component i) some in
      ((h.same i i below below).0 (n, at, at)).0),
  (λ covered. some_unless_none (number_at component i)
      (λ open_interval. (h.uncovered i below).0 open_interval covered)),
)

count_over_range : (p : Option ℕ → Bool) (whole : List (Option ℕ)) (xs : List (Option ℕ)) (a : ℕ) →
    ((i : ℕ) → i < length xs → number_at whole (a + i) ≡ number_at xs i) →
    count_by (λ i. p (number_at whole i)) (range_with_len a (length xs)) ≡ count_by p xs
count_over_range p whole [] a same = refl
count_over_range p whole (x ∷ xs) a same =
    let n = length xs in
    let first : number_at whole a ≡ x = ap (number_at whole) (omega arith) ∙ same 0 (omega arith) in
    let rest = count_over_range p whole xs (a + 1) (λ i below.
    ap (number_at whole) (omega arith) ∙ same (suc i) (omega arith)) in
    sum_by-cons (λ i. cond (p (number_at whole i)) 1 0) a (range_with_len (a + 1) n)
    ∙ ap₂ (λ b m. cond b 1 0 + m) (ap p first) rest
    ∙ sym (sum_by-cons (λ y. cond (p y) 1 0) x xs)

pub counted_intervals : (f : FunctionData) (lines : List CoverLine) (component : List (Option ℕ)) →
    AreComponents f.order (IsTight f) lines component →
    (intervals : List ℕ) × AreCoveredIntervals f intervals
    × (length intervals ≡ count_by is_some component)
counted_intervals f lines component h =
    let test : ℕ → Bool = λ i. is_some (number_at component i) in (
      filter test (range_with_len 0 f.order),
      picked_by_test test (IsCovered f.order (IsTight f)) (range_with_len 0 f.order)
          (All-range (λ i. (test i ≡ true) ↔ IsCovered f.order (IsTight f) i) 0 f.order
          (λ i below. number_where_covered f.order (IsTight f) lines component i h (omega arith))),
      length-filter test (range_with_len 0 f.order)
          ∙ ap (λ n. count_by test (range_with_len 0 n)) (sym h.length)
          ∙ count_over_range is_some component component 0
          (λ i _. ap (number_at component) (zero-add i)),
    )
