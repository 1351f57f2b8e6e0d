-- The numbers of components if all intervals are covered.
use Rattle.std.proofs.Common.{◌≡◌, ℕ, ◌<◌, Option, None, Some, List, [], length, map, get_or, refl, sym, ap, subst, ◌∙◌, arith}
use Rattle.std.specs.Prelude.{All, IsSome}
use Rattle.std.proofs.lemmas.List.{get_or-map, get_or_default, length-map}
use Rattle.gj_shape.specs.SlopeRows.{component_in}
use Rattle.gj_shape.specs.Additive.{IsTight}
use Rattle.gj_shape.specs.FunctionData.{FunctionData}
use Rattle.gj_cover.specs.CoverOf.{number_at, IsCoverOf}
use Rattle.gj_cover.specs.declared.covered.Cover.{Cover}
use Rattle.gj_extreme.specs.Decision.{AreAllCovered}

-- each interval has a number
pub all_numbered : (q : ℕ) (Tight : ℕ → ℕ → Type 0) (cover : Cover) → IsCoverOf q Tight cover →
    cover.class ≡ [] →
    All IsSome cover.component
all_numbered q Tight cover h none =
    λ k d below. by_number k d below (get_or cover.component k d) refl
  where
    by_number : (k : ℕ) (d : Option ℕ) → k < length cover.component → (o : Option ℕ) →
        get_or cover.component k d ≡ o → IsSome o
    by_number k d below None e =
        let low : k < q = subst (λ (n : ℕ). k < n) h.component.length below in
        let at_none : number_at cover.component k ≡ None =
        get_or_default cover.component k None d below ∙ e in
        absurd ((h.component.uncovered k low).0 at_none (h.class.none.0 none k low))
    by_number k d below (Some n) e = refl

-- the number of an interval, read off the list of numbers
number_is : (component : List (Option ℕ)) (numbers : List ℕ) (i : ℕ) →
    map Some numbers ≡ component → i < length component →
    number_at component i ≡ Some (get_or numbers i 0)
number_is component numbers i same below =
    let len = length-map numbers (λ (x : ℕ). Some x) in
    let whole = ap length same in
    let low : i < length numbers = omega arith in
    ap (λ l. get_or l i None) (sym same) ∙ get_or-map (λ (x : ℕ). Some x) numbers i 0 None low

pub numbers_length : (q : ℕ) (Tight : ℕ → ℕ → Type 0) (cover : Cover) (numbers : List ℕ) →
    IsCoverOf q Tight cover →
    map Some numbers ≡ cover.component → length numbers ≡ q
numbers_length q Tight cover numbers h same = sym (length-map numbers (λ (x : ℕ). Some x))
    ∙ ap length same ∙ h.component.length

-- they are below the number of components
pub numbers_below : (q : ℕ) (Tight : ℕ → ℕ → Type 0) (cover : Cover) (numbers : List ℕ) →
    IsCoverOf q Tight cover →
    map Some numbers ≡ cover.component → All (λ c. c < cover.count) numbers
numbers_below q Tight cover numbers h same = λ k d below.
    let len = length-map numbers (λ (x : ℕ). Some x) in
    let whole = ap length same in
    let low : k < length cover.component = omega arith in
    let is = number_is cover.component numbers k same low
    ∙ ap Some (get_or_default numbers k 0 d below) in
    let less = h.component.below k (get_or numbers k d) is in
    subst (λ (m : ℕ). get_or numbers k d < m) (sym h.count) less

pub are_all_covered : (f : FunctionData) (cover : Cover) (numbers : List ℕ) →
    IsCoverOf f.order (IsTight f) cover →
    map Some numbers ≡ cover.component →
    AreAllCovered f cover.lines (component_in numbers) cover.count
are_all_covered f cover numbers h same = record {
  are_lines = h.lines;
  numbers = λ i low.
      (h.component.numbers i (get_or numbers i 0) low).0
      (number_is cover.component numbers i same
      (subst (λ (n : ℕ). i < n) (sym h.component.length) low));
  count = h.count;
}
