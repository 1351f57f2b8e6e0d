-- A continuous function is extreme if its table on the grid of order 4 q is.
use Rattle.std.proofs.Common.{◌≡◌, ◌≢◌, ℕ, zero, suc, inl, inr, ◌↔◌, ◌+◌, ◌-◌, ◌*◌, ◌/◌, ◌%◌, ◌<◌, ◌≤◌, ℤ, pos, ◌+ℤ◌, ◌-ℤ◌, ◌*ℤ◌, List, [], ◌∷◌, All, Contains, map, get_or, refl, sym, ap, ap₂, subst, ◌∙◌, mul-pos, arith}
use Rattle.std.specs.List.{range_with_len}
use Rattle.std.proofs.Math.Nat.{mod-lt, mod-mod}
use Rattle.std.proofs.lemmas.Bool.{cases_lt}
use Rattle.std.proofs.lemmas.Int.{ints}
use Rattle.std.proofs.lemmas.List.Elements.{All-nil, All-cons}
use Rattle.gj_lemmas.proofs.Integers.{same_or_apart_z, zero_factor_z, weighted_sum_z}
use Rattle.gj_lemmas.proofs.Quotients.{same_at_remainder, parts_of_remainder}
use Rattle.gj_lemmas.proofs.Ring.{by_ring, ring}
use Rattle.gj_shape.specs.Additive.{IsTight, IsAdditive, IsInFace}
use Rattle.gj_shape.specs.Cover.{Joins, Covers, IsCovered, LeadsTo}
use Rattle.gj_shape.specs.Cover.LeadsTo.{here, onward}
use Rattle.gj_shape.specs.Extreme.{IsExtremeTable, IsExtreme}
use Rattle.gj_shape.specs.Faces.{corners_of}
use Rattle.gj_shape.specs.FunctionData.{FunctionData, IsWithinBounds, IsContinuous, at}
use Rattle.gj_shape.specs.Perturbation.{zigzag, IsGreatestSize}
use Rattle.gj_shape.specs.Table.{table, IsMinimalTable, IsMinimal}
use Rattle.gj_shape.specs.declared.faces.FaceKind.{FaceKind}
use Rattle.gj_shape.specs.declared.faces.FaceKind.TheVariants.{Vertex, Horizontal, Vertical, Diagonal, Lower, Upper}
use Rattle.gj_shape.proofs.TableLemmas.{table_at}
use Rattle.gj_theory.specs.Filling.{filling}
use Rattle.gj_theory.specs.Halves.{IsPerturbation, IsBelowSlacks, raised, lowered}
use Rattle.gj_theory.specs.Steps.{HasStepOn, IsAdditiveOnGrid}
use Rattle.gj_theory.specs.Uncovered.{AreUncoveredClasses}
use Rattle.gj_theory.proofs.AverageDifference.{difference_additive, difference_zero}
use Rattle.gj_theory.proofs.CarriedSteps.{carried_by_edge, given_by_triangle, step_modulo}
use Rattle.gj_theory.proofs.CoarseTables.{minimal_from_any_grid}
use Rattle.gj_theory.proofs.CoverPaths.{all_contained, joined_turned, covered_onward}
use Rattle.gj_theory.proofs.Fillings.{filling_at, filling_at_multiple, filling_period, parts_at, halves_deny}
use Rattle.gj_theory.proofs.HalvesAsLists.{at_made}
use Rattle.gj_theory.proofs.PerturbedTables.{halves_of_perturbation}
use Rattle.gj_theory.proofs.SlacksAndSizes.{greatest_size}
use Rattle.gj_theory.proofs.TightFaces.{value_at_place, tight_in_face}
use Rattle.gj_theory.proofs.TightPairs.{additive_from_faces}
use Rattle.gj_theory.proofs.Zigzags.{zigzag_perturbs, zigzag_at_quarter}

-- ---- a minimal table is extreme exactly if it has no perturbation but 0

-- all perturbations of the table are 0
abbrev pub HasNoPerturbation : (ℕ → ℤ) → ℕ → ℕ → Type 0
HasNoPerturbation t n k = (p : ℕ → ℤ) → IsPerturbation t n k p → (i : ℕ) → p i ≡ pos 0

-- slacks are whole numbers
below_slacks : (t : ℕ → ℤ) → IsBelowSlacks t 1
below_slacks t = record { positive = omega arith; below = λ i j above. omega (arith, ints) }

pub none_from_extreme : (t : ℕ → ℤ) (n k s : ℕ) → 0 < n → IsExtremeTable t n k s →
    HasNoPerturbation t n k
none_from_extreme t n k s some extreme p d i = elim (same_or_apart_z (p i) (pos 0)) [
  | inl e ↦ e
  | inr apart ↦ absurd (by_size (greatest_size p n some d.at_tight.has_period) apart)
]
  where
    by_size : (size : ℕ) × IsGreatestSize p size → p i ≢ pos 0 → ⊥
    by_size (size, h) apart =
        halves_deny t n k s (3 * size) (raised t p 1 size) (lowered t p 1 size)
        (halves_of_perturbation t p n k s 1 size i some extreme.minimal d
        (below_slacks t) h.greatest apart) extreme

same_from_difference : (c : ℕ) (x y z : ℤ) → x -ℤ pos c *ℤ z ≡ pos 0 → x +ℤ y ≡ pos (2 * c) *ℤ z →
    x ≡ y
same_from_difference c x y z e sum =
    let twice : pos (2 * c) *ℤ z ≡ pos c *ℤ z +ℤ pos c *ℤ z =
    by_ring (pos c ∷ z ∷ []) (search ring depth 20) refl in
    omega (arith, ints)

pub extreme_from_none : (t : ℕ → ℤ) (n k s : ℕ) → IsMinimalTable t n k s → HasNoPerturbation t n k →
    IsExtremeTable t n k s
extreme_from_none t n k s minimal none = record {
  minimal = minimal;
  no_average = λ c a b some first second average i.
      let zeros = difference_zero t a n k s c minimal first in
      same_from_difference c (a i) (b i) (t i)
      (none (λ j. a j -ℤ pos c *ℤ t j)
      (record {
        at_tight =
            difference_additive t a b n k s c minimal first second average;
        zero_at_place = zeros.1;
      })
      i)
      (average i);
}

-- ---- the affine filling of what is additive at the corners of a face

-- the continuous function with these values
data_of : (ℕ → ℤ) → ℕ → FunctionData
data_of v q =
    let xs = map v (range_with_len 0 q) in
    record { order = q; place = 0; scale = 1; left = xs; value = xs; right = xs }

filling_additive : (v : ℕ → ℤ) (q m : ℕ) → 0 < q → 0 < m → ((i : ℕ) → v (i + q) ≡ v i) →
    (kind : FaceKind) (a b i j : ℕ) →
    IsAdditive (λ x y. v x +ℤ v y ≡ v (x + y)) kind a b → IsInFace m kind a b i j →
    filling v m i +ℤ filling v m j ≡ filling v m (i + j)
unfolding data_of
filling_additive v q m q_some m_some period kind a b i j additive inside =
    ap₂ (λ x y. x +ℤ y) (same i) (same j)
    ∙ tight_in_face g m kind a b i j (refl, refl) m_some
    (λ k d below.
    let corner = get_or (corners_of kind a b) k d in
    ap₂ (λ x y. x +ℤ y) (made corner.0) (made corner.1) ∙ additive k d below
    ∙ sym (made (corner.0 + corner.1)))
    inside
    ∙ sym (same (i + j))
  where
    g : FunctionData
    g = data_of v q

    made : (x : ℕ) → at g.value x ≡ v x
    made x = at_made v q q_some period x

    same : (x : ℕ) → filling v m x ≡ table g m x
    same x =
        let a = x / m in
        let r = x % m in
        let u = m - r in
        let low = mod-lt x m_some in
        let whole : u + r ≡ m = omega arith in
        filling_at v m x a u r m_some (parts_at x m) whole
        ∙ ap₂ (λ y z. pos u *ℤ y +ℤ pos r *ℤ z) (sym (made a)) (sym (made (a + 1)))
        ∙ sym (value_at_place g m x a u r (refl, refl) m_some (parts_at x m) whole)

-- ---- the entries of a perturbation at the multiples of 1/q

-- a tight pair of the function is one on the grid
tight_at_multiples : (f : FunctionData) (m x y : ℕ) → 0 < m → IsTight f x y →
    table f m (x * m) +ℤ table f m (y * m) ≡ table f m (x * m + y * m)
tight_at_multiples f m x y some tight =
    let sum : (x + y) * m ≡ x * m + y * m = omega arith in
    ap₂ (λ v w. v +ℤ w) (table_at f m x some) (table_at f m y some)
    ∙ weighted_sum_z m (at f.value x) (at f.value y) (at f.value (x + y)) tight
    ∙ sym (table_at f m (x + y) some) ∙ ap (table f m) sum

-- a perturbation on any grid gives one on the grid of order 4 q
coarse_perturbation : (f : FunctionData) (m : ℕ) (p : ℕ → ℤ) → IsWithinBounds f → IsContinuous f →
    IsMinimal f → 0 < m →
    IsPerturbation (table f m) (f.order * m) (f.place * m) p →
    IsPerturbation (table f 4) (f.order * 4) (f.place * 4) (filling (λ a. p (a * m)) 4)
coarse_perturbation f m p l c h some d = record {
  at_tight =
      additive_from_faces f 4 (filling v 4) l c h (omega arith)
      (filling_period v f.order 4 (omega arith) period)
      (λ kind a b x y additive inside.
      filling_additive v f.order 4 (omega arith) (omega arith) period kind a b x y
      (λ k e below.
      let corner = get_or (corners_of kind a b) k e in
      at_corner corner.0 corner.1 (additive k e below))
      inside);
  zero_at_place =
      filling_at_multiple v 4 f.place (omega arith) ∙ ap (λ z. pos 4 *ℤ z) d.zero_at_place
      ∙ omega (arith, ints);
}
  where
    v : ℕ → ℤ
    v a = p (a * m)

    period : (a : ℕ) → v (a + f.order) ≡ v a
    period a = ap p (let e : (a + f.order) * m ≡ a * m + f.order * m = omega arith in e)
        ∙ d.at_tight.has_period (a * m)

    at_corner : (x y : ℕ) → IsTight f x y → v x +ℤ v y ≡ v (x + y)
    at_corner x y tight =
        d.at_tight.additive (x * m) (y * m) (tight_at_multiples f m x y some tight)
        ∙ ap p (let e : x * m + y * m ≡ (x + y) * m = omega arith in e)

zero_at_multiples : (f : FunctionData) (m : ℕ) (p : ℕ → ℤ) → IsWithinBounds f → IsContinuous f →
    IsMinimal f → 0 < m →
    HasNoPerturbation (table f 4) (f.order * 4) (f.place * 4) →
    IsPerturbation (table f m) (f.order * m) (f.place * m) p → (a : ℕ) → p (a * m) ≡ pos 0
zero_at_multiples f m p l c h some none d a =
    zero_factor_z 4 (p (a * m)) (omega arith)
    (sym (filling_at_multiple (λ b. p (b * m)) 4 a (omega arith))
    ∙ none (filling (λ b. p (b * m)) 4) (coarse_perturbation f m p l c h some d) (a * 4))

-- ---- covered intervals

-- the table has a constant step on the interval
abbrev HasSomeStep : (ℕ → ℤ) → ℕ → ℕ → Type 0
HasSomeStep p m i = (t : ℤ) × HasStepOn p m i t

from_triangle : (f : FunctionData) (m : ℕ) (p : ℕ → ℤ) (kind : FaceKind) (a b i : ℕ) →
    IsContinuous f → 0 < m →
    IsAdditiveOnGrid f m p → Covers f.order (IsTight f) kind a b i → HasSomeStep p m i
from_triangle f m p kind a b i c some h covers =
    let given = given_by_triangle f m p kind a b c some h covers.additive in
    (given.0, given.1 i covers.projection)

step_joined : (f : FunctionData) (m : ℕ) (p : ℕ → ℤ) (kind : FaceKind) (a b i j : ℕ) →
    IsContinuous f → 0 < m →
    IsAdditiveOnGrid f m p → Joins f.order (IsTight f) kind a b i j → HasSomeStep p m i →
    HasSomeStep p m j
step_joined f m p Horizontal a b i j c some h joins (t, step) = (
  t,
  carried_by_edge f m p Horizontal a b i j t c some h joins.additive joins.first joins.second
      step,
)
step_joined f m p Vertical a b i j c some h joins (t, step) = (
  t,
  carried_by_edge f m p Vertical a b i j t c some h joins.additive joins.first joins.second
      step,
)
step_joined f m p Diagonal a b i j c some h joins (t, step) = (
  t,
  carried_by_edge f m p Diagonal a b i j t c some h joins.additive joins.first joins.second
      step,
)
step_joined f m p Vertex a b i j c some h joins s =
    from_triangle f m p Vertex a b j c some h
    (record { additive = joins.additive; projection = joins.second })
step_joined f m p Lower a b i j c some h joins s =
    from_triangle f m p Lower a b j c some h
    (record { additive = joins.additive; projection = joins.second })
step_joined f m p Upper a b i j c some h joins s =
    from_triangle f m p Upper a b j c some h
    (record { additive = joins.additive; projection = joins.second })

step_along : (f : FunctionData) (m : ℕ) (p : ℕ → ℤ) (j i : ℕ) → IsContinuous f → 0 < m →
    IsAdditiveOnGrid f m p →
    LeadsTo f.order (IsTight f) j i → HasSomeStep p m i → HasSomeStep p m j
step_along f m p j _ c some h (here i e) (t, step) =
    (t, step_modulo p f.order m i j t h.has_period e step)
step_along f m p j _ c some h (onward i next (kind, a, b, joins) rest) s =
    step_along f m p j next c some h rest (step_joined f m p kind a b i next c some h joins s)

step_on_covered : (f : FunctionData) (m : ℕ) (p : ℕ → ℤ) (i : ℕ) → IsContinuous f → 0 < m →
    IsAdditiveOnGrid f m p →
    IsCovered f.order (IsTight f) i → HasSomeStep p m i
step_on_covered f m p i c some h (j, (kind, a, b, covers), leads) =
    step_along f m p i j c some h leads (from_triangle f m p kind a b j c some h covers)

-- a run of one step that begins and ends with 0 is 0
rises : (p : ℕ → ℤ) (m i : ℕ) (t : ℤ) → HasStepOn p m i t → p (i * m) ≡ pos 0 → (r : ℕ) → r ≤ m →
    p (i * m + r) ≡ pos r *ℤ t
rises p m i t step start zero below = ap p (let e : i * m + 0 ≡ i * m = omega arith in e) ∙ start
    ∙ omega (arith, ints)
rises p m i t step start (suc r) below =
    let next : i * m + suc r ≡ i * m + r + 1 = omega arith in
    ap p next ∙ step r (omega arith) ∙ ap (λ x. x +ℤ t) (rises p m i t step start r (omega arith))
    ∙ by_ring (pos r ∷ t ∷ []) (search ring depth 20) refl

zero_on_run : (p : ℕ → ℤ) (m i : ℕ) (t : ℤ) → 0 < m → HasStepOn p m i t → p (i * m) ≡ pos 0 →
    p ((i + 1) * m) ≡ pos 0 →
    (r : ℕ) → r ≤ m → p (i * m + r) ≡ pos 0
zero_on_run p m i t some step start end r below =
    let last : (i + 1) * m ≡ i * m + m = omega arith in
    let flat : t ≡ pos 0 =
    zero_factor_z m t some (sym (rises p m i t step start m (omega arith)) ∙ sym (ap p last)
    ∙ end) in
    rises p m i t step start r below ∙ ap (λ z. pos r *ℤ z) flat ∙ omega (arith, ints)

-- ---- uncovered intervals

-- a list of the numbers below n without the property
pub record IsListWithout (P : ℕ → Type 0) (n : ℕ) (class : List ℕ) : Type 0 where
  pub within : All (λ a. a < n) class
  pub without : All (λ a. P a → ⊥) class
  pub complete : (j : ℕ) → j < n → (P j → ⊥) → Contains class j

-- it is not the case that there is none
not_no_list : (P : ℕ → Type 0) (n : ℕ) → ((class : List ℕ) → IsListWithout P n class → ⊥) → ⊥
not_no_list P zero refuse = refuse [] (record {
  within = All-nil (λ a. a < 0);
  without = All-nil (λ a. P a → ⊥);
  complete = λ j below out. absurd (omega arith);
})
not_no_list P (suc n) refuse = not_no_list P n with_last
  where
    with_last : (class : List ℕ) → IsListWithout P n class → ⊥
    with_last class h =
        let wider : All (λ a. a < suc n) class = λ k d below. let low = h.within k d below in
        omega arith in
        let last_out : P n → ⊥ = λ last. refuse class (record {
          within = wider;
          without = h.without;
          complete = λ j below out. elim (cases_lt j n) [
            | inl earlier ↦ h.complete j earlier out
            | inr last_one ↦ absurd (out (subst P (let e : n ≡ j = omega arith in e) last))
          ];
        }) in
        refuse (n ∷ class) (record {
          within = All-cons (λ a. a < suc n) n class (omega arith) wider;
          without = All-cons (λ a. P a → ⊥) n class last_out h.without;
          complete = λ j below out. elim (cases_lt j n) [
            | inl earlier ↦ further j (h.complete j earlier out)
            | inr last_one ↦ (0, omega arith, let e : n ≡ j = omega arith in e)
          ];
        })
      where
        further : (j : ℕ) → Contains class j → Contains (n ∷ class) j
        further j (k, below, there) = (suc k, omega arith, there)

-- no interval is uncovered if the table on the grid of order 4 q has no perturbation
pub not_uncovered : (f : FunctionData) → IsWithinBounds f → IsContinuous f → IsMinimal f →
    HasNoPerturbation (table f 4) (f.order * 4) (f.place * 4) → (i : ℕ) → i < f.order →
    (IsCovered f.order (IsTight f) i → ⊥) → ⊥
not_uncovered f l c h none i i_low out = not_no_list Covered f.order by_zigzag
  where
    Covered : ℕ → Type 0
    Covered = IsCovered f.order (IsTight f)

    by_zigzag : (class : List ℕ) → IsListWithout Covered f.order class → ⊥
    by_zigzag class list =
        let uncovered : AreUncoveredClasses f.order (IsTight f) class = record {
          within = list.within;
          uncovered = list.without;
          closed = λ a b one b_low both. list.complete b b_low (λ covered.
              all_contained (λ x. Covered x → ⊥) class a list.without one
              (covered_onward f.order (IsTight f) b a (joined_turned f.order (IsTight f) a b both)
              covered));
        } in
        let zero = none (zigzag f.order class) (zigzag_perturbs f class l c h uncovered)
        (i * 4 + 1) in
        let one = zigzag_at_quarter f.order class i (list.complete i i_low out) i_low in
        omega (arith, ints, sym one ∙ zero)

-- ---- the grid of order 4 q decides

none_on_grid : (f : FunctionData) (m : ℕ) → IsWithinBounds f → IsContinuous f → IsMinimal f →
    0 < m →
    HasNoPerturbation (table f 4) (f.order * 4) (f.place * 4) →
    HasNoPerturbation (table f m) (f.order * m) (f.place * m)
none_on_grid f m l c h some none p d x = elim (same_or_apart_z (p x) (pos 0)) [
  | inl e ↦ e
  | inr apart ↦ absurd
      (not_uncovered f l c h none (y / m) y_low (λ covered. apart (sym same ∙ on_covered covered)))
]
  where
    y : ℕ
    y = x % (f.order * m)

    y_low : y / m < f.order
    y_low =
        let any : 0 < f.order = omega arith in
        subst (λ (a : ℕ). a < f.order) (sym (parts_of_remainder x f.order m any some).0)
        (mod-lt (x / m) any)

    same : p y ≡ p x
    same = same_at_remainder p (f.order * m) d.at_tight.has_period y x (mod-mod x (f.order * m))

    zeros : (a : ℕ) → p (a * m) ≡ pos 0
    zeros = zero_at_multiples f m p l c h some none d

    on_covered : IsCovered f.order (IsTight f) (y / m) → p y ≡ pos 0
    on_covered covered =
        let found = step_on_covered f m p (y / m) c some d.at_tight covered in
        let low = mod-lt y some in
        ap p (parts_at y m)
        ∙ zero_on_run p m (y / m) found.0 some found.1 (zeros (y / m)) (zeros (y / m + 1)) (y % m)
        (omega arith)

pub four_times_decides : (f : FunctionData) → IsWithinBounds f → IsContinuous f →
    IsExtreme f ↔ IsExtremeTable (table f 4) (f.order * 4) (f.place * 4) (f.scale * 4)
four_times_decides f l c = (λ extreme. extreme 4 (omega arith), onto_all)
  where
    onto_all : IsExtremeTable (table f 4) (f.order * 4) (f.place * 4) (f.scale * 4) → IsExtreme f
    onto_all extreme m some =
        let h = minimal_from_any_grid f 4 l c (omega arith) extreme.minimal in
        extreme_from_none (table f m) (f.order * m) (f.place * m) (f.scale * m) (h m some)
        (none_on_grid f m l c h some
        (none_from_extreme (table f 4) (f.order * 4) (f.place * 4) (f.scale * 4)
        (mul-pos (omega arith) (omega arith))
        extreme))
