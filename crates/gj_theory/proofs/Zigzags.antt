-- The zigzag of uncovered intervals is a perturbation.
use Rattle.std.proofs.Common.{◌≡◌, ℕ, zero, suc, inl, inr, ◌+◌, ◌-◌, ◌*◌, ◌/◌, ◌%◌, ◌<◌, ◌≤◌, ℤ, pos, ◌+ℤ◌, ◌-ℤ◌, Bool, true, false, if◌then◌else◌, ◌==◌, List, [], ◌∷◌, Any, Contains, get_or, refl, sym, ap, ap₂, subst, ◌∙◌, arith}
use Rattle.std.specs.List.{list_any}
use Rattle.std.proofs.Math.Nat.{mod-mod, add-mod_right, mod-lt, mod-eq_of_lt}
use Rattle.std.proofs.lemmas.Bool.{eqb-true, eq-eqb, cases_lt}
use Rattle.std.proofs.lemmas.Int.{ints}
use Rattle.std.proofs.lemmas.List.Folds.{Any-from_list_any, list_any-from_Any}
use Rattle.gj_lemmas.proofs.Quotients.{parts_of_place}
use Rattle.gj_lemmas.proofs.Choices.{never_true, same_tests}
use Rattle.gj_shape.specs.Additive.{IsTight, IsAdditive, IsInFace}
use Rattle.gj_shape.specs.Cover.{IsOneOf, AreJoined, IsDirectlyCovered, IsCovered}
use Rattle.gj_shape.specs.Cover.LeadsTo.{here}
use Rattle.gj_shape.specs.FunctionData.{FunctionData, IsWithinBounds, IsContinuous}
use Rattle.gj_shape.specs.Perturbation.{zigzag}
use Rattle.gj_shape.specs.Table.{table, IsMinimal}
use Rattle.gj_shape.specs.declared.faces.FaceKind.{FaceKind}
use Rattle.gj_shape.specs.declared.faces.FaceKind.TheVariants.{Vertex, Horizontal, Vertical, Diagonal, Lower, Upper}
use Rattle.gj_shape.proofs.TableLemmas.{period_of_parts}
use Rattle.gj_theory.specs.Halves.{IsPerturbation}
use Rattle.gj_theory.specs.Uncovered.{AreUncoveredClasses}
use Rattle.gj_theory.proofs.CoverPaths.{all_contained, joined_remainders, joined_turned}
use Rattle.gj_theory.proofs.TightPairs.{additive_from_faces}

-- ---- the zigzag on one interval

-- the zigzag inside an interval of the set
abbrev bump : ℕ → ℤ
bump r = if r == 1 then pos 1 else if r == 3 then pos 0 -ℤ pos 1 else pos 0

-- and inside any interval, by whether it is in the set
abbrev bump_where : Bool → ℕ → ℤ
bump_where b r = if b then bump r else pos 0

-- the zigzag of the intervals that pass a test
abbrev zigzag_by : (ℕ → Bool) → ℕ → ℤ
zigzag_by chosen i = bump_where (chosen (i / 4)) (i % 4)

bump_at_ends : (b c : Bool) → bump_where b 0 ≡ bump_where c 4
bump_at_ends true true = refl
bump_at_ends true false = refl
bump_at_ends false true = refl
bump_at_ends false false = refl

bump_at_start : (b : Bool) → bump_where b 0 ≡ pos 0
bump_at_start true = refl
bump_at_start false = refl

-- a place of the closed interval a
zigzag_at : (chosen : ℕ → Bool) (i a r : ℕ) → i ≡ a * 4 + r → r ≤ 4 →
    zigzag_by chosen i ≡ bump_where (chosen a) r
zigzag_at chosen i a r e below = elim (cases_lt r 4) [
  | inl inner ↦ let parts = parts_of_place i a 4 r e inner in
      ap₂ (λ k s. bump_where (chosen k) s) parts.0 parts.1
  | inr last ↦
      let end : r ≡ 4 = omega arith in
      let parts = parts_of_place i (a + 1) 4 0 (omega arith) (omega arith) in
      ap₂ (λ k s. bump_where (chosen k) s) parts.0 parts.1
      ∙ bump_at_ends (chosen (a + 1)) (chosen a)
      ∙ ap (bump_where (chosen a)) (sym end)
]

bump_mirrored : (b : Bool) (r s : ℕ) → r + s ≡ 4 → bump_where b r +ℤ bump_where b s ≡ pos 0
bump_mirrored b r s whole =
    let other : s ≡ 4 - r = omega arith in
    ap (λ n. bump_where b r +ℤ bump_where b n) other ∙ of_first b r (omega arith)
  where
    of_first : (b : Bool) (r : ℕ) → r ≤ 4 → bump_where b r +ℤ bump_where b (4 - r) ≡ pos 0
    of_first false r below = refl
    of_first true zero below = refl
    of_first true (suc zero) below = refl
    of_first true (suc (suc zero)) below = refl
    of_first true (suc (suc (suc zero))) below = refl
    of_first true (suc (suc (suc (suc zero)))) below = refl
    of_first true (suc (suc (suc (suc (suc r))))) below = absurd (omega arith)

-- ---- the zigzag on the closure of an additive face

-- a test of intervals, the same for joined intervals, and of none that is directly covered
pub record IsApartFromCover (q : ℕ) (Tight : ℕ → ℕ → Type 0) (chosen : ℕ → Bool) : Type 0 where
  pub joined : (i j : ℕ) → AreJoined q Tight i j → chosen i ≡ chosen j
  pub covered : (i : ℕ) → IsDirectlyCovered q Tight i → chosen i ≡ false

first_of : (q x : ℕ) (xs : List ℕ) → IsOneOf q (x ∷ xs) x
first_of q x xs = (0, x, omega arith, refl, refl)

second_of : (q x y : ℕ) (xs : List ℕ) → IsOneOf q (x ∷ y ∷ xs) y
second_of q x y xs = (1, y, omega arith, refl, refl)

third_of : (q x y z : ℕ) (xs : List ℕ) → IsOneOf q (x ∷ y ∷ z ∷ xs) z
third_of q x y z xs = (2, z, omega arith, refl, refl)

-- the zigzags at three places from the parts of the places
at_parts : (chosen : ℕ → Bool) (x y a r b s c t : ℕ) → x ≡ a * 4 + r → r ≤ 4 → y ≡ b * 4 + s →
    s ≤ 4 →
    x + y ≡ c * 4 + t → t ≤ 4 → bump_where (chosen a) r +ℤ bump_where (chosen b) s
    ≡ bump_where (chosen c) t →
    zigzag_by chosen x +ℤ zigzag_by chosen y ≡ zigzag_by chosen (x + y)
at_parts chosen x y a r b s c t e r_low g s_low h t_low sum =
    ap₂ (λ v w. v +ℤ w) (zigzag_at chosen x a r e r_low) (zigzag_at chosen y b s g s_low)
    ∙ sum ∙ sym (zigzag_at chosen (x + y) c t h t_low)

none_at_all : (a b c : Bool) (r s t : ℕ) → a ≡ false → b ≡ false → c ≡ false →
    bump_where a r +ℤ bump_where b s ≡ bump_where c t
none_at_all a b c r s t e g h = rw (e, g, h) refl

additive_on_face : (q : ℕ) (Tight : ℕ → ℕ → Type 0) (chosen : ℕ → Bool) →
    IsApartFromCover q Tight chosen →
    (kind : FaceKind) (a b x y : ℕ) → IsAdditive Tight kind a b → IsInFace 4 kind a b x y →
    zigzag_by chosen x +ℤ zigzag_by chosen y ≡ zigzag_by chosen (x + y)
additive_on_face q Tight chosen h Vertex a b x y additive (e, g) =
    at_parts chosen x y a 0 b 0 (a + b) 0 (omega arith) (omega arith) (omega arith) (omega arith)
    (omega arith)
    (omega arith)
    (ap₂ (λ v w. v +ℤ w) (bump_at_start (chosen a)) (bump_at_start (chosen b))
    ∙ sym (bump_at_start (chosen (a + b))))
additive_on_face q Tight chosen h Horizontal a b x y additive (low, high, g) =
    let r = x - a * 4 in
    let links = a ∷ (a + b) ∷ [] in
    let same = h.joined a (a + b) (
      Horizontal,
      a,
      b,
      record {
        additive = additive;
        first = first_of q a ((a + b) ∷ []);
        second = second_of q a (a + b) [];
      },
    ) in
    at_parts chosen x y a r b 0 (a + b) r (omega arith) (omega arith) (omega arith) (omega arith)
    (omega arith)
    (omega arith)
    (ap₂ (λ v w. v +ℤ w) (ap (λ c. bump_where c r) same) (bump_at_start (chosen b))
    ∙ omega (arith, ints))
additive_on_face q Tight chosen h Vertical a b x y additive (e, low, high) =
    let s = y - b * 4 in
    let same = h.joined b (a + b) (
      Vertical,
      a,
      b,
      record {
        additive = additive;
        first = first_of q b ((a + b) ∷ []);
        second = second_of q b (a + b) [];
      },
    ) in
    at_parts chosen x y a 0 b s (a + b) s (omega arith) (omega arith) (omega arith) (omega arith)
    (omega arith)
    (omega arith)
    (ap₂ (λ v w. v +ℤ w) (bump_at_start (chosen a)) (ap (λ c. bump_where c s) same)
    ∙ omega (arith, ints))
additive_on_face q Tight chosen h Diagonal a b x y additive (low, high, whole) =
    let r = x - a * 4 in
    let s = y - b * 4 in
    let same = h.joined a b (
      Diagonal,
      a,
      b,
      record {
        additive = additive;
        first = first_of q a (b ∷ []);
        second = second_of q a b [];
      },
    ) in
    at_parts chosen x y a r b s (a + b + 1) 0 (omega arith) (omega arith) (omega arith)
    (omega arith) (omega arith)
    (omega arith)
    (ap (λ c. bump_where c r +ℤ bump_where (chosen b) s) same
    ∙ bump_mirrored (chosen b) r s (omega arith)
    ∙ sym (bump_at_start (chosen (a + b + 1))))
additive_on_face q Tight chosen h Lower a b x y additive (low, high, below) =
    let r = x - a * 4 in
    let s = y - b * 4 in
    let out = λ (i : ℕ) (one : IsOneOf q (a ∷ b ∷ (a + b) ∷ []) i).
    h.covered i (Lower, a, b, record { additive = additive; projection = one }) in
    at_parts chosen x y a r b s (a + b) (r + s) (omega arith) (omega arith) (omega arith)
    (omega arith) (omega arith)
    (omega arith)
    (none_at_all (chosen a) (chosen b) (chosen (a + b)) r s (r + s)
    (out a (first_of q a (b ∷ (a + b) ∷ [])))
    (out b (second_of q a b ((a + b) ∷ []))) (out (a + b) (third_of q a b (a + b) [])))
additive_on_face q Tight chosen h Upper a b x y additive (low, high, above) =
    let r = 4 - ((a + 1) * 4 - x) in
    let s = 4 - ((b + 1) * 4 - y) in
    let t = x + y - (a + b + 1) * 4 in
    let out = λ (i : ℕ) (one : IsOneOf q (a ∷ b ∷ (a + b + 1) ∷ []) i).
    h.covered i (Upper, a, b, record { additive = additive; projection = one }) in
    at_parts chosen x y a r b s (a + b + 1) t (omega arith) (omega arith) (omega arith)
    (omega arith) (omega arith)
    (omega arith)
    (none_at_all (chosen a) (chosen b) (chosen (a + b + 1)) r s t
    (out a (first_of q a (b ∷ (a + b + 1) ∷ [])))
    (out b (second_of q a b ((a + b + 1) ∷ []))) (out (a + b + 1) (third_of q a b (a + b + 1) [])))

-- ---- the test of a list of intervals

-- the interval is in the list, modulo q
abbrev chosen_by : ℕ → List ℕ → ℕ → Bool
chosen_by q class i = list_any (λ a. a == i % q) class

contains_chosen : (q : ℕ) (class : List ℕ) (i : ℕ) → chosen_by q class i ≡ true →
    Contains class (i % q)
contains_chosen q class i e = of_any (Any-from_list_any (λ a. a == i % q) class e)
  where
    of_any : Any (λ a. (a == i % q) ≡ true) class → Contains class (i % q)
    of_any (k, x, below, there, same) =
        (k, below, subst (λ y. get_or class k y ≡ y) (eqb-true x (i % q) same) there)

chosen_contained : (q : ℕ) (class : List ℕ) (i : ℕ) → Contains class (i % q) →
    chosen_by q class i ≡ true
chosen_contained q class i (k, below, there) =
    list_any-from_Any (λ a. a == i % q) class (k, i % q, below, there, eq-eqb (i % q) (i % q) refl)

apart_from_cover : (q : ℕ) (Tight : ℕ → ℕ → Type 0) (class : List ℕ) → 0 < q →
    AreUncoveredClasses q Tight class →
    IsApartFromCover q Tight (chosen_by q class)
apart_from_cover q Tight class some h = record {
  joined = λ i j both. same_tests (chosen_by q class i) (chosen_by q class j) (onto i j both)
      (onto j i (joined_turned q Tight i j both));
  covered = λ i (kind, a, b, direct). never_true (chosen_by q class i) (λ e.
      all_contained (λ c. IsCovered q Tight c → ⊥) class (i % q) h.uncovered
      (contains_chosen q class i e)
      (i, (kind, a, b, direct), here i (sym (mod-mod i q))));
}
  where
    onto : (i j : ℕ) → AreJoined q Tight i j → chosen_by q class i ≡ true →
        chosen_by q class j ≡ true
    onto i j both e =
        chosen_contained q class j
        (h.closed (i % q) (j % q) (contains_chosen q class i e) (mod-lt j some)
        (joined_remainders q Tight i j (i % q) (j % q) (sym (mod-mod i q))
        (sym (mod-mod j q)) both))

-- ---- the zigzag

pub zigzag_period : (q : ℕ) (class : List ℕ) (i : ℕ) → zigzag q class (i + q * 4) ≡ zigzag q class i
zigzag_period q class i =
    period_of_parts (λ k r. bump_where (chosen_by q class k) r) q 4 i (omega arith)
    (λ a r. ap (λ k. bump_where (list_any (λ c. c == k) class) r) (add-mod_right a q))

pub zigzag_at_multiple : (q : ℕ) (class : List ℕ) (a : ℕ) → zigzag q class (a * 4) ≡ pos 0
zigzag_at_multiple q class a =
    zigzag_at (chosen_by q class) (a * 4) a 0 (omega arith) (omega arith)
    ∙ bump_at_start (chosen_by q class a)

pub zigzag_at_quarter : (q : ℕ) (class : List ℕ) (a : ℕ) → Contains class a → a < q →
    zigzag q class (a * 4 + 1) ≡ pos 1
zigzag_at_quarter q class a one below =
    let same : a % q ≡ a = mod-eq_of_lt below in
    zigzag_at (chosen_by q class) (a * 4 + 1) a 1 refl (omega arith)
    ∙ ap (λ b. bump_where b 1) (chosen_contained q class a (subst (Contains class) (sym same) one))

pub zigzag_perturbs : (f : FunctionData) (class : List ℕ) → IsWithinBounds f → IsContinuous f →
    IsMinimal f →
    AreUncoveredClasses f.order (IsTight f) class →
    IsPerturbation (table f 4) (f.order * 4) (f.place * 4) (zigzag f.order class)
zigzag_perturbs f class l c h uncovered = record {
  at_tight =
      additive_from_faces f 4 (zigzag f.order class) l c h (omega arith)
      (zigzag_period f.order class)
      (additive_on_face f.order (IsTight f) (chosen_by f.order class)
      (apart_from_cover f.order (IsTight f) class (omega arith) uncovered));
  zero_at_place = zigzag_at_multiple f.order class f.place;
}
