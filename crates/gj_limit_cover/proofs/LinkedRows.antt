-- Rows of linked intervals, one after another, and the intervals that are joined to one.
use Rattle.std.proofs.Common.{◌≡◌, ◌↔◌, ℕ, ◌+◌, ◌<◌, ◌||◌, ◌⊎◌, eqb, Bool, true, false, IsTrue, List, [], ◌∷◌, ◌++◌, inl, inr, sym, ap, subst, ◌∙◌, arith}
use Rattle.std.proofs.lemmas.Bool.{cases_lt, cases_eq, or_cases, or_left, or_right, eq-eqb, ne_eqb}
use Rattle.std.proofs.lemmas.List.{get_or_append_left, get_or_push, length_push}
use Rattle.gj_loops.specs.IndexSets.{has, no_set}
use Rattle.gj_loops.specs.declared.index_set.IndexSet.{IndexSet}
use Rattle.gj_shape.specs.FunctionData.{FunctionData}
use Rattle.gj_shape.specs.declared.faces.FaceKind.{FaceKind}
use Rattle.gj_jumps.specs.LimitCover.{IsTightAt}
use Rattle.gj_limit_cover.specs.LimitCover.{AreJoined}
use Rattle.gj_limit_cover.specs.Links.{IsLink, AreLinkedRows}

pub row_more : (f : FunctionData) (rows : List IndexSet) (n : ℕ) (row : IndexSet) →
    AreLinkedRows f n rows →
    ((j : ℕ) → IsTrue (has row j) ↔ ((j < f.order) × IsLink f.order (IsTightAt f) n j)) →
    AreLinkedRows f (n + 1) (rows ++ row ∷ [])
row_more f rows n row h here' =
    let count = h.count in record {
      count = length_push rows row ∙ ap (λ k. k + 1) h.count;
      each = λ i j below. elim (cases_lt i n) [
        | inl before ↦
            subst (λ (r : IndexSet). IsTrue (has r j) ↔
            ((j < f.order) × IsLink f.order (IsTightAt f) i j))
            (sym (get_or_append_left rows (row ∷ []) no_set i (omega arith))) (h.each i j before)
        | inr last ↦
            let e : i ≡ n = omega arith in
            subst (λ (r : IndexSet). IsTrue (has r j) ↔
            ((j < f.order) × IsLink f.order (IsTightAt f) i j))
            (sym (get_or_push rows row no_set i (omega arith)))
            (subst (λ k. IsTrue (has row j) ↔ ((j < f.order) × IsLink f.order (IsTightAt f) k j))
            (sym e) (here' j))
      ];
    }

-- of the first n intervals the set has those that an edge links to i
abbrev pub AreLinking : ℕ → (FaceKind → ℕ → ℕ → ℕ → Type 0) → ℕ → ℕ → (ℕ → Bool) → Type 0
AreLinking q T i n set = (k : ℕ) → (set k ≡ true) ↔ ((k < n) × IsLink q T k i)

pub linking_none : (q : ℕ) (T : FaceKind → ℕ → ℕ → ℕ → Type 0) (i : ℕ) (set : ℕ → Bool) →
    ((k : ℕ) → set k ≡ false) → AreLinking q T i 0 set
linking_none q T i set none k =
    (λ yes'. let no' = none k in absurd (cc (yes', no')), λ (low, l). absurd (omega arith))

-- the next interval is linked, and is put into the set
pub linking_added : (q : ℕ) (T : FaceKind → ℕ → ℕ → ℕ → Type 0) (i n : ℕ) (old new : ℕ → Bool) →
    AreLinking q T i n old → ((k : ℕ) → new k ≡ (old k || eqb k n)) → IsLink q T n i →
    AreLinking q T i (n + 1) new
linking_added q T i n old new h is link k = elim (cases_eq k n) [
  | inl same ↦ (
    λ yes'. (
      (let lt : k < n + 1 = omega arith in lt),
      subst (λ m. IsLink q T m i) (sym same) link,
    ),
    λ (low, l). is k ∙ or_right (old k) (eqb k n) (eq-eqb k n same),
  )
  | inr other ↦ (
    λ yes'. elim (or_cases (old k) (eqb k n) (sym (is k) ∙ yes')) [
      | inl e ↦ let at = (h k).0 e in ((let lt : k < n + 1 = omega (arith, at.0) in lt), at.1)
      | inr e ↦ let no' = ne_eqb k n other in absurd (cc (e, no'))
    ],
    λ (low, l). is k ∙ or_left (old k) (eqb k n)
        ((h k).1 ((let lt : k < n = omega arith in lt), l)),
  )
]

-- it is not
pub linking_skipped : (q : ℕ) (T : FaceKind → ℕ → ℕ → ℕ → Type 0) (i n : ℕ) (set : ℕ → Bool) →
    AreLinking q T i n set → (IsLink q T n i → ⊥) → AreLinking q T i (n + 1) set
linking_skipped q T i n set h none k = (
  λ yes'. let at = (h k).0 yes' in ((let lt : k < n + 1 = omega (arith, at.0) in lt), at.1),
  λ (low, l). elim (cases_eq k n) [
    | inl same ↦ absurd (none (subst (λ m. IsLink q T m i) same l))
    | inr other ↦ (h k).1 ((let lt : k < n = omega arith in lt), l)
  ],
)

pub both_ways : (q : ℕ) (T : FaceKind → ℕ → ℕ → ℕ → Type 0) (i j : ℕ) (x y z : Bool) → j < q →
    x ≡ (y || z) →
    ((y ≡ true) ↔ ((j < q) × IsLink q T i j)) → ((z ≡ true) ↔ ((j < q) × IsLink q T j i)) →
    (x ≡ true) ↔ AreJoined q T i j
both_ways q T i j x y z below is first second = (
  λ yes'. elim (or_cases y z (sym is ∙ yes')) [
    | inl e ↦ let (low, (kind, a, b, l)) = first.0 e in (kind, a, b, inl l)
    | inr e ↦ let (low, (kind, a, b, l)) = second.0 e in (kind, a, b, inr l)
  ],
  λ (kind, a, b, h). is ∙ (elim h [
    | inl l ↦ or_left y z (first.1 (below, (kind, a, b, l)))
    | inr l ↦ or_right y z (second.1 (below, (kind, a, b, l)))
  ]),
)

pub joined_below : (q : ℕ) (T : FaceKind → ℕ → ℕ → ℕ → Type 0) (i j : ℕ) (x y z : Bool) →
    x ≡ (y || z) →
    ((y ≡ true) ↔ ((j < q) × IsLink q T i j)) → ((z ≡ true) ↔ ((j < q) × IsLink q T j i)) →
    x ≡ true → j < q
joined_below q T i j x y z is first second yes' = elim (or_cases y z (sym is ∙ yes')) [
  | inl e ↦ (first.0 e).0
  | inr e ↦ (second.0 e).0
]

pub joined_of : (q : ℕ) (T : FaceKind → ℕ → ℕ → ℕ → Type 0) (i j : ℕ) →
    IsLink q T i j ⊎ IsLink q T j i → AreJoined q T i j
joined_of q T i j (inl (kind, a, b, l)) = (kind, a, b, inl l)
joined_of q T i j (inr (kind, a, b, l)) = (kind, a, b, inr l)

pub linked_or_linking : (q : ℕ) (T : FaceKind → ℕ → ℕ → ℕ → Type 0) (i j : ℕ) →
    AreJoined q T i j → IsLink q T i j ⊎ IsLink q T j i
linked_or_linking q T i j (kind, a, b, inl l) = inl (kind, a, b, l)
linked_or_linking q T i j (kind, a, b, inr l) = inr (kind, a, b, l)
