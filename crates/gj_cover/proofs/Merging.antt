-- The first face of some squares and of more.
use Rattle.std.proofs.Common.{◌≡◌, ℕ, ◌⊎◌, ◌<◌, Option, Some, None, MatchOption, sym, subst, inl, inr, arith}
use Rattle.gj_shape.specs.declared.faces.Face.{Face}
use Rattle.gj_shape.specs.declared.faces.FaceKind.{FaceKind}
use Rattle.gj_cover.specs.FirstFound.{IsNotBefore, IsFirstOf, FindsFirst, IsEarlier}
use Rattle.std.proofs.lemmas.Bool.{cases_order}

-- walk order is transitive
pub not_before : (f g : Face) (kind : FaceKind) (a b : ℕ) → IsNotBefore f g.kind g.a g.b →
    IsNotBefore g kind a b →
    IsNotBefore f kind a b
not_before f g kind a b (inl x) (inl y) = inl (omega arith)
not_before f g kind a b (inl x) (inr (y, z)) = inl (omega arith)
not_before f g kind a b (inr (x, z)) (inl y) = inl (omega arith)
not_before f g kind a b (inr (x, inl u)) (inr (y, inl v)) = inr (omega arith, inl (omega arith))
not_before f g kind a b (inr (x, inl u)) (inr (y, inr (v, w))) =
    inr (omega arith, inl (omega arith))
not_before f g kind a b (inr (x, inr (u, w))) (inr (y, inl v)) =
    inr (omega arith, inl (omega arith))
not_before f g kind a b (inr (x, inr (u, w))) (inr (y, inr (v, z))) =
    inr (omega arith, inr (omega arith, omega arith))

-- a square that is not earlier than another is later, or both are one
pub later : (f g : Face) → (IsEarlier g f → ⊥) → ((f.a < g.a) ⊎ ((f.a ≡ g.a) × (f.b < g.b)))
    ⊎ ((f.a ≡ g.a) × (f.b ≡ g.b))
later f g not = elim (cases_order f.a g.a) [
  | inl same ↦ elim (cases_order f.b g.b) [
    | inl y ↦ inr (same, y)
    | inr k ↦ elim k [
      | inl below ↦ inl (inr (same, below))
      | inr above ↦ absurd
          (not (inr (sym same, above)))
    ]
  ]
  | inr k ↦ elim k [ inl below ↦ inl (inl below) | inr above ↦ absurd (not (inl above)) ]
]

-- what `earlier` answers
abbrev pub IsEarlierOf : Option Face → Option Face → Option Face → Type 0
IsEarlierOf first second result =
    MatchOption first (result ≡ second) (λ f. MatchOption second (result ≡ first)
    (λ g. ((result ≡ first) × (IsEarlier g f → ⊥)) ⊎ ((result ≡ second) × IsEarlier g f)))

abbrev pub Either : (ℕ → ℕ → Type 0) → (ℕ → ℕ → Type 0) → ℕ → ℕ → Type 0
Either S T a b = S a b ⊎ T a b

first_stays : (S T : ℕ → ℕ → Type 0) (P : FaceKind → ℕ → ℕ → Type 0) (f g : Face) →
    IsFirstOf S P f →
    IsFirstOf T P g → (IsEarlier g f → ⊥) → IsFirstOf (Either S T) P f
first_stays S T P f g h k not =
    let before : IsNotBefore f g.kind g.a g.b = elim (later f g not) [
      | inl (inl x) ↦ inl x
      | inl (inr (x, y)) ↦ inr (x, inl y)
      | inr (x, y) ↦ h.first g.kind g.a g.b
          (subst (λ b. S g.a b) y (subst (λ a. S a f.b) x h.square)) k.holds
    ] in
    record {
      square = inl h.square;
      holds = h.holds;
      first = λ kind a b at p. elim at [
        | inl s ↦ h.first kind a b s p
        | inr t ↦ not_before f g kind a b before (k.first kind a b t p)
      ];
    }

second_comes : (S T : ℕ → ℕ → Type 0) (P : FaceKind → ℕ → ℕ → Type 0) (f g : Face) →
    IsFirstOf S P f →
    IsFirstOf T P g → IsEarlier g f → IsFirstOf (Either S T) P g
second_comes S T P f g h k e =
    let before : IsNotBefore g f.kind f.a f.b =
    elim e [ inl x ↦ inl x | inr (x, y) ↦ inr (x, inl y) ] in
    record {
      square = inr k.square;
      holds = k.holds;
      first = λ kind a b at p. elim at [
        | inl s ↦ not_before g f kind a b before (h.first kind a b s p)
        | inr t ↦ k.first kind a b t p
      ];
    }

-- the first face of the squares of both
pub merged : (S T : ℕ → ℕ → Type 0) (P : FaceKind → ℕ → ℕ → Type 0)
    (first second result : Option Face) →
    FindsFirst S P first → FindsFirst T P second → IsEarlierOf first second result →
    FindsFirst (Either S T) P result
merged S T P None None result h k e =
    subst (FindsFirst (Either S T) P) (sym e)
    (λ kind a b at p. elim at [ inl s ↦ h kind a b s p | inr t ↦ k kind a b t p ])
merged S T P None (Some g) result h k e =
    subst (FindsFirst (Either S T) P) (sym e) (record {
      square = inr k.square;
      holds = k.holds;
      first = λ kind a b at p. elim at
          [ inl s ↦ absurd (h kind a b s p) | inr t ↦ k.first kind a b t p ];
    })
merged S T P (Some f) None result h k e =
    subst (FindsFirst (Either S T) P) (sym e) (record {
      square = inl h.square;
      holds = h.holds;
      first = λ kind a b at p. elim at
          [ inl s ↦ h.first kind a b s p | inr t ↦ absurd (k kind a b t p) ];
    })
merged S T P (Some f) (Some g) result h k (inl (e, not)) =
    subst (FindsFirst (Either S T) P) (sym e) (first_stays S T P f g h k not)
merged S T P (Some f) (Some g) result h k (inr (e, earlier)) =
    subst (FindsFirst (Either S T) P) (sym e) (second_comes S T P f g h k earlier)

-- the same squares in other words
pub restated : (S T : ℕ → ℕ → Type 0) (P : FaceKind → ℕ → ℕ → Type 0) (result : Option Face) →
    ((a b : ℕ) → S a b → T a b) → ((a b : ℕ) → T a b → S a b) → FindsFirst S P result →
    FindsFirst T P result
restated S T P None on back h = λ kind a b at p. h kind a b (back a b at) p
restated S T P (Some f) on back h = record {
  square = on f.a f.b h.square;
  holds = h.holds;
  first = λ kind a b at p. h.first kind a b (back a b at) p;
}
