-- A first face to which more faces are added.
use Rattle.std.proofs.Common.{◌≡◌, ℕ, ◌≤◌, ◌⊎◌, Option, Some, None, IfSome, refl, sym, subst, inl, inr, arith}
use Rattle.std.proofs.lemmas.Bool.{cases_order}
use Rattle.gj_shape.specs.declared.faces.Face.{Face}
use Rattle.gj_shape.specs.declared.faces.FaceKind.{FaceKind}
use Rattle.gj_shape.specs.WalkOrder.{position_of_kind}
use Rattle.gj_cover.specs.FirstFound.{IsNotBefore, IsThis, IsFaceReached, AddsFirst}
use Rattle.gj_cover.proofs.Merging.{not_before}

-- faces of two sorts
abbrev pub EitherOf : (FaceKind → ℕ → ℕ → Type 0) → (FaceKind → ℕ → ℕ → Type 0) → FaceKind → ℕ → ℕ →
    Type 0
EitherOf S T kind a b = S kind a b ⊎ T kind a b

-- ---- walk order

-- a face that is not behind another is not behind one of the same square with a rank that is not
-- lower
pub ranked_behind : (f : Face) (kind other : FaceKind) (a b : ℕ) →
    position_of_kind kind ≤ position_of_kind other → IsNotBefore f kind a b →
    IsNotBefore f other a b
ranked_behind f kind other a b r (inl x) = inl x
ranked_behind f kind other a b r (inr (x, inl y)) = inr (x, inl y)
ranked_behind f kind other a b r (inr (x, inr (y, z))) = inr (x, inr (y, omega arith))

itself : (kind : FaceKind) (a b : ℕ) → IsNotBefore (record { kind = kind; a = a; b = b }) kind a b
itself kind a b = inr (refl, inr (refl, omega arith))

-- a face that does not reach another is behind it
beyond : (f : Face) (kind : FaceKind) (a b : ℕ) → (IsNotBefore f kind a b → ⊥) →
    IsNotBefore (record { kind = kind; a = a; b = b }) f.kind f.a f.b
beyond f kind a b not = elim (cases_order f.a a) [
  | inl row ↦ elim (cases_order f.b b) [
    | inl column ↦ elim (cases_order (position_of_kind f.kind) (position_of_kind kind)) [
      | inl same ↦ absurd (not (inr (row, inr (column, omega arith))))
      | inr k ↦ elim k [
        | inl low ↦ absurd (not (inr (row, inr (column, omega arith))))
        | inr high ↦ inr (sym row, inr (sym column, omega arith))
      ]
    ]
    | inr k ↦ elim k [
      | inl low ↦ absurd (not (inr (row, inl low)))
      | inr high ↦ inr
          (sym row, inl high)
    ]
  ]
  | inr k ↦ elim k [ inl low ↦ absurd (not (inl low)) | inr high ↦ inl high ]
]

-- ---- one face more

found_before : (These P : FaceKind → ℕ → ℕ → Type 0) (found : Option Face) →
    IfSome found (λ f. (found ≡ Some f) ⊎ (These f.kind f.a f.b × P f.kind f.a f.b))
found_before These P None = tt
found_before These P (Some f) = inl refl

-- nothing is added by a face that is reached if it has the property
pub passed : (P : FaceKind → ℕ → ℕ → Type 0) (kind : FaceKind) (a b : ℕ) (found : Option Face) →
    (P kind a b → IsFaceReached found kind a b) → AddsFirst (IsThis kind a b) P found found
passed P kind a b found h = record {
  from = found_before (IsThis kind a b) P found;
  behind = λ k c d r. r;
  first = λ k c d (e, x, y) p.
      subst (λ n. IsFaceReached found n c d) (sym e)
      (subst (λ n. IsFaceReached found kind n d) (sym x)
      (subst (λ n. IsFaceReached found kind a n) (sym y)
      (h (subst (λ n. P kind a n) y (subst (λ n. P kind n d) x (subst (λ n. P n c d) e p))))));
}

-- nothing is added by faces that are all reached
pub passed_all : (These P : FaceKind → ℕ → ℕ → Type 0) (found : Option Face) →
    ((kind : FaceKind) (a b : ℕ) → These kind a b → IsFaceReached found kind a b) →
    AddsFirst These P found found
passed_all These P found reached = record {
  from = found_before These P found;
  behind = λ k c d r. r;
  first = λ k c d at p. reached k c d at;
}

before : (kind : FaceKind) (a b : ℕ) (found : Option Face) → (IsFaceReached found kind a b → ⊥) →
    (other : FaceKind) (c d : ℕ) →
    IsFaceReached found other c d →
    IsFaceReached (Some (record { kind = kind; a = a; b = b })) other c d
before kind a b None not other c d r = absurd r
before kind a b (Some f) not other c d r =
    not_before (record { kind = kind; a = a; b = b }) f other c d (beyond f kind a b not) r

-- a face with the property that is not reached comes before what was found
pub put : (P : FaceKind → ℕ → ℕ → Type 0) (kind : FaceKind) (a b : ℕ) (found : Option Face) →
    (IsFaceReached found kind a b → ⊥) → P kind a b →
    AddsFirst (IsThis kind a b) P found (Some (record { kind = kind; a = a; b = b }))
put P kind a b found not p =
    let it : Option Face = Some (record { kind = kind; a = a; b = b }) in record {
      from = inr ((refl, refl, refl), p);
      behind = before kind a b found not;
      first = λ k c d (e, x, y) _.
          subst (λ n. IsFaceReached it n c d) (sym e)
          (subst (λ n. IsFaceReached it kind n d) (sym x)
          (subst (λ n. IsFaceReached it kind a n) (sym y) (itself kind a b)));
    }

-- ---- faces of two sorts

-- where a result comes from
abbrev IsFrom : (FaceKind → ℕ → ℕ → Type 0) → (FaceKind → ℕ → ℕ → Type 0) → Option Face →
    Option Face → Type 0
IsFrom S P x y = IfSome y (λ f. (x ≡ Some f) ⊎ (S f.kind f.a f.b × P f.kind f.a f.b))

both_from : (S T P : FaceKind → ℕ → ℕ → Type 0) (x y z : Option Face) → IsFrom S P x y →
    IsFrom T P y z → IsFrom (EitherOf S T) P x z
both_from S T P x y None h k = tt
both_from S T P x y (Some f) h (inr (at, p)) = inr (inr at, p)
both_from S T P x y (Some f) h (inl e) = elim (subst (IsFrom S P x) e h) [
  | inl is ↦ inl is
  | inr (at, p) ↦ inr (inl at, p)
]

from_restated : (S T P : FaceKind → ℕ → ℕ → Type 0) (x y : Option Face) →
    ((kind : FaceKind) (a b : ℕ) → S kind a b → T kind a b) →
    IsFrom S P x y → IsFrom T P x y
from_restated S T P x None on h = tt
from_restated S T P x (Some f) on (inl e) = inl e
from_restated S T P x (Some f) on (inr (at, p)) = inr (on f.kind f.a f.b at, p)

-- those of some faces and then those of others
pub both_added : (S T P : FaceKind → ℕ → ℕ → Type 0) (x y z : Option Face) → AddsFirst S P x y →
    AddsFirst T P y z →
    AddsFirst (EitherOf S T) P x z
both_added S T P x y z h k = record {
  from = both_from S T P x y z h.from k.from;
  behind = λ kind a b r. k.behind kind a b (h.behind kind a b r);
  first = λ kind a b at p. elim at [
    | inl s ↦ k.behind kind a b (h.first kind a b s p)
    | inr t ↦ k.first kind a b t p
  ];
}

-- the same faces in other words
pub added_restated : (S T P : FaceKind → ℕ → ℕ → Type 0) (x y : Option Face) →
    ((kind : FaceKind) (a b : ℕ) → S kind a b → T kind a b) →
    ((kind : FaceKind) (a b : ℕ) → T kind a b → S kind a b) → AddsFirst S P x y → AddsFirst T P x y
added_restated S T P x y on back h = record {
  from = from_restated S T P x y on h.from;
  behind = h.behind;
  first = λ kind a b at p. h.first kind a b (back kind a b at) p;
}
