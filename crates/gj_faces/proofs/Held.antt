-- Each additive face lies in the closure of a maximal one.
use Rattle.std.proofs.Common.{◌⊎◌, inl, inr, ℕ, zero, suc, ◌+◌, ◌-◌, ◌%◌, ◌<◌, ◌≤◌, ◌+ℤ◌, List, Any, sym, subst, arith}
use Rattle.std.proofs.Math.IntN.{ℤ_discrete}
use Rattle.std.proofs.Math.Nat.{mod-lt, mod-mod}
use Rattle.gj_shape.specs.Additive.{IsTight, IsAdditive, IsInClosure, IsMaximalFace, IsSameFace, border_of}
use Rattle.gj_shape.specs.FunctionData.{FunctionData, IsWithinBounds, at}
use Rattle.gj_shape.specs.declared.faces.Face.{Face}
use Rattle.gj_shape.specs.declared.faces.FaceKind.{FaceKind}
use Rattle.gj_shape.specs.declared.faces.FaceKind.TheVariants.{Vertex, Horizontal, Vertical, Diagonal, Lower, Upper}
use Rattle.gj_faces.specs.Listed.{AreMaximalFaces, HoldAdditive}
use Rattle.gj_faces.proofs.Closures.{IsWithin, border_within, closure_at_same}
use Rattle.gj_faces.proofs.Maximality.{IsExtended, dimension, grown, maximal_unless_extended, maximal_at_same}
use Rattle.gj_faces.proofs.Periods.{tight_is_periodic}
use Rattle.gj_faces.proofs.PickedFaces.{picked_has, in_walk}

-- a pair is tight or it is not
tight_or_not : (f : FunctionData) (i j : ℕ) → IsTight f i j ⊎ (IsTight f i j → ⊥)
tight_or_not f i j = decided (ℤ_discrete (at f.value i +ℤ at f.value j) (at f.value (i + j)))
  where
    decided : {P : Type 0} → Dec P → P ⊎ (P → ⊥)
    decided (yes p) = inl p
    decided (no p) = inr p

either : {P Q : Type 0} → P ⊎ (P → ⊥) → Q ⊎ (Q → ⊥) → (P ⊎ Q) ⊎ (P ⊎ Q → ⊥)
either (inl p) q = inl (inl p)
either (inr p) (inl q) = inl (inr q)
either (inr p) (inr q) = inr (λ h. neither p q h)
  where
    neither : {P Q : Type 0} → (P → ⊥) → (Q → ⊥) → P ⊎ Q → ⊥
    neither p q (inl h) = p h
    neither p q (inr h) = q h

extended_or_not : (f : FunctionData) (kind : FaceKind) (a b : ℕ) →
    IsExtended f.order (IsTight f) kind a b ⊎ (IsExtended f.order (IsTight f) kind a b → ⊥)
extended_or_not f Vertex a b =
    let back = f.order - 1 in
    either (either (tight_or_not f (a + 1) b) (tight_or_not f (a + back) b))
    (either (either (tight_or_not f a (b + 1)) (tight_or_not f a (b + back)))
    (either (tight_or_not f (a + back) (b + 1)) (tight_or_not f (a + 1) (b + back))))
extended_or_not f Horizontal a b =
    either (tight_or_not f a (b + 1)) (tight_or_not f (a + 1) (b + (f.order - 1)))
extended_or_not f Vertical a b =
    either (tight_or_not f (a + 1) b) (tight_or_not f (a + (f.order - 1)) (b + 1))
extended_or_not f Diagonal a b = either (tight_or_not f a b) (tight_or_not f (a + 1) (b + 1))
extended_or_not f Lower a b = inr (λ h. h)
extended_or_not f Upper a b = inr (λ h. h)

-- the closure of the one face lies in that of the other
abbrev IsInsideOf : FunctionData → FaceKind → ℕ → ℕ → FaceKind → ℕ → ℕ → Type 0
IsInsideOf f kind a b other c d = (m i j : ℕ) → IsInClosure f m kind a b i j →
    IsInClosure f m other c d i j

-- a face of the border
part_inside : (f : FunctionData) (kind : FaceKind) (a b : ℕ) (other : FaceKind) (c d : ℕ) →
    Any (λ face. IsSameFace f.order face (kind, a, b)) (border_of other c d) →
    IsInsideOf f kind a b other c d
part_inside f kind a b other c d found m i j h =
    let face = found.1 in
    let same = found.4 in
    let within : IsWithin m other c d found.1 =
    subst (IsWithin m other c d) found.3 (border_within m c d other found.0 found.1 found.2) in
    let there : IsInClosure f m found.1.0 found.1.1 found.1.2 i j =
    closure_at_same f m face.0 a b face.1 face.2 i j (sym same.first_index) (sym same.second_index)
    (subst (λ k. IsInClosure f m k a b i j) (sym same.kind) h) in
    (there.0, there.1, there.2, there.3, within there.0 there.1 there.4)

-- a maximal face of the complex with the face in its closure
pub record IsHeld (f : FunctionData) (kind : FaceKind) (a b : ℕ) (face : Face) : Type 0 where
  pub first : face.a < f.order
  pub second : face.b < f.order
  pub maximal : IsMaximalFace f.order (IsTight f) face.kind face.a face.b
  pub inside : IsInsideOf f kind a b face.kind face.a face.b

-- an additive face that is not extended is maximal, and so is it with indices below the order
held_by_itself : (f : FunctionData) → IsWithinBounds f → (kind : FaceKind) (a b : ℕ) →
    IsMaximalFace f.order (IsTight f) kind a b →
    IsHeld f kind a b (record { kind = kind; a = a % f.order; b = b % f.order })
held_by_itself f l kind a b h =
    let q = f.order in
    let some : 0 < f.order = omega (arith, l.order_low) in
    record {
      first = mod-lt a some;
      second = mod-lt b some;
      maximal = maximal_at_same q (IsTight f) some (tight_is_periodic f l) kind a b (a % q) (b % q)
          (sym (mod-mod a q))
          (sym (mod-mod b q)) h;
      inside = λ m i j. closure_at_same f m kind a b (a % q) (b % q) i j (sym (mod-mod a q))
          (sym (mod-mod b q));
    }

held : (f : FunctionData) → IsWithinBounds f → (n : ℕ) (kind : FaceKind) (a b : ℕ) →
    2 ≤ n + dimension kind →
    IsAdditive (IsTight f) kind a b → (face : Face) × IsHeld f kind a b face
held f l zero kind a b enough h = (
  _,
  held_by_itself f l kind a b
      (maximal_unless_extended f.order (IsTight f) (omega (arith, l.order_low))
      (tight_is_periodic f l) kind a b h (two_dimensional kind enough)),
)
  where
    two_dimensional : (kind : FaceKind) → 2 ≤ zero + dimension kind →
        IsExtended f.order (IsTight f) kind a b → ⊥
    two_dimensional Vertex enough extended = omega arith
    two_dimensional Horizontal enough extended = omega arith
    two_dimensional Vertical enough extended = omega arith
    two_dimensional Diagonal enough extended = omega arith
    two_dimensional Lower enough extended = extended
    two_dimensional Upper enough extended = extended
held f l (suc n) kind a b enough h =
    by_cases (λ other c d wide additive. held f l n other c d wide additive)
    (extended_or_not f kind a b)
  where
    by_cases : ((other : FaceKind) (c d : ℕ) → 2 ≤ n + dimension other →
        IsAdditive (IsTight f) other c d →
        (face : Face) × IsHeld f other c d face) →
        IsExtended f.order (IsTight f) kind a b ⊎ (IsExtended f.order (IsTight f) kind a b → ⊥) →
        (face : Face) × IsHeld f kind a b face
    by_cases wider (inr alone) = (
      _,
      held_by_itself f l kind a b
          (maximal_unless_extended f.order (IsTight f) (omega (arith, l.order_low))
          (tight_is_periodic f l) kind a b h alone),
    )
    by_cases wider (inl extended) =
        let part = grown f.order (IsTight f) (omega (arith, l.order_low))
        (tight_is_periodic f l) kind a b h extended in
        let higher = part.3.higher in
        let found = wider part.0 part.1 part.2 (omega arith) part.3.additive in
        let is_held = found.1 in (
          found.0,
          record {
            first = is_held.first;
            second = is_held.second;
            maximal = is_held.maximal;
            inside = λ m i j at. is_held.inside m i j
                (part_inside f kind a b part.0 part.1 part.2 part.3.border m i j at);
          },
        )

-- so it lies in the closure of a listed one
pub additive_in_listed : (f : FunctionData) (faces : List Face) → IsWithinBounds f →
    AreMaximalFaces f faces →
    HoldAdditive f faces
additive_in_listed f faces l picked m kind a b i j h inside =
    let found = held f l 2 kind a b (omega arith) h in
    let face = found.0 in
    let is_held = found.1 in
    let listed = picked_has (λ face. IsMaximalFace f.order (IsTight f) face.kind face.a face.b)
    found.0 picked
    (in_walk f.order found.0.kind found.0.a found.0.b is_held.first is_held.second)
    is_held.maximal in
    (listed.0, found.0, listed.1, listed.2, is_held.inside m i j inside)
