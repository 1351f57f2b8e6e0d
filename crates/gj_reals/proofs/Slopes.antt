-- A slope on each covered interval.
use Rattle.std.proofs.Common.{◌≡◌, ℕ, ◌+◌, ◌%◌, List, [], ◌∷◌, All, sym}
use Rattle.std.proofs.lemmas.List.Elements.{All-nil}
use Rattle.gj_lemmas.proofs.Lists.{All-two, All-three}
use Rattle.gj_shape.specs.Additive.{IsTight, IsAdditive}
use Rattle.gj_shape.specs.Cover.{IsOneOf, triangle_projections, Joins, IsCovered, LeadsTo}
use Rattle.gj_shape.specs.Cover.LeadsTo.{here, onward}
use Rattle.gj_shape.specs.FunctionData.{FunctionData, IsWithinBounds, IsContinuous}
use Rattle.gj_shape.specs.declared.faces.FaceKind.{FaceKind}
use Rattle.gj_shape.specs.declared.faces.FaceKind.TheVariants.{Vertex, Horizontal, Vertical, Diagonal, Lower, Upper}
use Rattle.gj_theory.proofs.CarriedSteps.{all_of_any}
use Rattle.gj_fields.specs.Fields.{OrderedField, HasFloor}
use Rattle.gj_reals.proofs.Lines.{FollowsTight, HasSlope, on_lower, on_upper, along_horizontal, along_vertical, along_diagonal, slope_modulo}

module _ {R : Type 0} (K : OrderedField R) (floors : HasFloor K) (f : FunctionData)
    (bounds : IsWithinBounds f) (continuous : IsContinuous f)
    (d : R → R) (follows : FollowsTight K floors f bounds continuous d) where
  abbrev Slope : ℕ → Type 0
  Slope i = HasSlope K floors f bounds continuous d follows i

  modulo : (i j : ℕ) → i % f.order ≡ j % f.order → Slope i → Slope j
  modulo = slope_modulo K floors f bounds continuous d follows

  -- what all of a list have one of them has
  from_all : (xs : List ℕ) (i : ℕ) → All Slope xs → IsOneOf f.order xs i → Slope i
  from_all xs i all one =
      let found = all_of_any Slope (λ z. z % f.order ≡ i % f.order) xs all one in
      modulo found.0 i found.2 found.1

  from_triangle : (kind : FaceKind) (a b i : ℕ) → IsAdditive (IsTight f) kind a b →
      IsOneOf f.order (triangle_projections kind a b) i → Slope i
  from_triangle Lower a b i h one =
      let slopes = on_lower K floors f bounds continuous d follows a b h in
      from_all (a ∷ b ∷ (a + b) ∷ []) i (All-three Slope a b (a + b) slopes.0 slopes.1 slopes.2) one
  from_triangle Upper a b i h one =
      let slopes = on_upper K floors f bounds continuous d follows a b h in
      from_all (a ∷ b ∷ (a + b + 1) ∷ []) i
      (All-three Slope a b (a + b + 1) slopes.0 slopes.1 slopes.2) one
  from_triangle Vertex a b i h one = from_all [] i (All-nil Slope) one
  from_triangle Horizontal a b i h one = from_all [] i (All-nil Slope) one
  from_triangle Vertical a b i h one = from_all [] i (All-nil Slope) one
  from_triangle Diagonal a b i h one = from_all [] i (All-nil Slope) one

  -- from one of two intervals to the other
  from_either : (x y i j : ℕ) → (Slope x → Slope y) × (Slope y → Slope x) →
      IsOneOf f.order (x ∷ y ∷ []) i → IsOneOf f.order (x ∷ y ∷ []) j →
      Slope i → Slope j
  from_either x y i j ways first second slope =
      let each = All-two (λ z. Slope z → All Slope (x ∷ y ∷ [])) x y
      (λ s. All-two Slope x y s (ways.0 s)) (λ s. All-two Slope x y (ways.1 s) s) in
      let found = all_of_any (λ z. Slope z → All Slope (x ∷ y ∷ []))
      (λ z. z % f.order ≡ i % f.order) (x ∷ y ∷ []) each first in
      from_all (x ∷ y ∷ []) j (found.1 (modulo i found.0 (sym found.2) slope)) second

  joined : (kind : FaceKind) (a b i j : ℕ) → Joins f.order (IsTight f) kind a b i j → Slope i →
      Slope j
  joined Horizontal a b i j joins slope =
      from_either a (a + b) i j (along_horizontal K floors f bounds continuous d follows a b
      joins.additive) joins.first joins.second slope
  joined Vertical a b i j joins slope =
      from_either b (a + b) i j (along_vertical K floors f bounds continuous d follows a b
      joins.additive) joins.first joins.second slope
  joined Diagonal a b i j joins slope =
      from_either a b i j (along_diagonal K floors f bounds continuous d follows a b joins.additive)
      joins.first joins.second slope
  joined Vertex a b i j joins slope = from_triangle Vertex a b j joins.additive joins.second
  joined Lower a b i j joins slope = from_triangle Lower a b j joins.additive joins.second
  joined Upper a b i j joins slope = from_triangle Upper a b j joins.additive joins.second

  along : (j i : ℕ) → LeadsTo f.order (IsTight f) j i → Slope i → Slope j
  along j _ (here i same) slope = modulo i j same slope
  along j _ (onward i next (kind, a, b, joins) rest) slope =
      along j next rest (joined kind a b i next joins slope)

  pub slope_on_covered : (i : ℕ) → IsCovered f.order (IsTight f) i → Slope i
  slope_on_covered i (j, (kind, a, b, covers), leads) =
      along i j leads (from_triangle kind a b j covers.additive covers.projection)
