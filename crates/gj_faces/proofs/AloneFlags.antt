-- Which faces of a square are maximal, from the tight pairs around it.
use Rattle.std.proofs.Common.{◌≡◌, ◌↔◌, ◌⊎◌, inl, inr, ℕ, ◌+◌, ◌-◌, ◌<◌, ◌≤◌, Bool, true, false, ◌&&◌, ◌||◌, not, ap, sym, ◌∙◌, lit<, arith}
use Rattle.std.proofs.lemmas.Bool.{and_parts, and_from, not-true, not_from_false, or_parts, or_from, or_left, or_right, and_left, false_from_ne_true, true≢false}
use Rattle.gj_loops.specs.IndexSets.{has}
use Rattle.gj_shape.specs.Additive.{IsTight, IsMaximalFace}
use Rattle.gj_shape.specs.FunctionData.{FunctionData, IsWithinBounds}
use Rattle.gj_shape.specs.declared.faces.FaceKind.{FaceKind}
use Rattle.gj_shape.specs.declared.faces.FaceKind.TheVariants.{Vertex, Horizontal, Vertical, Diagonal, Lower, Upper}
use Rattle.gj_faces.specs.declared.alone.Alone.{Alone}
use Rattle.gj_faces.specs.Alone.{AreAlone, set_of}
use Rattle.gj_faces.specs.Triangles.{is_triangle}
use Rattle.gj_faces.proofs.Maximality.{IsExtended, vertex, horizontal, vertical, diagonal, lower, upper, corner, maximal_unless_extended, maximal_is_not_extended, no_other}
use Rattle.gj_faces.proofs.Periods.{tight_is_periodic}
use Rattle.gj_faces.proofs.RunSteps.{IsPeriodic}

-- the pairs around (a, b), in a plane with a to the east and b to the north
pub record Around : Type 0 where
  pub middle : Bool
  pub east : Bool
  pub west : Bool
  pub north : Bool
  pub south : Bool
  pub north_west : Bool
  pub south_east : Bool
  pub north_east : Bool

-- they say which pairs are tight
pub record AreAround (q : ℕ) (Tight : ℕ → ℕ → Type 0) (a b : ℕ) (t : Around) : Type 0 where
  pub middle : (t.middle ≡ true) ↔ Tight a b
  pub east : (t.east ≡ true) ↔ Tight (a + 1) b
  pub west : (t.west ≡ true) ↔ Tight (a + (q - 1)) b
  pub north : (t.north ≡ true) ↔ Tight a (b + 1)
  pub south : (t.south ≡ true) ↔ Tight a (b + (q - 1))
  pub north_west : (t.north_west ≡ true) ↔ Tight (a + (q - 1)) (b + 1)
  pub south_east : (t.south_east ≡ true) ↔ Tight (a + 1) (b + (q - 1))
  pub north_east : (t.north_east ≡ true) ↔ Tight (a + 1) (b + 1)

-- whether the face is maximal, as the code has it
abbrev pub flag : FaceKind → Around → Bool
flag Vertex t = t.middle && not
    (((((t.east || t.west) || t.north) || t.south) || t.north_west) || t.south_east)
flag Horizontal t = (t.middle && t.east) && not (t.north || t.south_east)
flag Vertical t = (t.middle && t.north) && not (t.east || t.north_west)
flag Diagonal t = (t.east && t.north) && not (t.middle || t.north_east)
flag Lower t = (t.middle && t.east) && t.north
flag Upper t = (t.east && t.north) && t.north_east

abbrev pub edge_flag : Around → Bool
edge_flag t = ((flag Vertex t || flag Horizontal t) || flag Vertical t) || flag Diagonal t

abbrev pub any_flag : Around → Bool
any_flag t =
    ((((flag Vertex t || flag Horizontal t) || flag Vertical t) || flag Diagonal t) || flag Lower t)
    || flag Upper t

-- a pair that is not tight
off : {P : Type 0} (t : Bool) → (t ≡ true) ↔ P → t ≡ false → P → ⊥
off t h e p = true≢false (sym (h.1 p) ∙ e)

on : {P : Type 0} (t : Bool) → (t ≡ true) ↔ P → (P → ⊥) → t ≡ false
on t h none = false_from_ne_true t (λ e. none (h.0 e))

neither : {P Q : Type 0} → (P → ⊥) → (Q → ⊥) → P ⊎ Q → ⊥
neither h k (inl p) = h p
neither h k (inr q) = k q

module _ (q : ℕ) (Tight : ℕ → ℕ → Type 0) (some : 0 < q) (periodic : IsPeriodic q Tight) (a b : ℕ)
    (t : Around)
    (around : AreAround q Tight a b t) where
  alone : (kind : FaceKind) → IsMaximalFace q Tight kind a b → IsExtended q Tight kind a b → ⊥
  alone kind h = maximal_is_not_extended q Tight some periodic kind a b h

  pub flag_says_maximal : (kind : FaceKind) → flag kind t ≡ true → IsMaximalFace q Tight kind a b
  flag_says_maximal Vertex e =
      let both = and_parts t.middle
      (not (((((t.east || t.west) || t.north) || t.south) || t.north_west) || t.south_east))
      e in
      let five = or_parts ((((t.east || t.west) || t.north) || t.south) || t.north_west)
      t.south_east (not-true _ both.1) in
      let four = or_parts (((t.east || t.west) || t.north) || t.south) t.north_west five.0 in
      let three = or_parts ((t.east || t.west) || t.north) t.south four.0 in
      let two = or_parts (t.east || t.west) t.north three.0 in
      let one = or_parts t.east t.west two.0 in
      maximal_unless_extended q Tight some periodic Vertex a b
      (vertex q Tight some periodic a b (around.middle.0 both.0))
      (neither (neither (off t.east around.east one.0) (off t.west around.west one.1))
      (neither (neither (off t.north around.north two.1) (off t.south around.south three.1))
      (neither (off t.north_west around.north_west four.1)
      (off t.south_east around.south_east five.1))))
  flag_says_maximal Horizontal e =
      let both = and_parts (t.middle && t.east) (not (t.north || t.south_east)) e in
      let pairs = and_parts t.middle t.east both.0 in
      let others = or_parts t.north t.south_east (not-true _ both.1) in
      maximal_unless_extended q Tight some periodic Horizontal a b
      (horizontal q Tight some periodic a b (around.middle.0 pairs.0) (around.east.0 pairs.1))
      (neither (off t.north around.north others.0) (off t.south_east around.south_east others.1))
  flag_says_maximal Vertical e =
      let both = and_parts (t.middle && t.north) (not (t.east || t.north_west)) e in
      let pairs = and_parts t.middle t.north both.0 in
      let others = or_parts t.east t.north_west (not-true _ both.1) in
      maximal_unless_extended q Tight some periodic Vertical a b
      (vertical q Tight some periodic a b (around.middle.0 pairs.0) (around.north.0 pairs.1))
      (neither (off t.east around.east others.0) (off t.north_west around.north_west others.1))
  flag_says_maximal Diagonal e =
      let both = and_parts (t.east && t.north) (not (t.middle || t.north_east)) e in
      let pairs = and_parts t.east t.north both.0 in
      let others = or_parts t.middle t.north_east (not-true _ both.1) in
      maximal_unless_extended q Tight some periodic Diagonal a b
      (diagonal q Tight some periodic a b (around.east.0 pairs.0) (around.north.0 pairs.1))
      (neither (off t.middle around.middle others.0) (off t.north_east around.north_east others.1))
  flag_says_maximal Lower e =
      let both = and_parts (t.middle && t.east) t.north e in
      let pairs = and_parts t.middle t.east both.0 in
      maximal_unless_extended q Tight some periodic Lower a b
      (lower q Tight some periodic a b (around.middle.0 pairs.0) (around.east.0 pairs.1)
      (around.north.0 both.1))
      (λ h. h)
  flag_says_maximal Upper e =
      let both = and_parts (t.east && t.north) t.north_east e in
      let pairs = and_parts t.east t.north both.0 in
      maximal_unless_extended q Tight some periodic Upper a b
      (upper q Tight some periodic a b (around.east.0 pairs.0) (around.north.0 pairs.1)
      (around.north_east.0 both.1))
      (λ h. h)

  pub maximal_has_flag : (kind : FaceKind) → IsMaximalFace q Tight kind a b → flag kind t ≡ true
  maximal_has_flag Vertex h =
      let none = alone Vertex h in
      and_from t.middle _ (around.middle.1
      (corner q Tight some periodic Vertex a b 0 (lit< tt) h.additive))
      (not_from_false _ (or_from ((((t.east || t.west) || t.north) || t.south) || t.north_west)
      t.south_east
      (or_from (((t.east || t.west) || t.north) || t.south) t.north_west
      (or_from ((t.east || t.west) || t.north) t.south
      (or_from (t.east || t.west) t.north
      (or_from t.east t.west (on t.east around.east (λ p. none (inl (inl p))))
      (on t.west around.west (λ p. none (inl (inr p)))))
      (on t.north around.north (λ p. none (inr (inl (inl p))))))
      (on t.south around.south (λ p. none (inr (inl (inr p))))))
      (on t.north_west around.north_west (λ p. none (inr (inr (inl p))))))
      (on t.south_east around.south_east (λ p. none (inr (inr (inr p)))))))
  maximal_has_flag Horizontal h =
      let none = alone Horizontal h in
      and_from (t.middle && t.east) _
      (and_from t.middle t.east
      (around.middle.1 (corner q Tight some periodic Horizontal a b 0 (lit< tt) h.additive))
      (around.east.1 (corner q Tight some periodic Horizontal a b 1 (lit< tt) h.additive)))
      (not_from_false _ (or_from t.north t.south_east (on t.north around.north (λ p. none (inl p)))
      (on t.south_east around.south_east (λ p. none (inr p)))))
  maximal_has_flag Vertical h =
      let none = alone Vertical h in
      and_from (t.middle && t.north) _
      (and_from t.middle t.north
      (around.middle.1 (corner q Tight some periodic Vertical a b 0 (lit< tt) h.additive))
      (around.north.1 (corner q Tight some periodic Vertical a b 1 (lit< tt) h.additive)))
      (not_from_false _ (or_from t.east t.north_west (on t.east around.east (λ p. none (inl p)))
      (on t.north_west around.north_west (λ p. none (inr p)))))
  maximal_has_flag Diagonal h =
      let none = alone Diagonal h in
      and_from (t.east && t.north) _
      (and_from t.east t.north
      (around.east.1 (corner q Tight some periodic Diagonal a b 0 (lit< tt) h.additive))
      (around.north.1 (corner q Tight some periodic Diagonal a b 1 (lit< tt) h.additive)))
      (not_from_false _ (or_from t.middle t.north_east
      (on t.middle around.middle (λ p. none (inl p)))
      (on t.north_east around.north_east (λ p. none (inr p)))))
  maximal_has_flag Lower h =
      and_from (t.middle && t.east) t.north
      (and_from t.middle t.east
      (around.middle.1 (corner q Tight some periodic Lower a b 0 (lit< tt) h.additive))
      (around.east.1 (corner q Tight some periodic Lower a b 1 (lit< tt) h.additive)))
      (around.north.1 (corner q Tight some periodic Lower a b 2 (lit< tt) h.additive))
  maximal_has_flag Upper h =
      and_from (t.east && t.north) t.north_east
      (and_from t.east t.north
      (around.east.1 (corner q Tight some periodic Upper a b 0 (lit< tt) h.additive))
      (around.north.1 (corner q Tight some periodic Upper a b 1 (lit< tt) h.additive)))
      (around.north_east.1 (corner q Tight some periodic Upper a b 2 (lit< tt) h.additive))

-- the flag of any kind is among them
pub any_of : (kind : FaceKind) (t : Around) → flag kind t ≡ true → any_flag t ≡ true
any_of Vertex t e =
    or_left _ (flag Upper t)
    (or_left _ (flag Lower t) (or_left _ (flag Diagonal t) (or_left _ (flag Vertical t)
    (or_left (flag Vertex t) (flag Horizontal t) e))))
any_of Horizontal t e =
    or_left _ (flag Upper t)
    (or_left _ (flag Lower t) (or_left _ (flag Diagonal t) (or_left _ (flag Vertical t)
    (or_right (flag Vertex t) (flag Horizontal t) e))))
any_of Vertical t e =
    or_left _ (flag Upper t)
    (or_left _ (flag Lower t) (or_left _ (flag Diagonal t) (or_right _ (flag Vertical t) e)))
any_of Diagonal t e =
    or_left _ (flag Upper t) (or_left _ (flag Lower t) (or_right _ (flag Diagonal t) e))
any_of Lower t e = or_left _ (flag Upper t) (or_right _ (flag Lower t) e)
any_of Upper t e = or_right _ (flag Upper t) e

-- that of a kind that is no triangle is among the others
edge_of : (kind : FaceKind) (t : Around) → is_triangle kind ≡ false → flag kind t ≡ true →
    edge_flag t ≡ true
edge_of Vertex t plain e =
    or_left _ (flag Diagonal t)
    (or_left _ (flag Vertical t) (or_left (flag Vertex t) (flag Horizontal t) e))
edge_of Horizontal t plain e =
    or_left _ (flag Diagonal t)
    (or_left _ (flag Vertical t) (or_right (flag Vertex t) (flag Horizontal t) e))
edge_of Vertical t plain e = or_left _ (flag Diagonal t) (or_right _ (flag Vertical t) e)
edge_of Diagonal t plain e = or_right _ (flag Diagonal t) e
edge_of Lower t plain e = absurd (true≢false plain)
edge_of Upper t plain e = absurd (true≢false plain)

-- if a kind that is no triangle has its flag, and no other before, the diagonal has it
rest_of : (t : Around) → edge_flag t ≡ true → flag Vertex t ≡ false → flag Horizontal t ≡ false →
    flag Vertical t ≡ false →
    flag Diagonal t ≡ true
rest_of t some vertex horizontal vertical =
    sym (ap (λ x. x || flag Diagonal t)
    (or_from (flag Vertex t || flag Horizontal t) (flag Vertical t)
    (or_from (flag Vertex t) (flag Horizontal t) vertex horizontal) vertical)) ∙ some

-- ---- as sets

-- what they have at an index
pub record AreFlags (alone : Alone) (b : ℕ) (t : Around) : Type 0 where
  pub each : (kind : FaceKind) → has (set_of alone kind) b ≡ flag kind t
  pub any : has alone.any b ≡ any_flag t
  pub edges : has alone.edges b ≡ edge_flag t

-- at each index they have the flags
pub all_flags : (f : FunctionData) (a : ℕ) (alone : Alone) (around : ℕ → Around) →
    IsWithinBounds f →
    ((b : ℕ) → AreFlags alone b (around b)) →
    ((b : ℕ) → b < f.order → AreAround f.order (IsTight f) a b (around b)) →
    ((b : ℕ) → f.order ≤ b → any_flag (around b) ≡ false) → AreAlone f a alone
all_flags f a alone around limits flags tells none = record {
  each = λ kind b below.
      let some : 0 < f.order = omega (arith, limits.order_low) in
      let periodic = tight_is_periodic f limits in
      let same = (flags b).each kind in (
        λ yes. flag_says_maximal f.order (IsTight f) some periodic a b (around b)
            (tells b below) kind (sym same ∙ yes),
        λ maximal. same ∙ maximal_has_flag f.order (IsTight f) some periodic a b (around b)
            (tells b below) kind maximal,
      );
  any = λ kind b below yes. (flags b).any
      ∙ any_of kind (around b) (sym ((flags b).each kind) ∙ yes);
  edges = λ kind b below plain yes. (flags b).edges
      ∙ edge_of kind (around b) plain (sym ((flags b).each kind) ∙ yes);
  rest = λ b some vertex horizontal vertical.
      (flags b).each Diagonal
      ∙ rest_of (around b) (sym (flags b).edges ∙ some) (sym ((flags b).each Vertex) ∙ vertex)
      (sym ((flags b).each Horizontal) ∙ horizontal) (sym ((flags b).each Vertical) ∙ vertical);
  apart = λ kind other b plain.
      no_other f.order (IsTight f) (omega (arith, limits.order_low))
      (tight_is_periodic f limits) kind other a b plain;
  within = λ b past. (flags b).any ∙ none b past;
}

-- no flag if neither the middle nor the east is tight
pub no_flag : (t : Around) → t.middle ≡ false → t.east ≡ false → any_flag t ≡ false
no_flag t middle east =
    or_from ((((flag Vertex t || flag Horizontal t) || flag Vertical t) || flag Diagonal t)
    || flag Lower t) (flag Upper t)
    (or_from (((flag Vertex t || flag Horizontal t) || flag Vertical t) || flag Diagonal t)
    (flag Lower t)
    (or_from ((flag Vertex t || flag Horizontal t) || flag Vertical t) (flag Diagonal t)
    (or_from (flag Vertex t || flag Horizontal t) (flag Vertical t)
    (or_from (flag Vertex t) (flag Horizontal t)
    (and_left t.middle _ middle)
    (and_left (t.middle && t.east) _ (and_left t.middle t.east middle)))
    (and_left (t.middle && t.north) _ (and_left t.middle t.north middle)))
    (and_left (t.east && t.north) _ (and_left t.east t.north east)))
    (and_left (t.middle && t.east) t.north (and_left t.middle t.east middle)))
    (and_left (t.east && t.north) t.north_east (and_left t.east t.north east))
