-- The tests of minimality of a half.
use Rattle.std.proofs.Common.{◌≡◌, ◌↔◌, ℕ, ◌+◌, ◌-◌, ◌%◌, ◌<◌, ℤ, pos, ◌+ℤ◌, ◌≤ℤ◌, List, length, refl, sym, ap, subst, ◌∙◌, arith}
use Rattle.std.proofs.Math.Nat.{add-mod_right, mod-lt}
use Rattle.std.proofs.lemmas.Int.{ints}
use Rattle.std.proofs.lemmas.List.{get_or_default}
use Rattle.gj_shape.specs.Faces.{corners_of, limits_of}
use Rattle.gj_shape.specs.FunctionData.{FunctionData, at}
use Rattle.gj_shape.specs.declared.faces.FaceKind.{FaceKind}
use Rattle.gj_shape.specs.declared.faces.FaceKind.TheVariants.{Vertex, Horizontal, Vertical, Diagonal, Lower, Upper}
use Rattle.gj_shape.proofs.AtLemmas.{at_wrapped}
use Rattle.gj_theory.proofs.Everywhere.{at_same, opposite_index}
use Rattle.gj_check_minimal.specs.Numerators.{AreOpposite}
use Rattle.gj_check_minimal.specs.Tests.{HasNonnegativeValues, IsSymmetric, IsSubadditiveRow}
use Rattle.gj_limit_faces.specs.Terms.{AreTermsOf}
use Rattle.gj_limit_faces.specs.declared.terms.Terms.{Terms}
use Rattle.gj_limit_check_halves.specs.declared.half.Half.{Half}
use Rattle.gj_limit_check_halves.specs.Half.{IsHalf, data_of}
use Rattle.gj_limit_check_halves.specs.RowTests.{PassesTerms, PassesCorner, PassesKind}
use Rattle.gj_limit_check_halves.proofs.HalfNumbers.{scale_is}

-- ---- signs

pub none_negative : (h : Half) → IsHalf h → HasNonnegativeValues (data_of h)
none_negative h half i below =
    ((half.value.between i).0, (half.right.between i).0, (half.left.between (i + 1)).0)

-- ---- symmetry

-- the limits from the right at all points give those from the left
turned : (xs ys : List ℤ) (n k i : ℕ) (s : ℤ) → length xs ≡ n → length ys ≡ n → i < n →
    ((j : ℕ) → j < n → at xs j +ℤ at ys (k + (n - j)) ≡ s) →
    at ys (i + 1) +ℤ at xs (k + (n - (i + 1))) ≡ s
turned xs ys n k i s xs_len ys_len below h =
    let some : 0 < n = omega arith in
    let j = k + (n - (i + 1)) in
    let whole : j + (i + 1) ≡ k + n = omega arith in
    let here = at_wrapped xs j (j % n) n xs_len refl in
    let there = at_same ys (i + 1) (k + (n - j % n)) n ys_len
    (opposite_index j (i + 1) k n some (ap (λ x. x % n) whole ∙ add-mod_right k n)) in
    let sum = h (j % n) (mod-lt j some) in
    omega (arith, ints)

pub symmetric_half : (h : Half) → IsHalf h →
    (AreOpposite h.value.now h.value.now h.place h.scale
    × AreOpposite h.right.now h.left.now h.place h.scale)
    ↔ IsSymmetric (data_of h)
symmetric_half h half =
    let n = h.order in
    let Across = λ (xs ys : List ℤ) (m : ℕ) (s : ℤ). (i : ℕ) → i < m →
    at xs i +ℤ at ys (h.place + (m - i)) ≡ s in
    let over = λ (xs ys : List ℤ) (len : length xs ≡ n) (all : AreOpposite xs ys h.place h.scale).
    subst (Across xs ys n) (sym (scale_is h half)) (subst (λ m. Across xs ys m h.scale) len all) in
    let back = λ (xs ys : List ℤ) (len : length xs ≡ n) (all : Across xs ys n (pos (data_of h).scale)).
    subst (λ m. Across xs ys m h.scale) (sym len) (subst (Across xs ys n) (scale_is h half) all) in (
      λ both i below.
          let limits = over h.right.now h.left.now half.right.length both.1 in (
            over h.value.now h.value.now half.value.length both.0 i below,
            (
              limits i below,
              turned h.right.now h.left.now n h.place i (pos (data_of h).scale) half.right.length
                  half.left.length below
                  limits,
            ),
          ),
      λ all. (
        back h.value.now h.value.now half.value.length (λ i below. (all i below).0),
        back h.right.now h.left.now half.right.length (λ i below. (all i below).1.0),
      ),
    )

-- ---- limits of the slack

-- a corner of a face has a limit
limit_there : (f : FunctionData) (kind : FaceKind) (a b corner : ℕ) →
    corner < length (corners_of kind 0 0) →
    corner < length (limits_of f kind a b)
limit_there f Vertex a b corner low = low
limit_there f Horizontal a b corner low = low
limit_there f Vertical a b corner low = low
limit_there f Diagonal a b corner low = low
limit_there f Lower a b corner low = low
limit_there f Upper a b corner low = low

-- the limits that its terms make are those at the corner
pub corner_by_terms : (f : FunctionData) (kind : FaceKind) (corner : ℕ) (t : Terms) (a : ℕ) →
    AreTermsOf kind corner t →
    corner < length (corners_of kind 0 0) → PassesTerms f t a ↔ PassesCorner f kind a corner
corner_by_terms f kind corner t a is low =
    let same = λ (b : ℕ). sym (is f a b) ∙ get_or_default (limits_of f kind a b) corner (pos 1)
    (pos 0) (limit_there f kind a b corner low) in (
      λ h b from below. subst (λ x. pos 0 ≤ℤ x) (same b) (h b from below),
      λ h b from below. subst (λ x. pos 0 ≤ℤ x) (sym (same b)) (h b from below),
    )

-- ---- kinds of faces

pub kind_of_row : (f : FunctionData) (a : ℕ) (kind : FaceKind) → IsSubadditiveRow f a →
    PassesKind f kind a
kind_of_row f a Vertex h c low b from below = h b from below Vertex c low
kind_of_row f a Horizontal h c low b from below = h b from below Horizontal c low
kind_of_row f a Vertical h c low b from below = h b from below Vertical c low
kind_of_row f a Diagonal h c low b from below = h b from below Diagonal c low
kind_of_row f a Lower h c low b from below = h b from below Lower c low
kind_of_row f a Upper h c low b from below = h b from below Upper c low

-- all kinds
pub record PassKinds (f : FunctionData) (a : ℕ) : Type 0 where
  pub vertex : PassesKind f Vertex a
  pub horizontal : PassesKind f Horizontal a
  pub vertical : PassesKind f Vertical a
  pub diagonal : PassesKind f Diagonal a
  pub lower : PassesKind f Lower a
  pub upper : PassesKind f Upper a

pub row_of_kinds : (f : FunctionData) (a : ℕ) → PassKinds f a → IsSubadditiveRow f a
row_of_kinds f a h b from below Vertex c low = h.vertex c low b from below
row_of_kinds f a h b from below Horizontal c low = h.horizontal c low b from below
row_of_kinds f a h b from below Vertical c low = h.vertical c low b from below
row_of_kinds f a h b from below Diagonal c low = h.diagonal c low b from below
row_of_kinds f a h b from below Lower c low = h.lower c low b from below
row_of_kinds f a h b from below Upper c low = h.upper c low b from below
