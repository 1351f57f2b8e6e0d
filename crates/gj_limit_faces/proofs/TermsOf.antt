-- The limits of the slack at the corners of a face, and their terms.
use Rattle.std.proofs.Common.{◌≡◌, ◌≢◌, ℕ, zero, suc, ◌+◌, ◌<◌, ℤ, pos, List, get_or, refl, arith}
use Rattle.gj_shape.specs.Faces.{limits_of, slack_from}
use Rattle.gj_shape.specs.FunctionData.{FunctionData, at}
use Rattle.gj_shape.specs.declared.faces.FaceKind.TheVariants.{Vertical, Lower, Upper}
use Rattle.gj_limit_faces.specs.declared.terms.Side.TheVariants.{Left, Value, Right}
use Rattle.gj_limit_faces.specs.Terms.{limit_by}

-- a limit of the slack at the same indices
same_limit : (xs ys zs : List ℤ) (a a' b b' s s' : ℕ) → a ≡ a' → b ≡ b' → s ≡ s' →
    slack_from (at xs a) (at ys b) (at zs s) ≡ slack_from (at xs a') (at ys b') (at zs s')
same_limit xs ys zs a a' b b' s s' e g h = cc

pub vertical_second : (f : FunctionData) (a b corner : ℕ) → corner < 2 → corner ≢ 0 →
    get_or (limits_of f Vertical a b) corner (pos 1)
    ≡ limit_by f (record { x = Value; y = Left; sum = Left; right = 0; above = 1 }) a b
vertical_second f a b zero low some = absurd (some refl)
vertical_second f a b (suc zero) low some =
    same_limit f.value f.left f.left a (a + 0) (b + 1) (b + 1) (a + b + 1) (a + 0 + (b + 1))
    (omega arith) refl (omega arith)
vertical_second f a b (suc (suc n)) low some = absurd (omega arith)

pub lower_first : (f : FunctionData) (a b : ℕ) →
    get_or (limits_of f Lower a b) 0 (pos 1)
    ≡ limit_by f (record { x = Right; y = Right; sum = Right; right = 0; above = 0 }) a b
lower_first f a b =
    same_limit f.right f.right f.right a (a + 0) b (b + 0) (a + b) (a + 0 + (b + 0))
    (omega arith) (omega arith) (omega arith)

pub lower_third : (f : FunctionData) (a b corner : ℕ) → corner < 3 → corner ≢ 0 → corner ≢ 1 →
    get_or (limits_of f Lower a b) corner (pos 1)
    ≡ limit_by f (record { x = Right; y = Left; sum = Left; right = 0; above = 1 }) a b
lower_third f a b zero low some other = absurd (some refl)
lower_third f a b (suc zero) low some other = absurd (other (omega arith))
lower_third f a b (suc (suc zero)) low some other =
    same_limit f.right f.left f.left a (a + 0) (b + 1) (b + 1) (a + b + 1) (a + 0 + (b + 1))
    (omega arith) refl (omega arith)
lower_third f a b (suc (suc (suc n))) low some other = absurd (omega arith)

pub upper_second : (f : FunctionData) (a b : ℕ) →
    get_or (limits_of f Upper a b) 1 (pos 1)
    ≡ limit_by f (record { x = Right; y = Left; sum = Right; right = 0; above = 1 }) a b
upper_second f a b =
    same_limit f.right f.left f.right a (a + 0) (b + 1) (b + 1) (a + b + 1) (a + 0 + (b + 1))
    (omega arith) refl (omega arith)
