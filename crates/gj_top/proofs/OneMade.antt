-- The commands `times`, `mirror` and `restrict` have one answer.
use Rattle.std.proofs.Common.{◌≡◌, inl, inr, ℕ, zero, suc, ◌*◌, ◌<◌, List, refl, sym, ap, subst, ◌∙◌, arith}
use Rattle.std.specs.Int.{◌∣◌}
use Rattle.std.proofs.Math.Nat.{mul_comm, mul_assoc, dvd-mul_left, dvd-mul_right}
use Rattle.gj_shape.specs.FunctionData.{FunctionData, IsWithinBounds}
use Rattle.gj_function_text.specs.FunctionText.{IsCanonicalText}
use Rattle.gj_transform.specs.Transforms.{HasNoRestriction}
use Rattle.gj_transform.proofs.OneTransform.{one_times, one_mirror, one_restriction}
use Rattle.gj_top.specs.declared.reply.End.TheVariants as end
use Rattle.gj_top.specs.Transform.{IsTimesText, IsTimesReply, IsMirrorText, IsRestrictionText, IsRestrictionReply}
use Rattle.gj_top.proofs.Determined.{AnswersOne}
use Rattle.gj_top.proofs.TextLaws.{one_canonical}

-- a function has one canonical text
one_written : (g h : FunctionData) (x y : List ℕ) → IsWithinBounds h → g ≡ h → IsCanonicalText x g →
    IsCanonicalText y h → x ≡ y
one_written g h x y l same p q = one_canonical h x y l (subst (IsCanonicalText x) same p) q

-- ---- times

factor_some : (n : ℕ) (f g : FunctionData) → IsWithinBounds g → g.order ≡ f.order * n → 0 < n
factor_some zero f g l e = let low = l.order_low in absurd (omega arith)
factor_some (suc n) f g l e = omega arith

one_times_text : (n j : ℕ) (f : FunctionData) (x y : List ℕ) → IsWithinBounds f →
    IsTimesText n j f x → IsTimesText n j f y → x ≡ y
one_times_text n j f x y l h k =
    let some = factor_some n f h.function h.within h.is_times.order in
    one_written h.function k.function x y k.within
    (one_times f h.function k.function n j l h.within k.within some h.is_times k.is_times) h.spelled
    k.spelled

order_low : (n j : ℕ) (f : FunctionData) (x y : List ℕ) → IsTimesText n j f x →
    IsTimesReply n j f end.OrderLimit y → ⊥
order_low n j f x y h k =
    let high = h.within.order_high in
    let same = h.is_times.order in
    let above = k.0 in
    absurd (omega arith)

pub one_times_reply : (n j : ℕ) → AnswersOne (IsTimesReply n j)
one_times_reply n j f l end.Done end.Done x y h k = (refl, one_times_text n j f x y l h k)
one_times_reply n j f l end.Done end.OrderLimit x y h k = absurd (order_low n j f x y h k)
one_times_reply n j f l end.OrderLimit end.Done x y h k = absurd (order_low n j f y x k h)
one_times_reply n j f l end.OrderLimit end.OrderLimit x y h k = (refl, h.1 ∙ sym k.1)
one_times_reply n j f l end.Done d x y h k = absurd k
one_times_reply n j f l end.OrderLimit d x y h k = absurd k
one_times_reply n j f l e d x y h k = absurd h

-- ---- mirror

pub one_mirror_text : (f : FunctionData) (x y : List ℕ) → IsWithinBounds f → IsMirrorText f x →
    IsMirrorText f y → x ≡ y
one_mirror_text f x y l h k =
    one_written h.function k.function x y k.within
    (one_mirror f h.function k.function l h.within k.within h.is_mirror k.is_mirror) h.spelled
    k.spelled

-- ---- restrict

-- a function with a restriction of order d has one
not_bad : (d : ℕ) (f : FunctionData) (x : List ℕ) → IsRestrictionText d f x → HasNoRestriction f d →
    ⊥
not_bad d f x h (inl low) =
    let order = h.is_restriction.order in
    let some = h.within.order_low in
    absurd (omega arith)
not_bad d f x h (inr (inl none)) =
    let r = h.is_restriction in
    none (subst (λ (q : ℕ). d ∣ q) (sym r.divides) (dvd-mul_right d r.step))
not_bad d f x h (inr (inr none)) =
    let r = h.is_restriction in
    let g = h.function in
    let place : f.place * d ≡ g.place * f.order =
    ap (λ p. p * d) r.place ∙ mul_assoc g.place r.step d
    ∙ ap (λ m. g.place * m) (mul_comm r.step d ∙ sym r.divides) in
    none (subst (λ (p : ℕ). f.order ∣ p) (sym place) (dvd-mul_left f.order g.place))

one_restriction_text : (d : ℕ) (f : FunctionData) (x y : List ℕ) → IsWithinBounds f →
    IsRestrictionText d f x → IsRestrictionText d f y → x ≡ y
one_restriction_text d f x y l h k =
    one_written h.function k.function x y k.within
    (one_restriction f h.function k.function d l h.within k.within h.is_restriction
    k.is_restriction) h.spelled k.spelled

pub one_restriction_reply : (d : ℕ) → AnswersOne (IsRestrictionReply d)
one_restriction_reply d f l end.Done end.Done x y h k = (refl, one_restriction_text d f x y l h k)
one_restriction_reply d f l end.Done end.BadOrder x y h k = absurd (not_bad d f x h k.0)
one_restriction_reply d f l end.BadOrder end.Done x y h k = absurd (not_bad d f y k h.0)
one_restriction_reply d f l end.BadOrder end.BadOrder x y h k = (refl, h.1 ∙ sym k.1)
one_restriction_reply d f l end.Done g x y h k = absurd k
one_restriction_reply d f l end.BadOrder g x y h k = absurd k
one_restriction_reply d f l e g x y h k = absurd h
