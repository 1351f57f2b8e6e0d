-- The command `group` has one answer.
use Rattle.std.proofs.Common.{◌≡◌, ℕ, pos, ◌<◌, ◌≤◌, ◌++◌, List, codes, refl, sym, ap, ap₂, subst, ◌∙◌, arith}
use Rattle.std.proofs.lemmas.Int.{ints}
use Rattle.gj_lemmas.proofs.Choices.{same_some}
use Rattle.gj_frac.proofs.SameValues.{same_from_is}
use Rattle.gj_function_lines.specs.FunctionLines.{line, order_line, place_line}
use Rattle.gj_shape.specs.Elimination.{Solution}
use Rattle.gj_shape.specs.FunctionData.{FunctionData, IsWithinBounds, at}
use Rattle.gj_shape.specs.Perturbation.{AreHalvesOf}
use Rattle.gj_shape.specs.declared.extremality.Halves.{Halves}
use Rattle.gj_extreme.proofs.OneDecision.{one_pair}
use Rattle.gj_extreme.proofs.OneViolation.{one_violation}
use Rattle.gj_group.specs.Decision.{greatest_group_order, SaysOfTable, AreGroupHalves, IsFound}
use Rattle.gj_group.specs.declared.decision.GroupAnswer.{GroupAnswer}
use Rattle.gj_group.specs.declared.decision.GroupAnswer.TheVariants.{NotMinimal, Extreme, NotExtreme}
use Rattle.gj_verdict_text.specs.GroupText.{verdict_lines}
use Rattle.gj_top.specs.declared.reply.End.TheVariants as end
use Rattle.gj_top.specs.Group.{IsGroupVerdict, IsGroupReply}
use Rattle.gj_top.proofs.Determined.{AnswersOne}

-- the halves of the kernel of a table's rows are one pair
one_group_halves : (f : FunctionData) (g h : Halves) → AreGroupHalves f g → AreGroupHalves f h →
    g ≡ h
one_group_halves f g h a b =
    let same : b.solution ≡ a.solution =
    same_some b.solution a.solution (sym b.solves ∙ a.solves) in
    one_pair f 1 (at a.solution.numbers) g h a.halves
    (subst (λ (s : Solution). AreHalvesOf f 1 (at s.numbers) h) same b.halves)

-- a table has one verdict
one_found : (f : FunctionData) (a b : GroupAnswer) → IsWithinBounds f → SaysOfTable f a →
    SaysOfTable f b → IsFound f a → IsFound f b → a ≡ b
one_found f (NotMinimal v) (NotMinimal w) l s t h k = ap NotMinimal (one_violation f v w l h k)
one_found f (NotMinimal v) Extreme l s t h k = absurd (s.0 t.minimal)
one_found f (NotMinimal v) (NotExtreme g) l s t h k = absurd (s.0 t.0)
one_found f Extreme (NotMinimal v) l s t h k = absurd (t.0 s.minimal)
one_found f Extreme Extreme l s t h k = refl
one_found f Extreme (NotExtreme g) l s t h k = absurd (t.1 s)
one_found f (NotExtreme g) (NotMinimal v) l s t h k = absurd (t.0 s.0)
one_found f (NotExtreme g) Extreme l s t h k = absurd (s.1 t)
one_found f (NotExtreme g) (NotExtreme o) l s t h k = ap NotExtreme (one_group_halves f g o h k)

one_group_text : (f : FunctionData) (x y : List ℕ) → IsWithinBounds f → IsGroupVerdict f x →
    IsGroupVerdict f y → x ≡ y
one_group_text f x y l h k =
    let low = l.order_low in
    let answer : h.answer ≡ k.answer =
    one_found f h.answer k.answer l h.says k.says h.found k.found in
    let place : h.spelled.place ≡ k.spelled.place =
    same_from_is h.spelled.place k.spelled.place (pos f.place) (pos f.order)
    (omega (arith, ints)) h.spelled.place_is k.spelled.place_is in
    h.spelled.spelled
    ∙ ap₂ (λ p a. line (codes "gj-group 1") ++ order_line f.order ++ place_line p ++ verdict_lines a
    ++ line (codes "end")) place answer
    ∙ sym k.spelled.spelled

few_or_many : (n m : ℕ) → n ≤ m → m < n → ⊥
few_or_many n m few many = omega arith

pub one_group_reply : AnswersOne IsGroupReply
one_group_reply f l end.Done end.Done x y h k = (refl, one_group_text f x y l h k)
one_group_reply f l end.Done end.Wide x y h k = absurd (h.narrow k.minimal k.wide)
one_group_reply f l end.Done end.OrderLimit x y h k =
    absurd (few_or_many f.order greatest_group_order h.few k.0)
one_group_reply f l end.Wide end.Done x y h k = absurd (k.narrow h.minimal h.wide)
one_group_reply f l end.Wide end.Wide x y h k = (refl, h.spelled ∙ sym k.spelled)
one_group_reply f l end.Wide end.OrderLimit x y h k =
    absurd (few_or_many f.order greatest_group_order h.few k.0)
one_group_reply f l end.OrderLimit end.Done x y h k =
    absurd (few_or_many f.order greatest_group_order k.few h.0)
one_group_reply f l end.OrderLimit end.Wide x y h k =
    absurd (few_or_many f.order greatest_group_order k.few h.0)
one_group_reply f l end.OrderLimit end.OrderLimit x y h k = (refl, h.1 ∙ sym k.1)
one_group_reply f l end.Done d x y h k = absurd k
one_group_reply f l end.Wide d x y h k = absurd k
one_group_reply f l end.OrderLimit d x y h k = absurd k
one_group_reply f l e d x y h k = absurd h
