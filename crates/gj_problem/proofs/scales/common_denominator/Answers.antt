use Rattle.std.proofs.Common.{◌≡◌, ◌+◌, ◌≤◌, ◌^◌, ℕ, List, [], ◌∷◌, ◌++◌, map, take, drop, refl, sym, ap, subst, ◌∙◌}
use Rattle.std.proofs.Math.Nat.{one-dvd}
use Rattle.std.proofs.lemmas.List.{take_more, take_all}
use Rattle.std.proofs.lemmas.List.Elements.{All-nil}
use Rattle.gj_frac.proofs.Refusals.{on_err}
use Rattle.gj_frac.specs.declared.Frac.{Frac}
use Rattle.gj_shape.specs.Given.{IsLeastCommonDenominator}
use Rattle.gj_shape.proofs.LeastDenominator.{Divides, least_common_more}
use Rattle.gj_problem.specs.WideRows.{numbers_of}
use Rattle.gj_problem.specs.declared.problem.Entry.{Entry}
use Rattle.gj_problem.proofs.WideScales.{least_grows, numbers_split}
use Rattle.gj_problem.proofs.scales.common_denominator.Goals as goal

values_append : (es : List Entry) (e : Entry) → map (λ (f : Entry). f.value) (es ++ e ∷ [])
    ≡ map (λ (f : Entry). f.value) es ++ e.value ∷ []
values_append [] e = refl
values_append (f ∷ es) e = ap (λ (vs : List Frac). f.value ∷ vs) (values_append es e)

of_none : IsLeastCommonDenominator [] 1
of_none = record { common = All-nil (Divides 1); least = λ d h. one-dvd d }

pub loop-entry-init : goal.loop-entry-init
loop-entry-init c = least_common_more [] c.args.right 1 c.in_ok-least.least of_none
    c.in_ok-least.ensures.multiple

pub loop-entry-preserved : goal.loop-entry-preserved
loop-entry-preserved c =
    let es = c.args.entries.now in
    let i = c.loop-entry.entry-index in
    let e = c.entry-item.result in
    let vs = map (λ (f : Entry). f.value) (take i es) in
    let next : map (λ (f : Entry). f.value) (take (i + 1) es) ≡ vs ++ e.value ∷ [] =
    ap (λ (fs : List Entry). map (λ (f : Entry). f.value) fs)
    (take_more es i e c.loop-entry-test.true ∙ ap (λ z. take i es ++ z ∷ []) (sym c.entry-item.is))
    ∙ values_append (take i es) e in
    subst (λ (ws : List Frac). IsLeastCommonDenominator (c.args.right ∷ ws) c.in_ok-least-2.least)
    (sym next)
    (least_common_more (c.args.right ∷ vs) e.value c.loop-entry.least c.in_ok-least-2.least
    c.loop-entry.invariant
    c.in_ok-least-2.ensures.multiple)

pub returns-clause-least : goal.returns-clause-least
returns-clause-least c =
    subst (λ (es : List Entry). IsLeastCommonDenominator
    (c.args.right ∷ map (λ (f : Entry). f.value) es) c.loop-entry.least)
    (take_all c.loop-entry.entry-index c.args.entries.now c.loop-entry-test.false)
    c.loop-entry.invariant

pub returns-in_err-least-clause-wide : goal.returns-in_err-least-clause-wide
returns-in_err-least-clause-wide c =
    let right = c.args.right in
    let es = c.args.entries.now in
    let (m, multiple, over) = c.in_err-least.ensures.wide in
    on_err c.from_residual.result ((n : ℕ) → IsLeastCommonDenominator (numbers_of right es) n →
    2 ^ 128 ≤ n)
    (λ n least. least_grows (right ∷ []) (map (λ (f : Entry). f.value) es) (numbers_of right es) m n
    (2 ^ 128) refl
    (least_common_more [] right 1 m of_none multiple) least over)

pub returns-in_err-least-2-clause-wide : goal.returns-in_err-least-2-clause-wide
returns-in_err-least-2-clause-wide c =
    let right = c.args.right in
    let es = c.args.entries.now in
    let i = c.loop-entry.entry-index in
    let e = c.entry-item.result in
    let (m, multiple, over) = c.in_err-least-2.ensures.wide in
    on_err c.from_residual-in_err-least-2.result ((n : ℕ) →
    IsLeastCommonDenominator (numbers_of right es) n → 2 ^ 128 ≤ n)
    (λ n least. least_grows (numbers_of right (take i es) ++ e.value ∷ [])
    (map (λ (f : Entry). f.value) (drop (i + 1) es))
    (numbers_of right es) m n (2 ^ 128)
    (numbers_split right es i e c.loop-entry-test.true c.entry-item.is)
    (least_common_more (numbers_of right (take i es)) e.value c.loop-entry.least m
    c.loop-entry.invariant multiple) least over)
