use Rattle.std.proofs.Common.{◌≡◌, ◌*◌, ◌/◌, ◌%◌, ◌<◌, inl, inr, sym, ap, subst, ◌∙◌, arith}
use Rattle.std.proofs.lemmas.Nat.Gcd.{mod-eq-zero_of_dvd}
use Rattle.gj_transform.proofs.MadeRestriction.{step_divides}
use Rattle.gj_transform.proofs.restriction.step_of.Goals as goal
use Rattle.gj_transform.proofs.restriction.step_of.Goals.{then-order-lt2-via-then-order-lt2, then-order-lt2-via-else-order-lt2+then-order-ne0}

pub returns-then-order-lt2-clause-none : goal.returns-then-order-lt2-clause-none
returns-then-order-lt2-clause-none c =
    let d = c.args.order in
    elim c.then-order-lt2.branch [
      | then-order-lt2-via-then-order-lt2 w ↦ inl w.if-order-lt2.true
      | then-order-lt2-via-else-order-lt2+then-order-ne0 w ↦
          inr (λ divides. w.if-order-ne0.true (ap (λ q. q % d) w.order.ensures.value
          ∙ mod-eq-zero_of_dvd d divides))
    ]

pub returns-clause-some : goal.returns-clause-some
returns-clause-some c =
    let q = c.args.shape.now.order in
    let d = c.args.order in
    let low = c.order.ensures.limits.order_low in
    let whole : q % d ≡ 0 = ap (λ n. n % d) (sym c.order.ensures.value) ∙ c.if-order-ne0.false in
    let divides = step_divides q d whole in
    let none : q / d ≡ 0 → ⊥ = λ e. let scaled = ap (λ n. d * n) e in omega arith in
    subst (λ n. 0 < n / d) (sym c.order-2.ensures.value) (omega (arith, none))

pub returns-clause-divides : goal.returns-clause-divides
returns-clause-divides c =
    let q = c.args.shape.now.order in
    let d = c.args.order in
    let whole : q % d ≡ 0 = ap (λ n. n % d) (sym c.order.ensures.value) ∙ c.if-order-ne0.false in
    step_divides q d whole ∙ ap (λ n. d * (n / d)) (sym c.order-2.ensures.value)
