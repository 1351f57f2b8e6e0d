use Rattle.std.proofs.Common.{eq-eqb, inl, inr, sym, ◌∙◌}
use Rattle.std.proofs.Math.Nat.{mod-eq_of_lt}
use Rattle.std.proofs.lemmas.Bool.{eqb-true}
use Rattle.gj_limit_check.proofs.faces.projects_on.Goals as goal

pub returns : goal.returns
returns c =
    let at_a = mod-eq_of_lt c.requires.a in
    let at_b = mod-eq_of_lt c.requires.b in
    let at_i = mod-eq_of_lt c.requires.interval in
    let value = c.wrapped.ensures.value in (
      λ e. inr (inr (sym value ∙ eqb-true c.wrapped.result c.args.interval e ∙ sym at_i)),
      λ h. elim h [
        | inl e ↦ absurd (c.if-face-interval.false (sym at_a ∙ e ∙ at_i))
        | inr other ↦ elim other [
          | inl e ↦ absurd (c.if-face-interval-2.false (sym at_b ∙ e ∙ at_i))
          | inr e ↦ eq-eqb c.wrapped.result c.args.interval (value ∙ e ∙ at_i)
        ]
      ],
    )
