use Rattle.std.proofs.Common.{inl, inr, refl}
use Rattle.std.proofs.lemmas.Bool.{cases_Bool}
use Rattle.gj_limit_check_halves.proofs.DifferentHalves.{equal, unequal, left_differs, value_differs, right_differs, none_differs}
use Rattle.gj_limit_check_halves.proofs.halves.are_different.Goals as goal

pub returns-then-ne : goal.returns-then-ne
returns-then-ne c =
    let h = c.args.halves.now in
    (λ _. left_differs h c.requires (unequal c.ne.result _ _ c.ne.ensures c.if-ne.true), λ _. refl)

pub returns-then-ne-2 : goal.returns-then-ne-2
returns-then-ne-2 c =
    let h = c.args.halves.now in (
      λ _. value_differs h c.requires (unequal c.ne-2.result _ _ c.ne-2.ensures c.if-ne-2.true),
      λ _. refl,
    )

pub returns : goal.returns
returns c =
    let h = c.args.halves.now in (
      λ t. right_differs h c.requires (unequal c.ne-3.result _ _ c.ne-3.ensures t),
      λ m. elim (cases_Bool c.ne-3.result) [
        | inl same ↦ same
        | inr other ↦ absurd (none_differs h (equal c.ne.result _ _ c.ne.ensures c.if-ne.false)
            (equal c.ne-2.result _ _ c.ne-2.ensures c.if-ne-2.false)
            (equal c.ne-3.result _ _ c.ne-3.ensures other) m)
      ],
    )
