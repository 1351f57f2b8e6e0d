use Rattle.std.proofs.Common.{◌+◌, ◌*◌, ℕ, subst, sym}
use Rattle.gj_check_minimal.specs.Tables.{HasSubadditiveTotal}
use Rattle.gj_check_minimal.proofs.TestsInTurn.{one_fails}
use Rattle.gj_check_minimal.proofs.tables.has_subadditive_totals.Goals as goal

pub returns-then-not-has_subadditive_total : goal.returns-then-not-has_subadditive_total
returns-then-not-has_subadditive_total g c = λ values len periods.
    one_fails _ _ _ c.if-not-has_subadditive_total.true
    (c.has_subadditive_total.ensures values len periods) (λ all. all.0)

pub returns-then-not-has_subadditive_total-2 : goal.returns-then-not-has_subadditive_total-2
returns-then-not-has_subadditive_total-2 g c = λ values len periods.
    one_fails _ _ _ c.if-not-has_subadditive_total-2.true
    (c.has_subadditive_total-2.ensures values len periods)
    (λ all. subst (λ (n : ℕ). HasSubadditiveTotal values (c.args.place + n)) len all.1)

pub returns : goal.returns
returns g c = λ values len periods.
    let first = (c.has_subadditive_total.ensures values len periods).0
    c.if-not-has_subadditive_total.false in
    let second = (c.has_subadditive_total-2.ensures values len periods).0
    c.if-not-has_subadditive_total-2.false in
    let third = c.has_subadditive_total-3.ensures values len periods in (
      λ t. (
        first,
        subst (λ (n : ℕ). HasSubadditiveTotal values (c.args.place + n)) (sym len) second,
        subst (λ (n : ℕ). HasSubadditiveTotal values (c.args.place + 2 * n)) (sym len) (third.0 t),
      ),
      λ all. third.1 (subst (λ (n : ℕ). HasSubadditiveTotal values (c.args.place + 2 * n)) len
          all.2),
    )
