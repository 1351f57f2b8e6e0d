use Rattle.std.proofs.Common.{◌≡◌, ◌+◌, ◌-◌, ◌*◌, ◌/◌, ◌≤◌, min, length, refl, below_more, ap, sym, ◌∙◌, arith}
use Rattle.gj_check_minimal.specs.Tables.{IsSubadditiveUpTo}
use Rattle.gj_check_minimal.proofs.TestsInTurn.{one_fails}
use Rattle.gj_check_minimal.proofs.TableTests.{total_by}
use Rattle.gj_check_minimal.proofs.tables.has_subadditive_total.Goals as goal

pub loop-i-init : goal.loop-i-init
loop-i-init g c = λ values len periods i below from. absurd (omega arith)

pub loop-i-preserved : goal.loop-i-preserved
loop-i-preserved g c = λ values len periods.
    below_more (λ i. c.saturating_sub-from.result ≤ i → IsSubadditiveUpTo values c.args.total i)
    c.loop-i.i
    (c.loop-i.invariant values len periods)
    (λ _. (c.is_subadditive_part.ensures values len periods).0 c.if-not-is_subadditive_part.false)

pub returns-then-not-is_subadditive_part : goal.returns-then-not-is_subadditive_part
returns-then-not-is_subadditive_part g c = λ values len periods.
    one_fails _ _ _ c.if-not-is_subadditive_part.true
    (c.is_subadditive_part.ensures values len periods)
    (λ all. all c.loop-i.i (omega arith))

pub returns : goal.returns
returns g c = λ values len periods.
    let from : c.saturating_sub-from.result ≡ c.args.total + 2 - 2 * length values =
    c.saturating_sub-from.ensures ∙ ap (λ n. c.args.total + 2 - 2 * n) (sym len) in
    let end : c.min-end.result ≡ min (length values) (c.args.total / 3 + 1) =
    c.min-end.ensures ∙ ap (λ n. min n (c.args.total / 3 + 1)) (sym len) in (
      λ _. total_by values c.args.total c.saturating_sub-from.result c.min-end.result c.loop-i.i
          from end c.loop-i-test.false
          (c.loop-i.invariant values len periods),
      λ _. refl,
    )
