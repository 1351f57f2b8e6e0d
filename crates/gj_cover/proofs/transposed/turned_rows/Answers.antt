use Rattle.std.proofs.Common.{◌<◌, ◌+◌, ◌∷◌, [], length, ap, sym, ◌∙◌, arith}
use Rattle.std.proofs.lemmas.List.{length-append, get_or_default}
use Rattle.gj_cover.specs.SetRows.{in_row}
use Rattle.gj_cover.proofs.Turned.{one_more_turned}
use Rattle.gj_cover.proofs.transposed.turned_rows.Goals as goal

pub loop-a-init : goal.loop-a-init
loop-a-init c = (ap length c.in_ok-turned.ensures.items, λ a s below. absurd (omega arith))

pub loop-a-preserved : goal.loop-a-preserved
loop-a-preserved c =
    let items = c.in_ok-push.ensures.items in
    let len = ap length items ∙ length-append c.loop-a.turned.items (c.turned.result ∷ []) in (
      len ∙ ap (λ n. n + 1) c.loop-a.invariant.0,
      λ a s a_below s_below. ap (λ l. in_row l a s) items
          ∙ one_more_turned c.args.rows.now c.loop-a.turned.items _ c.turned.result c.loop-a.a
          c.loop-a.invariant.0 c.loop-a-test.true
          (sym (get_or_default _ _ _ _ c.loop-a-test.true)) c.turned.ensures
          c.loop-a.invariant.1 a s a_below s_below,
    )

pub returns-clause-length : goal.returns-clause-length
returns-clause-length c = c.loop-a.invariant.0 ∙ omega arith

pub returns-clause-turned : goal.returns-clause-turned
returns-clause-turned c a s a_below s_below =
    c.loop-a.invariant.1 a s (let low : a < c.loop-a.a = omega arith in low) s_below
