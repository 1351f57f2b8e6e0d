use Rattle.std.proofs.Common.{◌+◌, ◌∷◌, [], length, ap, ◌∙◌, arith}
use Rattle.std.proofs.lemmas.List.{length-append}
use Rattle.gj_cover.specs.SetRows.{in_row}
use Rattle.gj_cover.proofs.SetRows.{row_past, no_more}
use Rattle.gj_cover.proofs.transposed.no_pairs.Goals as goal

pub loop-a-init : goal.loop-a-init
loop-a-init c = (
  ap length c.in_ok-rows.ensures.items,
  λ a b. ap
      (λ l. in_row l a b) c.in_ok-rows.ensures.items ∙ row_past [] a b (omega arith),
)

pub loop-a-preserved : goal.loop-a-preserved
loop-a-preserved c =
    let items = c.in_ok-push.ensures.items in (
      ap length items ∙ length-append c.loop-a.rows.items (c.empty.result ∷ [])
          ∙ ap (λ n. n + 1) c.loop-a.invariant.0,
      λ a b. ap (λ l. in_row l a b) items
          ∙ no_more c.loop-a.rows.items c.empty.result c.loop-a.invariant.1 c.empty.ensures a b,
    )
