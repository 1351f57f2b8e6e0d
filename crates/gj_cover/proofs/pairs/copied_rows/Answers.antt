use Rattle.std.proofs.Common.{◌≡◌, ◌≤◌, ◌<◌, ◌+◌, ◌↔◌, ◌∷◌, [], List, false, length, IsTrue, ap, sym, ◌∙◌, subst}
use Rattle.std.proofs.lemmas.List.{length-append}
use Rattle.gj_loops.specs.IndexSets.{has}
use Rattle.gj_loops.specs.declared.index_set.IndexSet.{IndexSet}
use Rattle.gj_shape.specs.Additive.{IsTight}
use Rattle.gj_cover.specs.SetRows.{in_row}
use Rattle.gj_cover.proofs.MirroredPairs.{row_more}
use Rattle.gj_cover.proofs.SetRows.{round_more, within_more}
use Rattle.gj_cover.proofs.pairs.copied_rows.Goals as goal

pub loop-a-preserved : goal.loop-a-preserved
loop-a-preserved c =
    let f = c.args.shape.now in
    let q = f.order in
    let n = c.loop-a.a in
    let rows = c.loop-a.rows.items in
    let row = c.round.result in
    let items = c.in_ok-push.ensures.items in
    let is = c.order-order.ensures.value in
    let len = ap (λ (l : List IndexSet). length l) items ∙ length-append rows (row ∷ []) in (
      len ∙ ap (λ m. m + 1) c.loop-a.invariant.0,
      λ a b below b_below. subst (λ l. IsTrue (in_row l a b) ↔ IsTight f a b) (sym items)
          (row_more (IsTight f) q n rows row c.loop-a.invariant.0
          (λ k k_below.
          let same = c.round.ensures.same k (subst (λ m. k < m) (sym is) k_below) in
          let told = c.row.ensures.tells k (subst (λ m. k < m) (sym c.requires.order) k_below) in
          let tight = c.requires.tell n k in
          (λ h. tight.0 (told.0 (sym same ∙ h)), λ h. same ∙ told.1 (tight.1 h)))
          c.loop-a.invariant.1 a b below b_below),
      λ a below. subst (λ l. in_row l a q ≡ in_row l a 0) (sym items)
          (round_more q n rows row c.loop-a.invariant.0
          (subst (λ m. has row m ≡ has row 0) is c.round.ensures.round)
          c.loop-a.invariant.2 a below),
      λ a b below past. subst (λ l. in_row l a b ≡ false) (sym items)
          (within_more q n rows row c.loop-a.invariant.0
          (λ k behind. c.round.ensures.within k (subst (λ m. m < k) (sym is) behind))
          c.loop-a.invariant.3 a b below past),
    )

pub round-requires-clause-within : goal.round-requires-clause-within
round-requires-clause-within c b past =
    c.row.ensures.within b
    (subst (λ m. m ≤ b) (c.order-order.ensures.value ∙ sym c.requires.order) past)
