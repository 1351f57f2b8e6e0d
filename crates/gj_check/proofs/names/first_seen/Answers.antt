use Rattle.std.proofs.Common.{◌<◌, length, take, [], ◌∷◌, ◌++◌, below_more, sym, ap, subst, ◌∙◌, arith}
use Rattle.gj_lemmas.proofs.Choices.{not_true, not_false}
use Rattle.gj_proof.specs.Rules.{AtIndex, MeetsName}
use Rattle.gj_proof.proofs.AtPlaces.{at_place, with_place}
use Rattle.gj_check.proofs.SeenNames.{HasNames, same_bytes, basic_seen, name_seen, is_among, is_new, is_repeated}
use Rattle.indexmap.specs.IndexSet.{insert_key}
use Rattle.gj_check.proofs.names.first_seen.Goals as goal

pub loop-index-init : goal.loop-index-init
loop-index-init c = (
  subst (λ ks. HasNames ks c.args.basic.now []) (sym c.in_ok-insert.ensures.keys)
      (subst (λ b. HasNames (insert_key same_bytes c.in_ok-seen.seen.keys c.bytes.result) b [])
      c.bytes.ensures.value
      (basic_seen c.in_ok-seen.seen.keys c.bytes.result c.in_ok-seen.ensures.empty)),
  λ i below. absurd (omega arith),
)

pub returns-then-not-branch-clause-repeated : goal.returns-then-not-branch-clause-repeated
returns-then-not-branch-clause-repeated c below =
    let terms = c.args.terms.now in
    let basic = c.args.basic.now in
    let n = c.loop-index.index in
    let t = c.index-terms-index.result in
    let among = c.loop-index.invariant.0 c.bytes-in-loop-index.result.now in
    at_place terms (λ before u. MeetsName basic before u → ⊥) n t below c.index-terms-index.is
    (is_repeated basic (take n terms) t
    (sym (ap (λ q. is_among q basic (take n terms)) c.bytes-in-loop-index.ensures.value) ∙ sym among
    ∙ not_false _ (sym c.in_ok-insert-2.ensures.added ∙ c.if-not-branch.true)))

pub loop-index-preserved : goal.loop-index-preserved
loop-index-preserved c =
    let terms = c.args.terms.now in
    let basic = c.args.basic.now in
    let n = c.loop-index.index in
    let t = c.index-terms-index.result in
    let below : n < length terms = c.loop-index-test.true in
    let among = c.loop-index.invariant.0 c.bytes-in-loop-index.result.now in
    let new = not_true _ (sym c.in_ok-insert-2.ensures.added ∙ c.if-not-branch.false) in (
      subst (HasNames c.insert-in-loop-index.new.self.keys basic)
          (sym (with_place terms n t below c.index-terms-index.is))
          (subst (λ ks. HasNames ks basic (take n terms ++ t ∷ []))
          (sym c.in_ok-insert-2.ensures.keys)
          (name_seen c.loop-index.seen.keys c.bytes-in-loop-index.result basic (take n terms) t
          c.loop-index.invariant.0 c.bytes-in-loop-index.ensures.value new)),
      below_more (λ i. AtIndex terms i (MeetsName basic)) n c.loop-index.invariant.1
          (at_place terms (MeetsName basic) n t below c.index-terms-index.is
          (is_new basic (take n terms) t
          (sym (ap (λ q. is_among q basic (take n terms)) c.bytes-in-loop-index.ensures.value)
          ∙ sym among ∙ new))),
    )
