use Rattle.std.proofs.Common.{◌≡◌, ◌↔◌, ◌<◌, ◌≤◌, ◌⊎◌, ℕ, inl, inr, IsTrue, length, get_or, sym, subst, ◌∙◌, arith}
use Rattle.std.proofs.lemmas.Bool.{cases_lt, or_cases, or_left, or_right}
use Rattle.std.proofs.lemmas.List.{get_or_default}
use Rattle.gj_loops.specs.IndexSets.{has, no_set}
use Rattle.gj_loops.specs.declared.index_set.IndexSet.{IndexSet}
use Rattle.gj_jumps.specs.LimitCover.{IsTightAt}
use Rattle.gj_limit_cover.specs.LimitCover.{AreJoined}
use Rattle.gj_limit_cover.specs.Links.{IsLink}
use Rattle.gj_limit_cover.proofs.LinkedRows.{joined_of, linked_or_linking}
use Rattle.gj_limit_cover.proofs.table.Table.joined_next.Goals as goal

row : (c : goal.After-or) → c.index.result.now ≡ get_or c.args.self.now.linked.items c.args.i no_set
row c =
    let count = c.requires.table.linked.count in
    let within : c.args.i < length c.args.self.now.linked.items = omega (arith, c.requires.within)
    in
    c.index.ensures ∙ get_or_default _ _ _ _ within

linked : (c : goal.After-or) (j : ℕ) → IsTrue (has c.index.result.now j) ↔
    ((j < c.args.shape.now.order)
    × IsLink c.args.shape.now.order (IsTightAt c.args.shape.now) c.args.i j)
linked c j =
    subst (λ (r : IndexSet). IsTrue (has r j) ↔ ((j < c.args.shape.now.order)
    × IsLink c.args.shape.now.order (IsTightAt c.args.shape.now) c.args.i j)) (sym (row c))
    (c.requires.table.linked.each c.args.i j c.requires.within)

within : (c : goal.After-or) (j : ℕ) → IsTrue (has c.or.result j) → j < c.args.shape.now.order
within c j e =
    let low = c.needed_end-end.ensures.low in
    let order = c.order.ensures.value in
    elim (or_cases (has c.index.result.now j) (has c.linking_below-linking.result j)
    (sym (c.or.ensures j) ∙ e)) [
      | inl yes' ↦ ((linked c j).0 yes').0
      | inr yes' ↦ let below = ((c.linking_below-linking.ensures j).0 yes').0 in omega arith
    ]

joined : (c : goal.After-or) (j : ℕ) → IsTrue (has c.or.result j) →
    AreJoined c.args.shape.now.order (IsTightAt c.args.shape.now) c.args.i j
joined c j e =
    elim (or_cases (has c.index.result.now j) (has c.linking_below-linking.result j)
    (sym (c.or.ensures j) ∙ e)) [
      | inl yes' ↦ joined_of c.args.shape.now.order (IsTightAt c.args.shape.now) c.args.i j
          (inl ((linked c j).0 yes').1)
      | inr yes' ↦ joined_of c.args.shape.now.order (IsTightAt c.args.shape.now) c.args.i j
          (inr ((c.linking_below-linking.ensures j).0 yes').1)
    ]

-- a joined interval is in the set, or it is not before the end
there : (c : goal.After-or) (j : ℕ) → j < c.args.shape.now.order →
    AreJoined c.args.shape.now.order (IsTightAt c.args.shape.now) c.args.i j →
    IsTrue (has c.or.result j) ⊎ (c.needed_end-end.result ≤ j)
there c j below at =
    elim (linked_or_linking c.args.shape.now.order (IsTightAt c.args.shape.now) c.args.i j at) [
      | inl l ↦ inl (c.or.ensures j ∙ or_left (has c.index.result.now j)
          (has c.linking_below-linking.result j) ((linked c j).1 (below, l)))
      | inr l ↦ elim (cases_lt j c.needed_end-end.result) [
        | inl low ↦ inl (c.or.ensures j ∙ or_right (has c.index.result.now j)
            (has c.linking_below-linking.result j) ((c.linking_below-linking.ensures j).1 (low, l)))
        | inr past ↦ inr past
      ]
    ]

pub returns-clause-joined : goal.returns-clause-joined
returns-clause-joined c = record {
  joined = λ j below other yes'. joined c j yes';
  whole = λ j below other free' near' at. elim (there c j below at) [
    | inl yes' ↦ yes'
    | inr past ↦
        let end = c.needed_end-end.ensures.near j free' near' in
        let order = c.order.ensures.value in
        absurd (omega arith)
  ];
}

pub returns-clause-least : goal.returns-clause-least
returns-clause-least c = record {
  within = within c;
  joined = joined c;
  least = λ j below taken at. elim (there c j below at) [
    | inl yes' ↦ (j, (let same : j ≤ j = omega arith in same), yes', taken)
    | inr past ↦
        let order = c.order.ensures.value in
        let lined = c.needed_end-end.ensures.lined (omega arith) in (
          c.needed_end-end.result,
          past,
          c.or.ensures c.needed_end-end.result
              ∙ or_left (has c.index.result.now c.needed_end-end.result)
              (has c.linking_below-linking.result c.needed_end-end.result) lined.0,
          lined.1,
        )
  ];
}
