use Rattle.std.proofs.Common.{ℕ, ◌≡◌, ◌↔◌, ◌<◌, ◌||◌, IsTrue, length, get_or, ap, subst, ◌∙◌, arith}
use Rattle.std.proofs.lemmas.List.{get_or_default}
use Rattle.gj_loops.specs.IndexSets.{has, no_set}
use Rattle.gj_loops.specs.declared.index_set.IndexSet.{IndexSet}
use Rattle.gj_jumps.specs.LimitCover.{IsTightAt}
use Rattle.gj_limit_cover.specs.Links.{IsLink}
use Rattle.gj_limit_cover.proofs.LinkedRows.{both_ways, joined_below}
use Rattle.gj_limit_cover.proofs.table.Table.joined.Goals as goal

is : (c : goal.After-or) (j : Prim.Native.Nat.ℕ) →
    has c.or.result j ≡ (has (get_or c.args.self.now.linked.items c.args.i no_set) j || has
    c.linking_below-linking.result j)
is c j =
    let count = c.requires.table.linked.count in
    let within : c.args.i < length c.args.self.now.linked.items = omega (arith, c.requires.within)
    in
    c.or.ensures j ∙ ap (λ (r : IndexSet). has r j || has c.linking_below-linking.result j)
    (c.index.ensures ∙ get_or_default _ _ _ _ within)

linking : (c : goal.After-or) (j : Prim.Native.Nat.ℕ) →
    IsTrue (has c.linking_below-linking.result j) ↔ ((j < c.args.shape.now.order)
    × IsLink c.args.shape.now.order (IsTightAt c.args.shape.now) j c.args.i)
linking c j =
    subst (λ (n : ℕ). IsTrue (has c.linking_below-linking.result j) ↔ ((j < n)
    × IsLink c.args.shape.now.order (IsTightAt c.args.shape.now) j c.args.i)) c.order.ensures.value
    (c.linking_below-linking.ensures j)

pub returns-clause-within : goal.returns-clause-within
returns-clause-within c j e =
    let f = c.args.shape.now in
    joined_below f.order (IsTightAt f) c.args.i j (has c.or.result j)
    (has (get_or c.args.self.now.linked.items c.args.i no_set) j)
    (has c.linking_below-linking.result
    j)
    (is c j) (c.requires.table.linked.each c.args.i j c.requires.within)
    (linking c j) e

pub returns-clause-joined : goal.returns-clause-joined
returns-clause-joined c j below =
    let f = c.args.shape.now in
    both_ways f.order (IsTightAt f) c.args.i j (has c.or.result j)
    (has (get_or c.args.self.now.linked.items c.args.i no_set) j)
    (has c.linking_below-linking.result
    j)
    below (is c j) (c.requires.table.linked.each c.args.i j c.requires.within)
    (linking c j)

pub returns-clause-set : goal.returns-clause-set
returns-clause-set c free near =
    let f = c.args.shape.now in
    let told = λ (j : ℕ) (below : j < f.order).
    both_ways f.order (IsTightAt f) c.args.i j (has c.or.result j)
    (has (get_or c.args.self.now.linked.items c.args.i no_set) j)
    (has c.linking_below-linking.result
    j)
    below (is c j) (c.requires.table.linked.each c.args.i j c.requires.within)
    (linking c j) in
    record {
      joined = λ j below other yes'. (told j below).0 yes';
      whole = λ j below other free' near' at. (told j below).1 at;
    }
