use Rattle.std.proofs.Common.{◌≡◌, ◌++◌, ◌∷◌, [], ap, sym, ◌∙◌, subst, arith}
use Rattle.std.specs.List.{Contains}
use Rattle.std.specs.List.Sorted.{IsStrictlyIncreasing}
use Rattle.gj_loops.specs.IndexSets.{has}
use Rattle.gj_cover.proofs.TruePlaces.{places, place_true, place_false, places_ascend, places_members}
use Rattle.gj_cover.proofs.class.listed.Goals as goal

pub loop-index-preserved-then-not-contains : goal.loop-index-preserved-then-not-contains
loop-index-preserved-then-not-contains c =
    c.loop-index.invariant
    ∙ sym (place_false (has c.args.set.now) c.loop-index.index
    (sym c.contains.ensures ∙ c.if-not-contains.true))

pub loop-index-preserved : goal.loop-index-preserved
loop-index-preserved c =
    c.in_ok-push.ensures.items ∙ ap (λ l. l ++ c.loop-index.index ∷ []) c.loop-index.invariant
    ∙ sym (place_true (has c.args.set.now) c.loop-index.index
    (sym c.contains.ensures ∙ c.if-not-contains.false))

pub returns-clause-ascending : goal.returns-clause-ascending
returns-clause-ascending c =
    subst IsStrictlyIncreasing (sym c.loop-index.invariant)
    (places_ascend (has c.args.set.now) c.loop-index.index)

pub returns-clause-members : goal.returns-clause-members
returns-clause-members c i =
    let all : c.loop-index.index ≡ c.args.order = omega arith in
    let is = c.loop-index.invariant ∙ ap (places (has c.args.set.now)) all in
    let at = places_members (has c.args.set.now) c.args.order c.requires.within i in
    (λ h. at.0 (subst (λ l. Contains l i) is h), λ e. subst (λ l. Contains l i) (sym is) (at.1 e))
