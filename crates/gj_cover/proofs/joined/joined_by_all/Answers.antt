use Rattle.std.proofs.Common.{◌&&◌, refl, ap, sym, ◌∙◌, inl, inr}
use Rattle.std.proofs.lemmas.Bool.{lt-ltb, or_cases, or_left, or_right}
use Rattle.gj_loops.specs.IndexSets.{has}
use Rattle.gj_cover.specs.Table.{IsTightInTable}
use Rattle.gj_cover.proofs.Edges.{linked, joined_by_links}
use Rattle.gj_theory.proofs.CoverPaths.{joined_turned}
use Rattle.gj_cover.proofs.TablePairs.{table_period}
use Rattle.gj_cover.proofs.Turns.{in_below}
use Rattle.gj_cover.proofs.joined.joined_by_all.Goals as goal

pub returns-clause-within : goal.returns-clause-within
returns-clause-within c j e =
    let q = c.args.table.now.order in
    in_below q q j (has c.or.result j) (has c.bounded.result j) refl (c.bounded.ensures j) e

pub returns-clause-joined : goal.returns-clause-joined
returns-clause-joined c j below other =
    let t = c.args.table.now in
    let i = c.args.i in
    let from = has c.linked_from.result j in
    let to = has c.linked_to.result j in
    let is = c.bounded.ensures j ∙ ap (λ b. b && has c.or.result j) (lt-ltb j t.order below)
    ∙ c.or.ensures j in (
      λ e. elim (or_cases from to (sym is ∙ e)) [
        | inl x ↦ joined_by_links t.order (IsTightInTable t) i j c.requires below
            ((c.linked_from.ensures j below).0 x)
        | inr x ↦ joined_turned t.order (IsTightInTable t) j i
            (joined_by_links t.order (IsTightInTable t) j i below c.requires
            ((c.linked_to.ensures j below).0 x))
      ],
      λ h. is ∙ (elim (linked t.order (IsTightInTable t) (table_period t) i j c.requires below other
          h) [
            | inl l ↦ or_left from to ((c.linked_from.ensures j below).1 l)
            | inr l ↦ or_right from to ((c.linked_to.ensures j below).1 l)
          ]),
    )
