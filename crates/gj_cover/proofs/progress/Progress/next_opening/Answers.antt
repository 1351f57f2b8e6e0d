use Rattle.std.proofs.Common.{◌≡◌, ◌<◌, ◌≤◌, ℕ, Bool, false, not, Option, Some, None, length, arith, ap, sym, ◌∙◌}
use Rattle.std.specs.Option.{is_some}
use Rattle.std.proofs.lemmas.Bool.{true≢false}
use Rattle.gj_cover.specs.Table.{IsTightInTable}
use Rattle.gj_cover.proofs.Pending.{read, is_free, next_opening, none_open, searched_more}
use Rattle.gj_cover.proofs.progress.Progress.next_opening.Goals as goal
use Rattle.gj_cover.proofs.progress.Progress.next_opening.Goals.{then-is_none+in_default, else-is_none}

pub returns-in-Some-clause-found : goal.returns-in-Some-clause-found
returns-in-Some-clause-found c =
    let p = c.args.self.now in
    let t = c.args.table.now in
    let x = c.loop-interval.interval in
    let below : x < t.order = omega arith in
    let within : x < length p.component.items = omega arith in
    next_opening t.order (IsTightInTable t) p.lines.items p.component.items x c.in-Some.face
    c.requires.progress.kept.numbers below
    (read p.component.items x c.index.result.now within c.index.ensures
    ∙ is_free c.index.result.now c.is_none.result c.is_none.ensures c.if-is_none.true)
    c.requires.none_joins c.loop-interval.invariant c.in-Some.ensures.found

pub returns-clause-none : goal.returns-clause-none
returns-clause-none c =
    let p = c.args.self.now in
    let t = c.args.table.now in
    let all : t.order ≤ c.loop-interval.interval = omega arith in
    none_open t.order c.loop-interval.interval (IsTightInTable t) p.lines.items p.component.items
    c.requires.progress.kept.numbers all c.loop-interval.invariant

-- a number that is there
has_number : (o : Option ℕ) (b : Bool) → is_some o ≡ not b → b ≡ false → o ≡ None → ⊥
has_number None b e f n = true≢false (sym (e ∙ ap not f))
has_number (Some v) b e f n = cc

pub loop-interval-preserved : goal.loop-interval-preserved
loop-interval-preserved c =
    let p = c.args.self.now in
    let t = c.args.table.now in
    let x = c.loop-interval.interval in
    let within : x < length p.component.items = omega arith in
    let is = read p.component.items x c.index.result.now within c.index.ensures in
    searched_more t.order (IsTightInTable t) p.component.items x c.loop-interval.invariant
    (elim c.if-is_none.branch [
      | then-is_none+in_default w ↦ λ none. w.in_default.ensures.none
      | else-is_none w ↦ λ none covered.
          has_number c.index.result.now c.is_none.result c.is_none.ensures w.if-is_none.false
          (sym is ∙ none)
    ])
