use Rattle.std.proofs.Common.{sym, ◌∙◌}
use Rattle.std.proofs.lemmas.Bool.{and_parts}
use Rattle.gj_loops.specs.IndexSets.{has}
use Rattle.gj_jumps.specs.LimitCover.{IsTightAt}
use Rattle.gj_limit_cover.proofs.Pending.{next_opening, none_open}
use Rattle.gj_limit_cover.proofs.progress.Progress.next_opening.Goals as goal

pub covering_face-requires-clause-interval : goal.covering_face-requires-clause-interval
covering_face-requires-clause-interval c =
    let p = c.args.self.now in
    let x = c.in-Some.interval in
    let both = and_parts (has p.free x) (has c.args.table.now.direct x) (sym (c.and.ensures x)
    ∙ c.in-Some.ensures.found) in
    ((c.requires.table.direct x).0 both.1).0

pub returns-in_default-clause-none : goal.returns-in_default-clause-none
returns-in_default-clause-none c =
    let p = c.args.self.now in
    let t = c.args.shape.now in
    none_open t.order (IsTightAt t) p.lines.items p.component.items p.free c.args.table.now.direct
    c.and.result c.requires.progress.numbers c.requires.progress.free c.requires.table.direct
    c.and.ensures c.in_default.ensures

pub returns-in_err-face-clause-none : goal.returns-in_err-face-clause-none
returns-in_err-face-clause-none c =
    let p = c.args.self.now in
    let x = c.in-Some.interval in
    let both = and_parts (has p.free x) (has c.args.table.now.direct x) (sym (c.and.ensures x)
    ∙ c.in-Some.ensures.found) in
    absurd (c.in_err-face.ensures.none ((c.requires.table.direct x).0 both.1).1)

pub returns-clause-found : goal.returns-clause-found
returns-clause-found c =
    let p = c.args.self.now in
    let t = c.args.shape.now in
    next_opening t.order (IsTightAt t) p.lines.items p.component.items p.free
    c.args.table.now.direct
    c.and.result c.in-Some.interval c.in_ok-face.face c.requires.progress.numbers
    c.requires.progress.free c.requires.none_joins c.requires.table.direct c.and.ensures
    c.in-Some.ensures c.in_ok-face.ensures.found
