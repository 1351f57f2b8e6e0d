use Rattle.gj_limit_cover.specs.LimitCover.{JoinsLines}
use Rattle.gj_limit_cover.specs.Linking.{limit_linking}
use Rattle.gj_jumps.specs.LimitCover.{IsTightAt}
use Rattle.gj_limit_cover.proofs.NextLines.{joins_same}
use Rattle.gj_cover.proofs.Pending.{none_pending, next_interval, next_from, none_from_it, is_open}
use Rattle.gj_limit_cover.proofs.progress.Progress.next_joined.Goals as goal

pub returns-in_default-clause-none : goal.returns-in_default-clause-none
returns-in_default-clause-none c =
    let p = c.args.self.now in
    let t = c.args.shape.now in
    none_pending (limit_linking t.order (IsTightAt t))
    (JoinsLines t.order (IsTightAt t) p.lines.items)
    p.component.items p.free p.near c.requires.progress.free
    (joins_same t.order (IsTightAt t) p.lines.items p.component.items
    c.requires.progress.numbers)
    c.and.result c.requires.progress.near c.and.ensures c.in_default.ensures

pub joined_next-joined-requires-clause-within : goal.joined_next-joined-requires-clause-within
joined_next-joined-requires-clause-within c =
    let p = c.args.self.now in
    (is_open c.args.shape.now.order p.component.items p.free p.near c.and.result c.in-Some.interval
    c.requires.progress.free c.and.ensures c.in-Some.ensures).0

pub returns-in_default-first-clause-none : goal.returns-in_default-first-clause-none
returns-in_default-first-clause-none c =
    let p = c.args.self.now in
    let t = c.args.shape.now in
    let J = limit_linking t.order (IsTightAt t) in
    let x = c.in-Some.interval in
    let open' = is_open t.order p.component.items p.free p.near c.and.result x
    c.requires.progress.free c.and.ensures c.in-Some.ensures in
    let same = joins_same t.order (IsTightAt t) p.lines.items p.component.items
    c.requires.progress.numbers in
    let joins = next_interval J (JoinsLines t.order (IsTightAt t) p.lines.items)
    p.component.items p.free p.near c.requires.progress.free same
    c.and.result x c.requires.progress.near c.and.ensures c.in-Some.ensures in
    absurd (none_from_it J (JoinsLines t.order (IsTightAt t) p.lines.items)
    p.component.items p.free c.joined_next-joined.result x c.requires.progress.free (same x)
    c.joined_next-joined.ensures.least.least
    c.and_not.result c.and_not.ensures c.in_default-first.ensures joins.holds)

pub returns-clause-interval : goal.returns-clause-interval
returns-clause-interval c =
    let p = c.args.self.now in
    let t = c.args.shape.now in
    next_interval (limit_linking t.order (IsTightAt t))
    (JoinsLines t.order (IsTightAt t) p.lines.items)
    p.component.items p.free p.near c.requires.progress.free
    (joins_same t.order (IsTightAt t) p.lines.items p.component.items
    c.requires.progress.numbers)
    c.and.result c.in-Some.interval c.requires.progress.near c.and.ensures c.in-Some.ensures

pub returns-clause-from : goal.returns-clause-from
returns-clause-from c =
    let p = c.args.self.now in
    let t = c.args.shape.now in
    let J = limit_linking t.order (IsTightAt t) in
    let x = c.in-Some.interval in
    let open' = is_open t.order p.component.items p.free p.near c.and.result x
    c.requires.progress.free c.and.ensures c.in-Some.ensures in
    next_from J (JoinsLines t.order (IsTightAt t) p.lines.items)
    p.component.items p.free c.joined_next-joined.result x c.requires.progress.free
    (joins_same t.order (IsTightAt t) p.lines.items p.component.items
    c.requires.progress.numbers x)
    c.joined_next-joined.ensures.least.least
    c.and_not.result c.in-Some-first.from open'.0 open'.1 c.joined_next-joined.ensures.least.within
    (λ k _ _. c.joined_next-joined.ensures.least.joined k)
    c.and_not.ensures c.in-Some-first.ensures

pub returns-clause-joined : goal.returns-clause-joined
returns-clause-joined c = c.joined_next-joined.ensures.joined
