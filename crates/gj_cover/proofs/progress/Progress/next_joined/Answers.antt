use Rattle.gj_shape.specs.Cover.{JoinsLines}
use Rattle.gj_cover.specs.Linking.{tight_linking}
use Rattle.gj_cover.specs.Table.{IsTightInTable}
use Rattle.gj_cover.proofs.NextLines.{joins_same}
use Rattle.gj_cover.proofs.Pending.{none_pending, next_interval, next_from, none_from_it, is_open, has_all}
use Rattle.gj_cover.proofs.progress.Progress.next_joined.Goals as goal

pub returns-in_default-clause-none : goal.returns-in_default-clause-none
returns-in_default-clause-none c =
    let p = c.args.self.now in
    let t = c.args.table.now in
    none_pending (tight_linking t.order (IsTightInTable t))
    (JoinsLines t.order (IsTightInTable t) p.lines.items)
    p.component.items p.free p.near c.requires.kept.free
    (joins_same t.order (IsTightInTable t) p.lines.items p.component.items
    c.requires.kept.numbers)
    c.and.result c.requires.kept.near c.and.ensures c.in_default.ensures

pub joined-joined-requires : goal.joined-joined-requires
joined-joined-requires c =
    let p = c.args.self.now in
    (is_open c.args.table.now.order p.component.items p.free p.near c.and.result c.in-Some.interval
    c.requires.kept.free c.and.ensures c.in-Some.ensures).0

pub returns-in_default-first-clause-none : goal.returns-in_default-first-clause-none
returns-in_default-first-clause-none c =
    let p = c.args.self.now in
    let t = c.args.table.now in
    let J = tight_linking t.order (IsTightInTable t) in
    let x = c.in-Some.interval in
    let open' = is_open t.order p.component.items p.free p.near c.and.result x
    c.requires.kept.free c.and.ensures c.in-Some.ensures in
    let same = joins_same t.order (IsTightInTable t) p.lines.items p.component.items
    c.requires.kept.numbers in
    let joins = next_interval J (JoinsLines t.order (IsTightInTable t) p.lines.items)
    p.component.items p.free p.near c.requires.kept.free same
    c.and.result x c.requires.kept.near c.and.ensures c.in-Some.ensures in
    absurd (none_from_it J (JoinsLines t.order (IsTightInTable t) p.lines.items)
    p.component.items p.free c.joined-joined.result x c.requires.kept.free (same x)
    (has_all J p.component.items p.free c.joined-joined.result x c.requires.kept.free open'.0
    open'.1 c.joined-joined.ensures.joined)
    c.and_not.result c.and_not.ensures c.in_default-first.ensures joins.holds)

pub returns-clause-interval : goal.returns-clause-interval
returns-clause-interval c =
    let p = c.args.self.now in
    let t = c.args.table.now in
    next_interval (tight_linking t.order (IsTightInTable t))
    (JoinsLines t.order (IsTightInTable t) p.lines.items)
    p.component.items p.free p.near c.requires.kept.free
    (joins_same t.order (IsTightInTable t) p.lines.items p.component.items
    c.requires.kept.numbers)
    c.and.result c.in-Some.interval c.requires.kept.near c.and.ensures c.in-Some.ensures

pub returns-clause-from : goal.returns-clause-from
returns-clause-from c =
    let p = c.args.self.now in
    let t = c.args.table.now in
    let J = tight_linking t.order (IsTightInTable t) in
    let x = c.in-Some.interval in
    let open' = is_open t.order p.component.items p.free p.near c.and.result x
    c.requires.kept.free c.and.ensures c.in-Some.ensures in
    next_from J (JoinsLines t.order (IsTightInTable t) p.lines.items)
    p.component.items p.free c.joined-joined.result x c.requires.kept.free
    (joins_same t.order (IsTightInTable t) p.lines.items p.component.items
    c.requires.kept.numbers x)
    (has_all J p.component.items p.free c.joined-joined.result x c.requires.kept.free open'.0
    open'.1 c.joined-joined.ensures.joined)
    c.and_not.result c.in-Some-first.from open'.0 open'.1 c.joined-joined.ensures.within
    (λ k low other. (c.joined-joined.ensures.joined k low other).0)
    c.and_not.ensures c.in-Some-first.ensures

pub returns-clause-joined : goal.returns-clause-joined
returns-clause-joined c = c.joined-joined.ensures.joined
