use Rattle.std.proofs.Common.{pos, length, get_or, sym, ap, ◌∙◌}
use Rattle.gj_shape.specs.SlopeRows.{component_in}
use Rattle.gj_limit_system.specs.LimitRows.{row_value}
use Rattle.gj_limit_system.specs.SparseSums.{sparse_dot}
use Rattle.gj_limit_system.specs.Unknowns.{columns_for, limits_from}
use Rattle.gj_limit_system.proofs.DenseRows.{solved_by}
use Rattle.gj_limit_system.proofs.Insertions.{factors_light}
use Rattle.gj_limit_system.proofs.RowNumbers.{f_dot, tight_dot, at_most_six, one_light, three_light}
use Rattle.gj_limit_system.proofs.limit_rows.LimitRows.write_row.Goals as goal

pub returns-in_ok-add_number-in-F-clause-row : goal.returns-in_ok-add_number-in-F-clause-row
returns-in_ok-add_number-in-F-clause-row c x =
    let r = c.args.self.now in
    f_dot (length r.component) (component_in r.component) x r.place c.self.inside.place c.args.row
    (sparse_dot c.clear.new.self.items x) (sparse_dot c.add_number.new.entries.items x)
    (ap (λ row. sparse_dot row x) c.clear.ensures.items) (ap (λ v. v.place) c.self.view_is)
    c.in-F.is (c.in_ok-add_number-in-F.ensures.dot x)

pub returns-in_ok-add_number-in-F-clause-solved : goal.returns-in_ok-add_number-in-F-clause-solved
returns-in_ok-add_number-in-F-clause-solved c w =
    let r = c.args.self.now in
    solved_by (columns_for (length r.component) r.count) c.add_number.new.entries.items w
    (row_value r.place (limits_from (length r.component) (component_in r.component)
    (λ i. get_or w i (pos 0))) c.args.row) c.in_ok-add_number-in-F.ensures.sparse
    (returns-in_ok-add_number-in-F-clause-row c (λ i. get_or w i (pos 0)))

pub returns-in_ok-add_number-in-F-clause-six : goal.returns-in_ok-add_number-in-F-clause-six
returns-in_ok-add_number-in-F-clause-six c =
    let r = c.args.self.now in
    let row = c.add_number.new.entries.items in
    at_most_six (columns_for (length r.component) r.count) row
    c.in_ok-add_number-in-F.ensures.sparse
    (one_light c.clear.new.self.items row c.clear.ensures.items
    c.in_ok-add_number-in-F.ensures.light)

pub returns-in_ok-add_number-in-F-clause-small : goal.returns-in_ok-add_number-in-F-clause-small
returns-in_ok-add_number-in-F-clause-small c =
    let row = c.add_number.new.entries.items in
    factors_light 6 row
    (one_light c.clear.new.self.items row c.clear.ensures.items
    c.in_ok-add_number-in-F.ensures.light)

pub returns-in_ok-add_number-in-Tight-3-clause-row :
    goal.returns-in_ok-add_number-in-Tight-3-clause-row
returns-in_ok-add_number-in-Tight-3-clause-row c x =
    let r = c.args.self.now in
    let t = c.terms_of-terms.result in
    let start = ap (λ row. sparse_dot row x) c.clear.ensures.items in
    tight_dot (length r.component) c.order.result (component_in r.component) x c.in-Tight.kind
    c.in-Tight.corner c.in-Tight.a c.in-Tight.b c.wrapped.result t
    (sparse_dot c.clear.new.self.items x) (sparse_dot c.add_number-in-Tight.new.entries.items x)
    (sparse_dot c.add_number-in-Tight-2.new.entries.items x)
    (sparse_dot c.add_number-in-Tight-3.new.entries.items x)
    c.terms_of-terms.ensures.table c.order.ensures.value c.wrapped.ensures.value start
    (c.in_ok-add_number-in-Tight.ensures.dot x) (c.in_ok-add_number-in-Tight-2.ensures.dot x)
    (c.in_ok-add_number-in-Tight-3.ensures.dot x)
    ∙ ap (row_value r.place (limits_from (length r.component) (component_in r.component) x))
    (sym c.in-Tight.is)

pub returns-in_ok-add_number-in-Tight-3-clause-solved :
    goal.returns-in_ok-add_number-in-Tight-3-clause-solved
returns-in_ok-add_number-in-Tight-3-clause-solved c w =
    let r = c.args.self.now in
    solved_by (columns_for (length r.component) r.count) c.add_number-in-Tight-3.new.entries.items w
    (row_value r.place (limits_from (length r.component) (component_in r.component)
    (λ i. get_or w i (pos 0))) c.args.row) c.in_ok-add_number-in-Tight-3.ensures.sparse
    (returns-in_ok-add_number-in-Tight-3-clause-row c (λ i. get_or w i (pos 0)))

pub returns-in_ok-add_number-in-Tight-3-clause-six :
    goal.returns-in_ok-add_number-in-Tight-3-clause-six
returns-in_ok-add_number-in-Tight-3-clause-six c =
    let r = c.args.self.now in
    let row = c.add_number-in-Tight-3.new.entries.items in
    at_most_six (columns_for (length r.component) r.count) row
    c.in_ok-add_number-in-Tight-3.ensures.sparse
    (three_light c.clear.new.self.items c.add_number-in-Tight.new.entries.items
    c.add_number-in-Tight-2.new.entries.items row c.clear.ensures.items
    c.in_ok-add_number-in-Tight.ensures.light c.in_ok-add_number-in-Tight-2.ensures.light
    c.in_ok-add_number-in-Tight-3.ensures.light)

pub returns-in_ok-add_number-in-Tight-3-clause-small :
    goal.returns-in_ok-add_number-in-Tight-3-clause-small
returns-in_ok-add_number-in-Tight-3-clause-small c =
    let row = c.add_number-in-Tight-3.new.entries.items in
    factors_light 6 row
    (three_light c.clear.new.self.items c.add_number-in-Tight.new.entries.items
    c.add_number-in-Tight-2.new.entries.items row c.clear.ensures.items
    c.in_ok-add_number-in-Tight.ensures.light c.in_ok-add_number-in-Tight-2.ensures.light
    c.in_ok-add_number-in-Tight-3.ensures.light)
