use Rattle.gj_shape.specs.SlopeRows.{component_in}
use Rattle.gj_limit_system.specs.SparseSums.{sparse_dot}
use Rattle.std.proofs.Common.{length}
use Rattle.gj_limit_system.proofs.RowNumbers.{left_dot, value_dot, right_dot}
use Rattle.gj_limit_system.proofs.limit_rows.LimitRows.add_number.Goals as goal

pub returns-in_ok-add_sign-in-Left-2-clause-dot :
    goal.returns-in_ok-add_sign-in-Left-2-clause-dot
returns-in_ok-add_sign-in-Left-2-clause-dot c x =
    let component = c.args.self.now.component in
    left_dot (length component) c.order-order.result (component_in component) c.args.sign
    c.order-order.ensures.value c.requires.sign c.args.side c.args.index c.requires.within
    c.interval_ending_at-before.result c.slope_of.result c.in-Left.is
    c.interval_ending_at-before.ensures.value c.slope_of.ensures.value x
    (sparse_dot c.args.entries.now.items x) (sparse_dot c.add_sign.new.entries.items x)
    (sparse_dot c.add_sign-in-Left.new.entries.items x) (c.in_ok-add_sign-in-Left.ensures.dot x)
    (c.in_ok-add_sign-in-Left-2.ensures.dot x)

pub returns-in_ok-add_sign-in-Right-clause-dot : goal.returns-in_ok-add_sign-in-Right-clause-dot
returns-in_ok-add_sign-in-Right-clause-dot c x =
    let component = c.args.self.now.component in
    right_dot (length component) c.order-order.result (component_in component) c.args.sign
    c.order-order.ensures.value c.requires.sign c.args.side c.args.index c.requires.within
    c.in-Right.is x (sparse_dot c.args.entries.now.items x)
    (sparse_dot c.add_sign-in-Right.new.entries.items x) (c.in_ok-add_sign-in-Right.ensures.dot x)

pub returns-in_ok-add_sign-in-Value-clause-dot : goal.returns-in_ok-add_sign-in-Value-clause-dot
returns-in_ok-add_sign-in-Value-clause-dot c x =
    let component = c.args.self.now.component in
    value_dot (length component) c.order-order.result (component_in component) c.args.sign
    c.order-order.ensures.value c.requires.sign c.args.side c.args.index c.requires.within
    c.in-Value.is c.if-index-eq0.false x (sparse_dot c.args.entries.now.items x)
    (sparse_dot c.add_sign-in-Value.new.entries.items x) (c.in_ok-add_sign-in-Value.ensures.dot x)
