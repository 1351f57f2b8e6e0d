use Rattle.std.proofs.Common.{arith}
use Rattle.gj_jumps.specs.LimitCover.{IsTightAt}
use Rattle.gj_limit_cover.proofs.Complexes.{complex_of}
use Rattle.gj_limit_cover.proofs.FaceSearch.{joining_found, joining_none}
use Rattle.gj_limit_cover.proofs.faces.first_joining.Goals as goal

pub returns-clause-found : goal.returns-clause-found
returns-clause-found c =
    let f = c.args.shape.now in
    joining_found f.order (IsTightAt f) c.args.is_asked c.args.i c.args.j c.add_links.new.found
    c.add_links-2.new.found c.add_links.ensures c.add_links-2.ensures

pub returns-clause-none : goal.returns-clause-none
returns-clause-none c =
    let f = c.args.shape.now in
    joining_none f.order (IsTightAt f) (complex_of f c.order-order.ensures.limits)
    (omega (arith, c.requires.start)) c.args.is_asked c.args.i c.args.j c.add_links.new.found
    c.add_links-2.new.found c.add_links.ensures c.add_links-2.ensures
