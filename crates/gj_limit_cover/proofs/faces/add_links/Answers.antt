use Rattle.std.proofs.Common.{arith}
use Rattle.gj_jumps.specs.LimitCover.{IsTightAt}
use Rattle.gj_shape.specs.declared.faces.FaceKind.TheVariants.{Horizontal, Vertical, Diagonal}
use Rattle.gj_cover.proofs.FirstFaces.{AreSteps}
use Rattle.gj_cover.proofs.Adding.{EitherOf, both_added}
use Rattle.gj_limit_cover.specs.FirstFaces.{LinksAs, IsOneOfThree}
use Rattle.gj_limit_cover.proofs.FaceSearch.{IsOneOfNine, squares_added, nine_below, nine_back}
use Rattle.gj_limit_cover.proofs.faces.add_links.Goals as goal

pub returns : goal.returns
returns c =
    let f = c.args.shape.now in
    let q = f.order in
    let i = c.args.i in
    let j = c.args.j in
    let step = c.args.step in
    let short = c.difference-short.result in
    let is = c.order.ensures.value in
    let low = c.order.ensures.limits.order_low in
    let steps : AreSteps q i step short j = record {
      start = c.requires.start;
      end = c.requires.end;
      step_below = c.requires.below;
      short_below = omega (arith, c.difference-short.ensures.below);
      step_leads = c.requires.step;
      short_leads = rw is at c.difference-short.ensures.value;
    } in
    let P = LinksAs q (IsTightAt f) c.args.is_asked i j in
    let one = IsOneOfThree Horizontal i step i short in
    let two = IsOneOfThree Vertical step i short i in
    let three = IsOneOfThree Diagonal i j i j in
    let found = c.args.found.now in
    squares_added (IsOneOfNine i j step short) P q found c.add_three-3.new.found
    (nine_below q i j step short steps)
    (λ kind a b a_low b_low p. nine_back q i j step short (IsTightAt f) steps kind a b a_low b_low
    p.1)
    (both_added (EitherOf one two) three P found c.add_three-2.new.found c.add_three-3.new.found
    (both_added one two P found c.add_three.new.found c.add_three-2.new.found c.add_three.ensures
    c.add_three-2.ensures)
    c.add_three-3.ensures)
