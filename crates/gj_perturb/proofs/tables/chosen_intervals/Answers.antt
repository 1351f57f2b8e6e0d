use Rattle.std.proofs.Common.{◌≡◌, length, get_or, take, ap, subst, ◌∙◌, refl, arith}
use Rattle.std.proofs.Math.ListN.{length-set}
use Rattle.std.proofs.Math.Seq.{take-length}
use Rattle.gj_perturb.proofs.ChosenIntervals.{AreMarks, no_marks, one_mark_more, all_marks}
use Rattle.gj_perturb.proofs.tables.chosen_intervals.Goals as goal

pub loop-a-init : goal.loop-a-init
loop-a-init c = no_marks c.in_ok-chosen.chosen.items c.args.q
    (c.in_ok-chosen.ensures.items_if_clones_equal (λ y e. e))

pub loop-a-preserved : goal.loop-a-preserved
loop-a-preserved c =
    let n = c.loop-a.a-index in
    let class = c.args.class.now in
    let a = get_or class n 0 in
    one_mark_more c.loop-a.chosen.items c.args.q n a class c.loop-a-test.true refl
    (c.requires n 0 c.loop-a-test.true)
    c.loop-a.invariant (length-set _ _ _)

pub returns : goal.returns
returns c =
    let class = c.args.class.now in
    let all : c.loop-a.a-index ≡ length c.args.class.now = omega arith in
    let whole : take c.loop-a.a-index c.args.class.now ≡ c.args.class.now =
    ap (λ k. take k c.args.class.now) all ∙ take-length c.args.class.now in
    all_marks c.loop-a.chosen.items c.args.q class
    (subst (AreMarks c.loop-a.chosen.items c.args.q) whole c.loop-a.invariant)
