use Rattle.std.proofs.Common.{rules, arith}
use Rattle.std.proofs.lemmas.Int.{ints}
use Rattle.gj_rule.proofs.ClosedForm.{reads_as}
use Rattle.gj_mixed.proofs.SlopeParts.{turned_parts, slope_product, falling_weight, row_parts}
use Rattle.gj_mixed.proofs.slopes.SlopesAtZero.weight.Goals as goal

-- each of the two slopes can be multiplied by the entry with its sign turned
pub mul-requires : goal.mul-requires
mul-requires c =
    let (n, d) = turned_parts c.args.c c.neg.result c.neg.ensures in
    let (n_small, d_small) = row_parts c.args.c c.requires.range in
    let falling = slope_product c.args.self.down c.neg.result c.requires.down
    (rw n (omega (arith, ints))) (rw d d_small) in
    let rising = slope_product c.args.self.up c.neg.result c.requires.up
    (rw n (omega (arith, ints))) (rw d d_small) in
    search rules

pub mul-requires-else-num-lt0 : goal.mul-requires-else-num-lt0
mul-requires-else-num-lt0 c =
    let (n_small, d_small) = row_parts c.args.c c.requires.range in
    slope_product c.args.self.up c.args.c c.requires.up n_small d_small

pub returns-then-num-lt0 : goal.returns-then-num-lt0
returns-then-num-lt0 c =
    let x = c.args.c in
    let sign = reads_as c.num.result x.num c.num.ensures x.lowest.num_fits in
    let here = c.if-num-lt0.true in
    falling_weight c.args.self.up c.args.self.down x c.neg.result c.mul.result (omega (arith, ints))
    (turned_parts x c.neg.result c.neg.ensures) c.mul.ensures
