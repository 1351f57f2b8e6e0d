use Rattle.std.proofs.Common.{◌≡◌, ◌+◌, ◌-◌, ◌&&◌, nat_le, length, bit_and, ap, sym, ◌∙◌, arith}
use Rattle.std.specs.Simd.Lanes.{zip2}
use Rattle.std.proofs.lemmas.Simd.{length-zip2}
use Rattle.gj_loops.specs.IndexSets.{has, bit_of}
use Rattle.gj_loops.proofs.Bits.{bit_of_past, bit_of-and}
use Rattle.gj_loops.proofs.Shifts.{both_ways, bit_of-high, bit_of-higher}
use Rattle.gj_loops.proofs.index_set.IndexSet.both_up_and_down.Goals as goal

pub returns : goal.returns
unfolding has
returns c i =
    let xs = c.args.self.now.words in
    let ys = c.args.other.now.words in
    let both = zip2 bit_and xs ys in
    let up = c.args.up in
    let down = c.args.down in
    let same : length xs ≡ length ys = omega arith in
    let long : length (zip2 bit_and xs ys) ≡ 16 = length-zip2 bit_and xs ys same
    ∙ (let e : length xs ≡ 16 = omega arith in e) in
    both_ways (λ k. bit_of xs k && bit_of ys k) i up down (bit_of c.window.result.words i)
    (bit_of c.window-2.result.words i) (bit_of c.or.result.words i)
    (λ below. c.window.ensures i below ∙ bit_of-high 17 both i up long c.requires.up
    ∙ ap (λ b. nat_le up i && b) (bit_of-and xs ys (i - up) same))
    (λ below. c.window-2.ensures i below ∙ bit_of-higher 17 both i down long
    ∙ bit_of-and xs ys (i + down) same)
    (c.or.ensures i)
    (λ past. (
      bit_of_past c.or.result.words i (omega arith),
      sym (bit_of-and xs ys (i + down) same)
          ∙ bit_of_past both (i + down) (omega arith),
    ))
