use Rattle.std.proofs.Common.{◌≡◌, ◌*◌, ◌∙◌, ap, sym, get_or, arith}
use Rattle.std.proofs.lemmas.Nat.{ones-le}
use Rattle.gj_loops.specs.IndexSets.{has, bit_of, count_below}
use Rattle.gj_loops.proofs.Counts.{counted_words, counted_at_most, counted_none}
use Rattle.gj_loops.proofs.index_set.IndexSet.count.Goals as goal

pub overflow_add-count : goal.overflow_add-count
overflow_add-count c =
    let words = c.args.self.now.words in
    let before = counted_at_most (bit_of c.args.self.now.words) (64 * c.loop-word.word-index) in
    let here = ones-le 64 (get_or c.args.self.now.words c.loop-word.word-index 0)
    c.loop-word-test.element_fits.fits in
    record { fits = omega (arith, before, here) }

pub loop-word-init : goal.loop-word-init
loop-word-init c = sym (counted_none (bit_of c.args.self.now.words))

pub loop-word-preserved : goal.loop-word-preserved
loop-word-preserved c =
    counted_words c.args.self.now.words c.loop-word.word-index c.loop-word.count
    c.loop-word-test.element_fits.fits c.loop-word.invariant

pub returns : goal.returns
unfolding has
returns c =
    let e : 64 * c.loop-word.word-index ≡ 1024 = omega arith in
    c.loop-word.invariant ∙ ap (count_below (bit_of c.args.self.now.words)) e
