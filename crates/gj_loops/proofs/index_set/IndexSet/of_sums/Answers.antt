use Rattle.std.proofs.Common.{◌≡◌, ◌+ℤ◌, ◌&&◌, get_or, ap, ◌∙◌, length-set, arith}
use Rattle.gj_loops.specs.IndexSets.{has, bit_of}
use Rattle.gj_loops.proofs.Bits.{word_more, words_masked}
use Rattle.gj_loops.proofs.ToldSums.{TellsSum}
use Rattle.gj_loops.proofs.index_set.IndexSet.of_sums.Goals as goal

pub loop-place-preserved : goal.loop-place-preserved
loop-place-preserved g c =
    let words = c.loop-place.set.words in
    let place = c.loop-place.place in
    let long = c.loop-place.invariant.0 in
    let said = TellsSum g.L.Lane.number c.args.values.now c.args.first c.args.sums.now c.args.n in (
      length-set words place c.sums_word.result ∙ long,
      word_more said words place c.sums_word.result (omega arith) c.loop-place.invariant.1
          (λ b inside e below. c.sums_word.ensures b e inside c.requires.first_in_range
          (c.requires.values_in_range _ e below)
          (c.requires.sums_in_range _ e below)),
    )

pub returns : goal.returns
unfolding has
returns g c b e =
    let number = g.L.Lane.number in
    let words = c.loop-place.set.words in
    let values = c.args.values.now in
    let sums = c.args.sums.now in
    let masked = c.and.ensures b ∙ ap (λ t. bit_of words b && t) (c.below.ensures b) in
    words_masked (λ i. number (get_or values i e) +ℤ number c.args.first ≡ number (get_or sums i e))
    words c.loop-place.place c.args.n b
    (has c.and.result b) (omega arith)
    (λ k j before inside below. c.loop-place.invariant.1 k j before inside e below) masked
