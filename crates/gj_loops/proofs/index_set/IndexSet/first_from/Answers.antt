use Rattle.std.proofs.Common.{◌+◌, Fits, w64, get_or, subst, rules, arith}
use Rattle.gj_loops.specs.IndexSets.{has}
use Rattle.gj_loops.proofs.Bits.{bit_of_past}
use Rattle.gj_loops.proofs.Firsts.{IsRest, rest_begins, rest_goes_on, rest_ends, first_of_rest}
use Rattle.gj_loops.proofs.index_set.IndexSet.first_from.Goals as goal

pub returns-then-from-ge-LIMIT : goal.returns-then-from-ge-LIMIT
unfolding has
returns-then-from-ge-LIMIT c = λ k from. bit_of_past c.args.self.now.words k (omega arith)

pub loop-word-init : goal.loop-word-init
loop-word-init c = (rest_begins c.args.self.now.words c.args.from (omega arith), omega arith)

pub loop-word-preserved : goal.loop-word-preserved
loop-word-preserved c =
    let words = c.args.self.now.words in
    let none : IsRest c.args.self.now.words c.args.from c.loop-word.place 0 =
    subst (IsRest words c.args.from c.loop-word.place) c.loop-word-test.true
    c.loop-word.invariant.0 in
    let place_fits = none.within in
    let fits : Fits w64 (get_or c.args.self.now.words (c.loop-word.place + 1) 0) = search rules in (
      rest_goes_on words c.args.from c.loop-word.place none
          (omega arith) c.loop-word.invariant.1 fits.fits,
      omega arith,
    )

pub returns-then-place-eq-WORDS : goal.returns-then-place-eq-WORDS
unfolding has
returns-then-place-eq-WORDS c =
    let words = c.args.self.now.words in
    let none : IsRest c.args.self.now.words c.args.from c.loop-word.place 0 =
    subst (IsRest words c.args.from c.loop-word.place) c.loop-word-test.true
    c.loop-word.invariant.0 in
    rest_ends words c.args.from c.loop-word.place none (omega arith)

pub returns : goal.returns
returns c = first_of_rest c.args.self.now c.args.from c.loop-word.place c.loop-word.word
    (omega arith) c.loop-word.invariant.0 (omega arith)
