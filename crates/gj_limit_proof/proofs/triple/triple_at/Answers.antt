use Rattle.gj_lex.proofs.CanonicalTexts.{within_bits}
use Rattle.gj_limit_proof.proofs.Triples.{item_is, item_fits}
use Rattle.gj_limit_proof.proofs.triple.triple_at.Goals as goal

pub returns : goal.returns
returns c =
    let numbers = c.args.numbers.now in
    let n = c.args.count in
    let i = c.args.index in
    let within = c.requires.within in
    let below = c.requires.below in
    let left = within_bits _ _
    (item_is numbers.left n i within.left_length below _ c.as_slice.ensures)
    (item_fits numbers.left n i within.left_length below within.left_fit) in
    let value = within_bits _ _
    (item_is numbers.value n i within.value_length below _ c.as_slice-2.ensures)
    (item_fits numbers.value n i within.value_length below within.value_fit) in
    let right = within_bits _ _
    (item_is numbers.right n i within.right_length below _ c.as_slice-3.ensures)
    (item_fits numbers.right n i within.right_length below within.right_fit) in
    λ j. record { left = left j; value = value j; right = right j }
