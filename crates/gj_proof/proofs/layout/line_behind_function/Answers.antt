use Rattle.std.proofs.Common.{◌≡◌, length, map, ◌∙◌, arith}
use Rattle.std.specs.List.{range_with_len}
use Rattle.std.proofs.lemmas.List.FromFn.{length-map-range_with_len}
use Rattle.gj_proof.specs.ProofText.ProofLine.{point}
use Rattle.gj_proof.proofs.layout.line_behind_function.Goals as goal

pub returns-clause-value : goal.returns-clause-value
returns-clause-value c =
    let n = c.args.shape.now.order in
    let points : length (map point (range_with_len 0 n)) ≡ n =
    length-map-range_with_len point 0 n in
    let order : c.from.result ≡ n = c.from.ensures ∙ c.order.ensures.value in
    omega arith
