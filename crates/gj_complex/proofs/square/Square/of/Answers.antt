use Rattle.std.proofs.Common.{ℤ, w64, to_z, of_z, ◌∙◌, rules}
use Rattle.std.proofs.lemmas.Int.{to_z-of_z}
use Rattle.gj_complex.specs.declared.square.Square.{Square}
use Rattle.gj_complex.proofs.SquareLemmas.{limits_from}
use Rattle.gj_complex.proofs.square.Square.of.Goals as goal

pub returns : goal.returns
returns c =
    let kept = λ (n : ℤ). to_z w64 (of_z w64 n) in
    let square : Square = record {
      right_first = kept c.right_numerator.result;
      value_first = kept c.value_numerator.result;
      left_first = kept c.left_numerator.result;
      right_second = kept c.right_numerator-2.result;
      value_second = kept c.value_numerator-2.result;
      left_second = kept c.left_numerator-2.result;
      value_sum = kept c.value_numerator-3.result;
      right_sum = kept c.right_numerator-3.result;
      left_next = kept c.left_numerator-3.result;
      value_next = kept c.value_numerator-4.result;
      right_next = kept c.right_numerator-4.result;
      left_last = kept c.left_numerator-4.result;
      around_first = search rules;
      around_second = search rules;
      at_sum = search rules;
      around_next = search rules;
    } in
    limits_from square c.args.shape.now c.args.a c.args.b (record {
      right_first = to_z-of_z w64 c.right_numerator.result (search rules)
          ∙ c.right_numerator.ensures.value;
      value_first = to_z-of_z w64 c.value_numerator.result (search rules)
          ∙ c.value_numerator.ensures.value;
      left_first = to_z-of_z w64 c.left_numerator.result (search rules)
          ∙ c.left_numerator.ensures.value;
      right_second = to_z-of_z w64 c.right_numerator-2.result (search rules)
          ∙ c.right_numerator-2.ensures.value;
      value_second = to_z-of_z w64 c.value_numerator-2.result (search rules)
          ∙ c.value_numerator-2.ensures.value;
      left_second = to_z-of_z w64 c.left_numerator-2.result (search rules)
          ∙ c.left_numerator-2.ensures.value;
      value_sum = to_z-of_z w64 c.value_numerator-3.result (search rules)
          ∙ c.value_numerator-3.ensures.value;
      right_sum = to_z-of_z w64 c.right_numerator-3.result (search rules)
          ∙ c.right_numerator-3.ensures.value;
      left_next = to_z-of_z w64 c.left_numerator-3.result (search rules)
          ∙ c.left_numerator-3.ensures.value;
      value_next = to_z-of_z w64 c.value_numerator-4.result (search rules)
          ∙ c.value_numerator-4.ensures.value;
      right_next = to_z-of_z w64 c.right_numerator-4.result (search rules)
          ∙ c.right_numerator-4.ensures.value;
      left_last = to_z-of_z w64 c.left_numerator-4.result (search rules)
          ∙ c.left_numerator-4.ensures.value;
    })
