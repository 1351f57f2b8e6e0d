use Rattle.std.proofs.Common.{◌≡◌, get_or, w64, to_z, of_z, subst, sym, ◌∙◌, rules}
use Rattle.std.proofs.lemmas.Int.{to_z-of_z}
use Rattle.gj_shape.specs.FunctionData.{FunctionData, IsWithinBounds, at}
use Rattle.gj_shape.specs.Limits.{IsNumerator}
use Rattle.gj_shape.proofs.NumeratorReadings.{remainder_read, value_below}
use Rattle.gj_shape.proofs.shape.Shape.value_numerator.Goals as goal

pub returns : goal.returns
returns c =
    let f = c.args.self.now in
    let i = c.args.i in
    let x = c.index.result.now in
    let limits : IsWithinBounds f = subst IsWithinBounds c.self.view_is c.self.invariant in
    let entry : x ≡ get_or f.value c.remainder.result x =
    subst (λ (g : FunctionData). x ≡ get_or g.value c.remainder.result x) c.self.view_is
    c.index.ensures in
    let read : to_z w64 (of_z w64 x) ≡ at f.value i =
    to_z-of_z w64 x (search rules)
    ∙ remainder_read f.value i c.remainder.result f.order x limits.value_length
    c.remainder.ensures.value
    c.remainder.ensures.below entry in
    record {
      value = read;
      small = subst IsNumerator (sym read) (value_below f i limits);
      limits =
          limits;
    }
