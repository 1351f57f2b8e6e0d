use Rattle.std.proofs.Common.{◌≡◌, get_or, w64, to_z, of_z, subst, sym, ◌∙◌, rules}
use Rattle.std.proofs.lemmas.Int.{to_z-of_z}
use Rattle.gj_shape.specs.FunctionData.{FunctionData, IsWithinBounds, at}
use Rattle.gj_shape.specs.Limits.{IsNumerator}
use Rattle.gj_shape.proofs.NumeratorReadings.{remainder_read, left_below}
use Rattle.gj_shape.proofs.shape.Shape.left_numerator.Goals as goal

pub returns : goal.returns
returns c =
    let f = c.args.self.now in
    let i = c.args.i in
    let x = c.index.result.now in
    let limits : IsWithinBounds f = subst IsWithinBounds c.self.view_is c.self.invariant in
    let entry : x ≡ get_or f.left c.remainder.result x =
    subst (λ (g : FunctionData). x ≡ get_or g.left c.remainder.result x) c.self.view_is
    c.index.ensures in
    let read : to_z w64 (of_z w64 x) ≡ at f.left i =
    to_z-of_z w64 x (search rules)
    ∙ remainder_read f.left i c.remainder.result f.order x limits.left_length
    c.remainder.ensures.value
    c.remainder.ensures.below entry in
    record {
      value = read;
      small = subst IsNumerator (sym read) (left_below f i limits);
      limits =
          limits;
    }
