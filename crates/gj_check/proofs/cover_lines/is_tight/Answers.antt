use Rattle.std.proofs.Common.{◌+◌, length, ap, sym, refl, rules}
use Rattle.gj_shape.proofs.NumeratorReadings.{rest_read}
use Rattle.gj_check.proofs.cover_lines.is_tight.Goals as goal

pub returns : goal.returns
returns c =
    let value = c.value_numerators-values.ensures.value in
    let len = ap length (sym value) in
    let first = rest_read _ _ c.args.a _ _ value len refl (search rules) in
    let second = rest_read _ _ c.args.b _ _ value len refl (search rules) in
    let sum = rest_read _ _ (c.args.a + c.args.b) _ _ value len refl (search rules) in
    rw (first, second, sum) at c.adds_up.ensures
