-- How large the values of minimal functions are.
use Rattle.std.proofs.Common.{◌≡◌, ℕ, ◌*◌, ◌<◌, ℤ, pos, ◌≤ℤ◌, subst, sym, ◌∙◌, arith}
use Rattle.std.proofs.lemmas.Int.{ints}
use Rattle.gj_shape.specs.FunctionData.{FunctionData, IsWithinBounds, at}
use Rattle.gj_shape.specs.Table.{table, IsMinimal}
use Rattle.gj_shape.proofs.TableLemmas.{table_of_order}
use Rattle.gj_theory.proofs.SlacksAndSizes.{at_most_scale}

-- a value of a minimal function, over its scale, is from 0 to 1
pub value_within : (f : FunctionData) (i : ℕ) → IsWithinBounds f → IsMinimal f →
    (pos 0 ≤ℤ at f.value i) × (at f.value i ≤ℤ pos f.scale)
value_within f i bounds minimal =
    let table_is = minimal 1 (omega arith) in
    let value_is : table f 1 i ≡ at f.value i = table_of_order f i in
    let low = table_is.nonnegative i in
    let some : 0 < f.order * 1 = omega (arith, bounds.order_low) in
    let high = at_most_scale (table f 1) (f.order * 1) (f.place * 1)
    (f.scale * 1) i some table_is in
    (subst (λ (z : ℤ). pos 0 ≤ℤ z) value_is low, omega (arith, ints))

pub value_at_zero : (f : FunctionData) → IsMinimal f → at f.value 0 ≡ pos 0
value_at_zero f minimal = sym (table_of_order f 0) ∙ (minimal 1 (omega arith)).zero_at_zero
