-- A function that is minimal among the valid functions on all fractions is minimal.
use Rattle.std.proofs.Common.{◌*◌, ◌<◌, arith}
use Rattle.std.proofs.Math.Nat.{mul-pos}
use Rattle.gj_shape.specs.FunctionData.{FunctionData, IsWithinBounds}
use Rattle.gj_shape.specs.Table.{table, IsMinimal}
use Rattle.gj_shape.proofs.TableLemmas.{table_period}
use Rattle.gj_valid.proofs.PartFunctions.{IsMinimalPart, part_of}
use Rattle.gj_valid.proofs.FunctionTables.{entries_valid, function_on_grid}
use Rattle.gj_valid.proofs.ChangedOnGrid.{tables_are_minimal}

pub only_minimal : (f : FunctionData) → IsWithinBounds f →
    IsMinimalPart (part_of f) f.place f.order → IsMinimal f
only_minimal f l h m some =
    let order : 0 < f.order = let low = l.order_low in omega arith in
    let scale : 0 < f.scale = let low = l.scale_low in omega arith in
    tables_are_minimal (part_of f) f.place f.order m order some h (record {
      c = f.scale * m;
      t = table f m;
      some = mul-pos scale some;
      is = λ i. function_on_grid f i m order some;
      valid = entries_valid (part_of f) f.place f.order m (f.scale * m) (table f m) order some
          (mul-pos scale some) h.valid
          (λ i. table_period f m i some l) (λ i. function_on_grid f i m order some);
    })
