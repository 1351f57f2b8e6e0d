-- Why a function has no fill-in (own).
use Rattle.gj_shape.specs.FunctionData.{FunctionData}
use Rattle.gj_fill.specs.FirstPair.{IsFirstPair}
use Rattle.gj_fill.specs.declared.faults.FillFault.{FillFault}
use Rattle.gj_fill.specs.declared.faults.FillFault.TheVariants.{NotSubadditive, Memory}

-- the fault names the first two places at which the function is not subadditive, or there was no
-- memory
abbrev pub IsFillFault : FunctionData → FillFault → Type 0
IsFillFault f (NotSubadditive a b) = IsFirstPair f a b
IsFillFault f (Memory e) = Unit {0}
