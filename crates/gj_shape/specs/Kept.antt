-- How a `Shape` keeps a function: whole numbers over the least common denominator.
use Rattle.gj_shape.specs.FunctionData.{FunctionData, IsWithinBounds}
use Rattle.gj_shape.specs.declared.shape.Shape.TheInside.{Inside}

abbrev pub function_of : Inside → FunctionData
function_of s = record {
  order = s.order;
  place = s.place;
  scale = s.scale;
  left = s.left.items;
  value = s.value.items;
  right = s.right.items;
}

abbrev pub IsKept : Inside → Type 0
IsKept s = IsWithinBounds (function_of s)
