-- What a value or its want says of an option.
use Rattle.std.proofs.Common.{Option, Some, None, IfNone}

pub none_weaker : {T P Q : Type 0} (o : Option T) → (P → Q) → IfNone o P → IfNone o Q
none_weaker None f p = f p
none_weaker (Some x) f p = tt
