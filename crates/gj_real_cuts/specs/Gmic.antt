-- The mixed-integer cut for f, a number between 0 and 1 (Gomory 1960).
use Rattle.std.specs.Prelude.{true, false}
use Rattle.gj_fields.specs.Fields.{OrderedField, HasFloor, whole}

-- the fractional part of a number
abbrev pub part_of : {R : Type 0} (K : OrderedField R) → HasFloor K → R → R
part_of K floors x = K.plus x (K.negative (whole K (floors.floor x)))

-- at the fractional part r: r/f if r is at most f, and else (1 - r)/(1 - f)
abbrev pub gmic_at : {R : Type 0} → OrderedField R → R → R → R
gmic_at K f r =
    elim (K.at_most r f) [
      | true ↦ K.times r (K.inverse f)
      | false ↦ K.times (K.plus K.one (K.negative r)) (K.inverse (K.plus K.one (K.negative f)))
    ]

abbrev pub gmic : {R : Type 0} (K : OrderedField R) → HasFloor K → R → R → R
gmic K floors f x = gmic_at K f (part_of K floors x)
