-- Slopes at 0, and the weights of continuous columns by them (Gomory and Johnson 1972).
use Rattle.std.specs.Prelude.{◌≡◌, true, false, List, [], ◌∷◌}
use Rattle.gj_fields.specs.Fields.{OrderedField, AtMost}

-- near 0 the function rises by up to the right and by down to the left
pub record HasSlopesAtZero {R : Type 0} (K : OrderedField R) (v : R → R) (up down : R) :
    Type 0 where
  pub near : R
  pub positive : AtMost K near K.zero → ⊥
  pub rises : (h : R) → AtMost K K.zero h → AtMost K h near → v h ≡ K.times up h
  pub falls : (h : R) → AtMost K K.zero h → AtMost K h near → v (K.negative h) ≡ K.times down h

-- a continuous column of a row: its entry, and the value of its variable, at least 0
pub record Column {R : Type 0} (K : OrderedField R) : Type 0 where
  pub entry : R
  pub amount : R
  pub nonnegative : AtMost K K.zero amount

-- the weight of a continuous column with the entry c: up c if c is at least 0, and else down (-c)
abbrev pub weight_of : {R : Type 0} → OrderedField R → R → R → R → R
weight_of K up down c =
    elim (K.at_most K.zero c) [ true ↦ K.times up c | false ↦ K.times down (K.negative c) ]

-- the sum of the entries times the amounts
abbrev pub total_amount : {R : Type 0} (K : OrderedField R) → List (Column K) → R
total_amount K [] = K.zero
total_amount K (c ∷ cs) = K.plus (K.times c.entry c.amount) (total_amount K cs)

-- the sum of the weights times the amounts
abbrev pub total_weight : {R : Type 0} (K : OrderedField R) → R → R → List (Column K) → R
total_weight K up down [] = K.zero
total_weight K up down (c ∷ cs) =
    K.plus (K.times (weight_of K up down c.entry) c.amount) (total_weight K up down cs)
