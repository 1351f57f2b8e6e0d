-- The value of a function at every number of a field in which each number lies between a whole
-- number and the next (Light on the
-- Infinite Group Relaxation I).
use Rattle.std.specs.Prelude.{ℕ, ℤ, pos, ◌+◌, ◌-◌, true, false, unsigned_abs}
use Rattle.std.specs.Int.{int_rem_euclid}
use Rattle.gj_shape.specs.FunctionData.{FunctionData, at}
use Rattle.gj_fields.specs.Fields.{OrderedField, HasFloor, number, whole}

-- the index of z/order, modulo the order
abbrev pub index_of : ℤ → ℕ → ℕ
index_of z order = unsigned_abs (int_rem_euclid z (pos order))

-- scale times the value at (a + l)/order, for l from 0 on and below 1: the value at a/order if l is
-- 0, else between the limit from the
-- right at a/order and the limit from the left at (a + 1)/order
abbrev pub value_between : {R : Type 0} → OrderedField R → FunctionData → ℕ → R → R
value_between K f a l =
    elim (K.at_most l K.zero) [
      | true ↦ whole K (at f.value a)
      | false ↦ K.plus (K.times (K.plus K.one (K.negative l)) (whole K (at f.right a)))
          (K.times l (whole K (at f.left (a + 1))))
    ]

-- the function that the data tell, at each number x: order times x is a whole number and a rest
abbrev pub real_function : {R : Type 0} (K : OrderedField R) → HasFloor K → FunctionData → R → R
real_function K floors f x =
    let y = K.times (number K f.order) x in
    let z = floors.floor y in
    K.times (value_between K f (index_of z f.order) (K.plus y (K.negative (whole K z))))
    (K.inverse (number K f.scale))

-- f = place/order as a number
abbrev pub real_place : {R : Type 0} → OrderedField R → FunctionData → R
real_place K f = K.times (number K f.place) (K.inverse (number K f.order))

-- the slope of a continuous function at 0 to the right, and to the left
abbrev pub slope_up : {R : Type 0} → OrderedField R → FunctionData → R
slope_up K f =
    K.times (K.times (number K f.order)
    (K.plus (whole K (at f.value 1)) (K.negative (whole K (at f.value 0)))))
    (K.inverse (number K f.scale))

abbrev pub slope_down : {R : Type 0} → OrderedField R → FunctionData → R
slope_down K f =
    K.times (K.times (number K f.order)
    (K.plus (whole K (at f.value (f.order - 1))) (K.negative (whole K (at f.value 0)))))
    (K.inverse (number K f.scale))
