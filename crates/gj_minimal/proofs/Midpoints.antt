-- The values at the midpoint of an open interval and at f less it.
use Rattle.std.proofs.Common.{◌≡◌, ℕ, ◌+◌, ◌-◌, ◌*◌, ◌<◌, ◌+ℤ◌, ap, ap₂, ◌∙◌, lit≤, arith}
use Rattle.std.proofs.lemmas.Int.{ints}
use Rattle.gj_shape.specs.FunctionData.{FunctionData, at}
use Rattle.gj_shape.specs.Table.{table}
use Rattle.gj_minimal.proofs.Theory.{near_after}

midpoint : (f : FunctionData) (i : ℕ) → table f 2 (2 * i + 1) ≡ at f.right i +ℤ at f.left (i + 1)
midpoint f i =
    let index : 2 * i + 1 ≡ i * 2 + 1 = omega arith in
    let value = near_after f i 2 (lit≤ tt) in
    ap (table f 2) index ∙ value ∙ omega (arith, ints)

pub midpoints : (f : FunctionData) (i : ℕ) → i < f.order →
    table f 2 (2 * i + 1) +ℤ table f 2 (2 * (f.place + (f.order - i)) - 1)
    ≡ at f.right i +ℤ at f.left (i + 1) +ℤ (at f.right (f.place + (f.order - (i + 1))) +ℤ at f.left
    (f.place + (f.order - i)))
midpoints f i below =
    let start = f.place + (f.order - (i + 1)) in
    let index : 2 * (f.place + (f.order - i)) - 1 ≡ 2 * (f.place + (f.order - (i + 1))) + 1 =
    omega arith in
    let next : f.place + (f.order - (i + 1)) + 1 ≡ f.place + (f.order - i) = omega arith in
    ap₂ (λ x y. x +ℤ y) (midpoint f i)
    (ap (table f 2) index ∙ midpoint f start ∙ ap (λ (k : ℕ). at f.right start +ℤ at f.left k) next)
