use Rattle.std.proofs.Common.{◌≡◌, ℕ, ◌*◌, ◌<◌, ◌^◌, ℤ, pos, negsuc, Fits, unsigned_abs, to_z, of_z, w64, ap₂, ap, sym, subst, subst₂, refl, ◌∙◌, arith}
use Rattle.std.proofs.Math.Nat.{mul-pos, mod-lt}
use Rattle.std.proofs.lemmas.Int.{ints, to_z-of_z}
use Rattle.std.proofs.lemmas.Nat.{mul-le, div_below}
use Rattle.std.specs.Int.{int_rem_euclid}
use Rattle.gj_shape.proofs.ValueLemmas.{congruent_to_parts}
use Rattle.gj_shape.proofs.values.place_within.Goals as goal
use mir.Syntax.{w128}
use mir.Val.{SFits}

period_fits : (a b order steps : ℕ) → a ≡ order → b ≡ steps → order < 2 ^ 32 → steps < 2 ^ 64 →
    Fits w128 (a * b)
period_fits a b order steps order_is steps_is low few =
    let product = mul-le order steps (2 ^ 32) (2 ^ 64) (omega arith) (omega arith) in
    let fits : order * steps < 2 ^ 128 = omega arith in
    record { fits = subst₂ (λ x y. x * y < 2 ^ 128) (sym order_is) (sym steps_is) fits }

-- a remainder is below the period
rest_below : (n : ℤ) (p place : ℕ) → 0 < p → pos place ≡ int_rem_euclid n (pos p) → place < p
rest_below (pos a) p place some is =
    let below = mod-lt a some in
    omega (arith, ints)
rest_below (negsuc a) p place some is =
    let below = mod-lt a some in
    omega (arith, ints)

pub overflow_mul-period : goal.overflow_mul-period
overflow_mul-period c =
    period_fits c.from.result c.from-2.result c.args.order c.args.steps c.from.ensures
    c.from-2.ensures c.ranges.order.fits
    c.ranges.steps.fits

-- the place is the remainder of n by the period
place_is : (c : goal.After-rem_euclid-place) →
    pos (unsigned_abs (to_z w64 (of_z w64 c.rem_euclid-place.result)))
    ≡ int_rem_euclid c.args.n (pos (c.args.order * c.args.steps))
place_is c =
    let order = c.args.order in
    let steps = c.args.steps in
    let number = to_z-of_z w128 c.args.n c.ranges.n in
    let same : pos (unsigned_abs (to_z w64 (of_z w64 c.rem_euclid-place.result)))
    ≡ c.rem_euclid-place.result = omega (arith, ints) in
    let product : c.from.result * c.from-2.result ≡ order * steps =
    ap₂ (λ a b. a * b) c.from.ensures c.from-2.ensures in
    let n_fits : SFits w64 c.args.n = subst (SFits w64) number c.in-Ok-Ok.ensures.0 in
    let period_fits : SFits w64 (pos (order * steps)) =
    subst (SFits w64) (ap pos product) c.in-Ok-Ok.ensures'.0 in
    let n_is : to_z w64 (of_z w64 c.in-Ok-Ok.n) ≡ c.args.n =
    ap (λ z. to_z w64 (of_z w64 z)) (c.in-Ok-Ok.ensures.1 ∙ number)
    ∙ to_z-of_z w64 c.args.n n_fits in
    let period_is : to_z w64 (of_z w64 c.in-Ok-Ok.period) ≡ pos (order * steps) =
    ap (λ z. to_z w64 (of_z w64 z)) (c.in-Ok-Ok.ensures'.1 ∙ ap pos product)
    ∙ to_z-of_z w64 (pos (order * steps)) period_fits in
    same ∙ c.rem_euclid-place.ensures.value ∙ ap₂ int_rem_euclid n_is period_is

pub returns-in-Ok-Ok-clause-index : goal.returns-in-Ok-Ok-clause-index
returns-in-Ok-Ok-clause-index c =
    let order = c.args.order in
    let steps = c.args.steps in
    div_below _ steps order c.requires.steps
    (rest_below c.args.n (order * steps) _ (mul-pos c.requires.order c.requires.steps) (place_is c))

pub returns-in-Ok-Ok-clause-remainder : goal.returns-in-Ok-Ok-clause-remainder
returns-in-Ok-Ok-clause-remainder c = mod-lt _ c.requires.steps

pub returns-in-Ok-Ok-clause-congruent : goal.returns-in-Ok-Ok-clause-congruent
returns-in-Ok-Ok-clause-congruent c =
    let order = c.args.order in
    let steps = c.args.steps in
    congruent_to_parts c.args.n order steps steps _ (mul-pos c.requires.order c.requires.steps) refl
    (place_is c)
