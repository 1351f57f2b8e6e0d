use Rattle.std.proofs.Common.{◌≡◌, ◌≢◌, ◌⊎◌, ⊎_elim, inl, inr, ℕ, ◌%◌, ◌*◌, ◌-◌, ◌^◌, ◌<◌, ◌≤◌, pos, ap, ◌∙◌, arith, rules, w64}
use Rattle.std.proofs.lemmas.Int.{to_z-of_z}
use Rattle.std.proofs.Math.Nat.{mul-le-mul, one-le-pow}
use Rattle.gj_frac.proofs.TenPowers.{lowest_with_sign, product_with_sign, shifted_ten, lowest_over_tens, one_five_out, fives_out}
use Rattle.gj_frac.proofs.decimals.without_fives.Goals as goal
use Rattle.gj_frac.proofs.decimals.without_fives.Goals.{then-loop-left-test+else-rest-eq0, else-loop-left-test}
use mir.Syntax.{w128}

pub loop-left-preserved : goal.loop-left-preserved
loop-left-preserved c =
    let held = c.loop-left.invariant in
    let fewer = held.fewer in
    record {
      fewer = omega arith;
      value = one_five_out c.loop-left.rest c.args.fives c.loop-left.left c.args.top
          (omega arith) fewer (omega arith) held.value;
      odd = ⊎_elim inl (λ odd. inr (omega arith)) held.odd;
    }

-- no five is left in the denominator, or none in the numerator
ended : (c : goal.After-from-2) → (c.loop-left.left ≡ 0) ⊎ (c.loop-left.rest % 5 ≢ 0)
ended c = elim c.loop-left-test.branch [
  | then-loop-left-test+else-rest-eq0 w ↦ inr (omega arith)
  | else-loop-left-test w ↦ inl (omega arith)
]

-- what is left of a number without fives is at most the number
at_most : (rest power top : ℕ) → 0 < power → rest * power ≡ top → rest ≤ top
at_most rest power top some is = let least : rest * 1 ≤ rest * power =
    mul-le-mul (omega arith) some in omega (arith, is, least)

pub signed-requires : goal.signed-requires
signed-requires c =
    let out = c.args.fives - c.loop-left.left in
    let most = at_most c.loop-left.rest (5 ^ out) c.args.top
    (one-le-pow out 5 (omega arith)) c.loop-left.invariant.value in
    omega (arith, most, c.requires.fits)

pub invariant_of-result : goal.invariant_of-result
invariant_of-result c =
    let held = c.loop-left.invariant in
    let fewer = held.fewer in
    let most = c.requires.fives in
    let bottom = to_z-of_z w128 c.from-2.result (search rules) ∙ c.from-2.ensures
    ∙ ap pos (shifted_ten c.power_of_ten.result c.loop-left.left c.args.twos c.power_of_ten.ensures
    (omega arith) c.requires.twos) in
    let lowest = lowest_over_tens c.loop-left.rest c.loop-left.left c.args.twos (omega arith)
    (omega arith) c.requires.twos (ended c) held.odd in
    let num = to_z-of_z w128 c.from.result (search rules) ∙ c.from.ensures
    ∙ to_z-of_z w64 c.signed.result (record { sfits = c.signed.type_inv })
    ∙ c.signed.ensures in
    simp (num, bottom) (record
    { lowest = lowest_with_sign c.args.is_negative c.loop-left.rest _ lowest })

pub returns : goal.returns
returns c =
    let held = c.loop-left.invariant in
    let fewer = held.fewer in
    let most = c.requires.fives in
    let bottom = to_z-of_z w128 c.from-2.result (search rules) ∙ c.from-2.ensures
    ∙ ap pos (shifted_ten c.power_of_ten.result c.loop-left.left c.args.twos c.power_of_ten.ensures
    (omega arith) c.requires.twos) in
    let is = fives_out c.loop-left.rest c.loop-left.left c.args.top c.args.fives c.args.twos fewer
    held.value in
    let num = to_z-of_z w128 c.from.result (search rules) ∙ c.from.ensures
    ∙ to_z-of_z w64 c.signed.result (record { sfits = c.signed.type_inv })
    ∙ c.signed.ensures in
    simp (num, bottom) (product_with_sign c.args.is_negative c.loop-left.rest c.args.top _ _ is)
