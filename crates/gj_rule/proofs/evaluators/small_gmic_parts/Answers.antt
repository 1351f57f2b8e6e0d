use Rattle.std.proofs.Common.{◌≡◌, ◌<◌, pos, ap, ap₂, ◌∙◌, sym, arith, unsigned_abs, to_z, of_z, w64}
use Rattle.std.proofs.lemmas.Int.{ints}
use Rattle.std.specs.Int.{int_rem_euclid}
use Rattle.gj_rule.proofs.SmallCuts.{AreNaturalParts, as_natural, as_signed, place_some, place_low, part_low, rising_is, falling_is}
use Rattle.gj_rule.proofs.evaluators.small_gmic_parts.Goals as goal
use Rattle.gj_rule.proofs.evaluators.small_gmic_parts.Goals.{After-from-2}

-- the numbers of the code are the parts
parts_of : (c : After-from-2) →
    AreNaturalParts c.args.f c.args.x c.from-f_num.result c.from-f_den.result
    (unsigned_abs (to_z w64 (of_z w64 c.rem_euclid.result))) c.from-2.result
parts_of c =
    let f = c.args.f in
    let x = c.args.x in
    let a = as_natural c.try_from.result c.num.result f.num c.in_ok-ok.field-0 c.num.ensures
    f.lowest.num_fits c.try_from.ensures c.in_ok-ok.ensures.value in
    let b = as_natural c.try_from-2.result c.den.result f.den c.in_ok-ok-2.field-0 c.den.ensures
    f.lowest.den_fits c.try_from-2.ensures c.in_ok-ok-2.ensures.value in
    let n = as_signed c.try_from-3.result c.num-2.result x.num c.in_ok-num.num c.num-2.ensures
    x.lowest.num_fits c.try_from-3.ensures c.in_ok-num.ensures.value in
    let d = as_natural c.try_from-4.result c.den-2.result x.den c.in_ok-den.den c.den-2.ensures
    x.lowest.den_fits c.try_from-4.ensures c.in_ok-den.ensures.value in
    let wide : to_z w64 (of_z w64 c.from.result) ≡ c.from.result = omega (arith, ints) in
    let some = c.rem_euclid.ensures.lower_bound in
    let below = c.rem_euclid.ensures.upper_bound in
    let rest : pos (unsigned_abs (to_z w64 (of_z w64 c.rem_euclid.result))) ≡ c.rem_euclid.result =
    omega (arith, ints) in
    let low : unsigned_abs (to_z w64 (of_z w64 c.rem_euclid.result)) < c.from-2.result =
    omega (arith, ints) in
    record {
      num_is = ap pos c.from-f_num.ensures ∙ a;
      den_is = ap pos c.from-f_den.ensures ∙ b;
      below_is = ap pos c.from-2.ensures ∙ d;
      rest_is = rest ∙ c.rem_euclid.ensures.value
          ∙ ap₂ int_rem_euclid n (wide ∙ c.from.ensures ∙ d);
      rest_below = low;
    }

pub returns-then-part-place-clause-some : goal.returns-then-part-place-clause-some
returns-then-part-place-clause-some c =
    place_some c.args.f c.args.x c.requires.inside _ _ _ _
    (parts_of (goal.at.returns-then-part-place-clause-some c).After-from-2)

pub returns-then-part-place-clause-value : goal.returns-then-part-place-clause-value
returns-then-part-place-clause-value c =
    rising_is c.args.f c.args.x c.requires.inside _ _ _ _
    (parts_of (goal.at.returns-then-part-place-clause-value c).After-from-2)
    c.if-part-place.true

pub overflow_sub-result : goal.overflow_sub-result
overflow_sub-result c =
    let low = part_low c.args.f c.args.x c.requires.inside _ _ _ _
    (parts_of (goal.at.overflow_sub-result c).After-from-2) in
    let same : c.from-3.result ≡ c.from-2.result = c.from-3.ensures ∙ sym c.from-2.ensures in
    rw same low

pub overflow_sub-result-2 : goal.overflow_sub-result-2
overflow_sub-result-2 c =
    let low = place_low c.args.f c.args.x c.requires.inside _ _ _ _
    (parts_of (goal.at.overflow_sub-result-2 c).After-from-2) in
    let same : c.from-3.result ≡ c.from-2.result = c.from-3.ensures ∙ sym c.from-2.ensures in
    rw same (omega arith)

pub returns-clause-some : goal.returns-clause-some
returns-clause-some c =
    let low = place_low c.args.f c.args.x c.requires.inside _ _ _ _
    (parts_of (goal.at.returns-clause-some c).After-from-2) in
    let same : c.from-3.result ≡ c.from-2.result = c.from-3.ensures ∙ sym c.from-2.ensures in
    rw same (omega arith)

pub returns-clause-value : goal.returns-clause-value
returns-clause-value c =
    let same : c.from-3.result ≡ c.from-2.result = c.from-3.ensures ∙ sym c.from-2.ensures in
    simp same
    (falling_is c.args.f c.args.x c.requires.inside _ _ _ _
    (parts_of (goal.at.returns-clause-value c).After-from-2)
    c.if-part-place.false)
