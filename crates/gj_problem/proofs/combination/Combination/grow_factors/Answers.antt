use Rattle.std.proofs.Common.{rules, ◌≡◌, ◌*ℤ◌, ℤ, to_z, of_z, sym, ap, subst, ◌∙◌}
use Rattle.std.specs.List.{AllZip}
use Rattle.std.proofs.lemmas.Int.{to_z-of_z}
use Rattle.gj_frac.specs.Fraction.{Fits}
use Rattle.gj_lemmas.proofs.Integers.{swap_last_z}
use Rattle.gj_problem.specs.OneDenominator.{IsTimes}
use Rattle.gj_problem.proofs.Combinations.{grown_factors, grown_parts}
use Rattle.gj_problem.proofs.combination.Combination.grow_factors.Goals as goal
use mir.Syntax.{w128}

pub invariant_of-self-2 : goal.invariant_of-self-2
invariant_of-self-2 c =
    let old = c.args.self.now in
    let factors = to_z-of_z w128 old.factors (search rules) in
    let numbers = to_z-of_z w128 old.numbers (search rules) in
    let scale = to_z-of_z w128 c.args.scale c.ranges.scale in
    let f = to_z w128 (of_z w128 c.in_ok-factors.factors) in
    let f_is : f ≡ old.factors *ℤ c.args.scale =
    to_z-of_z w128 c.in_ok-factors.factors (search rules)
    ∙ simp (factors, scale) at c.in_ok-factors.ensures.1 in
    record {
      denominator = grown_factors old.factors old.numbers c.args.scale f old.denominator c.requires
          f_is
          (subst (λ (z : ℤ). Fits (f *ℤ z)) numbers c.in_ok-checked_product.ensures.0);
    }

pub returns : goal.returns
returns c = λ cs r h.
    let old = c.args.self.now in
    let k = c.args.scale in
    let factors = to_z-of_z w128 old.factors (search rules) in
    let right = to_z-of_z w128 old.right (search rules) in
    let scale = to_z-of_z w128 k c.ranges.scale in
    let f = to_z w128 (of_z w128 c.in_ok-factors.factors) in
    let f_is : f ≡ old.factors *ℤ k =
    to_z-of_z w128 c.in_ok-factors.factors (search rules)
    ∙ simp (factors, scale) at c.in_ok-factors.ensures.1 in
    let m = to_z w128 (of_z w128 c.in_ok-self.field-0) in
    let m_same = to_z-of_z w128 c.in_ok-self.field-0 (search rules) ∙ c.in_ok-self.ensures.1 in
    let m_is : m ≡ old.right *ℤ k = simp (right, scale) at m_same in
    let times : AllZip (IsTimes k) old.numerators.items c.multiply.new.numbers.items =
    subst (λ (z : ℤ). AllZip (IsTimes z) old.numerators.items c.multiply.new.numbers.items) scale
    c.in_ok-multiply.ensures in
    let parts = grown_parts (old.factors *ℤ old.numbers) (f *ℤ old.numbers) k old.numerators.items
    c.multiply.new.numbers.items old.right m cs r
    (ap (λ z. z *ℤ old.numbers) f_is ∙ swap_last_z old.factors k old.numbers) times m_is
    (subst Fits (sym m_same) c.in_ok-self.ensures.0)
    h.coefficients_are h.right_is in
    record { coefficients_are = parts.0; right_is = parts.1 }
