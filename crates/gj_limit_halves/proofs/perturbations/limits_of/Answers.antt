use Rattle.std.proofs.Common.{length, All, sym, ap, subst, ◌∙◌}
use Rattle.std.proofs.lemmas.List.FromFn.{length-map-range_with_len}
use Rattle.gj_frac.specs.Fraction.{Fits}
use Rattle.gj_limit_halves.proofs.ListedNumbers.{values_fit, rights_fit}
use Rattle.gj_limit_halves.proofs.perturbations.limits_of.Goals as goal

pub returns-clause-within : goal.returns-clause-within
returns-clause-within c = record {
  left_length = ap length c.in_ok-left_limits.ensures.value
      ∙ length-map-range_with_len _ 0 (length c.args.component.now);
  value_length = ap length c.in_ok-values.ensures
      ∙ length-map-range_with_len _ 0 (length c.args.component.now);
  right_length = ap length c.in_ok-right_limits.ensures
      ∙ length-map-range_with_len _ 0 (length c.args.component.now);
  left_fit = c.in_ok-left_limits.ensures.fits;
  value_fit = subst (All Fits) (sym c.in_ok-values.ensures)
      (values_fit _ c.args.numbers.now c.requires.fits);
  right_fit = subst (All Fits) (sym c.in_ok-right_limits.ensures)
      (rights_fit _ c.args.numbers.now c.requires.fits);
}
