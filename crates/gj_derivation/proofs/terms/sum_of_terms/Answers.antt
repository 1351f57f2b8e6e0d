use Rattle.std.proofs.Common.{⊎_elim, inl, ap, pos, ◌∙◌}
use Rattle.gj_fields.specs.Rational.{rational}
use Rattle.gj_problem.specs.Steps.{IsWideAt, IsWideWithin}
use Rattle.gj_problem.proofs.AddedSums.{whole_ratio}
use Rattle.gj_derivation.proofs.CheckedSums.{terms_are}
use Rattle.gj_derivation.proofs.NarrowBases.{narrow_terms}
use Rattle.gj_derivation.proofs.TermsFit.{not_wide_at}
use Rattle.gj_derivation.proofs.terms.sum_of_terms.Goals as goal

pub returns-in_err-add-clause-wide : goal.returns-in_err-add-clause-wide
returns-in_err-add-clause-wide c = λ fault.
    let none = c.in_ok-sum.sum in
    let right = ap rational c.in_ok-sum.ensures.right ∙ whole_ratio c.ratio.result (pos 0)
    c.ratio.ensures in
    let one = whole_ratio c.ratio-2.result (pos 1) c.ratio-2.ensures in
    record {
      none = none.coefficients.items;
      count = c.in_ok-sum.ensures.count;
      are_none = c.in_ok-sum.ensures.none;
      one = c.ratio-2.result;
      one_is = one;
      wide = ⊎_elim
          (λ (wide : IsWideWithin none.coefficients.items c.ratio-2.result c.args.entries.now).
          wide)
          (λ (wide : IsWideAt none.right c.ratio-2.result c.args.right). absurd
          (not_wide_at none.right c.ratio-2.result c.args.right right one wide))
          c.in_err-add.ensures.wide;
    }

pub returns-clause-is : goal.returns-clause-is
returns-clause-is c =
    terms_are c.args.columns c.in_ok-sum.sum c.add.new.self c.ratio-2.result c.args.entries.now
    c.args.right c.in_ok-sum.ensures.count
    c.in_ok-add.ensures.count c.in_ok-add.ensures.added c.in_ok-sum.ensures.none
    (ap rational c.in_ok-sum.ensures.right ∙ whole_ratio c.ratio.result (pos 0) c.ratio.ensures)
    (whole_ratio c.ratio-2.result (pos 1) c.ratio-2.ensures)

pub returns-clause-narrow : goal.returns-clause-narrow
returns-clause-narrow c =
    let none = c.in_ok-sum.sum in
    narrow_terms c.args.columns c.args.entries.now none.coefficients.items c.ratio-2.result
    c.in_ok-sum.ensures.count c.in_ok-sum.ensures.none
    (whole_ratio c.ratio-2.result (pos 1) c.ratio-2.ensures)
    (λ wide. c.in_ok-add.ensures.narrow (inl wide))
