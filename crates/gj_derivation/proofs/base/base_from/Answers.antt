use Rattle.std.proofs.Common.{rules, ℕ, List, length, ap, subst, subst₂}
use Rattle.gj_problem.specs.declared.problem.Entry.{Entry}
use Rattle.gj_problem.specs.Problems.{AreTermsWithin}
use Rattle.gj_safe_cut.specs.SafeCuts.{SafeCutHasTerms}
use Rattle.gj_derivation.specs.Checks.{IsWideTerms}
use Rattle.gj_derivation.proofs.TermsFit.{terms_fit}
use Rattle.gj_derivation.proofs.base.base_from.Goals as goal

pub returns-in_err-sum-in-Cut-clause-wide : goal.returns-in_err-sum-in-Cut-clause-wide
returns-in_err-sum-in-Cut-clause-wide c = λ fault.
    let n = length c.args.problem.now.columns in
    let terms : AreTermsWithin 0 n c.in-Cut.q.entries =
    subst (SafeCutHasTerms c.args.problem.now) c.in-Cut.is c.requires in
    let columns = ap (λ xs. length xs) c.as_slice-columns.ensures in
    absurd (terms_fit n c.in-Cut.q.entries terms
    (subst₂ (λ (m : ℕ) (es : List Entry). IsWideTerms m es) columns c.as_slice.ensures
    (c.in_err-sum-in-Cut.ensures.wide (search rules))))
