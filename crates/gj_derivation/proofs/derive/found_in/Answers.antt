use Rattle.std.proofs.Common.{◌≡◌, ◌⊎◌, ⊎_elim, ◌<◌, ◌^◌, rules, inl, inr, ℕ, List, length, ap, sym, subst, subst₂, ◌∙◌}
use Rattle.gj_frac.specs.declared.Frac.{Frac}
use Rattle.gj_fields.specs.Rational.{Rational, rational}
use Rattle.gj_problem.specs.declared.problem.Column.{Column}
use Rattle.gj_problem.specs.Problems.{AreTermsWithin}
use Rattle.gj_derivation.specs.declared.moves.Moved.{Moved}
use Rattle.gj_derivation.specs.declared.terms.Found.{Found}
use Rattle.gj_derivation.specs.Derivations.{coefficient_in, times, IsRightOf}
use Rattle.gj_derivation.specs.Checks.{claimed_at, line_of_sum, IsMovedRight, IsFirstUnmovable, IsWideMoving}
use Rattle.gj_derivation.specs.Drafts.{AreFoundFor, IsFound, IsFirstNotFound, IsWideFound, IsWideFinding}
use Rattle.gj_derivation.proofs.AgreeingTerms.{wide_along}
use Rattle.gj_derivation.proofs.OneFound.{agree_if_found, found_or_not}
use Rattle.gj_derivation.proofs.FoundTerms.{found_moves}
use Rattle.gj_derivation.proofs.derive.found_in.Goals as goal

pub returns-in_err-terms-clause-wide : goal.returns-in_err-terms-clause-wide
returns-in_err-terms-clause-wide c = λ fault.
    inl (subst (λ (cs : List Column). IsWideFound c.args.grid cs c.args.factor
    (line_of_sum c.args.sum.now)) c.as_slice-columns.ensures
    (c.in_err-terms.ensures.wide (search rules)))

pub returns-in_err-right-in-Terms-clause-wide : goal.returns-in_err-right-in-Terms-clause-wide
returns-in_err-right-in-Terms-clause-wide c = λ fault.
    let cols = c.as_slice-columns.result.now in
    let base = line_of_sum c.args.sum.now in
    let xs = times c.args.factor base in
    let made = subst (λ (t : Found). IsFound c.args.grid cols xs t) c.in-Terms.is
    c.in_ok-terms.ensures.is in
    subst (λ (cs : List Column). IsWideFinding c.args.grid cs c.args.factor base)
    c.as_slice-columns.ensures
    (inr (
      claimed_at c.in-Terms.terms.items,
      made.1,
      inl (subst (λ ys. IsWideMoving cols c.args.factor base (claimed_at ys))
          c.as_slice.ensures.value c.in_err-right-in-Terms.ensures.wide),
    ))

pub returns-in_err-claim_from-in-Terms-clause-wide :
    goal.returns-in_err-claim_from-in-Terms-clause-wide
returns-in_err-claim_from-in-Terms-clause-wide c = λ fault.
    let cols = c.as_slice-columns.result.now in
    let base = line_of_sum c.args.sum.now in
    let xs = times c.args.factor base in
    let made = subst (λ (t : Found). IsFound c.args.grid cols xs t) c.in-Terms.is
    c.in_ok-terms.ensures.is in
    subst (λ (cs : List Column). IsWideFinding c.args.grid cs c.args.factor base)
    c.as_slice-columns.ensures
    (inr (
      claimed_at c.in-Terms.terms.items,
      made.1,
      inr (subst (λ (n : ℕ). 2 ^ 32 < n) made.0
          (c.in_err-claim_from-in-Terms.ensures.wide (search rules))),
    ))

pub returns-in_ok-claim_from-in-Terms-clause-narrow :
    goal.returns-in_ok-claim_from-in-Terms-clause-narrow
returns-in_ok-claim_from-in-Terms-clause-narrow c =
    let cols = c.as_slice-columns.result.now in
    let base = line_of_sum c.args.sum.now in
    let xs = times c.args.factor base in
    let ys = claimed_at c.in-Terms.terms.items in
    let made = subst (λ (t : Found). IsFound c.args.grid cols xs t) c.in-Terms.is
    c.in_ok-terms.ensures.is in
    subst (λ (cs : List Column). IsWideFinding c.args.grid cs c.args.factor base → ⊥)
    c.as_slice-columns.ensures
    (⊎_elim c.in_ok-terms.ensures.narrow
    (λ (k : (zs : ℕ → Rational) × AreFoundFor c.args.grid cols xs zs
    × (IsWideMoving cols c.args.factor base zs ⊎ (2 ^ 32 < length cols))).
    ⊎_elim
    (λ (wide : IsWideMoving cols c.args.factor base k.0).
    subst (λ (items : List Frac). IsWideMoving cols c.args.factor base (claimed_at items) → ⊥)
    c.as_slice.ensures.value c.in_ok-right-in-Terms.ensures.narrow
    (wide_along cols c.args.factor base k.0 ys
    (agree_if_found c.args.grid cols xs k.0 ys k.1 made.1) wide))
    (subst (λ (n : ℕ). 2 ^ 32 < n → ⊥) made.0 c.in_ok-claim_from-in-Terms.ensures.narrow)
    k.2))

pub returns-in-Bound-clause-narrow : goal.returns-in-Bound-clause-narrow
returns-in-Bound-clause-narrow c =
    let cols = c.as_slice-columns.result.now in
    let base = line_of_sum c.args.sum.now in
    let xs = times c.args.factor base in
    let missing : IsFirstNotFound c.args.grid cols xs c.in-Bound.column =
    subst (λ (t : Found). IsFound c.args.grid cols xs t) c.in-Bound.is c.in_ok-terms.ensures.is in
    subst (λ (cs : List Column). IsWideFinding c.args.grid cs c.args.factor base → ⊥)
    c.as_slice-columns.ensures
    (⊎_elim c.in_ok-terms.ensures.narrow
    (λ (k : (zs : ℕ → Rational) × AreFoundFor c.args.grid cols xs zs
    × (IsWideMoving cols c.args.factor base zs ⊎ (2 ^ 32 < length cols))).
    found_or_not c.args.grid cols xs k.0 c.in-Bound.column k.1 missing))

pub unreachable-requires : goal.unreachable-requires
unreachable-requires c =
    let cols = c.as_slice-columns.result.now in
    let base = line_of_sum c.args.sum.now in
    let xs = times c.args.factor base in
    let made = subst (λ (t : Found). IsFound c.args.grid cols xs t) c.in-Terms.is
    c.in_ok-terms.ensures.is in
    let stuck = subst (λ (m : Moved). IsMovedRight cols c.args.factor base
    (claimed_at c.as_slice.result.now) m) c.in_default.is
    c.in_ok-right-in-Terms.ensures.is in
    found_moves c.args.grid cols xs (claimed_at c.in-Terms.terms.items) c.in_default.field-0 made.1
    (subst (λ ys. IsFirstUnmovable cols xs (claimed_at ys) c.in_default.field-0)
    c.as_slice.ensures.value stuck)

pub returns-in_ok-claim_from-in-Terms-clause-is : goal.returns-in_ok-claim_from-in-Terms-clause-is
returns-in_ok-claim_from-in-Terms-clause-is c =
    let cols = c.as_slice-columns.result.now in
    let base = line_of_sum c.args.sum.now in
    let xs = times c.args.factor base in
    let q = c.in_ok-claim_from-in-Terms.field-0 in
    let made = subst (λ (t : Found). IsFound c.args.grid cols xs t) c.in-Terms.is
    c.in_ok-terms.ensures.is in
    let right = subst (λ (m : Moved). IsMovedRight cols c.args.factor base
    (claimed_at c.as_slice.result.now) m) c.in-Right.is
    c.in_ok-right-in-Terms.ensures.is in
    let coefficients : claimed_at c.in-Terms.terms.items ≡ coefficient_in q.entries =
    λ i j. sym (c.in_ok-claim_from-in-Terms.ensures.coefficients j) i in
    let columns = ap (λ cs. length cs) c.as_slice-columns.ensures in (
      subst (λ (n : ℕ). AreTermsWithin 0 n q.entries) (made.0 ∙ columns)
          c.in_ok-claim_from-in-Terms.ensures.terms,
      subst₂ (λ (cs : List Column) (ys : ℕ → Rational). AreFoundFor c.args.grid cs xs ys)
          c.as_slice-columns.ensures coefficients made.1,
      subst (λ (cs : List Column). IsRightOf cs c.args.factor base (coefficient_in q.entries)
          (rational q.right)) c.as_slice-columns.ensures
          (subst₂ (λ (ys : ℕ → Rational) (b : Rational). IsRightOf cols c.args.factor base ys b)
          (ap claimed_at c.as_slice.ensures.value ∙ coefficients)
          (sym c.in_ok-claim_from-in-Terms.ensures.right) right),
    )
