use Rattle.std.proofs.Common.{◌≡◌, ⊎_elim, ◌<◌, ◌^◌, ◌++◌, inl, ℕ, List, Option, IfSome, IsNone, length, pos, sym, ap, subst, subst₂, ◌∙◌}
use Rattle.gj_frac.specs.declared.Frac.{Frac}
use Rattle.gj_fields.specs.Rational.{Rational, whole, rational, ◌-ℚ◌}
use Rattle.gj_problem.specs.declared.problem.Inequality.{Inequality}
use Rattle.gj_problem.specs.declared.pieces.Piece.{Piece}
use Rattle.gj_problem.specs.Problems.{surplus_at, AreTermsWithin}
use Rattle.gj_problem.specs.Aggregates.{combined_at}
use Rattle.gj_problem.proofs.AddedSums.{whole_ratio}
use Rattle.gj_safe_cut.specs.SafeCuts.{IsCoefficient}
use Rattle.gj_safe_cut.specs.AddedTerms.{surplus_of_sum, AreAdded, IsWideAdding}
use Rattle.gj_problem.proofs.MadePieces.{zip_joined}
use Rattle.gj_safe_cut.proofs.NarrowTerms.{narrow_joined}
use Rattle.gj_safe_cut.proofs.TermSums.{begun, combined_joined, against_one, wide_in_first, wide_in_second}
use Rattle.gj_safe_cut.proofs.terms.turned_one_by_one.Goals as goal

pub returns-in-Some-clause-cut : goal.returns-in-Some-clause-cut
returns-in-Some-clause-cut g c =
    let R : Piece → Frac →
    Type 0 = IsCoefficient (g.V.Values.has_value c.args.values.now) c.args.slopes.up
    c.args.slopes.down in
    let ps = c.args.row.now.slacks.items in
    let qs = c.args.row.now.bounds.items in
    let none = c.in_ok-sum.sum in
    let middle = c.add_terms.new.sum in
    let last = c.add_terms-2.new.sum in
    let start = begun c.args.columns none.coefficients.items none.right c.in_ok-sum.ensures.count
    c.in_ok-sum.ensures.none
    (ap rational c.in_ok-sum.ensures.right ∙ whole_ratio c.ratio.result (pos 1) c.ratio.ensures) in
    let first : AreAdded R ps (surplus_of_sum none) (surplus_of_sum middle) =
    subst (λ (xs : List Piece). AreAdded R xs (surplus_of_sum none) (surplus_of_sum middle))
    c.as_slice.ensures.value c.in_ok-add_terms.ensures.added in
    let second : AreAdded R qs (surplus_of_sum middle) (surplus_of_sum last) =
    subst (λ (xs : List Piece). AreAdded R xs (surplus_of_sum middle) (surplus_of_sum last))
    c.as_slice-2.ensures.value c.in_ok-add_terms-2.ensures.added in
    let made : (point : List Rational) →
    surplus_at point c.in-Some.cut ≡ surplus_of_sum last point =
    subst (λ (q : Option Inequality). IfSome q (λ q. (point : List Rational) →
    surplus_at point q ≡ surplus_of_sum last point)) c.in-Some.is
    c.in_ok-cut.ensures.surplus in
    let terms : AreTermsWithin 0 (length last.coefficients.items) c.in-Some.cut.entries =
    subst (λ (q : Option Inequality). IfSome q
    (λ q. AreTermsWithin 0 (length last.coefficients.items) q.entries)) c.in-Some.is
    c.in_ok-cut.ensures.terms in (
      first.coefficients ++ second.coefficients,
      zip_joined R ps qs first.coefficients second.coefficients first.given second.given,
      λ (point : List Rational).
          let a = combined_at point first.coefficients ps in
          let b = combined_at point second.coefficients qs in
          against_one a b (surplus_of_sum none point) (surplus_of_sum middle point)
          (surplus_of_sum last point) (surplus_at point c.in-Some.cut)
          (start.starts point) (first.adds point) (second.adds point) (made point)
          ∙ ap (λ w. w -ℚ whole (pos 1))
          (sym (combined_joined R point ps qs first.coefficients second.coefficients
          first.given)),
      subst (λ (n : ℕ). AreTermsWithin 0 n c.in-Some.cut.entries)
          (c.in_ok-add_terms-2.ensures.count ∙ c.in_ok-add_terms.ensures.count
          ∙ c.in_ok-sum.ensures.count) terms,
    )

pub returns-in_err-add_terms-clause-wide : goal.returns-in_err-add_terms-clause-wide
returns-in_err-add_terms-clause-wide g c = λ fault.
    let none = c.in_ok-sum.sum in
    let start = begun c.args.columns none.coefficients.items none.right c.in_ok-sum.ensures.count
    c.in_ok-sum.ensures.none
    (ap rational c.in_ok-sum.ensures.right ∙ whole_ratio c.ratio.result (pos 1) c.ratio.ensures) in
    inl (wide_in_first (g.V.Values.has_value c.args.values.now)
    (g.V.Values.is_out c.args.values.now) c.args.slopes.up c.args.slopes.down c.args.columns
    (length none.coefficients.items) c.args.row.now.slacks.items c.args.row.now.bounds.items
    (surplus_of_sum none) start
    (subst
    (λ (xs : List Piece). IsWideAdding (g.V.Values.has_value c.args.values.now)
    (g.V.Values.is_out c.args.values.now) c.args.slopes.up
    c.args.slopes.down xs (length none.coefficients.items) (surplus_of_sum none))
    c.as_slice.ensures.value c.in_err-add_terms.ensures.wide))

pub returns-in_err-add_terms-2-clause-wide : goal.returns-in_err-add_terms-2-clause-wide
returns-in_err-add_terms-2-clause-wide g c = λ fault.
    let R : Piece → Frac →
    Type 0 = IsCoefficient (g.V.Values.has_value c.args.values.now) c.args.slopes.up
    c.args.slopes.down in
    let none = c.in_ok-sum.sum in
    let middle = c.add_terms.new.sum in
    let start = begun c.args.columns none.coefficients.items none.right c.in_ok-sum.ensures.count
    c.in_ok-sum.ensures.none
    (ap rational c.in_ok-sum.ensures.right ∙ whole_ratio c.ratio.result (pos 1) c.ratio.ensures) in
    inl (wide_in_second (g.V.Values.has_value c.args.values.now)
    (g.V.Values.is_out c.args.values.now) c.args.slopes.up c.args.slopes.down
    c.args.columns (length none.coefficients.items) c.args.row.now.slacks.items
    c.args.row.now.bounds.items (surplus_of_sum none)
    (surplus_of_sum middle) start
    (subst (λ (xs : List Piece). AreAdded R xs (surplus_of_sum none) (surplus_of_sum middle))
    c.as_slice.ensures.value c.in_ok-add_terms.ensures.added)
    (subst₂
    (λ (xs : List Piece) (n : ℕ). IsWideAdding (g.V.Values.has_value c.args.values.now)
    (g.V.Values.is_out c.args.values.now) c.args.slopes.up
    c.args.slopes.down xs n (surplus_of_sum middle))
    c.as_slice-2.ensures.value c.in_ok-add_terms.ensures.count c.in_err-add_terms-2.ensures.wide))

pub returns-in-Some-clause-narrow : goal.returns-in-Some-clause-narrow
returns-in-Some-clause-narrow g c one =
    let V = g.V.Values.has_value c.args.values.now in
    let Out = g.V.Values.is_out c.args.values.now in
    let up = c.args.slopes.up in
    let down = c.args.slopes.down in
    let ps = c.args.row.now.slacks.items in
    let qs = c.args.row.now.bounds.items in
    let none = c.in_ok-sum.sum in
    let middle = c.add_terms.new.sum in
    let last = c.add_terms-2.new.sum in
    let start = begun c.args.columns none.coefficients.items none.right c.in_ok-sum.ensures.count
    c.in_ok-sum.ensures.none
    (ap rational c.in_ok-sum.ensures.right ∙ whole_ratio c.ratio.result (pos 1) c.ratio.ensures) in
    let few : 2 ^ 32 < length last.coefficients.items → ⊥ =
    λ many. let none = subst (λ (q : Option Inequality). IsNone q) c.in-Some.is
    (c.in_ok-cut.ensures.none.1 many) in absurd (cc) in
    ⊎_elim
    (narrow_joined V Out up down one c.args.columns (length none.coefficients.items) ps qs
    (surplus_of_sum none) (surplus_of_sum middle) start
    (subst (λ (xs : List Piece). AreAdded (IsCoefficient V up down) xs (surplus_of_sum none)
    (surplus_of_sum middle)) c.as_slice.ensures.value
    c.in_ok-add_terms.ensures.added)
    (subst (λ (xs : List Piece). IsWideAdding V Out up down xs (length none.coefficients.items)
    (surplus_of_sum none) → ⊥)
    c.as_slice.ensures.value (c.in_ok-add_terms.ensures.narrow one))
    (subst₂ (λ (xs : List Piece) (n : ℕ). IsWideAdding V Out up down xs n (surplus_of_sum middle) →
    ⊥) c.as_slice-2.ensures.value
    c.in_ok-add_terms.ensures.count (c.in_ok-add_terms-2.ensures.narrow one)))
    (subst (λ (n : ℕ). 2 ^ 32 < n → ⊥) (c.in_ok-add_terms-2.ensures.count
    ∙ c.in_ok-add_terms.ensures.count ∙ c.in_ok-sum.ensures.count) few)
