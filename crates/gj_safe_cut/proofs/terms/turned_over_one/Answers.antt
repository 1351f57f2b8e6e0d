use Rattle.std.proofs.Common.{⊎_elim, ◌<◌, ◌^◌, ◌++◌, ℕ, List, length, pos, ap, subst, sym, ◌∙◌}
use Rattle.gj_frac.specs.declared.Frac.{Frac}
use Rattle.gj_fields.specs.Rational.{Rational, whole, ◌-ℚ◌}
use Rattle.gj_problem.specs.declared.pieces.Piece.{Piece}
use Rattle.gj_problem.specs.Problems.{surplus_at, AreTermsWithin}
use Rattle.gj_problem.specs.Aggregates.{combined_at}
use Rattle.gj_problem.proofs.MadePieces.{zip_joined}
use Rattle.gj_safe_cut.specs.SafeCuts.{IsCoefficient}
use Rattle.gj_safe_cut.specs.AddedTerms.{surplus_of, AreTermsAdded, IsWideAdding}
use Rattle.gj_safe_cut.proofs.NarrowTerms.{narrow_joined}
use Rattle.gj_safe_cut.proofs.TermSums.{begun, combined_joined, against_one}
use Rattle.gj_safe_cut.proofs.terms.turned_over_one.Goals as goal

pub returns-clause-cut : goal.returns-clause-cut
returns-clause-cut g c =
    let V = g.V.Values.has_value c.args.values.now in
    let Out = g.V.Values.is_out c.args.values.now in
    let up = c.args.slopes.up in
    let down = c.args.slopes.down in
    let R : Piece → Frac → Type 0 = IsCoefficient V up down in
    let ps = c.args.row.now.slacks.items in
    let qs = c.args.row.now.bounds.items in
    let (cs, r, parts, none) = c.in_ok-sum.ensures in
    let start = begun c.args.columns cs r none.count none.none none.right_is in
    let (ds, s, middle_parts, one) = c.in_ok-add_over_one.ensures cs r parts in
    let (es, t, last_parts, two) = c.in_ok-add_over_one-2.ensures ds s middle_parts in
    let first : AreTermsAdded V Out up down ps cs r ds s =
    subst (λ (xs : List Piece). AreTermsAdded V Out up down xs cs r ds s) c.as_slice.ensures.value
    one in
    let second : AreTermsAdded V Out up down qs ds s es t =
    subst (λ (xs : List Piece). AreTermsAdded V Out up down xs ds s es t) c.as_slice-2.ensures.value
    two in
    let made = c.in_ok-cut.ensures es t last_parts in
    let ks = first.added.coefficients in
    let ls = second.added.coefficients in (
      ks ++ ls,
      zip_joined R ps qs ks ls first.added.given second.added.given,
      λ (point : List Rational).
          let a = combined_at point ks ps in
          let b = combined_at point ls qs in
          against_one a b (surplus_of cs r point) (surplus_of ds s point) (surplus_of es t point)
          (surplus_at point c.in_ok-cut.cut)
          (start.starts point) (first.added.adds point) (second.added.adds point)
          (made.surplus point)
          ∙ ap (λ w. w -ℚ whole (pos 1))
          (sym (combined_joined R point ps qs ks ls first.added.given)),
      subst (λ (n : ℕ). AreTermsWithin 0 n c.in_ok-cut.cut.entries) (second.count ∙ first.count
          ∙ none.count) made.terms,
    )

pub returns-clause-narrow : goal.returns-clause-narrow
returns-clause-narrow g c one_value =
    let V = g.V.Values.has_value c.args.values.now in
    let Out = g.V.Values.is_out c.args.values.now in
    let up = c.args.slopes.up in
    let down = c.args.slopes.down in
    let ps = c.args.row.now.slacks.items in
    let qs = c.args.row.now.bounds.items in
    let (cs, r, parts, none) = c.in_ok-sum.ensures in
    let start = begun c.args.columns cs r none.count none.none none.right_is in
    let (ds, s, middle_parts, one) = c.in_ok-add_over_one.ensures cs r parts in
    let (es, t, last_parts, two) = c.in_ok-add_over_one-2.ensures ds s middle_parts in
    let first : AreTermsAdded V Out up down ps cs r ds s =
    subst (λ (xs : List Piece). AreTermsAdded V Out up down xs cs r ds s) c.as_slice.ensures.value
    one in
    let second : AreTermsAdded V Out up down qs ds s es t =
    subst (λ (xs : List Piece). AreTermsAdded V Out up down xs ds s es t) c.as_slice-2.ensures.value
    two in
    let made = c.in_ok-cut.ensures es t last_parts in
    ⊎_elim
    (narrow_joined V Out up down one_value c.args.columns (length cs) ps qs (surplus_of cs r)
    (surplus_of ds s) start first.added
    (first.fit one_value)
    (subst (λ (n : ℕ). IsWideAdding V Out up down qs n (surplus_of ds s) → ⊥) first.count
    (second.fit one_value)))
    (subst (λ (n : ℕ). 2 ^ 32 < n → ⊥) (second.count ∙ first.count ∙ none.count) made.few)
