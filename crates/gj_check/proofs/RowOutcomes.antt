-- The first failure in a row, from those of its terms.
use Rattle.std.proofs.Common.{◌≡◌, ℕ, ◌+◌, ◌<◌, List, [], ◌∷◌, ◌++◌, length, take, get_or, map, Option, Some, None, sym, ap, subst, ◌∙◌, arith}
use Rattle.std.proofs.lemmas.List.{map-append, length-take-le}
use Rattle.gj_frac.specs.declared.Frac.{Frac}
use Rattle.gj_proof.specs.declared.cut.CutRule.{CutRule}
use Rattle.gj_proof.specs.declared.cut.CutLine.{CutLine}
use Rattle.gj_proof.specs.declared.cut.CutLine.TheVariants as cuts
use Rattle.gj_proof.specs.declared.cut.CutTerm.{CutTerm}
use Rattle.gj_proof.specs.ProofText.{term_lines}
use Rattle.gj_proof.specs.Rules.{AtIndex, IfCut, MeetsFraction, MeetsLimit}
use Rattle.gj_check.specs.declared.rules.CheckRule.{CheckRule}
use Rattle.gj_check.specs.declared.cut_rows.RowFailure.{RowFailure}
use Rattle.gj_check.specs.CutRows.{MeetsTerm, FailsTerm, MeetTerms, FailTerms, IsTermsOutcome, IsRowOutcome}
use Rattle.gj_check.specs.CutRows.FailsRow.{at_term}
use Rattle.gj_proof.proofs.AtPlaces.{at_place, with_place}
use Rattle.gj_proof.proofs.LineCounts.{length-terms}

-- the numbers of a row up to the n-th term
abbrev pub numbers : Frac → ℕ → List CutTerm → List Frac
numbers right n terms = right ∷ map (λ u. u.entry) (take n terms)

-- one more
pub next_number : (right : Frac) (n : ℕ) (terms : List CutTerm) (t : CutTerm) → n < length terms →
    t ≡ get_or terms n t →
    numbers right (n + 1) terms ≡ numbers right n terms ++ t.entry ∷ []
next_number right n terms t below is =
    ap (λ xs. right ∷ map (λ u. u.entry) xs) (with_place terms n t below is)
    ∙ ap (λ xs. right ∷ xs) (map-append (λ u. u.entry) (take n terms) (t ∷ []))

-- the n-th term is the first that fails
pub fails_at : (rule : CutRule) (basic : List ℕ) (right : Frac) (terms : List CutTerm) (n line : ℕ)
    (t : CutTerm) (r : CheckRule) →
    line ≡ 1 + length (term_lines 0 0 (take n terms)) → n < length terms → t ≡ get_or terms n t →
    ((i : ℕ) → i < n → AtIndex terms i (MeetsTerm rule basic right)) →
    FailsTerm rule basic right r (take n terms) t →
    FailTerms rule basic right terms (record { below = line; rule = r })
fails_at rule basic right terms n line t r line_is below is h fails = record {
  index = n;
  below = let long = length-take-le n terms (omega arith) in
      let lines = length-terms 0 0 (take n terms) in omega arith;
  fails = record {
    within = below;
    before = h;
    here =
        at_place terms (FailsTerm rule basic right r) n t below is fails;
  };
}

-- a row with a cut whose right side meets its rules
pub row_outcome : (rule : CutRule) (l : CutLine) (basic : List ℕ) (right : Frac)
    (terms : List CutTerm) (o : Option RowFailure) →
    l ≡ cuts.Cut basic right terms → MeetsFraction rule l → MeetsLimit [] right →
    IsTermsOutcome rule basic right terms o →
    IsRowOutcome rule l o
row_outcome rule l basic right terms None is meets within h = record {
  fraction = meets;
  cut = subst (λ (m : CutLine). IfCut m (λ name value items. MeetsLimit [] value
      × MeetTerms rule name value items)) (sym is) (within, h);
}
row_outcome rule l basic right terms (Some f) is meets within h =
    at_term basic right terms is meets within h
