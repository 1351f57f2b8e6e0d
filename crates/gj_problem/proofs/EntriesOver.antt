-- The entries of a sum over one denominator that are not 0.
use Rattle.std.proofs.Common.{◌≡◌, ⊎_elim, ℕ, zero, suc, ◌+◌, ◌<◌, ℤ, pos, List, [], ◌∷◌, ◌++◌, length, get_or, refl, sym, ap, subst, ◌∙◌, arith}
use Rattle.std.specs.List.{AllZip}
use Rattle.gj_frac.specs.declared.Frac.{Frac}
use Rattle.gj_frac.specs.Fraction.{IsRatio}
use Rattle.gj_fields.specs.Rational.{Rational, rational, ◌+ℚ◌, ◌*ℚ◌}
use Rattle.gj_problem.specs.declared.problem.Entry.{Entry}
use Rattle.gj_problem.specs.Problems.{sum_at, value_at, AreTermsWithin}
use Rattle.gj_problem.specs.RoundedCuts.{IsZero}
use Rattle.gj_problem.specs.Steps.{IsMadeNext}
use Rattle.gj_problem.specs.EntriesOver.{entry_in, IsNumeratorPushed, AreEntriesOver}
use Rattle.gj_problem.proofs.AddedSums.{no_entry, one_entry, next_column}
use Rattle.gj_problem.proofs.Prefixes.{default_unused}
use Rattle.gj_problem.proofs.Terms.{next_terms}
use Rattle.gj_problem.specs.Combinations.{AreOver}
use Rattle.gj_problem.proofs.Combinations.{fraction_over}
use Rattle.std.proofs.lemmas.Int.{ints}

ratio_length : (d : ℤ) (ns : List ℤ) (cs : List Frac) →
    AllZip (λ (n : ℤ) (x : Frac). IsRatio x n d) ns cs → length ns ≡ length cs
ratio_length d [] [] h = refl
ratio_length d [] (c ∷ cs) h = absurd h
ratio_length d (n ∷ ns) [] h = absurd h
ratio_length d (n ∷ ns) (c ∷ cs) h = ap suc (ratio_length d ns cs h.1)

ratio_at : (d : ℤ) (ns : List ℤ) (cs : List Frac) (i : ℕ) (a : ℤ) (b : Frac) →
    AllZip (λ (n : ℤ) (x : Frac). IsRatio x n d) ns cs → i < length ns →
    IsRatio (get_or cs i b) (get_or ns i a) d
ratio_at d [] cs i a b h below = absurd (omega arith)
ratio_at d (n ∷ ns) [] i a b h below = absurd h
ratio_at d (n ∷ ns) (c ∷ cs) zero a b h below = h.0
ratio_at d (n ∷ ns) (c ∷ cs) (suc i) a b h below = ratio_at d ns cs i a b h.1 (omega arith)

pub over_ratios : (d : ℤ) (ns : List ℤ) (cs : List Frac) → AreOver d ns cs →
    AllZip (λ (n : ℤ) (x : Frac). IsRatio x n d) ns cs
over_ratios d [] [] h = h
over_ratios d [] (c ∷ cs) h = absurd h
over_ratios d (n ∷ ns) [] h = absurd h
over_ratios d (n ∷ ns) (c ∷ cs) h = (h.0.ratio, over_ratios d ns cs h.1)

pub no_entry_over : (d : ℤ) (ns : List ℤ) (es : List Entry) → es ≡ [] → AreEntriesOver d ns 0 es
no_entry_over d ns es none cs h = record {
  sum = λ (point : List Rational). ap (sum_at point) none;
  terms = subst (λ (fs : List Entry). AreTermsWithin 0 0 fs) (sym none) (omega arith);
}

-- one more numerator
pub next_entry_over : (d : ℤ) (ns : List ℤ) (i : ℕ) (a : ℤ) (es fs : List Entry) → i < length ns →
    AreEntriesOver d ns i es →
    IsNumeratorPushed i (get_or ns i a) d es fs → AreEntriesOver d ns (i + 1) fs
next_entry_over d ns i a es fs below so_far pushed cs h =
    let x0 : Frac = (fraction_over (pos 0) (pos 1) (omega (arith, ints)) (omega arith)
    (omega arith)).0 in
    let x : Frac = get_or cs i x0 in
    let c_below : i < length cs = subst (λ (k : ℕ). i < k) (ratio_length d ns cs h) below in
    let x_here : x ≡ get_or cs i x = default_unused cs i x0 x c_below in
    let before = so_far cs h in
    let e : Entry = entry_in i x in
    let next : IsMadeNext (IsZero e) (λ f. f ≡ e) es fs =
    pushed x (ratio_at d ns cs i a x0 h below) in
    let added : (point : List Rational) →
    sum_at point fs ≡ sum_at point es +ℚ rational x *ℚ value_at point i =
    λ point. ⊎_elim
    (λ (k : IsZero e × (fs ≡ es)). no_entry point es fs e k.1 k.0)
    (λ (k : (IsZero e → ⊥) × (f : Entry) × (f ≡ e) × (fs ≡ es ++ f ∷ [])).
    one_entry point es e fs (k.3 ∙ ap (λ (f : Entry). es ++ f ∷ []) k.2))
    next in
    record {
      sum = λ (point : List Rational).
          next_column cs point i x (sum_at point es) (sum_at point fs) c_below x_here
          (before.sum point) (added point);
      terms = next_terms i es fs e refl before.terms next;
    }
