-- Entries that are not 0, in the order of their columns.
use Rattle.std.proofs.Common.{◌≡◌, ◌≢◌, ◌≤◌, ⊎_elim, ℕ, ◌+◌, List, [], ◌∷◌, ◌++◌, pos, sym, ap, subst, ◌∙◌, arith}
use Rattle.gj_frac.specs.Fraction.{numerator}
use Rattle.gj_problem.specs.declared.problem.Entry.{Entry}
use Rattle.gj_problem.specs.Problems.{AreTermsWithin}
use Rattle.gj_problem.specs.RoundedCuts.{IsZero}
use Rattle.gj_problem.specs.Steps.{IsMadeNext}

pub later_terms : (i j k : ℕ) (es : List Entry) → i ≤ j → AreTermsWithin j k es →
    AreTermsWithin i k es
later_terms i j k [] low h = omega arith
later_terms i j k (e ∷ es) low h = (omega (arith, h.0), h.1, h.2)

wider_terms : (j k : ℕ) (es : List Entry) → AreTermsWithin j k es → AreTermsWithin j (k + 1) es
wider_terms j k [] h = omega arith
wider_terms j k (e ∷ es) h = (h.0, h.1, wider_terms (e.column + 1) k es h.2)

longer_terms : (j k : ℕ) (es : List Entry) (e : Entry) → AreTermsWithin j k es → e.column ≡ k →
    numerator e.value ≢ pos 0 →
    AreTermsWithin j (k + 1) (es ++ e ∷ [])
longer_terms j k [] e h here some = (omega (arith, h, here), some, omega (arith, here))
longer_terms j k (d ∷ es) e h here some =
    (h.0, h.1, longer_terms (d.column + 1) k es e h.2 here some)

-- one more column, with an entry or none
pub next_terms : (k : ℕ) (es fs : List Entry) (e : Entry) → e.column ≡ k → AreTermsWithin 0 k es →
    IsMadeNext (IsZero e) (λ (d : Entry). d ≡ e) es fs → AreTermsWithin 0 (k + 1) fs
next_terms k es fs e here h next =
    ⊎_elim
    (λ (a : IsZero e × (fs ≡ es)). subst (λ (gs : List Entry). AreTermsWithin 0 (k + 1) gs)
    (sym a.1) (wider_terms 0 k es h))
    (λ (b : (IsZero e → ⊥) × (d : Entry) × (d ≡ e) × (fs ≡ es ++ d ∷ [])).
    subst (λ (gs : List Entry). AreTermsWithin 0 (k + 1) gs)
    (sym (b.3 ∙ ap (λ (d : Entry). es ++ d ∷ []) b.2))
    (longer_terms 0 k es e h here b.0))
    next

pub all_terms : (k n : ℕ) (es fs : List Entry) → fs ≡ es → k ≡ n → AreTermsWithin 0 k es →
    AreTermsWithin 0 n fs
all_terms k n es fs same end h =
    subst (λ (m : ℕ). AreTermsWithin 0 m fs) end
    (subst (λ (gs : List Entry). AreTermsWithin 0 k gs) (sym same) h)
