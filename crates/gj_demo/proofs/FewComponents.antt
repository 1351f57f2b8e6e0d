-- The cover lines of the demonstration open at most four components.
use Rattle.std.proofs.Common.{◌≡◌, ℕ, ◌+◌, ◌*◌, ◌%◌, ◌<◌, ◌≤◌, ◌==◌, List, ◌∷◌, ◌++◌, count_by, sym, subst, ◌∙◌, append_assoc, arith}
use Rattle.std.proofs.lemmas.Bool.{eqb-true}
use Rattle.gj_shape.specs.Additive.{IsTight}
use Rattle.gj_shape.specs.Cover.{AreCoverLines, LeadsTo}
use Rattle.gj_shape.specs.FunctionData.{FunctionData, IsWithinBounds}
use Rattle.gj_shape.specs.declared.extremality.CoverLine.{CoverLine}
use Rattle.gj_theory.proofs.CoverPaths.{leads_through, leads_turned}
use Rattle.gj_demo.specs.Demo.{IsDemo}
use Rattle.gj_theory.proofs.FewPassing.{AreApart, few_passing}
use Rattle.gj_demo.proofs.FourIntervals.{AddUpAtTight, chosen, class_of, class_below, leads_to_chosen}
use Rattle.gj_theory.proofs.OpeningLines.{openings_apart, line_within}
use Rattle.gj_demo.proofs.Values.{tight_by_numbers}

-- a list of joined intervals leads from the one to the other of two intervals of a class
leads_in_class : (k : ℕ) (Tight : ℕ → ℕ → Type 0) (i j : ℕ) → AddUpAtTight k Tight → k % 2 ≡ 1 →
    i < 2 * k → j < 2 * k →
    class_of k i ≡ class_of k j → LeadsTo (2 * k) Tight j i
leads_in_class k Tight i j tight odd i_low j_low same =
    let q = 2 * k in
    let first = leads_to_chosen k Tight i tight odd i_low in
    let second = leads_to_chosen k Tight j tight odd j_low in
    let shared = subst (λ c. LeadsTo q Tight (chosen k c) i) same first in
    leads_through q Tight j (chosen k (class_of k j)) i
    (leads_turned q Tight (chosen k (class_of k j)) j second) shared

-- so two opening lines have intervals of two classes
classes_apart : (k : ℕ) (Tight : ℕ → ℕ → Type 0) (lines : List CoverLine) → AddUpAtTight k Tight →
    k % 2 ≡ 1 →
    AreCoverLines (2 * k) Tight lines →
    AreApart (λ l. l.from == l.interval) (λ l. class_of k l.interval) lines
classes_apart k Tight lines tight odd cover = record {
  apart = λ before l middle m after place first second same.
      let q = 2 * k in
      let later : lines ≡ before ++ l ∷ middle ++ m ∷ after = place
      ∙ sym (append_assoc before (l ∷ middle) (m ∷ after)) in
      openings_apart q Tight lines before l middle m after cover place
      (eqb-true m.from m.interval second)
      (leads_in_class k Tight l.interval m.interval tight odd
      (line_within q Tight lines before l (middle ++ m ∷ after) cover place)
      (line_within q Tight lines (before ++ l ∷ middle) m after cover later) same);
}

pub few_components : (n : ℕ) (f : FunctionData) (lines : List CoverLine) → IsDemo n f →
    IsWithinBounds f →
    AreCoverLines f.order (IsTight f) lines → count_by (λ l. l.from == l.interval) lines ≤ 4
few_components n f lines h bounds cover =
    let k = 2 * n + 1 in
    few_passing (λ l. l.from == l.interval) (λ l. class_of k l.interval) 4 lines
    (λ l. class_below k l.interval)
    (classes_apart k (IsTight f) lines (λ a b e. tight_by_numbers n f a b h bounds e) (omega arith)
    (subst (λ (q : ℕ). AreCoverLines q (IsTight f) lines) h.order cover))
