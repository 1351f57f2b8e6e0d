-- An inequality is rounded to one inequality, or has one first free entry, and not both.
use Rattle.std.proofs.Common.{◌≡◌, ℕ, Option, Some, List, [], ◌∷◌, refl, sym, ap, ap₂, subst, ◌∙◌}
use Rattle.gj_frac.specs.declared.Frac.{Frac}
use Rattle.gj_fields.specs.Rational.{Rational, rational, ◌+ℚ◌}
use Rattle.gj_problem.specs.declared.problem.Entry.{Entry}
use Rattle.gj_problem.specs.declared.problem.Inequality.{Inequality}
use Rattle.gj_problem.specs.declared.problem.Problem.{Problem}
use Rattle.gj_problem.specs.declared.rounding.RoundedCut.{RoundedCut}
use Rattle.gj_problem.specs.declared.rounding.RoundedCut.TheVariants.{Cut, Free, Wide}
use Rattle.gj_problem.specs.Moves.{IsGiven, IsBelowOnGrid}
use Rattle.gj_problem.specs.RoundedCuts.{lower_of, upper_of, IsChanged, IsMoved, AreMoved, AreSomeOf, IsRoundedCut, IsFreeEntry, IsFirstFreeEntry, IsRoundedOf, TellsWideRounding, IsZero, total_of}
use Rattle.gj_problem.proofs.Failing.{true_at, same_first}
use Rattle.gj_problem.proofs.MadePieces.{made_one}
use Rattle.gj_problem.proofs.MovedEntries.{none_free_in}
use Rattle.gj_problem.proofs.OneMove.{one_below, one_on_grid, one_shift}
use Rattle.gj_problem.proofs.OneRow.{rational_injective, same_entry}

-- ---- moved entries

one_given : (o : Option Frac) (b d : Frac) → IsGiven o b → IsGiven o d → rational b ≡ rational d
one_given o b d h k = let same : Some b ≡ Some d = sym h ∙ k in let is : b ≡ d = cc in
    ap rational is

pub one_moved_to : (n : ℕ) (lower upper : Option Frac) (x y z s t : Rational) →
    IsMoved n lower upper x y s → IsMoved n lower upper x z t →
    (y ≡ z) × (s ≡ t)
one_moved_to n lower upper x y z s t h k =
    let value : y ≡ z = one_on_grid n lower upper x y z h.0 k.0 in (
      value,
      one_shift (IsGiven lower) (IsGiven upper) (one_given lower) (one_given upper) x y s t h.1
          (subst (λ w. IsChanged lower upper x w t) (sym value) k.1),
    )

pub one_moving : (p : Problem) (n : ℕ) (es fs gs : List Entry) (ss ts : List Rational) →
    AreMoved p n es fs ss → AreMoved p n es gs ts → (fs ≡ gs) × (ss ≡ ts)
one_moving p n [] [] [] [] [] h k = (refl, refl)
one_moving p n [] (f ∷ fs) gs ss ts h k = absurd h
one_moving p n [] [] gs (s ∷ ss) ts h k = absurd h
one_moving p n [] [] (g ∷ gs) [] ts h k = absurd k
one_moving p n [] [] [] [] (t ∷ ts) h k = absurd k
one_moving p n (e ∷ es) [] gs ss ts h k = absurd h
one_moving p n (e ∷ es) (f ∷ fs) gs [] ts h k = absurd h
one_moving p n (e ∷ es) (f ∷ fs) [] (s ∷ ss) ts h k = absurd k
one_moving p n (e ∷ es) (f ∷ fs) (g ∷ gs) (s ∷ ss) [] h k = absurd k
one_moving p n (e ∷ es) (f ∷ fs) (g ∷ gs) (s ∷ ss) (t ∷ ts) (same, moved, more)
    (same', moved', more') =
    let first =
    one_moved_to n (lower_of p e.column) (upper_of p e.column) (rational e.value) (rational f.value)
    (rational g.value) s t moved moved' in
    let rest = one_moving p n es fs gs ss ts more more' in (
      ap₂ (λ (d : Entry) (ds : List Entry). d ∷ ds) (same_entry f g (same ∙ sym same') first.0)
          rest.0,
      ap₂ (λ (x : Rational) (xs : List Rational). x ∷ xs) first.1 rest.1,
    )

-- ---- one inequality

pub same_inequality : (q r : Inequality) → q.entries ≡ r.entries →
    rational q.right ≡ rational r.right → q ≡ r
same_inequality q r entries right =
    let rights = rational_injective q.right r.right right in
    λ i. record { entries = entries i; right = rights i }

pub one_rounded_cut : (p : Problem) (n : ℕ) (q a b : Inequality) → IsRoundedCut p n q a →
    IsRoundedCut p n q b → a ≡ b
one_rounded_cut p n q a b h k =
    let moved = one_moving p n q.entries h.entries k.entries h.shifts k.shifts h.moved k.moved in
    let x = rational q.right +ℚ total_of h.shifts in
    let x_is : rational q.right +ℚ total_of k.shifts ≡ x =
    ap (λ (xs : List Rational). rational q.right +ℚ total_of xs) (sym moved.1) in
    same_inequality a b
    (made_one IsZero (λ (e f : Entry). f ≡ e) (λ e f g f_is g_is. f_is ∙ sym g_is) h.entries
    a.entries b.entries h.some
    (subst (λ (es : List Entry). AreSomeOf es b.entries) (sym moved.0) k.some))
    (one_below n x (rational a.right) (rational b.right) h.right
    (subst (λ y. IsBelowOnGrid n y (rational b.right)) x_is k.right))

-- ---- free entries

pub not_first_free : (p : Problem) (n : ℕ) (es fs : List Entry) (shifts : List Rational) (j : ℕ) →
    AreMoved p n es fs shifts →
    IsFirstFreeEntry p n es j → ⊥
not_first_free p n es fs shifts j moved first =
    true_at (λ e. IsFreeEntry p n e → ⊥) es first.before first.after first.entry first.place
    (none_free_in p n es fs shifts moved) first.free

pub one_free_entry : (p : Problem) (n : ℕ) (es : List Entry) (i j : ℕ) → IsFirstFreeEntry p n es i →
    IsFirstFreeEntry p n es j → i ≡ j
one_free_entry p n es i j h k =
    h.column
    ∙ ap (λ (e : Entry). e.column)
    (same_first (IsFreeEntry p n) h.before k.before h.after k.after h.entry k.entry
    (sym h.place ∙ k.place) h.none_before k.none_before h.free k.free)
    ∙ sym k.column

-- ---- one answer

pub one_rounding : (p : Problem) (n : ℕ) (q : Inequality) (cut other : RoundedCut) →
    IsRoundedOf p n q cut → IsRoundedOf p n q other →
    TellsWideRounding p n q cut → TellsWideRounding p n q other → cut ≡ other
one_rounding p n q Wide other h k tells tells' = sym (tells' h)
one_rounding p n q (Cut a) Wide h k tells tells' = tells k
one_rounding p n q (Free i) Wide h k tells tells' = tells k
one_rounding p n q (Cut a) (Cut b) h k tells tells' =
    ap (λ (r : Inequality). Cut r) (one_rounded_cut p n q a b h k)
one_rounding p n q (Cut a) (Free j) h k tells tells' =
    absurd (not_first_free p n q.entries h.entries h.shifts j h.moved k)
one_rounding p n q (Free i) (Cut b) h k tells tells' =
    absurd (not_first_free p n q.entries k.entries k.shifts i k.moved h)
one_rounding p n q (Free i) (Free j) h k tells tells' =
    ap (λ (m : ℕ). Free m) (one_free_entry p n q.entries i j h k)
