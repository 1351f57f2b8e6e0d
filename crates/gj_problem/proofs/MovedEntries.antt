-- What is rounded by the bounds of its columns holds.
use Rattle.std.proofs.Common.{◌≡◌, ◌≤◌, ◌<◌, ⊎_elim, inl, inr, ℕ, ◌+◌, List, [], ◌∷◌, ◌++◌, length, get_or, take, All, Option, Some, None, pos, refl, sym, ap, subst, subst₂, ◌∙◌, arith}
use Rattle.std.proofs.lemmas.List.{take_more}
use Rattle.std.proofs.lemmas.List.Elements.{All-nil, All-cons}
use Rattle.gj_frac.specs.declared.Frac.{Frac}
use Rattle.gj_fields.specs.Rational.{Rational, whole, rational, ◌+ℚ◌, ◌*ℚ◌, neg_ℚ, ◌-ℚ◌, ◌≤ℚ◌}
use Rattle.gj_fields.proofs.RationalLaws.{add_assoc_q, add_comm_q}
use Rattle.gj_fields.proofs.RationalOrder.{at_most_turned}
use Rattle.gj_fields.proofs.RationalRing.{by_ring_q, ring_q}
use Rattle.gj_problem.specs.declared.problem.Entry.{Entry}
use Rattle.gj_problem.specs.declared.problem.Inequality.{Inequality}
use Rattle.gj_problem.specs.declared.problem.Problem.{Problem}
use Rattle.gj_problem.specs.Problems.{Holds, HasTerms, AreTermsWithin, sum_at, value_at}
use Rattle.gj_problem.specs.Moves.{IsBelowOnGrid}
use Rattle.gj_problem.proofs.AddedSums.{add_zero_q, none_first}
use Rattle.gj_problem.proofs.HeldInequalities.{rounded_holds}
use Rattle.gj_problem.specs.declared.rounding.RoundedCut.{RoundedCut}
use Rattle.gj_problem.specs.declared.rounding.RoundedCut.TheVariants.{Cut, Free, Wide}
use Rattle.gj_problem.specs.RoundedCuts.{lower_of, upper_of, AreMovedAs, total_of, IsChanged, IsMoved, AreMoved, IsZero, AreSomeOf, IsRoundedOf, IsFreeEntry, RoundedHolds, RoundedHasTerms}
use Rattle.gj_problem.specs.Steps.{IsMadeNext}
use Rattle.gj_problem.proofs.MadePieces.{Made}
use Rattle.gj_problem.proofs.Prefixes.{made_next}
use Rattle.gj_problem.proofs.Terms.{later_terms}

-- ---- they hold

moved_changed : (p : Problem) (n : ℕ) (es fs : List Entry) (shifts : List Rational) →
    AreMoved p n es fs shifts → AreMovedAs IsChanged p es fs shifts
moved_changed p n [] [] [] h = tt
moved_changed p n [] [] (s ∷ shifts) h = absurd h
moved_changed p n [] (f ∷ fs) shifts h = absurd h
moved_changed p n (e ∷ es) [] shifts h = absurd h
moved_changed p n (e ∷ es) (f ∷ fs) [] h = absurd h
moved_changed p n (e ∷ es) (f ∷ fs) (s ∷ shifts) h = (
  h.0,
  h.1.1,
  moved_changed p n es fs shifts h.2,
)

-- what is left out is 0
some_sum : (point : List Rational) (es fs : List Entry) → AreSomeOf es fs →
    sum_at point fs ≡ sum_at point es
some_sum point [] fs h = ap (sum_at point) h
some_sum point (e ∷ es) fs h =
    ⊎_elim
    (λ (a : IsZero e × AreSomeOf es fs). some_sum point es fs a.1
    ∙ none_first e.value (value_at point e.column) (sum_at point es) a.0)
    (λ (b : Made IsZero (λ (d f : Entry). f ≡ d) e es fs).
    ap (sum_at point) (b.3 ∙ ap (λ (f : Entry). f ∷ b.2) b.4)
    ∙ ap (λ w. rational e.value *ℚ value_at point e.column +ℚ w) (some_sum point es b.2 b.5))
    h

pub rounded_of_holds : (p : Problem) (n : ℕ) (q : Inequality) (r : RoundedCut) →
    IsRoundedOf p n q r → Holds p q → RoundedHolds p r
rounded_of_holds p n q (Cut r) h holds = λ point feasible.
    subst (λ s. rational r.right ≤ℚ s) (sym (some_sum point h.entries r.entries h.some))
    (rounded_holds p q (record { entries = h.entries; right = r.right }) holds
    (record {
      shifts = h.shifts;
      changed =
          moved_changed p n q.entries h.entries h.shifts h.moved;
      right = h.right.at_most;
    })
    point feasible)
rounded_of_holds p n q (Free j) h holds = tt
rounded_of_holds p n q Wide h holds = tt

-- ---- one more entry

-- the entries up to now are moved, those that are 0 then left out, and the right side is the given
-- one with their shifts
pub record AreMovedTo (p : Problem) (n : ℕ) (es fs : List Entry) (given right : Rational) :
    Type 0 where
  pub entries : List Entry
  pub shifts : List Rational
  pub moved : AreMoved p n es entries shifts
  pub some : AreSomeOf entries fs
  pub right_is : right ≡ given +ℚ total_of shifts

pub none_moved : (p : Problem) (n : ℕ) (given : Rational) (fs : List Entry) → fs ≡ [] →
    AreMovedTo p n [] fs given given
none_moved p n given fs none =
    record { entries = []; shifts = []; moved = tt; some = none; right_is = add_zero_q given }

longer : (p : Problem) (n : ℕ) (es fs : List Entry) (shifts : List Rational) (e f : Entry)
    (shift : Rational) → AreMoved p n es fs shifts →
    f.column ≡ e.column → IsMoved n (lower_of p e.column) (upper_of p e.column) (rational e.value)
    (rational f.value) shift →
    AreMoved p n (es ++ e ∷ []) (fs ++ f ∷ []) (shifts ++ shift ∷ [])
longer p n [] [] [] e f shift h same is = (same, is, tt)
longer p n [] [] (s ∷ shifts) e f shift h same is = absurd h
longer p n [] (g ∷ fs) shifts e f shift h same is = absurd h
longer p n (d ∷ es) [] shifts e f shift h same is = absurd h
longer p n (d ∷ es) (g ∷ fs) [] e f shift h same is = absurd h
longer p n (d ∷ es) (g ∷ fs) (s ∷ shifts) e f shift h same is =
    (h.0, h.1, longer p n es fs shifts e f shift h.2 same is)

total_more : (shifts : List Rational) (x : Rational) →
    total_of (shifts ++ x ∷ []) ≡ total_of shifts +ℚ x
total_more [] x = add_comm_q x (whole (pos 0))
total_more (s ∷ shifts) x = ap (λ w. s +ℚ w) (total_more shifts x)
    ∙ sym (add_assoc_q s (total_of shifts) x)

pub one_moved : (p : Problem) (n : ℕ) (es : List Entry) (i : ℕ) (e f : Entry) (fs gs : List Entry)
    (given now next shift : Rational) →
    i < length es → e ≡ get_or es i e → IsMadeNext (IsZero f) (λ (d : Entry). d ≡ f) fs gs →
    next ≡ now +ℚ shift → f.column ≡ e.column →
    IsMoved n (lower_of p e.column) (upper_of p e.column) (rational e.value)
    (rational f.value) shift →
    AreMovedTo p n (take i es) fs given now → AreMovedTo p n (take (i + 1) es) gs given next
one_moved p n es i e f fs gs given now next shift below here made next_is same is h =
    let more : take (i + 1) es ≡ take i es ++ e ∷ [] = take_more es i e below
    ∙ ap (λ (z : Entry). take i es ++ z ∷ []) (sym here) in
    record {
      entries = h.entries ++ f ∷ [];
      shifts = h.shifts ++ shift ∷ [];
      moved = subst (λ (xs : List Entry). AreMoved p n xs (h.entries ++ f ∷ [])
          (h.shifts ++ shift ∷ [])) (sym more)
          (longer p n (take i es) h.entries h.shifts e f shift h.moved same is);
      some = made_next IsZero (λ (d g : Entry). g ≡ d) h.entries
          (h.entries ++ f ∷ []) f fs gs refl h.some made;
      right_is = next_is ∙ ap (λ w. w +ℚ shift) h.right_is
          ∙ add_assoc_q given (total_of h.shifts) shift
          ∙ ap (λ w. given +ℚ w) (sym (total_more h.shifts shift));
    }

-- ---- none before is free

pub not_free_at : (p : Problem) (n : ℕ) (e : Entry) (y shift : Rational)
    (lower upper : Option Frac) → lower_of p e.column ≡ lower →
    upper_of p e.column ≡ upper → IsMoved n lower upper (rational e.value) y shift →
    IsFreeEntry p n e → ⊥
not_free_at p n e y shift (Some l) upper l_is u_is h free = let none = sym l_is ∙ free.no_lower in
    absurd (cc)
not_free_at p n e y shift None (Some u) l_is u_is h free = let none = sym u_is ∙ free.no_upper in
    absurd (cc)
not_free_at p n e y shift None None l_is u_is h free = free.off_grid h.0.0

pub none_free_in : (p : Problem) (n : ℕ) (es fs : List Entry) (shifts : List Rational) →
    AreMoved p n es fs shifts →
    All (λ e. IsFreeEntry p n e → ⊥) es
none_free_in p n [] fs shifts h = All-nil (λ e. IsFreeEntry p n e → ⊥)
none_free_in p n (e ∷ es) [] shifts h = absurd h
none_free_in p n (e ∷ es) (f ∷ fs) [] h = absurd h
none_free_in p n (e ∷ es) (f ∷ fs) (s ∷ shifts) h =
    All-cons (λ e. IsFreeEntry p n e → ⊥) e es
    (not_free_at p n e (rational f.value) s (lower_of p e.column)
    (upper_of p e.column) refl refl h.1)
    (none_free_in p n es fs shifts h.2)

-- ---- a coefficient that goes up

pub double_neg : (x : Rational) → neg_ℚ (neg_ℚ x) ≡ x
double_neg x = by_ring_q (x ∷ []) (search ring_q depth 30) refl

pub raised_to : (n : ℕ) (x y z value l m shift : Frac) (upper : Option Frac) →
    rational y ≡ neg_ℚ (rational x) →
    IsBelowOnGrid n (rational y) (rational z) → rational value ≡ neg_ℚ (rational z) → m ≡ value →
    rational shift ≡ (rational value -ℚ rational x) *ℚ rational l →
    IsMoved n (Some l) upper (rational x) (rational m) (rational shift)
raised_to n x y z value l m shift upper y_is below value_is m_is shift_is =
    let on : IsBelowOnGrid n (neg_ℚ (rational x)) (neg_ℚ (rational m)) =
    subst₂ (IsBelowOnGrid n) y_is
    (sym (ap (λ (w : Frac). neg_ℚ (rational w)) m_is ∙ ap neg_ℚ value_is
    ∙ double_neg (rational z))) below in (
      on,
      inr (inl (record {
        bound = l;
        bound_is = refl;
        greater = at_most_turned (rational x) (rational m) on.at_most;
        shift_is = shift_is ∙ ap (λ (w : Frac). (rational w -ℚ rational x) *ℚ rational l)
            (sym m_is);
      })),
    )

-- ---- one that goes down

pub lowered_to : (n : ℕ) (x value u m shift : Frac) (lower upper : Option Frac) → lower ≡ None →
    upper ≡ Some u →
    IsBelowOnGrid n (rational x) (rational value) → m ≡ value →
    rational shift ≡ (rational value -ℚ rational x) *ℚ rational u →
    IsMoved n lower upper (rational x) (rational m) (rational shift)
lowered_to n x value u m shift lower upper lower_is upper_is below m_is shift_is =
    subst₂ (λ (l o : Option Frac). IsMoved n l o (rational x) (rational m) (rational shift))
    (sym lower_is) (sym upper_is)
    (subst (λ (w : Frac). IsMoved n None (Some u) (rational x) (rational w) (rational shift))
    (sym m_is) (
      below,
      inr (inr (record {
        bound = u;
        bound_is = refl;
        lesser = below.at_most;
        shift_is =
            shift_is;
      })),
    ))

-- ---- terms

moved_terms : (p : Problem) (n j k : ℕ) (es fs gs : List Entry) (shifts : List Rational) →
    AreTermsWithin j k es → AreMoved p n es fs shifts →
    AreSomeOf fs gs → AreTermsWithin j k gs
moved_terms p n j k [] [] gs [] terms moved some =
    subst (λ (hs : List Entry). AreTermsWithin j k hs) (sym some) terms
moved_terms p n j k [] [] gs (s ∷ shifts) terms moved some = absurd moved
moved_terms p n j k [] (f ∷ fs) gs shifts terms moved some = absurd moved
moved_terms p n j k (e ∷ es) [] gs shifts terms moved some = absurd moved
moved_terms p n j k (e ∷ es) (f ∷ fs) gs [] terms moved some = absurd moved
moved_terms p n j k (e ∷ es) (f ∷ fs) gs (s ∷ shifts) terms moved some =
    ⊎_elim
    (λ (a : IsZero f × AreSomeOf fs gs).
    later_terms j (e.column + 1) k gs (omega (arith, terms.0))
    (moved_terms p n (e.column + 1) k es fs gs shifts terms.2 moved.2 a.1))
    (λ (b : Made IsZero (λ (d g : Entry). g ≡ d) f fs gs).
    subst (λ (hs : List Entry). AreTermsWithin j k hs) (sym (b.3 ∙ ap (λ (g : Entry). g ∷ b.2) b.4)) (
      subst (λ (c : ℕ). j ≤ c) (sym moved.0) terms.0,
      b.0,
      subst (λ (c : ℕ). AreTermsWithin (c + 1) k b.2) (sym moved.0)
          (moved_terms p n (e.column + 1) k es fs b.2 shifts terms.2 moved.2 b.5),
    ))
    some

pub rounded_terms : (p : Problem) (n : ℕ) (q : Inequality) (r : RoundedCut) → IsRoundedOf p n q r →
    HasTerms p q → RoundedHasTerms p r
rounded_terms p n q (Cut r) h terms =
    moved_terms p n 0 (length p.columns) q.entries h.entries r.entries h.shifts terms h.moved h.some
rounded_terms p n q (Free j) h terms = tt
rounded_terms p n q Wide h terms = tt
