-- A problem and its multipliers have one answer on a grid by a rule, if `Wide` comes where a number
-- does not fit.
use Rattle.std.proofs.Common.{◌≡◌, ◌⊎◌, ⊎_elim, inl, inr, ℕ, Bool, List, refl, sym, ap, subst, subst₂, ◌∙◌}
use Rattle.gj_frac.specs.declared.Frac.{Frac}
use Rattle.gj_shape.specs.FunctionData.{FunctionData, IsWithinBounds}
use Rattle.gj_rule.specs.declared.kind.RuleKind.TheVariants.{Table}
use Rattle.gj_mixed.proofs.OneSlopes.{one_up_at_zero, one_down_at_zero}
use Rattle.gj_problem.specs.declared.problem.Inequality.{Inequality}
use Rattle.gj_problem.specs.declared.problem.Problem.{Problem}
use Rattle.gj_problem.specs.declared.pieces.Piece.{Piece}
use Rattle.gj_safe_cut.specs.declared.cut.SafeCut.{SafeCut}
use Rattle.gj_safe_cut.specs.declared.cut.SafeCut.TheVariants.{Cut, Integral, OtherFraction, Free, Wide}
use Rattle.gj_safe_cut.specs.SafeCuts.{IsCutOfRow, IsGmicCutOfRow, IsOfProblem, IsSameCut, TellsWide}
use Rattle.gj_safe_cut.proofs.OneCut.{IsNarrow, IsOneOfRow, AreAlike, one_of_rule_row, one_of_gmic_row, one_of_problem, same_cut, alike}
use Rattle.gj_relaxed.specs.declared.rows.RightMove.{RightMove}
use Rattle.gj_relaxed.specs.declared.rows.RightMove.TheVariants.{Down, Kept}
use Rattle.gj_relaxed.specs.RelaxedProblems.{IsRelaxedProblem, IsFirstFreeSide}
use Rattle.gj_relaxed.specs.RelaxedRows.{IsRelaxedRow}
use Rattle.gj_relaxed.specs.RelaxedCuts.{IsOfRaisedRow, IsOfRelaxedRow, IsRelaxedCutOf, IsGmicRelaxedCutOf, IsFunctionRelaxedCutOf}
use Rattle.gj_relaxed.proofs.LoosePieces.{one_loosened_list}
use Rattle.gj_relaxed.proofs.OneRelaxing.{one_relaxed_row, one_relaxed_problem, no_free_side, one_free_side}

-- ---- rows

abbrev FromRow : RightMove → ℕ → (ℕ → List Piece → Frac → SafeCut → Type 0) → ℕ → List Piece →
    Frac → SafeCut → Type 0
FromRow move n IsOfRow columns pieces right cut =
    (relaxed : List Piece) × (right' : Frac)
    × IsRelaxedRow move n columns pieces right relaxed right'
    × IsOfRow columns relaxed right' cut

from_row : (move : RightMove) (n : ℕ) (IsOfRow : ℕ → List Piece → Frac → SafeCut → Type 0)
    (columns : ℕ) (pieces : List Piece) (right : Frac)
    (cut : SafeCut) → IsNarrow cut → IsOfRaisedRow move n IsOfRow columns pieces right cut →
    FromRow move n IsOfRow columns pieces right cut
from_row move n IsOfRow columns pieces right (Cut q) narrow h = h
from_row move n IsOfRow columns pieces right Integral narrow h = h
from_row move n IsOfRow columns pieces right OtherFraction narrow h = h
from_row move n IsOfRow columns pieces right (Free j) narrow h = h
from_row move n IsOfRow columns pieces right Wide narrow h = absurd (narrow refl)

one_of_raised_row : (move : RightMove) (n : ℕ) (IsOfRow : ℕ → List Piece → Frac → SafeCut →
    Type 0) → IsOneOfRow IsOfRow →
    IsOneOfRow (IsOfRaisedRow move n IsOfRow)
one_of_raised_row move n IsOfRow one columns pieces right a b h k a_narrow b_narrow =
    let (rs, x, row, is) = from_row move n IsOfRow columns pieces right a a_narrow h in
    let (ts, y, other, is') = from_row move n IsOfRow columns pieces right b b_narrow k in
    let same = one_relaxed_row move n columns pieces ts rs right y x other row in
    one columns rs x a b is
    (subst₂ (λ (us : List Piece) (z : Frac). IsOfRow columns us z b) same.0 same.1 is') a_narrow
    b_narrow

one_of_relaxed_row : (move : RightMove) (n : ℕ) (IsOfRow : ℕ → List Piece → Frac → SafeCut →
    Type 0) → IsOneOfRow IsOfRow →
    IsOneOfRow (IsOfRelaxedRow move n IsOfRow)
one_of_relaxed_row move n IsOfRow one columns pieces right a b (ls, are, h) (ms, others, k) =
    let same = one_loosened_list n pieces ms ls others are in
    one_of_raised_row move n IsOfRow one columns ls right a b h
    (subst (λ (us : List Piece). IsOfRaisedRow move n IsOfRow columns us right b) same k)

-- ---- problems

module _ (n : ℕ) (IsOfRow : ℕ → List Piece → Frac → SafeCut → Type 0) (one : IsOneOfRow IsOfRow)
    (p : Problem) (ms : List Frac) (ups : List Bool) where
  abbrev FromFree : SafeCut → Type 0
  FromFree cut = (j : ℕ) × (cut ≡ Free j) × IsFirstFreeSide n p ms j

  abbrev FromProblem : SafeCut → Type 0
  FromProblem cut = (p' : Problem) × (ms' : List Frac) × IsRelaxedProblem n p ms p' ms'
      × IsOfProblem IsOfRow p' ms' ups cut

  answer_from : (cut : SafeCut) → IsRelaxedCutOf n (IsOfProblem IsOfRow) p ms ups cut →
      (cut ≡ Wide) ⊎ (FromFree cut ⊎ FromProblem cut)
  answer_from (Cut q) h = inr (inr h)
  answer_from Integral h = inr (inr h)
  answer_from OtherFraction h = inr (inr h)
  answer_from (Free j) h =
      inr (⊎_elim (λ (free : IsFirstFreeSide n p ms j). inl (j, refl, free))
      (λ (k : FromProblem (Free j)). inr k) h)
  answer_from Wide h = inl refl

  pub one_of_relaxed : (a b : SafeCut) → IsRelaxedCutOf n (IsOfProblem IsOfRow) p ms ups a →
      IsRelaxedCutOf n (IsOfProblem IsOfRow) p ms ups b →
      AreAlike a b → a ≡ b
  one_of_relaxed a b h k alike =
      ⊎_elim (λ (wide : a ≡ Wide). wide ∙ sym (alike.0 wide))
      (λ (from : FromFree a ⊎ FromProblem a).
      ⊎_elim (λ (wide : b ≡ Wide). alike.1 wide ∙ sym wide)
      (⊎_elim
      (λ (y : FromFree b).
      ⊎_elim (λ (x : FromFree a). x.1
      ∙ ap (λ (j : ℕ). Free j) (one_free_side n p ms x.0 y.0 x.2 y.2) ∙ sym y.1)
      (λ (x : FromProblem a). absurd (no_free_side n p x.0 ms x.1 y.0 x.2 y.2)) from)
      (λ (y : FromProblem b).
      ⊎_elim (λ (x : FromFree a). absurd (no_free_side n p y.0 ms y.1 x.0 y.2 x.2))
      (λ (x : FromProblem a).
      let same = one_relaxed_problem n p x.0 y.0 ms x.1 y.1 x.2 y.2 in
      one_of_problem IsOfRow one y.0 y.1 ups a b
      (subst₂ (λ (q : Problem) (ks : List Frac). IsOfProblem IsOfRow q ks ups a) same.0 same.1 x.3)
      y.3 alike) from))
      (answer_from b k))
      (answer_from a h)

one_of_gmic_relaxed : (n : ℕ) (p : Problem) (ms : List Frac) (ups : List Bool) (a b : SafeCut) →
    IsGmicRelaxedCutOf n p ms ups a →
    IsGmicRelaxedCutOf n p ms ups b → AreAlike a b → a ≡ b
one_of_gmic_relaxed n = one_of_relaxed n (IsOfRelaxedRow Down n IsGmicCutOfRow)
    (one_of_relaxed_row Down n IsGmicCutOfRow one_of_gmic_row)

one_of_function_relaxed : (f : FunctionData) (n : ℕ) (p : Problem) (ms : List Frac)
    (ups : List Bool) (a b : SafeCut) → IsWithinBounds f →
    IsFunctionRelaxedCutOf f n p ms ups a → IsFunctionRelaxedCutOf f n p ms ups b → AreAlike a b →
    a ≡ b
one_of_function_relaxed f n p ms ups a b within (up, down, slopes, h) (other, below, slopes', k) =
    let IsOfRow = IsOfRelaxedRow Kept n (IsCutOfRow (Table f) up down) in
    one_of_relaxed n IsOfRow
    (one_of_relaxed_row Kept n (IsCutOfRow (Table f) up down)
    (one_of_rule_row (Table f) up down within)) p ms ups a b h
    (subst₂ (λ (u d : Frac). IsRelaxedCutOf n
    (IsOfProblem (IsOfRelaxedRow Kept n (IsCutOfRow (Table f) u d))) p ms ups b)
    (one_up_at_zero f other up below down within slopes' slopes)
    (one_down_at_zero f other up below down within slopes' slopes) k)

-- ---- one cut

pub one_gmic_relaxed_cut : (n : ℕ) (p : Problem) (ms : List Frac) (ups : List Bool) (q : Inequality)
    (cut : SafeCut) →
    IsGmicRelaxedCutOf n p ms ups (Cut q) → IsGmicRelaxedCutOf n p ms ups cut → IsSameCut q cut
one_gmic_relaxed_cut n p ms ups q cut h k =
    same_cut q cut (one_of_gmic_relaxed n p ms ups (Cut q) cut h k)

pub one_function_relaxed_cut : (f : FunctionData) (n : ℕ) (p : Problem) (ms : List Frac)
    (ups : List Bool) (q : Inequality) (cut : SafeCut) →
    IsWithinBounds f → IsFunctionRelaxedCutOf f n p ms ups (Cut q) →
    IsFunctionRelaxedCutOf f n p ms ups cut → IsSameCut q cut
one_function_relaxed_cut f n p ms ups q cut within h k =
    same_cut q cut (one_of_function_relaxed f n p ms ups (Cut q) cut within h k)

-- ---- one answer

pub one_gmic_relaxed_answer : (n : ℕ) (p : Problem) (ms : List Frac) (ups : List Bool)
    (a b : SafeCut) → IsGmicRelaxedCutOf n p ms ups a →
    IsGmicRelaxedCutOf n p ms ups b → TellsWide (IsGmicRelaxedCutOf n p ms ups) a →
    TellsWide (IsGmicRelaxedCutOf n p ms ups) b → a ≡ b
one_gmic_relaxed_answer n p ms ups a b h k a_tells b_tells =
    one_of_gmic_relaxed n p ms ups a b h k
    (alike (IsGmicRelaxedCutOf n p ms ups) a b h k a_tells b_tells)

pub one_function_relaxed_answer : (f : FunctionData) (n : ℕ) (p : Problem) (ms : List Frac)
    (ups : List Bool) (a b : SafeCut) → IsWithinBounds f →
    IsFunctionRelaxedCutOf f n p ms ups a → IsFunctionRelaxedCutOf f n p ms ups b →
    TellsWide (IsFunctionRelaxedCutOf f n p ms ups) a →
    TellsWide (IsFunctionRelaxedCutOf f n p ms ups) b → a ≡ b
one_function_relaxed_answer f n p ms ups a b within h k a_tells b_tells =
    one_of_function_relaxed f n p ms ups a b within h k
    (alike (IsFunctionRelaxedCutOf f n p ms ups) a b h k a_tells b_tells)
