-- A problem and its multipliers have one answer by a rule, if `Wide` comes where a number does not
-- fit.
use Rattle.std.proofs.Common.{◌≡◌, ◌⊎◌, ⊎_elim, inl, inr, ℕ, ◌*ℤ◌, pos, unsigned_abs, Bool, List, length, refl, sym, ap, subst, subst₂, ◌∙◌}
use Rattle.gj_frac.specs.declared.Frac.{Frac}
use Rattle.gj_frac.specs.Fraction.{IsWhole, numerator, denominator}
use Rattle.gj_shape.specs.FunctionData.{FunctionData, IsWithinBounds}
use Rattle.gj_shape.proofs.LeastDenominator.{denominator_some}
use Rattle.gj_rule.specs.Kind.{IsKindValue}
use Rattle.gj_rule.specs.declared.kind.RuleKind.{RuleKind}
use Rattle.gj_rule.specs.declared.kind.RuleKind.TheVariants.{Gmic, Table}
use Rattle.gj_values.proofs.OneValue.{one_part, one_gmic_value, one_value}
use Rattle.gj_cut.specs.RowCuts.{HasPart}
use Rattle.gj_cut.proofs.RightSides.{part_inside}
use Rattle.gj_mixed.specs.Slopes.{AreGmicSlopes}
use Rattle.gj_mixed.proofs.OneSlopes.{one_up, one_down, one_up_at_zero, one_down_at_zero}
use Rattle.gj_problem.specs.declared.problem.Inequality.{Inequality}
use Rattle.gj_problem.specs.declared.problem.Problem.{Problem}
use Rattle.gj_problem.specs.declared.pieces.Piece.{Piece}
use Rattle.gj_problem.specs.Aggregates.{IsRow, IsFirstFree}
use Rattle.gj_problem.proofs.OnePieces.{one_pieces}
use Rattle.gj_problem.proofs.OneRow.{one_right, no_free, one_free}
use Rattle.gj_safe_cut.specs.declared.cut.SafeCut.{SafeCut}
use Rattle.gj_safe_cut.specs.declared.cut.SafeCut.TheVariants.{Cut, Integral, OtherFraction, Free, Wide}
use Rattle.gj_safe_cut.specs.SafeCuts.{IsCutOfPieces, IsCutOfRow, IsGmicCutOfRow, IsOfProblem, IsSafeCutOf, IsFunctionSafeCutOf, IsGmicSafeCutOf, IsSameCut, TellsWide}
use Rattle.gj_safe_cut.specs.AddedTerms.{HasOneValue}
use Rattle.gj_safe_cut.proofs.HeldCuts.{IsUsable}
use Rattle.gj_safe_cut.proofs.OneTerms.{one_cut_of_pieces}

-- ---- rows

-- it is not `Wide`
abbrev pub IsNarrow : SafeCut → Type 0
IsNarrow cut = cut ≡ Wide → ⊥

-- a row has one answer of those that are not `Wide`
abbrev pub IsOneOfRow : (ℕ → List Piece → Frac → SafeCut → Type 0) → Type 0
IsOneOfRow IsOfRow = (n : ℕ) (pieces : List Piece) (right : Frac) (a b : SafeCut) →
    IsOfRow n pieces right a → IsOfRow n pieces right b →
    IsNarrow a → IsNarrow b → a ≡ b

pub one_kind_value : (kind : RuleKind) → IsUsable kind → HasOneValue (IsKindValue kind)
one_kind_value (Gmic f) usable x y z h k = one_gmic_value f x y z usable h k
one_kind_value (Table f) usable x y z h k =
    one_value f (numerator x *ℤ pos f.order) (unsigned_abs (denominator x)) y z usable
    (denominator_some x) h k

pub one_of_rule_row : (kind : RuleKind) (up down : Frac) → IsUsable kind →
    IsOneOfRow (IsCutOfRow kind up down)
one_of_rule_row kind up down usable n ps r (Cut q) (Cut s) h k a b =
    ap (λ (x : Inequality). Cut x)
    (one_cut_of_pieces (IsKindValue kind) up down (one_kind_value kind usable) n ps q s h.2 k.2)
one_of_rule_row kind up down usable n ps r (Cut q) Integral h k a b = absurd (h.0 k)
one_of_rule_row kind up down usable n ps r (Cut q) OtherFraction h k a b = absurd (k.1 h.1)
one_of_rule_row kind up down usable n ps r Integral (Cut s) h k a b = absurd (k.0 h)
one_of_rule_row kind up down usable n ps r Integral Integral h k a b = refl
one_of_rule_row kind up down usable n ps r Integral OtherFraction h k a b = absurd (k.0 h)
one_of_rule_row kind up down usable n ps r OtherFraction (Cut s) h k a b = absurd (h.1 k.1)
one_of_rule_row kind up down usable n ps r OtherFraction Integral h k a b = absurd (h.0 k)
one_of_rule_row kind up down usable n ps r OtherFraction OtherFraction h k a b = refl
one_of_rule_row kind up down usable n ps r (Free i) other h k a b = absurd h
one_of_rule_row kind up down usable n ps r (Cut q) (Free j) h k a b = absurd k
one_of_rule_row kind up down usable n ps r Integral (Free j) h k a b = absurd k
one_of_rule_row kind up down usable n ps r OtherFraction (Free j) h k a b = absurd k
one_of_rule_row kind up down usable n ps r Wide other h k a b = absurd (a refl)
one_of_rule_row kind up down usable n ps r (Cut q) Wide h k a b = absurd (b refl)
one_of_rule_row kind up down usable n ps r Integral Wide h k a b = absurd (b refl)
one_of_rule_row kind up down usable n ps r OtherFraction Wide h k a b = absurd (b refl)

-- f and its slopes are those of the right side
pub one_part_and_slopes : (right f g up other down below : Frac) → (IsWhole right → ⊥) →
    HasPart (Gmic f) right → HasPart (Gmic g) right →
    AreGmicSlopes f up down → AreGmicSlopes g other below → (g ≡ f) × (other ≡ up) × (below ≡ down)
one_part_and_slopes right f g up other down below not_whole part part' slopes slopes' =
    let same : g ≡ f = one_part right g f part' part in
    let inside = part_inside right f part not_whole in
    let there : AreGmicSlopes f other below =
    subst (λ (x : Frac). AreGmicSlopes x other below) same slopes' in (
      same,
      one_up f other up below down inside there slopes,
      one_down f other up below down inside
          there slopes,
    )

pub one_of_gmic_row : IsOneOfRow IsGmicCutOfRow
one_of_gmic_row n ps r (Cut q) (Cut s) (f, up, down, slopes, (not_whole, part, made))
    (g, other, below, slopes', (not_whole', part', made')) a b =
    let same = one_part_and_slopes r f g up other down below not_whole part part' slopes slopes' in
    let inside = part_inside r f part not_whole in
    let by_f = subst (λ (x : Frac). IsCutOfPieces (IsKindValue (Gmic x)) other below n ps s) same.0
    made' in
    ap (λ (x : Inequality). Cut x)
    (one_cut_of_pieces (IsKindValue (Gmic f)) up down (one_kind_value (Gmic f) inside) n ps q s made
    (subst₂ (λ (u d : Frac). IsCutOfPieces (IsKindValue (Gmic f)) u d n ps s) same.1 same.2 by_f))
one_of_gmic_row n ps r (Cut q) Integral (f, up, down, slopes, (not_whole, part, made)) k a b =
    absurd (not_whole k)
one_of_gmic_row n ps r Integral (Cut s) h (g, other, below, slopes', (not_whole', part', made')) a
    b = absurd (not_whole' h)
one_of_gmic_row n ps r Integral Integral h k a b = refl
one_of_gmic_row n ps r OtherFraction other h k a b = absurd h
one_of_gmic_row n ps r (Cut q) OtherFraction h k a b = absurd k
one_of_gmic_row n ps r Integral OtherFraction h k a b = absurd k
one_of_gmic_row n ps r (Free i) other h k a b = absurd h
one_of_gmic_row n ps r (Cut q) (Free j) h k a b = absurd k
one_of_gmic_row n ps r Integral (Free j) h k a b = absurd k
one_of_gmic_row n ps r Wide other h k a b = absurd (a refl)
one_of_gmic_row n ps r (Cut q) Wide h k a b = absurd (b refl)
one_of_gmic_row n ps r Integral Wide h k a b = absurd (b refl)

-- ---- problems

-- one is `Wide` if the other is
abbrev pub AreAlike : SafeCut → SafeCut → Type 0
AreAlike a b = (a ≡ Wide → b ≡ Wide) × (b ≡ Wide → a ≡ Wide)

module _ (IsOfRow : ℕ → List Piece → Frac → SafeCut → Type 0) (one : IsOneOfRow IsOfRow)
    (p : Problem) (ms : List Frac) (ups : List Bool) where
  abbrev FromFree : SafeCut → Type 0
  FromFree cut = (j : ℕ) × (cut ≡ Free j) × IsFirstFree p ms ups j

  abbrev FromRow : SafeCut → Type 0
  FromRow cut = (pieces : List Piece) × (right : Frac) × IsRow p ms ups pieces right
      × IsOfRow (length p.columns) pieces right cut × IsNarrow cut

  answer_from : (cut : SafeCut) → IsOfProblem IsOfRow p ms ups cut →
      (cut ≡ Wide) ⊎ (FromFree cut ⊎ FromRow cut)
  answer_from (Cut q) (ps, r, row, h) = inr (inr (ps, r, row, h, λ e. cc))
  answer_from Integral (ps, r, row, h) = inr (inr (ps, r, row, h, λ e. cc))
  answer_from OtherFraction (ps, r, row, h) = inr (inr (ps, r, row, h, λ e. cc))
  answer_from (Free j) h = inr (inl (j, refl, h))
  answer_from Wide h = inl refl

  pub one_of_problem : (a b : SafeCut) → IsOfProblem IsOfRow p ms ups a →
      IsOfProblem IsOfRow p ms ups b → AreAlike a b → a ≡ b
  one_of_problem a b h k alike =
      ⊎_elim (λ (wide : a ≡ Wide). wide ∙ sym (alike.0 wide))
      (⊎_elim
      (λ (x : FromFree a).
      ⊎_elim (λ (wide : b ≡ Wide). alike.1 wide ∙ sym wide)
      (⊎_elim
      (λ (y : FromFree b). x.1 ∙ ap (λ (j : ℕ). Free j) (one_free p ms ups x.0 y.0 x.2 y.2)
      ∙ sym y.1)
      (λ (y : FromRow b). absurd (no_free p ms ups y.0 y.1 x.0 y.2 x.2)))
      (answer_from b k))
      (λ (x : FromRow a).
      ⊎_elim (λ (wide : b ≡ Wide). alike.1 wide ∙ sym wide)
      (⊎_elim
      (λ (y : FromFree b). absurd (no_free p ms ups x.0 x.1 y.0 x.2 y.2))
      (λ (y : FromRow b).
      one (length p.columns) y.0 y.1 a b
      (subst₂ (λ (ps : List Piece) (r : Frac). IsOfRow (length p.columns) ps r a)
      (one_pieces p ms ups x.0 y.0 x.1 y.1 x.2 y.2)
      (one_right p ms ups x.0 y.0 x.1 y.1 x.2 y.2) x.3) y.3 x.4 y.4))
      (answer_from b k)))
      (answer_from a h)

pub one_of_rule : (kind : RuleKind) (up down : Frac) (p : Problem) (ms : List Frac)
    (ups : List Bool) (a b : SafeCut) → IsUsable kind →
    IsSafeCutOf kind up down p ms ups a → IsSafeCutOf kind up down p ms ups b → AreAlike a b → a ≡ b
one_of_rule kind up down p ms ups a b usable h k alike =
    one_of_problem (IsCutOfRow kind up down) (one_of_rule_row kind up down usable) p ms ups a b h k
    alike

pub one_of_gmic : (p : Problem) (ms : List Frac) (ups : List Bool) (a b : SafeCut) →
    IsGmicSafeCutOf p ms ups a → IsGmicSafeCutOf p ms ups b →
    AreAlike a b → a ≡ b
one_of_gmic p ms ups a b h k alike =
    one_of_problem IsGmicCutOfRow one_of_gmic_row p ms ups a b h k alike

pub one_of_function : (f : FunctionData) (p : Problem) (ms : List Frac) (ups : List Bool)
    (a b : SafeCut) → IsWithinBounds f →
    IsFunctionSafeCutOf f p ms ups a → IsFunctionSafeCutOf f p ms ups b → AreAlike a b → a ≡ b
one_of_function f p ms ups a b l (up, down, slopes, h) (other, below, slopes', k) alike =
    one_of_rule (Table f) up down p ms ups a b l h
    (subst₂ (λ (u d : Frac). IsSafeCutOf (Table f) u d p ms ups b)
    (one_up_at_zero f other up below down l slopes' slopes)
    (one_down_at_zero f other up below down l slopes' slopes) k)
    alike

-- ---- one cut

-- what is a cut unless it is `Wide` is this cut
pub same_cut : (q : Inequality) (cut : SafeCut) → (AreAlike (Cut q) cut → Cut q ≡ cut) →
    IsSameCut q cut
same_cut q (Cut r) h = let e : Cut q ≡ Cut r = h (λ e. cc, λ e. cc) in cc
same_cut q Integral h = let e : Cut q ≡ Integral = h (λ e. cc, λ e. cc) in cc
same_cut q OtherFraction h = let e : Cut q ≡ OtherFraction = h (λ e. cc, λ e. cc) in cc
same_cut q (Free j) h = let e : Cut q ≡ Free j = h (λ e. cc, λ e. cc) in cc
same_cut q Wide h = tt

pub one_function_cut : (f : FunctionData) (p : Problem) (ms : List Frac) (ups : List Bool)
    (q : Inequality) (cut : SafeCut) → IsWithinBounds f →
    IsFunctionSafeCutOf f p ms ups (Cut q) → IsFunctionSafeCutOf f p ms ups cut → IsSameCut q cut
one_function_cut f p ms ups q cut l h k =
    same_cut q cut (one_of_function f p ms ups (Cut q) cut l h k)

pub one_gmic_cut : (p : Problem) (ms : List Frac) (ups : List Bool) (q : Inequality)
    (cut : SafeCut) → IsGmicSafeCutOf p ms ups (Cut q) →
    IsGmicSafeCutOf p ms ups cut → IsSameCut q cut
one_gmic_cut p ms ups q cut h k = same_cut q cut (one_of_gmic p ms ups (Cut q) cut h k)

-- ---- one answer

-- two answers that are `Wide` where a number does not fit are alike
pub alike : (Is : SafeCut → Type 0) (a b : SafeCut) → Is a → Is b → TellsWide Is a →
    TellsWide Is b → AreAlike a b
alike Is a b h k a_tells b_tells =
    (λ wide. b_tells (subst Is wide h), λ wide. a_tells (subst Is wide k))

pub one_gmic_answer : (p : Problem) (ms : List Frac) (ups : List Bool) (a b : SafeCut) →
    IsGmicSafeCutOf p ms ups a → IsGmicSafeCutOf p ms ups b →
    TellsWide (IsGmicSafeCutOf p ms ups) a → TellsWide (IsGmicSafeCutOf p ms ups) b → a ≡ b
one_gmic_answer p ms ups a b h k a_tells b_tells =
    one_of_gmic p ms ups a b h k (alike (IsGmicSafeCutOf p ms ups) a b h k a_tells b_tells)

pub one_function_answer : (f : FunctionData) (p : Problem) (ms : List Frac) (ups : List Bool)
    (a b : SafeCut) → IsWithinBounds f →
    IsFunctionSafeCutOf f p ms ups a → IsFunctionSafeCutOf f p ms ups b →
    TellsWide (IsFunctionSafeCutOf f p ms ups) a →
    TellsWide (IsFunctionSafeCutOf f p ms ups) b → a ≡ b
one_function_answer f p ms ups a b l h k a_tells b_tells =
    one_of_function f p ms ups a b l h k
    (alike (IsFunctionSafeCutOf f p ms ups) a b h k a_tells b_tells)
