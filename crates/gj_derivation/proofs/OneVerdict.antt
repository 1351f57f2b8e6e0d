-- A step has one verdict, if `Wide` comes where a number does not fit.
use Rattle.std.proofs.Common.{◌≡◌, ◌⊎◌, ⊎_elim, inl, inr, ℕ, ◌<◌, Option, List, ◌∷◌, ◌++◌, length, take, refl, sym, ap, subst, ◌∙◌, arith}
use Rattle.std.proofs.lemmas.Bool.{cases_order}
use Rattle.std.proofs.lemmas.List.{get_or-take, length-take-le}
use Rattle.std.proofs.lemmas.List.Elements.{All-head}
use Rattle.gj_frac.specs.declared.Frac.{Frac}
use Rattle.gj_shape.specs.FunctionData.{FunctionData}
use Rattle.gj_lemmas.proofs.Lists.{All-back}
use Rattle.gj_fields.specs.Rational.{Rational, rational, ◌≤ℚ◌}
use Rattle.gj_problem.specs.declared.problem.Column.{Column}
use Rattle.gj_problem.specs.declared.problem.Entry.{Entry}
use Rattle.gj_problem.specs.declared.problem.Problem.{Problem}
use Rattle.gj_problem.proofs.Failing.{elsewhere}
use Rattle.gj_problem.proofs.OneRow.{rational_injective}
use Rattle.gj_safe_cut.specs.declared.cut.SafeCut.{SafeCut}
use Rattle.gj_safe_cut.specs.declared.cut.SafeCut.TheVariants as cut
use Rattle.gj_derivation.specs.declared.step.Combination.{Combination}
use Rattle.gj_derivation.specs.declared.step.Multiplier.{Multiplier}
use Rattle.gj_derivation.specs.declared.step.Step.{Step}
use Rattle.gj_derivation.specs.declared.step.StepRule.{StepRule}
use Rattle.gj_derivation.specs.declared.step.Verdict.{Verdict}
use Rattle.gj_derivation.specs.declared.step.Verdict.TheVariants.{Accepted, Sign, Free, Integral, Other, Bound, Right, Wide}
use Rattle.gj_derivation.specs.Derivations.{Line, coefficient_in, times, IsSigned, AreSigned, IsUsableFor, IsCutOf, IsBase, IsShown}
use Rattle.gj_derivation.specs.Checks.{IsFirstUnsigned, IsFirstUnmovable, IsBaseless, IsAgainstTerms, IsVerdict}
use Rattle.gj_derivation.proofs.ExactVerdicts.{not_all_moved, not_signed}
use Rattle.gj_derivation.proofs.NarrowVerdicts.{base_or_against}
use Rattle.gj_derivation.proofs.OneBase.{cut_is_one, one_base}
use Rattle.gj_derivation.proofs.OneRightSide.{one_shown}

-- it is not `Wide`
abbrev pub IsNarrow : Verdict → Type 0
IsNarrow v = v ≡ Wide → ⊥

-- ---- what stands against a base

one_unsigned : (rule : StepRule) (p : Problem) (ms : List Multiplier) (i j : ℕ) →
    IsFirstUnsigned rule p ms i → IsFirstUnsigned rule p ms j → i ≡ j
one_unsigned rule p ms i j h k =
    ⊎_elim
    (λ (a : (rest : List Multiplier) × (h.before ≡ k.before ++ k.multiplier ∷ rest)).
    absurd (among h.before k.before k.multiplier a.0 a.1 h.signed_before k.unsigned))
    (⊎_elim
    (λ (a : (k.before ≡ h.before) × (k.multiplier ≡ h.multiplier)).
    h.line ∙ ap (λ (m : Multiplier). m.line) (sym a.1) ∙ sym k.line)
    (λ (a : (rest : List Multiplier) × (k.before ≡ h.before ++ h.multiplier ∷ rest)).
    absurd (among k.before h.before h.multiplier a.0 a.1 k.signed_before h.unsigned)))
    (elsewhere h.before k.before h.after k.after h.multiplier k.multiplier (sym h.place ∙ k.place))
  where
    among : (front before : List Multiplier) (m : Multiplier) (rest : List Multiplier) →
        front ≡ before ++ m ∷ rest → AreSigned rule p front → (IsSigned rule p m → ⊥) → ⊥
    among front before m rest is signed unsigned =
        unsigned (All-head (IsSigned rule p) m rest (All-back (IsSigned rule p) before (m ∷ rest)
        (subst (AreSigned rule p) is signed)))

-- the verdict on a row without a cut
abbrev IsOnCut : SafeCut → Verdict → Type 0
IsOnCut (cut.Free j) v = v ≡ Free j
IsOnCut cut.Integral v = v ≡ Integral
IsOnCut cut.OtherFraction v = v ≡ Other
IsOnCut (cut.Cut q) v = ⊥
IsOnCut cut.Wide v = ⊥

one_on_cut : (answer : SafeCut) (v w : Verdict) → IsOnCut answer v → IsOnCut answer w → v ≡ w
one_on_cut (cut.Free j) v w h k = h ∙ sym k
one_on_cut cut.Integral v w h k = h ∙ sym k
one_on_cut cut.OtherFraction v w h k = h ∙ sym k
one_on_cut (cut.Cut q) v w h k = absurd h
one_on_cut cut.Wide v w h k = absurd h

module _ (f : Option FunctionData) (p : Problem) (c : Combination)
    (usable : IsUsableFor f c.rule) where
  abbrev FromSign : Verdict → Type 0
  FromSign v = (i : ℕ) × (v ≡ Sign i) × IsFirstUnsigned c.rule p c.multipliers i

  abbrev FromCut : Verdict → Type 0
  FromCut v = (answer : SafeCut) × IsOnCut answer v × AreSigned c.rule p c.multipliers
      × IsCutOf f p c answer × (answer ≡ cut.Wide → ⊥)

  parts : (v : Verdict) → IsNarrow v → IsBaseless f p c v → FromSign v ⊎ FromCut v
  parts (Sign i) narrow h = inl (i, refl, h)
  parts (Free j) narrow h = inr (cut.Free j, refl, h.0, h.1, λ e. cc)
  parts Integral narrow h = inr (cut.Integral, refl, h.0, h.1, λ e. cc)
  parts Other narrow h = inr (cut.OtherFraction, refl, h.0, h.1, λ e. cc)
  parts Wide narrow h = absurd (narrow refl)
  parts Accepted narrow h = absurd h
  parts (Bound j) narrow h = absurd h
  parts (Right b) narrow h = absurd h

  pub one_baseless : (v w : Verdict) → IsNarrow v → IsNarrow w → IsBaseless f p c v →
      IsBaseless f p c w → v ≡ w
  one_baseless v w v_narrow w_narrow h k =
      ⊎_elim
      (λ (a : FromSign v).
      ⊎_elim
      (λ (b : FromSign w). a.1
      ∙ ap (λ (i : ℕ). Sign i) (one_unsigned c.rule p c.multipliers a.0 b.0 a.2 b.2) ∙ sym b.1)
      (λ (b : FromCut w). absurd (not_signed c.rule p c.multipliers a.0 a.2 b.2))
      (parts w w_narrow k))
      (λ (a : FromCut v).
      ⊎_elim
      (λ (b : FromSign w). absurd (not_signed c.rule p c.multipliers b.0 b.2 a.2))
      (λ (b : FromCut w).
      let same : a.0 ≡ b.0 = cut_is_one f p c a.0 b.0 usable a.3 b.3
      (λ wide. absurd (a.4 wide), λ wide. absurd (b.4 wide)) in
      one_on_cut b.0 v w (subst (λ (answer : SafeCut). IsOnCut answer v) same a.1) b.1)
      (parts w w_narrow k))
      (parts v v_narrow h)

  -- what stands against a base, or the column that is named with one
  abbrev pub IsAgainstWith : (Line → ℕ → Type 0) → Verdict → Type 0
  IsAgainstWith IsAt v = IsBaseless f p c v
      ⊎ ((j : ℕ) × (v ≡ Bound j) × (line : Line) × IsBase f p c line × IsAt line j)

  pub one_against : (IsAt : Line → ℕ → Type 0) →
      ((line : Line) (i j : ℕ) → IsAt line i → IsAt line j → i ≡ j) →
      (v w : Verdict) → IsNarrow v → IsNarrow w → IsAgainstWith IsAt v → IsAgainstWith IsAt w →
      v ≡ w
  one_against IsAt one v w v_narrow w_narrow h k =
      ⊎_elim
      (λ (a : IsBaseless f p c v).
      ⊎_elim
      (λ (b : IsBaseless f p c w). one_baseless v w v_narrow w_narrow a b)
      (λ (b : (j : ℕ) × (w ≡ Bound j) × (line : Line) × IsBase f p c line × IsAt line j).
      absurd (base_or_against f p c usable v b.2 v_narrow a b.3)) k)
      (λ (a : (j : ℕ) × (v ≡ Bound j) × (line : Line) × IsBase f p c line × IsAt line j).
      ⊎_elim
      (λ (b : IsBaseless f p c w). absurd (base_or_against f p c usable w a.2 w_narrow b a.3))
      (λ (b : (j : ℕ) × (w ≡ Bound j) × (line : Line) × IsBase f p c line × IsAt line j).
      a.1 ∙ ap (λ (j : ℕ). Bound j)
      (one b.2 a.0 b.0 (subst (λ (l : Line). IsAt l a.0)
      (one_base f p c a.2 b.2 usable a.3 b.3) a.4) b.4)
      ∙ sym b.1) k)
      h

  -- with a base, and where no column is named with it, nothing stands against it
  pub none_against : (IsAt : Line → ℕ → Type 0) (v : Verdict) (line : Line) → IsNarrow v →
      IsBase f p c line → ((j : ℕ) → IsAt line j → ⊥) → IsAgainstWith IsAt v → ⊥
  none_against IsAt v line narrow is none =
      ⊎_elim
      (λ (a : IsBaseless f p c v). base_or_against f p c usable v line narrow a is)
      (λ (a : (j : ℕ) × (v ≡ Bound j) × (other : Line) × IsBase f p c other × IsAt other j).
      none a.0 (subst (λ (l : Line). IsAt l a.0) (one_base f p c a.2 line usable a.3 is) a.4))

-- ---- terms

-- the columns before a later one are not all moved
stuck_before : (columns : List Column) (xs ys : ℕ → Rational) (i j : ℕ) → i < j →
    IsFirstUnmovable columns xs ys i → IsFirstUnmovable columns xs ys j → ⊥
stuck_before columns xs ys i j before h k =
    let below = k.below in
    let fewer : length (take j columns) ≡ j = length-take-le j columns (omega arith) in
    not_all_moved (take j columns) i h.column xs ys k.total (omega arith)
    (h.is ∙ sym (get_or-take j columns i h.column before)) h.unmovable k.moved_before

pub one_unmovable : (columns : List Column) (xs ys : ℕ → Rational) (i j : ℕ) →
    IsFirstUnmovable columns xs ys i → IsFirstUnmovable columns xs ys j → i ≡ j
one_unmovable columns xs ys i j h k =
    ⊎_elim (λ (same : i ≡ j). same)
    (⊎_elim
    (λ (before : i < j). absurd (stuck_before columns xs ys i j before h k))
    (λ (after : j < i). absurd (stuck_before columns xs ys j i after k h)))
    (cases_order i j)

-- the column at which the terms cannot be moved to
abbrev pub IsStuckAt : Problem → Combination → List Entry → Line → ℕ → Type 0
IsStuckAt p c entries line j = IsFirstUnmovable p.columns (times c.factor line)
    (coefficient_in entries) j

pub terms_against : (f : Option FunctionData) (p : Problem) (c : Combination)
    (entries : List Entry) (v : Verdict) (usable : IsUsableFor f c.rule) → IsNarrow v →
    IsAgainstTerms f p c entries v → IsAgainstWith f p c usable (IsStuckAt p c entries) v
terms_against f p c entries (Sign i) usable narrow h = inl h
terms_against f p c entries (Free j) usable narrow h = inl h
terms_against f p c entries Integral usable narrow h = inl h
terms_against f p c entries Other usable narrow h = inl h
terms_against f p c entries (Bound j) usable narrow (line, is, stuck) = inr
    (j, refl, line, is, stuck)
terms_against f p c entries Wide usable narrow h = absurd (narrow refl)
terms_against f p c entries Accepted usable narrow h = absurd h
terms_against f p c entries (Right b) usable narrow h = absurd h

pub one_against_terms : (f : Option FunctionData) (p : Problem) (c : Combination)
    (entries : List Entry) (v w : Verdict) → IsUsableFor f c.rule → IsNarrow v → IsNarrow w →
    IsAgainstTerms f p c entries v → IsAgainstTerms f p c entries w → v ≡ w
one_against_terms f p c entries v w usable v_narrow w_narrow h k =
    one_against f p c usable (IsStuckAt p c entries)
    (λ line i j. one_unmovable p.columns (times c.factor line) (coefficient_in entries) i j) v w
    v_narrow w_narrow (terms_against f p c entries v usable v_narrow h)
    (terms_against f p c entries w usable w_narrow k)

-- terms for which a right side is shown have nothing against them
pub shown_or_against : (f : Option FunctionData) (p : Problem) (s : Step) (right : Rational)
    (v : Verdict) → IsUsableFor f s.combination.rule → IsNarrow v → IsShown f p s right →
    IsAgainstTerms f p s.combination s.claim.entries v → ⊥
shown_or_against f p s right v usable narrow shown h =
    let c = s.combination in
    let entries = s.claim.entries in
    none_against f p c usable (IsStuckAt p c entries) v shown.base narrow shown.base_is
    (λ (j : ℕ) (stuck : IsStuckAt p c entries shown.base j).
    not_all_moved p.columns j stuck.column (times c.factor shown.base) (coefficient_in entries)
    shown.right_is.shift stuck.below stuck.is stuck.unmovable shown.right_is.moved)
    (terms_against f p c entries v usable narrow h)

-- ---- verdicts

module _ (f : Option FunctionData) (p : Problem) (s : Step)
    (usable : IsUsableFor f s.combination.rule) where
  abbrev FromShown : Verdict → Type 0
  FromShown v = (right : Rational) × IsShown f p s right
      × (((v ≡ Accepted) × (rational s.claim.right ≤ℚ right))
      ⊎ ((b : Frac) × (v ≡ Right b) × (rational b ≡ right)
      × (rational s.claim.right ≤ℚ right → ⊥)))

  abbrev FromAgainst : Verdict → Type 0
  FromAgainst v = IsAgainstTerms f p s.combination s.claim.entries v

  sides : (v : Verdict) → IsNarrow v → IsVerdict f p s v → FromShown v ⊎ FromAgainst v
  sides Accepted narrow (right, shown, below) = inl (right, shown, inl (refl, below))
  sides (Right b) narrow (shown, above) = inl (rational b, shown, inr (b, refl, refl, above))
  sides (Sign i) narrow h = inr h
  sides (Free j) narrow h = inr h
  sides Integral narrow h = inr h
  sides Other narrow h = inr h
  sides (Bound j) narrow h = inr h
  sides Wide narrow h = absurd (narrow refl)

  one_compared : (v w : Verdict) → FromShown v → FromShown w → v ≡ w
  one_compared v w (right, shown, side) (other, shown', side') =
      let same : right ≡ other = one_shown f p s right other usable shown shown' in
      ⊎_elim
      (λ (a : (v ≡ Accepted) × (rational s.claim.right ≤ℚ right)).
      ⊎_elim
      (λ (b : (w ≡ Accepted) × (rational s.claim.right ≤ℚ other)). a.0 ∙ sym b.0)
      (λ (b : (r : Frac) × (w ≡ Right r) × (rational r ≡ other)
      × (rational s.claim.right ≤ℚ other → ⊥)).
      absurd (b.3 (subst (λ x. rational s.claim.right ≤ℚ x) same a.1))) side')
      (λ (a : (r : Frac) × (v ≡ Right r) × (rational r ≡ right)
      × (rational s.claim.right ≤ℚ right → ⊥)).
      ⊎_elim
      (λ (b : (w ≡ Accepted) × (rational s.claim.right ≤ℚ other)).
      absurd (a.3 (subst (λ x. rational s.claim.right ≤ℚ x) (sym same) b.1)))
      (λ (b : (r : Frac) × (w ≡ Right r) × (rational r ≡ other)
      × (rational s.claim.right ≤ℚ other → ⊥)).
      a.1 ∙ ap (λ (r : Frac). Right r) (rational_injective a.0 b.0 (a.2 ∙ same ∙ sym b.2))
      ∙ sym b.1) side')
      side

  pub one_narrow_verdict : (v w : Verdict) → IsNarrow v → IsNarrow w → IsVerdict f p s v →
      IsVerdict f p s w → v ≡ w
  one_narrow_verdict v w v_narrow w_narrow h k =
      ⊎_elim
      (λ (a : FromShown v).
      ⊎_elim (one_compared v w a)
      (λ (b : FromAgainst w). absurd (shown_or_against f p s a.0 w usable w_narrow a.1 b))
      (sides w w_narrow k))
      (λ (a : FromAgainst v).
      ⊎_elim
      (λ (b : FromShown w). absurd (shown_or_against f p s b.0 v usable v_narrow b.1 a))
      (λ (b : FromAgainst w). one_against_terms f p s.combination s.claim.entries v w usable
      v_narrow w_narrow a b)
      (sides w w_narrow k))
      (sides v v_narrow h)

-- a verdict is `Wide` or is not
pub wide_or_not : (v : Verdict) → (v ≡ Wide) ⊎ IsNarrow v
wide_or_not Wide = inl refl
wide_or_not Accepted = inr (λ e. cc)
wide_or_not (Sign i) = inr (λ e. cc)
wide_or_not (Free j) = inr (λ e. cc)
wide_or_not Integral = inr (λ e. cc)
wide_or_not Other = inr (λ e. cc)
wide_or_not (Bound j) = inr (λ e. cc)
wide_or_not (Right b) = inr (λ e. cc)

-- of two that are `Wide` where a number does not fit, both are or none is
pub one_of_alike : (Is : Verdict → Type 0) →
    ((v w : Verdict) → IsNarrow v → IsNarrow w → Is v → Is w → v ≡ w) → (v w : Verdict) → Is v →
    Is w → (Is Wide → v ≡ Wide) → (Is Wide → w ≡ Wide) → v ≡ w
one_of_alike Is one v w h k v_tells w_tells =
    ⊎_elim
    (λ (wide : v ≡ Wide). wide ∙ sym (w_tells (subst Is wide h)))
    (λ (v_narrow : IsNarrow v).
    ⊎_elim
    (λ (wide : w ≡ Wide). v_tells (subst Is wide k) ∙ sym wide)
    (λ (w_narrow : IsNarrow w). one v w v_narrow w_narrow h k)
    (wide_or_not w))
    (wide_or_not v)

pub one_verdict : (f : Option FunctionData) (p : Problem) (s : Step) (v w : Verdict) →
    IsUsableFor f s.combination.rule → IsVerdict f p s v → IsVerdict f p s w →
    (IsVerdict f p s Wide → v ≡ Wide) → (IsVerdict f p s Wide → w ≡ Wide) → v ≡ w
one_verdict f p s v w usable h k v_tells w_tells =
    one_of_alike (IsVerdict f p s) (one_narrow_verdict f p s usable) v w h k v_tells w_tells
