-- The multipliers of the lines that are named, one for each constraint, and the columns that are
-- named.
use Rattle.std.proofs.Common.{◌≡◌, ◌≢◌, ⊎_elim, ◌↔◌, ℕ, zero, suc, ◌+◌, ◌<◌, ◌≤◌, Bool, true, false, eqb, IsTrue, Contains, List, [], ◌∷◌, ◌++◌, length, get_or, take, drop, slice_set, sym, ap, subst, ◌∙◌, arith}
use Rattle.std.proofs.lemmas.Bool.Decides.{eqb_tells}
use Rattle.std.proofs.lemmas.List.{take_more, length-set, get_or-set_same, get_or-set_other}
use Rattle.std.proofs.lemmas.List.Elements.{Contains-append_left, Contains-append_right, Contains-append_cases}
use Rattle.gj_frac.specs.declared.Frac.{Frac}
use Rattle.gj_fields.specs.Rational.{rational, ◌+ℚ◌, ◌*ℚ◌}
use Rattle.gj_problem.proofs.AddedSums.{dot_set, last_entry}
use Rattle.gj_problem.proofs.Prefixes.{split_at, default_unused}
use Rattle.gj_fields.proofs.RationalLaws.{add_assoc_q}
use Rattle.gj_problem.specs.declared.problem.Constraint.{Constraint}
use Rattle.gj_problem.specs.declared.problem.Problem.{Problem}
use Rattle.gj_problem.specs.Problems.{value_at, IsConstraint}
use Rattle.gj_problem.specs.Rows.{dot}
use Rattle.gj_derivation.specs.declared.step.Multiplier.{Multiplier}
use Rattle.gj_derivation.specs.declared.step.StepRule.{StepRule}
use Rattle.gj_derivation.specs.Derivations.{unit, multiplier_of, IsSigned, AreMultipliers, AreAtUpper}
use Rattle.gj_derivation.specs.Checks.{IsWideNamed}
use Rattle.gj_derivation.proofs.CheckedSums.{dot_unit}
use Rattle.gj_frac.specs.Fits.{FitsSum}

-- ---- constraints

-- there is one constraint at an index
pub one_constraint : (p : Problem) (i : ℕ) (c d : Constraint) → IsConstraint p i c →
    IsConstraint p i d → c ≡ d
one_constraint p i c d h k = sym h.is ∙ default_unused p.constraints i c d h.below ∙ k.is

pub line_below : (rule : StepRule) (p : Problem) (m : Multiplier) → IsSigned rule p m →
    m.line < length p.constraints
line_below rule p m (c, is, sign) = is.below

-- ---- multipliers

multiplier_more : (ms : List Multiplier) (m : Multiplier) (i : ℕ) →
    multiplier_of (ms ++ m ∷ []) i ≡ multiplier_of ms i +ℚ rational m.value *ℚ value_at (unit i)
    m.line
multiplier_more [] m i = last_entry (rational m.value *ℚ value_at (unit i) m.line)
multiplier_more (n ∷ ms) m i =
    ap (λ w. rational n.value *ℚ value_at (unit i) n.line +ℚ w) (multiplier_more ms m i)
    ∙ sym (add_assoc_q (rational n.value *ℚ value_at (unit i) n.line) (multiplier_of ms i)
    (rational m.value *ℚ value_at (unit i) m.line))

pub named_more : (p : Problem) (ms : List Multiplier) (i : ℕ) (m : Multiplier) (old new : List Frac)
    (x d : Frac) → i < length ms → m ≡ get_or ms i m →
    m.line < length p.constraints → AreMultipliers p (take i ms) old →
    rational x ≡ rational (get_or old m.line d) +ℚ rational m.value →
    new ≡ slice_set old m.line x → AreMultipliers p (take (i + 1) ms) new
named_more p ms i m old new x d below here line h x_is new_is =
    let count = h.count in
    let more : take (i + 1) ms ≡ take i ms ++ m ∷ [] = take_more ms i m below
    ∙ ap (λ (z : Multiplier). take i ms ++ z ∷ []) (sym here) in
    record {
      count = ap (λ xs. length xs) new_is ∙ length-set old m.line x ∙ h.count;
      are = λ (j : ℕ).
          ap (λ (cs : List Frac). dot cs (unit j)) new_is
          ∙ dot_set old (unit j) m.line d x (rational m.value) (omega arith) x_is
          ∙ ap (λ w. w +ℚ rational m.value *ℚ value_at (unit j) m.line) (h.are j)
          ∙ sym (ap (λ (ns : List Multiplier). multiplier_of ns j) more
          ∙ multiplier_more (take i ms) m j);
    }

pub wide_named : (p : Problem) (ms : List Multiplier) (i : ℕ) (m : Multiplier) (old : List Frac)
    (x : Frac) → i < length ms → m ≡ get_or ms i m →
    m.line < length p.constraints → AreMultipliers p (take i ms) old → x ≡ get_or old m.line x →
    (FitsSum x m.value → ⊥) → IsWideNamed ms
wide_named p ms i m old x below here line h x_is wide =
    let count = h.count in
    record {
      before = take i ms;
      next = m;
      after = drop (i + 1) ms;
      place = split_at ms i m below here;
      sum = x;
      sum_is = ap rational x_is ∙ sym (dot_unit old m.line x (omega arith)) ∙ h.are m.line;
      wide = wide;
    }

-- ---- flags

named_last : (x j : ℕ) → Contains (x ∷ []) j → j ≡ x
named_last x j (zero, below, is) = sym is
named_last x j (suc k, below, is) = absurd (omega arith)

flag_more : (fs : List Bool) (ns : List ℕ) (x j : ℕ) → x < length fs →
    (IsTrue (get_or fs j false) ↔ Contains ns j) →
    (IsTrue (get_or (slice_set fs x true) j false) ↔ Contains (ns ++ x ∷ []) j)
flag_more fs ns x j below h =
    ⊎_elim
    (λ (same : (eqb j x ≡ true) × (j ≡ x)).
    let set : get_or (slice_set fs x true) j false ≡ true =
    ap (λ (i : ℕ). get_or (slice_set fs x true) i false) same.1
    ∙ get_or-set_same fs x true false below in
    let here : Contains (ns ++ x ∷ []) j = Contains-append_right ns (x ∷ []) j (
      0,
      omega arith,
      sym same.1,
    ) in
    (λ t. here, λ k. set))
    (λ (other : (eqb j x ≡ false) × (j ≢ x)).
    let kept : get_or (slice_set fs x true) j false ≡ get_or fs j false =
    get_or-set_other fs x j true false other.1 in (
      λ t. Contains-append_left ns (x ∷ []) j (h.0 (sym kept ∙ t)),
      λ k. kept ∙ h.1 (⊎_elim (λ (a : Contains ns j). a)
          (λ (b : Contains (x ∷ []) j). absurd (other.1 (named_last x j b)))
          (Contains-append_cases ns (x ∷ []) j k)),
    ))
    (eqb_tells j x)

-- a column past the last says nothing of the others
flag_past : (ns : List ℕ) (x j : ℕ) (fs : List Bool) → (j ≡ x → ⊥) →
    (IsTrue (get_or fs j false) ↔ Contains ns j) →
    (IsTrue (get_or fs j false) ↔ Contains (ns ++ x ∷ []) j)
flag_past ns x j fs other h = (
  λ t. Contains-append_left ns (x ∷ []) j (h.0 t),
  λ k. h.1 (⊎_elim (λ (a : Contains ns j). a) (λ (b : Contains (x ∷ []) j). absurd
      (other (named_last x j b))) (Contains-append_cases ns (x ∷ []) j k)),
)

one_more : (ns : List ℕ) (i x : ℕ) → i < length ns → x ≡ get_or ns i x →
    take (i + 1) ns ≡ take i ns ++ x ∷ []
one_more ns i x below here = take_more ns i x below ∙ ap (λ (z : ℕ). take i ns ++ z ∷ []) (sym here)

pub flags_more : (p : Problem) (ns : List ℕ) (i x : ℕ) (old new : List Bool) → i < length ns →
    x ≡ get_or ns i x → x < length p.columns →
    AreAtUpper p (take i ns) old → new ≡ slice_set old x true → AreAtUpper p (take (i + 1) ns) new
flags_more p ns i x old new below here column h new_is =
    let count = h.count in
    subst (λ (ms : List ℕ). AreAtUpper p ms new) (sym (one_more ns i x below here))
    (subst (λ (fs : List Bool). AreAtUpper p (take i ns ++ x ∷ []) fs) (sym new_is) (record {
      count = length-set old x true ∙ h.count;
      are = λ j j_below. flag_more old (take i ns) x j (omega arith) (h.are j j_below);
    }))

pub flags_past : (p : Problem) (ns : List ℕ) (i x : ℕ) (old : List Bool) → i < length ns →
    x ≡ get_or ns i x → length p.columns ≤ x →
    AreAtUpper p (take i ns) old → AreAtUpper p (take (i + 1) ns) old
flags_past p ns i x old below here column h =
    subst (λ (ms : List ℕ). AreAtUpper p ms old) (sym (one_more ns i x below here)) (record {
      count = h.count;
      are = λ j j_below. flag_past (take i ns) x j old (λ same. absurd (omega arith))
          (h.are j j_below);
    })
