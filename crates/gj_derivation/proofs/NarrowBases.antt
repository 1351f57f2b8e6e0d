-- Where all numbers of a base fit, none is said not to.
use Rattle.std.proofs.Common.{◌≡◌, ◌⊎◌, ⊎_elim, ℕ, ◌+◌, ◌<◌, Option, List, [], length, get_or, take, pos, refl, sym, ap, subst, subst₂, ◌∙◌}
use Rattle.gj_frac.specs.declared.Frac.{Frac}
use Rattle.gj_frac.specs.Fits.{FitsSum}
use Rattle.gj_shape.specs.FunctionData.{FunctionData}
use Rattle.gj_fields.specs.Rational.{Rational, whole, rational}
use Rattle.gj_problem.specs.declared.problem.Constraint.{Constraint}
use Rattle.gj_problem.specs.declared.problem.Entry.{Entry}
use Rattle.gj_problem.specs.declared.problem.Problem.{Problem}
use Rattle.gj_problem.specs.declared.sums.Sum.{Sum}
use Rattle.gj_problem.specs.Problems.{IsConstraint}
use Rattle.gj_problem.specs.Rows.{dot}
use Rattle.gj_problem.specs.Steps.{IsWideAt, IsWideWithin}
use Rattle.gj_problem.proofs.Failing.{Fails, none_next, none_at_first}
use Rattle.gj_problem.proofs.OneRow.{rational_injective, same_coefficients}
use Rattle.gj_safe_cut.specs.declared.cut.SafeCut.{SafeCut}
use Rattle.gj_safe_cut.specs.declared.cut.SafeCut.TheVariants as cut
use Rattle.gj_safe_cut.specs.SafeCuts.{TellsWide}
use Rattle.gj_derivation.specs.declared.step.Combination.{Combination}
use Rattle.gj_derivation.specs.declared.step.Multiplier.{Multiplier}
use Rattle.gj_derivation.specs.declared.step.StepRule.{StepRule}
use Rattle.gj_derivation.specs.declared.step.StepRule.TheVariants.{Linear, Gmic, Function}
use Rattle.gj_derivation.specs.declared.step.Verdict.TheVariants.{Wide}
use Rattle.gj_derivation.specs.Derivations.{multiplier_of, AreMultipliers, IsCutBy, IsCutOf}
use Rattle.gj_derivation.specs.Checks.{IsSumOf, IsWideMore, IsWideAddition, IsWideAdded, IsWideNamed, IsWideBy, IsBaseless, IsWideTerms}
use Rattle.gj_derivation.proofs.CheckedSums.{dot_unit}
use Rattle.gj_derivation.proofs.NamedLines.{one_constraint}
use Rattle.gj_derivation.proofs.OneBase.{same_numbers, cut_at}

-- ---- sums

pub narrow_addition : (p : Problem) (m : Multiplier) (c : Constraint) (sum : Sum) →
    IsConstraint p m.line c → (IsWideMore sum m.value c.entries c.right → ⊥) →
    IsWideAddition p m sum → ⊥
narrow_addition p m c sum is narrow (d, d_is, wide) =
    narrow (subst (λ (e : Constraint). IsWideMore sum m.value e.entries e.right)
    (one_constraint p m.line d c d_is is) wide)

-- what does not fit in a sum does not fit in an equal one
wide_along : (p : Problem) (m : Multiplier) (sum other : Sum) →
    sum.coefficients.items ≡ other.coefficients.items → sum.right ≡ other.right →
    IsWideAddition p m sum → IsWideAddition p m other
wide_along p m sum other items right (c, is, wide) = (
  c,
  is,
  subst₂ (λ (cs : List Frac) (r : Frac). IsWideWithin cs m.value c.entries
      ⊎ IsWideAt r m.value c.right) items right wide,
)

-- the constraints of the multipliers before it have been added, and then it is at this one
abbrev IsWideNow : Problem → List Multiplier → Multiplier → Type 0
IsWideNow p before m = (sum : Sum) × IsSumOf p before sum × IsWideAddition p m sum

fails_added : (p : Problem) (ms : List Multiplier) → IsWideAdded p ms → Fails (IsWideNow p) ms
fails_added p ms w = record {
  before = w.before;
  next = w.next;
  after = w.after;
  place = w.place;
  fails = (w.sum, w.sum_is, w.wide);
}

added_fails : (p : Problem) (ms : List Multiplier) → Fails (IsWideNow p) ms → IsWideAdded p ms
added_fails p ms f = record {
  before = f.before;
  next = f.next;
  after = f.after;
  place = f.place;
  sum = f.fails.0;
  sum_is = f.fails.1;
  wide = f.fails.2;
}

pub narrow_added_none : (p : Problem) → IsWideAdded p [] → ⊥
narrow_added_none p w = none_at_first (IsWideNow p) (fails_added p [] w)

pub narrow_added_next : (p : Problem) (ms : List Multiplier) (i : ℕ) (m : Multiplier)
    (sum : Sum) → i < length ms → m ≡ get_or ms i m → IsSumOf p (take i ms) sum →
    (IsWideAdded p (take i ms) → ⊥) → (IsWideAddition p m sum → ⊥) →
    IsWideAdded p (take (i + 1) ms) → ⊥
narrow_added_next p ms i m sum below here is none narrow w =
    none_next (IsWideNow p) ms i m below here (λ f. none (added_fails p (take i ms) f))
    (λ (k : IsWideNow p (take i ms) m).
    narrow (wide_along p m k.0 sum
    (same_numbers k.0.coefficients.items sum.coefficients.items (k.1.count ∙ sym is.count)
    (λ j. k.1.coefficients j ∙ sym (is.coefficients j)))
    (rational_injective k.0.right sum.right (k.1.right ∙ sym is.right)) k.2))
    (fails_added p (take (i + 1) ms) w)

-- ---- lines that are named

-- the multipliers of the line before it add up to a fraction, and the sum with this one does not fit
abbrev IsWideLine : List Multiplier → Multiplier → Type 0
IsWideLine before m = (sum : Frac) × (rational sum ≡ multiplier_of before m.line)
    × (FitsSum sum m.value → ⊥)

fails_named : (ms : List Multiplier) → IsWideNamed ms → Fails IsWideLine ms
fails_named ms w = record {
  before = w.before;
  next = w.next;
  after = w.after;
  place = w.place;
  fails = (w.sum, w.sum_is, w.wide);
}

named_fails : (ms : List Multiplier) → Fails IsWideLine ms → IsWideNamed ms
named_fails ms f = record {
  before = f.before;
  next = f.next;
  after = f.after;
  place = f.place;
  sum = f.fails.0;
  sum_is = f.fails.1;
  wide = f.fails.2;
}

pub narrow_named_none : IsWideNamed [] → ⊥
narrow_named_none w = none_at_first IsWideLine (fails_named [] w)

pub narrow_named_next : (p : Problem) (ms : List Multiplier) (i : ℕ) (m : Multiplier)
    (old : List Frac) (x : Frac) → i < length ms → m ≡ get_or ms i m →
    m.line < length p.constraints → AreMultipliers p (take i ms) old → x ≡ get_or old m.line x →
    (IsWideNamed (take i ms) → ⊥) → FitsSum x m.value → IsWideNamed (take (i + 1) ms) → ⊥
narrow_named_next p ms i m old x below here line h x_is none fits w =
    none_next IsWideLine ms i m below here (λ f. none (named_fails (take i ms) f))
    (λ (k : IsWideLine (take i ms) m).
    let count : m.line < length old = subst (λ (n : ℕ). m.line < n) (sym h.count) line in
    let x_value : rational x ≡ multiplier_of (take i ms) m.line =
    ap rational x_is ∙ sym (dot_unit old m.line x count) ∙ h.are m.line in
    k.2 (subst (λ (y : Frac). FitsSum y m.value) (rational_injective x k.0 (x_value ∙ sym k.1))
    fits))
    (fails_named (take (i + 1) ms) w)

-- ---- cuts

narrow_by : (rule : StepRule) (f : Option FunctionData) (p : Problem) (c : Combination) →
    (rule ≡ Linear → ⊥) → (IsWideNamed c.multipliers → ⊥) → (IsCutOf f p c cut.Wide → ⊥) →
    IsWideBy rule f p c → ⊥
narrow_by Linear f p c other named narrow wide = other refl
narrow_by Gmic f p c other named narrow wide = ⊎_elim named narrow wide
narrow_by Function f p c other named narrow wide = ⊎_elim named narrow wide

pub narrow_cut : (f : Option FunctionData) (p : Problem) (c : Combination) (answer : SafeCut)
    (h : IsCutOf f p c answer) → (c.rule ≡ Linear → ⊥) → (IsWideNamed c.multipliers → ⊥) →
    TellsWide (IsCutBy c.rule f p h.multipliers h.at_upper) answer → (answer ≡ cut.Wide → ⊥) →
    IsBaseless f p c Wide → ⊥
narrow_cut f p c answer h other named tells narrow (signed, wide) =
    narrow_by c.rule f p c other named (λ k. narrow (tells (cut_at f p c answer cut.Wide h k))) wide

-- ---- the base

pub narrow_linear : (f : Option FunctionData) (p : Problem) (c : Combination) → c.rule ≡ Linear →
    (IsWideAdded p c.multipliers → ⊥) → IsBaseless f p c Wide → ⊥
narrow_linear f p c linear narrow (signed, wide) =
    narrow (subst (λ (rule : StepRule). IsWideBy rule f p c) linear wide)

-- ---- terms

pub narrow_terms : (n : ℕ) (es : List Entry) (none : List Frac) (one : Frac) → length none ≡ n →
    ((point : List Rational) → dot none point ≡ whole (pos 0)) → rational one ≡ whole (pos 1) →
    (IsWideWithin none one es → ⊥) → IsWideTerms n es → ⊥
narrow_terms n es none one count are_none one_is narrow w =
    let same : w.none ≡ none =
    same_coefficients w.none none (w.count ∙ sym count)
    (λ point. w.are_none point ∙ sym (are_none point)) in
    let factor : w.one ≡ one = rational_injective w.one one (w.one_is ∙ sym one_is) in
    narrow (subst₂ (λ (cs : List Frac) (f : Frac). IsWideWithin cs f es) same factor w.wide)
