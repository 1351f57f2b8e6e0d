-- Cover lines in turn: which intervals have a line so far, and the numbers of their components.
use Rattle.std.proofs.Common.{◌≡◌, ◌≢◌, ℕ, ◌+◌, ◌<◌, Bool, true, List, All, length, take, get_or, set, sym, below_more, arith}
use Rattle.std.proofs.lemmas.List.{get_or_default}
use Rattle.gj_shape.specs.FunctionData.{FunctionData}
use Rattle.gj_shape.specs.declared.extremality.CoverLine.{CoverLine}
use Rattle.gj_proof.specs.ProofText.{IsCoverLineBelow}
use Rattle.gj_proof.proofs.AtPlaces.{at_place, each_item}
use Rattle.gj_check.proofs.NumberedLines.{AreNumbered, zero_line, numbered_opening, numbered_joining, all_numbered}
use Rattle.gj_limit_proof.specs.LimitRules.{MeetsLimitCover}
use Rattle.gj_limit_check.specs.LimitCoverLines.{MeetsCover, IsFirstBroken, IsCoverOutcome}
use Rattle.gj_limit_check.specs.declared.cover_lines.Components.{Components}
use Rattle.gj_limit_check.specs.declared.cover_lines.Covered.TheVariants.{Whole}
use Rattle.gj_limit_check.proofs.PlainRules.{zero_function, plain_rule}

-- the first k lines meet the rule, and these are the intervals that have one of them, and the
-- numbers of these
pub record AreNumberedBy (f : FunctionData) (lines : List CoverLine) (k : ℕ) (has_line : List Bool)
    (number : List ℕ) (count : ℕ) :
    Type 0 where
  pub numbered : AreNumbered (zero_function f.order) lines k has_line number count
  pub meet : (j : ℕ) → j < k → MeetsCover f lines j

-- a line that opens a component
pub opening : (f : FunctionData) (lines : List CoverLine) (k : ℕ) (has_line : List Bool)
    (number : List ℕ) (count : ℕ) (l : CoverLine) →
    AreNumberedBy f lines k has_line number count → k < length lines → l ≡ get_or lines k l →
    l.interval < f.order →
    MeetsLimitCover f (take k lines) l → l.from ≡ l.interval →
    AreNumberedBy f lines (k + 1) (set has_line l.interval true) (set number l.interval count)
    (count + 1)
opening f lines k has_line number count l h below is within meets same = record {
  numbered = numbered_opening (zero_function f.order) lines k has_line number count l h.numbered
      below is within
      (plain_rule f (take k lines) l meets) same;
  meet = below_more (MeetsCover f lines) k h.meet
      (at_place lines (MeetsLimitCover f) k l below is meets);
}

-- one that joins its interval to another
pub joining : (f : FunctionData) (lines : List CoverLine) (k : ℕ) (has_line : List Bool)
    (number : List ℕ) (count : ℕ) (l : CoverLine) →
    AreNumberedBy f lines k has_line number count → k < length lines → l ≡ get_or lines k l →
    l.interval < f.order →
    l.from < f.order → MeetsLimitCover f (take k lines) l → l.from ≢ l.interval →
    AreNumberedBy f lines (k + 1) (set has_line l.interval true)
    (set number l.interval (get_or number l.from 0)) count
joining f lines k has_line number count l h below is within from_within meets other = record {
  numbered = numbered_joining (zero_function f.order) lines k has_line number count l h.numbered
      below is within from_within
      (plain_rule f (take k lines) l meets) other;
  meet = below_more (MeetsCover f lines) k h.meet
      (at_place lines (MeetsLimitCover f) k l below is meets);
}

-- the first line that breaks the rule
pub broken : (f : FunctionData) (lines : List CoverLine) (k : ℕ) → k < length lines →
    ((j : ℕ) → j < k → MeetsCover f lines j) →
    (MeetsLimitCover f (take k lines) (get_or lines k zero_line) → ⊥) → IsFirstBroken f lines k
broken f lines k below meet breaks =
    let l = get_or lines k zero_line in
    let is : l ≡ get_or lines k l = sym (get_or_default lines k l zero_line below) in
    record {
      within = below;
      before = meet;
      here = at_place lines (λ before m. MeetsLimitCover f before m → ⊥) k l below is breaks;
    }

-- all lines
pub all_covered : (f : FunctionData) (lines : List CoverLine) (k : ℕ) → k ≡ length lines →
    (has_line : List Bool) (c : Components) →
    length lines ≡ f.order → All (IsCoverLineBelow f.order) lines →
    AreNumberedBy f lines k has_line c.number.items c.count →
    IsCoverOutcome f lines (Whole c)
all_covered f lines k all has_line c count below h =
    let plain = all_numbered (zero_function f.order) lines k all has_line
    (record { number = c.number; count = c.count }) count below h.numbered in
    let small = h.numbered.small in (
      each_item lines (MeetsLimitCover f) k (omega arith) h.meet,
      record {
        length = plain.1.length;
        below = plain.1.below;
        few = omega arith;
        numbers = plain.1.numbers;
        count = plain.1.count;
      },
    )
