-- The steps of a group, one after another.
use Rattle.std.proofs.Common.{◌≡◌, ℕ, ◌+◌, ◌<◌, ◌≤◌, ℤ, List, [], ◌∷◌, ◌++◌, length, take, get_or, below_more, refl, sym, ap, subst, ◌∙◌}
use Rattle.std.specs.Prelude.{None}
use Rattle.std.proofs.lemmas.List.{take_all}
use Rattle.gj_shape.specs.Elimination.{KeptRow, Arithmetic, entries_of, row_with_pivot}
use Rattle.gj_theory.specs.TriangularRows.{present_row_by}
use Rattle.gj_proof.specs.declared.numbers.Numbers.{Numbers}
use Rattle.gj_proof.specs.PresentRows.{arithmetic_of}
use Rattle.gj_check_groups.specs.declared.failure.GroupRule.{GroupRule}
use Rattle.gj_proof.specs.Rules.{AtIndex}
use Rattle.gj_check_groups.specs.GroupOutcomes.{stepped, MeetsStep, FailsStep, MeetsStepBehind, FailAt, IsStepOutcome}
use Rattle.gj_proof.proofs.AtPlaces.{at_place, with_place, each_item}

-- a step more
pub present_row_push : (by : Arithmetic) (kept : List KeptRow) (row : List ℤ) (columns : List ℕ)
    (c : ℕ) →
    present_row_by by kept row (columns ++ c ∷ []) ≡ by.step (entries_of (row_with_pivot kept c))
    (present_row_by by kept row columns) c
present_row_push by kept row [] c = refl
present_row_push by kept row (d ∷ columns) c =
    present_row_push by kept (by.step (entries_of (row_with_pivot kept d)) row d) columns c

-- the steps at the first r columns are done, and their rules hold
pub record AreStepped (numbers : Numbers) (kept : List KeptRow) (begun : List ℤ) (columns : List ℕ)
    (r : ℕ) (row : List ℤ) : Type 0 where
  pub row_is : row ≡ stepped numbers kept begun (take r columns)
  pub meet : (i : ℕ) → i < r → AtIndex columns i (MeetsStepBehind numbers kept begun)

pub stepped_more : (numbers : Numbers) (kept : List KeptRow) (begun : List ℤ) (columns : List ℕ)
    (r c : ℕ) (row after : List ℤ) →
    AreStepped numbers kept begun columns r row → r < length columns → c ≡ get_or columns r c →
    IsStepOutcome numbers kept row c after None →
    AreStepped numbers kept begun columns (r + 1) after
stepped_more numbers kept begun columns r c row after h below is (meets, after_is) = record {
  row_is = after_is ∙ ap
      (λ xs. (arithmetic_of numbers).step (entries_of (row_with_pivot kept c)) xs c) h.row_is
      ∙ sym (present_row_push (arithmetic_of numbers) kept begun (take r columns) c)
      ∙ ap (stepped numbers kept begun) (sym (with_place columns r c below is));
  meet = below_more (λ i. AtIndex columns i (MeetsStepBehind numbers kept begun)) r h.meet
      (at_place columns (MeetsStepBehind numbers kept begun) r c below is
      (subst (λ (xs : List ℤ). MeetsStep numbers kept xs c) h.row_is meets));
}

pub stepped_fails : (numbers : Numbers) (kept : List KeptRow) (begun : List ℤ) (columns : List ℕ)
    (r c : ℕ) (row : List ℤ) (rule : GroupRule) →
    AreStepped numbers kept begun columns r row → r < length columns → c ≡ get_or columns r c →
    FailsStep numbers rule kept row c → FailAt numbers kept begun columns r rule
stepped_fails numbers kept begun columns r c row rule h below is fails = record {
  within = below;
  before = h.meet;
  here = at_place columns
      (λ before d. FailsStep numbers rule kept (stepped numbers kept begun before) d) r c below is
      (subst (λ (xs : List ℤ). FailsStep numbers rule kept xs c) h.row_is fails);
}

pub stepped_all : (numbers : Numbers) (kept : List KeptRow) (begun : List ℤ) (columns : List ℕ)
    (r : ℕ) (row : List ℤ) →
    AreStepped numbers kept begun columns r row → length columns ≤ r →
    ((i : ℕ) → AtIndex columns i (MeetsStepBehind numbers kept begun))
    × (row ≡ stepped numbers kept begun columns)
stepped_all numbers kept begun columns r row h past = (
  each_item columns (MeetsStepBehind numbers kept begun) r past h.meet,
  h.row_is ∙ ap (stepped numbers kept begun) (take_all r columns past),
)
