-- A feasible point of rational numbers is one of real numbers.
use Rattle.std.proofs.Common.{◌≡◌, ℕ, zero, suc, Option, Some, None, List, [], ◌∷◌, map, All, IfSome, refl, sym, subst, ap, ap₂, ◌∙◌}
use Rattle.std.specs.List.{AllZip}
use Rattle.std.proofs.lemmas.List.Elements.{All-nil, All-cons, All-head, All-tail}
use Rattle.gj_frac.specs.declared.Frac.{Frac}
use Rattle.gj_fields.specs.Fields.{OrderedField, AtMost}
use Rattle.gj_real_cuts.specs.RealRows.{number_of}
use Rattle.gj_fields.specs.Rational.{Rational, rational, ◌*ℚ◌, ◌≤ℚ◌}
use Rattle.gj_problem.specs.declared.problem.Column.{Column}
use Rattle.gj_problem.specs.declared.problem.Constraint.{Constraint}
use Rattle.gj_problem.specs.declared.problem.Entry.{Entry}
use Rattle.gj_problem.specs.declared.problem.Inequality.{Inequality}
use Rattle.gj_problem.specs.declared.problem.Problem.{Problem}
use Rattle.gj_problem.specs.declared.problem.Sense.{Sense}
use Rattle.gj_problem.specs.declared.problem.Sense.TheVariants as sense
use Rattle.gj_problem.specs.Problems.{MeetsColumn, Meets, MeetsConstraint, Holds, value_at, sum_at}
use Rattle.gj_real_problems.specs.RealProblems.{real_value_at, real_sum_at, MeetsOver, MeetsRealConstraint, MeetsRealColumn, RealHolds}
use Rattle.gj_fields.proofs.Rationals.{most_from, most_is}
use Rattle.gj_real_problems.proofs.Images.{image, whole_image, embeds}

module _ {R : Type 0} (K : OrderedField R) where
  value_image : (point : List Rational) (j : ℕ) → real_value_at K (map (image K) point) j
      ≡ image K (value_at point j)
  value_image [] j = sym (embeds K).zero_is
  value_image (x ∷ xs) zero = refl
  value_image (x ∷ xs) (suc j) = value_image xs j

  sum_image : (point : List Rational) (es : List Entry) →
      real_sum_at K (map (image K) point) es ≡ image K (sum_at point es)
  sum_image point [] = sym (embeds K).zero_is
  sum_image point (e ∷ es) =
      ap₂ K.plus
      (ap (K.times (number_of K e.value)) (value_image point e.column)
      ∙ sym ((embeds K).times_is (rational e.value) (value_at point e.column)))
      (sum_image point es)
      ∙ sym ((embeds K).plus_is (rational e.value *ℚ value_at point e.column) (sum_at point es))

  lower_image : (l : Option Frac) (x : Rational) → IfSome l (λ l. rational l ≤ℚ x) →
      IfSome l (λ l. AtMost K (number_of K l) (image K x))
  lower_image None x h = tt
  lower_image (Some l) x h = (embeds K).keeps (rational l) x (most_is _ _ h)

  upper_image : (u : Option Frac) (x : Rational) → IfSome u (λ u. x ≤ℚ rational u) →
      IfSome u (λ u. AtMost K (image K x) (number_of K u))
  upper_image None x h = tt
  upper_image (Some u) x h = (embeds K).keeps x (rational u) (most_is _ _ h)

  columns_image : (cs : List Column) (point : List Rational) → AllZip MeetsColumn cs point →
      AllZip (MeetsRealColumn K) cs (map (image K) point)
  columns_image [] [] h = tt
  columns_image [] (x ∷ xs) h = absurd h
  columns_image (c ∷ cs) [] h = absurd h
  columns_image (c ∷ cs) (x ∷ xs) h = (
    record {
      is_whole = λ flag. let (z, is) = h.0.is_whole flag in (z, ap (image K) is ∙ whole_image K z);
      lower = lower_image c.lower x h.0.lower;
      upper = upper_image c.upper x h.0.upper;
    },
    columns_image cs xs h.1,
  )

  meets_image : (s : Sense) (sum right : Rational) → Meets s sum right →
      MeetsOver K s (image K sum) (image K right)
  meets_image sense.AtMost sum right h = (embeds K).keeps sum right (most_is _ _ h)
  meets_image sense.AtLeast sum right h = (embeds K).keeps right sum (most_is _ _ h)
  meets_image sense.Equal sum right h = ap (image K) h

  constraints_image : (point : List Rational) (cs : List Constraint) →
      All (MeetsConstraint point) cs →
      All (MeetsRealConstraint K (map (image K) point)) cs
  constraints_image point [] h = All-nil (MeetsRealConstraint K (map (image K) point))
  constraints_image point (c ∷ cs) h =
      All-cons (MeetsRealConstraint K (map (image K) point)) c cs
      (subst (λ (s : R). MeetsOver K c.sense s (number_of K c.right))
      (sym (sum_image point c.entries))
      (meets_image c.sense (sum_at point c.entries) (rational c.right)
      (All-head (MeetsConstraint point) c cs h)))
      (constraints_image point cs (All-tail (MeetsConstraint point) c cs h))

  pub returned : (p : Problem) (q : Inequality) → RealHolds K p q → Holds p q
  returned p q holds point feasible =
      most_from (rational q.right) (sum_at point q.entries)
      ((embeds K).reflects (rational q.right) (sum_at point q.entries)
      (subst (AtMost K (number_of K q.right)) (sum_image point q.entries)
      (holds (map (image K) point)
      (record {
        columns = columns_image p.columns point feasible.columns;
        constraints = constraints_image point p.constraints feasible.constraints;
      }))))
