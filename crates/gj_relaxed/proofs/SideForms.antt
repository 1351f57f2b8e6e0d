-- A constraint off the grid, from what has been rounded of it.
use Rattle.std.specs.List.{AllZip}
use Rattle.std.proofs.Common.{◌≡◌, ◌≢◌, ◌<◌, List, [], ◌∷◌, length, get_or, zero, suc, arith, ℕ, ℤ, Bool, true, false, Some, refl, sym, ap, subst, ◌∙◌}
use Rattle.gj_frac.specs.declared.Frac.{Frac}
use Rattle.gj_fields.specs.Rational.{whole, rational, ◌*ℚ◌}
use Rattle.gj_problem.specs.Rows.{IsMultiple}
use Rattle.gj_problem.specs.declared.problem.Constraint.{Constraint}
use Rattle.gj_problem.specs.declared.problem.Inequality.{Inequality}
use Rattle.gj_problem.specs.declared.problem.Problem.{Problem}
use Rattle.gj_problem.specs.declared.rounding.RoundedCut.{RoundedCut}
use Rattle.gj_problem.specs.declared.rounding.RoundedCut.TheVariants as cut
use Rattle.gj_problem.specs.RoundedCuts.{IsRoundedOf, IsFirstFreeEntry}
use Rattle.gj_problem.specs.Aggregates.{Weighted}
use Rattle.gj_relaxed.specs.RelaxedProblems.{IsOnGrid, side, IsSide, IsUnnamed, IsWideSide}
use Rattle.gj_relaxed.specs.RelaxedSteps.{sign_of, IsRoundedSide, IsRelaxedOrFree}
use Rattle.gj_relaxed.specs.RelaxedForms.{IsRoundedWithSign, AreForms, rounded_of, IsSideOf}
use Rattle.gj_relaxed.specs.declared.forms.Forms.{Forms}
use Rattle.gj_relaxed.specs.declared.sides.Side.{Side}
use Rattle.gj_relaxed.specs.declared.sides.Side.TheVariants.{Made, Free}
use Rattle.gj_relaxed.proofs.NarrowRelaxing.{narrow_side}
use Rattle.gj_relaxed.proofs.RelaxedSides.{side_made}

-- a form of the constraint with the sign of its side
pub form_with : (p : Problem) (n : ℕ) (c : Constraint) (f : Forms) (is_turned : Bool) →
    AreForms p n c f →
    IsRoundedWithSign p n c is_turned (rounded_of f is_turned)
form_with p n c f true h = h.turned
form_with p n c f false h = h.plain

-- what is rounded is a side of its inequality
rounded_from : (p : Problem) (n : ℕ) (given : Inequality) (made : RoundedCut) (m : Frac)
    (s : Side) → IsRoundedOf p n given made → IsSideOf made m s →
    IsRoundedSide p n given m s
rounded_from p n given (cut.Cut r) m (Made c k) is h = (r, is, h.0, h.1)
rounded_from p n given (cut.Cut r) m (Free k) is h = absurd h
rounded_from p n given (cut.Free j) m (Made c k) is h = absurd h
rounded_from p n given (cut.Free j) m (Free k) is h =
    subst (λ (i : ℕ). IsFirstFreeEntry p n given.entries i) (sym h) is
rounded_from p n given cut.Wide m (Made c k) is h = absurd h
rounded_from p n given cut.Wide m (Free k) is h = absurd h

module _ (p : Problem) (n : ℕ) (w : Weighted) (is_turned : Bool) (made : RoundedCut)
    (named : IsUnnamed w → ⊥) (off_grid : IsOnGrid n w.constraint → ⊥)
    (sign_is : sign_of is_turned ≡ side w)
    (form : IsRoundedWithSign p n w.constraint is_turned (Some made)) where
  given_is : IsSide w form.0
  given_is = subst (λ (z : ℤ). IsMultiple (whole z) w.constraint.entries w.constraint.right form.0)
      sign_is form.1

  pub side_from_form : (m : Frac) (s : Side) →
      rational m ≡ whole (sign_of is_turned) *ℚ rational w.multiplier → IsSideOf made m s →
      IsRelaxedOrFree p n w s
  side_from_form m s m_is h =
      side_made p n w form.0 m s named off_grid given_is
      (m_is ∙ ap (λ (z : ℤ). whole z *ℚ rational w.multiplier) sign_is)
      (rounded_from p n form.0 made m s form.2 h)

  pub wide_from_form : made ≡ cut.Wide → IsWideSide p n w
  wide_from_form is = record {
    named = named;
    off_grid = off_grid;
    given = form.0;
    given_is = given_is;
    wide = subst (IsRoundedOf p n form.0) is form.2;
  }

  pub narrow_from_form : (made ≢ cut.Wide) → IsWideSide p n w → ⊥
  narrow_from_form some = narrow_side p n w form.0 given_is (λ wide. some (form.3 wide))

-- ---- items of two lists

pub zip_at : {A B : Type 0} (R : A → B → Type 0) (xs : List A) (ys : List B) (i : ℕ) (a : A)
    (b : B) → AllZip R xs ys → i < length xs →
    R (get_or xs i a) (get_or ys i b)
zip_at R [] ys i a b h below = absurd (omega arith)
zip_at R (x ∷ xs) [] i a b h below = absurd h
zip_at R (x ∷ xs) (y ∷ ys) zero a b h below = h.0
zip_at R (x ∷ xs) (y ∷ ys) (suc i) a b h below = zip_at R xs ys i a b h.1 (omega arith)

pub zip_count : {A B : Type 0} (R : A → B → Type 0) (xs : List A) (ys : List B) → AllZip R xs ys →
    length xs ≡ length ys
zip_count R [] [] h = refl
zip_count R [] (y ∷ ys) h = absurd h
zip_count R (x ∷ xs) [] h = absurd h
zip_count R (x ∷ xs) (y ∷ ys) h = ap suc (zip_count R xs ys h.1)
