-- When a step of a sum or a product does not fit.
use Rattle.std.proofs.Common.{ℕ, ℤ, ◌+ℤ◌, ◌-ℤ◌, FitsSigned, Option, Some, None, Result, Ok, Err, sym, subst, ◌∙◌}
use Rattle.std.proofs.lemmas.Int.{fits_signed_from_abs}
use Rattle.std.specs.Option.{SomeIff}
use Rattle.std.specs.Result.{OkIff}
use Rattle.std.specs.Prelude.{MatchOption, IsErr, IfOk, OnErr}
use Rattle.gj_frac.specs.declared.Frac.{Frac}
use Rattle.gj_frac.specs.Fraction.{Fits}
use Rattle.gj_frac.specs.Fits.{IsDenominatorGcd, FitsTogether, FitsSum, FitsDifference, scaled_numerator}
use mir.Syntax.{w128}

-- ---- one step

-- if the number that i128 gives is tested for the one that does not fit a part, all is tested
pub step_fits : {E : Type 0} → (number : Option ℤ) (result : Result ℤ E) (v : ℤ) →
    SomeIff number (FitsSigned w128 v) v →
    MatchOption number (IsErr result) (λ n. OkIff result (Fits n) n) → OkIff result (Fits v) v
step_fits (Some n) (Ok r) v given tested =
    let same = given.1 in
    (subst Fits same tested.0, tested.1 ∙ same)
step_fits (Some n) (Err e) v given tested = λ fits. tested (subst Fits (sym given.1) fits)
step_fits None (Ok r) v given tested = absurd (cc)
step_fits None (Err e) v given tested = λ fits. given (fits_signed_from_abs w128 v fits)

-- a fact is one for each error
pub on_err : {T E : Type 0} → (result : Result T E) (P : Type 0) → P → OnErr result P
on_err (Ok x) P h = tt
on_err (Err e) P h = h

-- what follows from a fact of each value, or of each error
pub on_ok_along : {T E : Type 0} → (result : Result T E) (P Q : T → Type 0) →
    ((x : T) → P x → Q x) → IfOk result P →
    IfOk result Q
on_ok_along (Ok x) P Q f h = f x h
on_ok_along (Err e) P Q f h = h

pub on_err_along : {T E : Type 0} → (result : Result T E) (P Q : Type 0) → (P → Q) →
    OnErr result P → OnErr result Q
on_err_along (Ok x) P Q f h = h
on_err_along (Err e) P Q f h = f h

-- ---- the common denominator

-- the condition of a sum and of a difference contains that of the common denominator
pub sum_together : (x y : Frac) → FitsSum x y → FitsTogether x y
sum_together x y fits g h =
    let over = fits g h in
    record { first = over.first; second = over.second; bottom = over.bottom }

pub difference_together : (x y : Frac) → FitsDifference x y → FitsTogether x y
difference_together x y fits g h =
    let over = fits g h in
    record { first = over.first; second = over.second; bottom = over.bottom }

-- with it the sum of the numerators is all that is left
pub sum_from : (x y : Frac) → FitsTogether x y →
    ((g : ℕ) → IsDenominatorGcd x y g → Fits (scaled_numerator x y g +ℤ scaled_numerator y x g)) →
    FitsSum x y
sum_from x y fits total g h =
    let over = fits g h in
    record { first = over.first; second = over.second; total = total g h; bottom = over.bottom }

pub difference_from : (x y : Frac) → FitsTogether x y →
    ((g : ℕ) → IsDenominatorGcd x y g → Fits (scaled_numerator x y g -ℤ scaled_numerator y x g)) →
    FitsDifference x y
difference_from x y fits difference g h =
    let over = fits g h in
    record {
      first = over.first;
      second = over.second;
      difference = difference g h;
      bottom =
          over.bottom;
    }
