-- Products with 0 and sums with 0 fit.
use Rattle.std.proofs.Common.{◌≡◌, ℕ, ◌/◌, ℤ, pos, ◌+ℤ◌, ◌*ℤ◌, unsigned_abs, sym, ap, ap₂, subst, ◌∙◌, arith}
use Rattle.std.proofs.lemmas.Int.{ints}
use Rattle.std.proofs.Math.Nat.{eq-one_of_dvd-one}
use Rattle.std.specs.Int.{◌∣◌}
use Rattle.gj_lemmas.proofs.Integers.{one_mul_z, mul_comm_z}
use Rattle.gj_frac.specs.declared.Frac.{Frac}
use Rattle.gj_frac.specs.Fraction.{Fits, numerator}
use Rattle.gj_frac.specs.Fits.{FitsProduct, FitsSum}
use Rattle.gj_problem.proofs.AddedSums.{zero_frac}
use Rattle.gj_derivation.proofs.TermsFit.{den_of_whole}
use lib.IntN.{zero-*ℤ}

times_zero : (n : ℤ) → n *ℤ pos 0 ≡ pos 0
times_zero n = mul_comm_z n (pos 0) ∙ zero-*ℤ n

pub zero_times : (f x : Frac) → numerator x ≡ pos 0 → FitsProduct f x
zero_times f x none = (
  x,
  ap (λ n. n *ℤ (f.den *ℤ x.den)) none ∙ zero-*ℤ (f.den *ℤ x.den)
      ∙ sym (ap (λ n. (f.num *ℤ n) *ℤ x.den) none ∙ ap (λ n. n *ℤ x.den) (times_zero f.num)
      ∙ zero-*ℤ x.den),
)

pub zero_added : (x z : Frac) → numerator z ≡ pos 0 → FitsSum x z
zero_added x z none g is =
    let den : z.den ≡ pos 1 = den_of_whole z (pos 0) (zero_frac z none) in
    let one : g ≡ 1 = eq-one_of_dvd-one (subst (λ (d : ℤ). g ∣ unsigned_abs d) den is.1) in
    let part : unsigned_abs z.den / g ≡ 1 = ap₂ (λ (d : ℤ) (h : ℕ). unsigned_abs d / h) den one in
    let all : x.num *ℤ pos (unsigned_abs z.den / g) ≡ x.num =
    ap (λ (n : ℕ). x.num *ℤ pos n) part ∙ mul_comm_z x.num (pos 1) ∙ one_mul_z x.num in
    let nothing : z.num *ℤ pos (unsigned_abs x.den / g) ≡ pos 0 =
    ap (λ n. n *ℤ pos (unsigned_abs x.den / g)) none ∙ zero-*ℤ (pos (unsigned_abs x.den / g)) in
    let whole_part : unsigned_abs x.den / g ≡ unsigned_abs x.den =
    ap (λ (h : ℕ). unsigned_abs x.den / h) one ∙ omega arith in
    let under : pos (unsigned_abs x.den / g) *ℤ z.den ≡ pos (unsigned_abs x.den) =
    ap₂ (λ (n : ℕ) d. pos n *ℤ d) whole_part den ∙ mul_comm_z (pos (unsigned_abs x.den)) (pos 1)
    ∙ one_mul_z (pos (unsigned_abs x.den)) in
    let no_number : Fits (pos 0) = omega arith in
    record {
      first = subst Fits (sym all) x.lowest.num_fits;
      second = subst Fits (sym nothing) no_number;
      total = subst Fits (sym (ap₂ (λ a b. a +ℤ b) all nothing ∙ zero_last x.num))
          x.lowest.num_fits;
      bottom = subst Fits (sym under) x.lowest.den_fits;
    }
  where
    zero_last : (n : ℤ) → n +ℤ pos 0 ≡ n
    zero_last n = omega (arith, ints)
