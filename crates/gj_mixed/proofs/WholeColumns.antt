-- Without continuous columns a mixed cut holds exactly if the cut of whole columns does.
use Rattle.std.proofs.Common.{◌≡◌, ℕ, ◌<◌, ◌↔◌, List, [], ◌∷◌, map, ℤ, pos, ◌+ℤ◌, ◌*ℤ◌, ◌≤ℤ◌, refl, sym, subst, arith, append-nil}
use Rattle.std.proofs.lemmas.Int.{ints}
use Rattle.gj_frac.specs.declared.Frac.{Frac}
use Rattle.gj_lemmas.proofs.Integers.{mul_cancel_left_z, mul_le_mul_left_z, one_mul_z}
use Rattle.gj_shape.specs.Given.{numerator_over}
use Rattle.gj_shape.specs.RowCut.{CutHolds}
use Rattle.gj_shape.specs.Given.{IsLeastCommonDenominator}
use Rattle.gj_shape.specs.SlopeRows.{sum_of_products}
use Rattle.gj_mixed.specs.MixedRows.{MixedCutHolds}

ones : (a r : ℤ) → a ≡ r → pos 1 *ℤ a +ℤ pos 0 ≡ pos 1 *ℤ r
ones a r e = let left = one_mul_z a in let right = one_mul_z r in omega (arith, ints)

whole_from_mixed : (entries : List Frac) (right : Frac) (coefficients : List Frac) →
    MixedCutHolds entries [] right coefficients [] →
    CutHolds entries right coefficients
whole_from_mixed entries right coefficients holds basic others g solution least =
    let c = solution.c in
    let v = sum_of_products (map (numerator_over g) coefficients) (map pos others) in
    let reached = holds basic others [] 1 g (record {
      count = solution.count;
      column_count = refl;
      over = omega arith;
      c = c;
      least = subst (λ xs. IsLeastCommonDenominator (right ∷ xs) c)
          (sym (append-nil entries)) solution.least;
      solves = ones _ _ solution.solves;
    }) (subst (λ xs. IsLeastCommonDenominator xs g) (sym (append-nil coefficients)) least) in
    let left = one_mul_z (pos g) in
    let sum = one_mul_z v in
    omega (arith, ints)

cancel_amounts : (a r : ℤ) (e : ℕ) → 0 < e → pos e *ℤ a +ℤ pos 0 ≡ pos e *ℤ r → a ≡ r
cancel_amounts a r e some h =
    let same : pos e *ℤ a ≡ pos e *ℤ r = omega (arith, ints) in
    mul_cancel_left_z a r (pos e) same (omega arith)

scaled_amounts : (g v : ℤ) (e : ℕ) → g ≤ℤ v → (pos e *ℤ g) ≤ℤ (pos e *ℤ v +ℤ pos 0)
scaled_amounts g v e h = let scaled = mul_le_mul_left_z g v (pos e) (omega (arith, ints)) h in
    omega (arith, ints)

mixed_from_whole : (entries : List Frac) (right : Frac) (coefficients : List Frac) →
    CutHolds entries right coefficients →
    MixedCutHolds entries [] right coefficients []
mixed_from_whole entries right coefficients holds basic others [] e g solution least =
    let c = solution.c in
    scaled_amounts (pos g) (sum_of_products (map (numerator_over g) coefficients) (map pos others))
    e
    (holds basic others g (record {
      count = solution.count;
      c = c;
      least = subst (λ xs. IsLeastCommonDenominator (right ∷ xs) c)
          (append-nil entries) solution.least;
      solves = cancel_amounts _ _ e solution.over solution.solves;
    }) (subst (λ xs. IsLeastCommonDenominator xs g) (append-nil coefficients) least))
mixed_from_whole entries right coefficients holds basic others (a ∷ amounts) e g solution least =
    let none = solution.column_count in (cc)

pub mixed_without_columns : (entries : List Frac) (right : Frac) (coefficients : List Frac) →
    MixedCutHolds entries [] right coefficients [] ↔ CutHolds entries right coefficients
mixed_without_columns entries right coefficients =
    (whole_from_mixed entries right coefficients, mixed_from_whole entries right coefficients)
