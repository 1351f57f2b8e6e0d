-- Common multiples, and coordinates with a common denominator.
use Rattle.std.proofs.Common.{◌≡◌, ℕ, ◌*◌, ◌/◌, ◌<◌, ◌≤◌, ◌^◌, ◌↔◌, [], ◌∷◌, unsigned_abs, inl, sym, arith}
use Rattle.std.specs.Int.{IsGcd}
use Rattle.std.proofs.Math.Nat.{div-mul_cancel, one-dvd}
use Rattle.std.proofs.lemmas.Nat.Gcd.{le_of_dvd}
use Rattle.std.proofs.lemmas.List.Elements.{All-nil, All-cons, All-head, All-tail}
use Rattle.gj_frac.specs.declared.Frac.{Frac}
use Rattle.gj_frac.specs.Fraction.{denominator}
use Rattle.gj_lemmas.proofs.Divisors.{gcd_positive, lcm_from_gcd, lcm_positive}
use Rattle.gj_shape.proofs.LeastDenominator.{Divides}
use Rattle.gj_proof.specs.Rules.{IsCoordinate}
use Rattle.gj_check.specs.Coordinates.{HasFineMultiple, AreCoordinates}

-- the least common multiple is the one to test
pub fine_product : (a b g : ℕ) → 0 < a → 0 < b → IsGcd a b g →
    (a / g * b ≤ 2 ^ 62) ↔ HasFineMultiple a b
fine_product a b g a_some b_some h =
    let some = gcd_positive a b g h (inl a_some) in
    let lcm = lcm_from_gcd a b g (a / g) h (sym (div-mul_cancel g h.0)) some in (
      λ fine. record {
        multiple = a / g * b;
        some = lcm_positive a b (a / g * b) lcm a_some b_some;
        fine = fine;
        first = lcm.0;
        second = lcm.1;
      },
      λ k.
          let within = le_of_dvd k.some (lcm.2 k.multiple k.first k.second) in
          let fine = k.fine in
          omega arith,
    )

-- one coordinate, whose denominator has a multiple with 1
pub one_coordinate : (x : Frac) →
    (IsCoordinate x × HasFineMultiple (unsigned_abs (denominator x)) 1)
    ↔ AreCoordinates (x ∷ [])
one_coordinate x = (
  λ h. record {
    each = All-cons IsCoordinate x [] h.0 (All-nil IsCoordinate);
    common =
        let d = h.1.multiple in
        (d, h.1.some, h.1.fine, All-cons (Divides d) x [] h.1.first (All-nil (Divides d)));
  },
  λ h.
      let d = h.common.0 in (
        All-head IsCoordinate x [] h.each,
        record {
          multiple = d;
          some = h.common.1;
          fine = h.common.2;
          first = All-head (Divides d) x [] h.common.3;
          second = one-dvd d;
        },
      ),
)

-- two coordinates
pub two_coordinates : (x y : Frac) →
    (IsCoordinate x × IsCoordinate y × HasFineMultiple (unsigned_abs (denominator x))
    (unsigned_abs (denominator y)))
    ↔ AreCoordinates (x ∷ y ∷ [])
two_coordinates x y = (
  λ h. record {
    each = All-cons IsCoordinate x (y ∷ []) h.0
        (All-cons IsCoordinate y [] h.1 (All-nil IsCoordinate));
    common =
        let d = h.2.multiple in (
          d,
          h.2.some,
          h.2.fine,
          All-cons (Divides d) x (y ∷ []) h.2.first
              (All-cons (Divides d) y [] h.2.second (All-nil (Divides d))),
        );
  },
  λ h.
      let d = h.common.0 in (
        All-head IsCoordinate x (y ∷ []) h.each,
        All-head IsCoordinate y [] (All-tail IsCoordinate x (y ∷ []) h.each),
        record {
          multiple = d;
          some = h.common.1;
          fine = h.common.2;
          first = All-head (Divides d) x (y ∷ []) h.common.3;
          second = All-head (Divides d) y [] (All-tail (Divides d) x (y ∷ []) h.common.3);
        },
      ),
)

-- the same if the denominators were read
pub one_read : (x : Frac) (d : ℕ) → d ≡ unsigned_abs (denominator x) →
    (IsCoordinate x × HasFineMultiple d 1) ↔ AreCoordinates (x ∷ [])
one_read x d e = rw e (one_coordinate x)

pub two_read : (x y : Frac) (d e : ℕ) → IsCoordinate x → IsCoordinate y →
    d ≡ unsigned_abs (denominator x) →
    e ≡ unsigned_abs (denominator y) → HasFineMultiple d e ↔ AreCoordinates (x ∷ y ∷ [])
two_read x y d e x_is y_is d_is e_is =
    let both = two_coordinates x y in
    rw (d_is, e_is) (λ h. both.0 (x_is, y_is, h), λ h. (both.1 h).2)
