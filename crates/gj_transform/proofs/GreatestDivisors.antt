-- The greatest common divisor of a number and the entries of a list, one entry after the other.
use Rattle.std.proofs.Common.{ℕ, ◌+◌, ◌<◌, ℤ, pos, List, [], ◌∷◌, length, get_or, take, unsigned_abs, sym, subst}
use Rattle.std.specs.Int.{IsGcd, ◌∣◌}
use Rattle.std.proofs.lemmas.List.{take_more}
use Rattle.std.proofs.lemmas.List.Elements.{All-push, All-head}
use Rattle.std.proofs.lemmas.Nat.Gcd.{dvd_trans}
use Rattle.gj_lemmas.proofs.Lists.{All-front, All-back}
use Rattle.gj_transform.specs.GreatestDivisor.{IsGreatestDivisor}

-- one more entry
pub divisor_next : (number : ℕ) (xs : List ℤ) (i d g : ℕ) → i < length xs →
    IsGreatestDivisor number (take i xs) d →
    IsGcd d (unsigned_abs (get_or xs i (pos 0))) g → IsGreatestDivisor number (take (i + 1) xs) g
divisor_next number xs i d g inside h is =
    let x = get_or xs i (pos 0) in
    let P : ℕ → ℤ → Type 0 = λ e n. e ∣ unsigned_abs n in
    subst (λ ys. IsGreatestDivisor number ys g) (sym (take_more xs i (pos 0) inside)) (record {
      number_is = dvd_trans _ is.0 h.number_is;
      entries_are = All-push (P g) (take i xs) x (λ k e l. dvd_trans _ is.0 (h.entries_are k e l))
          is.1;
      greatest = λ e number_is all.
          is.2 e (h.greatest e number_is (All-front (P e) (take i xs) (x ∷ []) all))
          (All-head (P e) x [] (All-back (P e) (take i xs) (x ∷ []) all));
    })
