-- What the bits say of sums.
use Rattle.std.proofs.Common.{◌≡◌, ◌↔◌, ℕ, ℤ, ◌+ℤ◌, ◌<◌, List, Bool, true, get_or}

-- the bit of a place below n says whether the value there and the first number add up to the sum
abbrev pub TellsSum : {L : Type 0} → (L → ℤ) → List L → L → List L → ℕ → ℕ → Bool → Type 0
TellsSum {L} number values first sums n i t =
    (e : L) → i < n → (t ≡ true)
    ↔ (number (get_or values i e) +ℤ number first ≡ number (get_or sums i e))
