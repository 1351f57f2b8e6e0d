-- Counts packed into one number: digits are added and compared by it.
use Rattle.std.proofs.Common.{◌≡◌, ℕ, ◌+◌, ◌*◌, ◌<◌, ◌≤◌, ◌^◌, zero, suc, List, [], ◌∷◌, length, map, refl, ap₂, cond, eqb, arith}
use Rattle.std.specs.Prelude.{All}
use Rattle.std.specs.List.{range_with_len}
use Rattle.gj_system.specs.Codes.{packed}

-- three digits leave room for a fourth
pub packed_room : (xs : List ℕ) → length xs ≤ 3 → All (λ x. x < 2 ^ 16) xs → packed xs < 2 ^ 48
packed_room [] few digits = omega arith
packed_room (x ∷ []) few digits = let d : x < 2 ^ 16 = digits 0 0 (omega arith) in omega arith
packed_room (x ∷ y ∷ []) few digits =
    let d : x < 2 ^ 16 = digits 0 0 (omega arith) in
    let e : y < 2 ^ 16 = digits 1 0 (omega arith) in
    omega arith
packed_room (x ∷ y ∷ z ∷ []) few digits =
    let d : x < 2 ^ 16 = digits 0 0 (omega arith) in
    let e : y < 2 ^ 16 = digits 1 0 (omega arith) in
    let g : z < 2 ^ 16 = digits 2 0 (omega arith) in
    omega arith
packed_room (x ∷ y ∷ z ∷ w ∷ ws) few digits = absurd (omega (arith, few))

-- four digits fit
pub packed_four : (xs : List ℕ) → length xs ≤ 4 → All (λ x. x < 2 ^ 16) xs → packed xs < 2 ^ 64
packed_four [] few digits = omega arith
packed_four (x ∷ xs) few digits =
    let first : x < 2 ^ 16 = digits 0 0 (omega arith) in
    let room = packed_room xs (omega (arith, few)) (λ i d below. digits (suc i) d (omega arith)) in
    omega arith

-- the code of sums is the sum of the codes
pub packed_sum : (f g : ℕ → ℕ) (cs : List ℕ) →
    packed (map f cs) + packed (map g cs) ≡ packed (map (λ c. f c + g c) cs)
packed_sum f g [] = refl
packed_sum f g (c ∷ cs) = let rest = packed_sum f g cs in omega arith

-- the first digit is the rest, and the others are the quotient
digit_same : (x y m n : ℕ) → x < 2 ^ 16 → y < 2 ^ 16 → x + 2 ^ 16 * m ≡ y + 2 ^ 16 * n →
    (x ≡ y) × (m ≡ n)
digit_same x y m n small bounded same = (omega arith, omega arith)

-- codes are the same only if all digits are
pub same_digits : (f g : ℕ → ℕ) (cs : List ℕ) → ((c : ℕ) → f c < 2 ^ 16) →
    ((c : ℕ) → g c < 2 ^ 16) →
    packed (map f cs) ≡ packed (map g cs) → map f cs ≡ map g cs
same_digits f g [] small bounded same = refl
same_digits f g (c ∷ cs) small bounded same =
    let parts = digit_same (f c) (g c) (packed (map f cs)) (packed (map g cs)) (small c)
    (bounded c) same in
    ap₂ (λ x xs. x ∷ xs) parts.0 (same_digits f g cs small bounded parts.1)

-- a one in one column of a few
pub packed_one : (n x : ℕ) → n ≤ 4 → x < n →
    packed (map (λ c. cond (eqb x c) 1 0) (range_with_len 0 n)) ≡ 2 ^ (16 * x)
packed_one zero x few below = absurd (omega arith)
packed_one (suc zero) zero few below = refl
packed_one (suc (suc zero)) zero few below = refl
packed_one (suc (suc zero)) (suc zero) few below = refl
packed_one (suc (suc (suc zero))) zero few below = refl
packed_one (suc (suc (suc zero))) (suc zero) few below = refl
packed_one (suc (suc (suc zero))) (suc (suc zero)) few below = refl
packed_one (suc (suc (suc (suc zero)))) zero few below = refl
packed_one (suc (suc (suc (suc zero)))) (suc zero) few below = refl
packed_one (suc (suc (suc (suc zero)))) (suc (suc zero)) few below = refl
packed_one (suc (suc (suc (suc zero)))) (suc (suc (suc zero))) few below = refl
packed_one (suc zero) (suc x) few below = absurd (omega arith)
packed_one (suc (suc zero)) (suc (suc x)) few below = absurd (omega arith)
packed_one (suc (suc (suc zero))) (suc (suc (suc x))) few below = absurd (omega arith)
packed_one (suc (suc (suc (suc zero)))) (suc (suc (suc (suc x)))) few below = absurd (omega arith)
packed_one (suc (suc (suc (suc (suc n))))) x few below = absurd (omega arith)
