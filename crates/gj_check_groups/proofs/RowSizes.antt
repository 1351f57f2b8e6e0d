-- A row of counts has small entries.
use Rattle.std.proofs.Common.{ℕ, ◌+◌, ◌%◌, ◌<◌, ◌≤◌, ◌^◌, arith}
use Rattle.std.specs.Prelude.{All}
use Rattle.std.specs.List.{range_with_len}
use Rattle.std.proofs.lemmas.Int.{ints}
use Rattle.std.proofs.lemmas.Nat.{mod_below}
use Rattle.std.proofs.lemmas.List.Elements.{All-map}
use Rattle.gj_lemmas.proofs.Lists.{All-range}
use Rattle.gj_shape.specs.SlopeRows.{row_entry, row_of}
use Rattle.gj_shape.specs.declared.extremality.RowName.{RowName}
use Rattle.gj_shape.specs.declared.extremality.RowName.TheVariants.{Period, F, Pair}
use Rattle.gj_frac.specs.Fraction.{Fits}
use Rattle.gj_theory.proofs.RiseCounts.{rises_at_most}
use Rattle.gj_proof.specs.ProofText.{IsRowNameBelow}

entry_fits : (f : ℕ → ℕ) (q k c : ℕ) (name : RowName) → k < q → IsRowNameBelow q name → q < 2 ^ 64 →
    Fits (row_entry f q k name c)
entry_fits f q k c Period place below small = let most = rises_at_most f q c in omega (arith, ints)
entry_fits f q k c F place below small = let most = rises_at_most f k c in omega (arith, ints)
entry_fits f q k c (Pair a b) place below small =
    let first = rises_at_most f a c in
    let second = rises_at_most f b c in
    let third = rises_at_most f ((a + b) % q) c in
    let rest = mod_below (a + b) q (omega arith) in
    let order : a ≤ b = below.1 in
    let within : b < q = below.2 in
    omega (arith, ints)

pub row_fits : (f : ℕ → ℕ) (n q k : ℕ) (name : RowName) → k < q → IsRowNameBelow q name →
    q < 2 ^ 64 → All Fits (row_of f n q k name)
row_fits f n q k name place below small =
    All-map Fits (row_entry f q k name) (range_with_len 0 n)
    (All-range (λ c. Fits (row_entry f q k name c)) 0 n
    (λ c low. entry_fits f q k c name place below small))
