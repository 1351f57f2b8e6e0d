-- The halves of a perturbation as lists.
use Rattle.std.proofs.Common.{◌≡◌, ◌≢◌, ℕ, ◌+◌, ◌*◌, ◌%◌, ◌<◌, ℤ, pos, map, length, refl, sym, ap, ◌∙◌, mul-pos, arith}
use Rattle.std.specs.List.{range_with_len}
use Rattle.std.proofs.Math.Nat.{mod-lt, mod-mod}
use Rattle.std.proofs.lemmas.Int.{ints}
use Rattle.std.proofs.lemmas.List.FromFn.{get_or-map-range_with_len, length-map-range_with_len}
use Rattle.gj_lemmas.proofs.Quotients.{same_at_remainder}
use Rattle.gj_shape.specs.FunctionData.{FunctionData, IsWithinBounds, at}
use Rattle.gj_shape.specs.Perturbation.{AreHalvesOf}
use Rattle.gj_shape.specs.Table.{table, IsMinimal}
use Rattle.gj_shape.specs.declared.extremality.Halves.{Halves}
use Rattle.gj_shape.proofs.AtLemmas.{at_below, at_wrapped}
use Rattle.gj_theory.specs.Halves.{IsPerturbation, IsBelowSlacks, raised, lowered, AreDifferentHalves}
use Rattle.gj_theory.proofs.PerturbedTables.{halves_of_perturbation}
use Rattle.gj_theory.proofs.Continuous.{same_minimal_table}

-- the list of the entries over one period has the entries of a table
pub at_made : (g : ℕ → ℤ) (n : ℕ) → 0 < n → ((i : ℕ) → g (i + n) ≡ g i) → (i : ℕ) →
    at (map g (range_with_len 0 n)) i ≡ g i
at_made g n some period i =
    let xs = map g (range_with_len 0 n) in
    let len : length xs ≡ n = length-map-range_with_len g 0 n in
    let below : i % n < n = mod-lt i some in
    sym (at_wrapped xs i (i % n) n len refl) ∙ at_below xs (i % n) (omega arith)
    ∙ get_or-map-range_with_len g 0 n (i % n) (i % n) (pos 0) below (omega arith)
    ∙ same_at_remainder g n period (i % n) i (mod-mod i n)

-- halves may be replaced by tables with the same entries
pub same_halves : (t a b a' b' : ℕ → ℤ) (n k s c : ℕ) → ((i : ℕ) → a' i ≡ a i) →
    ((i : ℕ) → b' i ≡ b i) →
    AreDifferentHalves t n k s c a b → AreDifferentHalves t n k s c a' b'
same_halves t a b a' b' n k s c e g h = record {
  factor = h.factor;
  first = same_minimal_table a a' n k (c * s) e h.first;
  second = same_minimal_table b b' n k (c * s) g h.second;
  average = λ i. rw (e i, g i) (h.average i);
  index = h.index;
  different = λ same. h.different (sym (e h.index) ∙ same ∙ g h.index);
}

pub lists_are_halves : (f : FunctionData) (m : ℕ) (p : ℕ → ℤ) (h : Halves) (i : ℕ) →
    IsWithinBounds f → IsMinimal f →
    0 < m → IsPerturbation (table f m) (f.order * m) (f.place * m) p → p i ≢ pos 0 →
    (halves : AreHalvesOf f m p h) →
    AreDifferentHalves (table f m) (f.order * m) (f.place * m) (f.scale * m) (3 * halves.p)
    (at h.first) (at h.second)
lists_are_halves f m p h i l minimal some d p_some halves =
    let t = table f m in
    let n = f.order * m in
    let n_some : 0 < n = mul-pos (omega arith) some in
    let slacks : IsBelowSlacks t halves.u =
    record {
      positive = let above = halves.least_slack.positive in omega (arith, ints);
      below = halves.least_slack.least;
    } in
    let made =
    halves_of_perturbation t p n (f.place * m) (f.scale * m) halves.u halves.p i n_some
    (minimal m some) d slacks
    halves.greatest_size.greatest p_some in
    same_halves t (raised t p halves.u halves.p) (lowered t p halves.u halves.p) (at h.first)
    (at h.second) n (f.place * m)
    (f.scale * m) (3 * halves.p)
    (λ j. ap (λ xs. at xs j) halves.first
    ∙ at_made (raised t p halves.u halves.p) n n_some made.first.has_period j)
    (λ j. ap (λ xs. at xs j) halves.second
    ∙ at_made (lowered t p halves.u halves.p) n n_some made.second.has_period j)
    made
