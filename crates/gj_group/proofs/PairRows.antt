-- The rows of tight pairs, from a pair on.
use Rattle.std.proofs.Common.{◌≡◌, ℕ, ◌+◌, ◌<◌, ◌≤◌, ℤ, true, false, [], ◌∷◌, ◌++◌, map, flat_map, refl, ap, ◌∙◌}
use Rattle.std.specs.Prelude.{filter}
use Rattle.gj_lemmas.proofs.Lists.{range_step, range_end}
use Rattle.gj_group.specs.GroupRows.{sum_row, sum_rows_with, is_tight_pair}
use Rattle.gj_group.specs.RowsToCome.{tight_in_row, rows_from, pair_rows}

-- ---- the pairs with one a

pub tight_found : (t : ℕ → ℤ) (n a b : ℕ) → b < n → is_tight_pair t a b ≡ true →
    tight_in_row t n a b ≡ b ∷ tight_in_row t n a (b + 1)
tight_found t n a b below is = ap (filter (is_tight_pair t a)) (range_step b n below) ∙ rw is refl

pub tight_passed : (t : ℕ → ℤ) (n a b : ℕ) → b < n → is_tight_pair t a b ≡ false →
    tight_in_row t n a b ≡ tight_in_row t n a (b + 1)
tight_passed t n a b below is = ap (filter (is_tight_pair t a)) (range_step b n below) ∙ rw is refl

pub tight_end : (t : ℕ → ℤ) (n a b : ℕ) → n ≤ b → tight_in_row t n a b ≡ []
tight_end t n a b past = ap (filter (is_tight_pair t a)) (range_end b n past)

-- ---- all pairs

pub pairs_begin : (t : ℕ → ℤ) (n a : ℕ) → a < n → rows_from t n a ≡ pair_rows t n a a
pairs_begin t n a below = ap (flat_map (sum_rows_with t n)) (range_step a n below)

pub pairs_end : (t : ℕ → ℤ) (n a : ℕ) → n ≤ a → rows_from t n a ≡ []
pairs_end t n a past = ap (flat_map (sum_rows_with t n)) (range_end a n past)

pub pair_found : (t : ℕ → ℤ) (n a from b : ℕ) →
    tight_in_row t n a from ≡ b ∷ tight_in_row t n a (b + 1) →
    pair_rows t n a from ≡ sum_row n a b ∷ pair_rows t n a (b + 1)
pair_found t n a from b is = ap (λ bs. map (sum_row n a) bs ++ rows_from t n (a + 1)) is

pub no_pair : (t : ℕ → ℤ) (n a from : ℕ) → tight_in_row t n a from ≡ [] →
    pair_rows t n a from ≡ rows_from t n (a + 1)
no_pair t n a from is = ap (λ bs. map (sum_row n a) bs ++ rows_from t n (a + 1)) is
