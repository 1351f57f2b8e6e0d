-- The tight pairs of a table as a relation.
use Rattle.std.proofs.Common.{◌≡◌, ℕ, ◌%◌, ◌<◌, true, sym, ap, ◌∙◌, arith}
use Rattle.std.proofs.Math.Nat.{mod-lt, mod-eq_of_lt}
use Rattle.gj_cover.specs.SetRows.{in_row, AreColumns}
use Rattle.gj_cover.specs.Table.{is_tight_in, IsTightInTable}
use Rattle.gj_cover.specs.declared.table.Table.{Table}
use Rattle.gj_cover.proofs.Parts.{HasPeriod}

-- a table does not see more of two indices than their rests
pub same_tight : (t : Table) (i j k l : ℕ) → i % t.order ≡ k % t.order → j % t.order ≡ l % t.order →
    is_tight_in t i j ≡ is_tight_in t k l
unfolding is_tight_in
same_tight t i j k l e g =
    ap (λ n. in_row t.rows.items n (j % t.order)) e
    ∙ ap (λ n. in_row t.rows.items (k % t.order) n) g

pub table_period : (t : Table) → HasPeriod t.order (IsTightInTable t)
unfolding IsTightInTable
table_period t i j k l e g h = sym (same_tight t i j k l e g) ∙ h

-- the test of indices that are their own rests
pub read_tight : (t : Table) (a b : ℕ) → a < t.order → b < t.order →
    in_row t.rows.items a b ≡ is_tight_in t a b
unfolding is_tight_in
read_tight t a b a_below b_below =
    ap (λ n. in_row t.rows.items n b) (sym (mod-eq_of_lt a_below))
    ∙ ap (in_row t.rows.items (a % t.order)) (sym (mod-eq_of_lt b_below))

-- between the test and the fact
pub tight : (t : Table) (i j : ℕ) → is_tight_in t i j ≡ true → IsTightInTable t i j
unfolding IsTightInTable
tight t i j h = h

pub told : (t : Table) (i j : ℕ) → IsTightInTable t i j → is_tight_in t i j ≡ true
unfolding IsTightInTable
told t i j h = h

-- if the pairs turned around are tight too, the test does not see the order of the two
pub symmetric_tight : (t : Table) → AreColumns t.order t.rows.items t.rows.items → (i j : ℕ) →
    is_tight_in t i j ≡ is_tight_in t j i
unfolding is_tight_in
symmetric_tight t h i j =
    let few = t.few in
    let some : 0 < t.order = omega arith in
    h (j % t.order) (i % t.order) (mod-lt j some) (mod-lt i some)
