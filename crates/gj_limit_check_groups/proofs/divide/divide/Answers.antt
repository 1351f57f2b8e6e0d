use Rattle.std.proofs.Common.{◌≡◌, ℕ, ◌<◌, ◌^◌, ℤ, pos, List, map, to_z, sym, ap, subst, ◌∙◌, arith}
use Rattle.std.specs.Prelude.{All}
use Rattle.std.specs.Int.{◌∣◌}
use Rattle.std.proofs.lemmas.Int.{ints}
use Rattle.std.proofs.lemmas.Nat.Gcd.{dvd_refl}
use mir.Syntax.{w128}
use Rattle.gj_frac.specs.Fraction.{Fits}
use Rattle.gj_shape.specs.Elimination.{gcd_of_row, divided}
use Rattle.gj_theory.proofs.DividedRows.{divided_small, divided_large}
use Rattle.gj_theory.proofs.RowGcds.{gcd_of_row_small}
use Rattle.gj_theory.proofs.WideNumbers.{fits_natural, read_natural}
use Rattle.gj_sparse_elim.specs.declared.entry.Entry.{Entry}
use Rattle.gj_sparse_elim.specs.Sparse.{dense, AreSparse}
use Rattle.gj_limit_check_groups.specs.declared.change.Change.TheVariants.{Divide}
use Rattle.gj_limit_check_groups.specs.Changes.{CanChange, changed_entry}
use Rattle.gj_limit_check_groups.proofs.ChangedRows.{factors, all_factors, changed_row, gcd_of_dense, all_divided, all_quotients, divided_nothing}
use Rattle.gj_limit_check_groups.proofs.divide.divide.Goals as goal

-- the divisor is small
small : (row : List Entry) (d : ℕ) → All (λ e. Fits e.factor) row → d ≡ gcd_of_row (factors row) →
    d < 2 ^ 127
small row d fits is = subst (λ (n : ℕ). n < 2 ^ 127) (sym is)
    (gcd_of_row_small (factors row) (all_factors Fits row fits))

pub overflow_cast-divisor : goal.overflow_cast-divisor
overflow_cast-divisor c =
    fits_natural c.divisor_of-divisor.result
    (small c.args.row.now c.divisor_of-divisor.result c.requires c.divisor_of-divisor.ensures)

can_divide : (row : List Entry) (d : ℕ) → All (λ e. Fits e.factor) row →
    d ≡ gcd_of_row (factors row) → 1 < d →
    All (λ e. CanChange (Divide (to_z w128 d)) e.factor) row
can_divide row d fits is large =
    subst (λ (z : ℤ). All (λ e. CanChange (Divide z) e.factor) row)
    (sym (read_natural d (small row d fits is)))
    (all_divided d row (subst (λ (n : ℕ). n ∣ gcd_of_row (factors row)) (sym is)
    (dvd_refl (gcd_of_row (factors row))))
    (omega arith) fits)

pub change_all-requires : goal.change_all-requires
change_all-requires c =
    can_divide c.args.row.now c.divisor_of-divisor.result c.requires c.divisor_of-divisor.ensures
    c.if-divisor-gt1.true

-- the row by its divisor
record IsDivided (n : ℕ) (row after : List Entry) : Type 0 where
  pub sparse : AreSparse n after
  pub value : dense n after ≡ divided (dense n row)

is_divided : (n : ℕ) (row after : List Entry) (d : ℕ) → AreSparse n row →
    All (λ e. Fits e.factor) row →
    d ≡ gcd_of_row (factors row) → 1 < d → after ≡ map (changed_entry (Divide (to_z w128 d))) row →
    IsDivided n row after
is_divided n row after d sparse fits is large after_is =
    let read = read_natural d (small row d fits is) in
    let by : after ≡ map (changed_entry (Divide (pos d))) row =
    after_is ∙ ap (λ z. map (changed_entry (Divide z)) row) read in
    let all = subst (λ (z : ℤ). All (λ e. CanChange (Divide z) e.factor) row) read
    (can_divide row d fits is large) in
    let (made, whole) = changed_row (Divide (pos d)) n row
    (divided_nothing (pos d) (omega (arith, ints))) sparse all in
    record {
      sparse = subst (AreSparse n) (sym by) made;
      value = divided_large (dense n row) (dense n after) d (is ∙ sym (gcd_of_dense n row sparse))
          large
          (ap (dense n) by ∙ whole);
    }

pub returns-then-divisor-gt1-clause-sparse : goal.returns-then-divisor-gt1-clause-sparse
returns-then-divisor-gt1-clause-sparse c n sparse =
    (is_divided n c.args.row.now c.change_all.new.row c.divisor_of-divisor.result sparse c.requires
    c.divisor_of-divisor.ensures c.if-divisor-gt1.true c.change_all.ensures).sparse

pub returns-then-divisor-gt1-clause-value : goal.returns-then-divisor-gt1-clause-value
returns-then-divisor-gt1-clause-value c n sparse =
    (is_divided n c.args.row.now c.change_all.new.row c.divisor_of-divisor.result sparse c.requires
    c.divisor_of-divisor.ensures c.if-divisor-gt1.true c.change_all.ensures).value

pub returns-else-divisor-gt1-clause-value : goal.returns-else-divisor-gt1-clause-value
returns-else-divisor-gt1-clause-value c n sparse =
    divided_small (dense n c.args.row.now) c.divisor_of-divisor.result
    (c.divisor_of-divisor.ensures ∙ sym (gcd_of_dense n c.args.row.now sparse))
    c.if-divisor-gt1.false

pub returns-then-divisor-gt1-clause-fits : goal.returns-then-divisor-gt1-clause-fits
returns-then-divisor-gt1-clause-fits c =
    let row = c.args.row.now in
    let d = c.divisor_of-divisor.result in
    subst (λ (xs : List Entry). All (λ e. Fits e.factor) xs) (sym c.change_all.ensures)
    (all_quotients (to_z w128 d) row
    (can_divide row d c.requires c.divisor_of-divisor.ensures c.if-divisor-gt1.true))
