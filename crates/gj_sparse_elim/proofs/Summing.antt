-- The products of the entries of a kept row are summed up.
use Rattle.std.proofs.Common.{◌≡◌, ℕ, ◌+◌, ◌<◌, ◌≤◌, ℤ, pos, ◌+ℤ◌, ◌-ℤ◌, ◌*ℤ◌, ◌<ℤ◌, int_div, FitsSigned, to_z, of_z, List, [], length, get_or, map, drop, unsigned_abs, sym, ap, subst, ◌∙◌, arith}
use Rattle.std.specs.List.{zip}
use Rattle.std.proofs.lemmas.Int.{ints}
use Rattle.std.proofs.lemmas.List.{drop_all}
use mir.Syntax.{w128}
use Rattle.gj_lemmas.specs.Divisors.{gcd_of}
use Rattle.gj_shape.specs.SlopeRows.{total}
use Rattle.gj_shape.specs.Elimination.{at_column, products_behind, Passes}
use Rattle.gj_frac.specs.Fraction.{Fits}
use Rattle.gj_theory.proofs.Passing.{none_passes}
use Rattle.gj_elim.proofs.Solving.{IsSummed, products_from, marked_from, summed_more, AreSolving, solving_of}
use Rattle.gj_sparse_elim.specs.declared.entry.Entry.{Entry}
use Rattle.gj_sparse_elim.specs.Sparse.{factor_at, dense}
use Rattle.gj_sparse_elim.proofs.SparseRows.{no_entry, IsAtEntry, entry_at, at_end, at_dense, length-dense, IsFirstEntry}
use Rattle.gj_sparse_elim.proofs.SparseSteps.{further}

-- the products of the entries so far are summed up
pub record IsSummedTo (row : List Entry) (w : List ℤ) (column i : ℕ) (t : ℤ) : Type 0 where
  pub from : ℕ
  pub inside : from ≤ length w
  pub at : IsAtEntry (length w) row i from
  pub summed : IsSummed (dense (length w) row) w column from t

pub summed_start : (row : List Entry) (w : List ℤ) (c : ℕ) → IsFirstEntry (length w) c row →
    c < length w → IsSummedTo row w c 1 (pos 0)
summed_start row w c first within = record {
  from = c + 1;
  inside = omega arith;
  at = first.next;
  summed = record {
    value = none_plus (total (products_behind c (dense (length w) row) w));
    fits = omega arith;
    marked = (λ p. p, λ p. p);
  };
}
  where
    none_plus : (z : ℤ) → z ≡ pos 0 +ℤ z
    none_plus z = omega (arith, ints)

-- columns without an entry
summed_on : (row : List Entry) (w : List ℤ) (column a b : ℕ) (t : ℤ) →
    IsSummed (dense (length w) row) w column a t → a ≤ b → b ≤ length w →
    ((k : ℕ) → a ≤ k → k < b → factor_at row k ≡ pos 0) →
    IsSummed (dense (length w) row) w column b t
summed_on row w column a b t h le within none =
    further (λ k. IsSummed (dense (length w) row) w column k t) a b le h
    (λ k from to so_far.
    let length_is = length-dense (length w) row in
    summed_more (dense (length w) row) w column k t (pos 0) t so_far (omega arith) length_is
    (zero_product (at_column (dense (length w) row) k) (at_column w k)
    (at_dense (length w) row k (omega arith) ∙ none k from to))
    (omega arith) (plus_none t) so_far.fits)
  where
    zero_product : (x y : ℤ) → x ≡ pos 0 → pos 0 ≡ x *ℤ y
    zero_product x y e = none_times y ∙ ap (λ z. z *ℤ y) (sym e)
      where
        none_times : (y : ℤ) → pos 0 ≡ pos 0 *ℤ y
        none_times y = omega (arith, ints)

    plus_none : (t : ℤ) → t ≡ t +ℤ pos 0
    plus_none t = omega (arith, ints)

-- up to the next entry
pub record IsSummedAt (row : List Entry) (w : List ℤ) (column i : ℕ) (e : Entry) (t : ℤ) : Type 0
  where
    pub below : e.column < length w
    pub inside : e.column < length (dense (length w) row)
    pub factor : at_column (dense (length w) row) e.column ≡ e.factor
    pub summed : IsSummed (dense (length w) row) w column e.column t
    pub next : IsAtEntry (length w) row (i + 1) (e.column + 1)

pub summed_at : (row : List Entry) (w : List ℤ) (column i : ℕ) (t : ℤ) →
    IsSummedTo row w column i t → i < length row →
    IsSummedAt row w column i (get_or row i no_entry) t
summed_at row w column i t h inside =
    let here = entry_at (length w) row i h.from h.at inside in
    let below = here.within.below in record {
      below = below;
      inside = omega (arith, length-dense (length w) row);
      factor = here.whole;
      summed = summed_on row w column h.from (get_or row i no_entry).column t h.summed
          here.within.behind (omega arith) here.zero;
      next = here.next;
    }

pub summed_next : (row : List Entry) (w : List ℤ) (column i : ℕ) (e : Entry) (t p z : ℤ) →
    IsSummedAt row w column i e t →
    p ≡ e.factor *ℤ at_column w e.column → Fits p → z ≡ t +ℤ p → Fits z →
    IsSummedTo row w column (i + 1) z
summed_next row w column i e t p z h p_is p_fits z_is z_fits = record {
  from = e.column + 1;
  inside = let below = h.below in omega arith;
  at = h.next;
  summed = summed_more (dense (length w) row) w column e.column t p z h.summed h.inside
      (length-dense (length w) row)
      (p_is ∙ ap (λ x. x *ℤ at_column w e.column) (sym h.factor)) p_fits z_is z_fits;
}

pub record IsSum (row : List Entry) (w : List ℤ) (column : ℕ) (t : ℤ) : Type 0 where
  pub value : t ≡ total (products_behind column (dense (length w) row) w)
  pub fits : Fits t
  pub narrow : Passes (marked_from (pos 0) (products_behind column (dense (length w) row) w)) → ⊥

pub summed_end : (row : List Entry) (w : List ℤ) (column i : ℕ) (t : ℤ) →
    IsSummedTo row w column i t → length row ≤ i → IsSum row w column t
summed_end row w column i t h past = record {
  value = sym (all.value ∙ ap (λ ps. t +ℤ total ps) none ∙ plus_none t);
  fits = all.fits;
  narrow = λ p. none_passes (subst (λ (ps : List ℤ). Passes (marked_from t ps)) none
      (all.marked.0 p));
}
  where
    all : IsSummed (dense (length w) row) w column (length w) t
    all =
        summed_on row w column h.from (length w) t h.summed h.inside (omega arith)
        (λ k from to. at_end (length w) row i h.from h.at past k from)

    none : products_from (length w) (dense (length w) row) w ≡ []
    none =
        ap (λ xs. map (λ p. p.0 *ℤ p.1) (zip xs (drop (length w) w)))
        (drop_all (length w) (dense (length w) row) (omega (arith, length-dense (length w) row)))

    plus_none : (t : ℤ) → t +ℤ pos 0 ≡ t
    plus_none t = omega (arith, ints)

-- the divisor by which a row is solved, with its pivot as the code has it
pub sparse_solving : (row w : List ℤ) (j : ℕ) (t d x : ℤ) → x ≡ at_column row j →
    t ≡ total (products_behind j row w) → Fits t →
    d ≡ pos (gcd_of (unsigned_abs t) (unsigned_abs x)) → pos 0 <ℤ d → FitsSigned w128 d →
    FitsSigned w128 x →
    AreSolving row w j t d
    (to_z w128 (of_z w128 (int_div (to_z w128 (of_z w128 x)) (to_z w128 (of_z w128 d)))))
    (to_z w128 (of_z w128 (pos 0 -ℤ to_z w128
    (of_z w128 (int_div (to_z w128 (of_z w128 t)) (to_z w128 (of_z w128 d)))))))
sparse_solving row w j t d x is t_is t_fits d_is some d_fits x_fits =
    subst (λ (y : ℤ). AreSolving row w j t d
    (to_z w128 (of_z w128 (int_div (to_z w128 (of_z w128 y)) (to_z w128 (of_z w128 d)))))
    (to_z w128 (of_z w128 (pos 0 -ℤ to_z w128
    (of_z w128 (int_div (to_z w128 (of_z w128 t)) (to_z w128 (of_z w128 d))))))))
    (sym is)
    (solving_of row w j t d t_is t_fits
    (d_is ∙ ap (λ y. pos (gcd_of (unsigned_abs t) (unsigned_abs y))) is) some d_fits
    (subst (FitsSigned w128) is x_fits))
