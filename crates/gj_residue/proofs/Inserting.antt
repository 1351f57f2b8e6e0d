-- What a basis of residues keeps behind an insertion.
use Rattle.std.proofs.Common.{◌≡◌, ◌≢◌, ℕ, ◌<◌, Bool, true, false, if◌then◌else◌, Option, None, Some, ℤ, pos, List, [], ◌∷◌, length, map, get_or, refl, sym, ap, subst, ◌∙◌, arith}
use Rattle.std.specs.List.{range_with_len, position}
use Rattle.std.specs.Ordering.{int_eq}
use Rattle.std.proofs.lemmas.Int.{ints}
use Rattle.std.proofs.lemmas.List.{length-map, get_or-map}
use Rattle.gj_shape.specs.Elimination.{KeptRow, at_column, insertion_by, inserted_by, inserted_at_by, row_with_pivot, Passes}
use Rattle.gj_shape.specs.Residues.{residues, modulo, SolvesModulo}
use Rattle.gj_theory.specs.Modulus.{modulus}
use Rattle.gj_theory.specs.TriangularResidues.{AreTriangularResidues, SolvesKeptModulo}
use Rattle.gj_theory.proofs.Passing.{none_passes}
use Rattle.gj_theory.proofs.Insertions.{inserted_leaves}
use Rattle.gj_theory.proofs.ResidueSteps.{modulo_sound}
use Rattle.gj_theory.proofs.Triangular.{kept_row_at}
use Rattle.gj_elim.specs.Data.{BasisData}
use Rattle.gj_elim.specs.KeptRows.{log_row}
use Rattle.gj_elim.specs.declared.log.LogRow.{LogRow}
use Rattle.gj_elim.proofs.Keeping.{AreBehind, log_of_kept, length-kept_rows}
use Rattle.gj_elim.proofs.Places.{has, IsRowAt, place_found, place_none, row_read}
use Rattle.gj_residue.specs.Rows.{numbers_of, kept_residues, AreKeptResidues}
use Rattle.gj_residue.specs.declared.kept.KeptResidues.{KeptResidues}
use Rattle.gj_residue.proofs.EachEntry.{at_numbers, length-numbers}

-- ---- entries that are 0, and those that are not

pub some_number : (row : List ℕ) (c : ℕ) → get_or row c 0 ≢ 0 → at_column (numbers_of row) c ≢ pos 0
some_number row c some e = let same = at_numbers row c in some (omega (arith, ints))

pub zero_number : (row : List ℕ) (c : ℕ) → get_or row c 0 ≡ 0 → at_column (numbers_of row) c ≡ pos 0
zero_number row c zero = at_numbers row c ∙ ap pos zero

-- ---- the kept rows

pub lines_too : (log : List LogRow) (rows : List (List ℕ)) → length log ≡ length rows →
    length log ≡ length (map numbers_of rows)
lines_too log rows e = e ∙ sym (length-map rows numbers_of)

pub log_of_residues : (n : ℕ) (k : KeptResidues) → AreKeptResidues n k →
    k.log.items ≡ map log_row (kept_residues k)
log_of_residues n k h =
    log_of_kept k.log.items (map numbers_of k.rows.items)
    (lines_too k.log.items k.rows.items h.lines)

pub length-kept_residues : (n : ℕ) (k : KeptResidues) → AreKeptResidues n k →
    length (kept_residues k) ≡ length k.log.items
length-kept_residues n k h =
    length-kept_rows k.log.items (map numbers_of k.rows.items)
    (lines_too k.log.items k.rows.items h.lines)

-- a kept row with its pivot at the column
pub record IsRowRead (n : ℕ) (k : KeptResidues) (c : ℕ) (e : List ℕ) : Type 0 where
  pub here : IsRowAt (kept_residues k) c (numbers_of e)
  pub columns : length e ≡ n

kept_there : (n : ℕ) (k : KeptResidues) (c i : ℕ) (log : List LogRow) → AreKeptResidues n k →
    log ≡ k.log.items → Some i ≡ position (has c) log →
    (i < length k.rows.items)
    × IsRowAt (kept_residues k) c (get_or (map numbers_of k.rows.items) i [])
kept_there n k c i log h log_is place =
    let (inside, row) =
    place_found k.log.items (map numbers_of k.rows.items) c i
    (lines_too k.log.items k.rows.items h.lines)
    (place ∙ ap (λ ls. position (has c) ls) log_is) in
    (subst (λ m. i < m) h.lines inside, row)

pub kept_row_read : (n : ℕ) (k : KeptResidues) (c i : ℕ) (log : List LogRow) (y e : List ℕ) →
    AreKeptResidues n k → log ≡ k.log.items → Some i ≡ position (has c) log →
    y ≡ get_or k.rows.items i y → e ≡ y → IsRowRead n k c e
kept_row_read n k c i log y e h log_is place y_is e_is =
    let (inside, (row, found, entries)) = kept_there n k c i log h log_is place in
    let is : row.entries ≡ numbers_of e =
    entries ∙ get_or-map numbers_of k.rows.items i [] [] inside
    ∙ ap numbers_of (sym (row_read k.rows.items i y e inside y_is e_is)) in record {
      here = (row, found, is);
      columns = sym (length-numbers e) ∙ ap length (sym is)
          ∙ (kept_row_at n (kept_residues k) c row h.triangular found).0.columns;
    }

pub none_there : (n : ℕ) (k : KeptResidues) (c : ℕ) (log : List LogRow) → AreKeptResidues n k →
    log ≡ k.log.items → None ≡ position (has c) log → row_with_pivot (kept_residues k) c ≡ None
none_there n k c log h log_is none =
    place_none k.log.items (map numbers_of k.rows.items) c
    (lines_too k.log.items k.rows.items h.lines)
    (none ∙ ap (λ ls. position (has c) ls) log_is)

-- ---- what follows from an insertion

pub triangular_from_modulo : (b : BasisData) (row : List ℤ) (kept : List KeptRow) → 0 < modulus →
    AreTriangularResidues b.columns b.kept → length row ≡ b.columns →
    AreBehind (modulo modulus) b row kept →
    AreTriangularResidues b.columns kept
triangular_from_modulo b row kept some h columns is =
    subst (AreTriangularResidues b.columns) (sym is.kept_is)
    ((inserted_leaves (modulo_sound modulus some) b.columns b.kept row h columns).triangular
    b.inserted
    (inserted_by (modulo modulus) b.columns b.kept row).reduce)

pub solved_from_modulo : (b d : BasisData) (row w : List ℤ) (kept : List KeptRow) → 0 < modulus →
    b ≡ d →
    AreTriangularResidues b.columns b.kept → length row ≡ b.columns →
    AreBehind (modulo modulus) b row kept →
    SolvesKeptModulo modulus w d.kept → SolvesModulo modulus w row → SolvesKeptModulo modulus w kept
solved_from_modulo b d row w kept some same h columns is all solved =
    let left = inserted_leaves (modulo_sound modulus some) b.columns b.kept row h columns in
    let behind = left.solutions b.inserted
    (inserted_by (modulo modulus) b.columns b.kept row).reduce w in
    subst (SolvesKeptModulo modulus w) (sym is.kept_is)
    (behind.onward (
      subst (λ (x : BasisData). SolvesKeptModulo modulus w x.kept)
          (sym same) all,
      solved,
    ))

-- ---- no number is marked

marks_at : (kept : List KeptRow) (columns : List ℕ) (c : ℕ) (row : List ℤ) →
    ((next : List ℤ) → (insertion_by (modulo modulus) kept columns next).marked ≡ []) →
    (o : Option KeptRow) →
    (inserted_at_by (modulo modulus) o c row (insertion_by (modulo modulus) kept columns)).marked
    ≡ []
unfolding inserted_at_by
marks_at kept columns c row later None = refl
marks_at kept columns c row later (Some k) = later ((modulo modulus).step k.entries row c)

pub no_marks : (kept : List KeptRow) (columns : List ℕ) (row : List ℤ) →
    (insertion_by (modulo modulus) kept columns row).marked ≡ []
unfolding insertion_by
no_marks kept [] row = refl
no_marks kept (c ∷ columns) row =
    by_test (int_eq (at_column row c) (pos 0)) (no_marks kept columns row)
    (marks_at kept columns c row (no_marks kept columns) (row_with_pivot kept c))
  where
    by_test : (b : Bool) → (insertion_by (modulo modulus) kept columns row).marked ≡ [] →
        (inserted_at_by (modulo modulus) (row_with_pivot kept c) c row
        (insertion_by (modulo modulus) kept columns)).marked ≡ [] →
        (if b then insertion_by (modulo modulus) kept columns row
        else inserted_at_by (modulo modulus) (row_with_pivot kept c) c row
        (insertion_by (modulo modulus) kept columns)).marked ≡ []
    by_test true first second = first
    by_test false first second = second

pub nothing_passes : (n : ℕ) (kept : List KeptRow) (row : List ℤ) →
    Passes (inserted_by (modulo modulus) n kept row).marked → ⊥
nothing_passes n kept row p =
    none_passes (subst Passes (no_marks kept (range_with_len 0 n) (residues modulus row)) p)
