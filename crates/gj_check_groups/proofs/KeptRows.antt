-- What a row is when it is kept.
use Rattle.std.proofs.Common.{◌≡◌, ℕ, ℤ, pos, ◌*ℤ◌, List, length, sym, subst, ◌∙◌}
use Rattle.std.specs.Prelude.{Option, None, Some, All}
use Rattle.std.proofs.lemmas.List.{length-map}
use Rattle.gj_frac.specs.Fraction.{Fits}
use Rattle.gj_shape.specs.Elimination.{KeptRow, at_column, scaled, kept_entries}
use Rattle.gj_shape.specs.Residues.{residue, residues, inverse, times_inverse}
use Rattle.gj_theory.specs.Modulus.{modulus}
use Rattle.gj_theory.proofs.Entries.{kept_at_pivot}
use Rattle.gj_theory.proofs.Steps.{length-kept_entries}
use Rattle.gj_proof.specs.declared.numbers.Numbers.TheVariants.{Whole, Residues}
use Rattle.gj_proof.specs.Rules.{MeetsPivot}
use Rattle.gj_check_groups.specs.KeptTable.{IsKeptAt}
use Rattle.gj_check_groups.proofs.ResidueRows.{all_residues}

pub kept_whole : (kept : List KeptRow) (row after : List ℤ) (c : ℕ) →
    MeetsPivot (length row) kept row c → after ≡ kept_entries row c →
    All Fits after → IsKeptAt Whole (length row) c after
kept_whole kept row after c meets is fits =
    let same = sym is in
    subst (λ (xs : List ℤ). IsKeptAt Whole (length row) c xs) same (record {
      columns = length-kept_entries row c;
      pivot = kept_at_pivot row c meets.not_zero;
      fits = subst (All Fits) is fits;
    })

pub kept_residues : (row after : List ℤ) (c : ℕ) →
    Some after ≡ times_inverse modulus row (inverse modulus (at_column row c)) →
    IsKeptAt Residues (length row) c after
kept_residues row after c is = by_inverse (inverse modulus (at_column row c)) is
  where
    by_inverse : (o : Option ℕ) → Some after ≡ times_inverse modulus row o →
        IsKeptAt Residues (length row) c after
    by_inverse None e = absurd cc
    by_inverse (Some w) e =
        let same : after ≡ residues modulus (scaled (pos w) row) = cc in
        subst (λ (xs : List ℤ). IsKeptAt Residues (length row) c xs) (sym same) (record {
          columns = length-map (scaled (pos w) row) (residue modulus)
              ∙ length-map row (λ x. pos w *ℤ x);
          pivot = tt;
          fits = all_residues (scaled (pos w) row);
        })
