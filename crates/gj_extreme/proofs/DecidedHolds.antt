-- What the decision gives holds.
use Rattle.std.proofs.Common.{◌≡◌, ℕ, inl, inr, ◌*◌, ℤ, pos, List, length, map, sym, subst, lit<, arith}
use Rattle.std.specs.Prelude.{All}
use Rattle.std.proofs.lemmas.List.Elements.{All-nil, All-map}
use Rattle.gj_shape.specs.Additive.{IsTight}
use Rattle.gj_shape.specs.Elimination.{KeptRow}
use Rattle.gj_shape.specs.Extreme.{IsExtreme}
use Rattle.gj_shape.specs.FunctionData.{FunctionData, IsWithinBounds, IsContinuous}
use Rattle.gj_shape.specs.SlopeRows.{row_names}
use Rattle.gj_shape.specs.Table.{IsMinimal}
use Rattle.gj_shape.specs.declared.extremality.CoverLine.{CoverLine}
use Rattle.gj_theory.specs.TriangularRows.{Solves}
use Rattle.gj_theory.proofs.CoverLines.{lines_meet_rules}
use Rattle.gj_theory.proofs.Eliminations.{elimination_has}
use Rattle.gj_theory.proofs.ExtremeByCover.{extreme_by_cover}
use Rattle.gj_theory.specs.Modulus.{modulus}
use Rattle.gj_theory.proofs.ResidueElimination.{elimination_modulo_zero}
use Rattle.gj_theory.proofs.SoundArithmetic.{whole_sound}
use Rattle.gj_theory.proofs.Triangular.{zeros_of}
use Rattle.gj_theory.proofs.Violations.{first_shown}
use Rattle.gj_proof.specs.declared.claim.Claim.{Claim}
use Rattle.gj_proof.specs.declared.claim.Claim.TheVariants.{Minimal, NotMinimal, Cut, Extreme, ExtremeByResidues, NotExtreme}
use Rattle.gj_proof.specs.declared.numbers.Numbers.{Numbers}
use Rattle.gj_proof.specs.declared.numbers.Numbers.TheVariants.{Whole, Residues}
use Rattle.gj_proof.specs.declared.pivot.PivotRow.{PivotRow}
use Rattle.gj_proof.specs.Meaning.{ClaimHolds}
use Rattle.gj_proof.specs.PresentRows.{named_row}
use Rattle.gj_extreme.specs.Decision.{elimination_over, AreExtremeRows, IsDecided}
use Rattle.gj_extreme.proofs.DecidedHalves.{begun_columns, zigzag_halves, slope_halves}

-- as many kept rows as components leave only the slopes 0
only_zero : (numbers : Numbers) (f : FunctionData) (component : ℕ → ℕ) (n : ℕ) (slopes : List ℤ) →
    length (elimination_over numbers f component n).kept ≡ n → length slopes ≡ n →
    All (Solves slopes) (map (named_row f component n) (row_names f)) → All (λ x. x ≡ pos 0) slopes
only_zero Whole f component n slopes full long solve =
    let begun = map (named_row f component n) (row_names f) in
    let has = elimination_has whole_sound n begun (begun_columns f component n (row_names f)) in
    zeros_of n (elimination_over Whole f component n).kept slopes has.triangular full long
    ((has.same slopes).onward (All-nil (λ (k : KeptRow). Solves slopes k.entries), solve))
only_zero Residues f component n slopes full long solve =
    elimination_modulo_zero modulus n (map (named_row f component n) (row_names f)) slopes (lit< tt)
    (begun_columns f component n (row_names f)) full long solve

pub extreme_holds : (numbers : Numbers) (f : FunctionData) (lines : List CoverLine)
    (rows : List PivotRow) → IsWithinBounds f →
    IsMinimal f → IsContinuous f → AreExtremeRows numbers f lines rows → IsExtreme f
extreme_holds numbers f lines rows l minimal continuous h =
    let n = h.n in
    extreme_by_cover f lines h.component n l continuous minimal
    (lines_meet_rules f.order (IsTight f) lines h.covered.are_lines)
    h.covered.numbers h.covered.count
    (λ slopes long solve.
    only_zero numbers f h.component n slopes h.all long
    (All-map (Solves slopes) (named_row f h.component n) (row_names f) solve))

-- what the decision gives of a function within the limits is true
pub decided_holds : (f : FunctionData) (c : Claim) → IsWithinBounds f → IsDecided f c → ClaimHolds c
decided_holds f (Minimal g) l h = absurd h
decided_holds f (NotMinimal g v) l h =
    subst (λ (x : FunctionData). ClaimHolds (NotMinimal x v)) (sym h.0) (first_shown f v l h.1)
decided_holds f (Cut rule rows) l h = absurd h
decided_holds f (Extreme g lines rows) l h =
    subst (λ (x : FunctionData). ClaimHolds (Extreme x lines rows)) (sym h.0)
    (h.2, extreme_holds Whole f lines rows l h.1 h.2 h.3)
decided_holds f (ExtremeByResidues g lines rows) l h =
    subst (λ (x : FunctionData). ClaimHolds (ExtremeByResidues x lines rows)) (sym h.0)
    (h.2, extreme_holds Residues f lines rows l h.1 h.2 h.3)
decided_holds f (NotExtreme g halves) l (is, minimal, continuous, inl zig) =
    subst (λ (x : FunctionData). ClaimHolds (NotExtreme x halves)) (sym is) (
      continuous,
      minimal,
      (
        4,
        3 * zig.halves.p,
        omega arith,
        zig.halves.order,
        zig.halves.scale,
        zigzag_halves f
            halves l continuous minimal zig,
      ),
    )
decided_holds f (NotExtreme g halves) l (is, minimal, continuous, inr slope) =
    subst (λ (x : FunctionData). ClaimHolds (NotExtreme x halves)) (sym is) (
      continuous,
      minimal,
      (
        1,
        3 * slope.halves.p,
        omega arith,
        slope.halves.order,
        slope.halves.scale,
        slope_halves f
            halves l minimal slope,
      ),
    )
