-- The elimination of all rows over residues: what it leaves of whole numbers.
use Rattle.std.proofs.Common.{◌≡◌, ℕ, ◌<◌, ℤ, pos, ◌-ℤ◌, ◌*ℤ◌, List, [], ◌∷◌, length, ap, arith}
use Rattle.std.specs.Prelude.{All}
use Rattle.std.proofs.lemmas.List.Elements.{All-nil, All-cons, All-head, All-tail}
use Rattle.gj_shape.specs.Elimination.{KeptRow, elimination_by}
use Rattle.gj_shape.specs.Residues.{modulo, SolvesModulo}
use Rattle.gj_theory.specs.TriangularRows.{Solves}
use Rattle.gj_theory.specs.TriangularResidues.{SolvesKeptModulo, AreTriangularResidues}
use Rattle.gj_theory.proofs.Eliminations.{elimination_has}
use Rattle.gj_theory.proofs.Modulo.{zero_is, zero_none}
use Rattle.gj_theory.proofs.ResiduePivots.{modulo_cancels, only_zero_by_descent}
use Rattle.gj_theory.proofs.ResidueSteps.{modulo_sound}
use Rattle.gj_theory.proofs.Triangular.{full_leaves_zero}

pub elimination_modulo_solved : (m n : ℕ) (rows : List (List ℤ)) (w : List ℤ) → 0 < m →
    All (λ row. length row ≡ n) rows →
    All (SolvesModulo m w) rows → SolvesKeptModulo m w (elimination_by (modulo m) n rows).kept
elimination_modulo_solved m n rows w some columns solved =
    ((elimination_has (modulo_sound m some) n rows columns).same w).onward
    (All-nil (λ k. SolvesModulo m w k.entries), solved)

pub to_modulo : (m : ℕ) (w : List ℤ) (rows : List (List ℤ)) → All (Solves w) rows →
    All (SolvesModulo m w) rows
to_modulo m w [] all = All-nil (SolvesModulo m w)
to_modulo m w (row ∷ rows) all =
    All-cons (SolvesModulo m w) row rows
    (zero_is m _ (pos 0) (All-head (Solves w) row rows all) (zero_none m))
    (to_modulo m w rows (All-tail (Solves w) row rows all))

-- as many kept rows as columns, which each solution of some rows of whole numbers solves modulo m,
-- leave those rows only 0
pub kept_residues_leave_zero : (m n : ℕ) (kept : List KeptRow) (rows : List (List ℤ)) (w : List ℤ) →
    1 < m → AreTriangularResidues n kept →
    length kept ≡ n → ((v : List ℤ) → length v ≡ n → All (Solves v) rows →
    SolvesKeptModulo m v kept) →
    length w ≡ n → All (Solves w) rows → All (λ x. x ≡ pos 0) w
kept_residues_leave_zero m n kept rows w large h full solves long solved =
    only_zero_by_descent m n rows w large
    (λ v columns all.
    full_leaves_zero (modulo_cancels m) n kept v
    (λ x one. (pos 1, zero_is m _ (pos 0) (ap (λ z. pos 1 *ℤ z -ℤ pos 1) one) (zero_none m)))
    h full columns (solves v columns all))
    long solved

pub elimination_modulo_zero : (m n : ℕ) (rows : List (List ℤ)) (w : List ℤ) → 1 < m →
    All (λ row. length row ≡ n) rows →
    length (elimination_by (modulo m) n rows).kept ≡ n → length w ≡ n → All (Solves w) rows →
    All (λ x. x ≡ pos 0) w
elimination_modulo_zero m n rows w large columns full long solved =
    let some : 0 < m = omega arith in
    kept_residues_leave_zero m n (elimination_by (modulo m) n rows).kept rows w large
    (elimination_has (modulo_sound m some) n rows columns).triangular
    full (λ v len all. elimination_modulo_solved m n rows v some columns (to_modulo m v rows all))
    long solved
