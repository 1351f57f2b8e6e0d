-- The words of the first line of a row (own).
use Rattle.std.specs.Prelude.{ℕ, List, [], ◌∷◌, codes}
use Rattle.gj_proof.specs.ProofText.{reason_word}
use Rattle.gj_proof.specs.declared.cut_rows.RowKind.{RowKind}
use Rattle.gj_proof.specs.declared.cut_rows.RowKind.TheVariants.{WithCut, Skipped}

abbrev pub texts_of_head : RowKind → List ℕ → List ℕ → List (List ℕ)
texts_of_head WithCut name right = codes "cut" ∷ name ∷ right ∷ []
texts_of_head (Skipped reason) name right = codes "skip" ∷ name ∷ right ∷ reason_word reason ∷ []
