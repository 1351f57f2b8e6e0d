-- The names in the lines of mixed cuts (own).
use Rattle.std.specs.Prelude.{All}
use Rattle.gj_lex.specs.Name.{IsName}
use Rattle.gj_proof.specs.ProofText.{HasNames}
use Rattle.gj_cut_text.specs.declared.mixed_lines.MixedLine.{MixedLine}

-- the names of the line of a row, and those of its weights, are names
abbrev pub HasMixedNames : MixedLine → Type 0
HasMixedNames m = HasNames m.line × All (λ t. IsName t.name) m.weights
