-- The lines that are written if no input is answered (own).
use Rattle.std.specs.Prelude.{ℕ, List, ◌++◌, codes, decimal}
use Rattle.gj_lex.specs.Reason.{reason_word}
use Rattle.gj_lex.specs.declared.reason.Reason.{Reason}
use Rattle.gj_function_lines.specs.FunctionLines.{line}

-- the words are refused, the source failed, the input is longer than the limit
abbrev pub words_line : List ℕ
words_line = line (codes "words refused")

abbrev pub fault_line : List ℕ
fault_line = line (codes "read fault")

abbrev pub long_line : List ℕ
long_line = line (codes "refused long")

-- the line that refuses an input for its n-th line
abbrev pub refused_line : ℕ → Reason → List ℕ
refused_line n reason = line (codes "refused line " ++ decimal n ++ codes " " ++ reason_word reason)
