-- What the readers of lines find (own).
use Rattle.gj_derivation_text.specs.StepLines.{StepLine, by, upper, times, claim, term}
use Rattle.gj_derivation_text.specs.declared.lines.Line.{Line}
use Rattle.gj_derivation_text.specs.declared.lines.Line.TheVariants.{By, Upper, Times, Claim, Term}

-- what the line tells
abbrev pub line_told : Line → StepLine
line_told (By name value) = by name.now value
line_told (Upper name) = upper name.now
line_told (Times factor) = times factor
line_told (Claim word) = claim word.now
line_told (Term name value) = term name.now value
