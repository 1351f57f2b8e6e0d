-- The line of a breakpoint in its one spelling is read as that breakpoint.
use Rattle.std.proofs.Common.{ℕ, List, ◌++◌, refl, sym, ap, arith}
use Rattle.gj_forms.specs.TextLines.{HasLine}
use Rattle.gj_lex.specs.declared.spelling.Spelling.TheVariants.{Lenient}
use Rattle.gj_forms.specs.LineForms.{words_of}
use Rattle.gj_forms.proofs.SpelledLines.{spells_its_thing, has_its_line}
use Rattle.gj_shape.specs.Breaks.{point_at}
use Rattle.gj_shape.specs.declared.breaks.Break.{Break}
use Rattle.gj_function_lines.specs.BreakLines.{break_form, break_at, spelled_break_rule, break_line}
use Rattle.gj_function_lines.specs.FunctionLines.{numbers_of}
use Rattle.gj_function_lines.proofs.ClearLines.{good_break, told_point}

-- the words of the line
abbrev pub words_of_break : Break → List (List ℕ)
words_of_break b = words_of (break_form.fields (b.x, numbers_of (point_at b)))

-- the line has them
pub break_is_read : (b : Break) (rest : List ℕ) →
    HasLine Lenient (break_line b ++ rest) (break_line b ++ rest) (words_of_break b) rest
break_is_read b rest =
    let n = numbers_of (point_at b) in
    has_its_line Lenient (break_form.fields (b.x, n)) (break_line b ++ rest) rest (good_break b.x n)
    (λ z. omega arith) refl

-- and they spell the breakpoint
pub break_is_spelled : (b : Break) → spelled_break_rule.Spells (words_of_break b) b
break_is_spelled b =
    let n = numbers_of (point_at b) in (
      (b.x, n),
      spells_its_thing Lenient break_form (b.x, n) (good_break b.x n) tt,
      ap (break_at b.x)
          (sym (told_point (point_at b))),
    )
