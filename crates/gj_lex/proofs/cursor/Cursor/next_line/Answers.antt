use Rattle.std.proofs.Common.{arith}
use Rattle.gj_lex.proofs.LineEnds.{gives_line, line_parts}
use Rattle.gj_lex.proofs.cursor.Cursor.next_line.Goals as goal

pub returns-clause-line : goal.returns-clause-line
returns-clause-line c =
    gives_line _ c.self.inside.bytes.now c.self.inside.position c.self.inside.lines
    c.line_end-end.result c.min-self-inside.result
    c.self.view_is c.if-self.false (omega (arith, c.self.invariant)) c.line_end-end.ensures
    c.min-self-inside.ensures

pub returns-clause-bytes : goal.returns-clause-bytes
returns-clause-bytes c = (line_parts _ _ _ (returns-clause-line c)).0

pub returns-clause-rest : goal.returns-clause-rest
returns-clause-rest c = (line_parts _ _ _ (returns-clause-line c)).1
