-- The lines of rows whose columns are all whole (Gomory and Johnson 1972; the form is own).
use Rattle.std.specs.Prelude.{ℕ, ◌≡◌, List, [], get_or}
use Rattle.std.specs.List.{AllZip}
use Rattle.gj_row.specs.declared.tableau.Entry.{Entry}
use Rattle.gj_row.specs.declared.tableau.Row.{Row}
use Rattle.gj_proof.specs.Rules.{MeetsFraction, MeetsValue}
use Rattle.gj_proof.specs.declared.cut.CutLine.{CutLine}
use Rattle.gj_proof.specs.declared.cut.CutLine.TheVariants.{Cut, Skip}
use Rattle.gj_proof.specs.declared.cut.CutRule.{CutRule}
use Rattle.gj_proof.specs.declared.cut.CutTerm.{CutTerm}

-- the term of an entry: the name of its column, the entry, and the rule's value there for this
-- right side
pub record IsTermFor (r : CutRule) (columns : List (List ℕ)) (row : Row) (e : Entry) (t : CutTerm) :
    Type 0 where
  pub name : t.name ≡ get_or columns e.column []
  pub entry : t.entry ≡ e.value
  pub value : MeetsValue r row.rhs t

-- the line of a row: its basic variable and its right side, and a term for each entry that is not
-- 0, in the order of the columns, or why the row has no cut
abbrev pub IsLineFor : CutRule → List (List ℕ) → Row → CutLine → Type 0
IsLineFor r columns row (Cut name right terms) = (name ≡ row.basic) × (right ≡ row.rhs)
    × MeetsFraction r (Cut name right terms)
    × AllZip (IsTermFor r columns row) row.entries terms
IsLineFor r columns row (Skip name right reason) = (name ≡ row.basic) × (right ≡ row.rhs)
    × MeetsFraction r (Skip name right reason)
