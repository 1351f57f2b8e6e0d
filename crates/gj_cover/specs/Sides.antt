-- Tight pairs by their second index and by their sum (own).
use Rattle.std.specs.Prelude.{ℕ, ◌≡◌, ◌+◌, ◌-◌, ◌%◌, ◌<◌, List, length}
use denote.Struct.Props.{props}
use Rattle.gj_loops.specs.declared.index_set.IndexSet.{IndexSet}
use Rattle.gj_cover.specs.SetRows.{in_row, AreRound, AreColumns, AreFirsts, AreSeconds}
use Rattle.gj_cover.specs.declared.table.Sides.{Sides}
use Rattle.gj_cover.specs.declared.table.Sides.TheVariants.{Apart, Rows}

-- sets of their own for the pairs in the rows
pub record AreApart (q : ℕ) (rows columns firsts seconds : List IndexSet) : Type 0 where
  pub columns_length : length columns ≡ q
  pub firsts_length : length firsts ≡ q
  pub seconds_length : length seconds ≡ q
  pub columns_are : AreColumns q rows columns
  pub firsts_are : AreFirsts q rows firsts
  pub seconds_are : AreSeconds q rows seconds

-- the rows themselves: the pairs turned around are in them, those with a sum are the row of the
-- place less the sum, and in each row q stands for 0
pub record AreOwnSides (q : ℕ) (rows : List IndexSet) (place : ℕ) : Type 0 where
  pub place_below : place < q
  pub columns_are : AreColumns q rows rows
  pub round : AreRound q rows
  pub sums_are : (a b : ℕ) → a < q → b < q → in_row rows ((place + (q - (a + b) % q)) % q) a
      ≡ in_row rows a b

-- the sides of the rows
abbrev pub AreSides : ℕ → List IndexSet → Sides → Type 0
AreSides q rows (Apart columns firsts seconds) =
    AreApart q rows columns.items firsts.items seconds.items
AreSides q rows (Rows place) = AreOwnSides q rows place

-- the sides are those of the rows in one way at most
pub one_way : (q : ℕ) (rows : List IndexSet) (sides : Sides) → IsProp (AreSides q rows sides)
one_way q rows (Apart columns firsts seconds) = hlevel props
one_way q rows (Rows place) = hlevel props
