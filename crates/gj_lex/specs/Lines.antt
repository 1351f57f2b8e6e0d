-- Lines of bytes, as a cursor gives them (own).
use Rattle.std.specs.Prelude.{ℕ, ◌≡◌, ◌≢◌, ◌+◌, ◌<◌, ◌≤◌, Bool, ◌==◌, min, List, length, drop, slice_index}
use Rattle.gj_lex.specs.declared.cursor.LineSpan.{LineSpan}

-- whether a byte ends a line
abbrev pub is_line_feed : ℕ → Bool
is_line_feed b = b == 10

-- what a cursor knows: the whole source, at which of its bytes it stands, and how many lines it
-- gave
pub record CursorState : Type 0 where
  pub source : List ℕ
  pub position : ℕ
  pub lines : ℕ

-- the line that begins at `start` ends at `end`: no LF stands between them, and an LF stands at
-- `end` unless that is the end of the source
pub record IsLine (source : List ℕ) (start end : ℕ) : Type 0 where
  pub ordered : start ≤ end
  pub within : end ≤ length source
  pub unbroken : (k : ℕ) → start ≤ k → k < end → slice_index source k ≢ 10
  pub ended : end < length source → slice_index source end ≡ 10

-- the cursor gives its next line, and then stands behind the LF of that line, or at the end
pub record GivesLine (old new : CursorState) (span : LineSpan) : Type 0 where
  pub more : old.position < length old.source
  pub number : span.number ≡ old.lines + 1
  pub start : span.start ≡ old.position
  pub line : IsLine old.source span.start span.end
  pub source : new.source ≡ old.source
  pub position : new.position ≡ min (span.end + 1) (length old.source)
  pub lines : new.lines ≡ old.lines + 1

-- what is left of the source
abbrev pub rest_of : CursorState → List ℕ
rest_of cursor = drop cursor.position cursor.source
