-- What is known of a source over a reader of std, and of a sink over a writer.
use Rattle.std.specs.Prelude.{ℕ, List, Option}

-- the bytes still to come, if the reader tells them, and how often a read has failed
pub record StreamSource : Type 0 where
  pub left : Option (List ℕ)
  pub faults : ℕ

-- the bytes taken, if the writer tells them, and how often a write has failed
pub record StreamSink : Type 0 where
  pub written : Option (List ℕ)
  pub faults : ℕ
