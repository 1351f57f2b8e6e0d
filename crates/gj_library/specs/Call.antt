-- What a call says: the run of its words over its input (own).
use Rattle.std.specs.Prelude.{ℕ, ◌≡◌, ◌==◌, ◌⊎◌, ◌<◌, true, List, [], length, take, map, Option, Some, String, string_bytes}
use Rattle.std.specs.List.{slice_split}
use Rattle.std.specs.Str.{IsUtf8}
use Rattle.std.specs.declared.alloc.Global.{Global}
use Rattle.gj_top.specs.declared.status.Status.{Status}
use Rattle.gj_top.specs.declared.status.Status.TheVariants.{WriteFault}
use Rattle.gj_top.specs.Answer.{IsAnswer}
use Rattle.gj_top.specs.Code.{code_of}
use Rattle.gj_top.specs.IsRun.{IsRun}
use Rattle.gj_top.specs.Run.{Run}

-- the words are the pieces of the bytes between the blanks; bytes that are not UTF-8 are no words
abbrev pub AreWordsOf : List ℕ → List (String Global) → Type 0
AreWordsOf bytes words =
    (IsUtf8 bytes × (map string_bytes words ≡ slice_split (λ b. b == 32) bytes))
    ⊎ ((IsUtf8 bytes → ⊥) × (words ≡ []))

-- this holds of the words of the bytes
abbrev pub OfWords : List ℕ → (List (String Global) → Type 0) → Type 0
OfWords bytes P = (words : List (String Global)) × AreWordsOf bytes words × P words

-- the status and the text are the answer to the words over the input, which does not fail
pub record IsAnswered (bytes input : List ℕ) (status : Status) (text : List ℕ) : Type 0 where
  pub words : List (String Global)
  pub are_words : AreWordsOf bytes words
  pub left : Option (List ℕ)
  pub answer : IsAnswer words ⊥ (Some input) left status text

-- an output fails a run that needs more room than it has, and no other
abbrev pub room_faults : Status → ℕ
room_faults WriteFault = 1
room_faults status = 0

-- a run over an input, which never fails, into an output that is sure of so many bytes and has taken
-- nothing before
abbrev pub run_over : List (String Global) → List ℕ → Option (List ℕ) → ℕ → List ℕ → Status → Run
run_over words input left room front status = record {
  words = words;
  steady = true;
  left = Some input;
  left_after = left;
  read_faults = 0;
  read_faults_after = 0;
  sure = room;
  written = Some [];
  written_after = Some front;
  write_faults = 0;
  write_faults_after = room_faults status;
  status = status;
}

-- the code is that of the status of a run of the program, of the words over the input, and the front
-- is what an output with this room has taken
pub record IsCall (bytes input : List ℕ) (room : ℕ) (front : List ℕ) (code : ℕ) : Type 0 where
  pub words : List (String Global)
  pub are_words : AreWordsOf bytes words
  pub left : Option (List ℕ)
  pub status : Status
  pub code_is : code ≡ code_of status
  pub is_run : IsRun (run_over words input left room front status)

-- an answer to the words over the input has this length, which is more than the room, and the front
-- is as much of it as there is room for
pub record IsTooSmall (bytes input : List ℕ) (room : ℕ) (front : List ℕ) (whole : ℕ) : Type 0 where
  pub status : Status
  pub text : List ℕ
  pub answered : IsAnswered bytes input status text
  pub whole_is : whole ≡ length text
  pub longer : room < whole
  pub front_is : front ≡ take room text
