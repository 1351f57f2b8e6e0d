-- What a call puts into its output (own).
use Rattle.std.specs.Prelude.{ℕ, ◌≡◌, ◌<◌, ◌≤◌, List, length, take}
use Rattle.gj_top.specs.declared.status.Status.{Status}
use Rattle.gj_top.specs.Code.{code_of}

-- of an answer the front is the whole text, and the code is that of its status; or the room is too
-- small, the front fills it, and the code is 5
pub data IsHandedOver (status : Status) (text : List ℕ) (room : ℕ) (front : List ℕ) (code : ℕ) :
    Type 0 where
  whole : length text ≤ room → front ≡ text → code ≡ code_of status →
      IsHandedOver status text room front code
  part : room < length text → front ≡ take room text → code ≡ 5 →
      IsHandedOver status text room front code
