-- Proofs that commands write (own).
use Rattle.std.specs.Prelude.{ℕ, ◌⊎◌, false, List}
use Rattle.gj_top.specs.declared.reply.End.TheVariants.{Done}
use Rattle.gj_top.specs.Task.{IsReply}
use Rattle.gj_top.specs.Minimal.{minimal}
use Rattle.gj_top.specs.Extreme.{extreme}
use Rattle.gj_top.specs.LimitExtreme.{extreme_with_jumps}
use Rattle.gj_top.specs.Cut.{cut}

-- the text is what `minimal` or `extreme` replies to the input with Done, with `--jumps` or without
abbrev pub IsWrittenVerdict : List ℕ → List ℕ → Type 0
IsWrittenVerdict input text =
    IsReply (minimal false) input Done text ⊎ IsReply (extreme false) input Done text
    ⊎ IsReply (extreme_with_jumps false) input Done text

-- or what `cut` replies
abbrev pub IsWrittenProof : List ℕ → List ℕ → Type 0
IsWrittenProof input text = IsWrittenVerdict input text ⊎ IsReply cut input Done text
