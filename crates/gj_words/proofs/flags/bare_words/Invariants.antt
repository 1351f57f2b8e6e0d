use Rattle.std.proofs.Common.{◌≡◌, map, take}
use Rattle.std.specs.String.{string_bytes}
use Rattle.gj_words.specs.Bare.{bare_words}
use Rattle.gj_words.proofs.flags.bare_words.Given as goal

abbrev pub invariant-loop-word : goal.invariant-loop-word
invariant-loop-word l = map (λ word. word.now) l.bare.items
    ≡ bare_words (map string_bytes (take l.word-index l.words))
