use Rattle.std.proofs.Common.{ℕ, ◌<◌, take}
use Rattle.gj_proof.specs.Rules.{AtIndex, MeetsName}
use Rattle.gj_check.proofs.SeenNames.{HasNames}
use Rattle.gj_check.proofs.names.first_seen.Given as goal

abbrev pub invariant-loop-index : goal.invariant-loop-index
invariant-loop-index l = HasNames l.seen.keys l.basic (take l.index l.terms)
    × ((i : ℕ) → i < l.index → AtIndex l.terms i (MeetsName l.basic))
