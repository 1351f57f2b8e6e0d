use Rattle.std.proofs.Common.{◌≡◌, ◌≢◌, All, take}
use Rattle.gj_check.proofs.SameNames.{names_of}
use Rattle.gj_check.proofs.names.have_known_names.Given as goal

abbrev pub invariant-loop-index : goal.invariant-loop-index
invariant-loop-index l =
    (names_of (take l.index l.terms) ≡ names_of (take l.index l.known))
    × All (λ t. t.name ≢ l.basic) (take l.index l.terms)
