use Rattle.std.proofs.Common.{◌++◌, List, ℕ, sym, ap, ◌∙◌, append-nil}
use Rattle.std.proofs.lemmas.Slice.Zip.{either_empty_from_Zip}
use Rattle.gj_top.proofs.DerivationReplies.{none_kept}
use Rattle.gj_top.proofs.derive.push_kept.Goals as goal

pub returns : goal.returns
returns c =
    let names = c.loop-name.names.items in
    let end = either_empty_from_Zip c.loop-name.name-iterator c.next.new.self c.next.result
    c.in-None.is c.next.ensures.steps in
    sym (c.loop-name.invariant ∙ ap (λ (more : List (List ℕ)). names ++ more) (none_kept _ _ end)
    ∙ append-nil names)
