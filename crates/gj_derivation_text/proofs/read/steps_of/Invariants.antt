use Rattle.std.proofs.Common.{◌≡◌, ◌++◌, map}
use Rattle.gj_derivation_text.specs.DerivationInputs.{as_draft}
use Rattle.gj_derivation_text.proofs.read.steps_of.Given as goal

abbrev pub invariant-loop-draft : goal.invariant-loop-draft
invariant-loop-draft l = l.fn.drafts ≡ map as_draft l.steps.items ++ l.draft-iterator.rest.items
