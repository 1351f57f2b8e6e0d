-- Words that spell no bound.
use Rattle.std.proofs.Common.{◌≢◌, Some, None, ℕ, List, codes}
use Rattle.gj_frac.specs.declared.Frac.{Frac}
use Rattle.gj_problem_text.specs.NumberWords.{IsNumberWord}
use Rattle.gj_problem_text.specs.Tasks.{IsBound}

pub no_bound : (word : List ℕ) → word ≢ codes "-" → ((x : Frac) → IsNumberWord word x → ⊥) →
    IsBound word → ⊥
no_bound word other none (None, is) = other is
no_bound word other none (Some x, is) = none x is.1
