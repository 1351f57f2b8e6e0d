use Rattle.std.proofs.lemmas.List.Elements.{All-nil}
use Rattle.gj_theory.specs.TriangularRows.{Solves}
use Rattle.gj_theory.proofs.Eliminations.{elimination_has}
use Rattle.gj_theory.proofs.SoundArithmetic.{whole_sound}
use Rattle.gj_theory.proofs.elimination.elimination_keeps_solutions.Goals as goal

pub returns-clause-triangular : goal.returns-clause-triangular
returns-clause-triangular c n rows columns = (elimination_has whole_sound n rows columns).triangular

pub returns-clause-same : goal.returns-clause-same
returns-clause-same c n rows w columns len =
    let same = (elimination_has whole_sound n rows columns).same w in (
      λ all. (same.before (tt, len) all).1,
      λ all. same.onward
          (All-nil (λ k. Solves w k.entries), all),
    )
