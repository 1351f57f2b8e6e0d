use Rattle.std.proofs.Common.{sym}
use Rattle.gj_lex.proofs.FirstPlaces.{no_place}
use Rattle.gj_problem_text.proofs.WordsRead.{cut_at}
use Rattle.gj_problem_text.proofs.numbers.parts_at.Goals as goal

pub returns-in_err-place-clause-none : goal.returns-in_err-place-clause-none
returns-in_err-place-clause-none c =
    rw c.from_residual.ensures (no_place _ c.args.word.now (sym c.in_err-place.ensures))

pub returns-clause-found : goal.returns-clause-found
returns-clause-found c =
    cut_at _ c.args.word.now _ _ c.in_ok-place.place c.in_ok-place.ensures c.split_at.ensures.front
    c.split_at.ensures.back
