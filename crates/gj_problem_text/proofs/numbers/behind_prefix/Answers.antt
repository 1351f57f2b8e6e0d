use Rattle.std.proofs.Common.{inl, inr, refl, codes}
use Rattle.std.proofs.lemmas.Option.{IfSome_then}
use Rattle.gj_problem_text.proofs.numbers.behind_prefix.Goals as goal

pub returns-in-Some-clause-found : goal.returns-in-Some-clause-found
returns-in-Some-clause-found c = (codes "0x", c.in-Some.ensures.found, inl refl)

pub returns-clause-found : goal.returns-clause-found
returns-clause-found c = IfSome_then c.behind_text-2.result c.behind_text-2.ensures.found
    (λ rest is. (codes "0X", is, inr refl))
