use Rattle.gj_problem_text.specs.Cuts.{none_turned}
use Rattle.gj_problem_text.proofs.TermsOfCuts.{answers_have_terms}
use Rattle.gj_problem_text.proofs.laws.cuts_have_terms.Goals as goal

pub returns : goal.returns
returns c = λ r s text t. answers_have_terms r s (none_turned s) s.requests t.cuts t.are_cuts
