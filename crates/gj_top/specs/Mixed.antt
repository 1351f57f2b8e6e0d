-- The command `mixed`: a function or a rule, and a tableau behind it of which columns may be
-- continuous, are answered with the mixed cuts of its rows (Gomory and Johnson 1972; the form is
-- own).
use Rattle.std.specs.Prelude.{ℕ, List}
use Rattle.gj_proof.specs.CutRules.{MakesContinuousCuts}
use Rattle.gj_cut_text.specs.MixedLines.{AreMixedCutsOf}
use Rattle.gj_top.specs.declared.reply.End.{End}
use Rattle.gj_top.specs.declared.reply.End.TheVariants.{Done}
use Rattle.gj_top.specs.Promise.{Promise}
use Rattle.gj_top.specs.Task.{Task}
use Rattle.gj_top.specs.Objection.{IsObjection}
use Rattle.gj_top.specs.Cut.{CutInput, cut_input, RefusesCutInput}

-- the mixed cuts of the rows, if the rule makes such cuts, and else why it does not
abbrev pub IsMixedReply : CutInput → End → List ℕ → Type 0
IsMixedReply input Done text = MakesContinuousCuts input.rule
    × AreMixedCutsOf input.rule input.tableau text
IsMixedReply input end text = IsObjection input.rule end text

-- the headline: the rows that are written are those of the tableau, and each cut holds at every
-- solution of its row
abbrev pub mixed_promise : Promise
mixed_promise = record {
  Thing = CutInput;
  form = cut_input;
  headline = λ input text. AreMixedCutsOf input.rule input.tableau text;
}

abbrev pub mixed : Task
mixed = record {
  promise = mixed_promise;
  work = record { refuses = RefusesCutInput; replies = IsMixedReply };
}
