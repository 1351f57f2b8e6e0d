use Rattle.std.proofs.Common.{◌≡◌, ◌∙◌, ap₂, rules}
use Rattle.std.proofs.lemmas.Result.{IfOk-weaker, err_from_is_err_and}
use Rattle.clap.specs.Words.{app_of, rule_of, with_rule}
use Rattle.gj_words.specs.Parser.{bare_app, first_rule, name_rule, second_rule}
use Rattle.gj_words.proofs.line.our_command.Goals as goal

pub returns-in_err-arg : goal.returns-in_err-arg
returns-in_err-arg c =
    rw (err_from_is_err_and c.from_residual.result c.from_residual.ensures.1).1 tt

pub returns-in_err-arg-2 : goal.returns-in_err-arg-2
returns-in_err-arg-2 c =
    rw (err_from_is_err_and c.from_residual-in_err-arg-2.result
    c.from_residual-in_err-arg-2.ensures.1).1 tt

pub returns : goal.returns
returns c =
    let name_is : rule_of c.required.result ≡ name_rule = search rules in
    let first_is : rule_of c.new-3.result ≡ first_rule = search rules in
    let second_is : rule_of c.new-4.result ≡ second_rule = search rules in
    let bare_is : app_of c.disable_version_flag.result ≡ bare_app = search rules in
    let one : app_of c.in_ok-arg.field-0 ≡ with_rule bare_app name_rule
    = c.in_ok-arg.ensures.shape (search rules) ∙ ap₂ with_rule bare_is name_is in
    let two : app_of c.in_ok-arg-2.field-0 ≡ with_rule (with_rule bare_app name_rule) first_rule
    = c.in_ok-arg-2.ensures.shape (search rules) ∙ ap₂ with_rule one first_is in
    IfOk-weaker c.arg-3.result _ _ (λ r adds. adds.shape (search rules)
    ∙ ap₂ with_rule two second_is) c.arg-3.ensures
