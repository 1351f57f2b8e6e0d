use Rattle.std.proofs.Common.{◌++◌, sym, ap, subst, ◌∙◌}
use Rattle.std.specs.Str.{IsUtf8}
use Rattle.gj_lex.specs.NumberText.{fraction_text}
use Rattle.gj_json.proofs.Shown.{fraction_is_utf8}
use Rattle.gj_json.proofs.show.fraction_value.Goals as goal

pub unwrap-requires : goal.unwrap-requires
unwrap-requires c =
    c.from_utf8.ensures.succeeds
    (subst IsUtf8 (sym (c.in_ok-print_frac.ensures.ok
    ∙ ap (λ t. t ++ fraction_text c.args.x) c.new-text.ensures.items))
    (fraction_is_utf8 c.args.x))
