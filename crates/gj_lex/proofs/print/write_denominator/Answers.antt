use Rattle.std.proofs.Common.{ap, sym, ◌∙◌, ◌++◌, ◌∷◌, drop, arith}
use Rattle.gj_lex.proofs.Decimals.{written_before}
use Rattle.gj_lex.proofs.CanonicalTexts.{denominator_small, denominator_more}
use Rattle.gj_lex.proofs.print.write_denominator.Goals as goal

pub returns-then-den-lt2-clause-written : goal.returns-then-den-lt2-clause-written
returns-then-den-lt2-clause-written c =
    ap (λ bs. bs ++ drop c.args.end c.args.text.now)
    (sym (denominator_small c.args.den c.if-den-lt2.true))

pub returns-clause-written : goal.returns-clause-written
returns-clause-written c =
    written_before _ c.write_digits-start.result 47 (omega arith) (omega arith)
    ∙ ap (λ bs. 47 ∷ bs) c.write_digits-start.ensures.written
    ∙ ap (λ bs. bs ++ drop c.args.end c.args.text.now)
    (sym (denominator_more c.args.den c.if-den-lt2.false))
