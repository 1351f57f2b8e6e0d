use Rattle.std.proofs.Common.{◌<◌, ap, sym, ◌∙◌, arith}
use Rattle.std.proofs.lemmas.List.{get_or_default}
use Rattle.std.proofs.lemmas.Bool.{lt-ltb, le-ltb}
use Rattle.gj_cover.specs.SetRows.{in_row}
use Rattle.std.proofs.Common.{◌&&◌}
use Rattle.gj_cover.proofs.Turned.{row_added}
use Rattle.gj_cover.proofs.transposed.transposed.Goals as goal

pub loop-a-init : goal.loop-a-init
loop-a-init c = (
  c.in_ok-columns.ensures.length,
  λ b i below. c.in_ok-columns.ensures.none b i
      ∙ ap (λ x. x && in_row c.args.rows.now i b) (sym (le-ltb i 0 (omega arith))),
)

pub loop-a-preserved : goal.loop-a-preserved
loop-a-preserved c = (
  c.add_to_columns.ensures.length ∙ c.loop-a.invariant.0,
  row_added c.args.rows.now c.loop-a.columns.items c.add_to_columns.new.columns.items _ c.loop-a.a
      c.loop-a-test.true
      (sym (get_or_default _ _ _ _ c.loop-a-test.true)) c.loop-a.invariant.0 c.loop-a.invariant.1
      c.add_to_columns.ensures.added,
)

pub returns-clause-columns : goal.returns-clause-columns
returns-clause-columns c a b a_below b_below =
    c.loop-a.invariant.1 b a b_below
    ∙ ap (λ x. x && in_row c.args.rows.now a b)
    (lt-ltb a c.loop-a.a (let low : a < c.loop-a.a = omega arith in low))
