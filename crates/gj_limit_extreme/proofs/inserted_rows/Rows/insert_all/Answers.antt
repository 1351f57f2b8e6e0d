use Rattle.std.proofs.Common.{◌+◌, ◌++◌, length, get_or, drop, ap, subst, arith}
use Rattle.std.proofs.lemmas.List.{drop_all}
use Rattle.std.proofs.lemmas.List.Elements.{All-get_or}
use Rattle.gj_elim.proofs.Keeping.{same_error}
use Rattle.gj_limit_system.specs.LimitRows.{IsLimitRowBelow}
use Rattle.gj_limit_system.specs.declared.limit_row.LimitRow.TheVariants.{F}
use Rattle.gj_limit_extreme.specs.RowsToCome.{AreToCome}
use Rattle.gj_limit_extreme.specs.SystemRows.{columns_in}
use Rattle.gj_limit_extreme.proofs.TakenRows.{next_of_list}
use Rattle.gj_limit_extreme.proofs.inserted_rows.Rows.insert_all.Goals as goal

pub loop-name-init : goal.loop-name-init
loop-name-init c = record {
  columns = c.requires.columns;
  count = omega arith;
  to_come =
      λ f rest is h. h;
}

pub insert-requires : goal.insert-requires
insert-requires c =
    let count = c.loop-name.invariant.count in
    let few = c.requires.count in
    record {
      name = All-get_or (λ name. IsLimitRowBelow name (length c.args.system.now.component))
          c.args.names.now c.loop-name.name-index F
          c.loop-name-test.true c.requires.names;
      columns = c.loop-name.invariant.columns;
      count = omega arith;
    }

pub returns-in_err-insert-clause-wide : goal.returns-in_err-insert-clause-wide
returns-in_err-insert-clause-wide c = λ e f rest is h.
    let i = c.loop-name.name-index in
    let names = c.args.names.now in
    c.in_err-insert.ensures.wide
    (same_error c.from_residual.result c.in_err-insert.field-0.0 _ c.from_residual.ensures.0
    c.from_residual.ensures.1 e)
    f (drop (i + 1) names ++ rest) is
    (subst (AreToCome f c.args.system.now.component (columns_in c.args.system.now) c.loop-name.self)
    (next_of_list names rest i c.loop-name-test.true) (c.loop-name.invariant.to_come f rest is h))

pub loop-name-preserved : goal.loop-name-preserved
loop-name-preserved c =
    let i = c.loop-name.name-index in
    let names = c.args.names.now in
    let count = c.loop-name.invariant.count in
    let more = c.insert.ensures.count in
    record {
      columns = c.insert.ensures.columns;
      count = omega arith;
      to_come = λ f rest is h.
          c.in_ok-insert.ensures.to_come f (drop (i + 1) names ++ rest) is
          (subst (AreToCome f c.args.system.now.component
          (columns_in c.args.system.now) c.loop-name.self)
          (next_of_list names rest i c.loop-name-test.true)
          (c.loop-name.invariant.to_come f rest is h));
    }

pub returns-clause-to_come : goal.returns-clause-to_come
returns-clause-to_come c = λ f rest is h.
    subst (AreToCome f c.args.system.now.component (columns_in c.args.system.now) c.loop-name.self)
    (ap (λ xs. xs ++ rest)
    (drop_all c.loop-name.name-index c.args.names.now c.loop-name-test.false))
    (c.loop-name.invariant.to_come f rest is h)
