use Rattle.std.proofs.Common.{◌<◌, length, refl, ◌∙◌, arith}
use Rattle.std.proofs.Math.ListN.{length-set}
use Rattle.gj_cover.proofs.Turned.{added_one, others_stay, all_added}
use Rattle.gj_cover.proofs.transposed.add_to_columns.Goals as goal

pub columns-smaller : goal.columns-smaller
columns-smaller c =
    let low = c.in-Some.ensures.behind in
    let high = c.in-Some.ensures.within in
    omega arith

pub columns-init : goal.columns-init
columns-init c = (refl, λ b i below low. absurd (omega arith), λ b i below low. refl)

pub columns-preserved : goal.columns-preserved
columns-preserved c =
    let n = c.in-Some.b in
    let within : n < length c.columns.columns.items =
    omega (arith, c.if-b-len.false, c.len.ensures) in (
      length-set c.columns.columns.items n c.insert.new.self ∙ c.columns.invariant.0,
      added_one c.args.columns.now.items c.columns.columns.items c.args.row.now
          c.index_mut.result.now c.insert.new.self c.args.a
          c.columns.from n c.columns.invariant.0 c.in-Some.ensures within c.index_mut.ensures.value
          c.insert.ensures
          c.columns.invariant.1 c.columns.invariant.2,
      others_stay c.args.columns.now.items c.columns.columns.items c.insert.new.self c.columns.from
          n
          c.columns.invariant.0 c.in-Some.ensures.behind c.columns.invariant.2,
    )

pub returns-then-b-len-clause-added : goal.returns-then-b-len-clause-added
returns-then-b-len-clause-added c =
    all_added c.args.columns.now.items c.columns.columns.items c.args.row.now c.args.a
    c.columns.from
    (λ k below low. c.in-Some.ensures.before k low (let lt : k < c.in-Some.b =
    omega (arith, c.columns.invariant.0, c.if-b-len.true, c.len.ensures) in lt))
    c.columns.invariant.1 c.columns.invariant.2

pub returns-clause-added : goal.returns-clause-added
returns-clause-added c =
    all_added c.args.columns.now.items c.columns.columns.items c.args.row.now c.args.a
    c.columns.from
    (λ k below low. c.in_default.ensures k low) c.columns.invariant.1 c.columns.invariant.2
