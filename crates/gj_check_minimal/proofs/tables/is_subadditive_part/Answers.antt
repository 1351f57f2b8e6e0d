use Rattle.std.proofs.Common.{◌≡◌, ◌↔◌, ◌+◌, ◌-◌, ◌/◌, ◌≤ℤ◌, max, min, length, IsTrue, ap, subst, ◌∙◌, arith}
use Rattle.gj_check_minimal.proofs.TableTests.{entry_read, no_rise, one_more_rise, part_by}
use Rattle.gj_check_minimal.proofs.tables.is_subadditive_part.Goals as goal

pub loop-j-init : goal.loop-j-init
loop-j-init g c = (
  λ values len periods. no_rise values c.args.i c.max-from.result _
      (entry_read g.E.Entry.number _ values c.args.i _ periods (omega arith) c.index-entries-i.is),
  omega arith,
)

pub loop-j-preserved : goal.loop-j-preserved
loop-j-preserved g c =
    let i = c.args.i in
    let j = c.loop-j.j in (
      λ values len periods.
          let second = entry_read g.E.Entry.number _ values j _ periods
          (omega arith) c.index-entries-j.is in
          let sum = entry_read g.E.Entry.number _ values (i + j) _ periods
          (omega arith) c.index-entries-i-in-loop-j.is in
          one_more_rise values i _ j _ _ _ _ c.loop-j.auto.j second sum c.max_rise-rise.ensures
          (c.loop-j.invariant.0 values len periods),
      omega arith,
    )

pub returns : goal.returns
returns g c = λ values len periods.
    let i = c.args.i in
    let total = c.args.total in
    let first = entry_read g.E.Entry.number _ values i _ periods
    (omega arith) c.index-entries-i.is in
    let apart : c.saturating_sub.result ≡ total + 1 - (i + length values) = let is =
    c.saturating_sub.ensures in omega arith in
    let low : c.max-from.result ≡ max i (total + 1 - (i + length values)) = c.max-from.ensures
    ∙ ap (max i) apart in
    let end = (total + 2 - i) / 2 in
    let high : (total + 2 - i) / 2 ≡ min (length values) ((total + 2 - i) / 2) = omega arith in
    let part = part_by values total i c.max-from.result end c.loop-j.j
    (g.E.Entry.number c.loop-j.rise) (omega arith) low high
    c.loop-j-test.false c.loop-j.invariant.1 (c.loop-j.invariant.0 values len periods) in
    let test = subst (λ z. IsTrue c.is_at_most.result ↔ (g.E.Entry.number c.loop-j.rise ≤ℤ z)) first
    c.is_at_most.ensures in
    (λ t. part.0 (test.0 t), λ all. test.1 (part.1 all))
