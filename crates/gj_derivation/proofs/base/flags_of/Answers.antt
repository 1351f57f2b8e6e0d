use Rattle.std.proofs.Common.{◌≡◌, ◌<◌, ◌≤◌, ℕ, Bool, Vec, Global, ap, length, get_or, ◌+◌, take, subst, sym}
use Rattle.gj_problem.proofs.Prefixes.{default_unused}
use Rattle.gj_derivation.specs.Derivations.{AreAtUpper}
use Rattle.gj_derivation.proofs.NamedLines.{flags_more, flags_past}
use Rattle.gj_derivation.proofs.base.flags_of.Goals.{then-column-columns, else-column-columns}
use Rattle.gj_derivation.proofs.base.flags_of.Goals as goal

pub loop-column-preserved : goal.loop-column-preserved
loop-column-preserved c =
    let columns = ap (λ xs. length xs) c.as_slice-columns.ensures in
    let i = c.loop-column.column-index in
    let x = get_or c.args.named.now i 0 in
    let here : x ≡ get_or c.args.named.now i x = default_unused c.args.named.now i 0 x
    c.loop-column-test.true in
    elim c.if-column-columns.branch [
      | then-column-columns w ↦
          flags_more c.args.problem.now c.args.named.now i x c.loop-column.flags.items
          c.if-column-columns.flags.items c.loop-column-test.true here
          (subst (λ (n : ℕ). x < n) columns w.if-column-columns.true) c.loop-column.invariant
          (ap (λ (v : Vec Bool Global). v.items) w.flags-is)
      | else-column-columns w ↦
          subst (λ (v : Vec Bool Global). AreAtUpper c.args.problem.now
          (take (i + 1) c.args.named.now) v.items) (sym w.flags-is)
          (flags_past c.args.problem.now c.args.named.now i x c.loop-column.flags.items
          c.loop-column-test.true here
          (subst (λ (n : ℕ). n ≤ x) columns w.if-column-columns.false) c.loop-column.invariant)
    ]
