use Rattle.std.proofs.lemmas.Result.{err_from_is_err_and}
use Rattle.gj_limit_proof.proofs.GroupRead.{fault_in_steps, fault_in_pivot}
use Rattle.gj_limit_proof.proofs.groups.group_at.Goals as goal

pub returns-in_err-columns : goal.returns-in_err-columns
returns-in_err-columns c =
    let p = err_from_is_err_and c.from_residual-in_err-columns.result
    c.from_residual-in_err-columns.ensures.1 in
    rw (p.1, p.2)
    (fault_in_steps _ _ _ _ _ c.in_ok-name.ensures c.in_err-columns.ensures)

pub returns-in_err-pivot : goal.returns-in_err-pivot
returns-in_err-pivot c =
    let p = err_from_is_err_and c.from_residual-in_err-pivot.result
    c.from_residual-in_err-pivot.ensures.1 in
    rw (p.1, p.2)
    (fault_in_pivot _ _ _ _ _ c.in_ok-name.ensures _ _ c.in_ok-columns.ensures
    c.in_err-pivot.ensures)

pub returns : goal.returns
returns c = (
  c.in_ok-name.name,
  c.in_ok-name.rest.now,
  c.in_ok-name.ensures,
  (
    c.in_ok-columns.columns.items,
    c.in_ok-columns.rest.now,
    c.in_ok-columns.ensures,
    (
      c.in_ok-pivot.pivot,
      c.in_ok-pivot.ensures,
      λ i. record {
        name = c.in_ok-name.name;
        reduce = c.of-reduce.ensures i;
        pivot = c.in_ok-pivot.pivot;
      },
    ),
  ),
)
