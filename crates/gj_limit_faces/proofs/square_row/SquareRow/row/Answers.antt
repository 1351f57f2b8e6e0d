use Rattle.std.proofs.Common.{◌≡◌, ◌+◌, IfSome, sym, subst, arith}
use Rattle.gj_limit_faces.specs.ValueRows.{IsValueRow}
use Rattle.gj_limit_faces.proofs.square_row.SquareRow.row.Goals as goal

pub limit_row-requires-clause-values : goal.limit_row-requires-clause-values
limit_row-requires-clause-values c =
    let none = c.if-terms-eq0.true in
    let there : c.args.a + c.terms_of-terms.result.right ≡ c.args.a = omega (arith, none) in
    subst (λ k. IfSome c.args.self.now.start (IsValueRow c.args.shape.now k)) (sym there)
    c.requires.values.start
