use Rattle.std.proofs.Common.{◌≡◌, ◌<◌, ◌&&◌, ◌+◌, ℕ, ltb, true, Option, Some, None, MatchOption, ap, refl, subst, sym, ◌∙◌, arith}
use Rattle.std.specs.Option.{is_some}
use Rattle.gj_loops.specs.IndexSets.{has, IsFirst}
use Rattle.gj_loops.specs.declared.index_set.IndexSet.{IndexSet}
use Rattle.gj_jumps.specs.LimitCover.{IsTightAt}
use Rattle.gj_cover.proofs.Turns.{place_of}
use Rattle.gj_limit_cover.proofs.RowCovers.{direct_row}
use Rattle.gj_limit_cover.proofs.table.direct_in_row.Goals as goal

found : (set : IndexSet) (o : Option ℕ) (any : Rattle.std.proofs.Common.Bool) → any ≡ is_some o →
    MatchOption o ((k : ℕ) → has set k ≡ Rattle.std.proofs.Common.false) (IsFirst set 0) →
    any ≡ true →
    (b : ℕ) × (has set b ≡ true)
found set None any is h yes' = absurd (cc (is, yes'))
found set (Some k) any is h yes' = (k, h.found)

all : (set : IndexSet) (o : Option ℕ) (any : Rattle.std.proofs.Common.Bool) → any ≡ is_some o →
    MatchOption o ((k : ℕ) → has set k ≡ Rattle.std.proofs.Common.false) (IsFirst set 0) → (b : ℕ) →
    has set b ≡ true → any ≡ true
all set None any is h b yes' = let no' = h b in absurd (cc (no', yes'))
all set (Some k) any is h b yes' = is

pub returns : goal.returns
returns c i =
    let f = c.args.shape.now in
    let q = f.order in
    let a = c.args.a in
    let row = c.row-row.result.now in
    let told = c.row-row.ensures f c.requires.joins in
    let n = c.order-order.ensures.value in
    direct_row q (IsTightAt f) a i (has row.lower) (has row.upper) told.lower told.upper
    (has c.or.result i) (has c.or-others.result i) (has c.or-sums.result i)
    (has c.turned-lower_sums.result i) (has c.turned-upper_sums.result i) (has c.one_if.result i)
    c.is_some.result (has c.or-triangles.result) c.requires.within (c.or.ensures i)
    (c.or-others.ensures i) (c.or-sums.ensures i)
    (subst (λ m. has c.turned-lower_sums.result i ≡ (ltb i m && has row.lower (place_of m a i))) n
    (c.turned-lower_sums.ensures i))
    (subst (λ m. has c.turned-upper_sums.result i ≡ (ltb i m && has row.upper
    (place_of m (a + 1) i))) n
    (c.turned-upper_sums.ensures i))
    (c.one_if.ensures i) c.or-triangles.ensures
    (found c.or-triangles.result c.first.result c.is_some.result c.is_some.ensures c.first.ensures)
    (all c.or-triangles.result c.first.result c.is_some.result c.is_some.ensures c.first.ensures)
