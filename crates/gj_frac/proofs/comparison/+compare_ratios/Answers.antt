use Rattle.std.proofs.Common.{◌*◌, ◌%◌, ⊎_elim, inl, inr, sym, ap, ◌∙◌}
use Rattle.std.proofs.Math.Nat.{mul_comm, pos_of_ne-zero}
use Rattle.std.specs.Ordering.{nat_cmp}
use Rattle.gj_frac.proofs.Ratios.{cmp_by_zero, cmp_by_whole, cmp_rests, same_from_cmp}
use Rattle.gj_frac.proofs.comparison.+compare_ratios.Goals as goal

pub returns-then-is_ne : goal.returns-then-is_ne
returns-then-is_ne t c =
    cmp_by_whole c.args.a c.args.b c.args.c c.args.d c.cmp-whole.result
    (pos_of_ne-zero c.requires.b_some) (pos_of_ne-zero c.requires.d_some) c.cmp-whole.ensures
    (sym c.is_ne.ensures ∙ c.if-is_ne.true)

pub returns-then-rest-eq0 : goal.returns-then-rest-eq0
returns-then-rest-eq0 t c =
    let same = same_from_cmp _ _ c.cmp-whole.result c.cmp-whole.ensures
    (sym c.is_ne.ensures ∙ c.if-is_ne.false) in
    c.cmp.ensures
    ∙ cmp_by_zero (c.args.a % c.args.b) c.args.b (c.args.c % c.args.d) c.args.d
    (pos_of_ne-zero c.requires.b_some) (pos_of_ne-zero c.requires.d_some)
    (⊎_elim (λ e. inl e) (λ e. inr e.1) c.then-rest-eq0.either)
    ∙ sym (cmp_rests c.args.a c.args.b c.args.c c.args.d same)

pub returns : goal.returns
returns t c =
    let same = same_from_cmp _ _ c.cmp-whole.result c.cmp-whole.ensures
    (sym c.is_ne.ensures ∙ c.if-is_ne.false) in
    c.compare_ratios.ensures
    ∙ ap (λ n. nat_cmp n (c.args.b * (c.args.c % c.args.d)))
    (mul_comm c.args.d (c.args.a % c.args.b))
    ∙ ap (λ n. nat_cmp (c.args.a % c.args.b * c.args.d) n) (mul_comm c.args.b (c.args.c % c.args.d))
    ∙ sym (cmp_rests c.args.a c.args.b c.args.c c.args.d same)
