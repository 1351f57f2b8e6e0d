use Rattle.std.proofs.Common.{◌+◌, ◌≤◌, ◌++◌, ◌∷◌, [], refl, sym, ap, ◌∙◌, append_assoc, arith}
use Rattle.gj_shape.specs.declared.extremality.RowName.TheVariants.{Pair}
use Rattle.gj_extreme.specs.RowsToCome.{pairs_from}
use Rattle.gj_extreme.proofs.FoundPairs.{IsRow, found_below, found_next, found_none}
use Rattle.gj_extreme.proofs.residues.push_names.Goals as goal

pub pairs-init : goal.pairs-init
pairs-init c = λ f behind p. (
  (let same = p.order in let below = c.requires in let low : c.args.a ≤ f.order = omega arith in
      low),
  refl,
)

pub pairs-smaller : goal.pairs-smaller
pairs-smaller c =
    let low = c.in-Some.ensures.behind in
    let high = c.in-Some.ensures.within in
    omega arith

pub pairs-preserved : goal.pairs-preserved
pairs-preserved c = λ f behind p.
    let a = c.args.a in
    let b = c.in-Some.b in
    let r : IsRow c.args.pairs.now c.args.a c.row-row.result.now =
    record { tells = c.row-row.ensures.tells; within = c.row-row.ensures.within } in
    let (low, same) = c.pairs.invariant f behind p in
    let below = found_below f c.args.pairs.now a c.pairs.from b c.row-row.result.now p r
    c.in-Some.ensures in
    let next = found_next f c.args.pairs.now a c.pairs.from b c.row-row.result.now behind p r
    c.in-Some.ensures in
    let rest = pairs_from f a (b + 1) ++ behind in (
      (let more : c.in-Some.b + 1 ≤ f.order = omega arith in more),
      ap (λ names. names ++ rest) c.in_ok-push.ensures.items
          ∙ append_assoc c.pairs.names.items (Pair a b ∷ []) rest
          ∙ ap (λ names. c.pairs.names.items ++ names) (sym next) ∙ same,
    )

pub returns : goal.returns
returns c = λ f behind p.
    let r : IsRow c.args.pairs.now c.args.a c.row-row.result.now =
    record { tells = c.row-row.ensures.tells; within = c.row-row.ensures.within } in
    let (low, same) = c.pairs.invariant f behind p in
    let none = found_none f c.args.pairs.now c.args.a c.pairs.from c.row-row.result.now behind p r
    low c.in_default.ensures in
    ap (λ names. c.pairs.names.items ++ names) (sym none) ∙ same
