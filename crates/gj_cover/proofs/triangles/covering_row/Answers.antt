use Rattle.std.proofs.Common.{◌≡◌, ◌+◌, ◌%◌, ◌&&◌, ◌||◌, Bool, refl, ap₂, sym, ◌∙◌, arith}
use Rattle.std.proofs.Math.Nat.{mod-mod, mod-lt}
use Rattle.std.proofs.lemmas.Bool.{and_parts}
use Rattle.gj_loops.specs.IndexSets.{has}
use Rattle.gj_cover.proofs.CoveringSets.{in_row}
use Rattle.gj_cover.proofs.TablePairs.{same_tight}
use Rattle.gj_cover.proofs.Turns.{in_below, back_in}
use Rattle.gj_cover.proofs.triangles.covering_row.Goals as goal

pub returns-clause-within : goal.returns-clause-within
returns-clause-within c j e =
    let q = c.args.table.now.order in
    let both = and_parts (has c.and.result j) (has c.or.result j) (sym (c.and-2.ensures j) ∙ e) in
    let edge = and_parts (has c.row-east.result.now j) (has c.turned_back-north.result j)
    (sym (c.and.ensures j) ∙ both.0) in
    in_below q q j (has c.row-here.result.now ((j + 1) % q)) (has c.turned_back-north.result j) refl
    (c.turned_back-north.ensures j) edge.1

pub returns-clause-covering : goal.returns-clause-covering
returns-clause-covering c b below =
    let t = c.args.table.now in
    let q = t.order in
    let i = c.args.i in
    let is : c.args.table.now.order ≡ c.args.table.now.order = refl in
    let up = (b + 1) % q in
    let next = mod-lt (b + 1) {m = q} (omega arith) in
    let north = back_in q q b (has c.row-here.result.now)
    (has c.turned_back-north.result b) is below (c.turned_back-north.ensures b)
    ∙ c.row-here.ensures up next ∙ same_tight t i up i (b + 1) refl (mod-mod (b + 1) q) in
    let corner = back_in q q b (has c.row-east.result.now)
    (has c.turned_back-corner.result b) is below (c.turned_back-corner.ensures b)
    ∙ c.row-east.ensures up next
    ∙ same_tight t (i + 1) up (i + 1) (b + 1) refl (mod-mod (b + 1) q) in
    in_row t i b (has c.and-2.result b)
    (c.and-2.ensures b ∙ ap₂ (λ (x y : Bool). x && y)
    (c.and.ensures b ∙ ap₂ (λ (x y : Bool). x && y) (c.row-east.ensures b below) north)
    (c.or.ensures b ∙ ap₂ (λ (x y : Bool). x || y) (c.row-here.ensures b below) corner))
