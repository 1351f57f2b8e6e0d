use Rattle.std.proofs.Common.{◌≡◌, ℕ, ◌+◌, ◌%◌, ◌<◌, ◌⊎◌, ◌&&◌, Bool, true, refl, ap₂, sym, ◌∙◌, arith}
use Rattle.std.proofs.Math.Nat.{mod-mod, mod-eq_of_lt}
use Rattle.gj_faces.proofs.Periods.{same_sum}
use Rattle.gj_loops.specs.IndexSets.{has}
use Rattle.gj_cover.specs.Links.{Links}
use Rattle.gj_cover.specs.Table.{IsTightInTable}
use Rattle.gj_cover.proofs.LinkSets.{linked_to_symmetric, sum_next}
use Rattle.gj_cover.proofs.TablePairs.{same_tight, symmetric_tight}
use Rattle.gj_cover.proofs.Turns.{place_of, turned_place}
use Rattle.gj_cover.proofs.joined.rows_linked_to.Goals as goal

told : (c : goal.After-and) (j : ℕ) → j < c.args.table.now.order →
    ((has c.and.result j ≡ true) →
    Links c.args.table.now.order (IsTightInTable c.args.table.now) j c.args.i)
    × (Links c.args.table.now.order (IsTightInTable c.args.table.now) j c.args.i →
    (has c.and.result j ≡ true)
    ⊎ Links c.args.table.now.order (IsTightInTable c.args.table.now) c.args.i j)
told c j below =
    let t = c.args.table.now in
    let q = t.order in
    let i = c.args.i in
    let k = place_of q j i in
    let place = turned_place q j i below c.requires.start in
    let sum : (j + k) % q ≡ i % q = place.1 ∙ sym (mod-eq_of_lt c.requires.start) in
    let later : (j + 1 + k) % q ≡ (i + 1) % q =
    same_sum q (j + 1) k ((j + 1) % q) k (sym (mod-mod (j + 1) q)) refl
    ∙ sum_next q i j k sum in
    linked_to_symmetric t i j k (has c.and.result j) c.requires.start below place.0 place.1
    (symmetric_tight t c.requires.sides.columns_are)
    (c.and.ensures j ∙ ap₂ (λ (x y : Bool). x && y)
    (c.whole_row_of_sum-row.ensures j k (omega arith) place.0 sum)
    (c.down_one.ensures j
    ∙ c.whole_row_of_sum-next_row.ensures (j + 1) k (omega arith) place.0 later
    ∙ same_tight t (j + 1) k ((j + 1) % q) k (sym (mod-mod (j + 1) q)) refl))

pub returns-clause-links : goal.returns-clause-links
returns-clause-links c j below = (told c j below).0

pub returns-clause-all : goal.returns-clause-all
returns-clause-all c j below = (told c j below).1
