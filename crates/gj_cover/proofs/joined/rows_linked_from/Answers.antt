use Rattle.std.proofs.Common.{◌≡◌, ℕ, ◌+◌, ◌%◌, ◌<◌, ◌&&◌, ◌||◌, ◌-◌, leb, ltb, Bool, false, refl, ap₂, sym, ◌∙◌, subst, arith}
use Rattle.std.proofs.Math.Nat.{mod-mod, mod_self, mod-eq_of_lt}
use Rattle.std.proofs.lemmas.Bool.{and_left}
use Rattle.gj_loops.specs.IndexSets.{has}
use Rattle.gj_cover.specs.Table.{is_tight_in}
use Rattle.gj_cover.proofs.LinkSets.{linked_from_symmetric}
use Rattle.gj_cover.proofs.TablePairs.{same_tight, symmetric_tight}
use Rattle.gj_cover.proofs.Turns.{place_of, turned_place, round_turn}
use Rattle.gj_cover.proofs.joined.rows_linked_from.Goals as goal

pub returns : goal.returns
returns c j below =
    let t = c.args.table.now in
    let q = t.order in
    let i = c.args.i in
    let few = t.few in
    let k = place_of q i j in
    let place = turned_place q i j c.requires.start below in
    let row = has c.whole_row-row.result.now in
    let next_row = has c.whole_row-next_row.result.now in
    let p = λ (b : ℕ). row b && next_row b in
    let row_is = c.whole_row-row.ensures.tells in
    let next_is = c.whole_row-next_row.ensures.tells in
    let around : (a : ℕ) → is_tight_in t a q ≡ is_tight_in t a 0 = λ a.
    same_tight t a q a 0 refl (mod_self q ∙ sym (mod-eq_of_lt {n = 0} {m = q} (omega arith))) in
    let round : p q ≡ p 0 =
    ap₂ (λ (x y : Bool). x && y) (row_is q (omega arith) ∙ around i ∙ sym (row_is 0 (omega arith)))
    (next_is q (omega arith) ∙ around (i + 1) ∙ sym (next_is 0 (omega arith))) in
    let past : (b : ℕ) → q < b →
    p b ≡ false = λ b behind. and_left (row b) (next_row b)
    (c.whole_row-row.ensures.within b behind) in
    let moved = subst (λ n. has c.both_up_and_down-horizontal.result j
    ≡ ((ltb j 1024 && (leb i j && p (j - i))) || p (j + (n - i))))
    c.order-order.ensures.value (c.both_up_and_down-horizontal.ensures j) in
    linked_from_symmetric t i j k (has c.or.result j) (has c.and-diagonal.result j)
    (has c.both_up_and_down-horizontal.result j)
    c.requires.start below place.0 place.1 (symmetric_tight t c.requires.sides.columns_are)
    (c.or.ensures j)
    (c.and-diagonal.ensures j ∙ ap₂ (λ (x y : Bool). x && y) (next_is j (omega arith))
    (c.down_one.ensures j ∙ row_is (j + 1) (omega arith)
    ∙ same_tight t i (j + 1) i ((j + 1) % q) refl (sym (mod-mod (j + 1) q))))
    (round_turn q i j p (has c.both_up_and_down-horizontal.result j)
    (omega arith) c.requires.start below round past moved
    ∙ ap₂ (λ (x y : Bool). x && y) (row_is k (omega (arith, place.0)))
    (next_is k (omega (arith, place.0))))
