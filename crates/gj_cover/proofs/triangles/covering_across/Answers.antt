use Rattle.std.proofs.Common.{◌≡◌, ◌+◌, ◌%◌, ◌<◌, ◌&&◌, ◌||◌, Bool, not, eqb, refl, ap, ap₂, sym, ◌∙◌, inl, inr, arith}
use Rattle.std.proofs.Math.Bool.{and-true}
use Rattle.std.proofs.Math.Nat.{mod-mod, mod-lt, mod-eq_of_lt}
use Rattle.std.proofs.lemmas.Bool.{and_parts, or_cases, ne_eqb}
use Rattle.gj_faces.proofs.Periods.{same_sum}
use Rattle.gj_loops.specs.IndexSets.{has}
use Rattle.gj_cover.proofs.CoveringSets.{in_another}
use Rattle.gj_cover.proofs.Parts.{add_same}
use Rattle.gj_cover.proofs.TablePairs.{same_tight}
use Rattle.gj_cover.proofs.Turns.{place_of, turned_place, in_below, back_in}
use Rattle.gj_cover.proofs.triangles.covering_across.Goals as goal

pub returns-clause-within : goal.returns-clause-within
returns-clause-within c j e =
    let q = c.args.table.now.order in
    let is : c.args.table.now.order ≡ c.args.table.now.order = refl in
    let any = and_parts (has c.or-places.result j) (not (eqb j c.args.i))
    (sym (c.remove.ensures j) ∙ e) in
    elim (or_cases (has c.and-second.result j) (has c.and-third.result j)
    (sym (c.or-places.ensures j) ∙ any.0)) [
      | inl x ↦
          let both = and_parts (has c.and.result j) (has c.or.result j)
          (sym (c.and-second.ensures j) ∙ x) in
          let edge = and_parts (has c.turned_back-east.result j) (has c.column-north.result.now j)
          (sym (c.and.ensures j) ∙ both.0) in
          in_below q q j (has c.column-here.result.now ((j + 1) % q))
          (has c.turned_back-east.result j) is (c.turned_back-east.ensures j) edge.0
      | inr x ↦
          let both = and_parts (has c.and-2.result j) (has c.or-2.result j)
          (sym (c.and-third.ensures j) ∙ x) in
          let edge = and_parts (has c.firsts-sum.result.now j) (has c.turned_back-later.result j)
          (sym (c.and-2.ensures j) ∙ both.0) in
          in_below q q j (has c.firsts-next_sum.result.now ((j + 1) % q))
          (has c.turned_back-later.result j) is (c.turned_back-later.ensures j) edge.1
    ]

pub returns-clause-covering : goal.returns-clause-covering
returns-clause-covering c a below other =
    let t = c.args.table.now in
    let q = t.order in
    let i = c.args.i in
    let is : c.args.table.now.order ≡ c.args.table.now.order = refl in
    let up = (a + 1) % q in
    let some : 0 < q = omega arith in
    let next = mod-lt (a + 1) some in
    let i_is = mod-eq_of_lt c.requires in
    let b = place_of q a i in
    let place = turned_place q a i below c.requires in
    let short = place_of q up i in
    let short_place = turned_place q up i next c.requires in
    let sum : (a + b) % q ≡ i % q = place.1 ∙ sym i_is in
    let later_order : a + 1 + b ≡ a + b + 1 = omega arith in
    let later_sum : (up + b) % q ≡ (i + 1) % q =
    same_sum q up b (a + 1) b (mod-mod (a + 1) q) refl ∙ ap (λ m. m % q) later_order
    ∙ add_same q 1 (a + b) i sum in
    let next_order : a + (b + 1) ≡ a + b + 1 = omega arith in
    let next_sum : (a + (b + 1) % q) % q ≡ (i + 1) % q =
    same_sum q a ((b + 1) % q) a (b + 1) refl (mod-mod (b + 1) q) ∙ ap (λ m. m % q) next_order
    ∙ add_same q 1 (a + b) i sum in
    let short_leads : (a + 1 + short) % q ≡ i =
    same_sum q (a + 1) short up short (sym (mod-mod (a + 1) q)) refl ∙ short_place.1 in
    let east = back_in q q a (has c.column-here.result.now)
    (has c.turned_back-east.result a) is below (c.turned_back-east.ensures a)
    ∙ c.column-here.ensures up next ∙ same_tight t up i (a + 1) i (mod-mod (a + 1) q) refl in
    let corner = back_in q q a (has c.column-north.result.now)
    (has c.turned_back-corner.result a) is below (c.turned_back-corner.ensures a)
    ∙ c.column-north.ensures up next
    ∙ same_tight t up (i + 1) (a + 1) (i + 1) (mod-mod (a + 1) q) refl in
    let later = back_in q q a (has c.firsts-next_sum.result.now)
    (has c.turned_back-later.result a) is below (c.turned_back-later.ensures a)
    ∙ c.firsts-next_sum.ensures up b next place.0 later_sum
    ∙ same_tight t up b (a + 1) b (mod-mod (a + 1) q) refl in
    let beside = c.firsts-next_sum.ensures a ((b + 1) % q) below (mod-lt (b + 1) some) next_sum
    ∙ same_tight t a ((b + 1) % q) a (b + 1) refl (mod-mod (b + 1) q) in
    let shorter = back_in q q a (has c.firsts-sum.result.now)
    (has c.turned_back-shorter.result a) is below (c.turned_back-shorter.ensures a)
    ∙ c.firsts-sum.ensures up short next short_place.0 (short_place.1 ∙ sym i_is)
    ∙ same_tight t up short (a + 1) short (mod-mod (a + 1) q) refl in
    in_another t a b short i (has c.remove.new.self a) below place.0 short_place.0 place.1
    short_leads c.requires other
    (c.remove.ensures a ∙ ap (λ x. has c.or-places.result a && not x) (ne_eqb a i other)
    ∙ and-true (has c.or-places.result a)
    ∙ c.or-places.ensures a ∙ ap₂ (λ (x y : Bool). x || y)
    (c.and-second.ensures a ∙ ap₂ (λ (x y : Bool). x && y)
    (c.and.ensures a ∙ ap₂ (λ (x y : Bool). x && y) east (c.column-north.ensures a below))
    (c.or.ensures a ∙ ap₂ (λ (x y : Bool). x || y) (c.column-here.ensures a below) corner))
    (c.and-third.ensures a ∙ ap₂ (λ (x y : Bool). x && y)
    (c.and-2.ensures a ∙ ap₂ (λ (x y : Bool). x && y) (c.firsts-sum.ensures a b below place.0 sum)
    later)
    (c.or-2.ensures a ∙ ap₂ (λ (x y : Bool). x || y) beside shorter)))
