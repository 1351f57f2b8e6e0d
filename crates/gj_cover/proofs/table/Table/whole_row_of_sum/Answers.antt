use Rattle.std.proofs.Common.{◌≡◌, ◌+◌, ◌-◌, ◌%◌, ◌<◌, refl, ap, sym, ◌∙◌, arith}
use Rattle.std.proofs.Math.Nat.{mod-mod, mod-lt}
use Rattle.gj_faces.proofs.Periods.{same_sum}
use Rattle.gj_cover.specs.SetRows.{in_row}
use Rattle.gj_cover.proofs.TablePairs.{read_tight, same_tight}
use Rattle.gj_cover.proofs.table.Table.whole_row_of_sum.Goals as goal

pub returns : goal.returns
returns c a b a_within b_below e =
    let t = c.args.self.now in
    let q = t.order in
    let place = c.args.place in
    let row = c.wrapped.result in
    let some : 0 < q = omega arith in
    let first = a % q in
    let first_below = mod-lt a {m = q} some in
    let sum : (a % q + b) % q ≡ c.args.sum % q = same_sum q (a % q) b a b (mod-mod a q) refl ∙ e in
    let same : row ≡ (place + (q - (a % q + b) % q)) % q =
    c.wrapped.ensures.value
    ∙ ap (λ n. (place + (q - n)) % q) (c.wrapped-sum.ensures.value ∙ sym sum) in
    c.whole_row.ensures.tells a a_within ∙ same_tight t row a row (a % q) refl (sym (mod-mod a q))
    ∙ sym (read_tight t row (a % q) c.wrapped.ensures.below first_below)
    ∙ ap (λ n. in_row t.rows.items n (a % q)) same
    ∙ c.requires.sides.sums_are (a % q) b first_below b_below
    ∙ read_tight t (a % q) b first_below b_below ∙ same_tight t (a % q) b a b (mod-mod a q) refl
