use Rattle.std.proofs.Common.{◌≡◌, ◌+◌, ◌-◌, ◌%◌, ap, sym, ◌∙◌}
use Rattle.gj_cover.specs.SetRows.{in_row}
use Rattle.gj_cover.proofs.TablePairs.{read_tight}
use Rattle.gj_cover.proofs.table.Table.row_of_sum.Goals as goal

pub returns : goal.returns
returns c a b a_below b_below e =
    let t = c.args.self.now in
    let q = t.order in
    let place = c.args.place in
    let row = c.wrapped.result in
    let same : row ≡ (place + (q - (a + b) % q)) % q =
    c.wrapped.ensures.value
    ∙ ap (λ n. (place + (q - n)) % q) (c.wrapped-sum.ensures.value ∙ sym e) in
    c.row.ensures a a_below ∙ sym (read_tight t row a c.wrapped.ensures.below a_below)
    ∙ ap (λ n. in_row t.rows.items n a) same ∙ c.requires.sides.sums_are a b a_below b_below
    ∙ read_tight t a b a_below b_below
