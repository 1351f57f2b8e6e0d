use Rattle.std.proofs.Common.{◌≡◌, ◌%◌, ◌<◌, length, inl, inr, ap, sym, ◌∙◌, arith}
use Rattle.std.proofs.Math.Nat.{mod-eq_of_lt, mod_self}
use Rattle.std.proofs.lemmas.Bool.{cases_lt}
use Rattle.gj_cover.specs.SetRows.{in_row}
use Rattle.gj_cover.specs.Table.{is_tight_in}
use Rattle.gj_cover.proofs.SetRows.{row_has}
use Rattle.gj_cover.proofs.table.Table.whole_row.Goals as goal

pub returns-clause-tells : goal.returns-clause-tells
unfolding is_tight_in
returns-clause-tells c b below =
    let t = c.args.self.now in
    let q = t.order in
    let rows = t.rows.items in
    let a = c.wrapped.result in
    let in' : a < length t.rows.items = omega (arith, c.wrapped.ensures.below, t.rows_length) in
    let read = row_has rows a b c.index.result.now in' c.index.ensures in
    sym read
    ∙ elim (cases_lt b q) [
      | inl low ↦ ap (in_row rows a) (sym (mod-eq_of_lt low))
      | inr high ↦
          let last : b ≡ q = omega arith in
          ap (in_row rows a) last ∙ c.requires.sides.round.round a c.wrapped.ensures.below
          ∙ ap (in_row rows a) (sym (ap (λ n. n % q) last ∙ mod_self q))
    ]
    ∙ ap (λ n. in_row rows n (b % q)) c.wrapped.ensures.value

pub returns-clause-within : goal.returns-clause-within
returns-clause-within c b past =
    let t = c.args.self.now in
    let a = c.wrapped.result in
    let in' : a < length t.rows.items = omega (arith, c.wrapped.ensures.below, t.rows_length) in
    sym (row_has t.rows.items a b c.index.result.now in' c.index.ensures)
    ∙ c.requires.sides.round.within a b c.wrapped.ensures.below past
