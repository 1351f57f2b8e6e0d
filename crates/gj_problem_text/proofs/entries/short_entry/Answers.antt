use Rattle.std.proofs.Common.{◌≡◌, length, arith}
use Rattle.std.proofs.lemmas.Bool.Decides.{nat_tests}
use Rattle.gj_problem_text.proofs.ShortEntries.{entry_told}
use Rattle.gj_problem_text.proofs.entries.short_entry.Goals as goal

pub returns : goal.returns
returns c =
    let none : length c.in_ok-value.rest.now ≡ 0 = grind (arith, nat_tests) in
    entry_told c.args.line.now c.in_ok-name.name.now c.in_ok-name.behind.now _
    c.in_ok-value.rest.now c.in_ok-behind_entry.field-0.now c.in_ok-value.value c.in_ok-behind_entry.ensures
    c.in_ok-name.ensures.found c.in_ok-behind_byte.ensures.found c.in_ok-value.ensures.found
    none
