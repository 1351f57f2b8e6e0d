use Rattle.std.proofs.Common.{rules, not, ap, ◌∙◌, ◌≡◌, ◌≤◌, ◌+◌, ◌-◌, length, unwrap_or, arith}
use Rattle.std.specs.List.{position_or_len}
use Rattle.std.proofs.lemmas.List.Sums.{prefix_len-le-length}
use Rattle.gj_lex.proofs.CanonicalTexts.{position_unwrapped}
use Rattle.gj_row.specs.Reading.{is_comma}
use Rattle.gj_row.proofs.fields.leading_commas.Goals as goal

-- the commas behind the parts are those that the rest begins with
behind : (c : goal.After-unwrap_or-more) →
    c.unwrap_or-more.result
    ≡ position_or_len (λ b. not (is_comma b)) c.behind_parts_of_commas-left.result.now
behind c =
    let left = c.behind_parts_of_commas-left.result.now in
    c.unwrap_or-more.ensures ∙ ap (λ o. unwrap_or o (length left)) c.first_filled.ensures
    ∙ position_unwrapped (λ b. not (is_comma b)) left

pub overflow_add-result : goal.overflow_add-result
overflow_add-result c =
    let left = c.behind_parts_of_commas-left.result.now in
    let line = c.args.line.now in
    let most : position_or_len (λ b. not (is_comma b)) left ≤ length left =
    prefix_len-le-length _ left in
    let within : length line - length left + c.unwrap_or-more.result ≤ length line =
    omega (arith, behind c, most, c.behind_parts_of_commas-left.ensures.shorter) in
    search rules

pub returns-clause-count : goal.returns-clause-count
returns-clause-count c =
    omega (
      arith,
      behind c,
      c.behind_parts_of_commas-left.ensures.count,
      c.behind_parts_of_commas-left.ensures.shorter,
    )

pub returns-clause-within : goal.returns-clause-within
returns-clause-within c =
    let left = c.behind_parts_of_commas-left.result.now in
    let most : position_or_len (λ b. not (is_comma b)) left ≤ length left =
    prefix_len-le-length _ left in
    omega (arith, behind c, most, c.behind_parts_of_commas-left.ensures.shorter)
