use Rattle.std.proofs.Common.{ap, ◌∙◌, take, drop, unwrap_or, pos}
use Rattle.std.proofs.lemmas.List.Sums.{prefix_len-le-length}
use Rattle.gj_lex.proofs.CanonicalTexts.{parts_of_text, within_bits}
use Rattle.gj_lex.proofs.canonical.read_parts.Goals as goal

pub split_at-requires : goal.split_at-requires
split_at-requires c = rw c.numerator_len.ensures (prefix_len-le-length _ c.args.word.now)

pub returns-in_err-read_numerator-clause-only : goal.returns-in_err-read_numerator-clause-only
returns-in_err-read_numerator-clause-only c = λ n d small small' some e.
    let parts = parts_of_text c.args.word.now n d small some e in
    let front = c.split_at.ensures.front ∙ ap (λ k. take k c.args.word.now) c.numerator_len.ensures
    ∙ parts.0 in
    let none = c.in_err-read_numerator.ensures.only n small front in
    cc

pub returns-in_err-read_denominator-clause-only : goal.returns-in_err-read_denominator-clause-only
returns-in_err-read_denominator-clause-only c = λ n d small small' some e.
    let parts = parts_of_text c.args.word.now n d small some e in
    let back = c.split_at.ensures.back ∙ ap (λ k. drop k c.args.word.now) c.numerator_len.ensures
    ∙ parts.1 in
    let none = c.in_err-read_denominator.ensures.only d some small' back in
    cc

pub returns-clause-only : goal.returns-clause-only
returns-clause-only c = λ n d small small' some e.
    let parts = parts_of_text c.args.word.now n d small some e in
    let front = c.split_at.ensures.front ∙ ap (λ k. take k c.args.word.now) c.numerator_len.ensures
    ∙ parts.0 in
    let back = c.split_at.ensures.back ∙ ap (λ k. drop k c.args.word.now) c.numerator_len.ensures
    ∙ parts.1 in
    let num = c.in_ok-read_numerator.ensures.only n small front in
    let den = c.in_ok-read_denominator.ensures.only d some small' back in
    let num_is = within_bits _ n (ap (λ o. unwrap_or o (pos 0)) num) small in
    let den_is = within_bits _ d (ap (λ o. unwrap_or o (pos 0)) den) small' in
    cc
