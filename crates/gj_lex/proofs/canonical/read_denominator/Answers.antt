use Rattle.std.proofs.Common.{◌≡◌, ◌≤◌, Some, ap, sym, ◌∙◌, arith, unwrap_or, unsigned_abs}
use Rattle.std.proofs.lemmas.Int.{ints, to_z_pos}
use mir.Syntax.{w128}
use Rattle.gj_lex.specs.NumberText.{denominator_text}
use Rattle.gj_lex.proofs.CanonicalTexts.{empty_word, denominator_one, denominator_none, denominator_found, denominator_read, denominator_refused}
use Rattle.gj_lex.proofs.canonical.read_denominator.Goals as goal

pub returns-in_default-clause-found : goal.returns-in_default-clause-found
returns-in_default-clause-found c =
    let two : 2 ≤ c.in_ok-n.n = omega arith in
    let found = c.in_ok-n.ensures.found in
    let spelled : c.args.word.now ≡ denominator_text c.in_ok-n.n =
    denominator_found _ _ c.in_ok-n.n c.in_ok-strip_prefix.ensures.cases.0
    c.in_ok-strip_prefix.ensures.cases.1 found.1 two in
    rw (to_z_pos w128 c.in_ok-n.n found.0) (omega (arith, ints), spelled)

pub returns-then-is_empty-clause-found : goal.returns-then-is_empty-clause-found
returns-then-is_empty-clause-found c =
    (omega (arith, ints), empty_word _ c.if-is_empty.ensures ∙ sym denominator_one)

pub returns-then-is_empty-clause-only : goal.returns-then-is_empty-clause-only
returns-then-is_empty-clause-only c = λ d some small e.
    let one = denominator_none (unsigned_abs d) (omega (arith, ints))
    (sym (empty_word _ c.if-is_empty.ensures) ∙ e) in
    ap Some (omega (arith, ints))

pub returns-in_err-strip_prefix-clause-only : goal.returns-in_err-strip_prefix-clause-only
returns-in_err-strip_prefix-clause-only c = λ d some small e.
    absurd (denominator_refused c.args.word.now d c.if-is_empty.ensures
    c.in_err-strip_prefix.ensures.cases some e)

pub returns-in_err-n-clause-only : goal.returns-in_err-n-clause-only
returns-in_err-n-clause-only c = λ d some small e.
    let h = denominator_read _ _ d c.in_ok-strip_prefix.ensures.cases.0
    c.in_ok-strip_prefix.ensures.cases.1 some e in
    let none = c.in_err-n.ensures.only (unsigned_abs d) small h.1 in
    cc

pub returns-in-0-clause-only : goal.returns-in-0-clause-only
returns-in-0-clause-only c = λ d some small e.
    let h = denominator_read _ _ d c.in_ok-strip_prefix.ensures.cases.0
    c.in_ok-strip_prefix.ensures.cases.1 some e in
    let same : c.in_ok-n.n ≡ unsigned_abs d =
    ap (λ o. unwrap_or o 0) (c.in_ok-n.ensures.only (unsigned_abs d) small h.1) in
    absurd (omega (arith, h.0))

pub returns-in_default-clause-only : goal.returns-in_default-clause-only
returns-in_default-clause-only c = λ d some small e.
    let h = denominator_read _ _ d c.in_ok-strip_prefix.ensures.cases.0
    c.in_ok-strip_prefix.ensures.cases.1 some e in
    let same : c.in_ok-n.n ≡ unsigned_abs d =
    ap (λ o. unwrap_or o 0) (c.in_ok-n.ensures.only (unsigned_abs d) small h.1) in
    ap Some (omega (arith, ints))
