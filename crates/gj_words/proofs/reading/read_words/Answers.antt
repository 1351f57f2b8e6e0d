use Rattle.std.proofs.Common.{◌≡◌, ◌∙◌, List, ℕ, map, Some, None, refl, sym, ap, subst, arith}
use Rattle.std.specs.Borrow.{Bor}
use Rattle.std.specs.String.{string_bytes}
use Rattle.gj_words.specs.Bare.{bare_words}
use Rattle.gj_words.specs.Line.{AreNoLine, words_of}
use Rattle.gj_words.proofs.Spelling.{facts, in_words, fault_up, not_refused, one, request_spelled, spelled, unnamed}
use Rattle.gj_words.proofs.reading.read_words.Goals as goal

-- a flag that stands more than once
pub returns-in_err-json-clause-only : goal.returns-in_err-json-clause-only
returns-in_err-json-clause-only c =
    λ r s. absurd (omega
    (arith, c.in_err-json.ensures.again, (facts (map string_bytes c.args.words.now) r s).json_once))

pub returns-in_err-json-clause-refused : goal.returns-in_err-json-clause-refused
returns-in_err-json-clause-refused c =
    λ e r s. omega (
      arith,
      c.in_err-json.ensures.again,
      (facts (map string_bytes c.args.words.now) r s).json_once,
    )

pub returns-in_err-jumps-clause-only : goal.returns-in_err-jumps-clause-only
returns-in_err-jumps-clause-only c =
    λ r s. absurd (omega (
      arith,
      c.in_err-jumps.ensures.again,
      (facts (map string_bytes c.args.words.now) r s).jumps_once,
    ))

pub returns-in_err-jumps-clause-refused : goal.returns-in_err-jumps-clause-refused
returns-in_err-jumps-clause-refused c =
    λ e r s. omega (
      arith,
      c.in_err-jumps.ensures.again,
      (facts (map string_bytes c.args.words.now) r s).jumps_once,
    )

-- words that are no line
pub returns-in_err-line-clause-only : goal.returns-in_err-line-clause-only
returns-in_err-line-clause-only c = λ r s.
    let bare : map (λ (w : Bor (List ℕ)). w.now) c.as_slice.result.now
    ≡ bare_words (map string_bytes c.args.words.now)
    = ap (map (λ (w : Bor (List ℕ)). w.now)) c.as_slice.ensures.value ∙ c.in_ok-bare.ensures in
    fault_up r c.from_residual-in_err-line.result _ c.from_residual-in_err-line.ensures.1
    (λ is. unnamed (map string_bytes c.args.words.now)
    (subst AreNoLine bare (c.in_err-line.ensures.refused (cc))) r s)

pub returns-in_err-line-clause-refused : goal.returns-in_err-line-clause-refused
returns-in_err-line-clause-refused c = λ e r s. not_refused r c.from_residual-in_err-line.result
    (returns-in_err-line-clause-only c r s) e

-- a line, and the request of it
pub returns-in-Some-clause-ok : goal.returns-in-Some-clause-ok
returns-in-Some-clause-ok c =
    let line_is : words_of c.in_ok-line.line ≡ bare_words (map string_bytes c.args.words.now)
    = sym c.in_ok-line.ensures.ok ∙ ap (map (λ (w : Bor (List ℕ)). w.now)) c.as_slice.ensures.value
    ∙ c.in_ok-bare.ensures in
    spelled (map string_bytes c.args.words.now) c.in-Some.request c.in_ok-json.ensures.once
    c.in_ok-jumps.ensures.once
    (in_words _ _ _ _ _ _ c.in-Some.request line_is c.in_ok-json.ensures.given
    c.in_ok-jumps.ensures.given c.in-Some.ensures.found)

pub returns-in-Some-clause-only : goal.returns-in-Some-clause-only
returns-in-Some-clause-only c = λ r s. one (map string_bytes c.args.words.now) c.in-Some.request r
    (returns-in-Some-clause-ok c) s

pub returns-clause-only : goal.returns-clause-only
returns-clause-only c = λ r s e.
    let line_is : words_of c.in_ok-line.line ≡ bare_words (map string_bytes c.args.words.now)
    = sym c.in_ok-line.ensures.ok ∙ ap (map (λ (w : Bor (List ℕ)). w.now)) c.as_slice.ensures.value
    ∙ c.in_ok-bare.ensures in
    let is : None ≡ Some r
    = c.in-None.ensures.only r
    (in_words _ _ _ _ _ _ r (sym line_is) (sym c.in_ok-json.ensures.given)
    (sym c.in_ok-jumps.ensures.given)
    (request_spelled (map string_bytes c.args.words.now) r s)) in
    cc

pub returns-clause-refused : goal.returns-clause-refused
returns-clause-refused c = λ e r s. returns-clause-only c r s refl
