use Rattle.std.proofs.Common.{◌≡◌, ◌∙◌, ◌≤◌, [], ◌∷◌, Some, IfSome, decimal, get_or, false, true, ap, subst, sym, arith}
use Rattle.std.proofs.lemmas.Slice.Eq.{bytes_eq-Decides}
use Rattle.gj_words.proofs.Numbers.{begins_so, number_read, one_number, read_spells, zero_spelled}
use Rattle.gj_words.proofs.number.number_of.Goals as goal

pub returns-then-eq-clause-found : goal.returns-then-eq-clause-found
returns-then-eq-clause-found c =
    (bytes_eq-Decides c.args.word.now (48 ∷ [])).0 (sym c.eq.ensures ∙ c.if-eq.true)
    ∙ sym zero_spelled

pub returns-then-eq-clause-only : goal.returns-then-eq-clause-only
returns-then-eq-clause-only c =
    λ n small e. ap Some
    (one_number 0 n (omega arith) small (sym (returns-then-eq-clause-found c) ∙ e))

pub returns-then-not-begins_above_zero-clause-only :
    goal.returns-then-not-begins_above_zero-clause-only
returns-then-not-begins_above_zero-clause-only c = λ n small e.
    let other : c.args.word.now ≡ 48 ∷ [] → ⊥ = λ is.
    let wrong : false ≡ true = sym c.if-eq.false ∙ c.eq.ensures
    ∙ (bytes_eq-Decides c.args.word.now (48 ∷ [])).1 is in
    cc
    in
    let first = begins_so c.args.word.now n small other e in
    let at : get_or c.as_bytes.result.now 0 0 ≡ get_or c.args.word.now 0 0 =
    ap (λ ds. get_or ds 0 0) c.as_bytes.ensures.value in
    let wrong : false ≡ true = sym c.if-not-begins_above_zero.true
    ∙ c.begins_above_zero.ensures.1 (omega arith, omega arith) in
    cc

pub returns-clause-found : goal.returns-clause-found
returns-clause-found c =
    let at : get_or c.as_bytes.result.now 0 0 ≡ get_or c.args.word.now 0 0 =
    ap (λ ds. get_or ds 0 0) c.as_bytes.ensures.value in
    let first : 49 ≤ get_or c.args.word.now 0 0 =
    omega (arith, at, (c.begins_above_zero.ensures.0 c.if-not-begins_above_zero.false).0) in
    subst (λ found. IfSome found (λ n. c.args.word.now ≡ decimal n)) (sym c.ok.ensures.value)
    (read_spells c.args.word.now c.parse.result first c.parse.ensures.value.0)

pub returns-clause-only : goal.returns-clause-only
returns-clause-only c = λ n small e. c.ok.ensures.value
    ∙ number_read c.args.word.now c.parse.result n small c.parse.ensures.value.0 e
