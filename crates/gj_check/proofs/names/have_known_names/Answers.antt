use Rattle.std.proofs.Common.{◌≡◌, ◌≢◌, ◌<◌, All, take, length, sym, ap, subst, ◌∙◌, arith}
use Rattle.std.proofs.lemmas.List.{take_all}
use Rattle.std.proofs.lemmas.List.Elements.{All-push}
use Rattle.std.specs.Cmp.Lexicographic.{other_text, bytes_decides}
use Rattle.gj_lemmas.proofs.Choices.{not_false}
use Rattle.gj_proof.proofs.AtPlaces.{with_place}
use Rattle.gj_check.proofs.SameNames.{names_of, one_name_more}
use Rattle.gj_check.proofs.names.have_known_names.Goals as goal

pub loop-index-preserved : goal.loop-index-preserved
loop-index-preserved c =
    let terms = c.args.terms.now in
    let known = c.args.known.now in
    let basic = c.args.basic.now in
    let n = c.loop-index.index in
    let t = c.index-terms-index.result in
    let k = c.index-known-index.result in
    let below : n < length terms = c.loop-index-test.true in
    let in_known : n < length known = omega arith in
    let same = (bytes_decides c.bytes-name.result.now c.bytes.result.now).0
    (not_false _ (sym c.ne.ensures ∙ c.if-ne.false)) in
    let other = other_text c.bytes-name.result.now c.bytes-else-ne.result.now
    (sym c.if-eq.false ∙ c.eq.ensures) in (
      one_name_more known terms n k t in_known below c.index-known-index.is c.index-terms-index.is
          c.loop-index.invariant.0
          (sym c.bytes-name.ensures.value ∙ same ∙ c.bytes.ensures.value
          ∙ ap (λ u. u.name) (sym c.index-known-index.is)),
      subst (All (λ u. u.name ≢ basic)) (sym (with_place terms n t below c.index-terms-index.is))
          (All-push (λ u. u.name ≢ basic) (take n terms) t c.loop-index.invariant.1
          (λ e. other (c.bytes-name.ensures.value ∙ e ∙ sym c.bytes-else-ne.ensures.value))),
    )

pub returns : goal.returns
returns c = λ yes.
    let terms = c.args.terms.now in
    let known = c.args.known.now in
    let n = c.loop-index.index in
    let basic = c.args.basic.now in
    let whole = take_all n terms c.loop-index-test.false in
    let all_known = take_all n known (omega arith) in (
      subst (λ xs. names_of xs ≡ names_of known) whole
          (subst (λ xs. names_of (take n terms) ≡ names_of xs) all_known c.loop-index.invariant.0),
      subst (All (λ u. u.name ≢ basic)) whole c.loop-index.invariant.1,
    )
