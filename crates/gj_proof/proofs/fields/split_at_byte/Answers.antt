use Rattle.std.proofs.Common.{◌≡◌, ◌+◌, ◌==◌, ◌∷◌, ◌++◌, ◌∙◌, take, drop, get_or, sym, ap}
use Rattle.std.proofs.lemmas.Bool.{eqb-true}
use Rattle.std.proofs.lemmas.List.{take_rest}
use Rattle.gj_lex.proofs.FirstPlaces.{first_place}
use Rattle.gj_proof.proofs.fields.split_at_byte.Goals as goal

pub returns : goal.returns
returns c =
    let bytes = c.args.bytes.now in
    let mark = c.args.mark in
    let end = c.in_ok-end.end in
    let parts = first_place (λ b. b == mark) bytes end (sym c.in_ok-end.ensures) in
    let same : get_or bytes end 0 ≡ mark = eqb-true _ _ parts.2 in
    parts.1 ∙ ap (λ b. take end bytes ++ b ∷ drop (end + 1) bytes) same
    ∙ ap (λ t. take end bytes ++ mark ∷ t) (sym (take_rest bytes (end + 1)))
