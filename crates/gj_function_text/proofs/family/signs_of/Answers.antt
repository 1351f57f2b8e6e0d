use Rattle.std.proofs.Common.{◌≡◌, ℕ, nat_eq, [], ◌∷◌, ◌++◌, get_or, map, inl, inr, sym, ap, ap₂, ◌∙◌}
use Rattle.std.proofs.lemmas.List.{map-append, take_more, take_all}
use Rattle.gj_function_text.specs.FamilyLine.{sign_byte}
use Rattle.gj_function_text.specs.FamilyRead.{IsSign}
use Rattle.gj_function_text.proofs.family.signs_of.Goals as goal

-- a sign is the byte of what is read of it
sign_read : (b : ℕ) → IsSign b → b ≡ sign_byte (nat_eq b 43)
sign_read b (inl e) = e ∙ ap (λ n. sign_byte (nat_eq n 43)) (sym e)
sign_read b (inr e) = e ∙ ap (λ n. sign_byte (nat_eq n 43)) (sym e)

pub loop-byte-init : goal.loop-byte-init
loop-byte-init c = ap (map sign_byte) (sym c.in_ok-signs.ensures.items)

pub loop-byte-preserved : goal.loop-byte-preserved
loop-byte-preserved c =
    let word = c.args.word.now in
    let i = c.loop-byte.byte-index in
    let byte = get_or word i 0 in
    let signs = c.loop-byte.signs.items in
    take_more word i 0 c.loop-byte-test.true
    ∙ ap₂ (λ bytes b. bytes ++ b ∷ []) c.loop-byte.invariant
    (sign_read byte (c.requires i 0 c.loop-byte-test.true))
    ∙ sym (map-append sign_byte signs (nat_eq byte 43 ∷ []))
    ∙ ap (map sign_byte) (sym c.in_ok-push.ensures.items)

pub returns : goal.returns
returns c = sym (take_all c.loop-byte.byte-index c.args.word.now c.loop-byte-test.false)
    ∙ c.loop-byte.invariant
