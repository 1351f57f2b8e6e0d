use Rattle.std.proofs.Common.{◌≡◌, ℕ, ◌+◌, ◌<◌, List, [], ◌∷◌, ◌++◌, length, take, get_or, sym, ap, ◌∙◌, append_assoc}
use Rattle.std.proofs.lemmas.List.{take_more}
use Rattle.gj_forms.proofs.begins.behind_text.Goals as goal

pub loop-byte-preserved : goal.loop-byte-preserved
loop-byte-preserved c =
    one_more _ c.args.text.now _ _ c.loop-byte.byte-index _ c.loop-byte-test.true
    c.loop-byte.invariant c.in_ok-first.ensures.cases.0
    c.if-first-byte.false
  where
    one_more : (bytes text rest behind : List ℕ) (i first : ℕ) → i < length text →
        bytes ≡ take i text ++ rest → rest ≡ first ∷ behind →
        first ≡ get_or text i 0 → bytes ≡ take (i + 1) text ++ behind
    one_more bytes text rest behind i first some is rest_is first_is =
        is ∙ ap (λ t. take i text ++ t) (rest_is ∙ ap (λ b. b ∷ behind) first_is)
        ∙ sym (append_assoc (take i text) (get_or text i 0 ∷ []) behind)
        ∙ ap (λ t. t ++ behind) (sym (take_more text i 0 some))
