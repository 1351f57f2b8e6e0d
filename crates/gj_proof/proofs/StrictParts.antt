-- Strict lines of a proof text, as bytes and as words.
use Rattle.std.proofs.Common.{◌≡◌, ℕ, List, [], ◌∷◌, ◌++◌, All, refl, sym, subst, ◌∙◌}
use Rattle.std.specs.List.{join_with_byte}
use Rattle.std.proofs.lemmas.List.{append_assoc}
use Rattle.gj_lex.specs.declared.spelling.Spelling.TheVariants.{Strict}
use Rattle.gj_forms.specs.TextLines.{HasStrictLine}
use Rattle.gj_forms.specs.Parts.{LineRule, line_part}
use Rattle.gj_lex.proofs.WordBytes.{IsPlain}
use Rattle.gj_forms.proofs.StrictLines.{plain_line}
use Rattle.gj_function_lines.specs.FunctionLines.{line}

-- ---- lines and their words

regroup : (a rest : List ℕ) → line a ++ rest ≡ a ++ 10 ∷ rest
regroup a rest = append_assoc a (10 ∷ []) rest

module _ {A : Type 0} (rule : LineRule A) where
  -- the bytes of a line are read as its words
  pub line_reads : (text rest : List ℕ) (words : List (List ℕ)) (a : A) → (words ≡ [] → ⊥) →
      All IsPlain words →
      rule.Spells words a → text ≡ line (join_with_byte 32 words) ++ rest →
      (line_part Strict rule).Reads text a rest
  line_reads text rest [] a some plain spells is = absurd (some refl)
  line_reads text rest (w ∷ ws) a some plain spells is =
      let same : text ≡ join_with_byte 32 (w ∷ ws) ++ 10 ∷ rest = is
      ∙ regroup (join_with_byte 32 (w ∷ ws)) rest in
      let strict = subst (λ t. HasStrictLine t (w ∷ ws) rest) (sym same)
      (plain_line w ws rest plain) in
      (text, w ∷ ws, (refl, strict), spells)

  -- and the words that were read are those bytes
  pub line_found : (text rest : List ℕ) (a : A) → (line_part Strict rule).Reads text a rest →
      (words : List (List ℕ)) × rule.Spells words a
      × (text ≡ line (join_with_byte 32 words) ++ rest)
  line_found text rest a (start, words, (at, strict), spells) =
      (words, spells, strict.spelled ∙ sym (regroup (join_with_byte 32 words) rest))

-- plain words in a line are a strict line
pub strict_line : (text rest w : List ℕ) (ws : List (List ℕ)) → All IsPlain (w ∷ ws) →
    text ≡ line (join_with_byte 32 (w ∷ ws)) ++ rest →
    HasStrictLine text (w ∷ ws) rest
strict_line text rest w ws plain is =
    subst (λ t. HasStrictLine t (w ∷ ws) rest)
    (sym (is ∙ regroup (join_with_byte 32 (w ∷ ws)) rest)) (plain_line w ws rest plain)
