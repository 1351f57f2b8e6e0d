-- Lines of entries whose value ends the line, and the constraint that an entry is of.
use Rattle.std.proofs.Common.{◌≡◌, ℕ, zero, suc, ◌+◌, ◌<◌, set, false, true, List, [], ◌∷◌, ◌++◌, length, get_or, codes, Option, Some, None, IfSome, is_some, refl, sym, ◌∙◌, ap, subst, inl, arith, length-append}
use Rattle.std.specs.Borrow.{Bor}
use Rattle.std.proofs.lemmas.Bool.Decides.{nat_tests}
use Rattle.std.proofs.lemmas.List.Elements.{All-weaker}
use Rattle.gj_frac.specs.declared.Frac.{Frac}
use Rattle.gj_lex.specs.NumberText.{IsWritten}
use Rattle.gj_lex.specs.NumberText.IsWritten.{whole, ratio, point}
use Rattle.gj_lex.specs.SpelledNumbers.{IsFractionWord}
use Rattle.gj_lex.specs.Words.{is_blank, word_texts}
use Rattle.gj_lex.specs.declared.spelling.Spelling.TheVariants.{Lenient}
use Rattle.gj_lex.proofs.LeadingNumbers.{BeginsWithFraction, IsLenientByte, lenient_bytes}
use Rattle.gj_lex.proofs.WordTexts.{skip_blank, take_word}
use Rattle.gj_problem.specs.declared.problem.Constraint.{Constraint}
use Rattle.gj_problem.specs.declared.problem.Entry.{Entry}
use Rattle.gj_problem_text.specs.ProblemLines.{entry, told_rule}
use Rattle.gj_problem_text.specs.Tasks.{AreLonger}

-- a word and a space at the front of a line
pub word_and_space : (line rest : List ℕ) → line ≡ codes "entry " ++ rest →
    word_texts line ≡ codes "entry" ∷ word_texts rest
word_and_space line rest is = ap word_texts is ∙ refl

-- such a line does not begin with `end`
pub entry_no_end : (o : Option (Bor (List ℕ))) (words more : List (List ℕ)) → is_some o ≡ true →
    IfSome o (λ rest. words ≡ codes "entry" ∷ word_texts rest.now) → words ≡ codes "end" ∷ more → ⊥
entry_no_end None words more some is end = cc some
entry_no_end (Some rest) words more some is end =
    let long = ap (λ ws. length (get_or ws 0 [])) (sym is ∙ end) in omega (arith, long)

no_blank : (b : ℕ) → IsLenientByte b → is_blank b ≡ false
no_blank b h = let high = h.high in grind (arith, nat_tests)

-- a word that spells a number has a byte
written_some : (word : List ℕ) (n d : ℕ) → IsWritten word n d → 0 < length word
written_some word n d (whole digits top bottom) = digits.0
written_some word n d (ratio front back is first second top bottom) =
    omega (arith, ap length is, length-append front (47 ∷ back), first.0)
written_some word n d (point front back is first second top bottom) =
    omega (arith, ap length is, length-append front (46 ∷ back), first.0)

number_some : (word : List ℕ) (x : Frac) → IsFractionWord Lenient word x → 0 < length word
number_some [] x (n, d, text, is) = written_some [] text.top d text.written
number_some (b ∷ word) x spelled = omega arith

-- a space and a number at the end of a line are its last word
number_at_end : (behind text rest word : List ℕ) (x : Frac) → behind ≡ 32 ∷ text →
    text ≡ word ++ rest → length rest ≡ 0 → IsFractionWord Lenient word x →
    word_texts behind ≡ word ∷ []
number_at_end behind text (b ∷ rest) word x space is none spelled = absurd (omega arith)
number_at_end behind text [] word x space is none spelled =
    ap word_texts space ∙ skip_blank 32 text refl ∙ ap word_texts is
    ∙ take_word word [] (number_some word x spelled)
    (All-weaker IsLenientByte (λ b. is_blank b ≡ false) no_blank word (lenient_bytes word x spelled))
    (λ some. absurd (omega arith))

-- a line of these tells the entry
pub entry_told : (line name behind text rest front : List ℕ) (x : Frac) →
    word_texts line ≡ codes "entry" ∷ word_texts front →
    word_texts front ≡ name ∷ word_texts behind → behind ≡ 32 ∷ text →
    BeginsWithFraction text x rest → length rest ≡ 0 →
    told_rule.Spells (word_texts line) (entry name x)
entry_told line name behind text rest front x first second space (word, is, spelled) none =
    let words : word_texts line ≡ codes "entry" ∷ name ∷ word ∷ [] =
    first ∙ ap (λ ws. codes "entry" ∷ ws) (second ∙ ap (λ ws. name ∷ ws)
    (number_at_end behind text rest word x space is none spelled)) in
    subst (λ ws. told_rule.Spells ws (entry name x)) (sym words)
    ((refl, (refl, (inl spelled, tt))), tt)

-- ---- the constraint that an entry is of

-- a list of constraints with one more entry in the last
pub longer_at_last : (old : List Constraint) (k : ℕ) (last : Constraint) (e : Entry) →
    k + 1 ≡ length old → last ≡ get_or old k last →
    AreLonger old e (set old k (record last { entries = last.entries ++ e ∷ [] }))
longer_at_last [] k last e at is = absurd (omega arith)
longer_at_last (c ∷ []) (suc k) last e at is = absurd (omega arith)
longer_at_last (c ∷ []) zero last e at is = record {
  others = [];
  last = last;
  old_is = ap (λ (d : Constraint). d ∷ []) (sym is);
  new_is = refl;
}
longer_at_last (c ∷ d ∷ rest) zero last e at is = absurd (omega arith)
longer_at_last (c ∷ d ∷ rest) (suc k) last e at is =
    let longer = longer_at_last (d ∷ rest) k last e (omega (arith, at)) is in
    record {
      others = c ∷ longer.others;
      last = longer.last;
      old_is = ap (λ (ds : List Constraint). c ∷ ds) longer.old_is;
      new_is = ap (λ (ds : List Constraint). c ∷ ds) longer.new_is;
    }
