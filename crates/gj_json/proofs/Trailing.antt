-- A line feed behind compact JSON is passed over.
use Rattle.std.proofs.Common.{◌≡◌, ℕ, Bool, true, false, cond, ◌&&◌, List, [], ◌∷◌, ◌++◌, option_and_then, refl, sym, ap, ap₂, subst, ◌∙◌, append_assoc}
use Rattle.json.specs.Token.{Token, begin_object, end_object, begin_array, end_array, key, string, number, boolean, null, bad}
use Rattle.json.specs.Word.{ends_word, word}
use Rattle.json.specs.Lex.{Lexeme, token, comma, colon, string_token, lex, between, fresh, punctuate, tokens}
use Rattle.json.specs.Json as json
use Rattle.json.specs.Print.{escape, quoted, token_text, begins, ends, print_from, print, IsPrintableOrBad, ArePrintableOrBad}
use Rattle.json.proofs.Numbered.{ArePrintableOrBad-tokens}
use Rattle.json.proofs.Printed.Strings.{content-escape, lex-escape}
use Rattle.json.proofs.Printed.Numbers.{lex-number, in_word-ended}
use Rattle.serde_json.specs.Read.{of_json, read, max_depth}

-- ---- one token, whatever follows it

abbrev lexemes : Token → List Lexeme
lexemes begin_object = token begin_object ∷ []
lexemes end_object = token end_object ∷ []
lexemes begin_array = token begin_array ∷ []
lexemes end_array = token end_array ∷ []
lexemes (key s) = token (string s) ∷ colon ∷ []
lexemes (string s) = token (string s) ∷ []
lexemes (number s) = token (number s) ∷ []
lexemes (boolean b) = token (boolean b) ∷ []
lexemes null = token null ∷ []
lexemes bad = []

quoted_first : (s r : List ℕ) → lex between (quoted s ++ r) ≡ token (string s) ∷ lex between r
unfolding lex
quoted_first s r =
    let e = append_assoc (escape s) (34 ∷ []) r in
    ap (λ l. lex between (34 ∷ l)) e ∙ ap₂ (λ o l. token (string_token o) ∷ l) (content-escape s r)
    (lex-escape s r)

token_first : (t : Token) (r : List ℕ) → IsPrintableOrBad t → (ends t ≡ true → ends_word r ≡ true) →
    lex between (token_text t ++ r) ≡ lexemes t ++ lex between r
unfolding lex word
token_first begin_object r h ended = refl
token_first end_object r h ended = refl
token_first begin_array r h ended = refl
token_first end_array r h ended = refl
token_first (key s) r h ended = ap (lex between) (append_assoc (quoted s) (58 ∷ []) r)
    ∙ quoted_first s (58 ∷ r)
token_first (string s) r h ended = quoted_first s r
token_first (number s) r h ended = lex-number s r h (ended refl)
token_first (boolean true) r h ended =
    ap₂ (λ b l. token (cond b (boolean true) bad) ∷ l) (ended refl) (in_word-ended r (ended refl))
token_first (boolean false) r h ended = ap₂ (λ b l. token (cond b (boolean false) bad) ∷ l)
    (ended refl) (in_word-ended r (ended refl))
token_first null r h ended = ap₂ (λ b l. token (cond b null bad) ∷ l) (ended refl)
    (in_word-ended r (ended refl))
token_first bad r h ended = refl

comma_first : (b : Bool) (r : List ℕ) →
    lex between (cond b (44 ∷ []) [] ++ r) ≡ cond b (comma ∷ []) [] ++ lex between r
unfolding lex
comma_first true r = refl
comma_first false r = refl

-- ---- what follows a value

value_ends : (ts : List Token) → ends_word (print_from true ts) ≡ true
unfolding print_from
value_ends [] = refl
value_ends (begin_object ∷ ts) = refl
value_ends (end_object ∷ ts) = refl
value_ends (begin_array ∷ ts) = refl
value_ends (end_array ∷ ts) = refl
value_ends (key s ∷ ts) = refl
value_ends (string s ∷ ts) = refl
value_ends (number s ∷ ts) = refl
value_ends (boolean b ∷ ts) = refl
value_ends (null ∷ ts) = refl
value_ends (bad ∷ ts) = refl

ends_before_line_feed : (r : List ℕ) → ends_word r ≡ true → ends_word (r ++ 10 ∷ []) ≡ true
ends_before_line_feed [] e = refl
ends_before_line_feed (x ∷ xs) e = e

-- ---- all tokens

line_feed_passed : (c : Bool) (ts : List Token) → ArePrintableOrBad ts →
    lex between (print_from c ts ++ 10 ∷ []) ≡ lex between (print_from c ts)
unfolding lex print_from
line_feed_passed c [] h = refl
line_feed_passed c (t ∷ ts) h =
    let b = c && begins t in
    let text = token_text t in
    let r = print_from (ends t) ts in
    let ended : ends t ≡ true → ends_word r ≡ true = λ e. ap (λ x. ends_word (print_from x ts)) e
    ∙ value_ends ts in
    append_then b text r (10 ∷ [])
    ∙ comma_first b (text ++ (r ++ 10 ∷ []))
    ∙ ap (λ l. cond b (comma ∷ []) [] ++ l)
    (token_first t (r ++ 10 ∷ []) h.0 (λ e. ends_before_line_feed r (ended e))
    ∙ ap (λ l. lexemes t ++ l) (line_feed_passed (ends t) ts h.1)
    ∙ sym (token_first t r h.0 ended))
    ∙ sym (comma_first b (text ++ r))
  where
    append_then : (b : Bool) (x r y : List ℕ) →
        lex between ((cond b (44 ∷ []) [] ++ (x ++ r)) ++ y)
        ≡ lex between (cond b (44 ∷ []) [] ++ (x ++ (r ++ y)))
    append_then b x r y =
        ap (lex between) (append_assoc (cond b (44 ∷ []) []) (x ++ r) y
        ∙ ap (λ l. cond b (44 ∷ []) [] ++ l) (append_assoc x r y))

-- compact JSON with a line feed behind it has the same value
pub read_with_line_feed : (text : List ℕ) → text ≡ print (tokens text) →
    read (text ++ 10 ∷ []) ≡ read text
read_with_line_feed text compact =
    let same : lex between (text ++ 10 ∷ []) ≡ lex between text =
    subst (λ x. lex between (x ++ 10 ∷ []) ≡ lex between x) (sym compact)
    (line_feed_passed false (tokens text) (ArePrintableOrBad-tokens text)) in
    ap (λ ls. option_and_then of_json
    (option_and_then (λ p. json.if_last p.0 p.1) (json.value max_depth (punctuate fresh ls))))
    same
