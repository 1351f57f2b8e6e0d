-- What tells of one proof text, or shows one function, is one text.
use Rattle.std.proofs.Common.{◌≡◌, ◌≢◌, ℕ, ℤ, Bool, true, false, ◌≤◌, pos, List, [], ◌∷◌, ◌++◌, All, drop, flat_map, codes, refl, sym, ap, ap₂, subst, ◌∙◌, append_assoc, arith}
use Rattle.std.proofs.lemmas.Int.{ints}
use Rattle.std.proofs.lemmas.List.Elements.{All-head, All-tail, All-append}
use Rattle.gj_frac.specs.declared.Frac.{Frac}
use Rattle.gj_frac.specs.Fraction.{IsRatio}
use Rattle.gj_frac.proofs.SameValues.{same_from_is}
use Rattle.gj_forms.proofs.LenientLines.{one_cut}
use Rattle.gj_function_lines.specs.FunctionLines.{line}
use Rattle.gj_shape.specs.FunctionData.{FunctionData, IsWithinBounds}
use Rattle.gj_json.specs.JsonText.{IsPrintable, AreRatios, IsJsonText, IsReport, function_value, json_line, report_value}
use Rattle.gj_proof.specs.declared.claim.Claim.{Claim}
use Rattle.gj_proof.specs.declared.numbers.Numbers.{Numbers}
use Rattle.gj_proof.specs.declared.numbers.Numbers.TheVariants.{Whole, Residues}
use Rattle.gj_proof.specs.ProofText.{IsProofText, claim_word, title_fields, numbers_of, own_text}
use Rattle.gj_limit_proof.specs.declared.claim.LimitClaim.{LimitClaim}
use Rattle.gj_limit_proof.specs.declared.claim.LimitClaim.TheVariants.{Extreme, NotExtreme}
use Rattle.gj_limit_proof.specs.LimitText.{IsLimitProofText, claim_word as limit_claim_word, own_text as own_limit_text}
use Rattle.gj_forms.specs.LineForms.{bytes_of}
use Rattle.gj_top.specs.declared.reply.End.{End}
use Rattle.gj_top.specs.declared.reply.End.TheVariants as end
use Rattle.gj_top.specs.Report.{Kind, claims, limit_claims, TellsBy, IsToldBy, IsToldReply}
use Rattle.gj_top.specs.Show.{IsShownText}
use Rattle.gj_top.proofs.Determined.{AnswersOne, each_one}
use Rattle.gj_top.proofs.ProofBytes.{known, claim_word_printable}
use Rattle.gj_top.proofs.TextLaws.{one_canonical}

-- ---- functions in JSON

one_list : (s : ℕ) (xs ys : List Frac) (ns : List ℤ) → 1 ≤ s → AreRatios s xs ns →
    AreRatios s ys ns → xs ≡ ys
one_list s xs ys ns some h k =
    each_one (λ x n. IsRatio x n (pos s))
    (λ n x y e g. same_from_is x y n (pos s) (omega (arith, ints)) e g) ns xs ys h k

one_json_text : (f : FunctionData) (x y : List ℕ) → IsWithinBounds f → IsJsonText x f →
    IsJsonText y f → x ≡ y
one_json_text f x y l (d, h, x_is) (e, k, y_is) =
    let low = l.order_low in
    let scale = l.scale_low in
    let place : h.place ≡ k.place = same_from_is h.place k.place (pos f.place) (pos f.order)
    (omega (arith, ints)) h.place_is k.place_is in
    let left = one_list f.scale h.left k.left f.left scale h.left_are k.left_are in
    let value = one_list f.scale h.value k.value f.value scale h.value_are k.value_are in
    let right = one_list f.scale h.right k.right f.right scale h.right_are k.right_are in
    x_is ∙ ap json_line (h.is ∙ (λ i. function_value f.order (place i) (left i) (value i) (right i))
    ∙ sym k.is) ∙ sym y_is

pub one_shown : (json : Bool) (f : FunctionData) (x y : List ℕ) → IsWithinBounds f →
    IsShownText json f x → IsShownText json f y → x ≡ y
one_shown false f x y l h k = one_canonical f x y l h k
one_shown true f x y l h k = one_json_text f x y l h k

-- ---- the word of the claim of a proof text

abbrev NoFeed : List ℕ → Type 0
NoFeed bs = All (λ b. b ≢ 10) bs

printable_no_feed : (bs : List ℕ) → All IsPrintable bs → NoFeed bs
printable_no_feed bs h = λ k d within e. let p = h k d within in absurd (omega (arith, p.0, e))

-- the title without its line feed
abbrev title_text : Numbers → List ℕ
title_text Whole = codes "gj-proof 1"
title_text Residues = codes "gj-proof 2"

title_line : (n : Numbers) → bytes_of (title_fields n) ≡ line (title_text n)
title_line Whole = refl
title_line Residues = refl

title_no_feed : (n : Numbers) → NoFeed (title_text n)
title_no_feed Whole = printable_no_feed (title_text Whole) (known (title_text Whole) refl)
title_no_feed Residues = printable_no_feed (title_text Residues) (known (title_text Residues) refl)

word_no_feed : (word : List ℕ) → All IsPrintable word → NoFeed (codes "claim " ++ word)
word_no_feed word h =
    printable_no_feed (codes "claim " ++ word)
    (All-append IsPrintable (codes "claim ") word (known (codes "claim ") refl) h)

-- the first lines of two texts
first_lines : (a b r q : List ℕ) → NoFeed a → NoFeed b → line a ++ r ≡ line b ++ q →
    (a ≡ b) × (r ≡ q)
first_lines a b r q h k e =
    one_cut a b r q h k (sym (append_assoc a (10 ∷ []) r) ∙ e ∙ append_assoc b (10 ∷ []) q)

-- a text begins with a title and the line of a claim of this word
record IsHeaded (text word : List ℕ) : Type 0 where
  title : List ℕ
  title_ends : NoFeed title
  word_ends : NoFeed (codes "claim " ++ word)
  rest : List ℕ
  spelled : text ≡ line title ++ (line (codes "claim " ++ word) ++ rest)

one_head : (text v w : List ℕ) → IsHeaded text v → IsHeaded text w → v ≡ w
one_head text v w h k =
    let titles =
    first_lines h.title k.title (line (codes "claim " ++ v) ++ h.rest)
    (line (codes "claim " ++ w) ++ k.rest) h.title_ends k.title_ends
    (sym h.spelled ∙ k.spelled) in
    let words = first_lines (codes "claim " ++ v) (codes "claim " ++ w) h.rest k.rest h.word_ends
    k.word_ends titles.1 in
    ap (drop 6) words.0

regrouped : (a b s l e : List ℕ) → a ++ b ++ s ++ l ++ e ≡ a ++ (b ++ (s ++ (l ++ e)))
regrouped a b s l e = append_assoc (a ++ b ++ s) l e ∙ append_assoc (a ++ b) s (l ++ e)
    ∙ append_assoc a b (s ++ (l ++ e))

proof_headed : (c : Claim) (text : List ℕ) → IsProofText c text → IsHeaded text (claim_word c)
proof_headed c text h = record {
  title = title_text (numbers_of c);
  title_ends = title_no_feed (numbers_of c);
  word_ends = word_no_feed (claim_word c) (claim_word_printable c);
  rest = h.subject ++ (own_text c ++ line (codes "end"));
  spelled = h.spelled ∙ ap
      (λ t. t ++ line (codes "claim " ++ claim_word c) ++ h.subject ++ own_text c ++ line
      (codes "end"))
      (title_line (numbers_of c))
      ∙ regrouped (line (title_text (numbers_of c))) (line (codes "claim " ++ claim_word c))
      h.subject (own_text c) (line (codes "end"));
}

limit_word_printable : (c : LimitClaim) → All IsPrintable (limit_claim_word c)
limit_word_printable (Extreme numbers f lines rows) = known (codes "extreme") refl
limit_word_printable (NotExtreme f h) = known (codes "not-extreme") refl

limit_headed : (c : LimitClaim) (text : List ℕ) → IsLimitProofText c text →
    IsHeaded text (limit_claim_word c)
limit_headed c text h = record {
  title = codes "gj-proof 3";
  title_ends = printable_no_feed (codes "gj-proof 3") (known (codes "gj-proof 3") refl);
  word_ends = word_no_feed (limit_claim_word c) (limit_word_printable c);
  rest = h.subject ++ (own_limit_text c ++ line (codes "end"));
  spelled = h.spelled
      ∙ regrouped (line (codes "gj-proof 3")) (line (codes "claim " ++ limit_claim_word c))
      h.subject (own_limit_text c) (line (codes "end"));
}

-- a text of a kind has one word
abbrev HasOneWord : Kind → Type 0
HasOneWord kind = (c d : kind.Said) (text : List ℕ) → kind.IsText c text → kind.IsText d text →
    kind.word c ≡ kind.word d

one_word : HasOneWord claims
one_word c d text h k = one_head text (claim_word c) (claim_word d) (proof_headed c text h)
    (proof_headed d text k)

one_limit_word : HasOneWord limit_claims
one_limit_word c d text h k = one_head text (limit_claim_word c) (limit_claim_word d)
    (limit_headed c text h) (limit_headed d text k)

-- ---- the lines of a proof text

nothing_ended : (l r : List ℕ) → [] ≡ (l ++ 10 ∷ []) ++ r → ⊥
nothing_ended [] r e = cc
nothing_ended (b ∷ l) r e = cc

one_split : (ls ms : List (List ℕ)) → All (All IsPrintable) ls → All (All IsPrintable) ms →
    flat_map (λ l. l ++ 10 ∷ []) ls ≡ flat_map (λ l. l ++ 10 ∷ []) ms → ls ≡ ms
one_split [] [] h k e = refl
one_split [] (m ∷ ms) h k e = absurd (nothing_ended m _ e)
one_split (l ∷ ls) [] h k e = absurd (nothing_ended l _ (sym e))
one_split (l ∷ ls) (m ∷ ms) h k e =
    let same = first_lines l m _ _ (printable_no_feed l (All-head (All IsPrintable) l ls h))
    (printable_no_feed m (All-head (All IsPrintable) m ms k)) e in
    ap₂ (λ z zs. z ∷ zs) same.0
    (one_split ls ms (All-tail (All IsPrintable) l ls h)
    (All-tail (All IsPrintable) m ms k) same.1)

-- a proof text has one report with one word
one_report_text : (word proof x y : List ℕ) → IsReport word proof x → IsReport word proof y → x ≡ y
one_report_text word proof x y (ls, h, x_is) (ms, k, y_is) =
    let lines = one_split ls ms h.printable k.printable (sym h.joined ∙ k.joined) in
    x_is ∙ ap (λ l. json_line (report_value l word)) lines ∙ sym y_is

-- ---- replies that are told

-- the text tells of the proof text: it is that, or its report
abbrev TellsOf : Kind → Bool → List ℕ → List ℕ → Type 0
TellsOf kind false proof text = text ≡ proof
TellsOf kind true proof text = (c : kind.Said) × kind.IsText c proof
    × IsReport (kind.word c) proof text

-- the text of a reply with this end tells of that text
abbrev TellsReply : Kind → Bool → End → List ℕ → List ℕ → Type 0
TellsReply kind json end.Done proof text = TellsOf kind json proof text
TellsReply kind json e proof text = text ≡ proof

module _ (kind : Kind) (word : HasOneWord kind) where
  proof_told : (json : Bool) (P : List ℕ → Type 0) (text : List ℕ) → TellsBy kind json P text →
      (proof : List ℕ) × P proof × TellsOf kind json proof text
  proof_told false P text h = (text, h, refl)
  proof_told true P text h = (h.proof, h.holds, (h.claim, h.spelled, h.report))

  one_told : (json : Bool) (proof x y : List ℕ) → TellsOf kind json proof x →
      TellsOf kind json proof y → x ≡ y
  one_told false proof x y h k = h ∙ sym k
  one_told true proof x y (c, p, h) (d, q, k) =
      one_report_text (kind.word c) proof x y h
      (subst (λ (w : List ℕ). IsReport w proof y) (word d c proof q p) k)

  reply_told : (json : Bool) (replies : FunctionData → End → List ℕ → Type 0) (f : FunctionData)
      (e : End) (text : List ℕ) →
      IsToldBy kind json replies f e text → (proof : List ℕ) × replies f e proof
      × TellsReply kind json e proof text
  reply_told json replies f end.Done text h = proof_told json (replies f end.Done) text h
  reply_told json replies f e text h = (text, h, refl)

  one_told_as : (json : Bool) (e : End) (proof x y : List ℕ) → TellsReply kind json e proof x →
      TellsReply kind json e proof y → x ≡ y
  one_told_as json end.Done proof x y h k = one_told json proof x y h k
  one_told_as json e proof x y h k = h ∙ sym k

  one_told_by : (json : Bool) (replies : FunctionData → End → List ℕ → Type 0) →
      AnswersOne replies → AnswersOne (IsToldBy kind json replies)
  one_told_by json replies one f l e d x y h k =
      let (p, first, tells) = reply_told json replies f e x h in
      let (q, second, others) = reply_told json replies f d y k in
      let same = one f l e d p q first second in (
        same.0,
        one_told_as json e p x y tells
            (subst (λ (t : List ℕ). TellsReply kind json e t y) (sym same.1)
            (subst (λ (n : End). TellsReply kind json n q y) (sym same.0) others)),
      )

pub one_told_reply : (json : Bool) (replies : FunctionData → End → List ℕ → Type 0) →
    AnswersOne replies →
    AnswersOne (IsToldReply json replies)
one_told_reply = one_told_by claims one_word

pub one_told_limit_reply : (json : Bool) (replies : FunctionData → End → List ℕ → Type 0) →
    AnswersOne replies →
    AnswersOne (IsToldBy limit_claims json replies)
one_told_limit_reply = one_told_by limit_claims one_limit_word
