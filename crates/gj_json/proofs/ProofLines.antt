-- The lines of a proof text, taken one after another.
use Rattle.std.proofs.Common.{◌≡◌, inl, inr, ℕ, ◌+◌, ◌<◌, ◌≤◌, List, [], ◌∷◌, ◌++◌, length, map, take, get_or, flat_map, false, Result, Ok, Err, MatchResult, refl, sym, ap, subst, ◌∙◌, arith, append_assoc, append-nil, length-append}
use Rattle.std.proofs.Math.Seq.{get_or-append_seam}
use Rattle.std.specs.List.{All}
use Rattle.std.specs.Result.{IsOk}
use Rattle.std.specs.Str.{IsUtf8}
use Rattle.std.proofs.lemmas.Str.{IsUtf8-from_ascii}
use Rattle.std.proofs.lemmas.Str.Ascii.{IsAscii-from_all}
use Rattle.std.proofs.lemmas.List.{get_or-append-add, map-append, take_more, take_all, flat_map_more}
use Rattle.std.proofs.lemmas.List.Elements.{All-nil, All-push}
use Rattle.serde_json.specs.Data.{string}
use Rattle.serde_json.specs.View.{view, items_of, items_view}
use Rattle.serde_json.specs.Written.{has_float}
use Rattle.serde_json.specs.declared.value.Value.{Value}
use Rattle.gj_json.specs.JsonText.{strings, IsPrintable, IsProofByte, IsEnded, HasJsonLines, report_value}
use Rattle.gj_json.proofs.Shown.{strings_more, strings_have_no_float}

pub printable_is_utf8 : (bs : List ℕ) → All IsPrintable bs → IsUtf8 bs
printable_is_utf8 bs h =
    IsUtf8-from_ascii bs
    (IsAscii-from_all bs (λ k d within. let p = h k d within in omega (arith, p.1)))

pub utf8_is_read : {T E : Type 0} (r : Result T E) (P : T → Type 0) (Q : E → Type 0) (bs : List ℕ) →
    MatchResult r P (λ e. (IsUtf8 bs → ⊥) × Q e) → IsUtf8 bs → IsOk r
utf8_is_read (Ok x) P Q bs h utf8 = refl
utf8_is_read (Err e) P Q bs h utf8 = absurd (h.0 utf8)

-- ---- the lines so far

abbrev ended : List ℕ → List ℕ
ended line = line ++ 10 ∷ []

pub record LinesSoFar (text : List ℕ) (n : ℕ) (vs : List Value) (line : List ℕ) : Type 0 where
  pub lines : List (List ℕ)
  pub joined : take n text ≡ flat_map ended lines ++ line
  pub printable : All (All IsPrintable) lines
  pub line_printable : All IsPrintable line
  pub are : items_view vs ≡ strings lines

pub line_ended : (text : List ℕ) (n : ℕ) (vs ws : List Value) (line more : List ℕ) (v : Value)
    (b : ℕ) → n < length text →
    b ≡ get_or text n b → b ≡ 10 → LinesSoFar text n vs line → view v ≡ string line →
    ws ≡ vs ++ v ∷ [] → more ≡ [] →
    LinesSoFar text (n + 1) ws more
line_ended text n vs ws line more v b some at is h shown pushed cleared =
    let next : take (n + 1) text ≡ take n text ++ 10 ∷ [] = take_more text n b some
    ∙ ap (λ x. take n text ++ x ∷ []) (sym at ∙ is) in
    record {
      lines = h.lines ++ line ∷ [];
      joined = next ∙ ap (λ t. t ++ 10 ∷ []) h.joined
          ∙ append_assoc (flat_map ended h.lines) line (10 ∷ [])
          ∙ flat_map_more ended [] h.lines line
          ∙ sym (append-nil (flat_map ended (h.lines ++ line ∷ [])))
          ∙ ap (λ t. flat_map ended (h.lines ++ line ∷ []) ++ t) (sym cleared);
      printable = All-push (All IsPrintable) h.lines line h.printable h.line_printable;
      line_printable = subst (All IsPrintable) (sym cleared) (All-nil IsPrintable);
      are = ap items_view pushed ∙ ap items_of (map-append view vs (v ∷ []))
          ∙ strings_more h.lines line (map view vs) (view v) h.are shown;
    }

pub byte_taken : (text : List ℕ) (n : ℕ) (vs : List Value) (line more : List ℕ) (b : ℕ) →
    n < length text → b ≡ get_or text n b →
    (b ≡ 10 → ⊥) → All IsProofByte text → LinesSoFar text n vs line → more ≡ line ++ b ∷ [] →
    LinesSoFar text (n + 1) vs more
byte_taken text n vs line more b some at other bytes h pushed =
    let next : take (n + 1) text ≡ take n text ++ b ∷ [] = take_more text n b some
    ∙ ap (λ x. take n text ++ x ∷ []) (sym at) in
    record {
      lines = h.lines;
      joined = next ∙ ap (λ t. t ++ b ∷ []) h.joined
          ∙ append_assoc (flat_map ended h.lines) line (b ∷ [])
          ∙ ap (λ t. flat_map ended h.lines ++ t) (sym pushed);
      printable = h.printable;
      line_printable = subst (All IsPrintable) (sym pushed)
          (All-push IsPrintable line b h.line_printable
          (printable_byte b other (subst IsProofByte (sym at) (bytes n b some))));
      are = h.are;
    }
  where
    printable_byte : (b : ℕ) → (b ≡ 10 → ⊥) → IsProofByte b → IsPrintable b
    printable_byte b other (inl is) = absurd (other is)
    printable_byte b other (inr h) = h

-- ---- all lines

-- behind what is printable no line feed is the last byte
none_left : (front line before : List ℕ) → front ++ line ≡ before ++ 10 ∷ [] →
    All IsPrintable line → line ≡ []
none_left front [] before e h = refl
none_left front (x ∷ xs) before e h =
    let n : length before ≡ length front + length xs =
    omega (arith, ap length e, length-append front (x ∷ xs), length-append before (10 ∷ [])) in
    let last : get_or (before ++ 10 ∷ []) (length before) 0 ≡ 10 =
    get_or-append_seam before 10 [] 0 in
    let same : get_or (front ++ x ∷ xs) (length front + length xs) 0
    ≡ get_or (x ∷ xs) (length xs) 0 =
    get_or-append-add front (x ∷ xs) (length xs) 0 in
    let p = h (length xs) 0 (omega arith) in
    absurd (omega (
      arith,
      p.0,
      same,
      last,
      n,
      ap (λ t. get_or t (length before) 0) e,
      ap
          (λ k. get_or (front ++ x ∷ xs) k 0) n,
    ))

nothing_left : (text front line : List ℕ) → IsEnded text → text ≡ front ++ line →
    All IsPrintable line → line ≡ []
nothing_left text front line (inl empty) e h = no_more front line (sym e ∙ empty)
  where
    no_more : (front line : List ℕ) → front ++ line ≡ [] → line ≡ []
    no_more [] line e = e
    no_more (x ∷ front) line e = absurd (cc)
nothing_left text front line (inr (before, is)) e h = none_left front line before (sym e ∙ is) h

pub all_lines : (text : List ℕ) (n : ℕ) (vs : List Value) (line : List ℕ) → length text ≤ n →
    IsEnded text →
    LinesSoFar text n vs line →
    (lines : List (List ℕ)) × HasJsonLines text lines × (items_view vs ≡ strings lines)
all_lines text n vs line most end h =
    let whole : text ≡ flat_map ended h.lines ++ line = sym (take_all n text most) ∙ h.joined in
    let none = nothing_left text (flat_map ended h.lines) line end whole h.line_printable in (
      h.lines,
      record {
        joined = whole ∙ ap (λ t. flat_map ended h.lines ++ t) none
            ∙ append-nil (flat_map ended h.lines);
        printable = h.printable;
      },
      h.are,
    )

pub report_has_no_float : (lines : List (List ℕ)) (verdict : List ℕ) →
    has_float (report_value lines verdict) ≡ false
report_has_no_float lines verdict = rw (strings_have_no_float lines) refl
