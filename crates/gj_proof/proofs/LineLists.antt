-- Lists of lines: their names, their bytes and their line feeds.
use Rattle.std.proofs.Common.{◌≡◌, ◌≢◌, ℕ, List, [], ◌∷◌, ◌++◌, All, length, map, flat_map, refl, sym, ap, ◌∙◌, arith}
use Rattle.std.proofs.lemmas.List.{append_assoc}
use Rattle.std.proofs.lemmas.List.Elements.{All-nil, All-cons, All-head, All-tail, All-append}
use Rattle.gj_lemmas.proofs.Lists.{All-back}
use Rattle.gj_forms.specs.TextLines.{line_feeds}
use Rattle.gj_forms.proofs.LineNumbers.{line_feeds_append}
use Rattle.gj_forms.specs.LineForms.{bytes_of}
use Rattle.gj_proof.specs.ProofText.{title_fields, claim_fields, claim_word, ProofLine, OwnLine}
use Rattle.gj_proof.specs.declared.claim.Claim.{Claim}
use Rattle.gj_proof.specs.declared.numbers.Numbers.{Numbers}

abbrev pub title_line : Numbers → List ℕ
title_line n = bytes_of (title_fields n)

abbrev pub claim_line : Claim → List ℕ
claim_line c = bytes_of (claim_fields (claim_word c))

abbrev pub names : List OwnLine → List ProofLine
names ls = map (λ l. l.name) ls

abbrev pub bytes : List OwnLine → List ℕ
bytes ls = flat_map (λ l. l.bytes) ls

pub bytes_append : (a b : List OwnLine) → bytes (a ++ b) ≡ bytes a ++ bytes b
bytes_append [] b = refl
bytes_append (l ∷ a) b = ap (λ t. l.bytes ++ t) (bytes_append a b)
    ∙ sym (append_assoc l.bytes (bytes a) (bytes b))

-- ---- their names differ

-- each differs from those behind it
abbrev pub Differ : List ProofLine → Type 0
Differ [] = Unit {0}
Differ (l ∷ more) = All (λ k. k ≢ l) more × Differ more

pub differ_append : (a b : List ProofLine) → Differ a → Differ b → All (λ l. All (λ k. k ≢ l) b) a →
    Differ (a ++ b)
differ_append [] b h k apart = k
differ_append (l ∷ a) b h k apart =
    let P : ProofLine → Type 0 = λ l. All (λ k. k ≢ l) b in (
      All-append (λ k. k ≢ l) a b h.0 (All-head P l a apart),
      differ_append a b h.1 k (All-tail P l a apart),
    )

-- one that stands between others differs from those before it
pub differs_from_those_before : (a b : List ProofLine) (l : ProofLine) → Differ (a ++ l ∷ b) →
    All (λ k. k ≢ l) a
differs_from_those_before [] b l h = All-nil (λ k. k ≢ l)
differs_from_those_before (m ∷ a) b l h =
    let here : l ≢ m = All-head (λ k. k ≢ m) l b (All-back (λ k. k ≢ m) a (l ∷ b) h.0) in
    All-cons (λ k. k ≢ l) m a (λ e. here (sym e)) (differs_from_those_before a b l h.1)

-- ---- line feeds

-- the line has one line feed
abbrev pub HasOneFeed : OwnLine → Type 0
HasOneFeed l = line_feeds l.bytes ≡ 1

pub feeds_of_own : (ls : List OwnLine) → All HasOneFeed ls → line_feeds (bytes ls) ≡ length ls
feeds_of_own [] h = refl
feeds_of_own (l ∷ ls) h =
    let here : line_feeds l.bytes ≡ 1 = All-head HasOneFeed l ls h in
    let more = feeds_of_own ls (All-tail HasOneFeed l ls h) in
    let both = line_feeds_append l.bytes (bytes ls) in
    omega arith
