use Rattle.std.proofs.Common.{◌≡◌, ◌∙◌, ◌∷◌, ◌++◌, List, ℕ, Bool, Option, Some, None, true, false, map, not, option_map, sym, ap, ap₂}
use Rattle.std.proofs.lemmas.List.Folds.{list_all-map}
use Rattle.std.specs.List.{list_all}
use Rattle.std.specs.Borrow.{Bor}
use Rattle.std.specs.Option.{option_to_list}
use Rattle.gj_words.specs.Bare.{are_hyphenless, begins_with_hyphen}
use Rattle.gj_words.specs.Line.{words_behind}
use Rattle.gj_words.proofs.Matches.{both, holds, no_second, none_before, refuses, simple, simple_and_free}
use Rattle.gj_words.proofs.Parsing.{Text, first_in}
use Rattle.gj_words.proofs.line.parse.Goals as goal

abbrev texts : List (Bor Text) → List Text
texts words = map (λ word. word.now) words

hyphenless : (words : List (Bor Text)) (b : Bool) →
    b ≡ list_all (λ word. not (begins_with_hyphen word.now)) words → b ≡ true
    → are_hyphenless (texts words) ≡ true
hyphenless words b is h = list_all-map (λ word. not (begins_with_hyphen word))
    (λ (word : Bor Text). word.now) words ∙ sym is ∙ h

pub returns-then-not-all_hyphenless-clause-refused :
    goal.returns-then-not-all_hyphenless-clause-refused
returns-then-not-all_hyphenless-clause-refused c = λ refused name rest few plain is.
    let wrong : true ≡ false = sym plain ∙ ap are_hyphenless (sym is)
    ∙ list_all-map (λ word. not (begins_with_hyphen word))
    (λ (word : Bor Text). word.now) c.args.words.now
    ∙ sym c.all_hyphenless.ensures ∙ c.if-not-all_hyphenless.true in
    cc

pub returns-in-Err-clause-refused : goal.returns-in-Err-clause-refused
returns-in-Err-clause-refused c = λ refused name rest few plain.
    refuses _ (texts c.args.words.now) c.in-Err.error c.in_ok-command.ensures
    (hyphenless c.args.words.now c.all_hyphenless.result c.all_hyphenless.ensures
    c.if-not-all_hyphenless.false)
    (c.in-Err.ensures.kinds (simple_and_free _ c.in_ok-command.ensures))
    (c.fault_of.ensures.0 (cc)) name rest few

pub unreachable-requires : goal.unreachable-requires
unreachable-requires c =
    let same = c.in_ok-command.ensures in
    let h = holds _ (texts c.args.words.now) c.in-Ok.matches same
    (hyphenless c.args.words.now c.all_hyphenless.result c.all_hyphenless.ensures
    c.if-not-all_hyphenless.false)
    (c.in-Ok.ensures.kinds (simple_and_free _ same)) (c.in-Ok.ensures.matches (simple _ same)).0 in
    let none : None ≡ Some h.name = ap (option_map (λ s. s.now)) (sym c.in_default-get_str.is)
    ∙ c.get_str.ensures ∙ h.name_is in
    cc

pub returns-clause-ok : goal.returns-clause-ok
returns-clause-ok c =
    let same = c.in_ok-command.ensures in
    let h = holds _ (texts c.args.words.now) c.in-Ok.matches same
    (hyphenless c.args.words.now c.all_hyphenless.result c.all_hyphenless.ensures
    c.if-not-all_hyphenless.false)
    (c.in-Ok.ensures.kinds (simple_and_free _ same)) (c.in-Ok.ensures.matches (simple _ same)).0 in
    let some : Some c.in-Some.name.now ≡ Some h.name = c.in-Some.ensures ∙ h.name_is in
    let name_is : h.name ≡ c.in-Some.name.now = cc in
    let behind_is : words_behind c.operands_of-operands.result ≡ h.behind
    = c.operands_of-operands.ensures
    ∙ ap₂ (λ (a b : Option (List ℕ)). option_to_list a ++ option_to_list b)
    (c.get_str-2.ensures ∙ h.first_is) (c.get_str-3.ensures ∙ h.second_is)
    ∙ both h.behind h.few in
    h.words_are ∙ ap₂ (λ (name : List ℕ) (behind : List (List ℕ)). name ∷ behind) name_is
    (sym behind_is)

pub operands_of-operands-requires : goal.operands_of-operands-requires
operands_of-operands-requires c =
    let same = c.in_ok-command.ensures in
    let h = holds _ (texts c.args.words.now) c.in-Ok.matches same
    (hyphenless c.args.words.now c.all_hyphenless.result c.all_hyphenless.ensures
    c.if-not-all_hyphenless.false)
    (c.in-Ok.ensures.kinds (simple_and_free _ same)) (c.in-Ok.ensures.matches (simple _ same)).0 in
    λ none.
    let first : first_in h.behind ≡ None = sym (c.get_str-2.ensures ∙ h.first_is)
    ∙ ap (option_map (λ s. s.now)) none in
    none_before (λ s. s.now) c.get_str-3.result (c.get_str-3.ensures ∙ h.second_is
    ∙ no_second h.behind first)
