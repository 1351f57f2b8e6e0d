-- To the words of a call over an input there is one answer.
use Rattle.std.proofs.Common.{◌≡◌, ◌≢◌, ◌⊎◌, inl, inr, ℕ, ◌≤◌, List, length, map, Option, Some, String, string_bytes, refl, sym, ap, subst, ◌∙◌, arith}
use Rattle.std.specs.declared.alloc.Global.{Global}
use Rattle.gj_words.specs.Grammar.{SpellRequest}
use Rattle.gj_words.specs.declared.requests.Request.{Request}
use Rattle.gj_top.specs.declared.status.Status.{Status}
use Rattle.gj_top.specs.declared.status.Status.TheVariants.{Done}
use Rattle.gj_top.specs.Answer.{IsAnswer, IsAnswerTo, IsRequestAnswer}
use Rattle.gj_top.specs.Answer.IsAnswer.{no_request, read_fault, of_request}
use Rattle.gj_top.specs.Command.{IsNamed, task_for}
use Rattle.gj_top.proofs.Clauses.{answer_to_input}
use Rattle.gj_top.proofs.Commands.{one_named}
use Rattle.gj_top.proofs.OneAnswer.{one_status, one_text}
use Rattle.gj_library.specs.Call.{AreWordsOf, IsAnswered, IsTooSmall}

-- the words of the same bytes have the same bytes
same_words : (bytes : List ℕ) (v w : List (String Global)) → AreWordsOf bytes v →
    AreWordsOf bytes w → map string_bytes v ≡ map string_bytes w
same_words bytes v w (inl a) (inl b) = a.1 ∙ sym b.1
same_words bytes v w (inl a) (inr b) = absurd (b.0 a.0)
same_words bytes v w (inr a) (inl b) = absurd (a.0 b.0)
same_words bytes v w (inr a) (inr b) = ap (map string_bytes) (a.1 ∙ sym b.1)

module _ (bytes input : List ℕ) (v w : List (String Global)) (v_are : AreWordsOf bytes v)
    (w_are : AreWordsOf bytes w) where
  -- so they name the same
  renamed : (r : Request) → IsNamed v r → IsNamed w r
  renamed r named = subst (λ (words : List (List ℕ)). SpellRequest words r)
      (same_words bytes v w v_are w_are) named

  named_back : (r : Request) → IsNamed w r → IsNamed v r
  named_back r named = subst (λ (words : List (List ℕ)). SpellRequest words r)
      (same_words bytes w v w_are v_are) named

  module _ (left after : Option (List ℕ)) (s t : Status) (x y : List ℕ) where
    -- both answers are to one request over the input
    abbrev Both : Type 0
    Both = (r : Request) × IsNamed w r × IsAnswerTo (task_for r) input s x
        × IsAnswerTo (task_for r) input t y

    both : IsRequestAnswer v (Some input) left s x → IsRequestAnswer w (Some input) after t y → Both
    both a b =
        let same : a.request ≡ b.request =
        one_named w a.request b.request (renamed a.request a.named) b.named in (
          b.request,
          b.named,
          subst (λ (r : Request). IsAnswerTo (task_for r) input s x) same
              (answer_to_input v (Some input) left s x input (λ r named reads. refl) a),
          answer_to_input w (Some input) after t y input (λ r named reads. refl) b,
        )

    pub status_of_both : IsAnswer v ⊥ (Some input) left s x → IsAnswer w ⊥ (Some input) after t y →
        s ≡ t
    status_of_both (no_request a) (no_request b) = a.status_is ∙ sym b.status_is
    status_of_both (no_request a) (read_fault b) = absurd b.failed
    status_of_both (no_request a) (of_request b) =
        absurd (a.unnamed b.request (named_back b.request b.named))
    status_of_both (read_fault a) b = absurd a.failed
    status_of_both (of_request a) (no_request b) =
        absurd (b.unnamed a.request (renamed a.request a.named))
    status_of_both (of_request a) (read_fault b) = absurd b.failed
    status_of_both (of_request a) (of_request b) =
        let (r, named, first, second) = both a b in
        one_status r input s t x y first second

    pub text_of_both : IsAnswer v ⊥ (Some input) left s x → IsAnswer w ⊥ (Some input) after t y →
        x ≡ y
    text_of_both (no_request a) (no_request b) = a.spelled ∙ sym b.spelled
    text_of_both (no_request a) (read_fault b) = absurd b.failed
    text_of_both (no_request a) (of_request b) =
        absurd (a.unnamed b.request (named_back b.request b.named))
    text_of_both (read_fault a) b = absurd a.failed
    text_of_both (of_request a) (no_request b) =
        absurd (b.unnamed a.request (renamed a.request a.named))
    text_of_both (of_request a) (read_fault b) = absurd b.failed
    text_of_both (of_request a) (of_request b) =
        let (r, named, first, second) = both a b in
        one_text r input s t x y first second

module _ (bytes input x y : List ℕ) (s t : Status) where
  pub one_status_of_call : IsAnswered bytes input s x → IsAnswered bytes input t y → s ≡ t
  one_status_of_call a b =
      status_of_both bytes input a.words b.words a.are_words b.are_words a.left b.left s t x y
      a.answer b.answer

  pub one_text_of_call : IsAnswered bytes input s x → IsAnswered bytes input t y → x ≡ y
  one_text_of_call a b =
      text_of_both bytes input a.words b.words a.are_words b.are_words a.left b.left s t x y
      a.answer b.answer

-- a second call has as much room as the first asked for
pub second_has_room : (bytes input front again : List ℕ) (room more whole other : ℕ) →
    IsTooSmall bytes input room front whole → whole ≤ more →
    IsTooSmall bytes input more again other → ⊥
second_has_room bytes input front again room more whole other a enough b =
    let same : length a.text ≡ length b.text =
    ap length (one_text_of_call bytes input a.text b.text a.status b.status a.answered
    b.answered) in
    let first = a.whole_is in
    let second = b.whole_is in
    let longer = b.longer in
    omega arith
