-- A text begins with the function text of one function at most, and has no fault then; else it has
-- one first fault.
use Rattle.std.proofs.Common.{◌≡◌, ℕ, List, codes}
use Rattle.gj_lex.specs.declared.reason.Reason.{Reason}
use Rattle.gj_lex.specs.declared.spelling.Spelling.TheVariants.{Lenient}
use Rattle.gj_forms.specs.Parts.{IsExactPart, end_part, BeginsWithLine, BeginsWithWord}
use Rattle.gj_forms.proofs.PartLaws.{framed_part_is_exact, then_part_is_exact, end_part_is_exact}
use Rattle.gj_forms.proofs.WhereLaws.{where_part_is_exact}
use Rattle.gj_forms.proofs.LineNumbers as numbers
use Rattle.gj_shape.specs.FunctionData.{FunctionData}
use Rattle.gj_function_lines.specs.FunctionGrammar.{function_part}
use Rattle.gj_function_text.specs.BreaksText.{end_words}
use Rattle.gj_function_text.specs.FunctionText.{title_words, breaks_title_words, family_part, body_part, points_text, breaks_text, function_text, whole_function_text, IsFunctionText, IsWholeFunctionText}
use Rattle.gj_function_text.specs.FirstFault.{IsFirstFaultOfFunction, IsFirstFaultOfWhole}
use Rattle.gj_function_lines.proofs.ExactFunctions.{function_part_is_exact}
use Rattle.gj_function_text.proofs.FamilyLines.{family_part_is_exact}
use Rattle.gj_function_text.proofs.ExactBreaks.{breaks_text_is_exact}

body_part_is_exact : IsExactPart body_part.Reads body_part.Faults
body_part_is_exact =
    where_part_is_exact (BeginsWithWord Lenient (codes "family")) family_part
    (function_part Lenient) family_part_is_exact
    (function_part_is_exact Lenient)

points_text_is_exact : IsExactPart points_text.Reads points_text.Faults
points_text_is_exact =
    framed_part_is_exact Lenient title_words body_part end_words body_part_is_exact

pub function_text_is_exact : IsExactPart function_text.Reads function_text.Faults
function_text_is_exact =
    where_part_is_exact (BeginsWithLine Lenient breaks_title_words) breaks_text points_text
    breaks_text_is_exact points_text_is_exact

pub whole_function_text_is_exact : IsExactPart whole_function_text.Reads whole_function_text.Faults
whole_function_text_is_exact =
    then_part_is_exact function_text (λ f. end_part Lenient f) function_text_is_exact
    (λ f. end_part_is_exact Lenient f)

pub one_function_text : (text : List ℕ) (f g : FunctionData) (a b : List ℕ) →
    IsFunctionText text f a → IsFunctionText text g b →
    (f ≡ g) × (a ≡ b)
one_function_text text f g a b h k = function_text_is_exact.one_thing text f g a b h k

pub one_whole_function : (text : List ℕ) (f g : FunctionData) → IsWholeFunctionText text f →
    IsWholeFunctionText text g → f ≡ g
one_whole_function text f g (a, h) (b, k) =
    (whole_function_text_is_exact.one_thing text f g a b h k).0

pub no_fault_of_text : (text rest : List ℕ) (f : FunctionData) (n : ℕ) (e : Reason) →
    IsFunctionText text f rest →
    IsFirstFaultOfFunction text n e → ⊥
no_fault_of_text text rest f n e h fault =
    numbers.no_first_fault function_text function_text_is_exact text f rest n e h fault

pub no_fault_of_whole : (text : List ℕ) (f : FunctionData) (n : ℕ) (e : Reason) →
    IsWholeFunctionText text f →
    IsFirstFaultOfWhole text n e → ⊥
no_fault_of_whole text f n e (rest, h) fault =
    numbers.no_first_fault whole_function_text whole_function_text_is_exact text f rest n e h fault

pub one_first_fault : (text : List ℕ) (n m : ℕ) (e d : Reason) → IsFirstFaultOfWhole text n e →
    IsFirstFaultOfWhole text m d →
    (n ≡ m) × (e ≡ d)
one_first_fault text n m e d h k =
    numbers.one_first_fault whole_function_text whole_function_text_is_exact text n m e d h k

pub one_first_fault_at_front : (text : List ℕ) (n m : ℕ) (e d : Reason) →
    IsFirstFaultOfFunction text n e → IsFirstFaultOfFunction text m d →
    (n ≡ m) × (e ≡ d)
one_first_fault_at_front text n m e d h k =
    numbers.one_first_fault function_text function_text_is_exact text n m e d h k
