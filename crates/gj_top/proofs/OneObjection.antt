-- A rule has one objection, and none if it makes cuts.
use Rattle.std.proofs.Common.{◌≡◌, ℕ, List, refl}
use Rattle.gj_proof.specs.CutRules.{MakesContinuousCuts}
use Rattle.gj_proof.specs.ProofText.{IsBoundedRule}
use Rattle.gj_proof.specs.declared.cut.CutRule.{CutRule}
use Rattle.gj_proof.specs.declared.cut.CutRule.TheVariants.{Gmic, Table}
use Rattle.gj_top.specs.declared.reply.End.{End}
use Rattle.gj_top.specs.declared.reply.End.TheVariants.{NotContinuous, NoFunction}
use Rattle.gj_top.specs.Objection.{NamesViolation, NamesJump, IsObjection}
use Rattle.gj_top.proofs.OneCuts.{one_violation_text, no_violation}
use Rattle.gj_top.proofs.JumpsReplies.{no_jump_named}
use Rattle.gj_top.proofs.OneVerdict.{one_jump_text}

made_no_violation : (r : CutRule) (x : List ℕ) → IsBoundedRule r → MakesContinuousCuts r →
    NamesViolation r x → ⊥
made_no_violation Gmic x l h k = k
made_no_violation (Table f) x l h k = no_violation f x l h.0 k

made_no_jump : (r : CutRule) (x : List ℕ) → MakesContinuousCuts r → NamesJump r x → ⊥
made_no_jump Gmic x h k = k
made_no_jump (Table f) x h k = no_jump_named f x h.1 k.1

pub no_objection : (r : CutRule) (e : End) (x : List ℕ) → IsBoundedRule r → MakesContinuousCuts r →
    IsObjection r e x → ⊥
no_objection r NoFunction x l h k = made_no_violation r x l h k
no_objection r NotContinuous x l h k = made_no_jump r x h k
no_objection r e x l h k = k

jump_no_violation : (r : CutRule) (x y : List ℕ) → IsBoundedRule r → NamesJump r x →
    NamesViolation r y → ⊥
jump_no_violation Gmic x y l h k = k
jump_no_violation (Table f) x y l h k = no_violation f y l h.0 k

one_jump_of_rule : (r : CutRule) (x y : List ℕ) → IsBoundedRule r → NamesJump r x → NamesJump r y →
    x ≡ y
one_jump_of_rule Gmic x y l h k = absurd h
one_jump_of_rule (Table f) x y l h k = one_jump_text f x y l h.1 k.1

pub one_objection : (r : CutRule) (e d : End) (x y : List ℕ) → IsBoundedRule r → IsObjection r e x →
    IsObjection r d y → (e ≡ d) × (x ≡ y)
one_objection r NoFunction NoFunction x y l h k = (refl, one_violation_text r x y l h k)
one_objection r NoFunction NotContinuous x y l h k = absurd (jump_no_violation r y x l k h)
one_objection r NotContinuous NoFunction x y l h k = absurd (jump_no_violation r x y l h k)
one_objection r NotContinuous NotContinuous x y l h k = (refl, one_jump_of_rule r x y l h k)
one_objection r NoFunction d x y l h k = absurd k
one_objection r NotContinuous d x y l h k = absurd k
one_objection r e d x y l h k = absurd h
