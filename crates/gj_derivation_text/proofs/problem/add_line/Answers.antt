use Rattle.std.proofs.Common.{◌∷◌, inl, inr, List, ℕ, refl, sym, subst}
use Rattle.std.proofs.lemmas.Bool.{false≢true}
use Rattle.std.proofs.lemmas.Result.{err_from_is_err_and, on_ok_weaker, IfErr-weaker}
use Rattle.gj_lex.specs.Words.{word_texts}
use Rattle.gj_forms.specs.LineFaults.{IsRefusedFor}
use Rattle.gj_forms.specs.declared.line_fault.LineFault.{LineFault}
use Rattle.gj_forms.proofs.PartLaws.{passed_on, refused_for}
use Rattle.gj_problem_text.specs.LinesRead.{line_told}
use Rattle.gj_problem_text.specs.ProblemLines.{told_rule}
use Rattle.gj_derivation_text.specs.DerivationText.{AddsLine, RefusesLine, AreBarred, problem_rule}
use Rattle.gj_derivation_text.proofs.problem.add_line.Goals as goal

pub returns-then-is_barred-clause-broken : goal.returns-then-is_barred-clause-broken
returns-then-is_barred-clause-broken c =
    let (more, is) = c.requires.word in
    inl (
      refl,
      subst (AreBarred c.args.names.now.drafts) (sym is)
          ((c.if-is_barred.ensures more).0 refl),
    )

pub returns-in_err-told-clause-broken : goal.returns-in_err-told-clause-broken
returns-in_err-told-clause-broken c =
    let (more, is) = c.requires.word in
    let breaks = (problem_rule c.args.names.now.drafts c.args.drafts.now).Breaks
    (word_texts c.args.line.now) in
    let not : AreBarred c.args.names.now.drafts (word_texts c.args.line.now) → ⊥ = λ h.
    false≢true ((c.if-is_barred.ensures more).1 (subst (AreBarred c.args.names.now.drafts) is h)) in
    let p = err_from_is_err_and c.from_residual.result c.from_residual.ensures.1 in
    passed_on (IsRefusedFor breaks) _ _ _ p.1 p.2
    (refused_for (told_rule.Breaks (word_texts c.args.line.now)) breaks _
    (λ r h. inr (not, inl h)) c.in_err-told.ensures.broken)

pub returns-clause-found : goal.returns-clause-found
returns-clause-found c =
    let (more, is) = c.requires.word in
    let told = line_told c.in_ok-told.told in
    let not : AreBarred c.args.names.now.drafts (word_texts c.args.line.now) → ⊥ = λ h.
    false≢true ((c.if-is_barred.ensures more).1 (subst (AreBarred c.args.names.now.drafts) is h)) in
    on_ok_weaker c.add_told.result
    (λ (h : AddsLine c.args.drafts.now told c.add_told.new.drafts).
    (not, (told, c.in_ok-told.ensures.told, h))) c.add_told.ensures.added

pub returns-clause-broken : goal.returns-clause-broken
returns-clause-broken c =
    let (more, is) = c.requires.word in
    let told = line_told c.in_ok-told.told in
    let breaks = (problem_rule c.args.names.now.drafts c.args.drafts.now).Breaks
    (word_texts c.args.line.now) in
    let not : AreBarred c.args.names.now.drafts (word_texts c.args.line.now) → ⊥ = λ h.
    false≢true ((c.if-is_barred.ensures more).1 (subst (AreBarred c.args.names.now.drafts) is h)) in
    IfErr-weaker c.add_told.result (IsRefusedFor (RefusesLine c.args.drafts.now told))
    (IsRefusedFor breaks)
    (λ (e : LineFault) h. refused_for (RefusesLine c.args.drafts.now told) breaks e
    (λ r k. inr (not, inr (told, c.in_ok-told.ensures.told, k))) h) c.add_told.ensures.refused
