use Rattle.std.proofs.Common.{List, [], ◌∷◌, ◌++◌, take, ap, sym, subst, subst₂, ◌∙◌}
use Rattle.std.specs.List.{AllZip}
use Rattle.std.proofs.lemmas.List.{take_more, take_all}
use Rattle.gj_problem.specs.declared.problem.Constraint.{Constraint}
use Rattle.gj_problem.proofs.MadePieces.{zip_joined}
use Rattle.gj_relaxed.specs.RelaxedForms.{AreForms}
use Rattle.gj_relaxed.specs.declared.forms.Forms.{Forms}
use Rattle.gj_relaxed.proofs.forms.forms_of.Goals as goal

pub loop-constraint-preserved : goal.loop-constraint-preserved
loop-constraint-preserved c =
    let R : Constraint → Forms → Type 0 = AreForms c.args.problem.now c.args.grid in
    let cs = c.as_slice-constraint-items.result.now in
    let i = c.loop-constraint.constraint-index in
    let next = c.constraint-item.result in
    let made = c.in_ok-form_of.field-0 in
    let more = take_more cs i next c.loop-constraint-test.true
    ∙ ap (λ (k : Constraint). take i cs ++ k ∷ []) (sym c.constraint-item.is) in
    subst₂ (λ (xs : List Constraint) (ys : List Forms). AllZip R xs ys) (sym more)
    (sym {A = List Forms} c.in_ok-push.ensures.items)
    (zip_joined R (take i cs) (next ∷ []) c.loop-constraint.made.items
    (made ∷ []) c.loop-constraint.invariant (c.in_ok-form_of.ensures, tt))

pub returns : goal.returns
returns c =
    let R : Constraint → Forms → Type 0 = AreForms c.args.problem.now c.args.grid in
    let cs = c.as_slice-constraint-items.result.now in
    subst (λ (cs : List Constraint). AllZip R cs c.loop-constraint.made.items)
    c.as_slice-constraint-items.ensures
    (subst (λ (cs : List Constraint). AllZip R cs c.loop-constraint.made.items)
    (take_all c.loop-constraint.constraint-index cs c.loop-constraint-test.false)
    c.loop-constraint.invariant)
