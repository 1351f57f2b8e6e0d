use Rattle.std.proofs.Common.{ℕ, List, ◌++◌, flat_map, ap₂, ◌∙◌, append_assoc}
use Rattle.gj_forms.specs.LineForms.{line_of}
use Rattle.gj_problem.specs.declared.problem.Entry.{Entry}
use Rattle.gj_problem_text.specs.CutText.{cut_form, cut_term_line}
use Rattle.gj_problem_text.proofs.print.push_inequality.Goals as goal

pub returns : goal.returns
returns c =
    c.in_ok-push_terms.ensures
    ∙ ap₂ (λ (xs : List ℕ) (es : List Entry). xs ++ flat_map (cut_term_line c.args.names.now) es)
    c.in_ok-push_right_side.ensures
    c.as_slice.ensures
    ∙ append_assoc c.args.out.now.items (line_of cut_form c.args.cut.now.right)
    (flat_map (cut_term_line c.args.names.now) c.args.cut.now.entries)
