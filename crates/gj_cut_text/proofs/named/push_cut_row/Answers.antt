use Rattle.std.proofs.Common.{List, [], ℕ, ◌++◌, map, ap₂, ◌∙◌, append_assoc}
use Rattle.gj_proof.specs.ProofText.{row_line}
use Rattle.gj_proof.specs.declared.cut.CutLine.TheVariants.{Cut}
use Rattle.gj_cut_text.proofs.NamedTerms.{are_named, named_term, term_lines_are}
use Rattle.gj_cut_text.proofs.named.push_cut_row.Goals as goal

pub returns : goal.returns
returns c =
    let columns = c.args.columns.now in
    let terms = c.args.terms.now in
    let head = row_line (Cut c.args.row.now.basic c.args.row.now.rhs []) in (
      map (named_term columns) terms,
      are_named columns terms,
      c.in_ok-push_lines.ensures
          ∙ ap₂ (λ (xs ys : List ℕ). xs ++ ys) c.in_ok-push_cut_head.ensures
          (term_lines_are columns terms)
          ∙ append_assoc c.args.out.now.items head _,
    )
