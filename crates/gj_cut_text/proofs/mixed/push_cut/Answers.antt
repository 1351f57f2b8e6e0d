use Rattle.std.proofs.Common.{List, [], ◌++◌, flat_map, refl, ap, sym, subst, ◌∙◌, append_assoc}
use Rattle.std.specs.List.{AllZip}
use Rattle.std.proofs.lemmas.List.{append-nil}
use Rattle.std.proofs.lemmas.Result.{on_ok_weaker}
use Rattle.gj_mixed.specs.declared.cut.MixedCut.{MixedCut}
use Rattle.gj_cut.specs.declared.cut.Term.{Term}
use Rattle.gj_proof.specs.ProofText.{row_text}
use Rattle.gj_proof.specs.declared.cut.CutLine.TheVariants.{Cut, Skip}
use Rattle.gj_proof.specs.declared.cut.SkipReason.TheVariants.{Integral, Other}
use Rattle.gj_cut_text.specs.MixedLines.{IsNamedTerm, NamesMixedCut, weight_line}
use Rattle.gj_cut_text.proofs.mixed.push_cut.Goals as goal

pub returns-in_ok-push_cut_row-in-Cut : goal.returns-in_ok-push_cut_row-in-Cut
returns-in_ok-push_cut_row-in-Cut c =
    let columns = c.args.columns.now in
    let row = c.args.row.now in
    let (named, are, pushed) = c.in_ok-push_cut_row-in-Cut.ensures in
    let line = Cut row.basic row.rhs named in
    on_ok_weaker c.push_weights.result
    (λ (weighed, are_weighed, behind). (
      record { line = line; weights = weighed },
      subst (λ (cut : MixedCut). NamesMixedCut columns row cut line weighed) (sym c.in-Cut.is) (
        refl,
        refl,
        subst (λ (ts : List Term). AllZip (IsNamedTerm columns) ts named) c.as_slice.ensures are,
        subst (λ (ts : List Term). AllZip (IsNamedTerm columns) ts weighed)
            c.as_slice-in-Cut.ensures are_weighed,
      ),
      behind ∙ ap (λ xs. xs ++ flat_map weight_line weighed) pushed
          ∙ append_assoc c.args.out.now.items (row_text line) (flat_map weight_line weighed),
    ))
    c.push_weights.ensures

pub returns-in-Integral : goal.returns-in-Integral
returns-in-Integral c =
    let columns = c.args.columns.now in
    let row = c.args.row.now in
    let line = Skip row.basic row.rhs Integral in
    on_ok_weaker c.push_skip_line.result
    (λ pushed. (
      record { line = line; weights = [] },
      subst (λ (cut : MixedCut). NamesMixedCut columns row cut line []) (sym c.in-Integral.is)
          (refl, refl, refl),
      pushed ∙ ap (λ xs. c.args.out.now.items ++ xs) (sym (append-nil (row_text line))),
    ))
    c.push_skip_line.ensures

pub returns-in-OtherFraction : goal.returns-in-OtherFraction
returns-in-OtherFraction c =
    let columns = c.args.columns.now in
    let row = c.args.row.now in
    let line = Skip row.basic row.rhs Other in
    on_ok_weaker c.push_skip_line-in-OtherFraction.result
    (λ pushed. (
      record { line = line; weights = [] },
      subst (λ (cut : MixedCut). NamesMixedCut columns row cut line []) (sym c.in-OtherFraction.is)
          (refl, refl, refl),
      pushed ∙ ap (λ xs. c.args.out.now.items ++ xs) (sym (append-nil (row_text line))),
    ))
    c.push_skip_line-in-OtherFraction.ensures
