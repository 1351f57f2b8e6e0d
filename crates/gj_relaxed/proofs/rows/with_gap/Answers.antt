use Rattle.std.proofs.Common.{◌≡◌, ◌++◌, ℕ, List, [], ◌∷◌, length, take, drop, negsuc, false, append_assoc, refl, sym, ap, ap₂, subst, ◌∙◌}
use Rattle.std.specs.List.{AllZip}
use Rattle.std.specs.Vec.{with_items}
use Rattle.std.proofs.lemmas.List.Elements.{length_all_zip}
use Rattle.gj_lemmas.proofs.Lists.{All-front, All-back}
use Rattle.gj_problem.specs.declared.pieces.Piece.{Piece}
use Rattle.gj_problem.proofs.AddedSums.{whole_ratio}
use Rattle.gj_problem.proofs.MadePieces.{zip_joined}
use Rattle.gj_relaxed.specs.RelaxedProblems.{IsWideLifted}
use Rattle.gj_relaxed.specs.RelaxedRows.{IsRaised}
use Rattle.gj_relaxed.specs.Gaps.{CanBeRaised, IsRowWithGap}
use Rattle.gj_relaxed.proofs.RowGaps.{written_back}
use Rattle.gj_relaxed.proofs.rows.with_gap.Goals as goal

pub returns-in_err-raise_entries-clause-wide : goal.returns-in_err-raise_entries-clause-wide
returns-in_err-raise_entries-clause-wide c = λ fault.
    let n = c.from-grid.result in
    let ps = c.args.row.slacks.items in
    let qs = c.args.row.bounds.items in
    subst (λ (k : ℕ). CanBeRaised k (ps ++ qs) → ⊥) c.from-grid.ensures
    (λ can.
    subst (λ (xs : List Piece). CanBeRaised n xs → ⊥) c.as_mut_slice.ensures.value
    c.in_err-raise_entries.ensures.wide
    (All-front (λ (s : Piece). IsWideLifted n s.entry → ⊥) ps qs can))

pub returns-in_err-raise_entries-2-clause-wide : goal.returns-in_err-raise_entries-2-clause-wide
returns-in_err-raise_entries-2-clause-wide c = λ fault.
    let n = c.from-grid.result in
    let ps = c.args.row.slacks.items in
    let qs = c.args.row.bounds.items in
    subst (λ (k : ℕ). CanBeRaised k (ps ++ qs) → ⊥) c.from-grid.ensures
    (λ can.
    subst (λ (xs : List Piece). CanBeRaised n xs → ⊥) c.as_mut_slice-2.ensures.value
    c.in_err-raise_entries-2.ensures.wide
    (All-back (λ (s : Piece). IsWideLifted n s.entry → ⊥) ps qs can))

pub returns-clause-made : goal.returns-clause-made
returns-clause-made c =
    let n = c.from-grid.result in
    let ps = c.args.row.slacks.items in
    let rs = c.raise_entries.new.pieces in
    let qs = c.args.row.bounds.items in
    let ts = c.raise_entries-2.new.pieces in
    let q = c.args.gap.inequality in
    let last : Piece = record { entry = c.ratio.result; inequality = q; is_whole = false } in
    let first : AllZip (IsRaised n) ps rs =
    subst (λ (xs : List Piece). AllZip (IsRaised n) xs rs) c.as_mut_slice.ensures.value
    c.in_ok-raise_entries.ensures.raised in
    let second : AllZip (IsRaised n) qs ts =
    subst (λ (xs : List Piece). AllZip (IsRaised n) xs ts) c.as_mut_slice-2.ensures.value
    c.in_ok-raise_entries-2.ensures.raised in
    let are : take c.args.row.slacks.len (rs ++ drop (length rs) ps) ++ c.push.new.self.items
    ≡ (rs ++ ts) ++ last ∷ [] =
    ap₂ (λ (xs ys : List Piece). xs ++ ys)
    (written_back ps rs c.args.row.slacks.len (sym (length_all_zip (IsRaised n) ps rs first))
    c.args.row.slacks.ok.0)
    (c.in_ok-push.ensures.items
    ∙ ap (λ (xs : List Piece). xs ++ last ∷ [])
    (written_back qs ts c.args.row.bounds.len (sym (length_all_zip (IsRaised n) qs ts second))
    c.args.row.bounds.ok.0))
    ∙ sym (append_assoc rs ts (last ∷ [])) in
    subst
    (λ (k : ℕ). IsRowWithGap k c.args.row c.args.gap
    (record {
      slacks = with_items c.args.row.slacks rs;
      bounds = c.push.new.self;
      right =
          c.args.gap.right;
    }))
    c.from-grid.ensures
    (record {
      raised = rs ++ ts;
      raised_are = zip_joined (IsRaised n) ps qs rs ts first second;
      last = last;
      entry = whole_ratio c.ratio.result (negsuc 0) c.ratio.ensures;
      is_whole = refl;
      inequality = refl;
      pieces = are;
      right_is = refl;
    })
