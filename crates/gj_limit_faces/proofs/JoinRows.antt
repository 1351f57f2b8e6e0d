-- Rows of joins that are made one after another.
use Rattle.std.proofs.Common.{◌≡◌, ℕ, ◌+◌, List, [], ◌∷◌, ◌++◌, inl, inr, sym, subst, ap, ◌∙◌, arith}
use Rattle.std.proofs.lemmas.Bool.{cases_lt}
use Rattle.std.proofs.lemmas.List.{get_or_append_left, get_or_push, length_push}
use Rattle.gj_shape.specs.FunctionData.{FunctionData}
use Rattle.gj_limit_faces.specs.RowJoins.{AreRowJoins, no_row}
use Rattle.gj_limit_faces.specs.Joins.{AreJoinRows}
use Rattle.gj_limit_faces.specs.declared.row_joins.RowJoins.{RowJoins}

pub one_more : (f : FunctionData) (rows : List RowJoins) (n : ℕ) (row : RowJoins) →
    AreJoinRows f n rows → AreRowJoins f n row → AreJoinRows f (n + 1) (rows ++ row ∷ [])
one_more f rows n row h here =
    let count = h.count in record {
      count = length_push rows row ∙ ap (λ k. k + 1) h.count;
      each = λ a below. elim (cases_lt a n) [
        | inl before ↦ subst (AreRowJoins f a) (sym (get_or_append_left rows (row ∷ []) no_row a
            (omega arith)))
            (h.each a before)
        | inr last ↦
            let e : a ≡ n = omega arith in
            subst (AreRowJoins f a) (sym (get_or_push rows row no_row a (omega arith)))
            (subst (λ k. AreRowJoins f k row) (sym e) here)
      ];
    }
