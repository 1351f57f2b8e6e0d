use Rattle.std.proofs.Common.{◌≡◌, ◌++◌, All, flat_map, take, ap, subst, sym, ◌∙◌, append_assoc, take-append-drop}
use Rattle.std.proofs.lemmas.List.Concat.{flat_map-append}
use Rattle.std.proofs.lemmas.List.Elements.{All-drop}
use Rattle.gj_function_lines.specs.FunctionLines.{line}
use Rattle.gj_function_lines.specs.FaceLines.{face_text}
use Rattle.gj_verdict_text.specs.FacePieces.{HasPieces}
use Rattle.gj_verdict_text.proofs.face_lines.push_face_lines.Goals as goal

pub loop-left-preserved : goal.loop-left-preserved
loop-left-preserved c =
    let out = c.loop-left.out.items in
    let left = c.loop-left.left.now in
    let few = c.split_at.result.0.now in
    let rest = c.split_at.result.1.now in
    let has = HasPieces c.args.starts.now c.args.ends.now in
    let whole : few ++ rest ≡ left =
    ap (λ xs. xs ++ rest) c.split_at.ensures.front
    ∙ ap (λ xs. take c.min.result left ++ xs) c.split_at.ensures.back
    ∙ take-append-drop c.min.result left in
    record {
      written = ap (λ xs. xs ++ flat_map (λ face. line (face_text face)) rest)
          c.in_ok-push_few_lines.ensures
          ∙ append_assoc out (flat_map (λ face. line (face_text face)) few)
          (flat_map (λ face. line (face_text face)) rest)
          ∙ ap (λ xs. out ++ xs) (sym (flat_map-append (λ face. line (face_text face)) few rest))
          ∙ ap (λ xs. out ++ flat_map (λ face. line (face_text face)) xs) whole
          ∙ c.loop-left.invariant.written;
      pieces = subst (All has) (sym c.split_at.ensures.back)
          (All-drop has c.min.result left c.loop-left.invariant.pieces);
    }
