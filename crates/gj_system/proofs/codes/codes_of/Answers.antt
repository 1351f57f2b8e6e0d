use Rattle.std.proofs.Common.{◌≡◌, ◌++◌, ◌-◌, take, length, ap, ◌∙◌, arith}
use Rattle.std.specs.List.{slice_range}
use Rattle.std.proofs.Math.Seq.{take-length}
use Rattle.gj_shape.specs.SlopeRows.{component_in}
use Rattle.gj_system.specs.Codes.{codes_before}
use Rattle.gj_system.proofs.RowCodes.{length-once}
use Rattle.gj_system.proofs.codes.codes_of.Goals as goal

pub extend_from_within-requires-clause-in_bounds : goal.extend_from_within-requires-clause-in_bounds
extend_from_within-requires-clause-in_bounds c =
    let half = codes_before (component_in c.args.component.now) c.args.columns
    (length c.args.component.now) in
    let once = c.in_ok-push_codes.ensures ∙ ap (λ xs. xs ++ half) c.in_ok-codes.ensures.items in
    let len = ap length once ∙ length-once (component_in c.args.component.now) c.args.columns
    (length c.args.component.now) in
    omega (arith, len, c.push_codes.new.codes.ok.0)

pub returns-clause-codes : goal.returns-clause-codes
returns-clause-codes c = λ some.
    let q = length c.args.component.now in
    let half = codes_before (component_in c.args.component.now) c.args.columns q in
    let once = c.in_ok-push_codes.ensures ∙ ap (λ xs. xs ++ half) c.in_ok-codes.ensures.items in
    let len = length-once (component_in c.args.component.now) c.args.columns
    (length c.args.component.now) in
    let all : length c.args.component.now - 0
    ≡ length (codes_before (component_in c.args.component.now) c.args.columns
    (length c.args.component.now)) = omega (arith, len) in
    c.in_ok-extend_from_within.ensures.items ∙ ap (λ xs. xs ++ slice_range xs 0 q) once
    ∙ ap (λ k. half ++ take k half) all
    ∙ ap (λ xs. half ++ xs) (take-length half)
