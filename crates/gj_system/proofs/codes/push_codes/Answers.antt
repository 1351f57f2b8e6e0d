use Rattle.std.proofs.Common.{◌≡◌, ◌+◌, ◌<◌, length, sym, ap₂, ◌∙◌, arith}
use Rattle.std.proofs.lemmas.List.{append-nil}
use Rattle.std.proofs.lemmas.List.Elements.{All-get_or}
use Rattle.gj_shape.specs.SlopeRows.{component_in}
use Rattle.gj_system.specs.Codes.{packed}
use Rattle.gj_system.specs.Components.{rises_at}
use Rattle.gj_system.proofs.RowCodes.{no_code, one_code_more, code_small, one_pushed}
use Rattle.gj_system.proofs.codes.push_codes.Goals as goal

pub loop-c-init : goal.loop-c-init
loop-c-init c = (
  sym (append-nil c.args.codes.now.items),
  sym (no_code (component_in c.args.component.now) c.args.columns),
)

pub worth-code-requires : goal.worth-code-requires
worth-code-requires c =
    let inside = All-get_or (λ x. x < c.args.columns) c.args.component.now c.loop-c.c-index 0
    (omega arith) c.requires.components in
    omega (arith, inside, c.requires.packable.columns)

pub overflow_add-code : goal.overflow_add-code
overflow_add-code c =
    let f = component_in c.args.component.now in
    let n = c.args.columns in
    let at = c.loop-c.c-index in
    let inside = All-get_or (λ x. x < c.args.columns) c.args.component.now c.loop-c.c-index 0
    (omega arith) c.requires.components in
    let more : c.loop-c.code + c.worth-code.result ≡ packed (rises_at f n (at + 1)) =
    ap₂ (λ x y. x + y) c.loop-c.invariant.1 c.worth-code.ensures
    ∙ one_code_more f n at c.requires.packable.columns inside in
    let small = code_small f n (length c.args.component.now) (at + 1) c.requires.packable
    (omega arith) in
    omega (arith, more, small)

pub loop-c-preserved : goal.loop-c-preserved
loop-c-preserved c =
    let f = component_in c.args.component.now in
    let n = c.args.columns in
    let at = c.loop-c.c-index in
    let inside = All-get_or (λ x. x < c.args.columns) c.args.component.now c.loop-c.c-index 0
    (omega arith) c.requires.components in (
      one_pushed f n at c.loop-c.code c.args.codes.now.items c.loop-c.codes.items
          c.push.new.self.items c.loop-c.invariant.0
          c.loop-c.invariant.1 c.in_ok-push.ensures.items,
      ap₂ (λ x y. x + y) c.loop-c.invariant.1 c.worth-code.ensures
          ∙ one_code_more f n at c.requires.packable.columns inside,
    )
