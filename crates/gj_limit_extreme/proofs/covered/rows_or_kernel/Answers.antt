use Rattle.std.proofs.Common.{◌≡◌, inr, length, map, refl, sym, ap, subst₂, ◌∙◌, arith}
use Rattle.gj_extreme.specs.RowsToCome.{AreLoggedRows}
use Rattle.gj_extreme.proofs.RenumberedKernel.{lines_of_log}
use Rattle.gj_proof.specs.declared.numbers.Numbers.TheVariants.{Whole}
use Rattle.gj_shape.specs.SlopeRows.{component_in}
use Rattle.gj_theory.proofs.Eliminations.{elimination_has}
use Rattle.gj_theory.proofs.SoundArithmetic.{whole_sound}
use Rattle.gj_theory.proofs.Triangular.{rank_at_most}
use Rattle.gj_limit_extreme.specs.Decision.{columns_of, limit_elimination, AreExtremeRows}
use Rattle.gj_limit_extreme.specs.RowsToCome.{name_of}
use Rattle.gj_limit_extreme.proofs.ClaimTexts.{extreme_has_text, halves_have_text}
use Rattle.gj_limit_extreme.proofs.DecidedGroups.{system_rows, system_columns}
use Rattle.gj_limit_extreme.proofs.covered.rows_or_kernel.Goals as goal

pub returns-then-is_full : goal.returns-then-is_full
returns-then-is_full c =
    let f = c.args.shape.now in
    let comp = component_in c.args.component.now in
    let n = columns_of f c.args.cover in
    let rows = c.requires.inserted in
    let kept = (limit_elimination f c.args.component.now n).kept in
    let full = c.is_full.ensures.0 c.if-is_full.true in
    let most = rank_at_most n kept
    (elimination_has whole_sound n (system_rows f comp n)
    (system_columns f comp n)).triangular in
    let len = ap length rows.kept in
    let columns = rows.columns.columns in
    let all : length (limit_elimination f c.args.component.now (columns_of f c.args.cover)).kept
    ≡ columns_of f c.args.cover = omega arith in
    let lines : AreLoggedRows kept c.log.result.now =
    subst₂ AreLoggedRows (sym rows.kept) (sym c.log.ensures)
    (lines_of_log c.args.rows.now.basis.kept) in
    let are : AreExtremeRows Whole f c.args.cover.lines c.of.result = record {
      cover = c.args.cover;
      component = c.args.component.now;
      covered = c.requires.covered;
      lines_are = refl;
      needed = rows.fits;
      all = all;
      rows_are = c.of.ensures
          ∙ c.in_ok-groups.ensures (name_of f) kept (c.as_slice.ensures.value ∙ rows.names
          ∙ ap (map (name_of f)) (sym rows.kept)) lines;
    } in (
      (c.in_ok-copy.ensures, c.requires.minimal, are),
      extreme_has_text Whole f c.in_ok-copy.field-0 c.args.cover.lines c.of.result c.requires.limits
          c.in_ok-copy.ensures are,
    )

pub returns : goal.returns
returns c = (
  (c.in_ok-copy-2.ensures, c.requires.minimal, inr c.in_ok-halves.ensures.halves),
  halves_have_text c.in_ok-halves.halves c.in_ok-halves.ensures.limits,
)
