use Rattle.std.proofs.Common.{flat_map, length, ap, refl, sym, ◌∙◌, arith}
use Rattle.std.proofs.lemmas.List.{drop_all}
use Rattle.gj_cut_text.specs.MixedLines.{named_line}
use Rattle.gj_cut_text.proofs.named.write_lines.Goals as goal

pub loop-left-init : goal.loop-left-init
loop-left-init c =
    let line = named_line c.args.word.now c.args.columns.now in
    let terms = c.args.terms.now in
    record {
      written = drop_all 1700 c.args.text.now (omega (arith, c.requires.space))
          ∙ ap (flat_map line) (sym (drop_all (length terms) terms (omega arith)));
      room = omega (arith, c.requires.few);
      within = omega arith;
      fewer = omega arith;
      space = refl;
    }
