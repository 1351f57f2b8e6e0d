use Rattle.std.proofs.Common.{refl, sym, ap, ◌∙◌, true, inr}
use Rattle.csv.specs.Reading.{Reached, strip_bom, builder_config, builder_names_headers, builder_trim, with_flexible}
use Rattle.gj_row.proofs.records.reader_of.Goals as goal

pub returns : goal.returns
unfolding Reached
returns c =
    let made = c.from_reader.ensures in
    let builder = c.flexible.ensures ∙ ap (λ b. with_flexible b true) c.has_headers.ensures in
    record {
      no_trim = made.trim ∙ ap builder_trim builder ∙ c.new.ensures.trim;
      ready = inr (inr (made.has_headers ∙ ap builder_names_headers builder, made.headers));
      config = made.config ∙ ap builder_config builder ∙ c.new.ensures.config;
      rest = strip_bom c.args.bytes.now;
      source = made.source;
      reached = (sym made.state, refl);
    }
