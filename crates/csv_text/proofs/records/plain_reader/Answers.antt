use Rattle.std.proofs.Common.{◌∙◌, inr}
use Rattle.csv.specs.Reading.{default_config, strip_bom}
use Rattle.csv_text.proofs.ReadingLemmas.{all_records}
use Rattle.csv_text.proofs.records.plain_reader.Goals as goal

-- each setting of the builder is the reader's, and the records are those of the text
pub returns : goal.returns
returns c =
    let from = c.from_reader.ensures in
    let flexible = c.flexible.ensures in
    let headers = c.has_headers.ensures in
    record {
      config = rw (flexible, headers) at from.config ∙ c.new.ensures.config;
      plain = rw (flexible, headers) at from.trim ∙ c.new.ensures.trim;
      ready = inr (inr (rw (flexible, headers) at from.has_headers, from.headers));
      bytes = strip_bom c.args.text.now;
      source = from.source;
      records_are = rw from.state (all_records default_config (strip_bom c.args.text.now));
    }
