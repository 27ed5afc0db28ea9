use Rattle.std.proofs.Common.{◌∙◌, Some, ap, inl, inr, subst, sym}
use Rattle.csv.specs.Reading.{AreRecords, default_config, names_headers, reader_config, reader_state, reader_trim, source_of, strip_bom}
use Rattle.csv_text.specs.Reading.{records_of}
use Rattle.csv_text.proofs.ReadingLemmas.{all_records}
use Rattle.csv_text.proofs.records.reader_with_heading.Goals as goal

-- as without a heading of its own, but for this
pub returns : goal.returns
returns c =
    let from = c.from_reader-reader.ensures in
    let flexible = c.flexible.ensures in
    let set = c.in_ok-set_byte_headers.ensures in
    let text = strip_bom c.args.text.now in
    record {
      config = ap reader_config set.same ∙ rw flexible at from.config ∙ c.new.ensures.config;
      plain = ap reader_trim set.same ∙ rw flexible at from.trim ∙ c.new.ensures.trim;
      ready = inr (inl (ap names_headers set.same ∙ rw flexible at from.has_headers ∙ c.new.ensures.has_headers, set.set));
      bytes = text;
      source = ap (source_of (λ s. Some s.now)) set.same ∙ from.source;
      records_are = subst (λ s. AreRecords default_config s text (records_of c.args.text.now)) (sym (ap reader_state set.same)) (rw from.state (all_records default_config text));
    }
