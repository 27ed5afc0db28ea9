use Rattle.std.proofs.Common.{◌≡◌, ◌++◌, string_bytes, map, take}
use Rattle.seq_report.specs.Columns.{columns, heading_of, spaced}
use Rattle.seq_report.proofs.columns.write_headings.Given as goal

abbrev pub invariant-loop-column : goal.invariant-loop-column
invariant-loop-column l = record {
  all : l.column-items ≡ columns;
  text : string_bytes l.text ≡ string_bytes l.initial.text ++ spaced (map heading_of (take l.column-index columns));
}
