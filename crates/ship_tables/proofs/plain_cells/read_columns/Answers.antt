use Rattle.std.proofs.Common.{◌≡◌, ◌∙◌, ◌+◌, ◌++◌, ◌∷◌, [], List, length-append, append_assoc, append-nil, ap, sym, arith}
use Rattle.csv.specs.Records.{fields_of}
use Rattle.csv_text.specs.Reading.{Fields}
use Rattle.csv_text.proofs.ReadingLemmas.{gave_one, gave_none}
use Rattle.ship_tables.proofs.PlainLemmas.{plain-push}
use Rattle.ship_tables.proofs.plain_cells.read_columns.Goals as goal

pub returns-then-not-branch-clause-read : goal.returns-then-not-branch-clause-read
returns-then-not-branch-clause-read c rest has =
    let left = c.loop.invariant.read rest has in
    let none = gave_none _ _ _ _ c.if-not-branch.true (c.in_ok-found_record.ensures.ok left.1 left.3) in
    let all : rest ≡ left.0 = left.2 ∙ (rw none (append-nil left.0)) in
    rw all left.4

pub loop-preserved : goal.loop-preserved
loop-preserved c =
    let added = c.in_ok-add_row.ensures.added c.if-not-branch-2.false in
    let places = length-append c.loop.columns.places.items (added.1 ∷ []) in
    let cells = length-append c.loop.columns.list.cells.items (added.0 ∷ []) in
    record {
      read = λ rest has.
          let left = c.loop.invariant.read rest has in
          let gave = gave_one _ _ _ _ c.if-not-branch.false (c.in_ok-found_record.ensures.ok left.1 left.3) in
          let one = fields_of c.found_record.new.fields in
          let follows : rest ≡ (left.0 ++ one ∷ []) ++ gave.0 = left.2 ∙ (ap (λ (l : List Fields). left.0 ++ l) gave.1 ∙ sym (append_assoc left.0 (one ∷ []) gave.0)) in
          (left.0 ++ one ∷ [], gave.0, follows, gave.2, rw (added.3, added.4) (plain-push c.args.extent.now left.0 _ _ one added.0 added.1 left.4 added.2));
      count = let before = c.loop.invariant.count in rw added.4 (omega (arith, places, before));
      even = let before = c.loop.invariant.even in rw added.3 (omega (arith, cells, before));
    }
