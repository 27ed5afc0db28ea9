use Rattle.std.proofs.Common.{◌≡◌, rules}
use Rattle.std.proofs.lemmas.Result.{err_from_is_err_and}
use Rattle.toml.specs.View.{table_view}
use Rattle.ship_profile.specs.Record.{texts_of}
use Rattle.ship_profile.proofs.ProfileLemmas.{record-stop, record-whole}
use Rattle.ship_profile.proofs.WrittenLemmas.{parts-written}
use Rattle.ship_profile.proofs.profiles.Profile.read.Goals as goal

pub returns-in_err-fills-clause-refused : goal.returns-in_err-fills-clause-refused
returns-in_err-fills-clause-refused c =
    let p = err_from_is_err_and c.from_residual-in_err-fills.result c.from_residual-in_err-fills.ensures.1 in
    rw (p.1, p.2) (λ m.
    let slice : c.as_slice.result.now ≡ c.in_ok-named.named.items = search rules in
    let fault = rw slice at c.in_err-fills.ensures.refused m in
    record-stop (texts_of c.args.bytes.now) (table_view c.in_ok-document.document) _ c.in_ok-named.named.items _ c.in_ok-document.ensures.ok c.in_ok-ship.ensures.ok c.in_ok-named.ensures.ok c.in_ok-tables.ensures.ok _ fault)

pub returns-clause-ok : goal.returns-clause-ok
returns-clause-ok c =
    let slice : c.as_slice.result.now ≡ c.in_ok-named.named.items = search rules in
    let fills = rw slice at c.in_ok-fills.ensures.ok in
    record-whole (texts_of c.args.bytes.now) (table_view c.in_ok-document.document) _ c.in_ok-named.named.items _ c.in_ok-document.ensures.ok c.in_ok-ship.ensures.ok c.in_ok-named.ensures.ok c.in_ok-tables.ensures.ok _ fills

pub returns-clause-written : goal.returns-clause-written
returns-clause-written c =
    let slice : c.as_slice.result.now ≡ c.in_ok-named.named.items = search rules in
    let fills = rw slice at c.in_ok-fills.ensures.ok in
    parts-written (texts_of c.args.bytes.now) (table_view c.in_ok-document.document) _ c.in_ok-named.named.items c.in_ok-document.ensures.ok c.in_ok-ship.ensures.ok c.in_ok-named.ensures.ok c.in_ok-tables.ensures.ok fills
