-- A profile part by part.
use Rattle.std.proofs.Common.{◌≡◌, List, Ok, Err, refl}
use Rattle.toml.specs.Data.{Members}
use Rattle.ship_tables.specs.Record.{TablesRecord}
use Rattle.ship_profile.specs.declared.faults.ProfileFault.{ProfileFault}
use Rattle.ship_profile.specs.declared.fills.TankFill.{TankFill}
use Rattle.ship_profile.specs.Keys.{document_in}
use Rattle.ship_profile.specs.Record.{Texts, tables_in, fills_in, record_of}
use Rattle.ship_profile.specs.Ship.{ShipRecord, ship_of, NamedFill, named_fills_of}

module _ (texts : Texts) (ms : Members) (ship : ShipRecord) (named : List NamedFill) (ts : TablesRecord) (document_is : document_in texts.ship ≡ Ok ms) (ship_is : ship_of ms ≡ Ok ship)
    (named_are : named_fills_of ms ≡ Ok named) (tables_are : tables_in ship texts.tables ≡ Ok ts) where
  -- a fill that can't be
  pub record-stop : (e : ProfileFault) → fills_in ts named ≡ Err e → record_of texts ≡ Err e
  record-stop e h = rw (document_is, ship_is, named_are, tables_are, h) refl

  -- all fills in their tanks
  pub record-whole : (fills : List TankFill) → fills_in ts named ≡ Ok fills → record_of texts ≡ Ok (record { ship = ship; tables = ts; fills = fills })
  record-whole fills h = rw (document_is, ship_is, named_are, tables_are, h) refl
