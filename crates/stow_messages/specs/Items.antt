-- The items of a bay plan (BAPLIE, UN/EDIFACT D.95B): those of its groups in their order. The first
-- fault in the order of the groups is the plan's.
use Rattle.std.specs.Prelude.{ℕ, List, [], ◌∷◌, Option, Result, Ok, Err, false}
use Rattle.edifact_text.specs.Interchange.{Opened}
use Rattle.edifact_text.specs.Reading.{opened}
use Rattle.edifact_text.specs.declared.faults.EdiFault.{EdiFault}
use Rattle.edifact_text.specs.declared.faults.Kind.TheVariants.{Baplie}
use Rattle.stow_messages.specs.declared.items.Item.{Item}
use Rattle.stow_messages.specs.declared.faults.StowFault.{StowFault}
use Rattle.stow_messages.specs.declared.faults.StowCode.TheVariants.{Envelope}
use Rattle.units_core.specs.Outcome.{◌>>=◌}
use Rattle.stow_messages.specs.Entries.{cell_at, id_of, item_of, with_entry}
use Rattle.stow_messages.specs.Groups.{Found, Part, Handled, Located, parts_of, groups_in}

abbrev pub item_in : ℕ → Found → Result (Option Item) StowFault
item_in mark f =
    cell_at f.location >>= (λ cell.
    id_of f.equipment >>= (λ id.
    item_of mark f cell id))

-- with the item of one more group: a plan has at most 30,000
abbrev pub with_item_of : ℕ → List Item → Found → Result (List Item) StowFault
with_item_of mark items f = item_in mark f >>= with_entry 30000 items f.location

abbrev pub items_from : ℕ → List Item → List Part → Result (List Item) StowFault
items_from mark items [] = Ok items
items_from mark items (Handled s ∷ more) = items_from mark items more
items_from mark items (Located f ∷ more) =
    with_item_of mark items f >>= (λ longer. items_from mark longer more)

-- the items of a message, in which handlings are ignored
abbrev pub items_of : Opened → Result (List Item) StowFault
items_of m = items_from m.mark [] (parts_of false m.segments)

-- the items of a text
abbrev pub items_behind : Result Opened EdiFault → Result (List Item) StowFault
items_behind (Ok m) = items_of m
items_behind (Err e) = Err (record { code = Envelope e; segment = 0 })

abbrev pub bay_plan : List ℕ → Result (List Item) StowFault
bay_plan text = items_behind (opened Baplie text)

-- the groups of a message
abbrev pub item_groups : Opened → List Found
item_groups m = groups_in (parts_of false m.segments)
