-- The lifts of a movement instruction (MOVINS, UN/EDIFACT D.95B): those of its groups in their
-- order, each handled as the last handling before it says. The first fault in the order of the
-- segments is the instruction's, and those of a group come before those of the segment that ends
-- it.
use Rattle.std.specs.Prelude.{ℕ, List, [], ◌∷◌, Option, Some, None, Result, Ok, Err, true}
use Rattle.std.specs.Prelude.{if◌then◌else◌, codes}
use Rattle.std.specs.Option.{option_map}
use Rattle.arrayvec.specs.ArrayVec.{ArrayVec}
use Rattle.units_core.specs.declared.cells.Cell.{Cell}
use Rattle.edifact_text.specs.Interchange.{Numbered, Opened}
use Rattle.edifact_text.specs.Reading.{opened}
use Rattle.edifact_text.specs.declared.faults.EdiFault.{EdiFault}
use Rattle.edifact_text.specs.declared.faults.Kind.TheVariants.{Movins}
use Rattle.stow_messages.specs.declared.lifts.Lift.{Lift}
use Rattle.stow_messages.specs.declared.lifts.Lift.TheVariants.{Load, Discharge}
use Rattle.stow_messages.specs.declared.lifts.Handling.{Handling}
use Rattle.stow_messages.specs.declared.lifts.Handling.TheVariants.{Loading, Discharging}
use Rattle.stow_messages.specs.declared.faults.StowFault.{StowFault}
use Rattle.stow_messages.specs.declared.faults.StowCode.TheVariants.{Envelope, LiftWithoutHandling}
use Rattle.stow_messages.specs.declared.faults.StowCode.TheVariants.{UnknownHandling}
use Rattle.units_core.specs.Outcome.{◌>>=◌}
use Rattle.stow_messages.specs.Entries.{fault_at, or_fault_at, cell_at, id_of, item_of, with_entry}
use Rattle.stow_messages.specs.Groups.{Found, Part, Handled, Located, names_a_container, parts_of}
use Rattle.stow_messages.specs.Groups.{groups_in, HandledPart, handled_parts}
use Rattle.stow_messages.specs.Kinds.{has}

-- what a handling says: LOA to load, DIS to discharge, and no other code
abbrev pub handling_at : Numbered → Result Handling StowFault
handling_at s =
    if has s 1 0 (codes "LOA") then Ok Loading
    else if has s 1 0 (codes "DIS") then Ok Discharging
    else Err (fault_at UnknownHandling s)

-- A group under DIS is a discharge where it has a container or a mass, which isn't read.
abbrev pub lift_of : ℕ → Found → Cell → Handling → ArrayVec ℕ → Result (Option Lift) StowFault
lift_of mark f cell Loading id = item_of mark f cell id >>= (λ item. Ok (option_map Load item))
lift_of mark f cell Discharging id =
    Ok (if names_a_container f then Some (Discharge cell id) else None)

-- the lift of a group behind a handling, if there was one
abbrev pub lift_in : ℕ → Option Handling → Found → Result (Option Lift) StowFault
lift_in mark handling f =
    cell_at f.location >>= (λ cell.
    or_fault_at LiftWithoutHandling f.location handling >>= (λ handling.
    id_of f.equipment >>= (λ id.
    lift_of mark f cell handling id)))

-- with the lift of one more group: an instruction has at most 200,000
abbrev pub with_lift_of : ℕ → Option Handling → List Lift → Found → Result (List Lift) StowFault
with_lift_of mark handling lifts f = lift_in mark handling f >>= with_entry 200000 lifts f.location

abbrev pub lifts_from : ℕ → Option Handling → List Lift → List Part → Result (List Lift) StowFault
lifts_from mark handling lifts [] = Ok lifts
lifts_from mark handling lifts (Handled s ∷ more) =
    handling_at s >>= (λ next. lifts_from mark (Some next) lifts more)
lifts_from mark handling lifts (Located f ∷ more) =
    with_lift_of mark handling lifts f >>= (λ longer. lifts_from mark handling longer more)

-- the lifts of a message, before which there was no handling
abbrev pub lifts_of : Opened → Result (List Lift) StowFault
lifts_of m = lifts_from m.mark None [] (parts_of true m.segments)

-- the lifts of a text
abbrev pub lifts_behind : Result Opened EdiFault → Result (List Lift) StowFault
lifts_behind (Ok m) = lifts_of m
lifts_behind (Err e) = Err (record { code = Envelope e; segment = 0 })

abbrev pub movement_instruction : List ℕ → Result (List Lift) StowFault
movement_instruction text = lifts_behind (opened Movins text)

-- what the last handling says, if there was one
abbrev pub handling_of : Option Numbered → Result (Option Handling) StowFault
handling_of None = Ok None
handling_of (Some s) = handling_at s >>= (λ handling. Ok (Some handling))

-- the lift of a part behind this handling: a handling gives none, but has a fault where it isn't
-- understood
abbrev pub lift_behind : ℕ → Option Numbered → Part → Result (Option Lift) StowFault
lift_behind mark last (Handled s) = handling_at s >>= (λ handling. Ok None)
lift_behind mark last (Located f) = handling_of last >>= (λ handling. lift_in mark handling f)

abbrev pub lift_under : ℕ → HandledPart → Result (Option Lift) StowFault
lift_under mark p = lift_behind mark p.handling p.part

-- the groups of a message, and its parts, each with the last handling before it
abbrev pub lift_groups : Opened → List Found
lift_groups m = groups_in (parts_of true m.segments)

abbrev pub lift_parts : Opened → List HandledPart
lift_parts m = handled_parts None (parts_of true m.segments)
