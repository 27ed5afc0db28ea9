-- A message without a fault has as many items, or lifts, as groups with a container or a mass.
use Rattle.std.proofs.Common.{◌≡◌, ◌∙◌, ℕ, suc, List, [], ◌∷◌, length, Option, Some, None, Result, Ok, Err, Bool, true, false, ◌||◌, is_some, option_map, filter, refl, sym, ap}
use Rattle.std.specs.Prelude.{is_ok, flat_map}
use Rattle.std.specs.List.{list_all}
use Rattle.arrayvec.specs.ArrayVec.{ArrayVec}
use Rattle.units_core.specs.declared.cells.Cell.{Cell}
use Rattle.edifact_text.specs.Faults.{IsMessage}
use Rattle.edifact_text.specs.Interchange.{Numbered, Opened}
use Rattle.edifact_text.specs.Reading.{opened}
use Rattle.edifact_text.specs.declared.faults.Kind.{Kind}
use Rattle.edifact_text.specs.declared.faults.Kind.TheVariants.{Baplie, Movins}
use Rattle.edifact_text.proofs.OpenedLemmas.{message_opens}
use Rattle.stow_messages.specs.declared.items.Item.{Item}
use Rattle.stow_messages.specs.declared.lifts.Lift.{Lift}
use Rattle.stow_messages.specs.declared.lifts.Lift.TheVariants.{Load, Discharge}
use Rattle.stow_messages.specs.declared.lifts.Handling.{Handling}
use Rattle.stow_messages.specs.declared.lifts.Handling.TheVariants.{Loading, Discharging}
use Rattle.stow_messages.specs.declared.faults.StowFault.{StowFault}
use Rattle.stow_messages.specs.declared.faults.StowCode.TheVariants.{LiftWithoutHandling}
use Rattle.units_core.specs.Outcome.{◌>>=◌}
use Rattle.stow_messages.specs.Entries.{or_fault_at, cell_at, id_of, kg_at, item_of, entries_of}
use Rattle.stow_messages.specs.Groups.{Found, Part, Handled, Located, HandledPart, names_a_container, groups_in, handled_parts, parts_of}
use Rattle.stow_messages.specs.Items.{item_in, item_groups, bay_plan}
use Rattle.stow_messages.specs.Lifts.{handling_at, handling_of, lift_of, lift_in, lift_under, lift_behind, lift_parts, lift_groups, movement_instruction}
use Rattle.stow_messages.proofs.EntryLemmas.{followed}
use Rattle.stow_messages.proofs.MessageLemmas.{are_items, are_lifts}

-- as many entries as parts that give one
many : {X P : Type 0} (gives : P → Result (Option X) StowFault) (test : P → Bool)
    → ((p : P) (o : Option X) → gives p ≡ Ok o → is_some o ≡ test p) → (parts : List P)
    → list_all (λ p. is_ok (gives p)) parts ≡ true → length (flat_map (λ p. entries_of (gives p)) parts) ≡ length (filter test parts)
many gives test tells [] sound = refl
many {X} gives test tells (p ∷ parts) sound = go (gives p) refl (many gives test tells parts)
  where
    go : (r : Result (Option X) StowFault) → gives p ≡ r
        → (list_all (λ q. is_ok (gives q)) parts ≡ true → length (flat_map (λ q. entries_of (gives q)) parts) ≡ length (filter test parts))
        → length (flat_map (λ q. entries_of (gives q)) (p ∷ parts)) ≡ length (filter test (p ∷ parts))
    go (Err e) is on = let no : ◌≡◌ {A = Bool} false true = rw is at sound in cc no
    go (Ok None) is on =
        let off : test p ≡ false = sym (tells p None is) in
        rw (is, off) (on (rw is at sound))
    go (Ok (Some x)) is on =
        let yes : test p ≡ true = sym (tells p (Some x) is) in
        rw (is, yes) (ap suc (on (rw is at sound)))

-- a group of a bay plan
module _ (mark : ℕ) (location : Numbered) (cell : Cell) (id : ArrayVec ℕ) (o : Option Item) where
  measured : (measure : Numbered) → (kg_at mark measure >>= λ kg. Ok (Some (record { cell = cell; id = id; kg = kg }))) ≡ Ok o
      → is_some o ≡ true
  measured measure h =
      followed (kg_at mark measure) (λ kg. Ok (Some (record { cell = cell; id = id; kg = kg }))) o (is_some o ≡ true) h
      (λ kg is e. let same : Some (record { cell = cell; id = id; kg = kg }) ≡ o = cc in rw (← same) refl)

  item_counts : (e v g : Option Numbered)
      → item_of mark (record { location = location; equipment = e; verified = v; gross = g }) cell id ≡ Ok o
      → is_some o ≡ (is_some e || (is_some v || is_some g))
  item_counts (Some e) (Some v) g h = measured v h
  item_counts (Some e) None (Some g) h = measured g h
  item_counts (Some e) None None h = cc h
  item_counts None (Some v) g h = measured v h
  item_counts None None (Some g) h = measured g h
  item_counts None None None h = let same : None ≡ o = cc in rw (← same) refl

item_tells : (mark : ℕ) (f : Found) (o : Option Item) → item_in mark f ≡ Ok o → is_some o ≡ names_a_container f
item_tells mark f o h =
    followed (cell_at f.location) (λ cell. id_of f.equipment >>= λ id. item_of mark f cell id) o (is_some o ≡ names_a_container f) h
    (λ cell is rest. followed (id_of f.equipment) (λ id. item_of mark f cell id) o (is_some o ≡ names_a_container f) rest
    (λ id is' item. item_counts mark f.location cell id o f.equipment f.verified f.gross item))

-- a part of a movement instruction
loaded : (item : Option Item) → is_some (option_map Load item) ≡ is_some item
loaded None = refl
loaded (Some item) = refl

lift_counts : (mark : ℕ) (f : Found) (cell : Cell) (handling : Handling) (id : ArrayVec ℕ) (o : Option Lift)
    → lift_of mark f cell handling id ≡ Ok o → is_some o ≡ names_a_container f
lift_counts mark f cell Loading id o h =
    followed (item_of mark f cell id) (λ item. Ok (option_map Load item)) o (is_some o ≡ names_a_container f) h
    (λ item is e.
    let same : option_map Load item ≡ o = cc in
    ap is_some (sym same) ∙ loaded item ∙ item_counts mark f.location cell id item f.equipment f.verified f.gross is)
lift_counts mark f cell Discharging id o h = go (names_a_container f) refl
  where
    go : (b : Bool) → names_a_container f ≡ b → is_some o ≡ names_a_container f
    go true e =
        let here : ◌≡◌ {A = Result (Option Lift) StowFault} (Ok (Some (Discharge cell id))) (Ok o) = rw e at h in
        let same : Some (Discharge cell id) ≡ o = cc in
        rw (← same, e) refl
    go false e =
        let here : ◌≡◌ {A = Result (Option Lift) StowFault} (Ok None) (Ok o) = rw e at h in
        let same : None ≡ o = cc in
        rw (← same, e) refl

lift_tells : (mark : ℕ) (handling : Option Handling) (f : Found) (o : Option Lift) → lift_in mark handling f ≡ Ok o
    → is_some o ≡ names_a_container f
lift_tells mark handling f o h =
    followed (cell_at f.location) (λ cell. or_fault_at LiftWithoutHandling f.location handling >>= λ handling. id_of f.equipment >>= λ id. lift_of mark f cell handling id) o
    (is_some o ≡ names_a_container f) h
    (λ cell is rest. followed (or_fault_at LiftWithoutHandling f.location handling) (λ handling. id_of f.equipment >>= λ id. lift_of mark f cell handling id) o
    (is_some o ≡ names_a_container f) rest
    (λ handling is' rest'. followed (id_of f.equipment) (λ id. lift_of mark f cell handling id) o (is_some o ≡ names_a_container f) rest'
    (λ id is'' lift. lift_counts mark f cell handling id o lift)))

abbrev is_counted : Part → Bool
is_counted (Handled s) = false
is_counted (Located f) = names_a_container f

part_tells : (mark : ℕ) (last : Option Numbered) (p : Part) (o : Option Lift) → lift_behind mark last p ≡ Ok o → is_some o ≡ is_counted p
part_tells mark last (Handled s) o h =
    followed (handling_at s) (λ handling. Ok None) o (is_some o ≡ false) h (λ handling is e. let same : None ≡ o = cc in rw (← same) refl)
part_tells mark last (Located f) o h =
    followed (handling_of last) (λ handling. lift_in mark handling f) o (is_some o ≡ names_a_container f) h
    (λ handling is lift. lift_tells mark handling f o lift)

groups_counted : (last : Option Numbered) (parts : List Part)
    → length (filter (λ (p : HandledPart). is_counted p.part) (handled_parts last parts)) ≡ length (filter names_a_container (groups_in parts))
groups_counted last [] = refl
groups_counted last (Handled s ∷ more) = groups_counted (Some s) more
groups_counted last (Located f ∷ more) = go (names_a_container f) refl (groups_counted last more)
  where
    go : (b : Bool) → names_a_container f ≡ b
        → length (filter (λ (p : HandledPart). is_counted p.part) (handled_parts last more)) ≡ length (filter names_a_container (groups_in more))
        → length (filter (λ (p : HandledPart). is_counted p.part) (handled_parts last (Located f ∷ more))) ≡ length (filter names_a_container (groups_in (Located f ∷ more)))
    go true e h = rw e (ap suc h)
    go false e h = rw e h

-- a text is one message
one_message : (kind : Kind) (text : List ℕ) (m n : Opened) → IsMessage kind text m.mark m.segments → IsMessage kind text n.mark n.segments
    → m ≡ n
one_message kind text m n p q =
    let a : opened kind text ≡ Ok m = message_opens kind text m.mark m.segments p in
    let b : opened kind text ≡ Ok n = message_opens kind text n.mark n.segments q in
    cc

pub plan_as_many : (text : List ℕ) (m : Opened) (items : List Item) → IsMessage Baplie text m.mark m.segments → bay_plan text ≡ Ok items
    → length items ≡ length (filter names_a_container (item_groups m))
plan_as_many text m items is h =
    let a = are_items text items h in
    ap length a.2.each
    ∙ many (item_in a.0.mark) names_a_container (item_tells a.0.mark) (item_groups a.0) a.2.sound
    ∙ ap (λ (n : Opened). length (filter names_a_container (item_groups n))) (one_message Baplie text a.0 m a.1 is)

pub instruction_as_many : (text : List ℕ) (m : Opened) (lifts : List Lift) → IsMessage Movins text m.mark m.segments
    → movement_instruction text ≡ Ok lifts
    → length lifts ≡ length (filter names_a_container (lift_groups m))
instruction_as_many text m lifts is h =
    let a = are_lifts text lifts h in
    ap length a.2.each
    ∙ many (lift_under a.0.mark) (λ (p : HandledPart). is_counted p.part) (λ p o e. part_tells a.0.mark p.handling p.part o e) (lift_parts a.0) a.2.sound
    ∙ groups_counted None (parts_of true a.0.segments)
    ∙ ap (λ (n : Opened). length (filter names_a_container (lift_groups n))) (one_message Movins text a.0 m a.1 is)
