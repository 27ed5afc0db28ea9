-- A text is a bay plan or a movement instruction, or it has a fault of one.
use Rattle.std.proofs.Common.{◌≡◌, ◌∙◌, ◌⊎◌, inl, inr, ℕ, List, [], ◌∷◌, Option, Some, None, Result, Ok, Err, false, true, refl, sym, ap}
use Rattle.edifact_text.specs.Interchange.{Numbered, Opened}
use Rattle.edifact_text.specs.Reading.{opened}
use Rattle.edifact_text.specs.declared.faults.EdiFault.{EdiFault}
use Rattle.edifact_text.specs.declared.faults.Kind.TheVariants.{Baplie, Movins}
use Rattle.edifact_text.proofs.OpenedLemmas.{message_opens, message_is, fault_opens, fault_is}
use Rattle.stow_messages.specs.declared.items.Item.{Item}
use Rattle.stow_messages.specs.declared.lifts.Lift.{Lift}
use Rattle.stow_messages.specs.declared.lifts.Handling.{Handling}
use Rattle.stow_messages.specs.declared.faults.StowFault.{StowFault}
use Rattle.units_core.specs.Outcome.{◌>>=◌}
use Rattle.stow_messages.specs.Entries.{with_entry}
use Rattle.stow_messages.specs.Faults.{AreItems, AreLifts, IsPlanFault, IsInstructionFault}
use Rattle.stow_messages.specs.Groups.{Found, Part, Handled, Located, HandledPart, groups_in, handled_parts, location_of, parts_of}
use Rattle.stow_messages.specs.Items.{item_in, with_item_of, item_groups, items_from, items_behind, bay_plan}
use Rattle.stow_messages.specs.Lifts.{handling_at, handling_of, lift_under, lift_parts, with_lift_of, lifts_from, lifts_behind, movement_instruction}
use Rattle.stow_messages.proofs.EntryLemmas.{told, walk, entries_walk, fault_walks, either_is}

bind_same : {A B : Type 0} (r : Result A StowFault) (f g : A → Result B StowFault) → ((a : A) → f a ≡ g a) → (r >>= f) ≡ (r >>= g)
bind_same (Ok a) f g h = h a
bind_same (Err e) f g h = refl

-- the items of a message
abbrev item_walk : ℕ → List Item → List Found → Result (List Item) StowFault
item_walk mark items groups = walk 30000 (λ (g : Found). g.location) (item_in mark) items groups

items_walk : (mark : ℕ) (items : List Item) (parts : List Part) → items_from mark items parts ≡ item_walk mark items (groups_in parts)
items_walk mark items [] = refl
items_walk mark items (Handled s ∷ more) = items_walk mark items more
items_walk mark items (Located f ∷ more) =
    bind_same (with_item_of mark items f) (λ longer. items_from mark longer more) (λ longer. item_walk mark longer (groups_in more)) (λ longer. items_walk mark longer more)

plan_walks : (text : List ℕ) (m : Opened) → opened Baplie text ≡ Ok m → bay_plan text ≡ item_walk m.mark [] (item_groups m)
plan_walks text m h = ap items_behind h ∙ items_walk m.mark [] (parts_of false m.segments)

pub plan_sound : (text : List ℕ) (items : List Item) → AreItems text items → bay_plan text ≡ Ok items
plan_sound text items h =
    plan_walks text h.0 (message_opens Baplie text h.0.mark h.0.segments h.1)
    ∙ entries_walk 30000 (λ (g : Found). g.location) (item_in h.0.mark) (item_groups h.0) items h.2 h.3

pub plan_fault : (text : List ℕ) (f : StowFault) → IsPlanFault text f → bay_plan text ≡ Err f
plan_fault text f (inl h) = ap items_behind (fault_opens Baplie text h.0 h.1) ∙ ap Err (sym h.2)
plan_fault text f (inr h) =
    plan_walks text h.0 (message_opens Baplie text h.0.mark h.0.segments h.1)
    ∙ fault_walks 30000 (λ (g : Found). g.location) (item_in h.0.mark) (item_groups h.0) f h.2

pub plan_either : (text : List ℕ) → ((items : List Item) × AreItems text items) ⊎ ((f : StowFault) × IsPlanFault text f)
plan_either text = go (opened Baplie text) refl
  where
    go : (r : Result Opened EdiFault) → opened Baplie text ≡ r
        → ((items : List Item) × AreItems text items) ⊎ ((f : StowFault) × IsPlanFault text f)
    go (Err e) h = inr (_, inl (e, fault_is Baplie text e h, refl))
    go (Ok m) h =
        let is = message_is Baplie text m h in
        elim (either_is 30000 (λ (g : Found). g.location) (item_in m.mark) (item_groups m)) [
          | inl o ↦ inl (o.0, (m, is, o.1, o.2))
          | inr o ↦ inr (o.0, inr (m, is, o.1))
        ]

pub are_items : (text : List ℕ) (items : List Item) → bay_plan text ≡ Ok items → AreItems text items
are_items text = told (bay_plan text) (AreItems text) (IsPlanFault text) (plan_sound text) (plan_fault text) (plan_either text)

-- the lifts of a message
abbrev lift_walk : ℕ → List Lift → List HandledPart → Result (List Lift) StowFault
lift_walk mark lifts parts = walk 200000 (λ (p : HandledPart). location_of p.part) (lift_under mark) lifts parts

-- a handling that is understood is the last one for the parts behind it
module _ (mark : ℕ) (lifts : List Lift) (s : Numbered) (more : List Part) (handling : Option Handling) (last : Option Numbered) where
  by_handling : (r : Result Handling StowFault) → handling_at s ≡ r
      → ((next : Handling) → handling_at s ≡ Ok next → lifts_from mark (Some next) lifts more ≡ lift_walk mark lifts (handled_parts (Some s) more))
      → lifts_from mark handling lifts (Handled s ∷ more) ≡ lift_walk mark lifts (handled_parts last (Handled s ∷ more))
  by_handling (Ok next) is on = rw is (on next is)
  by_handling (Err e) is on = rw is refl

lifts_walk : (mark : ℕ) (last : Option Numbered) (handling : Option Handling) (lifts : List Lift) (parts : List Part)
    → handling_of last ≡ Ok handling
    → lifts_from mark handling lifts parts ≡ lift_walk mark lifts (handled_parts last parts)
lifts_walk mark last handling lifts [] known = refl
lifts_walk mark last handling lifts (Handled s ∷ more) known =
    by_handling mark lifts s more handling last (handling_at s) refl (λ next is. lifts_walk mark (Some s) (Some next) lifts more (rw is refl))
lifts_walk mark last handling lifts (Located f ∷ more) known =
    let same : with_lift_of mark handling lifts f ≡ (lift_under mark (record { handling = last; part = Located f }) >>= with_entry 200000 lifts f.location) = rw known refl in
    bind_same (with_lift_of mark handling lifts f) (λ longer. lifts_from mark handling longer more) (λ longer. lift_walk mark longer (handled_parts last more))
    (λ longer. lifts_walk mark last handling longer more known)
    ∙ ap (λ (r : Result (List Lift) StowFault). r >>= λ longer. lift_walk mark longer (handled_parts last more)) same

instruction_walks : (text : List ℕ) (m : Opened) → opened Movins text ≡ Ok m
    → movement_instruction text ≡ lift_walk m.mark [] (lift_parts m)
instruction_walks text m h = ap lifts_behind h ∙ lifts_walk m.mark None None [] (parts_of true m.segments) refl

pub instruction_sound : (text : List ℕ) (lifts : List Lift) → AreLifts text lifts → movement_instruction text ≡ Ok lifts
instruction_sound text lifts h =
    instruction_walks text h.0 (message_opens Movins text h.0.mark h.0.segments h.1)
    ∙ entries_walk 200000 (λ (p : HandledPart). location_of p.part) (lift_under h.0.mark) (lift_parts h.0) lifts h.2 h.3

pub instruction_fault : (text : List ℕ) (f : StowFault) → IsInstructionFault text f → movement_instruction text ≡ Err f
instruction_fault text f (inl h) = ap lifts_behind (fault_opens Movins text h.0 h.1) ∙ ap Err (sym h.2)
instruction_fault text f (inr h) =
    instruction_walks text h.0 (message_opens Movins text h.0.mark h.0.segments h.1)
    ∙ fault_walks 200000 (λ (p : HandledPart). location_of p.part) (lift_under h.0.mark) (lift_parts h.0) f h.2

pub instruction_either : (text : List ℕ) → ((lifts : List Lift) × AreLifts text lifts) ⊎ ((f : StowFault) × IsInstructionFault text f)
instruction_either text = go (opened Movins text) refl
  where
    go : (r : Result Opened EdiFault) → opened Movins text ≡ r
        → ((lifts : List Lift) × AreLifts text lifts) ⊎ ((f : StowFault) × IsInstructionFault text f)
    go (Err e) h = inr (_, inl (e, fault_is Movins text e h, refl))
    go (Ok m) h =
        let is = message_is Movins text m h in
        elim (either_is 200000 (λ (p : HandledPart). location_of p.part) (lift_under m.mark) (lift_parts m)) [
          | inl o ↦ inl (o.0, (m, is, o.1, o.2))
          | inr o ↦ inr (o.0, inr (m, is, o.1))
        ]

pub are_lifts : (text : List ℕ) (lifts : List Lift) → movement_instruction text ≡ Ok lifts → AreLifts text lifts
are_lifts text = told (movement_instruction text) (AreLifts text) (IsInstructionFault text) (instruction_sound text) (instruction_fault text) (instruction_either text)
