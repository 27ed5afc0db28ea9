-- The earlier lists of a session.
use Rattle.std.proofs.Common.{◌≡◌, ℕ, zero, suc, List, [], ◌∷◌, take, drop, Option, None, Some, refl, sym, ap, ◌∙◌, subst}
use Rattle.std.specs.Prelude.{slice_get, option_map}
use Rattle.std.specs.Option.{option_or}
use Rattle.std.proofs.lemmas.Option.{none-some}
use Rattle.circular_buffer.specs.Buffer.{Buffer, buffer}
use Rattle.lift_sequence.specs.declared.operations.Op.{Op}
use Rattle.step_edits.specs.declared.edits.Edit.{Edit}
use Rattle.step_edits.specs.declared.faults.EditFault.{EditFault}
use Rattle.step_edits.specs.declared.faults.EditFault.TheVariants.{Sequence}
use Rattle.step_edits.specs.Edits.{edited, edit_fault, inverse}
use Rattle.step_edits.proofs.EditLemmas.{takes_back}
use Rattle.port_call.specs.Grounds.{GroundRecord, list_fault}
use Rattle.what_if.specs.Sessions.{ArePast, IsPast, past_of, refusal}

-- the earlier lists cut
past_cut : (ops : List Op) (n : ℕ) (edits : List Edit) → past_of ops (take n edits) ≡ take n (past_of ops edits)
past_cut ops zero edits = refl
past_cut ops (suc n) [] = refl
past_cut ops (suc n) (edit ∷ more) = ap (λ lists. edited ops edit ∷ lists) (past_cut (edited ops edit) n more)

are_cut : (base : GroundRecord) (ops : List Op) (n : ℕ) (edits : List Edit) → ArePast base ops edits → ArePast base ops (take n edits)
are_cut base ops zero edits h = tt
are_cut base ops (suc n) [] h = tt
are_cut base ops (suc n) (edit ∷ more) h = (h.0, are_cut base (edited ops edit) n more h.1)

-- an edit that isn't refused has no fault of its own
pub own_none : (own : Option EditFault) (list : Option EditFault) → option_or own list ≡ None → own ≡ None
own_none None list h = refl
own_none (Some fault) list h = absurd (none-some fault (sym h))

-- an edit more
module _ (base : GroundRecord) (ops : List Op) (edit : Edit) (can : edit_fault ops edit ≡ None) where
  one_more : (edits : List Edit) → past_of (edited ops edit) (take 64 (inverse ops edit ∷ edits)) ≡ take 64 (ops ∷ past_of ops edits)
  one_more edits =
      past_cut (edited ops edit) 64 (inverse ops edit ∷ edits) ∙ ap (λ before. take 64 (before ∷ past_of before edits)) (takes_back ops edit can).1

  leads_back : (edits : List Edit) → list_fault base ops ≡ None → ArePast base ops edits → ArePast base (edited ops edit) (take 64 (inverse ops edit ∷ edits))
  leads_back edits legal past =
      let back = takes_back ops edit can in
      let refused : refusal base (edited ops edit) (inverse ops edit) ≡ None
      = λ i. option_or (back.0 i) (option_map Sequence ((ap (list_fault base) back.1 ∙ legal) i)) in
      are_cut base (edited ops edit) 64 (inverse ops edit ∷ edits)
      (refused, subst (λ before. ArePast base before edits) (sym back.1) past)

  module _ (before after : Buffer Edit) (back : Edit) (is : back ≡ inverse ops edit) (kept : IsPast base ops before)
      (puts : after ≡ buffer (take before.capacity (back ∷ before.items)) before.capacity) where
    put_first : after ≡ buffer (take 64 (inverse ops edit ∷ before.items)) 64
    put_first = puts ∙ (λ i. buffer (take (kept.room i) (is i ∷ before.items)) (kept.room i))

    pub past_after : past_of (edited ops edit) after.items ≡ take 64 (ops ∷ past_of ops before.items)
    past_after = ap (λ (b : Buffer Edit). past_of (edited ops edit) b.items) put_first ∙ one_more before.items

    pub kept_after : list_fault base ops ≡ None → IsPast base (edited ops edit) after
    kept_after legal = record {
      room = ap (λ (b : Buffer Edit). b.capacity) put_first;
      leads_back = subst (ArePast base (edited ops edit)) (sym (ap (λ (b : Buffer Edit). b.items) put_first)) (leads_back before.items legal kept.leads_back);
    }

-- the newest edit, and what is left without it
abbrev newest : Edit → Option Edit → Edit
newest d None = d
newest d (Some edit) = edit

module _ (base : GroundRecord) (ops : List Op) where
  pub none_kept : (edits : List Edit) → slice_get edits 0 ≡ None → past_of ops edits ≡ []
  none_kept [] h = refl
  none_kept (edit ∷ more) h = absurd (none-some edit (sym h))

  pub newest_is_taken : (edits : List Edit) (edit : Edit) → ArePast base ops edits → slice_get edits 0 ≡ Some edit → refusal base ops edit ≡ None
  newest_is_taken [] edit h is = absurd (none-some edit is)
  newest_is_taken (first ∷ more) edit h is = subst (λ e. refusal base ops e ≡ None) (ap (λ o. newest first o) is) h.0

  pub newest_list : (after : List Op) (edits : List Edit) (edit : Edit) → slice_get edits 0 ≡ Some edit → after ≡ edited ops edit
      → past_of ops edits ≡ after ∷ past_of after (drop 1 edits)
  newest_list after [] edit is h = absurd (none-some edit is)
  newest_list after (first ∷ more) edit is h =
      let same : edited ops first ≡ after = ap (λ o. edited ops (newest first o)) is ∙ sym h in
      λ i. same i ∷ past_of (same i) more

  pub kept_before : (after : List Op) (edit : Edit) (before left : Buffer Edit) → IsPast base ops before → slice_get before.items 0 ≡ Some edit → after ≡ edited ops edit
      → left ≡ buffer (drop 1 before.items) before.capacity → IsPast base after left
  kept_before after edit before left kept is made pops = record {
    room = ap (λ (b : Buffer Edit). b.capacity) pops ∙ kept.room;
    leads_back = subst (ArePast base after) (sym (ap (λ (b : Buffer Edit). b.items) pops)) (split before.items kept.leads_back is);
  } where
    split : (edits : List Edit) → ArePast base ops edits → slice_get edits 0 ≡ Some edit → ArePast base after (drop 1 edits)
    split [] h k = absurd (none-some edit k)
    split (first ∷ more) h k =
        let same : edited ops first ≡ after = ap (λ o. edited ops (newest first o)) k ∙ sym made in
        subst (λ list. ArePast base list more) same h.1
