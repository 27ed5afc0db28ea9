-- The text of a trail is read as its edits.
use Rattle.std.proofs.Common.{◌≡◌, ℕ, List, [], ◌∷◌, ◌++◌, Some, Ok, refl, sym, ap, ◌∙◌, subst, map, append_assoc}
use Rattle.edits_file.specs.declared.forms.EditLine.TheVariants.{Edit as EditOf}
use Rattle.edits_file.specs.Forms.{line_in}
use Rattle.edits_file.specs.Reading.{edits_of}
use Rattle.edits_file.specs.Words.{lines_in}
use Rattle.edits_file.proofs.LineLemmas.{lines_at}
use Rattle.edits_file.proofs.ReadingLemmas.{edits_sound}
use Rattle.lift_sequence.specs.declared.operations.Op.{Op}
use Rattle.port_call.specs.Grounds.{GroundRecord}
use Rattle.step_edits.specs.declared.edits.Edit.{Edit}
use Rattle.view_session.specs.Laws.{Replays}
use Rattle.view_session.specs.Trails.{IsTrail, Leads, TriedRecord, file_of}
use Rattle.view_session.proofs.TrailLemmas.{leads_of}

reads : (base : GroundRecord) (from : List Op) (lines : List (List ℕ)) (to : List Op) → Leads base from lines to →
    (edits : List Edit) × (map line_in (lines_in (file_of lines)) ≡ map Some (map EditOf edits)) × Replays base from edits to
reads base from [] to h = ([], refl, h)
reads base from (line ∷ lines) to h =
    let more = reads base h.0 lines to h.2 in
    let m = h.1 in
    let cut : lines_in ((line ++ 10 ∷ []) ++ file_of lines) ≡ line ∷ lines_in (file_of lines) =
    ap lines_in (append_assoc line (10 ∷ []) (file_of lines)) ∙ lines_at line (file_of lines) m.2 in (
      m.0 ∷ more.0,
      ap (map line_in) cut
          ∙ (ap (λ x. x ∷ map line_in (lines_in (file_of lines))) m.1 ∙ ap (λ xs. Some (EditOf m.0) ∷ xs) more.1),
      (m.3, subst (λ xs. Replays base xs more.0 to) (sym m.4) more.2),
    )

pub kept_lead : (from : List Op) (tried : TriedRecord) → IsTrail from tried →
    (edits : List Edit) × (edits_of (file_of tried.lines) ≡ Ok (map EditOf edits)) × Replays tried.session.base from edits tried.session.ops
kept_lead from tried h =
    let s = tried.session in
    let r = reads s.base from tried.lines s.ops (leads_of s.base from tried.lines s.ops s.past h) in
    (r.0, edits_sound (file_of tried.lines) (map EditOf r.0) r.1, r.2)
