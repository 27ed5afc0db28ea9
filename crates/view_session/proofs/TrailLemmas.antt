-- What edits and undos make of a trail.
use Rattle.std.proofs.Common.{◌≡◌, ◌<◌, ◌+◌, ℕ, List, [], ◌∷◌, ◌++◌, Some, None, refl, sym, ap, ◌∙◌, subst, take, suc, zero, length, arith, Vec, get_or}
use Rattle.std.specs.declared.alloc.Global.{Global}
use Rattle.std.proofs.Math.Seq.{take-suc}
use Rattle.std.proofs.Math.ListN.{get_or-map}
use Rattle.std.proofs.lemmas.Grind.{flat_map-append}
use Rattle.std.proofs.lemmas.List.Concat.{flat_map-cons}
use Rattle.std.proofs.lemmas.List.{append-nil, map-append, length-map}
use Rattle.lift_sequence.specs.declared.operations.Op.{Op}
use Rattle.port_call.specs.Grounds.{GroundRecord}
use Rattle.edits_file.specs.declared.forms.EditLine.TheVariants.{Edit as EditOf}
use Rattle.edits_file.specs.Forms.{line_in}
use Rattle.step_edits.specs.declared.edits.Edit.{Edit}
use Rattle.step_edits.specs.Edits.{edited}
use Rattle.what_if.specs.Sessions.{refusal}
use Rattle.view_session.specs.Trails.{IsOneLine, MakesOf, Leads, LedBy, file_of, texts_of}

pub leads_on : (base : GroundRecord) (from : List Op) (lines : List (List ℕ)) (mid : List Op) (line : List ℕ) (to : List Op) →
    Leads base from lines mid → MakesOf base mid line to → Leads base from (lines ++ line ∷ []) to
leads_on base from [] mid line to h m = (to, subst (λ xs. MakesOf base xs line to) (sym h) m, refl)
leads_on base from (first ∷ lines) mid line to h m = (h.0, h.1, leads_on base h.0 lines mid line to h.2 m)

pub leads_of : (base : GroundRecord) (from : List Op) (lines : List (List ℕ)) (to : List Op) (past : List (List Op)) →
    LedBy base from lines to past → Leads base from lines to
leads_of base from lines to [] h = h
leads_of base from lines to (newest ∷ past) h =
    subst (λ xs. Leads base from xs to) (sym h.2) (leads_on base from h.0 newest h.1 to (leads_of base from h.0 newest past h.4) h.3)

pub led_cut : (n : ℕ) (base : GroundRecord) (from : List Op) (lines : List (List ℕ)) (to : List Op) (past : List (List Op)) →
    LedBy base from lines to past → LedBy base from lines to (take n past)
led_cut zero base from lines to past h = leads_of base from lines to past h
led_cut (suc n) base from lines to [] h = h
led_cut (suc n) base from lines to (newest ∷ past) h = (h.0, h.1, h.2, h.3, led_cut n base from h.0 newest past h.4)

pub led_on : (base : GroundRecord) (from : List Op) (lines : List (List ℕ)) (mid : List Op) (past : List (List Op)) (line : List ℕ) (to : List Op) →
    LedBy base from lines mid past → MakesOf base mid line to → LedBy base from (lines ++ line ∷ []) to (take 64 (mid ∷ past))
led_on base from lines mid past line to h m = led_cut 64 base from (lines ++ line ∷ []) to (mid ∷ past) (lines, line, refl, m, h)

pub tried_on : (base base' : GroundRecord) (from ops ops' : List Op) (past past' : List (List Op)) (lines lines' : List (List ℕ)) (line : List ℕ) (edit : Edit) →
    base' ≡ base → line_in line ≡ Some (EditOf edit) → IsOneLine line → refusal base ops edit ≡ None → ops' ≡ edited ops edit →
    past' ≡ take 64 (ops ∷ past) → lines' ≡ lines ++ line ∷ [] → LedBy base from lines ops past → LedBy base' from lines' ops' past'
tried_on base base' from ops ops' past past' lines lines' line edit b form one r o p l h =
    rw b (rw l (rw p (led_on base from lines ops past line ops' h (edit, form, one, r, sym o))))

-- one more of some lines
pub texts_more : (lines : List (Vec ℕ Global)) (i : ℕ) (line : Vec ℕ Global) → i < length lines → line ≡ get_or lines i line →
    take (i + 1) (texts_of lines) ≡ take i (texts_of lines) ++ line.items ∷ []
texts_more lines i line inside is =
    let count : i + 1 ≡ suc i = omega arith in
    let within : i < length (texts_of lines) = subst (λ n. i < n) (sym (length-map lines (λ (v : Vec ℕ Global). v.items))) inside in
    let here : get_or (texts_of lines) i line.items ≡ line.items = get_or-map (λ (v : Vec ℕ Global). v.items) lines i line ∙ ap (λ (v : Vec ℕ Global). v.items) (sym is) in
    ap (λ n. take n (texts_of lines)) count ∙ take-suc (texts_of lines) i line.items within ∙ ap (λ x. take i (texts_of lines) ++ x ∷ []) here

pub file_more : (lines : List (Vec ℕ Global)) (i : ℕ) (line : Vec ℕ Global) → i < length lines → line ≡ get_or lines i line →
    file_of (take (i + 1) (texts_of lines)) ≡ file_of (take i (texts_of lines)) ++ (line.items ++ 10 ∷ [])
file_more lines i line inside is =
    let ended : List ℕ → List ℕ = λ x. x ++ 10 ∷ [] in
    ap file_of (texts_more lines i line inside is)
    ∙ flat_map-append ended (take i (texts_of lines)) (line.items ∷ [])
    ∙ ap (λ x. file_of (take i (texts_of lines)) ++ x) (flat_map-cons ended line.items [] ∙ append-nil (line.items ++ 10 ∷ []))

pub copy_more : (lines done : List (Vec ℕ Global)) (i : ℕ) (line copy : Vec ℕ Global) → i < length lines → line ≡ get_or lines i line →
    texts_of done ≡ take i (texts_of lines) → copy.items ≡ line.items → texts_of (done ++ copy ∷ []) ≡ take (i + 1) (texts_of lines)
copy_more lines done i line copy inside is so_far same =
    map-append (λ (v : Vec ℕ Global). v.items) done (copy ∷ []) ∙ (λ j. so_far j ++ same j ∷ []) ∙ sym (texts_more lines i line inside is)
