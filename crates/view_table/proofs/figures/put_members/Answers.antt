use Rattle.std.proofs.Common.{◌∙◌, List, [], ◌∷◌, ◌++◌, ℕ, ℤ, pos, Some, codes, ap}
use Rattle.view_table.specs.Tables.{member}
use Rattle.view_table.proofs.TextLemmas.{before, before_all}
use Rattle.view_table.proofs.figures.put_members.Goals as goal

pub returns-clause-text : goal.returns-clause-text
returns-clause-text c =
    let f = c.args.figures.now in
    let gm = member (codes ",\"gm_mm\"") (Some f.gm) in
    let mean = member (codes ",\"mean_mm\"") (Some f.mean) in
    let aft = member (codes ",\"aft_mm\"") (Some f.aft) in
    let fwd = member (codes ",\"fwd_mm\"") (Some f.fwd) in
    let trim = member (codes ",\"trim_mm\"") (Some f.trim) in
    let list = member (codes ",\"list_e4\"") f.list in
    let area-30 = member (codes ",\"a30_mmdeg\"") (Some f.area_30) in
    let area-40 = member (codes ",\"a40_mmdeg\"") (Some f.area_40) in
    let area-30-40 = member (codes ",\"a3040_mmdeg\"") (Some f.area_30_40) in
    let levers : List (List ℕ) =
    member (codes ",\"gz_mm\"") (Some f.lever) ∷ member (codes ",\"angle_deg\"") (Some (pos f.angle)) ∷ member (codes ",\"close_kg\"") (Some f.strains.closing) ∷ [] in
    c.put_before.ensures.text
    ∙ ap (before (gm ∷ mean ∷ aft ∷ fwd ∷ trim ∷ [])) (c.put_list.ensures.text
    ∙ ap (λ (t : List ℕ). list ++ t) (c.put_areas.ensures.text ∙ ap (before (area-30 ∷ area-40 ∷ area-30-40 ∷ [])) c.put_levers.ensures.text))
    ∙ before_all (gm ∷ mean ∷ aft ∷ fwd ∷ trim ∷ list ∷ area-30 ∷ area-40 ∷ area-30-40 ∷ levers) c.args.end.now
