-- The result of reading the lines of an edits file: their orders, or the first line that is of no
-- form.
use Rattle.std.proofs.Common.{◌≡◌, ◌∙◌, ◌⊎◌, inl, inr, ℕ, ◌+◌, ◌≤◌, ◌==◌, true, List, [], ◌∷◌, ◌++◌, append_assoc, append-nil, map, length, length-append, Option, Some, None, Result, Ok, Err, refl, ap, sym, arith}
use Rattle.std.proofs.lemmas.Bool.{eqb-true}
use Rattle.std.proofs.lemmas.List.{length-map}
use Rattle.edits_file.specs.declared.files.EditsFault.{EditsFault}
use Rattle.edits_file.specs.declared.files.EditsFault.TheVariants.{Line}
use Rattle.edits_file.specs.declared.forms.EditLine.{EditLine}
use Rattle.edits_file.specs.Faults.{AreEdits, IsRefusal}
use Rattle.edits_file.specs.Forms.{line_in}
use Rattle.edits_file.specs.Reading.{edits_from, edits_left, edits_of}
use Rattle.edits_file.specs.Words.{lines_in}

-- nothing is left
pub none_left : (before : List EditLine) (text : List ℕ) (all : Result (List EditLine) EditsFault) → (length text == 0) ≡ true
    → edits_from before (lines_in text) ≡ all → all ≡ Ok before
none_left before [] all e h = sym h
none_left before (c ∷ cs) all e h = let nought : length (c ∷ cs) ≡ 0 = eqb-true _ _ e in absurd (omega (arith, nought))

-- one line more, which is of a form or of none
module _ (before : List EditLine) (text line : List ℕ) (more : List (List ℕ)) where
  pub goes_on : (edit : EditLine) → lines_in text ≡ line ∷ more → line_in line ≡ Some edit
      → edits_from before (lines_in text) ≡ edits_from (before ++ edit ∷ []) more
  goes_on edit lines here = rw (lines, here) refl

  pub stops : lines_in text ≡ line ∷ more → line_in line ≡ None → edits_from before (lines_in text) ≡ Err (Line (length before + 1))
  stops lines none = rw (lines, none) refl

-- lines that are all of a form
reads_on : (start edits : List EditLine) (lines : List (List ℕ)) → map line_in lines ≡ map Some edits
    → edits_from start lines ≡ Ok (start ++ edits)
reads_on start [] [] h = ap Ok (sym (append-nil start))
reads_on start [] (l ∷ ls) h = cc h
reads_on start (e ∷ es) [] h = cc h
reads_on start (e ∷ es) (l ∷ ls) h =
    let here : line_in l ≡ Some e = cc in
    let rest : map line_in ls ≡ map Some es = cc in
    rw here (reads_on (start ++ e ∷ []) es ls rest ∙ ap Ok (append_assoc start (e ∷ []) es))

-- a line that is of none behind them
stops_at : (start edits : List EditLine) (before : List (List ℕ)) (line : List ℕ) (behind : List (List ℕ))
    → map line_in before ≡ map Some edits → line_in line ≡ None → (number : ℕ) → number ≡ length start + length before + 1
    → edits_from start (before ++ line ∷ behind) ≡ Err (Line number)
stops_at start [] [] line behind h none number at = rw none (ap (λ n. Err (Line n)) (omega (arith, at)))
stops_at start [] (l ∷ ls) line behind h none number at = cc h
stops_at start (e ∷ es) [] line behind h none number at = cc h
stops_at start (e ∷ es) (l ∷ ls) line behind h none number at =
    let here : line_in l ≡ Some e = cc in
    let rest : map line_in ls ≡ map Some es = cc in
    rw here (stops_at (start ++ e ∷ []) es ls line behind rest none number (omega (arith, at, length-append start (e ∷ []))))

-- the first line of no form, among lines
record IsStop (lines : List (List ℕ)) : Type 0 where
  before : List (List ℕ)
  line : List ℕ
  behind : List (List ℕ)
  edits : List EditLine
  lines_are : lines ≡ before ++ line ∷ behind
  are_edits : map line_in before ≡ map Some edits
  no_form : line_in line ≡ None

told : (lines : List (List ℕ)) → ((edits : List EditLine) × (map line_in lines ≡ map Some edits)) ⊎ IsStop lines
told [] = inl ([], refl)
told (l ∷ ls) = go (line_in l) refl (told ls)
  where
    go : (o : Option EditLine) → line_in l ≡ o → ((edits : List EditLine) × (map line_in ls ≡ map Some edits)) ⊎ IsStop ls
        → ((edits : List EditLine) × (map line_in (l ∷ ls) ≡ map Some edits)) ⊎ IsStop (l ∷ ls)
    go None e rest = inr (record { before = []; line = l; behind = ls; edits = []; lines_are = refl; are_edits = refl; no_form = e })
    go (Some edit) e (inl all) = inl (edit ∷ all.0, λ i. e i ∷ all.1 i)
    go (Some edit) e (inr stop) =
        inr (record {
          before = l ∷ stop.before;
          line = stop.line;
          behind = stop.behind;
          edits = edit ∷ stop.edits;
          lines_are = ap (λ more. l ∷ more) stop.lines_are;
          are_edits = λ i. e i ∷ stop.are_edits i;
          no_form = stop.no_form;
        })

pub edits_sound : (text : List ℕ) (edits : List EditLine) → AreEdits text edits → edits_of text ≡ Ok edits
edits_sound text edits h = reads_on [] edits (lines_in text) h

pub edits_fault : (text : List ℕ) (f : EditsFault) → IsRefusal text f → edits_of text ≡ Err f
edits_fault text f h =
    ap (edits_from []) h.lines_are
    ∙ (stops_at [] h.edits h.before h.line h.behind h.are_edits h.no_form (length h.before + 1) (omega arith) ∙ ap Err (sym h.fault_is))

pub edits_either : (text : List ℕ) → ((edits : List EditLine) × AreEdits text edits) ⊎ ((f : EditsFault) × IsRefusal text f)
edits_either text = go (told (lines_in text))
  where
    go : ((edits : List EditLine) × AreEdits text edits) ⊎ IsStop (lines_in text)
        → ((edits : List EditLine) × AreEdits text edits) ⊎ ((f : EditsFault) × IsRefusal text f)
    go (inl all) = inl all
    go (inr stop) =
        inr (
          Line (length stop.before + 1),
          record {
            before = stop.before;
            line = stop.line;
            behind = stop.behind;
            edits = stop.edits;
            lines_are = stop.lines_are;
            are_edits = stop.are_edits;
            no_form = stop.no_form;
            fault_is = refl;
          },
        )

-- what is read are the orders of the lines
pub are_edits : (text : List ℕ) (edits : List EditLine) → edits_of text ≡ Ok edits → AreEdits text edits
are_edits text edits h = go (edits_either text)
  where
    go : ((read : List EditLine) × AreEdits text read) ⊎ ((f : EditsFault) × IsRefusal text f) → AreEdits text edits
    go (inl all) =
        let read : edits_of text ≡ Ok all.0 = edits_sound text all.0 all.1 in
        let same : all.0 ≡ edits = cc in
        rw (← same) all.1
    go (inr stop) =
        let refused : edits_of text ≡ Err stop.0 = edits_fault text stop.0 stop.1 in
        cc

pub as_many_edits : (text : List ℕ) (edits : List EditLine) → edits_of text ≡ Ok edits → length edits ≡ length (lines_in text)
as_many_edits text edits h =
    let all = ap length (are_edits text edits h) in
    sym (length-map edits Some) ∙ (sym all ∙ length-map (lines_in text) line_in)

-- some lines of a text were looked at, all of them of a form; this is left of it
pub record AreLookedAt (text rest : List ℕ) (count : ℕ) : Type 0 where
  pub before : List EditLine
  pub number : length before ≡ count
  pub are : edits_from before (lines_in rest) ≡ edits_of text
  pub few : count + length rest ≤ length text

-- the first order that is left of a text, and those behind it
first_of : (edits : List EditLine) (line : List ℕ) (more : List (List ℕ)) (edit : EditLine) → map line_in (line ∷ more) ≡ map Some edits → line_in line ≡ Some edit
    → (rest : List EditLine) × (edits ≡ edit ∷ rest) × (map line_in more ≡ map Some rest)
first_of [] line more edit h here = cc h
first_of (e ∷ es) line more edit h here =
    let same : e ≡ edit = cc in
    let behind : map line_in more ≡ map Some es = cc in
    (es, ap (λ x. x ∷ es) same, behind)

pub first_left : (text line more : List ℕ) (edit : EditLine) (edits : List EditLine) → edits_of text ≡ Ok edits → lines_in text ≡ line ∷ lines_in more → line_in line ≡ Some edit
    → (edits ≡ edit ∷ edits_left (edits_of more)) × (edits_of more ≡ Ok (edits_left (edits_of more)))
first_left text line more edit edits read lines here =
    let all = first_of edits line (lines_in more) edit (sym (ap (map line_in) lines) ∙ are_edits text edits read) here in
    let behind : edits_of more ≡ Ok all.0 = edits_sound more all.0 all.2 in
    let is : edits_left (edits_of more) ≡ all.0 = ap edits_left behind in
    (all.1 ∙ ap (λ l. edit ∷ l) (sym is), behind ∙ ap (λ l. Ok l) (sym is))

-- each line of such a text is of a form
pub has_form : (text line : List ℕ) (more : List (List ℕ)) (edits : List EditLine) → edits_of text ≡ Ok edits → lines_in text ≡ line ∷ more → line_in line ≡ None → ⊥
has_form text line more edits read lines none = absent edits (sym (ap (map line_in) lines) ∙ are_edits text edits read)
  where
    absent : (orders : List EditLine) → map line_in (line ∷ more) ≡ map Some orders → ⊥
    absent [] h = cc h
    absent (e ∷ es) h = let there : line_in line ≡ Some e = cc in cc
