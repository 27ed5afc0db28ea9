-- The number of a segment in a message is its place among all segments of the text.
use Rattle.std.proofs.Common.{◌≡◌, ℕ, ◌+◌, ◌-◌, List, [], ◌∷◌, ◌++◌, length, Option, Some, None, Result, Ok, Err, Bool, true, false, cond, refl, take, arith, sym, ap, ◌∙◌, append_assoc, subst, suc, zero, nat_lt}
use Rattle.std.specs.Prelude.{slice_get}
use Rattle.std.proofs.lemmas.List.{append-nil}
use Rattle.edifact_text.specs.declared.faults.EdiFault.{EdiFault}
use Rattle.edifact_text.specs.declared.faults.EdiCode.{EdiCode}
use Rattle.edifact_text.specs.declared.faults.EdiCode.TheVariants.{Truncated, Trailing}
use Rattle.edifact_text.specs.declared.faults.Kind.{Kind}
use Rattle.edifact_text.specs.declared.service.Service.{Service}
use Rattle.edifact_text.specs.Interchange.{Numbered, Opened, Parts, numbered}
use Rattle.edifact_text.specs.Places.{placed_by, placed_in}
use Rattle.edifact_text.specs.Reading.{◌>>=◌, Start, Stretch, as_result, cut_text, fault, inner, judged, opened, row, segment_of, start_of, stretches, trimmed}
use Rattle.edifact_text.specs.Rows.{is_closed, row_of}
use Rattle.edifact_text.specs.Stages.{ended_ones, message_parts}
use Rattle.view_quotes.specs.Laws.{IsQuoted}

-- What is read of a text is each of its segments, in their order.
at_end : (b : Bool) (len : ℕ) (before all : List Parts) → cond b (Ok before) (fault Truncated len) ≡ Ok all → before ≡ all
at_end true len before all h = cc
at_end false len before all h = cc

at_last : (b c : Bool) (len place : ℕ) (before all : List Parts) →
    cond b (row c Trailing place >>= λ _. Ok before) (fault Truncated len) ≡ Ok all → before ≡ all
at_last true true len place before all h = cc
at_last true false len place before all h = cc
at_last false c len place before all h = cc

past : (b : Bool) (place : ℕ) (r : Option EdiCode) (more : Result (List Parts) EdiFault) (all : List Parts) →
    cond b (fault Trailing place) (as_result r place >>= λ _. more) ≡ Ok all → more ≡ Ok all
past true place r more all h = cc
past false place None more all h = h
past false place (Some code) more all h = cc

keeps : (kind : Kind) (sv : Service) (len : ℕ) (before : List Parts) (ss : List Stretch) (all : List Parts) →
    judged kind sv len before ss ≡ Ok all → before ++ message_parts sv (ended_ones ss) ≡ all
keeps kind sv len before [] all h = append-nil before ∙ at_end (is_closed before) len before all h
keeps kind sv len before (s ∷ []) all h =
    append-nil before ∙ at_last (is_closed before) (nat_lt 0 (length s.bytes)) len s.place before all h
keeps kind sv len before (s ∷ t ∷ more) all h =
    let next = before ++ segment_of sv s.bytes ∷ [] in
    sym (append_assoc before (segment_of sv s.bytes ∷ []) (message_parts sv (ended_ones (t ∷ more))))
    ∙ keeps kind sv len next (t ∷ more) all
    (past (is_closed before) s.place (row_of kind before (segment_of sv s.bytes)) (judged kind sv len next (t ∷ more)) all h)

-- Where each of them stands in the lists that a message is made of.
ended_at : (ss : List Stretch) (i : ℕ) (s : Stretch) → slice_get (ended_ones ss) i ≡ Some s → slice_get ss i ≡ Some s
ended_at [] i s h = cc
ended_at (s ∷ []) i u h = cc
ended_at (s ∷ t ∷ more) zero u h = h
ended_at (s ∷ t ∷ more) (suc i) u h = ended_at (t ∷ more) i u h

taken_at : (n : ℕ) (xs : List Parts) (i : ℕ) (x : Parts) → slice_get (take n xs) i ≡ Some x → slice_get xs i ≡ Some x
taken_at zero xs i x h = cc
taken_at (suc n) [] i x h = cc
taken_at (suc n) (y ∷ ys) zero x h = h
taken_at (suc n) (y ∷ ys) (suc i) x h = taken_at n ys i x h

inner_at : (all : List Parts) (i : ℕ) (p : Parts) → slice_get (inner all) i ≡ Some p → slice_get all (suc (suc i)) ≡ Some p
inner_at [] i p h = cc
inner_at (a ∷ []) i p h = cc
inner_at (a ∷ b ∷ rest) i p h = taken_at (length rest - 2) rest i p h

numbered_at : (n : ℕ) (ps : List Parts) (i : ℕ) (s : Numbered) → slice_get (numbered n ps) i ≡ Some s →
    (s.number ≡ n + i) × (slice_get ps i ≡ Some s.parts)
numbered_at n [] i s h = cc
numbered_at n (p ∷ ps) zero s h =
    let e : record { number = n; parts = p } ≡ s = cc in
    let k : n ≡ s.number = ap (λ (x : Numbered). x.number) e in
    (omega arith, ap (λ (x : Numbered). Some x.parts) e)
numbered_at n (p ∷ ps) (suc i) s h =
    let more = numbered_at (n + 1) ps i s h in
    let k : s.number ≡ (n + 1) + i = more.0 in
    (omega arith, more.1)

mapped_at : (sv : Service) (ss : List Stretch) (i : ℕ) (p : Parts) → slice_get (message_parts sv ss) i ≡ Some p →
    (s : Stretch) × (slice_get ss i ≡ Some s) × (p ≡ segment_of sv s.bytes)
mapped_at sv [] i p h = cc
mapped_at sv (s ∷ ss) zero p h = (s, refl, cc)
mapped_at sv (s ∷ ss) (suc i) p h = mapped_at sv ss i p h

placed_is : (text : List ℕ) (start : Start) →
    start_of (length text) (length text - length (trimmed text)) (trimmed text) ≡ Ok start →
    placed_in text ≡ stretches (length text - length start.bytes) (cut_text start.service start.bytes)
unfolding placed_in
placed_is text start h = ap (placed_by text) h

from_all : (kind : Kind) (text : List ℕ) (start : Start) (all : List Parts) (i : ℕ) (s : Numbered) →
    start_of (length text) (length text - length (trimmed text)) (trimmed text) ≡ Ok start →
    judged kind start.service (length text) [] (stretches (length text - length start.bytes) (cut_text start.service start.bytes)) ≡ Ok all →
    slice_get (numbered 2 (inner all)) i ≡ Some s → IsQuoted text s
from_all kind text start all i s started read h =
    let sv = start.service in
    let ss = stretches (length text - length start.bytes) (cut_text sv start.bytes) in
    let n = numbered_at 2 (inner all) i s h in
    let k : s.number ≡ suc (suc i) = let e : s.number ≡ 2 + i = n.0 in omega arith in
    let a = inner_at all i s.parts n.1 in
    let m = mapped_at sv (ended_ones ss) (suc (suc i)) s.parts
    (subst (λ xs. slice_get xs (suc (suc i)) ≡ Some s.parts) (sym (keeps kind sv (length text) [] ss all read)) a) in
    let placed : slice_get (placed_in text) s.number ≡ Some m.0 =
    ap (λ xs. slice_get xs s.number) (placed_is text start started)
    ∙ (ap (slice_get ss) k ∙ ended_at ss (suc (suc i)) m.0 m.1) in
    (start, m.0, started, placed, m.2)

of_all : (kind : Kind) (text : List ℕ) (start : Start) (r : Result (List Parts) EdiFault) (message : Opened) (i : ℕ) (s : Numbered) →
    start_of (length text) (length text - length (trimmed text)) (trimmed text) ≡ Ok start →
    judged kind start.service (length text) [] (stretches (length text - length start.bytes) (cut_text start.service start.bytes)) ≡ r →
    (r >>= λ all. Ok (record { mark = start.service.mark; segments = numbered 2 (inner all) })) ≡ Ok message →
    slice_get message.segments i ≡ Some s → IsQuoted text s
of_all kind text start (Ok all) message i s started read h at =
    let e : record { mark = start.service.mark; segments = numbered 2 (inner all) } ≡ message = cc in
    from_all kind text start all i s started read (ap (λ (m : Opened). slice_get m.segments i) e ∙ at)
of_all kind text start (Err f) message i s started read h at = cc

of_start : (kind : Kind) (text : List ℕ) (r : Result Start EdiFault) (message : Opened) (i : ℕ) (s : Numbered) →
    start_of (length text) (length text - length (trimmed text)) (trimmed text) ≡ r →
    (r >>= λ start. (judged kind start.service (length text) [] (stretches (length text - length start.bytes) (cut_text start.service start.bytes))
    >>= λ all. Ok (record { mark = start.service.mark; segments = numbered 2 (inner all) }))) ≡ Ok message →
    slice_get message.segments i ≡ Some s → IsQuoted text s
of_start kind text (Ok start) message i s started h at =
    of_all kind text start
    (judged kind start.service (length text) [] (stretches (length text - length start.bytes) (cut_text start.service start.bytes))) message i s
    started refl h at
of_start kind text (Err f) message i s started h at = cc

pub segments_numbered : (kind : Kind) (text : List ℕ) (message : Opened) (i : ℕ) (segment : Numbered) →
    opened kind text ≡ Ok message → slice_get message.segments i ≡ Some segment → IsQuoted text segment
unfolding opened
segments_numbered kind text message i segment h at =
    of_start kind text (start_of (length text) (length text - length (trimmed text)) (trimmed text)) message i segment refl h at
