-- The envelope read stage by stage is the list of segments judged by the table.
use Rattle.std.proofs.Common.{◌≡◌, ℕ, ◌≤◌, ◌+◌, ◌-◌, List, [], ◌∷◌, ◌++◌, length, None, Result, Ok, Err, Bool, true, false, cond, refl, take, codes, arith, sym, ap, ◌∙◌, append_assoc, suc, length-append, nat_lt}
use Rattle.std.proofs.Math.Seq.{take-append_seam}
use Rattle.std.proofs.lemmas.List.{append-nil}
use Rattle.edifact_text.specs.declared.faults.EdiFault.{EdiFault}
use Rattle.edifact_text.specs.declared.faults.EdiCode.TheVariants.{Trailing, SegmentCount}
use Rattle.edifact_text.specs.declared.faults.Kind.{Kind}
use Rattle.edifact_text.specs.declared.service.Service.{Service}
use Rattle.edifact_text.specs.Interchange.{Parts, component}
use Rattle.edifact_text.specs.Rows.{is_text, Rows, row_of, rows_of_all, rows_behind, first_of, is_closed, is_tag, ends_with}
use Rattle.edifact_text.specs.Reading.{row, fault, ◌>>=◌, Stretch, segment_of, as_result, judged, inner}
use Rattle.edifact_text.specs.Stages.{whole, has_tag, unb_rows, unh_rows, unt_rows, unz_rows, end_rows, ended_ones, trailer_of, ends_of, headers_of, message_of, message_parts, next_of, Ended, Headers}
use Rattle.edifact_text.proofs.ReadingLemmas.{part_is}
use Rattle.edifact_text.proofs.RowLemmas.{unb_table, unh_table, unt_table, unz_table, inside_table}
use Rattle.edifact_text.proofs.JudgedLemmas.{bind_step, bind_assoc, bind_same, by_row, ends_snoc, other_text, unb_unz, unh_unz, unt_unz, NoneApplies, none_applies, not_false, open_step}

-- A header that no row refuses is no interchange trailer.
pub header_open : (kind : Kind) (s : Parts) → row_of kind [] s ≡ None → is_closed (s ∷ []) ≡ false
header_open kind s h =
    let off = none_applies (rows_of_all s ++ rows_behind kind [] s) h in
    other_text (component s 0 0) (codes "UNB") (codes "UNZ") (not_false (is_tag s (codes "UNB")) off.1.1.0) unb_unz

pub message_open : (kind : Kind) (unb s : Parts) → row_of kind (unb ∷ []) s ≡ None → is_closed (unb ∷ s ∷ []) ≡ false
message_open kind unb s h =
    let off = none_applies (rows_of_all s ++ rows_behind kind (unb ∷ []) s) h in
    other_text (component s 0 0) (codes "UNH") (codes "UNZ") (not_false (is_tag s (codes "UNH")) off.1.1.1.0) unh_unz

-- Behind the message trailer a segment that no row refuses is the interchange trailer.
at_end : (b : Bool) (x y z : Rows) → b ≡ true → first_of (x ++ cond b y z) ≡ None → NoneApplies (x ++ y)
at_end true x y z h k = none_applies (x ++ y) k
at_end false x y z h k = cc

pub ends_closed : (kind : Kind) (unb unh : Parts) (body : List Parts) (s : Parts) → ends_with (codes "UNT") body ≡ true →
    row_of kind (unb ∷ unh ∷ body) s ≡ None → is_tag s (codes "UNZ") ≡ true
ends_closed kind unb unh body s e h =
    let off = at_end (ends_with (codes "UNT") body) (rows_of_all s) _ _ e h in
    not_false (is_tag s (codes "UNZ")) off.1.1.1.0

-- Inside the message a segment that no row refuses is no interchange trailer.
inside_off : (b : Bool) (x y z : Rows) → b ≡ false → first_of (x ++ cond b y z) ≡ None → NoneApplies (x ++ z)
inside_off false x y z h k = none_applies (x ++ z) k
inside_off true x y z h k = cc

pub inside_open : (kind : Kind) (unb unh : Parts) (body : List Parts) (s : Parts) → ends_with (codes "UNT") body ≡ false →
    row_of kind (unb ∷ unh ∷ body) s ≡ None → is_tag s (codes "UNZ") ≡ false
inside_open kind unb unh body s e h =
    let off = inside_off (ends_with (codes "UNT") body) (rows_of_all s) _ _ e h in
    off.1.1.1.1.0

-- The last stage: the interchange trailer, and the end of the text.
take_none : (xs : List Parts) (u z : Parts) → take (length ((xs ++ u ∷ []) ++ z ∷ []) - 2) ((xs ++ u ∷ []) ++ z ∷ []) ≡ xs
take_none xs u z =
    let e : length ((xs ++ u ∷ []) ++ z ∷ []) - 2 ≡ length xs = simp length-append (omega arith) in
    ap (λ n. take n ((xs ++ u ∷ []) ++ z ∷ [])) e ∙ (ap (take (length xs)) (append_assoc xs (u ∷ []) (z ∷ [])) ∙ take-append_seam xs
    ((u ∷ []) ++ z ∷ []))

closed_end : (kind : Kind) (sv : Service) (len : ℕ) (all : List Parts) (xs : List Parts) (t : Stretch) (more : List Stretch) → is_closed all ≡ true →
    inner all ≡ xs →
    (end_rows (t ∷ more) >>= λ _. Ok xs) ≡ (judged kind sv len all (t ∷ more) >>= λ ps. Ok (inner ps))
closed_end kind sv len all xs t [] h e =
    rw h (bind_same (row (nat_lt 0 (length t.bytes)) Trailing t.place) (λ _. Ok xs) (λ _. Ok (inner all)) (λ _ _. ap (λ ys. Ok ys) (sym e))
    ∙ sym (bind_assoc (row (nat_lt 0 (length t.bytes)) Trailing t.place) (λ _. Ok all) (λ ps. Ok (inner ps))))
closed_end kind sv len all xs t (u ∷ more) h e = rw h refl

ends_judged : (kind : Kind) (sv : Service) (len : ℕ) (unb : Stretch) (unh : Parts) (xs : List Parts) (u : Parts) (ps : List Stretch) →
    is_tag u (codes "UNT") ≡ true →
    (ends_of sv len unb ps >>= λ _. Ok xs) ≡ (judged kind sv len (segment_of sv unb.bytes ∷ unh ∷ (xs ++ u ∷ [])) ps >>= λ all. Ok (inner all))
unfolding ends_of
ends_judged kind sv len unb unh xs u [] tag =
    let off = ends_snoc (codes "UNZ") (segment_of sv unb.bytes ∷ unh ∷ xs) u ∙ other_text (component u 0 0) (codes "UNT") (codes "UNZ") tag unt_unz in
    rw off refl
ends_judged kind sv len unb unh xs u (s ∷ []) tag =
    let off = ends_snoc (codes "UNZ") (segment_of sv unb.bytes ∷ unh ∷ xs) u ∙ other_text (component u 0 0) (codes "UNT") (codes "UNZ") tag unt_unz in
    rw off refl
ends_judged kind sv len unb unh xs u (s ∷ t ∷ more) tag =
    let before = segment_of sv unb.bytes ∷ unh ∷ (xs ++ u ∷ []) in
    let z = segment_of sv s.bytes in
    let off : is_closed before ≡ false = ends_snoc (codes "UNZ") (segment_of sv unb.bytes ∷ unh ∷ xs) u ∙ other_text (component u 0 0) (codes "UNT")
    (codes "UNZ") tag unt_unz in
    let at_end : ends_with (codes "UNT") (xs ++ u ∷ []) ≡ true = ends_snoc (codes "UNT") xs u ∙ tag in
    ap (λ m. m >>= λ _. Ok xs) (bind_step (whole sv s) (s, t ∷ more) (λ y. unz_rows sv unb y.0) (λ y. end_rows y.1))
    ∙ (bind_assoc (whole sv s >>= λ _. unz_rows sv unb s) (λ _. end_rows (t ∷ more)) (λ _. Ok xs)
    ∙ (ap (λ m. m >>= λ _. (end_rows (t ∷ more) >>= λ _. Ok xs)) (unz_table kind sv unb unh (xs ++ u ∷ []) s at_end)
    ∙ (by_row (row_of kind before z) s.place (end_rows (t ∷ more) >>= λ _. Ok xs) (judged kind sv len (before ++ z ∷ []) (t ∷ more) >>= λ all. Ok
    (inner all))
    (λ h. closed_end kind sv len (before ++ z ∷ []) xs t more (ends_snoc (codes "UNZ") before z ∙ ends_closed kind (segment_of sv unb.bytes) unh
    (xs ++ u ∷ []) z at_end h) (take_none xs u z))
    ∙ (sym (bind_assoc (as_result (row_of kind before z) s.place) (λ _. judged kind sv len (before ++ z ∷ []) (t ∷ more)) (λ all. Ok (inner all)))
    ∙ ap (λ m. m >>= λ all. Ok (inner all)) (sym (open_step kind sv len before s t more off))))))

-- The stage before: the segments up to the message trailer.
number_step : (w : Result Unit EdiFault) (b z : Bool) (n place : ℕ) (tr : Result Ended EdiFault) (f e : Ended) →
    (w >>= λ _. cond b (Ok f) (cond z (fault SegmentCount place) tr)) ≡ Ok e → f.number ≡ n → (tr ≡ Ok e → n + 1 ≤ e.number) → n ≤ e.number
number_step (Err x) b z n place tr f e h k again = cc
number_step (Ok u) true z n place tr f e h k again = let d : f ≡ e = cc in let m : f.number ≡ e.number = ap (λ (x : Ended). x.number) d in omega arith
number_step (Ok u) false true n place tr f e h k again = cc
number_step (Ok u) false false n place tr f e h k again = let m = again h in omega arith

number_rises : (sv : Service) (len n : ℕ) (ps : List Stretch) (e : Ended) → trailer_of sv len n ps ≡ Ok e → n ≤ e.number
number_rises sv len n [] e h = cc
number_rises sv len n (s ∷ []) e h = cc
number_rises sv len n (s ∷ t ∷ more) e h =
    number_step (whole sv s) (has_tag sv s (codes "UNT")) (has_tag sv s (codes "UNZ")) n s.place (trailer_of sv len (n + 1) (t ∷ more))
    (record { trailer = s; number = n; behind = t ∷ more }) e h refl (number_rises sv len (n + 1) (t ∷ more) e)

at_unt : {B : Type 0} (w : Result Unit EdiFault) (b z : Bool) (place : ℕ) (tr : Result Ended EdiFault) (e : Ended) (g : Ended → Result B EdiFault) →
    b ≡ true →
    ((w >>= λ _. cond b (Ok e) (cond z (fault SegmentCount place) tr)) >>= g) ≡ (w >>= λ _. g e)
at_unt (Err x) b z place tr e g h = refl
at_unt (Ok u) true z place tr e g h = refl
at_unt (Ok u) false z place tr e g h = cc

past_unt : {B : Type 0} (w : Result Unit EdiFault) (b z : Bool) (place : ℕ) (tr : Result Ended EdiFault) (e : Ended) (g : Ended →
    Result B EdiFault) → b ≡ false →
    ((w >>= λ _. cond b (Ok e) (cond z (fault SegmentCount place) tr)) >>= g) ≡ ((w >>= λ _. row z SegmentCount place) >>= λ _. (tr >>= g))
past_unt (Err x) b z place tr e g h = refl
past_unt (Ok u) true z place tr e g h = cc
past_unt (Ok u) false true place tr e g h = refl
past_unt (Ok u) false false place tr e g h = refl

-- What is done once the message trailer is found; `taken n` are the first n segments of the
-- message.
abbrev after : Service → ℕ → Stretch → Stretch → (ℕ → List Parts) → Ended → Result (List Parts) EdiFault
after sv len unb unh taken e = unt_rows sv unh e.trailer e.number >>= λ _. (ends_of sv len unb e.behind >>= λ _. Ok (taken e.number))

tag_is : (sv : Service) (s : Stretch) (tag : List ℕ) → has_tag sv s tag ≡ is_tag (segment_of sv s.bytes) tag
tag_is sv s tag = ap (λ xs. is_text xs tag) (part_is sv s.bytes 0 0)

nothing_taken : (sv : Service) (n : ℕ) (body : List Parts) (ps : List Stretch) → body ++ message_parts sv (take (n - n) ps) ≡ body
nothing_taken sv n body ps = let e : n - n ≡ 0 = omega arith in rw e (append-nil body)

one_taken : (sv : Service) (n k : ℕ) (body : List Parts) (s : Stretch) (ps : List Stretch) → n + 1 ≤ k →
    body ++ message_parts sv (take (k - n) (s ∷ ps)) ≡ (body ++ segment_of sv s.bytes ∷ []) ++ message_parts sv (take (k - (n + 1)) ps)
one_taken sv n k body s ps h =
    let e : k - n ≡ suc (k - (n + 1)) = omega arith in
    rw e (sym (append_assoc body (segment_of sv s.bytes ∷ []) (message_parts sv (take (k - (n + 1)) ps))))

trailer_judged : (kind : Kind) (sv : Service) (len : ℕ) (unb unh : Stretch) (body : List Parts) (n : ℕ) (s t : Stretch) (more : List Stretch) →
    n ≡ length body + 2 →
    ends_with (codes "UNT") body ≡ false → is_closed (segment_of sv unb.bytes ∷ segment_of sv unh.bytes ∷ body) ≡ false → has_tag sv s
    (codes "UNT") ≡ true →
    (trailer_of sv len n (s ∷ t ∷ more) >>= after sv len unb unh (λ k. body ++ message_parts sv (take (k - n) (ended_ones (s ∷ t ∷ more)))))
    ≡ (judged kind sv len (segment_of sv unb.bytes ∷ segment_of sv unh.bytes ∷ body) (s ∷ t ∷ more) >>= λ all. Ok (inner all))
trailer_judged kind sv len unb unh body n s t more num inside off tag =
    let taken : ℕ → List Parts = λ k. body ++ message_parts sv (take (k - n) (ended_ones (s ∷ t ∷ more))) in
    let before = segment_of sv unb.bytes ∷ segment_of sv unh.bytes ∷ body in
    let z = segment_of sv s.bytes in
    let is_unt : is_tag z (codes "UNT") ≡ true = sym (tag_is sv s (codes "UNT")) ∙ tag in
    at_unt (whole sv s) (has_tag sv s (codes "UNT")) (has_tag sv s (codes "UNZ")) s.place (trailer_of sv len (n + 1) (t ∷ more))
    (record { trailer = s; number = n; behind = t ∷ more }) (after sv len unb unh taken) tag
    ∙ (sym (bind_assoc (whole sv s) (λ _. unt_rows sv unh s n) (λ _. (ends_of sv len unb (t ∷ more) >>= λ _. Ok (taken n))))
    ∙ (ap (λ m. (whole sv s >>= λ _. unt_rows sv unh s m) >>= λ _. (ends_of sv len unb (t ∷ more) >>= λ _. Ok (taken n))) num
    ∙ (ap (λ m. m >>= λ _. (ends_of sv len unb (t ∷ more) >>= λ _. Ok (taken n))) (unt_table kind sv
    (segment_of sv unb.bytes) unh body s inside is_unt)
    ∙ (ap (λ xs. as_result (row_of kind before z) s.place >>= λ _. (ends_of sv len unb (t ∷ more) >>= λ _. Ok xs)) (nothing_taken sv n body
    (ended_ones (s ∷ t ∷ more)))
    ∙ (by_row (row_of kind before z) s.place (ends_of sv len unb (t ∷ more) >>= λ _. Ok body) (judged kind sv len (before ++ z ∷ [])
    (t ∷ more) >>= λ all. Ok (inner all))
    (λ _. ends_judged kind sv len unb (segment_of sv unh.bytes) body z (t ∷ more) is_unt)
    ∙ (sym (bind_assoc (as_result (row_of kind before z) s.place) (λ _. judged kind sv len (before ++ z ∷ []) (t ∷ more)) (λ all. Ok (inner all)))
    ∙ ap (λ m. m >>= λ all. Ok (inner all)) (sym (open_step kind sv len before s t more off))))))))

body_judged : (kind : Kind) (sv : Service) (len : ℕ) (unb unh : Stretch) (body : List Parts) (n : ℕ) (ps : List Stretch) → n ≡ length body + 2 →
    ends_with (codes "UNT") body ≡ false → is_closed (segment_of sv unb.bytes ∷ segment_of sv unh.bytes ∷ body) ≡ false →
    (trailer_of sv len n ps >>= after sv len unb unh (λ k. body ++ message_parts sv (take (k - n) (ended_ones ps))))
    ≡ (judged kind sv len (segment_of sv unb.bytes ∷ segment_of sv unh.bytes ∷ body) ps >>= λ all. Ok (inner all))
body_judged kind sv len unb unh body n [] num inside off = rw off refl
body_judged kind sv len unb unh body n (s ∷ []) num inside off = rw off refl
body_judged kind sv len unb unh body n (s ∷ t ∷ more) num inside off =
    let taken : ℕ → List Parts = λ k. body ++ message_parts sv (take (k - n) (ended_ones (s ∷ t ∷ more))) in
    let before = segment_of sv unb.bytes ∷ segment_of sv unh.bytes ∷ body in
    let z = segment_of sv s.bytes in
    let counted : n + 1 ≡ length (body ++ z ∷ []) + 2 = simp length-append (omega (arith, num)) in
    let next : ℕ → List Parts = λ k. (body ++ z ∷ []) ++ message_parts sv (take (k - (n + 1)) (ended_ones (t ∷ more))) in
    elim (has_tag sv s (codes "UNT")) as (λ b. has_tag sv s (codes "UNT") ≡ b →
    (trailer_of sv len n (s ∷ t ∷ more) >>= after sv len unb unh taken) ≡ (judged kind sv len before (s ∷ t ∷ more) >>= λ all. Ok (inner all))) [
      | true ↦ λ tag. trailer_judged kind sv len unb unh body n s t more num inside off tag
      | false ↦ λ tag.
          let is_unt : is_tag z (codes "UNT") ≡ false = sym (tag_is sv s (codes "UNT")) ∙ tag in
          past_unt (whole sv s) (has_tag sv s (codes "UNT")) (has_tag sv s (codes "UNZ")) s.place (trailer_of sv len (n + 1) (t ∷ more))
          (record { trailer = s; number = n; behind = t ∷ more }) (after sv len unb unh taken) tag
          ∙ (ap (λ m. m >>= λ _. (trailer_of sv len (n + 1) (t ∷ more) >>= after sv len unb unh taken)) (inside_table kind sv
          (segment_of sv unb.bytes) (segment_of sv unh.bytes) body s inside is_unt)
          ∙ (by_row (row_of kind before z) s.place (trailer_of sv len (n + 1) (t ∷ more) >>= after sv len unb unh taken) (judged kind sv len
          (before ++ z ∷ []) (t ∷ more) >>= λ all. Ok (inner all))
          (λ h.
          bind_same (trailer_of sv len (n + 1) (t ∷ more)) (after sv len unb unh taken) (after sv len unb unh next)
          (λ e k. ap (λ xs. unt_rows sv unh e.trailer e.number >>= λ _. (ends_of sv len unb e.behind >>= λ _. Ok xs))
          (one_taken sv n e.number body s (ended_ones (t ∷ more)) (number_rises sv len (n + 1) (t ∷ more) e k)))
          ∙ body_judged kind sv len unb unh (body ++ z ∷ []) (n + 1) (t ∷ more) counted (ends_snoc (codes "UNT") body z ∙ is_unt)
          (ends_snoc (codes "UNZ") before z ∙ inside_open kind (segment_of sv unb.bytes) (segment_of sv unh.bytes) body z inside h))
          ∙ (sym (bind_assoc (as_result (row_of kind before z) s.place) (λ _. judged kind sv len (before ++ z ∷ []) (t ∷ more)) (λ all. Ok
          (inner all)))
          ∙ ap (λ m. m >>= λ all. Ok (inner all)) (sym (open_step kind sv len before s t more off)))))
    ] refl

-- Behind the headers: all of the message.
abbrev behind_unh : Service → ℕ → Stretch → Stretch → List Stretch → Result (List Parts) EdiFault
behind_unh sv len unb unh ps = trailer_of sv len 2 ps >>= after sv len unb unh (λ k. [] ++ message_parts sv (take (k - 2) (ended_ones ps)))

unh_judged : (kind : Kind) (sv : Service) (len : ℕ) (unb : Stretch) (ps : List Stretch) → is_closed (segment_of sv unb.bytes ∷ []) ≡ false →
    (next_of sv len ps >>= λ unh. (unh_rows kind sv unh.0 >>= λ _. behind_unh sv len unb unh.0 unh.1)) ≡ (judged kind sv len
    (segment_of sv unb.bytes ∷ []) ps >>= λ all. Ok (inner all))
unh_judged kind sv len unb [] off = rw off refl
unh_judged kind sv len unb (s ∷ []) off = rw off refl
unh_judged kind sv len unb (s ∷ t ∷ more) off =
    let before = segment_of sv unb.bytes ∷ [] in
    let z = segment_of sv s.bytes in
    bind_step (whole sv s) (s, t ∷ more) (λ y. unh_rows kind sv y.0) (λ y. behind_unh sv len unb y.0 y.1)
    ∙ (ap (λ m. m >>= λ _. behind_unh sv len unb s (t ∷ more)) (unh_table kind sv (segment_of sv unb.bytes) s)
    ∙ (by_row (row_of kind before z) s.place (behind_unh sv len unb s (t ∷ more)) (judged kind sv len (before ++ z ∷ []) (t ∷ more) >>= λ all. Ok
    (inner all))
    (λ h. body_judged kind sv len unb s [] 2 (t ∷ more) refl refl (message_open kind (segment_of sv unb.bytes) z h))
    ∙ (sym (bind_assoc (as_result (row_of kind before z) s.place) (λ _. judged kind sv len (before ++ z ∷ []) (t ∷ more)) (λ all. Ok (inner all)))
    ∙ ap (λ m. m >>= λ all. Ok (inner all)) (sym (open_step kind sv len before s t more off)))))

abbrev behind_unb : Kind → Service → ℕ → Stretch → List Stretch → Result (List Parts) EdiFault
behind_unb kind sv len unb ps = next_of sv len ps >>= λ unh. (unh_rows kind sv unh.0 >>= λ _. behind_unh sv len unb unh.0 unh.1)

unb_judged : (kind : Kind) (sv : Service) (len : ℕ) (ps : List Stretch) →
    (next_of sv len ps >>= λ unb. (unb_rows sv unb.0 >>= λ _. behind_unb kind sv len unb.0 unb.1)) ≡ (judged kind sv len [] ps >>= λ all. Ok
    (inner all))
unb_judged kind sv len [] = refl
unb_judged kind sv len (s ∷ []) = refl
unb_judged kind sv len (s ∷ t ∷ more) =
    let z = segment_of sv s.bytes in
    bind_step (whole sv s) (s, t ∷ more) (λ y. unb_rows sv y.0) (λ y. behind_unb kind sv len y.0 y.1)
    ∙ (ap (λ m. m >>= λ _. behind_unb kind sv len s (t ∷ more)) (unb_table kind sv s)
    ∙ (by_row (row_of kind [] z) s.place (behind_unb kind sv len s (t ∷ more)) (judged kind sv len (z ∷ []) (t ∷ more) >>= λ all. Ok (inner all))
    (λ h. unh_judged kind sv len s (t ∷ more) (header_open kind z h))
    ∙ sym (bind_assoc (as_result (row_of kind [] z) s.place) (λ _. judged kind sv len (z ∷ []) (t ∷ more)) (λ all. Ok (inner all)))))

-- The stages as they stand are those stages, one inside the other.
headers_first : {B : Type 0} (kind : Kind) (sv : Service) (len : ℕ) (ps : List Stretch) (g : Headers → Result B EdiFault) →
    (headers_of kind sv len ps >>= g) ≡ (next_of sv len ps >>= λ unb. (unb_rows sv unb.0 >>= λ _. (next_of sv len unb.1 >>= λ unh.
    (unh_rows kind sv unh.0 >>= λ _. g (record { unb = unb.0; unh = unh.0; behind = unh.1 })))))
unfolding headers_of
headers_first kind sv len ps g =
    bind_assoc (next_of sv len ps) (λ unb. (unb_rows sv unb.0 >>= λ _. (next_of sv len unb.1 >>= λ unh. (unh_rows kind sv unh.0 >>= λ _. Ok
    (record { unb = unb.0; unh = unh.0; behind = unh.1 }))))) g
    ∙ bind_same (next_of sv len ps) _ _ (λ unb _.
    bind_assoc (unb_rows sv unb.0) (λ _. (next_of sv len unb.1 >>= λ unh. (unh_rows kind sv unh.0 >>= λ _. Ok (record {
      unb = unb.0;
      unh = unh.0;
      behind = unh.1;
    })))) g
    ∙ bind_same (unb_rows sv unb.0) _ _ (λ _ _.
    bind_assoc (next_of sv len unb.1) (λ unh. (unh_rows kind sv unh.0 >>= λ _. Ok (record { unb = unb.0; unh = unh.0; behind = unh.1 }))) g
    ∙ bind_same (next_of sv len unb.1) _ _ (λ unh _. bind_assoc (unh_rows kind sv unh.0) (λ _. Ok (record {
      unb = unb.0;
      unh = unh.0;
      behind = unh.1;
    })) g)))

message_ends : (sv : Service) (len : ℕ) (h : Headers) →
    ((trailer_of sv len 2 h.behind >>= λ ended. (unt_rows sv h.unh ended.trailer ended.number >>= λ _.
    (ends_of sv len h.unb ended.behind >>= λ _. Ok (take (ended.number - 2) (ended_ones h.behind))))) >>= λ ss. Ok (message_parts sv ss))
    ≡ behind_unh sv len h.unb h.unh h.behind
message_ends sv len h =
    bind_assoc (trailer_of sv len 2 h.behind) (λ ended. (unt_rows sv h.unh ended.trailer ended.number >>= λ _.
    (ends_of sv len h.unb ended.behind >>= λ _. Ok (take (ended.number - 2) (ended_ones h.behind))))) (λ ss. Ok (message_parts sv ss))
    ∙ bind_same (trailer_of sv len 2 h.behind) _ _ (λ e _.
    bind_assoc (unt_rows sv h.unh e.trailer e.number) (λ _. (ends_of sv len h.unb e.behind >>= λ _. Ok (take (e.number - 2) (ended_ones h.behind))))
    (λ ss. Ok (message_parts sv ss))
    ∙ bind_same (unt_rows sv h.unh e.trailer e.number) _ _ (λ _ _. bind_assoc (ends_of sv len h.unb e.behind) (λ _. Ok (take (e.number - 2)
    (ended_ones h.behind))) (λ ss. Ok (message_parts sv ss))))

-- The message that the stages give is that of the segments judged.
pub message_judged : (kind : Kind) (sv : Service) (len : ℕ) (ps : List Stretch) →
    (message_of kind sv len ps >>= λ ss. Ok (message_parts sv ss)) ≡ (judged kind sv len [] ps >>= λ all. Ok (inner all))
unfolding message_of
message_judged kind sv len ps =
    bind_assoc (headers_of kind sv len ps) (λ h. (trailer_of sv len 2 h.behind >>= λ ended. (unt_rows sv h.unh ended.trailer ended.number >>= λ _.
    (ends_of sv len h.unb ended.behind >>= λ _. Ok (take (ended.number - 2) (ended_ones h.behind)))))) (λ ss. Ok (message_parts sv ss))
    ∙ (bind_same (headers_of kind sv len ps) _ (λ h. behind_unh sv len h.unb h.unh h.behind) (λ h _. message_ends sv len h)
    ∙ (headers_first kind sv len ps (λ h. behind_unh sv len h.unb h.unh h.behind)
    ∙ unb_judged kind sv len ps))
