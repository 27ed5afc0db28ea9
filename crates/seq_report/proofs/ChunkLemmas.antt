-- Chunks of lines, joined.
use Rattle.std.proofs.Common.{◌≡◌, ◌∙◌, ℕ, zero, suc, ◌+◌, ◌-◌, ◌<◌, ◌≤◌, List, [], ◌∷◌, ◌++◌, length, map, flat_map, get_or, Option, None, Some, is_some, true, false, refl, sym, ap, arith}
use Rattle.std.specs.List.{range_with_len}
use Rattle.std.specs.Option.{option_or}
use Rattle.std.proofs.lemmas.Grind.{flat_map-append}
use Rattle.std.proofs.lemmas.List.{append-nil, map-append}
use Rattle.std.proofs.lemmas.List.FromFn.{length-map-range_with_len}
use Rattle.prefix_scan.specs.Cut.{start_of, IsRising, Divides}
use Rattle.port_call.specs.Cases.{CaseRecord}
use Rattle.criteria.specs.declared.criterion.Criterion.{Criterion}
use Rattle.seq_report.specs.Cases.{line_in, outcome_in}
use Rattle.running_sums.specs.Lines.{chunk_of}
use Rattle.seq_report.specs.Chunks.{Part, first_in, part_of, text_in}
use Rattle.seq_report.specs.Report.{Line, failure_of, first_of, header_of, last_line, text_of}

pub range_join : (a n b m c : ℕ) → a + n ≡ b → n + m ≡ c → range_with_len a n ++ range_with_len b m ≡ range_with_len a c
range_join a zero b m c from sum =
    let here : b ≡ a = omega (arith, from) in
    let many : m ≡ c = omega (arith, sum) in
    λ j. range_with_len (here j) (many j)
range_join a (suc n) b m c from sum =
    let many : suc (n + m) ≡ c = omega (arith, sum) in
    ap (λ (l : List ℕ). a ∷ l) (range_join (a + 1) n b m (n + m) (omega (arith, from)) refl) ∙ ap (range_with_len a) many

-- the chunks before k are the numbers before its start
chunks_to : (ends : List ℕ) → IsRising ends → (k : ℕ) → k ≤ length ends → flat_map (chunk_of ends) (range_with_len 0 k) ≡ range_with_len 0 (start_of ends k)
chunks_to ends up zero low = refl
chunks_to ends up (suc k) low =
    let s = start_of ends k in
    let e = get_or ends k 0 in
    let rises : s < e = up k (omega arith) in
    ap (flat_map (chunk_of ends)) (sym (range_join 0 k k 1 (suc k) (omega arith) (omega arith)))
    ∙ flat_map-append (chunk_of ends) (range_with_len 0 k) (k ∷ [])
    ∙ ap (λ (l : List ℕ). l ++ (chunk_of ends k ++ [])) (chunks_to ends up k (omega arith))
    ∙ ap (λ (l : List ℕ). range_with_len 0 s ++ l) (append-nil (chunk_of ends k))
    ∙ range_join 0 s s (e - s) e (omega arith) (omega arith)

pub chunks_whole : (ends : List ℕ) (len : ℕ) → Divides ends len → flat_map (chunk_of ends) (range_with_len 0 (length ends)) ≡ range_with_len 0 len
chunks_whole ends len d = chunks_to ends d.rising (length ends) (omega arith) ∙ ap (range_with_len 0) d.whole

pub or_none : (a : Option (ℕ × Criterion)) → option_or a None ≡ a
or_none None = refl
or_none (Some x) = refl

pub first-append : (xs ys : List Line) → first_of (xs ++ ys) ≡ option_or (first_of xs) (first_of ys)
first-append [] ys = refl
first-append (x ∷ xs) ys = ap (option_or (failure_of x.step)) (first-append xs ys) ∙ or_assoc (failure_of x.step) (first_of xs) (first_of ys)
  where
    or_assoc : (a b c : Option (ℕ × Criterion)) → option_or a (option_or b c) ≡ option_or (option_or a b) c
    or_assoc None b c = refl
    or_assoc (Some x) b c = refl

-- one line more
pub part_more : (ls : List Line) (l : Line) → record { text = (part_of ls).text ++ text_of l; first = option_or (part_of ls).first (failure_of l.step) } ≡ part_of (ls ++ l ∷ [])
part_more ls l =
    let text : flat_map text_of ls ++ text_of l ≡ flat_map text_of (ls ++ l ∷ []) = ap (λ (t : List ℕ). flat_map text_of ls ++ t) (sym (append-nil (text_of l))) ∙ sym (flat_map-append text_of ls (l ∷ [])) in
    let first : option_or (first_of ls) (failure_of l.step) ≡ first_of (ls ++ l ∷ []) = ap (option_or (first_of ls)) (sym (or_none (failure_of l.step))) ∙ sym (first-append ls (l ∷ [])) in
    λ j. record { text = text j; first = first j }

pub many_lines : (case : CaseRecord) → length case.sequence.ops + 1 ≡ (outcome_in case).summary.lines
many_lines case =
    let next : length case.sequence.ops + 1 ≡ suc (length case.sequence.ops) = omega arith in
    next ∙ sym (length-map-range_with_len (line_in case) 0 (suc (length case.sequence.ops)))

module _ (case : CaseRecord) (ends : List ℕ) where
  abbrev pub part_at : ℕ → Part
  part_at k = part_of (map (line_in case) (chunk_of ends k))

  texts : (ks : List ℕ) → text_in (map part_at ks) ≡ flat_map text_of (map (line_in case) (flat_map (chunk_of ends) ks))
  texts [] = refl
  texts (k ∷ ks) =
      ap (λ (t : List ℕ). flat_map text_of (map (line_in case) (chunk_of ends k)) ++ t) (texts ks)
      ∙ sym (flat_map-append text_of (map (line_in case) (chunk_of ends k)) (map (line_in case) (flat_map (chunk_of ends) ks)))
      ∙ ap (flat_map text_of) (sym (map-append (line_in case) (chunk_of ends k) (flat_map (chunk_of ends) ks)))

  firsts : (ks : List ℕ) → first_in (map part_at ks) ≡ first_of (map (line_in case) (flat_map (chunk_of ends) ks))
  firsts [] = refl
  firsts (k ∷ ks) =
      ap (option_or (first_of (map (line_in case) (chunk_of ends k)))) (firsts ks)
      ∙ sym (first-append (map (line_in case) (chunk_of ends k)) (map (line_in case) (flat_map (chunk_of ends) ks)))
      ∙ ap first_of (sym (map-append (line_in case) (chunk_of ends k) (flat_map (chunk_of ends) ks)))

  -- for every cut the sections are the report
  pub parts_whole : Divides ends (length case.sequence.ops + 1) → (parts : List Part) (n : ℕ) → parts ≡ map part_at (range_with_len 0 (length ends))
      → n ≡ length case.sequence.ops + 1
      → record { text = header_of ++ (text_in parts ++ last_line (first_in parts)); summary = record { lines = n; first = first_in parts } } ≡ outcome_in case
  parts_whole d parts n are many =
      let all = range_with_len 0 (length ends) in
      let len : length case.sequence.ops + 1 ≡ suc (length case.sequence.ops) = omega arith in
      let lines = map (line_in case) (range_with_len 0 (suc (length case.sequence.ops))) in
      let numbers : flat_map (chunk_of ends) all ≡ range_with_len 0 (suc (length case.sequence.ops)) = chunks_whole ends (length case.sequence.ops + 1) d ∙ ap (range_with_len 0) len in
      let text : text_in parts ≡ flat_map text_of lines = ap text_in are ∙ texts all ∙ ap (λ (l : List ℕ). flat_map text_of (map (line_in case) l)) numbers in
      let first : first_in parts ≡ first_of lines = ap first_in are ∙ firsts all ∙ ap (λ (l : List ℕ). first_of (map (line_in case) l)) numbers in
      let count : n ≡ length lines = many ∙ len ∙ sym (length-map-range_with_len (line_in case) 0 (suc (length case.sequence.ops))) in
      λ j. record { text = header_of ++ (text j ++ last_line (first j)); summary = record { lines = count j; first = first j } }

-- the first failing line of those from k on is line k, or the first behind it
pub first_here : (case : CaseRecord) (k e : ℕ) → k < e → first_of (map (line_in case) (range_with_len k (e - k)))
    ≡ option_or (failure_of (line_in case k).step) (first_of (map (line_in case) (range_with_len (k + 1) (e - (k + 1)))))
first_here case k e low =
    let same : e - k ≡ suc (e - (k + 1)) = omega arith in
    ap (λ n. first_of (map (line_in case) (range_with_len k n))) same

pub or_some : (a b : Option (ℕ × Criterion)) → is_some a ≡ true → option_or a b ≡ a
or_some None b is = absurd (cc)
or_some (Some x) b is = refl

pub or_other : (a b : Option (ℕ × Criterion)) → is_some a ≡ false → option_or a b ≡ b
or_other None b is = refl
or_other (Some x) b is = absurd (cc)
