-- The first line that doesn't meet some criterion is the first that fails in the report.
use Rattle.std.proofs.Common.{◌≡◌, ◌∙◌, ℕ, zero, suc, ◌+◌, ◌^◌, ◌<◌, ◌≤◌, ℤ, Bool, true, false, not, List, [], ◌∷◌, ◌++◌, map, take, drop, length, get_or, replicate, Option, None, Some, option_map, refl, sym, ap, arith}
use Rattle.std.specs.Prelude.{find, if◌then◌else◌}
use Rattle.std.specs.List.{range_with_len}
use Rattle.std.specs.Option.{option_or}
use Rattle.std.proofs.lemmas.Grind.{flat_map-append}
use Rattle.std.proofs.lemmas.List.{append_assoc, take-append-drop}
use Rattle.std.proofs.lemmas.List.FromFn.{length-map-range_with_len}
use Rattle.units_core.specs.Ratio.{Ratio}
use Rattle.ship_profile.specs.Record.{ProfileRecord}
use Rattle.ship_profile.specs.Ship.{ShipRecord}
use Rattle.moment_sums.specs.Sum.{Sum, Weight}
use Rattle.hydrostat.specs.Floating.{Hydrostatics, Load, draught_at, hydrostatics_at, load_of}
use Rattle.righting.specs.Aboard.{levers_of}
use Rattle.strength.specs.Immersed.{areas_of}
use Rattle.strength.specs.Strains.{bending_at, closes, closing_of, shear_at}
use Rattle.criteria.specs.Assessment.{Assessment, IsOutside, Fails, Passes, assessed, assessment_of, with_areas, with_closing, with_least, with_levers, with_water}
use Rattle.criteria.specs.Criteria.{Condition, criteria, holds, not_met}
use Rattle.criteria.specs.Judgement.{judgement_of, rounded}
use Rattle.criteria.specs.Least.{least_at}
use Rattle.criteria.specs.declared.criterion.Criterion.{Criterion}
use Rattle.port_call.specs.Cases.{CaseRecord, IsReady, aboard_first}
use Rattle.port_call.specs.Sums.{sum_at}
use Rattle.seq_report.specs.Cases.{line_in, outcome_in}
use Rattle.seq_report.specs.Report.{failure_of, first_failed, first_of}
use Rattle.worst_values.specs.declared.findings.Findings.{Findings}
use Rattle.worst_values.specs.declared.stretches.Stretch.{Stretch}
use Rattle.worst_values.specs.Findings.{all_lines, by_none, found_in, unmet_at, unmet_by, unmet_of, unmet_with}
use Rattle.worst_values.specs.Firsts.{first_marked, first_unmet}
use Rattle.worst_values.specs.Stretches.{lines_of, lines_of_all}
use Rattle.worst_values.proofs.RowLemmas.{stretches_more}

-- of two lists of lines behind one another
pub first_in_both : (k : ℕ) (xs ys : List (List Bool)) → first_unmet k (xs ++ ys) ≡ option_or (first_unmet k xs) (first_unmet (k + length xs) ys)
first_in_both k [] ys = ap (λ (j : ℕ). first_unmet j ys) (omega arith)
first_in_both k (x ∷ xs) ys =
    ap (option_or (option_map (λ c. (k, c)) (first_marked criteria x))) (first_in_both (suc k) xs ys)
    ∙ or_assoc (option_map (λ c. (k, c)) (first_marked criteria x)) (first_unmet (suc k) xs) (first_unmet (suc k + length xs) ys)
    ∙ ap (λ (j : ℕ). option_or (option_or (option_map (λ c. (k, c)) (first_marked criteria x)) (first_unmet (suc k) xs)) (first_unmet j ys)) (omega arith)
  where
    or_assoc : (a b c : Option (ℕ × Criterion)) → option_or a (option_or b c) ≡ option_or (option_or a b) c
    or_assoc None b c = refl
    or_assoc (Some x) b c = refl

-- lines that are alike and meet all, and some that don't
pub alike_pass : (m : List Bool) (n k : ℕ) → first_marked criteria m ≡ None → first_unmet k (replicate n m) ≡ None
alike_pass m zero k e = refl
alike_pass m (suc n) k e = (λ i. option_or (option_map (λ c. (k, c)) (e i)) (first_unmet (suc k) (replicate n m))) ∙ alike_pass m n (suc k) e

pub alike_fail : (m : List Bool) (n k : ℕ) (c : Criterion) → first_marked criteria m ≡ Some c → 0 < n → first_unmet k (replicate n m) ≡ Some (k, c)
alike_fail m zero k c e some = absurd (omega arith)
alike_fail m (suc n) k c e some = λ i. option_or (option_map (λ d. (k, d)) (e i)) (first_unmet (suc k) (replicate n m))

-- one stretch more, and all stretches from one on
pub one_more : (items : List Stretch) (i : ℕ) (s : Stretch) → i < length items → s ≡ get_or items i s → lines_of_all (take (i + 1) items) ≡ lines_of_all (take i items) ++ lines_of s
one_more items i s inside is = sym (stretches_more items i s [] (lines_of_all (take i items)) (lines_of_all (take i items) ++ lines_of s) inside is refl refl)

pub split_at : (items : List Stretch) (i : ℕ) (last now : List (List Bool)) → lines_of_all items ++ last ≡ now → now ≡ lines_of_all (take i items) ++ (lines_of_all (drop i items) ++ last)
split_at items i last now is =
    sym is
    ∙ ap (λ (l : List Stretch). lines_of_all l ++ last) (sym (take-append-drop i items))
    ∙ ap (λ (l : List (List Bool)). l ++ last) (flat_map-append lines_of (take i items) (drop i items))
    ∙ append_assoc (lines_of_all (take i items)) (lines_of_all (drop i items)) last

-- behind lines that meet all
pub behind_none : (front part all : List (List Bool)) (line : ℕ) (o : Option (ℕ × Criterion)) → all ≡ front ++ part → first_unmet 0 front ≡ None → line ≡ length front → first_unmet line part ≡ o → first_unmet 0 all ≡ o
behind_none front part all line o is none at first =
    ap (first_unmet 0) is ∙ first_in_both 0 front part
    ∙ (λ i. option_or (none i) (first_unmet (0 + length front) part))
    ∙ ap (λ (j : ℕ). first_unmet j part) (omega (arith, at)) ∙ first

pub found_there : (front part rest both now : List (List Bool)) (line : ℕ) (x : ℕ × Criterion) → both ≡ front ++ part → now ≡ both ++ rest → first_unmet 0 front ≡ None → line ≡ length front → first_unmet line part ≡ Some x → first_unmet 0 now ≡ Some x
found_there front part rest both now line x is all none at first =
    ap (first_unmet 0) all ∙ first_in_both 0 both rest
    ∙ (λ i. option_or (behind_none front part both line (Some x) is none at first i) (first_unmet (0 + length both) rest))

pub length_both : (xs ys : List (List Bool)) → length (xs ++ ys) ≡ length xs + length ys
length_both [] ys = omega arith
length_both (x ∷ xs) ys = omega (arith, length_both xs ys)

-- what is marked first is what isn't met first
pub marked_first : (cs : List Criterion) (f : Criterion → Bool) (behind : List Bool) → first_marked cs (map f cs ++ behind) ≡ find f cs
marked_first [] f behind = refl
marked_first (c ∷ cs) f behind = ap (λ (o : Option Criterion). if f c then Some c else o) (marked_first cs f behind)

-- a condition, whatever is said of it: what is marked first is what the report says first
abbrev pub Agrees : ShipRecord → Assessment → Type 0
Agrees ship a = first_marked criteria (unmet_by ship a) ≡ first_failed (rounded ship.lbp a)

by_first : (ship : ShipRecord) (c : Condition) (o : Option Criterion) → not_met ship c ≡ o → Agrees ship (assessed o c)
by_first ship c None e = marked_first criteria (λ k. not (holds ship c k)) by_none ∙ e
by_first ship c (Some criterion) e = marked_first criteria (λ k. not (holds ship c k)) by_none ∙ e

by_least : (ship : ShipRecord) (w : Hydrostatics) (l : Load) (y : ℕ → Ratio) (closing : ℤ) (shear bending : ℕ → ℤ) (o : Option (Option Ratio)) → Agrees ship (with_least ship w l y closing shear bending o)
by_least ship w l y closing shear bending None = refl
by_least ship w l y closing shear bending (Some least) =
    let c : Condition = record { water = w; load = l; levers = y; closing = closing; shear = shear; bending = bending; least_gm = least } in
    by_first ship c (not_met ship c) refl

by_closing : (p : ProfileRecord) (s : Sum) (w : Hydrostatics) (y : ℕ → Ratio) (areas : ℕ → ℤ) (b : Bool) → Agrees p.ship (with_closing p s w y areas b)
by_closing p s w y areas false = refl
by_closing p s w y areas true =
    by_least p.ship w (load_of s) y (closing_of s areas p.ship.stations) (shear_at s areas p.ship.stations p.ship.frames)
    (bending_at s areas p.ship.stations p.ship.frames) (least_at p.tables.least_gm (s Weight))

by_areas : (p : ProfileRecord) (s : Sum) (w : Hydrostatics) (y : ℕ → Ratio) (o : Option (ℕ → ℤ)) → Agrees p.ship (with_areas p s w y o)
by_areas p s w y None = refl
by_areas p s w y (Some areas) = by_closing p s w y areas (closes (closing_of s areas p.ship.stations) p.ship.closing_max)

by_levers : (p : ProfileRecord) (s : Sum) (w : Hydrostatics) (o : Option (ℕ → Ratio)) → Agrees p.ship (with_levers p s w o)
by_levers p s w None = refl
by_levers p s w (Some y) = by_areas p s w y (areas_of p.tables.bonjean (draught_at w (load_of s) p.ship.lbp) p.ship.stations)

by_water : (p : ProfileRecord) (s : Sum) (o : Option Hydrostatics) → Agrees p.ship (with_water p s o)
by_water p s None = refl
by_water p s (Some w) = by_levers p s w (levers_of p.tables.levers s)

pub agrees : (p : ProfileRecord) (s : Sum) → first_marked criteria (unmet_with p s) ≡ first_failed (judgement_of p s)
agrees p s = by_water p s (hydrostatics_at p.tables.hydro (s Weight))

-- line by line
line_agrees : (case : CaseRecord) (k : ℕ) → option_map (λ c. (k, c)) (first_marked criteria (unmet_at case k)) ≡ failure_of (line_in case k).step
unfolding unmet_at
line_agrees case k = ap (option_map (λ c. (k, c))) (agrees case.profile (sum_at case.profile (aboard_first case) case.sequence.ops k))

lines_agree : (case : CaseRecord) (k n : ℕ) → first_unmet k (map (unmet_at case) (range_with_len k n)) ≡ first_of (map (line_in case) (range_with_len k n))
lines_agree case k zero = refl
lines_agree case k (suc n) =
    let rest = map (unmet_at case) (range_with_len (k + 1) n) in
    let next : suc k ≡ k + 1 = omega arith in
    (λ i. option_or (line_agrees case k i) (first_unmet (next i) rest))
    ∙ ap (option_or (failure_of (line_in case k).step)) (lines_agree case (k + 1) n)

pub first_is : (case : CaseRecord) → first_unmet 0 (map (unmet_at case) (all_lines case)) ≡ (outcome_in case).summary.first
first_is case = lines_agree case 0 (suc (length case.sequence.ops))

-- a case has few lines
pub few_lines : (case : CaseRecord) (f : Findings) → IsReady case → f ≡ found_in case → length f.unmet < 2 ^ 32
few_lines case f ready is =
    let long : length f.unmet ≡ suc (length case.sequence.ops) = ap (λ (x : Findings). length x.unmet) is ∙ length-map-range_with_len (unmet_at case) 0 (suc (length case.sequence.ops)) in
    omega (arith, long, ready.few)
