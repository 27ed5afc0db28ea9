-- What a table says of each condition: its number, the displacement, the report's figures and its
-- verdict, as comma-separated values (RFC 4180) or as an object of JSON (RFC 8259) in a line.
use Rattle.std.specs.Prelude.{◌≡◌, ℕ, ◌+◌, ◌*◌, ◌-◌, ℤ, List, [], ◌∷◌, ◌++◌, codes, map, flat_map}
use Rattle.std.specs.Prelude.{replicate, Option, None, Some}
use Rattle.std.specs.Fmt.{decimal, signed_decimal}
use Rattle.std.specs.List.{range_with_len}
use Rattle.decimal_text.specs.Numbers.{behind_each, pairs_up_to}
use Rattle.criteria.specs.Criteria.{code_of}
use Rattle.criteria.specs.declared.criterion.Criterion.{Criterion}
use Rattle.criteria.specs.Judgement.{Judgement, IsOutside, Fails, Passes, Printed, judgement_by}
use Rattle.port_call.specs.Cases.{CaseRecord}
use Rattle.seq_report.specs.Cases.{line_in}
use Rattle.seq_report.specs.Columns.{columns, figure_of}
use Rattle.seq_report.specs.declared.columns.Column.{Column}
use Rattle.seq_report.specs.declared.columns.Column.TheVariants as column
use Rattle.seq_report.specs.Report.{Line, Statement, cause_of, first_of}
use Rattle.view_table.specs.declared.forms.Form.{Form}
use Rattle.view_table.specs.declared.forms.Form.TheVariants.{Csv, Jsonl}
use Rattle.view_table.specs.declared.judged.Judged.{Judged}

-- a number behind a comma (code 44), or the comma alone where there is none
abbrev pub field : Option ℤ → List ℕ
field None = codes ","
field (Some n) = 44 ∷ signed_decimal n

abbrev pub fields : List (Option ℤ) → List ℕ
fields numbers = flat_map field numbers

-- the displacement, the figures of the report's columns, the loads at each frame, and the least
-- metacentric height
abbrev pub csv_numbers : ℕ → ℤ → Printed → Option ℤ → List ℕ
csv_numbers frames kg f least =
    (44 ∷ signed_decimal kg)
    ++ (fields (map (figure_of f) columns)
    ++ ((44 ∷ pairs_up_to 44 44 f.shear f.bending (frames - 1)) ++ field least))

-- outside of the tables their fields are empty
abbrev pub csv_front : ℕ → ℤ → Judgement → Option ℤ → List ℕ
csv_front frames kg (IsOutside outside) least =
    (44 ∷ signed_decimal kg) ++ replicate (2 * frames + 13) 44
csv_front frames kg (Fails criterion f) least = csv_numbers frames kg f least
csv_front frames kg (Passes f) least = csv_numbers frames kg f least

-- the verdict, and the first criterion that isn't met
abbrev pub csv_verdict : Judgement → List ℕ
csv_verdict (IsOutside outside) = codes ",FAIL,C0,C0," ++ cause_of outside
csv_verdict (Fails criterion f) = codes ",FAIL," ++ (code_of criterion ++ codes ",")
csv_verdict (Passes f) = codes ",PASS,,,"

-- a number behind its key and a colon (code 58), which is null where there is none
abbrev pub member : List ℕ → Option ℤ → List ℕ
member key None = key ++ codes ":null"
member key (Some n) = key ++ (58 ∷ signed_decimal n)

abbrev pub key_of : Column → List ℕ
key_of column.Gm = codes ",\"gm_mm\""
key_of column.Mean = codes ",\"mean_mm\""
key_of column.Aft = codes ",\"aft_mm\""
key_of column.Fwd = codes ",\"fwd_mm\""
key_of column.Trim = codes ",\"trim_mm\""
key_of column.List = codes ",\"list_e4\""
key_of column.AreaTo30 = codes ",\"a30_mmdeg\""
key_of column.AreaTo40 = codes ",\"a40_mmdeg\""
key_of column.Area30To40 = codes ",\"a3040_mmdeg\""
key_of column.Lever = codes ",\"gz_mm\""
key_of column.Angle = codes ",\"angle_deg\""
key_of column.Closing = codes ",\"close_kg\""

abbrev pub members : Printed → List ℕ
members f = flat_map (λ c. member (key_of c) (figure_of f c)) columns

-- the loads at the first n frames, as an array
abbrev pub array : (ℕ → ℤ) → ℕ → List ℕ
array loads n =
    (91 ∷ signed_decimal (loads 0))
    ++ (behind_each 44 (map loads (range_with_len 1 (n - 1))) ++ codes "]")

abbrev pub least_member : Option ℤ → List ℕ
least_member None = []
least_member (Some n) = member (codes ",\"least_gm_mm\"") (Some n)

abbrev pub json_loads : ℕ → Printed → Option ℤ → List ℕ
json_loads frames f least =
    (codes ",\"shear_kg\":" ++ array f.shear frames)
    ++ ((codes ",\"bending_kgmm\":" ++ array f.bending frames) ++ least_member least)

abbrev pub json_front : ℤ → Judgement → List ℕ
json_front kg (IsOutside outside) = member (codes ",\"kg\"") (Some kg)
json_front kg (Fails criterion f) = member (codes ",\"kg\"") (Some kg) ++ members f
json_front kg (Passes f) = member (codes ",\"kg\"") (Some kg) ++ members f

abbrev pub json_failure : List ℕ → List ℕ
json_failure code =
    codes ",\"verdict\":\"FAIL\"" ++ (codes ",\"criterion\":\"" ++ (code ++ codes "\""))

abbrev pub json_verdict : ℕ → Judgement → Option ℤ → List ℕ
json_verdict frames (IsOutside outside) least =
    codes ",\"outside\":\"" ++ (cause_of outside ++ (codes "\"" ++ json_failure (codes "C0")))
json_verdict frames (Fails criterion f) least =
    json_loads frames f least ++ json_failure (code_of criterion)
json_verdict frames (Passes f) least =
    json_loads frames f least ++ codes ",\"verdict\":\"PASS\""

-- what is told of a condition, with the least metacentric height at it
abbrev pub told : Form → Statement → Option ℤ → List ℕ
told Csv s least = csv_front s.frames s.kg s.judgement least ++ csv_verdict s.judgement
told Jsonl s least = json_front s.kg s.judgement ++ json_verdict s.frames s.judgement least

-- how a line begins: by the number of the condition
abbrev pub start : Form → ℕ → List ℕ
start Csv step = decimal step ++ codes ","
start Jsonl step = codes "{\"type\":\"condition\",\"step\":" ++ (decimal step ++ codes ",")

-- A line of a table. Between its number and what is told of the condition stands what the step
-- does, and behind it which other criteria aren't met.
pub record IsLine (form : Form) (s : Statement) (text : List ℕ) : Type 0 where
  pub step : List ℕ
  pub least : Option ℤ
  pub others : List ℕ
  pub whole : text ≡ start form s.step ++ (step ++ (told form s least ++ others))

-- a table of these lines of a report, which is a line for each
abbrev pub AreLines : Form → List Line → List ℕ → Type 0
AreLines form [] text = text ≡ []
AreLines form (line ∷ more) text =
    (one : List ℕ) × (rest : List ℕ) × IsLine form line.step one × AreLines form more rest
    × (text ≡ one ++ rest)

-- with the first of them that fails
pub record IsPart (form : Form) (lines : List Line) (text : List ℕ)
    (first : Option (ℕ × Criterion)) : Type 0 where
  pub lines_are : AreLines form lines text
  pub first_is : first ≡ first_of lines

-- Bookkeeping: the code's numbers as a statement on the condition of a step.
abbrev pub statement_by : ℕ → Judged → Statement
statement_by step j =
    record {
      step = step;
      kg = j.kg;
      frames = j.frames;
      judgement = judgement_by j.first j.figures;
    }

-- a text grew by a line
abbrev pub HasLine : Form → Statement → List ℕ → List ℕ → Type 0
HasLine form s old new = (line : List ℕ) × IsLine form s line × (new ≡ old ++ line)

-- Bookkeeping: lines of a case by their numbers, in a form.
pub record Piece : Type 0 where
  pub form : Form
  pub case : CaseRecord
  pub numbers : List ℕ

abbrev pub lines_of_piece : Piece → List Line
lines_of_piece piece = map (line_in piece.case) piece.numbers
