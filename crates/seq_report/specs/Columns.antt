-- The columns of figures of a report, and the texts of its figures.
use Rattle.std.specs.Prelude.{ℕ, zero, suc, ◌-◌, ℤ, pos, List, [], ◌∷◌, ◌++◌, map, flat_map, codes}
use Rattle.std.specs.Prelude.{Option, Some, None, option_map}
use Rattle.std.specs.Fmt.{signed_decimal}
use Rattle.criteria.specs.Judgement.{Printed}
use Rattle.seq_report.specs.declared.columns.Column.{Column}
use Rattle.seq_report.specs.declared.columns.Column.TheVariants as column

-- in their order, with their headings, and the figure of each, which the list alone may lack
abbrev pub columns : List Column
columns =
    column.Gm ∷ column.Mean ∷ column.Aft ∷ column.Fwd ∷ column.Trim ∷ column.List ∷ column.AreaTo30
    ∷ column.AreaTo40 ∷ column.Area30To40
    ∷ column.Lever ∷ column.Angle ∷ column.Closing ∷ []

abbrev pub heading_of : Column → List ℕ
heading_of column.Gm = codes "GM"
heading_of column.Mean = codes "MEAN"
heading_of column.Aft = codes "AFT"
heading_of column.Fwd = codes "FWD"
heading_of column.Trim = codes "TRIM"
heading_of column.List = codes "LIST"
heading_of column.AreaTo30 = codes "A30"
heading_of column.AreaTo40 = codes "A40"
heading_of column.Area30To40 = codes "A3040"
heading_of column.Lever = codes "GZ"
heading_of column.Angle = codes "ANGLE"
heading_of column.Closing = codes "CLOSE"

abbrev pub figure_of : Printed → Column → Option ℤ
figure_of f column.Gm = Some f.gm
figure_of f column.Mean = Some f.mean
figure_of f column.Aft = Some f.aft
figure_of f column.Fwd = Some f.fwd
figure_of f column.Trim = Some f.trim
figure_of f column.List = f.list
figure_of f column.AreaTo30 = Some f.area_30
figure_of f column.AreaTo40 = Some f.area_40
figure_of f column.Area30To40 = Some f.area_30_40
figure_of f column.Lever = f.lever
figure_of f column.Angle = option_map (λ degrees. pos degrees) f.angle
figure_of f column.Closing = Some f.closing

-- a number, or a dash for none
abbrev pub number_text : Option ℤ → List ℕ
number_text None = codes "-"
number_text (Some n) = signed_decimal n

-- words, each behind a space (code 32)
abbrev pub spaced : List (List ℕ) → List ℕ
spaced words = flat_map (λ word. 32 ∷ word) words

abbrev pub headings_text : List ℕ
headings_text = spaced (map heading_of columns)

abbrev pub numbers_text : Printed → List ℕ
numbers_text f = spaced (map (λ c. number_text (figure_of f c)) columns)

-- the shear force and the bending moment at the i-th frame; at the frames up to the n-th; and at
-- the first n frames
abbrev pub frame_text : Printed → ℕ → List ℕ
frame_text f i = signed_decimal (f.shear i) ++ (codes "/" ++ signed_decimal (f.bending i))

abbrev pub next_frame_text : Printed → ℕ → List ℕ
next_frame_text f i = codes ";" ++ frame_text f i

abbrev pub frames_up_to : Printed → ℕ → List ℕ
frames_up_to f zero = frame_text f 0
frames_up_to f (suc n) = frames_up_to f n ++ next_frame_text f (suc n)

abbrev pub frames_text : Printed → ℕ → List ℕ
frames_text f frames = codes " " ++ frames_up_to f (frames - 1)

-- all figures of a line, each behind a space
abbrev pub figures_text : ℕ → Printed → List ℕ
figures_text frames f = numbers_text f ++ frames_text f frames
