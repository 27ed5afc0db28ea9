-- What is known of the files of a run, by their names, and what was read of them.
use Rattle.std.specs.Prelude.{◌≡◌, ℕ, List, [], ◌++◌, Option, None, Some, option_map, codes}
use Rattle.ship_profile.specs.Record as profile
use Rattle.port_call.specs.declared.inputs.Inputs.{Inputs}
use Rattle.command_line.specs.declared.lines.Line.{Line}

-- what is known of a name: nothing, that a file is there, or also the bytes that it holds
pub data Known : Type 0 where
  Nothing There : Known
  Holds : List ℕ → Known

-- what an opened file has left to be read
abbrev pub RemainsOf : Known → Option (List ℕ) → Type 0
RemainsOf Nothing remaining = Unit {0}
RemainsOf There remaining = Unit {0}
RemainsOf (Holds bytes) remaining = remaining ≡ Some bytes

-- these bytes are the file's, where the file's are known
abbrev pub IsTextOf : Known → List ℕ → Type 0
IsTextOf Nothing text = Unit {0}
IsTextOf There text = Unit {0}
IsTextOf (Holds bytes) text = text ≡ bytes

-- of a file that may be missing: there is no text only where it isn't known to be there
abbrev pub IsTextIfThere : Known → Option (List ℕ) → Type 0
IsTextIfThere known None = known ≡ Nothing
IsTextIfThere known (Some text) = IsTextOf known text

-- of a file that may be named: there is a text exactly where a name is given
abbrev pub IsTextIfNamed : (List ℕ → Known) → Option (List ℕ) → Option (List ℕ) → Type 0
IsTextIfNamed known None None = Unit {0}
IsTextIfNamed known None (Some text) = ⊥
IsTextIfNamed known (Some name) None = ⊥
IsTextIfNamed known (Some name) (Some text) = IsTextOf (known name) text

-- the path of a file of a folder
abbrev pub path_in : List ℕ → List ℕ → List ℕ
path_in folder name = folder ++ (codes "/" ++ name)

-- The texts of a profile are those of the files of its folder; only the table of least metacentric
-- heights may be missing.
pub record AreShipTexts (known : List ℕ → Known) (folder : List ℕ)
    (texts : profile.Texts) : Type 0 where
  pub ship_toml : IsTextOf (known (path_in folder (codes "ship.toml"))) texts.ship
  pub cells_csv : IsTextOf (known (path_in folder (codes "cells.csv"))) texts.tables.cells
  pub hydro_csv : IsTextOf (known (path_in folder (codes "hydro.csv"))) texts.tables.hydro
  pub kn_csv : IsTextOf (known (path_in folder (codes "kn.csv"))) texts.tables.levers
  pub bonjean_csv : IsTextOf (known (path_in folder (codes "bonjean.csv"))) texts.tables.bonjean
  pub tanks_csv : IsTextOf (known (path_in folder (codes "tanks.csv"))) texts.tables.tanks
  pub gm_csv : IsTextIfThere (known (path_in folder (codes "gm.csv"))) texts.tables.least_gm

-- the texts of all files of a run
pub record RunTexts : Type 0 where
  pub profile : profile.Texts
  pub baplie : List ℕ
  pub movins : List ℕ
  pub edits : Option (List ℕ)
  pub steps : Option (List ℕ)

-- the texts that inputs are, with that of a file of edits, where there is one
abbrev pub texts_in : Inputs → Option (List ℕ) → RunTexts
texts_in inputs edits = record {
  profile = profile.texts_of inputs.profile;
  baplie = inputs.baplie.now;
  movins = inputs.movins.now;
  edits = edits;
  steps = option_map (λ text. text.now) inputs.steps;
}

-- what is tried: nothing where no file of edits is named
abbrev pub edits_text : Option (List ℕ) → List ℕ
edits_text None = []
edits_text (Some text) = text

-- The texts of a run are those of the files that its command line names.
pub record AreTexts (known : List ℕ → Known) (line : Line) (texts : RunTexts) : Type 0 where
  pub ship_files : AreShipTexts known line.folder.now texts.profile
  pub baplie_file : IsTextOf (known line.baplie.now) texts.baplie
  pub movins_file : IsTextOf (known line.movins.now) texts.movins
  pub edits_file : IsTextIfNamed known (option_map (λ name. name.now) line.edits) texts.edits
  pub steps_file : IsTextIfNamed known (option_map (λ name. name.now) line.steps) texts.steps
