-- What a call leaves on the channels.
use Rattle.std.specs.Prelude.{◌≡◌, ◌<◌, ◌⊎◌, ℕ, Bool, List, take, Option}
use Rattle.vd_bytes.specs.declared.channels.Channel.{Channel}
use Rattle.vd_bytes.specs.declared.channels.Channel.TheVariants.{Design, Map, Console}
use Rattle.vd_bytes.specs.Trays.{Appends}
use Rattle.vd_program.specs.Dues.{Due}

-- each channel got all of its due bytes and nothing else. The first argument says what is out on the channels
pub record GotAll {S : Type 0} (written : S → Channel → Option (List ℕ)) (old new : S) (due : Due) : Type 0 where
  pub design : Appends (written old Design) (written new Design) due.design
  pub map : Appends (written old Map) (written new Map) due.map
  pub console : Appends (written old Console) (written new Console) due.console

-- each channel got some first bytes of its due ones, and a channel got bytes only where the ones before it got all of theirs
pub record GotFronts {S : Type 0} (written : S → Channel → Option (List ℕ)) (old new : S) (due : Due) : Type 0 where
  pub on_design : ℕ
  pub on_map : ℕ
  pub on_console : ℕ
  pub design : Appends (written old Design) (written new Design) (take on_design due.design)
  pub map : Appends (written old Map) (written new Map) (take on_map due.map)
  pub console : Appends (written old Console) (written new Console) (take on_console due.console)
  pub map_after : 0 < on_map → take on_design due.design ≡ due.design
  pub console_after : 0 < on_console → (take on_design due.design ≡ due.design) × (take on_map due.map ≡ due.map)

-- the channel is as it was
abbrev pub GotNothing : {S : Type 0} → (S → Channel → Option (List ℕ)) → S → S → Channel → Type 0
GotNothing written old new to = written new to ≡ written old to

-- Design and Map are begun exactly where they were before: their files are neither created nor emptied. The first argument says what is
-- begun
pub record FilesUntouched {S : Type 0} (is_begun : S → Channel → Bool) (old new : S) : Type 0 where
  pub design : is_begun new Design ≡ is_begun old Design
  pub map : is_begun new Map ≡ is_begun old Map

-- a channel was begun only where the ones before it got all of their due bytes. The first two arguments say what is out on the channels,
-- and what is begun
pub record BeginsInOrder {S : Type 0} (written : S → Channel → Option (List ℕ)) (is_begun : S → Channel → Bool) (old new : S) (due : Due) : Type 0 where
  pub map : (is_begun new Map ≡ is_begun old Map) ⊎ Appends (written old Design) (written new Design) due.design
  pub console : (is_begun new Console ≡ is_begun old Console) ⊎ (Appends (written old Design) (written new Design) due.design × Appends (written old Map) (written new Map) due.map)

-- what values of the program come to
abbrev pub due_with : ℕ → List ℕ → List ℕ → List ℕ → Due
due_with status design map console = record { status = status; design = design; map = map; console = console }
