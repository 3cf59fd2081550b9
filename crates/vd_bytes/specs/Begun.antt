-- Which channels were begun: a piece was written to them, perhaps an empty one.
use Rattle.std.specs.Prelude.{Bool, true, false}
use Rattle.vd_bytes.specs.declared.channels.Channel.{Channel}
use Rattle.vd_bytes.specs.declared.channels.Channel.TheVariants.{Design, Map, Console}

pub record Begun : Type 0 where
  pub has_design : Bool
  pub has_map : Bool
  pub has_console : Bool

-- no channel was begun
abbrev pub none_begun : Begun
none_begun = record { has_design = false; has_map = false; has_console = false }

-- whether a channel was
abbrev pub has_begun : Begun → Channel → Bool
has_begun begun Design = begun.has_design
has_begun begun Map = begun.has_map
has_begun begun Console = begun.has_console

-- a channel was begun besides
abbrev pub after_begin : Begun → Channel → Begun
after_begin begun Design = record begun { has_design = true }
after_begin begun Map = record begun { has_map = true }
after_begin begun Console = record begun { has_console = true }
