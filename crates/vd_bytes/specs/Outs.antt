-- What was written on each channel.
use Rattle.std.specs.Prelude.{ℕ, List, ◌++◌}
use Rattle.vd_bytes.specs.declared.channels.Channel.{Channel}
use Rattle.vd_bytes.specs.declared.channels.Channel.TheVariants.{Design, Map, Console}

pub record Written : Type 0 where
  pub on_design : List ℕ
  pub on_map : List ℕ
  pub on_console : List ℕ

-- the bytes out on a channel
abbrev pub out_of : Written → Channel → List ℕ
out_of written Design = written.on_design
out_of written Map = written.on_map
out_of written Console = written.on_console

-- these bytes were written behind what stood on a channel
abbrev pub after_append : Written → Channel → List ℕ → Written
after_append written Design bytes = record written { on_design = written.on_design ++ bytes }
after_append written Map bytes = record written { on_map = written.on_map ++ bytes }
after_append written Console bytes = record written { on_console = written.on_console ++ bytes }
