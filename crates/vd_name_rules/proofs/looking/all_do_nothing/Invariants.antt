use Rattle.std.proofs.Common.{◌≡◌, drop}
use Rattle.vd_name_rules.specs.Looking.{all_do_nothing}
use Rattle.vd_name_rules.proofs.looking.all_do_nothing.Given as goal

abbrev pub invariant-loop-waveform : goal.invariant-loop-waveform
invariant-loop-waveform l = all_do_nothing (drop l.waveform-index l.waveforms) ≡ all_do_nothing l.waveforms
