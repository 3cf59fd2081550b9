use Rattle.std.proofs.Common.{◌≡◌, take}
use Rattle.vd_trace_text.specs.Types.{texts_behind}
use Rattle.vd_trace_text.proofs.types.copied.Given as goal

abbrev pub invariant-loop-text : goal.invariant-loop-text
invariant-loop-text l = l.copies.items ≡ texts_behind (take l.text-index l.texts)
