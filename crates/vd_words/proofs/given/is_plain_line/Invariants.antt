use Rattle.std.proofs.Common.{◌≡◌, drop}
use Rattle.vd_words.specs.Words.{texts_of}
use Rattle.vd_words.specs.Given.{is_plain_line}
use Rattle.vd_words.proofs.given.is_plain_line.Given as goal

-- the words that were passed settle nothing
abbrev pub invariant-loop-i : goal.invariant-loop-i
invariant-loop-i l = is_plain_line (texts_of (drop l.i l.words)) ≡ is_plain_line (texts_of l.words)
