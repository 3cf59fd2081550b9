-- The facts, computed.
use Rattle.std.proofs.Common.{refl}
use Rattle.std.specs.Fmt.{digits}
use Rattle.vd_predefined.specs.Table.{standard_types, standard_operators, logic_types, logic_operators}
use Rattle.vd_meaning_facts.specs.Expressions.{Expressions}
use Rattle.vd_meaning_facts.specs.Statements.{Statements}
use Rattle.vd_meaning_facts.specs.Targets.{Targets}

pub expressions : Expressions
unfolding standard_types standard_operators logic_types logic_operators digits
expressions =
    record {
      overflow = refl;
      by_zero = refl;
      decided = refl;
      at_six = refl;
      at_four = refl;
      left = refl;
      turned = refl;
      long = refl;
      joined = refl;
      with_others = refl;
      beyond = refl;
      ascending = refl;
      descending = refl;
      time = refl;
      late = refl;
      image = refl;
      signal = refl;
      event = refl;
      edge = refl;
      short = refl;
      qualified = refl;
    }

pub statements : Statements
unfolding standard_types standard_operators logic_types logic_operators digits
statements =
    record {
      first = refl;
      then = refl;
      failed = refl;
      concurrently = refl;
      matched = refl;
      unmatched = refl;
      dash = refl;
      length = refl;
      no_return = refl;
      short = refl;
    }

pub targets : Targets
unfolding standard_types standard_operators logic_types logic_operators digits
targets = record { element = refl; beyond = refl; within = refl; known = refl; unknown = refl }
