-- What the layout keeps of the tokens before one.
use Rattle.std.specs.Prelude.{◌+◌, List, if◌then◌else◌}
use Rattle.vd_first_lex.specs.declared.tokens.Kind.{Kind}
use Rattle.vd_first_lex.specs.declared.tokens.Token.{Token}
use Rattle.vd_first_lex.specs.declared.tokens.TheConstants.{IS, END, OPENING, CLOSING}
use Rattle.vd_first_print.specs.declared.layout.Counts.{Counts}
use Rattle.vd_first_print.specs.Layout.{is_word, is_mark, count_marks, count_words}

abbrev pub counts_of : List Token → Counts
counts_of before =
    record {
      opening = count_marks OPENING before;
      closing = count_marks CLOSING before;
      is_words = count_words IS before;
      end_words = count_words END before;
    }

-- with one more token
abbrev pub counted_with : Counts → Kind → Counts
counted_with c kind =
    record {
      opening = if is_mark OPENING kind then c.opening + 1 else c.opening;
      closing = if is_mark CLOSING kind then c.closing + 1 else c.closing;
      is_words = if is_word IS kind then c.is_words + 1 else c.is_words;
      end_words = if is_word END kind then c.end_words + 1 else c.end_words;
    }
