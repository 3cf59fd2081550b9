use Rattle.std.proofs.Common.{position, sym, ap, ◌∙◌}
use Rattle.std.specs.Str.{bytes_eq}
use Rattle.vd_lex.proofs.TableLemmas.{position-map}
use Rattle.vd_lex.proofs.tables.ReservedWords.number_of.Goals as goal

pub returns-in-Some : goal.returns-in-Some
returns-in-Some c = c.in-Some.ensures.index ∙ (sym (position-map (λ w. w.now) (bytes_eq c.args.word.now) c.args.self.now.set.keys) ∙ ap (position (bytes_eq c.args.word.now)) c.args.self.now.are_the_words)

pub returns-in-None : goal.returns-in-None
returns-in-None c = c.in-None.ensures.index ∙ (sym (position-map (λ w. w.now) (bytes_eq c.args.word.now) c.args.self.now.set.keys) ∙ ap (position (bytes_eq c.args.word.now)) c.args.self.now.are_the_words)
