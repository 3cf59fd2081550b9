-- Answers by tables of one grammar.
use Rattle.std.proofs.Common.{◌≡◌, ℕ, ◌||◌, if◌then◌else◌, List, [], ◌∷◌, refl, ap, ◌∙◌}
use Rattle.std.specs.List.{list_any}
use Rattle.vd_tokens.specs.declared.kinds.Kind.{Kind}
use Rattle.vd_tokens.specs.declared.kinds.Kind.TheVariants as kind
use Rattle.vd_tokens.specs.Lexemes.{Lexeme}
use Rattle.vd_gram.specs.declared.tables.Production.{Production}
use Rattle.vd_gram.specs.declared.tables.Table.{Table}
use Rattle.vd_gram.specs.Claims.{has}
use Rattle.vd_gram.specs.Same.{IsSameGrammar, AreSameProductions, SaysTheSame, SayTheSame}
use Rattle.vd_shapes.specs.declared.actions.Action.{Action}
use Rattle.vd_shapes.specs.declared.reading.GrammarEnd.{GrammarEnd}
use Rattle.vd_shapes.specs.declared.reading.GrammarEnd.TheVariants as end
use Rattle.vd_shapes.specs.declared.shaping.Shaped.{Shaped}
use Rattle.vd_shapes.specs.Answers.{IsShaped}
use Rattle.vd_shapes.specs.Reading.{symbol_of, symbols_in, rule_at, IsReadEnd}

same_uses : (ps qs : List Production) (s : ℕ) → AreSameProductions ps qs → list_any (λ p. has p.right.now s) ps ≡ list_any (λ p. has p.right.now s) qs
same_uses [] [] s h = refl
same_uses [] (q ∷ qs) s h = absurd h
same_uses (p ∷ ps) [] s h = absurd h
same_uses (p ∷ ps) (q ∷ qs) s h = λ i. has (h.1 i) s || same_uses ps qs s h.2 i

same_rules : (t u : Table) (k : Kind) → IsSameGrammar t u → rule_at t k ≡ rule_at u k
same_rules t u kind.Name h = refl
same_rules t u kind.Number h = refl
same_rules t u kind.Letter h = refl
same_rules t u kind.Quoted h = refl
same_rules t u kind.Bits h = refl
same_rules t u (kind.Mark n) h = refl
same_rules t u (kind.Word n) h =
    ap (λ b. if b then 201 else 202) (same_uses t.productions.now u.productions.now (symbol_of (kind.Word n)) h.productions)
same_rules t u kind.End h = refl

module _ (says : SayTheSame) (t u : Table) (same : IsSameGrammar t u) (tokens : List Lexeme) (deep : ℕ) where
  one_way : SaysTheSame t u (symbols_in tokens) deep
  one_way = (says t u same (symbols_in tokens) deep).0

  pub same_shaped : (actions : List Action) (s : Shaped) → IsShaped t actions tokens (symbols_in tokens) deep s → IsShaped u actions tokens (symbols_in tokens) deep s
  same_shaped actions s h = record { tree = h.tree; parse = one_way.parses h.tree h.parse; holds = h.holds }

  pub same_end : (e : GrammarEnd) → IsReadEnd t tokens deep e → IsReadEnd u tokens deep e
  same_end (end.Refused refused) h = record {
    number = h.number;
    token = h.token;
    at = h.at;
    refused_there = one_way.refusals h.number h.refused_there;
    place = h.place;
    rule = h.rule ∙ same_rules t u h.token.kind same;
  }
  same_end end.Nesting h = one_way.too_deep h
  same_end end.Memory h = tt
