-- A text has one answer: it is determined by its tokens or their break, and by what reading the tokens gives.
use Rattle.std.proofs.Common.{◌≡◌, ◌<◌, ◌≤◌, ℕ, ◌+◌, length, refl, sym, ap, ◌∙◌, subst, arith, inl, inr, Option, Some, None, ◌⊎◌}
use Rattle.vd_bytes.specs.declared.places.Place.{Place}
use Rattle.vd_bytes.specs.declared.answers.Refused.{Refused}
use Rattle.vd_bytes.specs.declared.answers.Limit.{Limit}
use Rattle.vd_bytes.specs.declared.answers.Limit.TheVariants.{Tokens, Nesting, Nesting93}
use Rattle.vd_forest.specs.Forest.{Forest}
use Rattle.vd_first_trees.specs.declared.form.Form.{Form}
use Rattle.vd_trees.specs.declared.revision.Revision.{Revision}
use Rattle.vd_trees.specs.declared.revision.Revision.TheVariants.{V2019, V1993}
use Rattle.vd_first_lex.specs.declared.selected.Selected.{Selected}
use Rattle.vd_first_lex.specs.declared.tokens.TheConstants.{TOKENS_LIMIT}
use Rattle.vd_first_lex.specs.Lexings.{Lexing, lexed, broken, IsLexing}
use Rattle.vd_first_lex.proofs.LexingLaws.{one_lexing}
use Rattle.vd_first_grammar.specs.Readings.{Reading, tree, hopeless, too_deep, IsReading}
use Rattle.vd_first_grammar.specs.Refusals.{place_of_token}
use Rattle.vd_first_grammar.specs.Shapes.{file_shape}
use Rattle.vd_first_grammar.proofs.OneReading.{one_reading}
use Rattle.vd_first_accept.specs.Unknown.{first_unknown}
use Rattle.vd_first_accept.specs.Acceptance.{Acceptance, refused, beyond, accepted, PassesLimit, NestsTooDeep, IsAcceptance, HasOneAcceptance}
use Rattle.vd_first_accept.specs.Steps.{nesting_of}
use Rattle.vd_first_accept.proofs.UnknownFound.{finds_unknown, finds_none}

abbrev names_answer : Option Place → Forest Form → Acceptance
names_answer (Some p) units = refused (record { place = p; rule = 303 })
names_answer None units = accepted units

abbrev answer_for : Revision → Reading → Acceptance
answer_for r (tree units) = names_answer (first_unknown units) units
answer_for r (hopeless p) = refused (record { place = p; rule = 201 })
answer_for r too_deep = beyond (nesting_of r)

same_refused : (x : Refused) (p : Place) (n : ℕ) → x.place ≡ p → x.rule ≡ n → refused x ≡ refused (record { place = p; rule = n })
same_refused x p n e h = ap (λ q. refused (record { place = q; rule = x.rule })) e ∙ ap (λ m. refused (record { place = p; rule = m })) h

module _ (r : Revision) where
  -- what is answered for a token list or a break
  abbrev AnswersBy : Lexing → Acceptance → Type 0
  AnswersBy (broken p) a = a ≡ refused (record { place = p; rule = 101 })
  AnswersBy (lexed ts) a =
      ((TOKENS_LIMIT + 1 < length ts) × (a ≡ beyond Tokens))
      ⊎ ((length ts ≤ TOKENS_LIMIT + 1) × (x : Reading) × IsReading r ts x × (a ≡ answer_for r x))

  record Path (s : Selected) (a : Acceptance) : Type 0 where
    lexing : Lexing
    is_lexing : IsLexing r s lexing
    answers : AnswersBy lexing a

  -- a text that nests too deep
  nested : (s : Selected) → NestsTooDeep r s → Path s (beyond (nesting_of r))
  nested s d =
      record { lexing = lexed d.tokens; is_lexing = d.has_tokens.tokens; answers = inr (d.has_tokens.few, too_deep, (d.index, d.deep), refl) }

-- a limit that is passed, by the name that it has in a revision
passed : (r : Revision) (s : Selected) (limit : Limit) → PassesLimit r s limit → Path r s (beyond limit)
passed r s Tokens m = record { lexing = lexed m.tokens; is_lexing = m.is_list; answers = inl (m.many, refl) }
passed V2019 s Nesting m = nested V2019 s m
passed V1993 s Nesting93 m = nested V1993 s m
passed _ s _ m = absurd m

module _ (r : Revision) where
  path : (s : Selected) (a : Acceptance) → IsAcceptance r s a → Path r s a
  path s (refused x) (inl l) = record { lexing = broken x.place; is_lexing = l.breaks; answers = same_refused x x.place 101 refl l.rule }
  path s (refused x) (inr (inl g)) =
      record {
        lexing = lexed g.tokens;
        is_lexing = g.has_tokens.tokens;
        answers = inr (g.has_tokens.few, hopeless (place_of_token g.tokens g.index), (g.index, g.refused, refl), same_refused x (place_of_token g.tokens g.index) 201 g.place g.rule);
      }
  path s (refused x) (inr (inr n)) =
      record {
        lexing = lexed n.tokens;
        is_lexing = n.has_tokens.tokens;
        answers = inr (
          n.has_tokens.few,
          tree (file_shape n.file),
          (n.file, n.read, refl),
          same_refused x n.name.place 303 n.place n.rule
              ∙ sym (ap (λ u. names_answer u (file_shape n.file)) (finds_unknown n.file n.name n.unknown)),
        );
      }
  path s (beyond limit) m = passed r s limit m
  path s (accepted units) c =
      record {
        lexing = lexed c.tokens;
        is_lexing = c.has_tokens.tokens;
        answers = inr (
          c.has_tokens.few,
          tree (file_shape c.file),
          (c.file, c.read, refl),
          ap accepted c.units_are ∙ sym (ap (λ u. names_answer u (file_shape c.file)) (finds_none c.file c.known)),
        );
      }

  same_answers : (l : Lexing) (a b : Acceptance) → AnswersBy r l a → AnswersBy r l b → a ≡ b
  same_answers (broken p) a b x y = x ∙ sym y
  same_answers (lexed ts) a b (inl x) (inl y) = x.1 ∙ sym y.1
  same_answers (lexed ts) a b (inl x) (inr y) = absurd (omega (arith, x.0, y.0))
  same_answers (lexed ts) a b (inr x) (inl y) = absurd (omega (arith, x.0, y.0))
  same_answers (lexed ts) a b (inr x) (inr y) = x.3 ∙ ap (answer_for r) (one_reading r ts x.1 y.1 x.2 y.2) ∙ sym y.3

pub one_acceptance : HasOneAcceptance
one_acceptance r s a b x y =
    let p = path r s a x in
    let q = path r s b y in
    let e = one_lexing r s p.lexing q.lexing p.is_lexing q.is_lexing in
    same_answers r p.lexing a b p.answers (subst (λ l. AnswersBy r l b) (sym e) q.answers)
