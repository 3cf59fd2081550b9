-- The bytes of a token that a token list can have are read as it.
use Rattle.std.proofs.Common.{◌≡◌, ◌≢◌, ℕ, Bool, true, false, List, [], ◌∷◌, ◌++◌, get_or, Option, Some, None, refl, sym, ap, ◌∙◌, subst, true≢false}
use Rattle.std.specs.List.{AllByRecursion}
use Rattle.std.proofs.Math.ListN.{get_or-append}
use Rattle.std.proofs.lemmas.Bool.{and_parts, cond-true, cond-false}
use Rattle.vd_trees.specs.declared.revision.Revision.{Revision}
use Rattle.vd_trees.specs.declared.revision.Revision.TheVariants.{V2019, V1993}
use Rattle.vd_trees.specs.Identifiers.{is_letter, is_name_rest, is_name, lowered, place_among}
use Rattle.vd_trees.specs.Words.{reserved_words, words_1993, words_added}
use Rattle.vd_first_lex.specs.declared.tokens.Kind.{Kind}
use Rattle.vd_first_lex.specs.declared.tokens.Kind.TheVariants.{Name, Word, Mark}
use Rattle.vd_first_lex.specs.declared.tokens.Token.{Token}
use Rattle.vd_first_lex.specs.Lexis.{marks, marks_taken, word_or_name, mark_kind, kind_of, text_if_name}
use Rattle.vd_first_lex.specs.Spellings.{spelling_of}
use Rattle.vd_first_print.specs.ReadingBack.{IsGiven}
use Rattle.vd_first_print.proofs.CutLemmas.{BeginsWith}
use Rattle.vd_first_print.proofs.LaidLines.{IsNoReturn}
use Rattle.vd_first_lex.proofs.KindLemmas.{is_name-lowered, lowered-lowered}
use Rattle.vd_first_lex.proofs.TokenLemmas.{letter_no_token}
use Rattle.vd_first_print.proofs.SpelledTexts.{ends_name, name_ended, name-no_return, place_among-is, IsTaken, taken, taken_mark}

-- what may stand behind a token: behind a name or a word, nothing that goes on with it
abbrev pub MayFollow : Kind → List ℕ → Type 0
MayFollow (Mark n) after = Unit {0}
MayFollow _ after = ends_name after ≡ true

some_is : (k l : Kind) → Some k ≡ Some l → l ≡ k
some_is k l e = cc

none_is : (l : Kind) → None ≡ Some l → ⊥
none_is l e = cc

-- a word has its number in each revision's list
word_is : (r : Revision) (text : List ℕ) (n : ℕ) → place_among (reserved_words r) text ≡ Some n → get_or (reserved_words V2019) n [] ≡ text
word_is V2019 text n e = (place_among-is (reserved_words V2019) text n e).1
word_is V1993 text n e = let p = place_among-is words_1993 text n e in get_or-append words_1993 words_added [] n p.0 ∙ p.1

module _ (r : Revision) where
  -- the bytes of a token are read as it, before all that may follow it
  pub record IsWritten (t : Token) : Type 0 where
    pub first : ℕ
    pub others : List ℕ
    pub spelled : spelling_of t.kind t.text ≡ first ∷ others
    pub no_return : AllByRecursion IsNoReturn (first ∷ others)
    pub begins : (after : List ℕ) → MayFollow t.kind after → BeginsWith r t first others after

  -- a text that is spelled as it stands
  record IsOwn (t : Token) (bytes : List ℕ) : Type 0 where
    spelled : spelling_of t.kind t.text ≡ bytes
    kind : kind_of r bytes ≡ Some t.kind
    text : text_if_name t.kind bytes ≡ t.text

  name_last : (b : ℕ) (bs after : List ℕ) → is_name (b ∷ bs) ≡ true → ends_name after ≡ true → (more rest : List ℕ) → after ≡ more ++ rest → more ≢ [] → kind_of r (b ∷ bs ++ more) ≡ None
  name_last b bs after name ended [] rest e some = absurd (some refl)
  name_last b bs after name ended (m ∷ ms) rest e some =
      letter_no_token r b (bs ++ m ∷ ms) (and_parts (is_letter b) (is_name_rest bs) name).0 (name_ended b bs m ms (ap ends_name (sym e) ∙ ended))

  written_name : (t : Token) (text : List ℕ) → IsOwn t text → is_name text ≡ true → ((after : List ℕ) → MayFollow t.kind after → ends_name after ≡ true) → IsWritten t
  written_name t [] own name follows = absurd (true≢false (sym name))
  written_name t (b ∷ bs) own name follows = record {
    first = b;
    others = bs;
    spelled = own.spelled;
    no_return = name-no_return b bs name;
    begins = λ after h. record { kind = own.kind; text = own.text; longest = name_last b bs after name (follows after h) };
  }

  written_mark : (t : Token) (text : List ℕ) → IsOwn t text → IsTaken r text → IsWritten t
  written_mark t _ own (taken b bs mark) = record {
    first = b;
    others = bs;
    spelled = own.spelled;
    no_return = mark.no_return;
    begins = λ after h. record { kind = own.kind; text = own.text; longest = λ more rest e some. mark.last more some };
  }

  -- ---- a name's text, in lower case

  kind_of-lowered : (text : List ℕ) (k : Kind) → is_name text ≡ true → kind_of r text ≡ Some k → kind_of r (lowered text) ≡ Some k
  kind_of-lowered text k name e =
      cond-true (is_name (lowered text)) _ _ (is_name-lowered text ∙ name)
      ∙ (ap (λ l. Some (word_or_name (place_among (reserved_words r) l))) (lowered-lowered text)
      ∙ (sym (cond-true (is_name text) _ _ name) ∙ e))

  module _ (t : Token) (text : List ℕ) (is : kind_of r text ≡ Some t.kind) (kept : t.text ≡ text_if_name t.kind text) where
    own_name : is_name text ≡ true → t.kind ≡ Name → IsOwn t (lowered text)
    own_name name e =
        let text_is : t.text ≡ lowered text = kept ∙ ap (λ k. text_if_name k text) e in
        record {
          spelled = ap (λ k. spelling_of k t.text) e ∙ text_is;
          kind = kind_of-lowered text t.kind name is;
          text = ap (λ k. text_if_name k (lowered text)) e ∙ (lowered-lowered text ∙ sym text_is);
        }

    own_word : (n : ℕ) → is_name text ≡ true → place_among (reserved_words r) (lowered text) ≡ Some n → t.kind ≡ Word n → IsOwn t (lowered text)
    own_word n name there e = record {
      spelled = ap (λ k. spelling_of k t.text) e ∙ word_is r (lowered text) n there;
      kind = kind_of-lowered text t.kind name is;
      text = ap (λ k. text_if_name k (lowered text)) e ∙ sym (kept ∙ ap (λ k. text_if_name k text) e);
    }

    own_mark : (n : ℕ) → place_among marks text ≡ Some n → t.kind ≡ Mark n → IsOwn t text
    own_mark n there e = record {
      spelled = ap (λ k. spelling_of k t.text) e ∙ (place_among-is marks text n there).1;
      kind = is;
      text = sym kept;
    }

    at_name : (o : Option ℕ) → is_name text ≡ true → place_among (reserved_words r) (lowered text) ≡ o → Some (word_or_name o) ≡ Some t.kind → IsWritten t
    at_name None name there e =
        let k = some_is Name t.kind e in
        written_name t (lowered text) (own_name name k) (is_name-lowered text ∙ name) (λ after. subst (λ l. MayFollow l after → ends_name after ≡ true) (sym k) (λ h. h))
    at_name (Some n) name there e =
        let k = some_is (Word n) t.kind e in
        written_name t (lowered text) (own_word n name there k) (is_name-lowered text ∙ name) (λ after. subst (λ l. MayFollow l after → ends_name after ≡ true) (sym k) (λ h. h))

    at_mark : (o p : Option ℕ) → place_among marks_taken text ≡ o → place_among marks text ≡ p → (elim o as (λ _. Option Kind) [ None ↦ None | Some n ↦ mark_kind p ]) ≡ Some t.kind → IsWritten t
    at_mark None p taken_there there e = absurd (none_is t.kind e)
    at_mark (Some m) None taken_there there e = absurd (none_is t.kind e)
    at_mark (Some m) (Some n) taken_there there e = written_mark t text (own_mark n there (some_is (Mark n) t.kind e)) (taken_mark r text m taken_there)

    written_text : IsWritten t
    written_text = by (is_name text) refl
      where
        by : (b : Bool) → is_name text ≡ b → IsWritten t
        by true name = at_name (place_among (reserved_words r) (lowered text)) name refl (sym (cond-true (is_name text) _ _ name) ∙ is)
        by false name = at_mark (place_among marks_taken text) (place_among marks text) refl refl (sym (cond-false (is_name text) _ _ name) ∙ is)

  pub written : (t : Token) → IsGiven r t → IsWritten t
  written t g = written_text t g.spelled g.is_token g.text
