-- The tokens of a valid 1993 tree are tokens that a text of 1993 can have.
use Rattle.std.proofs.Common.{◌≡◌, ℕ, Bool, true, false, List, [], ◌∷◌, ◌++◌, Option, Some, None, refl, sym, ap, ◌∙◌}
use Rattle.std.specs.Prelude.{◌&&◌, is_none, codes}
use Rattle.std.specs.List.{AllByRecursion}
use Rattle.std.specs.Str.{bytes_eq}
use Rattle.std.proofs.lemmas.Bool.{cond-true}
use Rattle.std.proofs.lemmas.Slice.Eq.{bytes_eq-Decides}
use Rattle.vd_forest.specs.Forest.{Forest, nothing, more}
use Rattle.vd_trees.specs.declared.revision.Revision.TheVariants.{V1993}
use Rattle.vd_first_trees.specs.declared.form.Form.{Form}
use Rattle.vd_first_trees.specs.declared.form.Form.TheVariants as form
use Rattle.vd_trees.specs.Words.{words_1993}
use Rattle.vd_trees.specs.Identifiers.{is_name, lowered, place_among, is_identifier}
use Rattle.vd_first_trees.specs.Validity.{Slot, slots_of, slots_left, has_text, is_valid}
use Rattle.vd_first_lex.specs.declared.tokens.Kind.TheVariants.{Word, Mark}
use Rattle.vd_first_lex.specs.declared.tokens.Token.{Token}
use Rattle.vd_first_lex.specs.declared.tokens.TheConstants.{ALL, AND, ARCHITECTURE, BEGIN, END, ENTITY, IN, IS, LIBRARY, NOT, OF, OUT, PORT, PROCESS, USE, OPENING, CLOSING, COMMA, POINT, COLON, SEMICOLON, ARROW}
use Rattle.vd_first_lex.specs.Lexis.{kind_of, word_or_name}
use Rattle.vd_first_passes.proofs.ValidityLemmas.{both, stands}
use Rattle.vd_first_print.specs.declared.writing.Position.{Position}
use Rattle.vd_first_print.specs.declared.writing.Position.TheVariants.{First, Second, Later}
use Rattle.vd_first_print.specs.Writing.{fixed_token, fixed_tokens, name_token, own_tokens, in_front, between, next_position, behind, has_brackets, in_brackets, between_if_more, parts_tokens}
use Rattle.vd_first_print.specs.ReadingBack.{IsGiven}
use Rattle.vd_first_written.proofs.Lists.{all_append}

abbrev pub AreGiven : List Token → Type 0
AreGiven ts = AllByRecursion (IsGiven V1993) ts

-- ---- names

none_is : {X : Type 0} (o : Option X) → is_none o ≡ true → o ≡ None
none_is None h = refl
none_is (Some x) h = cc

name_given : (text : List ℕ) → is_identifier V1993 text ≡ true → IsGiven V1993 (name_token text)
name_given text h =
    let a = both (is_name text) (bytes_eq (lowered text) text && is_none (place_among words_1993 text)) h in
    let b = both (bytes_eq (lowered text) text) (is_none (place_among words_1993 text)) a.1 in
    let lower = (bytes_eq-Decides (lowered text) text).0 b.0 in
    let free = ap (place_among words_1993) lower ∙ none_is (place_among words_1993 text) b.1 in
    record {
      spelled = text;
      is_token = cond-true (is_name text) _ _ a.0 ∙ ap (λ o. Some (word_or_name o)) free;
      text = sym lower;
    }

own_given : (f : Form) (text : List ℕ) → has_text V1993 f text ≡ true → AreGiven (own_tokens f text)
own_given form.Identifier text h = (name_given text h, tt)
own_given _ text h = tt

-- ---- words and marks

word_given : (n : ℕ) (spelled : List ℕ) → kind_of V1993 spelled ≡ Some (Word n) → IsGiven V1993 (fixed_token (Word n))
word_given n spelled h = record { spelled = spelled; is_token = h; text = refl }

mark_given : (n : ℕ) (spelled : List ℕ) → kind_of V1993 spelled ≡ Some (Mark n) → IsGiven V1993 (fixed_token (Mark n))
mark_given n spelled h = record { spelled = spelled; is_token = h; text = refl }

opening : IsGiven V1993 (fixed_token (Mark OPENING))
opening = mark_given OPENING (codes "(") refl

closing : IsGiven V1993 (fixed_token (Mark CLOSING))
closing = mark_given CLOSING (codes ")") refl

comma : IsGiven V1993 (fixed_token (Mark COMMA))
comma = mark_given COMMA (codes ",") refl

semicolon : IsGiven V1993 (fixed_token (Mark SEMICOLON))
semicolon = mark_given SEMICOLON (codes ";") refl

end_word : IsGiven V1993 (fixed_token (Word END))
end_word = word_given END (codes "end") refl

is_word : IsGiven V1993 (fixed_token (Word IS))
is_word = word_given IS (codes "is") refl

begin_word : IsGiven V1993 (fixed_token (Word BEGIN))
begin_word = word_given BEGIN (codes "begin") refl

entity_word : IsGiven V1993 (fixed_token (Word ENTITY))
entity_word = word_given ENTITY (codes "entity") refl

architecture_word : IsGiven V1993 (fixed_token (Word ARCHITECTURE))
architecture_word = word_given ARCHITECTURE (codes "architecture") refl

process_word : IsGiven V1993 (fixed_token (Word PROCESS))
process_word = word_given PROCESS (codes "process") refl

front_given : (f : Form) → AreGiven (fixed_tokens (in_front f))
front_given form.LibraryClause = (word_given LIBRARY (codes "library") refl, tt)
front_given form.UseClause = (word_given USE (codes "use") refl, tt)
front_given form.All = (word_given ALL (codes "all") refl, tt)
front_given form.EntityDeclaration = (entity_word, tt)
front_given form.PortClause = (word_given PORT (codes "port") refl, (opening, tt))
front_given form.In = (word_given IN (codes "in") refl, tt)
front_given form.Out = (word_given OUT (codes "out") refl, tt)
front_given form.ArchitectureBody = (architecture_word, tt)
front_given form.ProcessStatement = (process_word, (opening, tt))
front_given form.Not = (word_given NOT (codes "not") refl, tt)
front_given form.Is = (is_word, tt)
front_given _ = tt

between_given : (f : Form) (i : Position) → AreGiven (fixed_tokens (between f i))
between_given form.LibraryClause i = (comma, tt)
between_given form.UseClause i = (comma, tt)
between_given form.SelectedName i = (mark_given POINT (codes ".") refl, tt)
between_given form.EntityDeclaration First = (is_word, tt)
between_given form.EntityDeclaration Second = (end_word, (entity_word, tt))
between_given form.EntityDeclaration Later = tt
between_given form.PortClause i = (semicolon, tt)
between_given form.PortDeclaration First = (mark_given COLON (codes ":") refl, tt)
between_given form.PortDeclaration Second = tt
between_given form.PortDeclaration Later = tt
between_given form.IdentifierList i = (comma, tt)
between_given form.ArchitectureBody First = (word_given OF (codes "of") refl, tt)
between_given form.ArchitectureBody Second = (is_word, (begin_word, tt))
between_given form.ArchitectureBody Later = (end_word, (architecture_word, tt))
between_given form.ProcessStatement First = (closing, tt)
between_given form.ProcessStatement Second = (begin_word, tt)
between_given form.ProcessStatement Later = tt
between_given form.SensitivityList i = (comma, tt)
between_given form.SignalAssignment i = (mark_given ARROW (codes "<=") refl, tt)
between_given form.And i = (word_given AND (codes "and") refl, tt)
between_given _ i = tt

behind_given : (f : Form) → AreGiven (fixed_tokens (behind f))
behind_given form.LibraryClause = (semicolon, tt)
behind_given form.UseClause = (semicolon, tt)
behind_given form.EntityDeclaration = (semicolon, tt)
behind_given form.PortClause = (closing, (semicolon, tt))
behind_given form.ArchitectureBody = (semicolon, tt)
behind_given form.ProcessStatement = (end_word, (process_word, (semicolon, tt)))
behind_given form.SignalAssignment = (semicolon, tt)
behind_given _ = tt

-- ---- trees

brackets_given : (b : Bool) (ts : List Token) → AreGiven ts → AreGiven (in_brackets b ts)
brackets_given true ts h = (opening, all_append (IsGiven V1993) ts (fixed_token (Mark CLOSING) ∷ []) h (closing, tt))
brackets_given false ts h = h

more_given : (parent : Form) (i : Position) (next : Forest Form) → AreGiven (between_if_more parent i next)
more_given parent i nothing = tt
more_given parent i (more f t p parts next) = between_given parent i

-- the tokens of the parts of a valid 1993 tree
pub parts_given : (parent : Form) (i : Position) (slots : List Slot) (f : Forest Form) → is_valid V1993 slots f ≡ true → AreGiven (parts_tokens parent i f)
parts_given parent i slots nothing h = tt
parts_given parent i [] (more f t p parts next) h = cc
parts_given parent i (s ∷ slots) (more f t p parts next) h =
    let st = stands V1993 s slots f t p parts next h in
    let G = IsGiven V1993 in
    let inner = parts_given f First (slots_of V1993 f) parts st.inner in
    let after = parts_given parent (next_position i) (slots_left s slots) next st.after in
    let own =
    all_append G (own_tokens f t) (fixed_tokens (in_front f) ++ (parts_tokens f First parts ++ fixed_tokens (behind f))) (own_given f t st.text)
    (all_append G (fixed_tokens (in_front f)) (parts_tokens f First parts ++ fixed_tokens (behind f)) (front_given f)
    (all_append G (parts_tokens f First parts) (fixed_tokens (behind f)) inner (behind_given f))) in
    all_append G (in_brackets (has_brackets parent i f) (own_tokens f t ++ (fixed_tokens (in_front f) ++ (parts_tokens f First parts ++ fixed_tokens (behind f))))) (between_if_more parent i next ++ parts_tokens parent (next_position i) next)
    (brackets_given (has_brackets parent i f) (own_tokens f t ++ (fixed_tokens (in_front f) ++ (parts_tokens f First parts ++ fixed_tokens (behind f)))) own)
    (all_append G (between_if_more parent i next) (parts_tokens parent (next_position i) next) (more_given parent i next) after)
