-- An expression has one end, if no `and` follows it. An expression is read as its first factor and the others, each
-- behind its `and`.
use Rattle.std.proofs.Common.{◌≡◌, List, [], ◌∷◌, ◌++◌, refl, sym, ap, ◌∙◌, subst, append_assoc}
use Rattle.std.specs.List.{flat_map, AllByRecursion}
use Rattle.std.proofs.lemmas.List.{append-nil}
use Rattle.std.proofs.lemmas.Grind.{flat_map-append}
use Rattle.vd_first_lex.specs.declared.tokens.Token.{Token}
use Rattle.vd_first_lex.specs.declared.tokens.TheConstants.{AND, NOT, OPENING, CLOSING}
use Rattle.vd_first_grammar.specs.Symbols.{word, IsName, Is}
use Rattle.vd_first_grammar.specs.Derivations.{Expression, name, brackets, inverted, conjoined, primary, factor, whole, IsExpression, expression_tokens, Further}
use Rattle.vd_first_grammar.proofs.SoundPorts.{all-push}
use Rattle.vd_first_unambiguous.proofs.Cuts.{first_same, rest_same, Stops, CutsBefore, all_behind}
use Rattle.vd_first_unambiguous.proofs.OneKind.{name_or_word, name_or_mark, word_or_mark}

-- ---- the same parts

conjoined_same : (e e' f f' : Expression) (w w' : Token) → e ≡ e' → f ≡ f' → w ≡ w' → conjoined e w f ≡ conjoined e' w' f'
conjoined_same e e' f f' w w' left right sign = cc

brackets_same : (o o' : Token) (e e' : Expression) (c c' : Token) → o ≡ o' → e ≡ e' → c ≡ c' → brackets o e c ≡ brackets o' e' c'
brackets_same o o' e e' c c' opening inner closing = cc

inverted_same : (w w' : Token) (e e' : Expression) → w ≡ w' → e ≡ e' → inverted w e ≡ inverted w' e'
inverted_same w w' e e' sign operand = cc

-- ---- a first factor and the others

abbrev further_tokens : Further Expression → List Token
further_tokens f = f.sign ∷ expression_tokens f.item

abbrev IsFurtherFactor : Further Expression → Type 0
IsFurtherFactor f = Is (word AND) f.sign × IsExpression factor f.item

-- the expression of a left side and the factors behind it
abbrev joined : Expression → List (Further Expression) → Expression
joined e [] = e
joined e (f ∷ fs) = joined (conjoined e f.sign f.item) fs

-- the last factor is joined last
joined_last : (e : Expression) (fs : List (Further Expression)) (f : Further Expression) → joined e (fs ++ f ∷ []) ≡ conjoined (joined e fs) f.sign f.item
joined_last e [] f = refl
joined_last e (g ∷ fs) f = joined_last (conjoined e g.sign g.item) fs f

-- the factors of an expression
record Factors (e : Expression) : Type 0 where
  pub first : Expression
  pub others : List (Further Expression)
  pub is_factor : IsExpression factor first
  pub are_factors : AllByRecursion IsFurtherFactor others
  pub all : e ≡ joined first others
  pub tokens : expression_tokens e ≡ expression_tokens first ++ flat_map further_tokens others

tokens_last : (fs : List (Further Expression)) (f : Further Expression) → flat_map further_tokens (fs ++ f ∷ []) ≡ flat_map further_tokens fs ++ further_tokens f
tokens_last fs f = flat_map-append further_tokens fs (f ∷ []) ∙ ap (λ (ts : List Token). flat_map further_tokens fs ++ ts) (append-nil (further_tokens f))

one_factor : (e : Expression) → IsExpression factor e → Factors e
one_factor e h = record { first = e; others = []; is_factor = h; are_factors = tt; all = refl; tokens = sym (append-nil (expression_tokens e)) }

factors : (e : Expression) → IsExpression whole e → Factors e
factors (name t) h = one_factor (name t) h
factors (brackets o e c) h = one_factor (brackets o e c) h
factors (inverted w e) h = one_factor (inverted w e) h
factors (conjoined e w f) h =
    let left = factors e h.0 in
    let last : Further Expression = record { sign = w; item = f } in
    record {
      first = left.first;
      others = left.others ++ last ∷ [];
      is_factor = left.is_factor;
      are_factors = all-push IsFurtherFactor left.others last left.are_factors (h.1, h.2);
      all = ap (λ (x : Expression). conjoined x w f) left.all ∙ sym (joined_last left.first left.others last);
      tokens = ap (λ (ts : List Token). ts ++ w ∷ expression_tokens f) left.tokens
          ∙ append_assoc (expression_tokens left.first) (flat_map further_tokens left.others) (w ∷ expression_tokens f)
          ∙ ap (λ (ts : List Token). expression_tokens left.first ++ ts) (sym (tokens_last left.others last));
    }

-- ---- what a front of factors is

-- an expression is a front of these factors, and what follows it is the other factors
record Front (e : Expression) (p : List Token) (first : Expression) (others : List (Further Expression)) (q : List Token) : Type 0 where
  pub taken : List (Further Expression)
  pub left : List (Further Expression)
  pub parts : others ≡ taken ++ left
  pub all : e ≡ joined first taken
  pub rest : p ≡ flat_map further_tokens left ++ q

-- a factor has one end, whatever follows it
abbrev CutsFactor : Expression → Type 0
CutsFactor e = (f : Expression) (p q : List Token) → IsExpression factor e → IsExpression factor f → expression_tokens e ++ p ≡ expression_tokens f ++ q → (e ≡ f) × (p ≡ q)

-- an expression is a front of any factors that begin with its tokens
abbrev CutsWhole : Expression → Type 0
CutsWhole e =
    (first : Expression) (others : List (Further Expression)) (p q : List Token) → IsExpression whole e → IsExpression factor first → AllByRecursion IsFurtherFactor others
    → Stops (Is (word AND)) q → expression_tokens e ++ p ≡ expression_tokens first ++ (flat_map further_tokens others ++ q) → Front e p first others q

-- what is one factor is the first of them
whole_front : (e : Expression) → (IsExpression whole e → IsExpression factor e) → CutsFactor e → CutsWhole e
whole_front e is_factor cuts first others p q h k ks ends same =
    let cut = cuts first p (flat_map further_tokens others ++ q) (is_factor h) k same in
    record { taken = []; left = others; parts = refl; all = cut.0; rest = cut.1 }

-- where no `and` follows, nothing is left
nothing_left : (p q : List Token) (left : List (Further Expression)) → AllByRecursion IsFurtherFactor left → Stops (Is (word AND)) p → p ≡ flat_map further_tokens left ++ q → left ≡ []
nothing_left p q [] h ends same = refl
nothing_left p q (x ∷ left) h ends same = absurd (subst (Stops (Is (word AND))) same ends h.0.0)

front_whole : (e f : Expression) (p q : List Token) → Stops (Is (word AND)) p → (s : Factors f) → Front e p s.first s.others q → (e ≡ f) × (p ≡ q)
front_whole e f p q ends s front =
    let are_factors : AllByRecursion IsFurtherFactor front.left = all_behind IsFurtherFactor front.taken front.left (subst (AllByRecursion IsFurtherFactor) front.parts s.are_factors) in
    let none : front.left ≡ [] = nothing_left p q front.left are_factors ends front.rest in
    let all : s.others ≡ front.taken = front.parts ∙ ap (λ (l : List (Further Expression)). front.taken ++ l) none ∙ append-nil front.taken in
    (front.all ∙ ap (joined s.first) (sym all) ∙ sym s.all, front.rest ∙ ap (λ (l : List (Further Expression)). flat_map further_tokens l ++ q) none)

whole_cuts : (e f : Expression) → CutsWhole e → (p q : List Token) → IsExpression whole e → IsExpression whole f → Stops (Is (word AND)) p → Stops (Is (word AND)) q → expression_tokens e ++ p ≡ expression_tokens f ++ q → (e ≡ f) × (p ≡ q)
whole_cuts e f cuts p q h k ends ends' same =
    let s = factors f k in
    let split : expression_tokens f ++ q ≡ expression_tokens s.first ++ (flat_map further_tokens s.others ++ q) = ap (λ (ts : List Token). ts ++ q) s.tokens ∙ append_assoc (expression_tokens s.first) (flat_map further_tokens s.others) q in
    front_whole e f p q ends s (cuts s.first s.others p q h s.is_factor s.are_factors ends' (same ∙ split))

-- ---- one factor more

-- the first of the factors that are left is the one that the expression goes on with
more_front : (e f : Expression) (w : Token) (first : Expression) (others : List (Further Expression)) (p q : List Token) → CutsFactor f → Is (word AND) w → IsExpression factor f → AllByRecursion IsFurtherFactor others
    → Stops (Is (word AND)) q → Front e (w ∷ (expression_tokens f ++ p)) first others q → Front (conjoined e w f) p first others q
more_front e f w first others p q cuts is_and h k ends front = by front.left front.parts front.rest where
  by : (left : List (Further Expression)) → others ≡ front.taken ++ left → w ∷ (expression_tokens f ++ p) ≡ flat_map further_tokens left ++ q → Front (conjoined e w f) p first others q
  by [] parts rest = absurd (subst (Stops (Is (word AND))) (sym rest) ends is_and)
  by (x ∷ left) parts rest =
      let ts = flat_map further_tokens left ++ q in
      let is_further : IsFurtherFactor x = (all_behind IsFurtherFactor front.taken (x ∷ left) (subst (AllByRecursion IsFurtherFactor) parts k)).0 in
      let split : w ∷ (expression_tokens f ++ p) ≡ x.sign ∷ (expression_tokens x.item ++ ts) = rest ∙ append_assoc (further_tokens x) (flat_map further_tokens left) q in
      let sign : w ≡ x.sign = first_same w x.sign (expression_tokens f ++ p) (expression_tokens x.item ++ ts) split in
      let cut = cuts x.item p ts h is_further.1 (rest_same w x.sign (expression_tokens f ++ p) (expression_tokens x.item ++ ts) split) in
      record {
        taken = front.taken ++ x ∷ [];
        left = left;
        parts = parts ∙ sym (append_assoc front.taken (x ∷ []) left);
        all = conjoined_same e (joined first front.taken) f x.item w x.sign front.all cut.0 sign ∙ sym (joined_last first front.taken x);
        rest = cut.1;
      }

-- ---- expressions

from_primary : (e : Expression) → IsExpression primary e → IsExpression factor e
from_primary (name t) h = h
from_primary (brackets o e c) h = h
from_primary (inverted w e) h = absurd h
from_primary (conjoined e w f) h = absurd h

name_cuts : (t : Token) → CutsFactor (name t)
name_cuts t (name u) p q h k same = (ap (λ (x : Token). name x) (first_same t u p q same), rest_same t u p q same)
name_cuts t (brackets o f c) p q h k same = absurd (name_or_mark OPENING o (subst IsName (first_same t o p _ same) h) k.0)
name_cuts t (inverted w f) p q h k same = absurd (name_or_word NOT w (subst IsName (first_same t w p _ same) h) k.0)
name_cuts t (conjoined f w g) p q h k same = absurd k

brackets_cuts : (o : Token) (e : Expression) (c : Token) → CutsWhole e → CutsFactor (brackets o e c)
brackets_cuts o e c cuts (name t) p q h k same = absurd (name_or_mark OPENING o (subst IsName (sym (first_same o t _ q same)) k) h.0)
brackets_cuts o e c cuts (brackets o' f c') p q h k same =
    let split = sym (append_assoc (expression_tokens e) (c ∷ []) p) ∙ rest_same o o' _ _ same ∙ append_assoc (expression_tokens f) (c' ∷ []) q in
    let inner = whole_cuts e f cuts (c ∷ p) (c' ∷ q) h.1 k.1 (λ is_and. word_or_mark AND CLOSING c is_and h.2) (λ is_and. word_or_mark AND CLOSING c' is_and k.2) split in
    (brackets_same o o' e f c c' (first_same o o' _ _ same) inner.0 (first_same c c' p q inner.1), rest_same c c' p q inner.1)
brackets_cuts o e c cuts (inverted w f) p q h k same = absurd (word_or_mark NOT OPENING o (subst (Is (word NOT)) (sym (first_same o w _ _ same)) k.0) h.0)
brackets_cuts o e c cuts (conjoined f w g) p q h k same = absurd k

inverted_cuts : (w : Token) (e : Expression) → CutsFactor e → CutsFactor (inverted w e)
inverted_cuts w e cuts (name t) p q h k same = absurd (name_or_word NOT w (subst IsName (sym (first_same w t _ q same)) k) h.0)
inverted_cuts w e cuts (brackets o f c) p q h k same = absurd (word_or_mark NOT OPENING o (subst (Is (word NOT)) (first_same w o _ _ same) h.0) k.0)
inverted_cuts w e cuts (inverted w' f) p q h k same =
    let inner = cuts f p q (from_primary e h.1) (from_primary f k.1) (rest_same w w' _ _ same) in
    (inverted_same w w' e f (first_same w w' _ _ same) inner.0, inner.1)
inverted_cuts w e cuts (conjoined f w' g) p q h k same = absurd k

-- both by one induction, since brackets need the second and `not` the first
expression_both : (e : Expression) → CutsFactor e × CutsWhole e
expression_both (name t) = (name_cuts t, whole_front (name t) (λ h. h) (name_cuts t))
expression_both (brackets o e c) =
    let cuts = brackets_cuts o e c (expression_both e).1 in
    (cuts, whole_front (brackets o e c) (λ h. h) cuts)
expression_both (inverted w e) =
    let cuts = inverted_cuts w e (expression_both e).0 in
    (cuts, whole_front (inverted w e) (λ h. h) cuts)
expression_both (conjoined e w f) =
    let left = (expression_both e).1 in
    let right = (expression_both f).0 in (
      λ g p q h k same. absurd h,
      λ first others p q h k ks ends same.
          more_front e f w first others p q right h.1 h.2 ks ends (left first others (w ∷ (expression_tokens f ++ p)) q h.0 k ks ends (sym (append_assoc (expression_tokens e) (w ∷ expression_tokens f) p) ∙ same)),
    )

-- an expression that no `and` follows has one end
pub expression_cuts : CutsBefore (Is (word AND)) expression_tokens (IsExpression whole)
expression_cuts e f p q h k ends ends' same = whole_cuts e f (expression_both e).1 p q h k ends ends' same
