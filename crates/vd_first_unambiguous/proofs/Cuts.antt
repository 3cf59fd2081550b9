-- How a token list that begins with something is cut behind it, in one way only.
use Rattle.std.proofs.Common.{◌≡◌, List, [], ◌∷◌, ◌++◌, refl, sym, ap, ◌∙◌, subst, append_assoc, Some, None}
use Rattle.std.specs.List.{flat_map, AllByRecursion}
use Rattle.vd_trees.specs.declared.revision.Revision.{Revision}
use Rattle.vd_trees.specs.declared.revision.Revision.TheVariants.{V2019, V1993}
use Rattle.vd_first_lex.specs.declared.tokens.Token.{Token}
use Rattle.vd_first_grammar.specs.Symbols.{Symbol, Is, Spell}
use Rattle.vd_first_grammar.specs.Derivations.{optional_tokens, IsOptional}

-- ---- lists with something in front

pub first_same : {X : Type 0} (x y : X) (xs ys : List X) → x ∷ xs ≡ y ∷ ys → x ≡ y
first_same x y xs ys same = cc

pub rest_same : {X : Type 0} (x y : X) (xs ys : List X) → x ∷ xs ≡ y ∷ ys → xs ≡ ys
rest_same x y xs ys same = cc

-- what holds of the elements of a list holds of those of its back
pub all_behind : {X : Type 0} (P : X → Type 0) (xs ys : List X) → AllByRecursion P (xs ++ ys) → AllByRecursion P ys
all_behind P [] ys h = h
all_behind P (x ∷ xs) ys h = all_behind P xs ys h.1

-- the next token is one of P
abbrev pub Begins : (Token → Type 0) → List Token → Type 0
Begins P [] = ⊥
Begins P (t ∷ ts) = P t

-- the next token isn't one of P
abbrev pub Stops : (Token → Type 0) → List Token → Type 0
Stops P = Begins (λ t. P t → ⊥)

pub begins_more : (P : Token → Type 0) (us ts : List Token) → Begins P us → Begins P (us ++ ts)
begins_more P [] ts h = absurd h
begins_more P (u ∷ us) ts h = h

pub begins_other : (P Q : Token → Type 0) → ((t : Token) → P t → Q t) → (ts : List Token) → Begins P ts → Begins Q ts
begins_other P Q other [] h = absurd h
begins_other P Q other (t ∷ ts) h = other t h

pub spell_begins : (s : Symbol) (ss : List Symbol) (us : List Token) → Spell (s ∷ ss) us → Begins (Is s) us
spell_begins s ss [] h = absurd h
spell_begins s ss (u ∷ us) h = h.0

pub spell_stops : (P : Token → Type 0) (s : Symbol) (ss : List Symbol) → ((t : Token) → Is s t → P t → ⊥) → (us ts : List Token) → Spell (s ∷ ss) us → Stops P (us ++ ts)
spell_stops P s ss apart us ts h = begins_more _ us ts (begins_other (Is s) _ apart us (spell_begins s ss us h))

-- ---- what has one end

-- two of them with rests behind are the same, and so are the rests, if neither rest begins with a token of P
abbrev pub CutsBefore : {X : Type 0} → (Token → Type 0) → (X → List Token) → (X → Type 0) → Type 0
CutsBefore {X = X} P tokens Good =
    (x y : X) (p q : List Token) → Good x → Good y → Stops P p → Stops P q → tokens x ++ p ≡ tokens y ++ q → (x ≡ y) × (p ≡ q)

-- the same whatever the rests are
abbrev pub Cuts : {X : Type 0} → (X → List Token) → (X → Type 0) → Type 0
Cuts {X = X} tokens Good = (x y : X) (p q : List Token) → Good x → Good y → tokens x ++ p ≡ tokens y ++ q → (x ≡ y) × (p ≡ q)

-- ---- symbols

pub spell_cuts : (ss : List Symbol) → Cuts (λ us. us) (Spell ss)
spell_cuts [] [] [] p q h k same = (refl, same)
spell_cuts [] [] (v ∷ vs) p q h k same = absurd k
spell_cuts [] (u ∷ us) vs p q h k same = absurd h
spell_cuts (s ∷ ss) [] vs p q h k same = absurd h
spell_cuts (s ∷ ss) (u ∷ us) [] p q h k same = absurd k
spell_cuts (s ∷ ss) (u ∷ us) (v ∷ vs) p q h k same =
    let first : u ≡ v = first_same u v (us ++ p) (vs ++ q) same in
    let others = spell_cuts ss us vs p q h.1 k.1 (rest_same u v (us ++ p) (vs ++ q) same) in
    let equal : us ≡ vs = others.0 in
    (cc, others.1)

-- ---- what may stand or not

optional_is : (r : Revision) (P : Token → Type 0) (t : Token) → IsOptional r P (Some t) → P t
optional_is V2019 P t h = absurd h
optional_is V1993 P t h = h

pub optional_cuts : (r : Revision) (P : Token → Type 0) → CutsBefore P optional_tokens (IsOptional r P)
optional_cuts r P None None p q h k ends ends' same = (refl, same)
optional_cuts r P None (Some u) p q h k ends ends' same = absurd (subst (Stops P) same ends (optional_is r P u k))
optional_cuts r P (Some t) None p q h k ends ends' same = absurd (subst (Stops P) (sym same) ends' (optional_is r P t h))
optional_cuts r P (Some t) (Some u) p q h k ends ends' same =
    (ap (λ (x : Token). Some x) (first_same t u p q same), rest_same t u p q same)

-- ---- lists

module _ {X : Type 0} (P : Token → Type 0) (tokens : X → List Token) (Good : X → Type 0)
    (cuts : Cuts tokens Good) (begins : (x : X) (ts : List Token) → Good x → Begins P (tokens x ++ ts)) where
  -- a list that ends where another item begins
  ends_early : (p : List Token) → Stops P p → (x : X) (ts : List Token) → Good x → p ≡ tokens x ++ ts → ⊥
  ends_early p ends x ts good same = both (tokens x ++ ts) (begins x ts good) (subst (Stops P) same ends) where
    both : (us : List Token) → Begins P us → Stops P us → ⊥
    both [] h k = h
    both (u ∷ us) h k = k h

  pub list_cuts : CutsBefore P (flat_map tokens) (AllByRecursion Good)
  list_cuts [] [] p q h k ends ends' same = (refl, same)
  list_cuts [] (y ∷ ys) p q h k ends ends' same = absurd (ends_early p ends y (flat_map tokens ys ++ q) k.0 (same ∙ append_assoc (tokens y) (flat_map tokens ys) q))
  list_cuts (x ∷ xs) [] p q h k ends ends' same = absurd (ends_early q ends' x (flat_map tokens xs ++ p) h.0 (sym same ∙ append_assoc (tokens x) (flat_map tokens xs) p))
  list_cuts (x ∷ xs) (y ∷ ys) p q h k ends ends' same =
      let one = cuts x y (flat_map tokens xs ++ p) (flat_map tokens ys ++ q) h.0 k.0 (sym (append_assoc (tokens x) (flat_map tokens xs) p) ∙ same ∙ append_assoc (tokens y) (flat_map tokens ys) q) in
      let others = list_cuts xs ys p q h.1 k.1 ends ends' one.1 in
      let first : x ≡ y = one.0 in
      let equal : xs ≡ ys = others.0 in
      (cc, others.1)
