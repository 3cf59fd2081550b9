-- The shape of a derivation without places.
use Rattle.std.proofs.Common.{◌≡◌, ℕ, zero, suc, ◌+◌, Bool, true, false, ◌&&◌, ◌||◌, not, List, [], ◌∷◌, ◌++◌, length, map, Option, Some, None, refl, sym, ap, ◌∙◌, append_assoc, length-append, arith}
use Rattle.vd_tokens.specs.Lexemes.{Lexeme}
use Rattle.vd_gram.specs.Derivations.{Trees, nothing as no_tree, leaf, node, yield, unplaced}
use Rattle.vd_forest.specs.Forest.{Forest, nothing, more, joined, reversed, erased, no_place}
use Rattle.vd_forest.proofs.ForestLemmas.{erased_joined, erased_turned, erased_with_next}
use Rattle.vd_forms.specs.declared.form.Form.{Form}
use Rattle.vd_forms.specs.declared.form.Form.TheVariants as form
use Rattle.vd_forms.specs.Forms.{same_form, is_among}
use Rattle.vd_forms.specs.Validity.{forms_of, is_one_expression, is_bracketed, holders_of_actuals, keeps_brackets}
use Rattle.vd_shapes.specs.declared.actions.Action.{Action}
use Rattle.vd_shapes.specs.declared.actions.Action.TheVariants.{Splice, Make, Wrap, Group}
use Rattle.vd_shapes.specs.Shapes.{text_at, place_at, leaf_form, without_brackets, unbracketed, settled, action_of, with_leaf, with_node, acted, start_of, grown, shape}
use Rattle.vd_shapes.specs.Reading.{symbol_of, symbols_in}
use Rattle.vd_templates.specs.Templates.{Item, token, end_line, inward, outward, tokens_in, lexeme}
use Rattle.vd_derivations.specs.Drafts.{Draft, none, word, rule, plain, lexemes, with_text, grows}
use Rattle.vd_derivations.specs.Laws.{without_place}

-- ---- symbols

pub yield_plain : (d : Draft) → yield (plain d) ≡ map (λ l. symbol_of l.kind) (lexemes d)
yield_plain none = refl
yield_plain (word k text n) = ap (λ ss. symbol_of k ∷ ss) (yield_plain n)
yield_plain (rule q a n) = ap (λ ss. ss ++ yield (plain n)) (yield_plain a) ∙ ap (λ ss. map (λ l. symbol_of l.kind) (lexemes a) ++ ss) (yield_plain n) ∙ sym (mapped (lexemes a) (lexemes n))
  where
    mapped : (xs ys : List Lexeme) → map (λ l. symbol_of l.kind) (xs ++ ys) ≡ map (λ l. symbol_of l.kind) xs ++ map (λ l. symbol_of l.kind) ys
    mapped [] ys = refl
    mapped (x ∷ xs) ys = ap (λ ss. symbol_of x.kind ∷ ss) (mapped xs ys)

pub symbols_with_end : (ls : List Lexeme) (e : Lexeme) → symbols_in (ls ++ e ∷ []) ≡ map (λ l. symbol_of l.kind) ls
symbols_with_end [] e = refl
symbols_with_end (x ∷ []) e = refl
symbols_with_end (x ∷ y ∷ ls) e = ap (λ ss. symbol_of x.kind ∷ ss) (symbols_with_end (y ∷ ls) e)

pub symbols_without_place : (ls : List Lexeme) → symbols_in (map without_place ls) ≡ symbols_in ls
symbols_without_place [] = refl
symbols_without_place (x ∷ []) = refl
symbols_without_place (x ∷ y ∷ ls) = ap (λ ss. symbol_of x.kind ∷ ss) (symbols_without_place (y ∷ ls))

length_yield : (d : Draft) → length (yield (plain d)) ≡ length (lexemes d)
length_yield d = ap length (yield_plain d) ∙ mapped (lexemes d)
  where
    mapped : (xs : List Lexeme) → length (map (λ l. symbol_of l.kind) xs) ≡ length xs
    mapped [] = refl
    mapped (x ∷ xs) = omega (arith, mapped xs)

-- ---- tokens without places

abbrev pub HaveNoPlace : List Lexeme → Type 0
HaveNoPlace [] = Unit {0}
HaveNoPlace (l ∷ ls) = (l.place ≡ no_place) × HaveNoPlace ls

pub no_place_append : (xs ys : List Lexeme) → HaveNoPlace xs → HaveNoPlace ys → HaveNoPlace (xs ++ ys)
no_place_append [] ys h k = k
no_place_append (x ∷ xs) ys h k = (h.0, no_place_append xs ys h.1 k)

pub no_place_tokens : (items : List Item) → HaveNoPlace (tokens_in items)
no_place_tokens [] = tt
no_place_tokens (token k text ∷ items) = (refl, no_place_tokens items)
no_place_tokens (end_line ∷ items) = no_place_tokens items
no_place_tokens (inward ∷ items) = no_place_tokens items
no_place_tokens (outward ∷ items) = no_place_tokens items

place_none : (ls : List Lexeme) (i : ℕ) → HaveNoPlace ls → place_at ls i ≡ no_place
place_none [] i h = refl
place_none (l ∷ ls) zero h = h.0
place_none (l ∷ ls) (suc i) h = place_none ls i h.1

text_there : (before : List Lexeme) (l : Lexeme) (after : List Lexeme) → text_at (before ++ l ∷ after) (length before) ≡ l.text
text_there [] l after = refl
text_there (x ∷ before) l after = text_there before l after

-- ---- the shape of a draft

module _ (actions : List Action) (tokens : List Lexeme) (none_placed : HaveNoPlace tokens) where
  same_leaf : (o : Option Form) (i : ℕ) (text : List ℕ) (so_far : Forest Form) → text_at tokens i ≡ text → with_leaf actions tokens o i so_far ≡ with_text o text so_far
  same_leaf None i text so_far e = refl
  same_leaf (Some f) i text so_far e = λ j. more f (e j) (place_none tokens i none_placed j) nothing so_far

  same_node : (f : Form) (i : ℕ) (parts so_far : Forest Form) → with_node actions tokens f i parts so_far ≡ with_node actions [] f 0 parts so_far
  same_node f i parts so_far = ap (λ p. more f [] p (settled (keeps_brackets f (reversed parts)) (reversed parts)) so_far) (place_none tokens i none_placed)

  same_acted : (a : Action) (i : ℕ) (inner inner' : Forest Form → Forest Form) (so_far : Forest Form) → ((f : Forest Form) → inner f ≡ inner' f) → acted actions tokens a i inner so_far ≡ acted actions [] a 0 inner' so_far
  same_acted Splice i inner inner' so_far h = h so_far
  same_acted (Make f) i inner inner' so_far h = ap (λ x. with_node actions tokens f i x so_far) (h nothing) ∙ same_node f i (inner' nothing) so_far
  same_acted (Wrap f) i inner inner' so_far h = ap (λ x. with_node actions tokens f i x nothing) (h so_far) ∙ same_node f i (inner' so_far) nothing
  same_acted Group i inner inner' so_far h = ap (λ x. joined x so_far) (h nothing)

  pub draft_grown : (d : Draft) (before after : List Lexeme) (start i : ℕ) (so_far : Forest Form) → tokens ≡ before ++ (lexemes d ++ after) → i ≡ length before
      → grown actions tokens start i (plain d) so_far ≡ grows actions d so_far
  draft_grown none before after start i so_far e l = refl
  draft_grown (word k text n) before after start i so_far e l =
      let there : text_at tokens i ≡ text = ap (λ j. text_at tokens j) l ∙ ap (λ ts. text_at ts (length before)) e ∙ text_there before (lexeme k text) (lexemes n ++ after) in
      let step : tokens ≡ (before ++ lexeme k text ∷ []) ++ (lexemes n ++ after) = e ∙ sym (append_assoc before (lexeme k text ∷ []) (lexemes n ++ after)) in
      let next : i + 1 ≡ length (before ++ lexeme k text ∷ []) = omega (arith, l, length-append before (lexeme k text ∷ [])) in
      draft_grown n (before ++ lexeme k text ∷ []) after start (i + 1) (with_leaf actions tokens (leaf_form (symbol_of k)) i so_far) step next
      ∙ ap (grows actions n) (same_leaf (leaf_form (symbol_of k)) i text so_far there)
  draft_grown (rule q a n) before after start i so_far e l =
      let inside : tokens ≡ before ++ (lexemes a ++ (lexemes n ++ after)) = e ∙ ap (λ ts. before ++ ts) (append_assoc (lexemes a) (lexemes n) after) in
      let step : tokens ≡ (before ++ lexemes a) ++ (lexemes n ++ after) = inside ∙ sym (append_assoc before (lexemes a) (lexemes n ++ after)) in
      let next : i + length (yield (plain a)) ≡ length (before ++ lexemes a) = omega (arith, l, length_yield a, length-append before (lexemes a)) in
      let act = action_of actions tokens q in
      draft_grown n (before ++ lexemes a) after start (i + length (yield (plain a)))
      (acted actions tokens act (start_of actions tokens act start i) (grown actions tokens (start_of actions tokens act start i) i (plain a)) so_far) step next
      ∙ ap (grows actions n) (same_acted act (start_of actions tokens act start i) (grown actions tokens (start_of actions tokens act start i) i (plain a)) (grows actions a) so_far
      (λ f. draft_grown a before (lexemes n ++ after) (start_of actions tokens act start i) i f inside l))

-- ---- the places of leaves don't count

length_unplaced : (g : Trees) → length (yield (unplaced g)) ≡ length (yield g)
length_unplaced g = ap length (same g)
  where
    same : (g : Trees) → yield (unplaced g) ≡ yield g
    same no_tree = refl
    same (leaf s p n) = ap (λ ss. s ∷ ss) (same n)
    same (node q a n) = λ i. same a i ++ same n i

module _ (actions : List Action) (tokens : List Lexeme) where
  acted_like : (a : Action) (i : ℕ) (inner inner' : Forest Form → Forest Form) (so_far : Forest Form) → ((f : Forest Form) → inner f ≡ inner' f) → acted actions tokens a i inner so_far ≡ acted actions tokens a i inner' so_far
  acted_like Splice i inner inner' so_far h = h so_far
  acted_like (Make f) i inner inner' so_far h = ap (λ x. with_node actions tokens f i x so_far) (h nothing)
  acted_like (Wrap f) i inner inner' so_far h = ap (λ x. with_node actions tokens f i x nothing) (h so_far)
  acted_like Group i inner inner' so_far h = ap (λ x. joined x so_far) (h nothing)

  unplaced_grown : (g : Trees) (start i : ℕ) (so_far : Forest Form) → grown actions tokens start i (unplaced g) so_far ≡ grown actions tokens start i g so_far
  unplaced_grown no_tree start i so_far = refl
  unplaced_grown (leaf s p n) start i so_far = unplaced_grown n start (i + 1) (with_leaf actions tokens (leaf_form s) i so_far)
  unplaced_grown (node q a n) start i so_far =
      let act = action_of actions tokens q in
      let at = start_of actions tokens act start i in
      unplaced_grown n start (i + length (yield (unplaced a))) (acted actions tokens act at (grown actions tokens at i (unplaced a)) so_far)
      ∙ ap (λ l. grown actions tokens start (i + l) n (acted actions tokens act at (grown actions tokens at i (unplaced a)) so_far)) (length_unplaced a)
      ∙ ap (grown actions tokens start (i + length (yield a)) n) (acted_like act at (grown actions tokens at i (unplaced a)) (grown actions tokens at i a) so_far (λ f. unplaced_grown a at i f))

  pub unplaced_shape : (g : Trees) → shape actions tokens (unplaced g) ≡ shape actions tokens g
  unplaced_shape g = ap reversed (unplaced_grown g 0 0 nothing)

-- ---- places of tokens are those of nodes alone

pub forms_erased : (f : Forest Form) → forms_of (erased f) ≡ forms_of f
forms_erased nothing = refl
forms_erased (more f t p a b) = ap (λ fs. f ∷ fs) (forms_erased b)

pub one_erased : (f : Forest Form) → is_one_expression (erased f) ≡ is_one_expression f
one_erased nothing = refl
one_erased (more f t p a nothing) = refl
one_erased (more f t p a (more g u q c d)) = refl

pub bracketed_erased : (f : Form) (a : Forest Form) → is_bracketed f (erased a) ≡ is_bracketed f a
bracketed_erased f a = ap (λ b. same_form f form.Aggregate && b) (one_erased a)

pub keeps_erased : (f : Form) (a : Forest Form) → keeps_brackets f (erased a) ≡ keeps_brackets f a
keeps_erased f a = ap (λ b. is_among holders_of_actuals f || (is_among (form.Aggregate ∷ form.Qualification ∷ []) f && not b)) (one_erased a)

unbracketed_erased : (a : Forest Form) → erased (unbracketed a) ≡ unbracketed (erased a)
unbracketed_erased nothing = refl
unbracketed_erased (more f t p a b) = without (is_bracketed f a) ∙ ap (λ x. without_brackets x f t no_place (erased a) (erased (unbracketed b))) (sym (bracketed_erased f a)) ∙ ap (without_brackets (is_bracketed f (erased a)) f t no_place (erased a)) (unbracketed_erased b)
  where
    without : (x : Bool) → erased (without_brackets x f t p a (unbracketed b)) ≡ without_brackets x f t no_place (erased a) (erased (unbracketed b))
    without true = erased_with_next a (unbracketed b)
    without false = refl

settled_erased : (keep : Bool) (a : Forest Form) → erased (settled keep a) ≡ settled keep (erased a)
settled_erased true a = refl
settled_erased false a = unbracketed_erased a

text_without : (ls : List Lexeme) (i : ℕ) → text_at (map without_place ls) i ≡ text_at ls i
text_without [] i = refl
text_without (l ∷ ls) zero = refl
text_without (l ∷ ls) (suc i) = text_without ls i

pub no_place_without : (ls : List Lexeme) → HaveNoPlace (map without_place ls)
no_place_without [] = tt
no_place_without (l ∷ ls) = (refl, no_place_without ls)

module _ (actions : List Action) (tokens : List Lexeme) where
  abbrev bare : List Lexeme
  bare = map without_place tokens

  erased_leaf : (o : Option Form) (i : ℕ) (so_far : Forest Form) → erased (with_leaf actions tokens o i so_far) ≡ with_leaf actions bare o i (erased so_far)
  erased_leaf None i so_far = refl
  erased_leaf (Some f) i so_far = λ j. more f (sym (text_without tokens i) j) (sym (place_none bare i (no_place_without tokens)) j) nothing (erased so_far)

  erased_reversed : (f : Forest Form) → erased (reversed f) ≡ reversed (erased f)
  erased_reversed f = erased_turned f nothing

  erased_node : (f : Form) (i : ℕ) (parts so_far : Forest Form) → erased (with_node actions tokens f i parts so_far) ≡ with_node actions bare f i (erased parts) (erased so_far)
  erased_node f i parts so_far =
      ap (λ x. more f [] no_place x (erased so_far)) (settled_erased (keeps_brackets f (reversed parts)) (reversed parts) ∙ ap (λ k. settled k (erased (reversed parts))) (sym (keeps_erased f (reversed parts)))
      ∙ ap (λ x. settled (keeps_brackets f x) x) (erased_reversed parts))
      ∙ ap (λ p. more f [] p (settled (keeps_brackets f (reversed (erased parts))) (reversed (erased parts))) (erased so_far)) (sym (place_none bare i (no_place_without tokens)))

  erased_acted : (a : Action) (i : ℕ) (inner inner' : Forest Form → Forest Form) (so_far : Forest Form) → ((f : Forest Form) → erased (inner f) ≡ inner' (erased f)) → erased (acted actions tokens a i inner so_far) ≡ acted actions bare a i inner' (erased so_far)
  erased_acted Splice i inner inner' so_far h = h so_far
  erased_acted (Make f) i inner inner' so_far h = erased_node f i (inner nothing) so_far ∙ ap (λ x. with_node actions bare f i x (erased so_far)) (h nothing)
  erased_acted (Wrap f) i inner inner' so_far h = erased_node f i (inner so_far) nothing ∙ ap (λ x. with_node actions bare f i x nothing) (h so_far)
  erased_acted Group i inner inner' so_far h = erased_joined (inner nothing) so_far ∙ ap (λ x. joined x (erased so_far)) (h nothing)

  erased_grown : (g : Trees) (start i : ℕ) (so_far : Forest Form) → erased (grown actions tokens start i g so_far) ≡ grown actions bare start i g (erased so_far)
  erased_grown no_tree start i so_far = refl
  erased_grown (leaf s p n) start i so_far = erased_grown n start (i + 1) (with_leaf actions tokens (leaf_form s) i so_far) ∙ ap (grown actions bare start (i + 1) n) (erased_leaf (leaf_form s) i so_far)
  erased_grown (node q a n) start i so_far =
      let act = action_of actions tokens q in
      let at = start_of actions tokens act start i in
      erased_grown n start (i + length (yield a)) (acted actions tokens act at (grown actions tokens at i a) so_far)
      ∙ ap (grown actions bare start (i + length (yield a)) n) (erased_acted act at (grown actions tokens at i a) (grown actions bare at i a) so_far (λ f. erased_grown a at i f))

  pub erased_shape : (g : Trees) → erased (shape actions tokens g) ≡ shape actions (map without_place tokens) g
  erased_shape g = erased_reversed (grown actions tokens 0 0 g nothing) ∙ ap reversed (erased_grown g 0 0 nothing)
