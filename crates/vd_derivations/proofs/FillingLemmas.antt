-- Templates whose holes are filled.
use Rattle.std.proofs.Common.{◌≡◌, ℕ, zero, suc, Bool, true, false, List, [], ◌∷◌, ◌++◌, length, drop, map, Option, Some, None, is_none, nat_lt, slice_index_or, refl, sym, ap, ◌∙◌, subst, append_assoc, append-nil, arith}
use Rattle.std.specs.List.{list_all}
use Rattle.std.proofs.lemmas.Bool.{and_parts}
use Rattle.vd_gram.specs.declared.tables.Table.{Table}
use Rattle.vd_gram.specs.Claims.{is_terminal}
use Rattle.vd_gram.specs.Derivations.{Derive}
use Rattle.vd_forest.specs.Forest.{Forest, nothing, more, joined, with_next, form_of, no_place}
use Rattle.vd_forest.proofs.ForestLemmas.{joined_joined, joined_nothing}
use Rattle.vd_forms.specs.declared.form.Form.{Form}
use Rattle.vd_shapes.specs.declared.actions.Action.{Action}
use Rattle.vd_shapes.specs.declared.actions.Action.TheVariants.{Splice, Make, Wrap, Group}
use Rattle.vd_shapes.specs.Shapes.{leaf_form, action_of, acted, with_node}
use Rattle.vd_shapes.specs.Reading.{symbol_of}
use Rattle.vd_shapes.specs.Rows.{plain as plain_row}
use Rattle.vd_templates.specs.declared.states.TheConstants.{AS_IT_IS}
use Rattle.vd_templates.specs.Templates.{Written, unwritten, tree_items, tokens_in, kind_at, lexeme}
use Rattle.vd_derivations.specs.Drafts.{Draft, none, word, rule, plain, lexemes, followed, with_text, grows}
use Rattle.vd_derivations.specs.Rows.{Template, done, rest, step, token, own, hole, each, Standpoint, point, stands_as, put, finished}
use Rattle.vd_derivations.specs.Checks.{Named, nil, base, ref, made, leaf, from, after, both, joined_names, acted_names, leaf_name, hole_name, Facts, no_facts, fact, flag, is_splice, tail_symbols, is_done, chain_symbols, chain_wanted, left_of, member_at, symbols_at, production_at, is_silent, left_by, symbols, has, wants, bits, hole_bits}
use Rattle.vd_derivations.proofs.DraftLemmas.{followed_derived, followed_lexemes, followed_grows, rule_derived}
use Rattle.vd_derivations.proofs.WritingLemmas.{words, each_tokens, bits_tokens, bits_append}

-- ---- facts

abbrev pub fact_list : Facts → List ℕ
fact_list no_facts = []
fact_list (fact list first next) = list

abbrev pub fact_first : Facts → Facts
fact_first no_facts = no_facts
fact_first (fact list first next) = first

abbrev pub fact_next : Facts → Facts
fact_next no_facts = no_facts
fact_next (fact list first next) = next

pub flag_is : (b : Bool) → flag b ≡ 1 → b ≡ true
flag_is true e = refl
flag_is false e = cc

pub first_is : (x y : ℕ) (xs ys : List ℕ) → x ∷ xs ≡ y ∷ ys → x ≡ y
first_is x y xs ys e = cc

pub rest_is : (x y : ℕ) (xs ys : List ℕ) → x ∷ xs ≡ y ∷ ys → xs ≡ ys
rest_is x y xs ys e = cc

splice_is : (a : Action) → is_splice a ≡ true → a ≡ Splice
splice_is Splice e = refl
splice_is (Make f) e = cc
splice_is (Wrap f) e = cc
splice_is Group e = cc

none_is : {X : Type 0} → (o : Option X) → is_none o ≡ true → o ≡ None
none_is None e = refl
none_is (Some x) e = cc

-- ---- trees that stand side by side

abbrev pub pushed : List (Forest Form) → Forest Form → Forest Form
pushed [] f = f
pushed (x ∷ xs) f = pushed xs (with_next x f)

with_next_joins : (x n m : Forest Form) → joined (with_next x n) m ≡ with_next x (joined n m)
with_next_joins nothing n m = refl
with_next_joins (more f t p a b) n m = refl

pushed_joins : (xs : List (Forest Form)) (n m : Forest Form) → joined (pushed xs n) m ≡ pushed xs (joined n m)
pushed_joins [] n m = refl
pushed_joins (x ∷ xs) n m = pushed_joins xs (with_next x n) m ∙ ap (pushed xs) (with_next_joins x n m)

abbrev pub tree_at : List (Forest Form) → ℕ → Forest Form
tree_at xs i = slice_index_or xs i nothing

module _ (actions : List Action) (text : List ℕ) (k : Draft) (ys : List (Forest Form)) (start : Forest Form) where
  -- what names stand for
  abbrev pub meant : Named → Forest Form
  meant nil = nothing
  meant base = start
  meant (ref r n) = with_next (tree_at ys r) (meant n)
  meant (made f a n) = with_node actions [] f 0 (meant a) (meant n)
  meant (leaf f n) = more f text no_place nothing (meant n)
  meant (from j n) = pushed (drop (suc j) ys) (meant n)
  meant (after a n) = joined (grows actions k (meant a)) (meant n)
  meant (both a n) = joined (meant a) (meant n)

  meant_joined : (a b : Named) → meant (joined_names a b) ≡ joined (meant a) (meant b)
  meant_joined nil b = refl
  meant_joined base b = refl
  meant_joined (ref r n) b = ap (with_next (tree_at ys r)) (meant_joined n b) ∙ sym (with_next_joins (tree_at ys r) (meant n) (meant b))
  meant_joined (made f a n) b = ap (with_node actions [] f 0 (meant a)) (meant_joined n b)
  meant_joined (leaf f n) b = ap (more f text no_place nothing) (meant_joined n b)
  meant_joined (from j n) b = ap (pushed (drop (suc j) ys)) (meant_joined n b) ∙ sym (pushed_joins (drop (suc j) ys) (meant n) (meant b))
  meant_joined (after a n) b =
      ap (joined (grows actions k (meant a))) (meant_joined n b) ∙ sym (joined_joined (grows actions k (meant a)) (meant n) (meant b))
  meant_joined (both a n) b = ap (joined (meant a)) (meant_joined n b) ∙ sym (joined_joined (meant a) (meant n) (meant b))

  meant_acted : (a : Action) (inner : Forest Form → Forest Form) (names : Named → Named) (x : Named) → ((y : Named) → inner (meant y) ≡ meant (names y))
      → acted actions [] a 0 inner (meant x) ≡ meant (acted_names a names x)
  meant_acted Splice inner names x h = h x
  meant_acted (Make f) inner names x h = ap (λ y. with_node actions [] f 0 y (meant x)) (h nil)
  meant_acted (Wrap f) inner names x h = ap (λ y. with_node actions [] f 0 y nothing) (h x)
  meant_acted Group inner names x h = ap (λ y. joined y (meant x)) (h nil) ∙ sym (meant_joined (names nil) x)

-- ---- trees that can stand

module _ (t : Table) (actions : List Action) (standpoints : List Standpoint) where
  -- what follows in a chain
  abbrev pub Follows : Option ℕ → Draft → Type 0
  Follows None k = k ≡ none
  Follows (Some c) k = Derive t (c ∷ []) (plain k)

  -- a draft of the tree at a standpoint
  pub record IsDrafted (s : ℕ) (w : Written) (x : Forest Form) (k : Draft) : Type 0 where
    pub draft : Draft
    pub derived : Derive t ((point standpoints s).head ∷ []) (plain draft)
    pub tokens : lexemes draft ≡ tokens_in (w (point standpoints s).state) ++ lexemes k
    pub grown : (so_far : Forest Form) → grows actions draft so_far ≡ finished actions (point standpoints s).tail k (put (point standpoints s).state x) so_far

  -- a tree can stand wherever its form may
  pub record CanStand (w : Written) (x : Forest Form) : Type 0 where
    pub at : (s : ℕ) (k : Draft) → stands_as standpoints s (form_of x) ≡ true → Follows (point standpoints s).tail k → IsDrafted s w x k

  -- wherever the level is below a number
  pub record CanStandBelow (n : ℕ) (w : Written) (x : Forest Form) : Type 0 where
    pub at : (s : ℕ) (k : Draft) → nat_lt (point standpoints s).level n ≡ true → stands_as standpoints s (form_of x) ≡ true → Follows (point standpoints s).tail k → IsDrafted s w x k

  abbrev pub CanAllStand : List Written → List (Forest Form) → Type 0
  CanAllStand [] [] = Unit {0}
  CanAllStand [] (x ∷ xs) = ⊥
  CanAllStand (w ∷ ws) [] = ⊥
  CanAllStand (w ∷ ws) (x ∷ xs) = CanStand w x × CanAllStand ws xs

  no_form : false ≡ true → ⊥
  no_form e = cc

  pub cannot : (n : ℕ) (w : Written) → CanStandBelow n w nothing
  cannot n w = record { at = λ s k l e. absurd (no_form e) }

  can_at : (ws : List Written) (xs : List (Forest Form)) (i : ℕ) → CanAllStand ws xs → CanStand (slice_index_or ws i unwritten) (tree_at xs i)
  can_at [] [] i h = record { at = λ s k e. absurd (no_form e) }
  can_at [] (x ∷ xs) i h = absurd h
  can_at (w ∷ ws) [] i h = absurd h
  can_at (w ∷ ws) (x ∷ xs) zero h = h.0
  can_at (w ∷ ws) (x ∷ xs) (suc i) h = can_at ws xs i h.1

  can_drop : (ws : List Written) (xs : List (Forest Form)) (i : ℕ) → CanAllStand ws xs → CanAllStand (drop i ws) (drop i xs)
  can_drop ws xs zero h = h
  can_drop [] [] (suc i) h = tt
  can_drop [] (x ∷ xs) (suc i) h = absurd h
  can_drop (w ∷ ws) [] (suc i) h = absurd h
  can_drop (w ∷ ws) (x ∷ xs) (suc i) h = can_drop ws xs i h.1

  -- trees that stand as they are
  abbrev pub AllStandBare : ℕ → List (Forest Form) → Type 0
  AllStandBare s [] = Unit {0}
  AllStandBare s (x ∷ xs) = (stands_as standpoints s (form_of x) ≡ true) × (put (point standpoints s).state x ≡ x) × AllStandBare s xs

  -- the trees as they are read, each at its place
  abbrev pub puts : List ℕ → List (Forest Form) → List (Forest Form)
  puts [] xs = xs
  puts (s ∷ ss) [] = []
  puts (s ∷ ss) (x ∷ xs) = put (point standpoints s).state x ∷ puts ss xs

  tree_at_none : (i : ℕ) → tree_at [] i ≡ nothing
  tree_at_none i = refl

  put_at : (ss : List ℕ) (xs : List (Forest Form)) (r s : ℕ) → s ∷ [] ≡ member_at ss r → tree_at (puts ss xs) r ≡ put (point standpoints s).state (tree_at xs r)
  put_at [] xs r s e = absurd (no e)
    where
      no : s ∷ [] ≡ [] → ⊥
      no e = cc
  put_at (p ∷ ss) [] r s e = refl
  put_at (p ∷ ss) (x ∷ xs) zero s e = ap (λ q. put (point standpoints q).state x) (sym (first_is s p [] [] e))
  put_at (p ∷ ss) (x ∷ xs) (suc r) s e = put_at ss xs r s e

  put_behind : (ss : List ℕ) (xs : List (Forest Form)) (j : ℕ) → j ≡ length ss → drop j (puts ss xs) ≡ drop j xs
  put_behind [] xs j e = refl
  put_behind (p ∷ ss) [] j e = refl
  put_behind (p ∷ ss) (x ∷ xs) zero e = absurd (zero_no e)
    where
      zero_no : zero ≡ length (p ∷ ss) → ⊥
      zero_no e = omega arith
  put_behind (p ∷ ss) (x ∷ xs) (suc j) e = let l : j ≡ length ss = omega arith in put_behind ss xs j l

module _ (t : Table) (actions : List Action) (standpoints : List Standpoint) (n : ℕ) (x : Forest Form) (xs : List (Forest Form)) where
  -- each tree of a hole may stand there
  abbrev pub HolesFit : Template → Type 0
  HolesFit done = Unit {0}
  HolesFit rest = Unit {0}
  HolesFit (step q a b) = HolesFit a × HolesFit b
  HolesFit (token c b) = HolesFit b
  HolesFit (own c b) = HolesFit b
  HolesFit (hole zero s d b) = (nat_lt (point standpoints s).level n ≡ true) × (stands_as standpoints s (form_of x) ≡ true) × HolesFit d × HolesFit b
  HolesFit (hole (suc i) s d b) = (stands_as standpoints s (form_of (tree_at xs i)) ≡ true) × HolesFit d × HolesFit b
  HolesFit (each j s pc sep pn b) = AllStandBare t actions standpoints s (drop j xs) × HolesFit b

-- ---- a template whose holes are filled

module _ (t : Table) (rows : List (List ℕ)) (actions : List Action) (standpoints : List Standpoint) (are : map plain_row t.productions.now ≡ rows) where
  production-is : (q left : ℕ) (right : List ℕ) (a : Draft) → production_at t rows actions standpoints q ≡ left ∷ right → Derive t right (plain a)
      → Derive t (left ∷ []) (plain (rule q a none))
  production-is q left right a e h = rule_derived t rows q left right a are e h

  -- ---- separators

  abbrev pub separated : List ℕ → Draft → Draft
  separated [] d = d
  separated (n ∷ ns) d = word (kind_at n) [] (separated ns d)

  silent : (n : ℕ) → is_silent t rows actions standpoints n ≡ true → (is_terminal t (symbol_of (kind_at n)) ≡ true) × (leaf_form (symbol_of (kind_at n)) ≡ None)
  silent n e =
      let p = and_parts (is_terminal t (symbol_of (kind_at n))) (is_none (leaf_form (symbol_of (kind_at n)))) e in
      (p.0, none_is (leaf_form (symbol_of (kind_at n))) p.1)

  separated_derived : (sep : List ℕ) (d : Draft) (ss : List ℕ) → list_all (is_silent t rows actions standpoints) sep ≡ true → Derive t ss (plain d) → Derive t (symbols_at sep ++ ss) (plain (separated sep d))
  separated_derived [] d ss e h = h
  separated_derived (n ∷ ns) d ss e h =
      let p = and_parts (is_silent t rows actions standpoints n) (list_all (is_silent t rows actions standpoints) ns) e in
      ((silent n p.0).0, refl, separated_derived ns d ss p.1 h)

  separated_grows : (sep : List ℕ) (d : Draft) (f : Forest Form) → list_all (is_silent t rows actions standpoints) sep ≡ true → grows actions (separated sep d) f ≡ grows actions d f
  separated_grows [] d f e = refl
  separated_grows (n ∷ ns) d f e =
      let p = and_parts (is_silent t rows actions standpoints n) (list_all (is_silent t rows actions standpoints) ns) e in
      ap (λ o. grows actions (separated ns d) (with_text o [] f)) (silent n p.0).1 ∙ separated_grows ns d f p.1

  separated_lexemes : (sep : List ℕ) (d : Draft) → lexemes (separated sep d) ≡ words sep ++ lexemes d
  separated_lexemes [] d = refl
  separated_lexemes (n ∷ ns) d = ap (λ ls. lexeme (kind_at n) [] ∷ ls) (separated_lexemes ns d)

  -- ---- all parts from one on

  pub record IsEach (pn : ℕ) (sep : List ℕ) (ws : List Written) (xs : List (Forest Form)) : Type 0 where
    pub draft : Draft
    pub derived : Derive t (left_of (production_at t rows actions standpoints pn) ∷ []) (plain draft)
    pub tokens : lexemes draft ≡ each_tokens sep ws
    pub grown : (f : Forest Form) → grows actions draft f ≡ pushed xs f

  record EachIsFit (s pc : ℕ) (sep : List ℕ) (pn : ℕ) : Type 0 where
    pub state : (point standpoints s).state ≡ AS_IT_IS
    pub tail : (point standpoints s).tail ≡ None
    pub more_splices : action_of actions [] pc ≡ Splice
    pub end_splices : action_of actions [] pn ≡ Splice
    pub silent_ones : list_all (is_silent t rows actions standpoints) sep ≡ true
    pub more_is : production_at t rows actions standpoints pc ≡ left_of (production_at t rows actions standpoints pn) ∷ symbols_at sep ++ (point standpoints s).head ∷ left_of (production_at t rows actions standpoints pn) ∷ []
    pub end_is : production_at t rows actions standpoints pn ≡ left_of (production_at t rows actions standpoints pn) ∷ []

  spliced : (q : ℕ) (a : Draft) (f : Forest Form) → action_of actions [] q ≡ Splice → grows actions (rule q a none) f ≡ grows actions a f
  spliced q a f e = ap (λ x. acted actions [] x 0 (grows actions a) f) e

  one_more : (s pc : ℕ) (sep : List ℕ) (pn : ℕ) → EachIsFit s pc sep pn → (w : Written) (ws : List Written) (x : Forest Form) (xs : List (Forest Form))
      → put (point standpoints s).state x ≡ x → IsDrafted t actions standpoints s w x none → IsEach pn sep ws xs → IsEach pn sep (w ∷ ws) (x ∷ xs)
  one_more s pc sep pn h w ws x xs bare d e =
      let inner = followed d.draft e.draft in
      let left = left_of (production_at t rows actions standpoints pn) in
      let derived = followed_derived t d.draft e.draft ((point standpoints s).head ∷ []) (left ∷ []) d.derived e.derived in
      record {
        draft = rule pc (separated sep inner) none;
        derived = production-is pc left (symbols_at sep ++ (point standpoints s).head ∷ left ∷ []) (separated sep inner) h.more_is (separated_derived sep inner ((point standpoints s).head ∷ left ∷ []) h.silent_ones derived);
        tokens =
            append-nil (lexemes (separated sep inner)) ∙ separated_lexemes sep inner
            ∙ ap (λ ls. words sep ++ ls) (followed_lexemes d.draft e.draft
            ∙ ap (λ ls. ls ++ lexemes e.draft) (d.tokens ∙ append-nil (tokens_in (w (point standpoints s).state)) ∙ ap (λ q. tokens_in (w q)) h.state)
            ∙ ap (λ ls. tokens_in (w AS_IT_IS) ++ ls) e.tokens);
        grown = λ f.
            spliced pc (separated sep inner) f h.more_splices ∙ separated_grows sep inner f h.silent_ones ∙ followed_grows actions d.draft e.draft f
            ∙ ap (grows actions e.draft) (d.grown f ∙ ap (λ o. finished actions o none (put (point standpoints s).state x) f) h.tail ∙ ap (λ y. with_next y f) bare)
            ∙ e.grown (with_next x f);
      }

  each_filled : (s pc : ℕ) (sep : List ℕ) (pn : ℕ) → EachIsFit s pc sep pn → (ws : List Written) (xs : List (Forest Form)) → CanAllStand t actions standpoints ws xs → AllStandBare t actions standpoints s xs
      → IsEach pn sep ws xs
  each_filled s pc sep pn h [] [] can all = record {
    draft = rule pn none none;
    derived = production-is pn (left_of (production_at t rows actions standpoints pn)) [] none h.end_is tt;
    tokens = refl;
    grown = λ f. spliced pn none f h.end_splices;
  }
  each_filled s pc sep pn h [] (x ∷ xs) can all = absurd can
  each_filled s pc sep pn h (w ∷ ws) [] can all = absurd can
  each_filled s pc sep pn h (w ∷ ws) (x ∷ xs) can all =
      one_more s pc sep pn h w ws x xs all.1 (can.0.at s none all.0 (subst (λ o. Follows t actions standpoints o none) (sym h.tail) refl)) (each_filled s pc sep pn h ws xs can.1 all.2)

  -- ---- the whole template

  module _ (f : Form) (text : List ℕ) (k : Draft) (tail : Option ℕ) (follows : Follows t actions standpoints tail k) (places : List ℕ) (n : ℕ) (x : Forest Form) (ws : List Written) (xs : List (Forest Form))
      (itself : CanStandBelow t actions standpoints n (tree_items f text ws) x) (can : CanAllStand t actions standpoints ws xs) where
    abbrev pub means : Forest Form → Named → Forest Form
    means start = meant actions text k (puts t actions standpoints places (x ∷ xs)) start

    pub record IsFilled (m : Template) : Type 0 where
      pub draft : Draft
      pub derived : Derive t (symbols t rows actions standpoints tail places m) (plain draft)
      pub tokens : lexemes draft ≡ bits_tokens f text ws k (bits t rows actions standpoints m)
      pub grown : (start : Forest Form) (y : Named) → grows actions draft (means start y) ≡ means start (left_by t rows actions standpoints m y)

    -- what follows a tree in the chain of its hole
    record IsHeld (o : Option ℕ) (d : Template) : Type 0 where
      pub draft : Draft
      pub follows_it : Follows t actions standpoints o draft
      pub tokens : lexemes draft ≡ bits_tokens f text ws k (bits t rows actions standpoints d)
      pub grown : (start : Forest Form) (r : ℕ) (y : Named) → finished actions o draft (tree_at (puts t actions standpoints places (x ∷ xs)) r) (means start y) ≡ means start (hole_name o r (left_by t rows actions standpoints d) y)

    no_flag : (b : Bool) (xs ys : List ℕ) → b ≡ false → flag b ∷ xs ≡ 1 ∷ ys → ⊥
    no_flag true xs ys e h = cc
    no_flag false xs ys e h = cc

    done_bits : (d : Template) → flag (is_done d) ∷ [] ≡ 1 ∷ [] → [] ≡ bits_tokens f text ws k (bits t rows actions standpoints d)
    done_bits done e = refl
    done_bits rest e = absurd (no_flag false [] [] refl e)
    done_bits (step q a b) e = absurd (no_flag false [] [] refl e)
    done_bits (token c b) e = absurd (no_flag false [] [] refl e)
    done_bits (own c b) e = absurd (no_flag false [] [] refl e)
    done_bits (hole r s d b) e = absurd (no_flag false [] [] refl e)
    done_bits (each j s pc sep pn b) e = absurd (no_flag false [] [] refl e)

    held : (o : Option ℕ) (d : Template) → chain_symbols o (symbols t rows actions standpoints tail places d) (is_done d) ≡ chain_wanted o → IsFilled d → IsHeld o d
    held None d e i = record { draft = none; follows_it = refl; tokens = done_bits d e; grown = λ start r y. refl }
    held (Some c) d e i = record {
      draft = i.draft;
      follows_it = subst (λ ss. Derive t ss (plain i.draft)) e i.derived;
      tokens = i.tokens;
      grown = λ start r y.
          ap (λ z. joined z (means start y)) (i.grown start (ref r nil))
          ∙ sym (meant_joined actions text k (puts t actions standpoints places (x ∷ xs)) start (left_by t rows actions standpoints d (ref r nil)) y);
    }

    -- one hole
    held_in : (r s : ℕ) (d b : Template) (v : Written) (y : Forest Form) → tokens_in (v (point standpoints s).state) ≡ bits_tokens f text ws k (hole_bits t rows actions standpoints r (point standpoints s).state)
        → tree_at (puts t actions standpoints places (x ∷ xs)) r ≡ put (point standpoints s).state y → (i : IsHeld (point standpoints s).tail d) → IsDrafted t actions standpoints s v y i.draft → IsFilled b → IsFilled (hole r s d b)
    held_in r s d b v y written there i h rest_of = record {
      draft = followed h.draft rest_of.draft;
      derived = followed_derived t h.draft rest_of.draft ((point standpoints s).head ∷ []) (symbols t rows actions standpoints tail places b) h.derived rest_of.derived;
      tokens =
          followed_lexemes h.draft rest_of.draft ∙ ap (λ ls. ls ++ lexemes rest_of.draft) h.tokens
          ∙ append_assoc (tokens_in (v (point standpoints s).state)) (lexemes i.draft) (lexemes rest_of.draft)
          ∙ ap (λ ls. ls ++ (lexemes i.draft ++ lexemes rest_of.draft)) written
          ∙ ap (λ ls. bits_tokens f text ws k (hole_bits t rows actions standpoints r (point standpoints s).state) ++ ls)
          (ap (λ ls. ls ++ lexemes rest_of.draft) i.tokens ∙ ap (λ ls. bits_tokens f text ws k (bits t rows actions standpoints d) ++ ls) rest_of.tokens
          ∙ sym (bits_append f text ws k (bits t rows actions standpoints d) (bits t rows actions standpoints b)))
          ∙ sym (bits_append f text ws k (hole_bits t rows actions standpoints r (point standpoints s).state) (bits t rows actions standpoints d ++ bits t rows actions standpoints b));
      grown = λ start z.
          followed_grows actions h.draft rest_of.draft (means start z)
          ∙ ap (grows actions rest_of.draft) (h.grown (means start z) ∙ ap (λ a. finished actions (point standpoints s).tail i.draft a (means start z)) (sym there) ∙ i.grown start r z)
          ∙ rest_of.grown start (hole_name (point standpoints s).tail r (left_by t rows actions standpoints d) z);
    }

    rest_derived : (o : Option ℕ) → Follows t actions standpoints o k → Derive t (tail_symbols o) (plain k)
    rest_derived None e = subst (λ d. Derive t [] (plain d)) (sym e) tt
    rest_derived (Some c) e = e

    own_grows : (start : Forest Form) (o : Option Form) (y : Named) → with_text o text (means start y) ≡ means start (leaf_name o y)
    own_grows start None y = refl
    own_grows start (Some g) y = refl

    -- the tree of a hole, and its draft
    drafted : (r s : ℕ) (d b : Template) → s ∷ [] ≡ member_at places r → HolesFit t actions standpoints n x xs (hole r s d b) → (i : IsHeld (point standpoints s).tail d) → IsFilled b → IsFilled (hole r s d b)
    drafted zero s d b there h i ib =
        held_in zero s d b (tree_items f text ws) x (sym (append-nil (tokens_in (tree_items f text ws (point standpoints s).state)))) (put_at t actions standpoints places (x ∷ xs) zero s there) i
        (itself.at s i.draft h.0 h.1 i.follows_it) ib
    drafted (suc r) s d b there h i ib =
        held_in (suc r) s d b (slice_index_or ws r unwritten) (tree_at xs r) (sym (append-nil (tokens_in (slice_index_or ws r unwritten (point standpoints s).state))))
        (put_at t actions standpoints places (x ∷ xs) (suc r) s there) i ((can_at t actions standpoints ws xs r can).at s i.draft h.0 i.follows_it) ib

    holes_in : (r s : ℕ) (d b : Template) → HolesFit t actions standpoints n x xs (hole r s d b) → HolesFit t actions standpoints n x xs d × HolesFit t actions standpoints n x xs b
    holes_in zero s d b h = (h.2, h.3)
    holes_in (suc r) s d b h = (h.1, h.2)

    parts_filled : (j s pc : ℕ) (sep : List ℕ) (pn : ℕ) (b : Template) → suc j ≡ length places → IsEach pn sep (drop j ws) (drop j xs) → IsFilled b → IsFilled (each j s pc sep pn b)
    parts_filled j s pc sep pn b l i ib = record {
      draft = followed i.draft ib.draft;
      derived = followed_derived t i.draft ib.draft (left_of (production_at t rows actions standpoints pn) ∷ []) (symbols t rows actions standpoints tail places b) i.derived ib.derived;
      tokens =
          followed_lexemes i.draft ib.draft ∙ ap (λ ls. ls ++ lexemes ib.draft) i.tokens
          ∙ ap (λ ls. each_tokens sep (drop j ws) ++ ls) ib.tokens;
      grown = λ start y.
          followed_grows actions i.draft ib.draft (means start y)
          ∙ ap (grows actions ib.draft) (i.grown (means start y) ∙ ap (λ zs. pushed zs (means start y)) (sym (put_behind t actions standpoints places (x ∷ xs) (suc j) l)))
          ∙ ib.grown start (from j y);
    }

    each_fits : (j s pc : ℕ) (sep : List ℕ) (pn : ℕ) (b : Template) → has t rows actions standpoints tail places (each j s pc sep pn b) ≡ wants t rows actions standpoints tail places (each j s pc sep pn b)
        → EachIsFit s pc sep pn
    each_fits j s pc sep pn b e =
        let l0 = ap fact_list e in
        let l1 = rest_is _ _ _ _ l0 in
        let l2 = rest_is _ _ _ _ l1 in
        let l3 = rest_is _ _ _ _ l2 in
        let l4 = rest_is _ _ _ _ l3 in
        let l5 = rest_is _ _ _ _ l4 in
        record {
          state = first_is _ _ _ _ l1;
          tail = none_is (point standpoints s).tail (flag_is _ (first_is _ _ _ _ l2));
          more_splices = splice_is (action_of actions [] pc) (flag_is _ (first_is _ _ _ _ l3));
          end_splices = splice_is (action_of actions [] pn) (flag_is _ (first_is _ _ _ _ l4));
          silent_ones = flag_is _ (first_is _ _ _ _ l5);
          more_is = ap (λ q. fact_list (fact_first q)) e;
          end_is = ap (λ q. fact_list (fact_next (fact_first q))) e;
        }

    pub filled : (m : Template) → has t rows actions standpoints tail places m ≡ wants t rows actions standpoints tail places m → HolesFit t actions standpoints n x xs m → IsFilled m
    filled done e h = record { draft = none; derived = tt; tokens = refl; grown = λ start y. refl }
    filled rest e h = record {
      draft = k;
      derived = rest_derived tail follows;
      tokens = sym (append-nil (lexemes k));
      grown = λ start y. sym (joined_nothing (grows actions k (means start y)));
    }
    filled (step q a b) e h =
        let ia = filled a (ap fact_first e) h.0 in
        let ib = filled b (ap fact_next e) h.1 in
        record {
          draft = rule q ia.draft ib.draft;
          derived =
              followed_derived t (rule q ia.draft none) ib.draft (left_of (production_at t rows actions standpoints q) ∷ []) (symbols t rows actions standpoints tail places b)
              (production-is q (left_of (production_at t rows actions standpoints q)) (symbols t rows actions standpoints tail places a) ia.draft (sym (ap fact_list e)) ia.derived) ib.derived;
          tokens =
              ap (λ ls. ls ++ lexemes ib.draft) ia.tokens ∙ ap (λ ls. bits_tokens f text ws k (bits t rows actions standpoints a) ++ ls) ib.tokens
              ∙ sym (bits_append f text ws k (bits t rows actions standpoints a) (bits t rows actions standpoints b));
          grown = λ start y.
              ap (grows actions ib.draft) (meant_acted actions text k (puts t actions standpoints places (x ∷ xs)) start (action_of actions [] q) (grows actions ia.draft) (left_by t rows actions standpoints a) y (ia.grown start))
              ∙ ib.grown start (acted_names (action_of actions [] q) (left_by t rows actions standpoints a) y);
        }
    filled (token c b) e h =
        let ib = filled b (ap fact_next e) h in
        let q = silent c (flag_is _ (first_is _ _ _ _ (ap fact_list e))) in
        record {
          draft = word (kind_at c) [] ib.draft;
          derived = (q.0, refl, ib.derived);
          tokens = ap (λ ls. lexeme (kind_at c) [] ∷ ls) ib.tokens;
          grown = λ start y. ap (λ o. grows actions ib.draft (with_text o [] (means start y))) q.1 ∙ ib.grown start y;
        }
    filled (own c b) e h =
        let ib = filled b (ap fact_next e) h in
        record {
          draft = word c text ib.draft;
          derived = (flag_is _ (first_is _ _ _ _ (ap fact_list e)), refl, ib.derived);
          tokens = ap (λ ls. lexeme c text ∷ ls) ib.tokens;
          grown = λ start y. ap (grows actions ib.draft) (own_grows start (leaf_form (symbol_of c)) y) ∙ ib.grown start (leaf_name (leaf_form (symbol_of c)) y);
        }
    filled (hole r s d b) e h =
        let hs = holes_in r s d b h in
        let e1 = ap fact_first e in
        let id = filled d (ap fact_next e1) hs.0 in
        drafted r s d b (ap fact_list e) h (held (point standpoints s).tail d (ap fact_list e1) id) (filled b (ap fact_next e) hs.1)
    filled (each j s pc sep pn b) e h =
        parts_filled j s pc sep pn b (first_is _ _ _ _ (ap fact_list e))
        (each_filled s pc sep pn (each_fits j s pc sep pn b e) (drop j ws) (drop j xs) (can_drop t actions standpoints ws xs j can) h.0)
        (filled b (ap fact_next e) h.1)
