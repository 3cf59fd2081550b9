-- The end of the file opens the last item and no other, so it is read last.
use Rattle.std.proofs.Common.{◌≡◌, ℕ, ◌+◌, Bool, true, false, cond, List, [], ◌∷◌, ◌++◌, Option, Some, None, refl, sym, ap, ◌∙◌, subst, append_assoc}
use Rattle.std.specs.List.{AllByRecursion}
use Rattle.vd_trees.specs.declared.revision.Revision.{Revision}
use Rattle.vd_trees.specs.declared.revision.Revision.TheVariants.{V2019, V1993}
use Rattle.vd_first_lex.specs.declared.tokens.Kind.TheVariants.{End}
use Rattle.vd_first_lex.specs.declared.tokens.Token.{Token}
use Rattle.vd_first_lex.specs.declared.tokens.TheConstants.{BEGIN, CLOSING, SEMICOLON}
use Rattle.vd_first_grammar.specs.Symbols.{word, mark, named, ending}
use Rattle.vd_first_lex.specs.Lexings.{EndsOnce}
use Rattle.vd_first_grammar.specs.Reader.{is}
use Rattle.vd_first_grammar.proofs.Machine.{Item, fixed, entity_name, port_name, next_port_name, names_end, mode, ports_end, unit_end, architecture_name, entity_again, processes_end, listed_name, listed_end, process_begin, process_items, port_items, target, operand, expression_end, file_items, opened, Memory, remember}
use Rattle.vd_first_grammar.proofs.SoundExpressions.{is_so}
use Rattle.vd_first_grammar.proofs.Passing.{Passes}

abbrev IsOrdinary : Item → Type 0
IsOrdinary (fixed d ending) = ⊥
IsOrdinary _ = Unit {0}

abbrev AreOrdinary : List Item → Type 0
AreOrdinary is' = AllByRecursion IsOrdinary is'

-- the end opens no ordinary item
end_opens : (i : Item) (t : Token) → IsOrdinary i → t.kind ≡ End → opened i t ≡ None
end_opens (fixed d (word n)) t ordinary h = rw h refl
end_opens (fixed d (mark n)) t ordinary h = rw h refl
end_opens (fixed d (named text)) t ordinary h = rw h refl
end_opens (fixed d ending) t ordinary h = absurd ordinary
end_opens entity_name t ordinary h = rw h refl
end_opens port_name t ordinary h = rw h refl
end_opens next_port_name t ordinary h = rw h refl
end_opens names_end t ordinary h = rw h refl
end_opens mode t ordinary h = rw h refl
end_opens ports_end t ordinary h = rw h refl
end_opens (unit_end of_entity) t ordinary h = rw h refl
end_opens architecture_name t ordinary h = rw h refl
end_opens entity_again t ordinary h = rw h refl
end_opens (processes_end r) t ordinary h = rw h refl
end_opens listed_name t ordinary h = rw h refl
end_opens listed_end t ordinary h = rw h refl
end_opens process_begin t ordinary h = rw h refl
end_opens target t ordinary h = rw h refl
end_opens (operand d true) t ordinary h = rw h refl
end_opens (operand d false) t ordinary h = rw h refl
end_opens (expression_end d n) t ordinary h = rw h refl

-- what a test chooses
chosen : (b : Bool) (x y : List Item) (o : Option (List Item)) → AreOrdinary x → (o ≡ Some y → AreOrdinary y) → cond b (Some x) o ≡ Some y → AreOrdinary y
chosen true x y o first second h = let same : x ≡ y = cc in subst AreOrdinary same first
chosen false x y o first second h = second h

none_chosen : (y : List Item) → None ≡ Some y → AreOrdinary y
none_chosen y h = absurd cc

body_ordinary : (i : Item) (t : Token) (body : List Item) → opened i t ≡ Some body → AreOrdinary body
body_ordinary (fixed d s) t body h = chosen _ [] body None tt (none_chosen body) h
body_ordinary entity_name t body h = chosen _ [] body None tt (none_chosen body) h
body_ordinary port_name t body h = chosen _ [] body None tt (none_chosen body) h
body_ordinary next_port_name t body h = chosen _ [] body None tt (none_chosen body) h
body_ordinary names_end t body h = chosen _ (next_port_name ∷ names_end ∷ []) body _ (search) (chosen _ [] body None tt (none_chosen body)) h
body_ordinary mode t body h = chosen _ [] body None tt (none_chosen body) h
body_ordinary ports_end t body h = chosen _ port_items body _ (search) (chosen _ [] body None tt (none_chosen body)) h
body_ordinary (unit_end of_entity) t body h = chosen _ (fixed 0 (mark SEMICOLON) ∷ []) body _ (search) (chosen _ [] body None tt (none_chosen body)) h
body_ordinary architecture_name t body h = chosen _ [] body None tt (none_chosen body) h
body_ordinary entity_again t body h = chosen _ [] body None tt (none_chosen body) h
body_ordinary (processes_end V2019) t body h = chosen _ (process_items V2019) body _ (search) (chosen _ [] body None tt (none_chosen body)) h
body_ordinary (processes_end V1993) t body h = chosen _ (process_items V1993) body _ (search) (chosen _ [] body None tt (none_chosen body)) h
body_ordinary listed_name t body h = chosen _ [] body None tt (none_chosen body) h
body_ordinary listed_end t body h = chosen _ (listed_name ∷ listed_end ∷ []) body _ (search) (chosen _ [] body None tt (none_chosen body)) h
body_ordinary process_begin t body h = chosen _ (fixed 1 (word BEGIN) ∷ []) body _ (search) (chosen _ [] body None tt (none_chosen body)) h
body_ordinary target t body h = chosen _ [] body None tt (none_chosen body) h
body_ordinary (operand d signed) t body h = chosen _ [] body _ tt (chosen _ (operand (d + 1) true ∷ expression_end d CLOSING ∷ []) body _ (search) (chosen _ (operand d false ∷ []) body None (search) (none_chosen body))) h
body_ordinary (expression_end d n) t body h = chosen _ (operand (d + 1) true ∷ expression_end d n ∷ []) body _ (search) (chosen _ [] body None tt (none_chosen body)) h

abbrev last_item : Item
last_item = fixed 0 ending

last_opens_by : (t : Token) (body : List Item) (b : Bool) → is ending t ≡ b → opened last_item t ≡ Some body → (t.kind ≡ End) × (body ≡ [])
last_opens_by t body true h opens = let same : Some [] ≡ Some body = rw h at opens in (is_so ending t h, cc)
last_opens_by t body false h opens = let same : None ≡ Some body = rw h at opens in absurd cc

ordinary-append : (xs ys : List Item) → AreOrdinary xs → AreOrdinary ys → AreOrdinary (xs ++ ys)
ordinary-append [] ys first second = second
ordinary-append (x ∷ xs) ys first second = (first.0, ordinary-append xs ys first.1 second)

ends_behind : (t : Token) (ts : List Token) → EndsOnce (t ∷ ts) → (t.kind ≡ End → ⊥) → EndsOnce ts
ends_behind t [] ends other = absurd (other ends)
ends_behind t (u ∷ ts) ends other = ends.1

not_end : (i : Item) (t : Token) (body : List Item) → IsOrdinary i → opened i t ≡ Some body → t.kind ≡ End → ⊥
not_end i t body ordinary opens h = let wrong : None ≡ Some body = sym (end_opens i t ordinary h) ∙ opens in absurd cc

-- what passes to its end leaves no item
module _ (limit : ℕ) where
  all_passed : (ts : List Token) (m : Memory) (xs : List Item) (n : Memory) (js : List Item) → AreOrdinary xs → Passes limit m (xs ++ last_item ∷ []) ts n js → EndsOnce ts → js ≡ []
  all_passed [] m xs n js ordinary p ends = absurd ends
  all_passed (t ∷ []) m [] n js ordinary p ends =
      let last = last_opens_by t p.0 (is ending t) refl p.1 in
      sym p.4.1 ∙ ap (λ (b : List Item). b ++ []) last.1
  all_passed (t ∷ u ∷ ts) m [] n js ordinary p ends = absurd (ends.0 (last_opens_by t p.0 (is ending t) refl p.1).0)
  all_passed (t ∷ ts) m (i ∷ xs) n js ordinary p ends =
      let again = subst (λ (ks : List Item). Passes limit (remember m i t) ks ts n js) (sym (append_assoc p.0 xs (last_item ∷ []))) p.4 in
      all_passed ts (remember m i t) (p.0 ++ xs) n js (ordinary-append p.0 xs (body_ordinary i t p.0 p.1) ordinary.1) again (ends_behind t ts ends (not_end i t p.0 ordinary.0 p.1))

  -- where no item is left nothing more comes
  nothing_more : (front rest : List Token) (m : Memory) (xs : List Item) (n : Memory) → AreOrdinary xs → Passes limit m (xs ++ last_item ∷ []) front n [] → EndsOnce (front ++ rest) → rest ≡ []
  nothing_more [] rest m [] n ordinary p ends = let wrong : last_item ∷ [] ≡ [] = p.1 in absurd cc
  nothing_more [] rest m (x ∷ xs) n ordinary p ends = let wrong : x ∷ (xs ++ last_item ∷ []) ≡ [] = p.1 in absurd cc
  nothing_more (t ∷ []) [] m [] n ordinary p ends = refl
  nothing_more (t ∷ []) (r ∷ rest) m [] n ordinary p ends = absurd (ends.0 (last_opens_by t p.0 (is ending t) refl p.1).0)
  nothing_more (t ∷ u ∷ front) rest m [] n ordinary p ends = absurd (ends.0 (last_opens_by t p.0 (is ending t) refl p.1).0)
  nothing_more (t ∷ front) rest m (i ∷ xs) n ordinary p ends =
      let again = subst (λ (ks : List Item). Passes limit (remember m i t) ks front n []) (sym (append_assoc p.0 xs (last_item ∷ []))) p.4 in
      nothing_more front rest (remember m i t) (p.0 ++ xs) n (ordinary-append p.0 xs (body_ordinary i t p.0 p.1) ordinary.1) again (ends_behind t (front ++ rest) ends (not_end i t p.0 ordinary.0 p.1))

-- the items of a file but the last
front_items : (ks : List Item) → List Item
front_items [] = []
front_items (k ∷ []) = []
front_items (k ∷ l ∷ ks) = k ∷ front_items (l ∷ ks)

pub file_all_passed : (r : Revision) (limit : ℕ) (ts : List Token) (m n : Memory) (js : List Item) → Passes limit m (file_items r) ts n js → EndsOnce ts → js ≡ []
unfolding front_items
file_all_passed V2019 limit ts m n js p ends = all_passed limit ts m (front_items (file_items V2019)) n js (search) p ends
file_all_passed V1993 limit ts m n js p ends = all_passed limit ts m (front_items (file_items V1993)) n js (search) p ends

pub file_nothing_more : (r : Revision) (limit : ℕ) (front rest : List Token) (m n : Memory) → Passes limit m (file_items r) front n [] → EndsOnce (front ++ rest) → rest ≡ []
unfolding front_items
file_nothing_more V2019 limit front rest m n p ends = nothing_more limit front rest m (front_items (file_items V2019)) n (search) p ends
file_nothing_more V1993 limit front rest m n p ends = nothing_more limit front rest m (front_items (file_items V1993)) n (search) p ends
