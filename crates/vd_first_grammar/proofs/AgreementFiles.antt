-- What is read of a file step by step is what reading on does with its items.
use Rattle.std.proofs.Common.{◌≡◌, ℕ, ◌+◌, ◌≤◌, ◌<◌, Bool, true, false, ltb, List, [], ◌∷◌, ◌++◌, length, refl, sym, ap, ◌∙◌, append_assoc, arith}
use Rattle.std.proofs.lemmas.Bool.{le-ltb}
use Rattle.std.proofs.lemmas.List.{length-append}
use Rattle.vd_bytes.specs.declared.places.Place.{Place}
use Rattle.vd_forest.specs.Forest.{Forest, nothing}
use Rattle.vd_first_trees.specs.declared.form.Form.{Form}
use Rattle.vd_trees.specs.declared.revision.Revision.{Revision}
use Rattle.vd_first_lex.specs.declared.tokens.Token.{Token}
use Rattle.vd_first_lex.specs.declared.tokens.TheConstants.{ARCHITECTURE, BEGIN, END, IS, OF, PROCESS, CLOSING, SEMICOLON, ARROW}
use Rattle.vd_first_grammar.specs.Symbols.{Symbol, word, mark, ending}
use Rattle.vd_first_grammar.specs.Derivations.{Process, sensitivity_tokens, optional_tokens, expression_tokens, process_tokens, head_symbols, ports_head_symbols, ports_foot_symbols, architecture_symbols, body_symbols, foot_symbols, last_symbols}
use Rattle.vd_first_grammar.specs.Conditions.{taken_names}
use Rattle.vd_first_grammar.specs.Refusals.{place_of_token}
use Rattle.vd_first_grammar.specs.Reader.{is, is_name, is_name_outside, is_same_name, Outcome, got, ◌>>=◌, token_at, spelled_at, begins, optional_at, repeated_at, Known, no_names, ports_at, expression_at, process_head, process_foot, sensitivity_at, front_at, process_tree, process_at, EntityRead, entity_tree, entity_at, architecture_tree, body_at, architecture_at, file_tree, file_at}
use Rattle.vd_first_grammar.proofs.Machine.{Item, fixed, fixed_all, entity_name, port_items, rest_of_ports_foot, architecture_name, entity_again, processes_end, sensitivity_items, begin_item, assignment_items, process_items, closing_item, target, operand, expression_end, file_items, depth, Memory, no_memory, remember, scan}
use Rattle.vd_first_grammar.proofs.Steps.{bind_assoc, bind_same, got_weaker, Shortens, repeated_agrees}
use Rattle.vd_first_grammar.proofs.SoundProcesses.{process_sound}
use Rattle.vd_first_grammar.proofs.Agreement.{scan_one, scan_fixed, scan_spelled, scan_like, scan_opens, known_memory, scan_ports, scan_sensitivity, scan_begin, scan_closing}
use Rattle.vd_first_grammar.proofs.AgreementExpressions.{scan_expression}

-- symbols of which the first stands at another depth
scan_spelled_from : (limit : ℕ) (m : Memory) (d e : ℕ) (s : Symbol) (ss : List Symbol) (is' : List Item) (ts : List Token) → d ≤ limit → e ≤ limit → scan limit m (fixed d s ∷ (fixed_all e ss ++ is')) ts ≡ (spelled_at (s ∷ ss) ts >>= λ x. scan limit m is' x.1)
unfolding spelled_at
scan_spelled_from limit m d e s ss is' ts first others =
    scan_fixed limit m d s (fixed_all e ss ++ is') ts first
    ∙ bind_same (token_at (is s) ts) _ _ (λ x. scan_spelled limit m e ss is' x.1 others ∙ sym (bind_assoc (spelled_at ss x.1) (λ others. got (x.0 ∷ others.0, others.1)) (λ x. scan limit m is' x.1)))
    ∙ sym (bind_assoc (token_at (is s) ts) _ _)

-- ---- processes

process_length : (p : Process) → 0 < length (process_tokens p)
process_length p =
    let behind = p.closing ∷ (optional_tokens p.is_word ++ (p.begin_word ∷ p.target ∷ p.arrow ∷ (expression_tokens p.value ++ p.foot))) in
    omega (arith, length-append p.head (sensitivity_tokens p.sensitivity ++ behind), length-append (sensitivity_tokens p.sensitivity) behind)

pub process_shorter : (r : Revision) (known : Known) (n : ℕ) → Shortens (process_at r known n)
process_shorter r known n made ts =
    got_weaker (process_at r known n made ts) _ _ (λ x read. omega (arith, ap length read.tokens, length-append (process_tokens read.process) x.1, process_length read.process)) (process_sound r known n made ts)

module _ (r : Revision) (limit : ℕ) (m : Memory) (n : ℕ) (nesting : n + 3 ≡ limit + 1) (enough : 2 ≤ limit) (is' : List Item) where
  abbrev again : List Item
  again = processes_end r ∷ is'

  processes_stop : (made : Forest Form) (ts : List Token) → begins (is (word PROCESS)) ts ≡ false → scan limit m again ts ≡ scan limit m (fixed 0 (word END) ∷ is') ts
  unfolding scan
  processes_stop made [] h = refl
  processes_stop made (t ∷ ts) h = scan_like limit m (processes_end r) (fixed 0 (word END)) is' t ts (rw h refl) (rw h refl) refl refl

  scan_front : (t : Token) (ts : List Token) → is (word PROCESS) t ≡ true → scan limit m again (t ∷ ts) ≡ (front_at r m.known.outs (t ∷ ts) >>= λ x. scan limit m (assignment_items ++ again) x.1)
  unfolding front_at
  scan_front t ts h =
      let behind = assignment_items ++ again in
      let deeps : ltb limit (depth (processes_end r) t) ≡ false = rw h (le-ltb limit 1 (omega arith)) in
      scan_opens limit m (processes_end r) is' t ts (process_items r) (rw h refl) deeps refl refl
      ∙ sym (scan_opens limit m (fixed 1 (word PROCESS)) (process_items r ++ is') t ts [] (rw h refl) (le-ltb limit 1 (omega arith)) refl refl)
      ∙ ap (λ (ks : List Item). scan limit m (fixed_all 1 process_head ++ ks) (t ∷ ts)) (append_assoc (sensitivity_items r) (begin_item r ∷ (assignment_items ++ processes_end r ∷ [])) is')
      ∙ scan_spelled limit m 1 process_head (sensitivity_items r ++ (begin_item r ∷ behind)) (t ∷ ts) (omega arith)
      ∙ bind_same (spelled_at process_head (t ∷ ts)) _ _ (λ head.
      scan_sensitivity limit m (omega arith) (begin_item r ∷ behind) r head.1
      ∙ bind_same (sensitivity_at r m.known.outs head.1) _ _ (λ names.
      scan_fixed limit m 1 (mark CLOSING) (begin_item r ∷ behind) names.1 (omega arith)
      ∙ bind_same (token_at (is (mark CLOSING)) names.1) _ _ (λ closing.
      scan_begin limit m (omega arith) behind r closing.1
      ∙ bind_same (optional_at r (is (word IS)) (is (word IS)) closing.1) _ _ (λ w.
      scan_fixed limit m 1 (word BEGIN) behind w.1 (omega arith)
      ∙ sym (bind_assoc (token_at (is (word BEGIN)) w.1) _ _))
      ∙ sym (bind_assoc (optional_at r (is (word IS)) (is (word IS)) closing.1) _ _))
      ∙ sym (bind_assoc (token_at (is (mark CLOSING)) names.1) _ _))
      ∙ sym (bind_assoc (sensitivity_at r m.known.outs head.1) _ _))
      ∙ sym (bind_assoc (spelled_at process_head (t ∷ ts)) _ _)

  processes_go : (made : Forest Form) (ts : List Token) → begins (is (word PROCESS)) ts ≡ true → scan limit m again ts ≡ (process_at r m.known n made ts >>= λ x. scan limit m again x.1)
  unfolding process_at
  processes_go made [] h = absurd cc
  processes_go made (t ∷ ts) h =
      let ends = fixed_all 1 (word END ∷ word PROCESS ∷ mark SEMICOLON ∷ []) ++ again in
      let value_items = operand 3 true ∷ expression_end 2 SEMICOLON ∷ ends in
      scan_front t ts h
      ∙ bind_same (front_at r m.known.outs (t ∷ ts)) _ _ (λ front.
      scan_one limit m target (fixed 2 (mark ARROW) ∷ value_items) is_name (is_name_outside m.known.ins) (λ u. refl) (λ u. le-ltb limit 2 enough) (λ u. refl) front.1
      ∙ bind_same (token_at (is_name_outside m.known.ins) front.1) _ _ (λ goal.
      scan_fixed limit m 2 (mark ARROW) value_items goal.1 enough
      ∙ bind_same (token_at (is (mark ARROW)) goal.1) _ _ (λ arrow.
      scan_expression limit m n 2 SEMICOLON ends arrow.1 nesting
      ∙ bind_same (expression_at m.known.outs n arrow.1) _ _ (λ value.
      scan_spelled_from limit m 2 1 (mark SEMICOLON) (word END ∷ word PROCESS ∷ mark SEMICOLON ∷ []) again value.1 enough (omega arith)
      ∙ sym (bind_assoc (spelled_at process_foot value.1) (λ foot. got (process_tree r front.0 goal.0 value.0 made, foot.1)) (λ x. scan limit m again x.1)))
      ∙ sym (bind_assoc (expression_at m.known.outs n arrow.1) _ _))
      ∙ sym (bind_assoc (token_at (is (mark ARROW)) goal.1) _ _))
      ∙ sym (bind_assoc (token_at (is_name_outside m.known.ins) front.1) _ _))
      ∙ sym (bind_assoc (front_at r m.known.outs (t ∷ ts)) _ _)

  scan_processes : (made : Forest Form) (ts : List Token) → scan limit m again ts ≡ (repeated_at (is (word PROCESS)) (process_at r m.known n) made ts >>= λ x. scan limit m (fixed 0 (word END) ∷ is') x.1)
  scan_processes made ts =
      repeated_agrees (is (word PROCESS)) (process_at r m.known n) (process_shorter r m.known n) (λ made ts. scan limit m again ts) (λ x. scan limit m (fixed 0 (word END) ∷ is') x.1) processes_stop processes_go made ts

-- ---- the file

abbrev pub entity_memory : EntityRead → Memory
entity_memory e = record { entity = e.entity.text; architecture = []; known = e.known; texts = [] }

-- behind the architecture's name
abbrev body_items : Revision → List Item
body_items r =
    fixed 0 (word OF) ∷ entity_again
    ∷ (fixed_all 0 body_symbols ++ (processes_end r ∷ fixed 0 (word ARCHITECTURE) ∷ closing_item r false ∷ fixed 0 ending ∷ []))

abbrev architecture_items : Revision → List Item
architecture_items r = architecture_name ∷ body_items r

scan_entity : (r : Revision) (limit : ℕ) (g : Bool) (head : List Token) (is' : List Item) (ts : List Token)
    → scan limit (no_memory g) (entity_name ∷ (fixed_all 0 ports_head_symbols ++ (port_items ++ (fixed_all 0 rest_of_ports_foot ++ (closing_item r true ∷ is'))))) ts ≡ (entity_at r (no_names g) head ts >>= λ x. scan limit (entity_memory x.0) (fixed 0 (mark SEMICOLON) ∷ is') x.1)
unfolding entity_at
scan_entity r limit g head is' ts =
    let zero_fits : ltb limit 0 ≡ false = le-ltb limit 0 (omega arith) in
    let foot_items = fixed_all 0 rest_of_ports_foot ++ (closing_item r true ∷ is') in
    scan_one limit (no_memory g) entity_name (fixed_all 0 ports_head_symbols ++ (port_items ++ foot_items)) is_name (is_name_outside taken_names) (λ u. refl) (λ u. zero_fits) (λ u. refl) ts
    ∙ bind_same (token_at (is_name_outside taken_names) ts) _ _ (λ e.
    let m = remember (no_memory g) entity_name e.0 in
    scan_spelled limit m 0 ports_head_symbols (port_items ++ foot_items) e.1 (omega arith)
    ∙ bind_same (spelled_at ports_head_symbols e.1) _ _ (λ h.
    scan_ports limit m foot_items h.1
    ∙ bind_same (ports_at m.known h.1) _ _ (λ p.
    scan_spelled limit (known_memory m p.0.known) 0 ports_foot_symbols (closing_item r true ∷ is') p.1 (omega arith)
    ∙ bind_same (spelled_at ports_foot_symbols p.1) _ _ (λ foot.
    scan_closing limit (known_memory m p.0.known) is' true r foot.1
    ∙ sym (bind_assoc (optional_at r is_name (is_same_name e.0.text) foot.1) (λ c. got (record { tree = entity_tree head e.0 h.0 p.0.made foot.0 c.0; entity = e.0; known = p.0.known }, c.1)) (λ x. scan limit (entity_memory x.0) (fixed 0 (mark SEMICOLON) ∷ is') x.1)))
    ∙ sym (bind_assoc (spelled_at ports_foot_symbols p.1) _ _))
    ∙ sym (bind_assoc (ports_at m.known h.1) _ _))
    ∙ sym (bind_assoc (spelled_at ports_head_symbols e.1) _ _))
    ∙ sym (bind_assoc (token_at (is_name_outside taken_names) ts) _ _)

scan_body : (r : Revision) (limit n : ℕ) → n + 3 ≡ limit + 1 → 2 ≤ limit → (place : Place) (e : EntityRead) (a : Token) (ts : List Token)
    → scan limit (remember (entity_memory e) architecture_name a) (body_items r) ts ≡ (body_at r place a e.entity e.known n ts >>= λ x. got (remember (entity_memory e) architecture_name a, x.1))
unfolding body_at scan
scan_body r limit n nesting enough place e a ts =
    let m = remember (entity_memory e) architecture_name a in
    let zero_fits : ltb limit 0 ≡ false = le-ltb limit 0 (omega arith) in
    let end_items = closing_item r false ∷ fixed 0 ending ∷ [] in
    let statement_items = processes_end r ∷ fixed 0 (word ARCHITECTURE) ∷ end_items in
    scan_fixed limit m 0 (word OF) (entity_again ∷ (fixed_all 0 body_symbols ++ statement_items)) ts (omega arith)
    ∙ bind_same (token_at (is (word OF)) ts) _ _ (λ o.
    scan_one limit m entity_again (fixed_all 0 body_symbols ++ statement_items) is_name (is_same_name e.entity.text) (λ u. refl) (λ u. zero_fits) (λ u. refl) o.1
    ∙ bind_same (token_at (is_same_name e.entity.text) o.1) _ _ (λ k.
    scan_spelled limit m 0 body_symbols statement_items k.1 (omega arith)
    ∙ bind_same (spelled_at body_symbols k.1) _ _ (λ b.
    scan_processes r limit m n nesting enough (fixed 0 (word ARCHITECTURE) ∷ end_items) nothing b.1
    ∙ bind_same (repeated_at (is (word PROCESS)) (process_at r e.known n) nothing b.1) _ _ (λ p.
    scan_spelled limit m 0 foot_symbols end_items p.1 (omega arith)
    ∙ bind_same (spelled_at foot_symbols p.1) _ _ (λ f.
    scan_closing limit m (fixed 0 ending ∷ []) false r f.1
    ∙ bind_same (optional_at r is_name (is_same_name a.text) f.1) _ _ (λ c.
    scan_spelled limit m 0 last_symbols [] c.1 (omega arith)
    ∙ sym (bind_assoc (spelled_at last_symbols c.1) (λ l. got (architecture_tree place a k.0 (place_of_token b.1 0) p.0 f.0 c.0, l.1)) (λ x. got (m, x.1))))
    ∙ sym (bind_assoc (optional_at r is_name (is_same_name a.text) f.1) _ _))
    ∙ sym (bind_assoc (spelled_at foot_symbols p.1) _ _))
    ∙ sym (bind_assoc (repeated_at (is (word PROCESS)) (process_at r e.known n) nothing b.1) _ _))
    ∙ sym (bind_assoc (spelled_at body_symbols k.1) _ _))
    ∙ sym (bind_assoc (token_at (is_same_name e.entity.text) o.1) _ _))
    ∙ sym (bind_assoc (token_at (is (word OF)) ts) _ _)

-- where reading stops, without what is read
abbrev pub rest_of : {A : Type 0} → Outcome A → Outcome (Unit {0})
rest_of o = o >>= λ x. got (tt, x.1)

scan_architecture : (r : Revision) (limit n : ℕ) → n + 3 ≡ limit + 1 → 2 ≤ limit → (place : Place) (e : EntityRead) (ts : List Token)
    → rest_of (scan limit (entity_memory e) (architecture_items r) ts) ≡ rest_of (architecture_at r place e.entity e.known n ts)
unfolding architecture_at
scan_architecture r limit n nesting enough place e ts =
    let name = token_at (is_name_outside e.known.taken) ts in
    ap rest_of (scan_one limit (entity_memory e) architecture_name (body_items r) is_name (is_name_outside e.known.taken) (λ u. refl) (λ u. le-ltb limit 0 (omega arith)) (λ u. refl) ts)
    ∙ bind_assoc name _ _
    ∙ bind_same name _ _ (λ a.
    ap rest_of (scan_body r limit n nesting enough place e a.0 a.1)
    ∙ bind_assoc (body_at r place a.0 e.entity e.known n a.1) (λ x. got (remember (entity_memory e) architecture_name a.0, x.1)) (λ x. got (tt, x.1)))
    ∙ sym (bind_assoc name _ _)

pub scan_file : (r : Revision) (g : Bool) (limit n : ℕ) → n + 3 ≡ limit + 1 → 2 ≤ limit → (ts : List Token) → rest_of (scan limit (no_memory g) (file_items r) ts) ≡ rest_of (file_at r g n ts)
unfolding file_at
scan_file r g limit n nesting enough ts =
    let behind = fixed 0 (word ARCHITECTURE) ∷ architecture_items r in
    ap rest_of
    (scan_spelled limit (no_memory g) 0 head_symbols (entity_name ∷ (fixed_all 0 ports_head_symbols ++ (port_items ++ (fixed_all 0 rest_of_ports_foot ++ (closing_item r true ∷ behind))))) ts (omega arith)
    ∙ bind_same (spelled_at head_symbols ts) _ _ (λ h.
    scan_entity r limit g h.0 behind h.1
    ∙ bind_same (entity_at r (no_names g) h.0 h.1) _ _ (λ e.
    scan_spelled limit (entity_memory e.0) 0 architecture_symbols (architecture_items r) e.1 (omega arith))))
    ∙ bind_assoc (spelled_at head_symbols ts) _ _
    ∙ bind_same (spelled_at head_symbols ts) _ _ (λ h.
    bind_assoc (entity_at r (no_names g) h.0 h.1) _ _
    ∙ bind_same (entity_at r (no_names g) h.0 h.1) _ _ (λ e.
    bind_assoc (spelled_at architecture_symbols e.1) _ _
    ∙ bind_same (spelled_at architecture_symbols e.1) _ _ (λ k.
    scan_architecture r limit n nesting enough (place_of_token k.0 1) e.0 k.1
    ∙ sym (bind_assoc (architecture_at r (place_of_token k.0 1) e.0.entity e.0.known n k.1) (λ a. got (file_tree h.0 e.0.tree (place_of_token k.0 1) a.0, a.1)) (λ x. got (tt, x.1))))
    ∙ sym (bind_assoc (spelled_at architecture_symbols e.1) _ _))
    ∙ sym (bind_assoc (entity_at r (no_names g) h.0 h.1) _ _))
    ∙ sym (bind_assoc (spelled_at head_symbols ts) _ _)
