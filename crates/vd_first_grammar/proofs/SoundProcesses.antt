-- What is read of processes is derived so, and its trees are the shapes of the derivations.
use Rattle.std.proofs.Common.{◌≡◌, ℕ, List, [], ◌∷◌, ◌++◌, Option, Some, None, refl, sym, ap, ◌∙◌}
use Rattle.std.specs.List.{flat_map, AllByRecursion}
use Rattle.vd_forest.specs.Forest.{Forest, nothing, turned}
use Rattle.vd_forest.proofs.ForestLemmas.{reversed_reversed}
use Rattle.vd_first_trees.specs.declared.form.Form.{Form}
use Rattle.vd_first_trees.specs.declared.form.Form.TheVariants as form
use Rattle.vd_trees.specs.declared.revision.Revision.{Revision}
use Rattle.vd_trees.specs.declared.revision.Revision.TheVariants.{V2019, V1993}
use Rattle.vd_first_lex.specs.declared.tokens.Token.{Token}
use Rattle.vd_first_lex.specs.declared.tokens.TheConstants.{ALL, BEGIN, COMMA, IS, PROCESS, CLOSING, ARROW}
use Rattle.vd_first_grammar.specs.Symbols.{word, mark, Is, Spell}
use Rattle.vd_first_grammar.specs.Derivations.{Further, Names, names_of, names_tokens, further_name_tokens, IsFurtherName, AreNames, Sensitivity, every, listed, IsSensitivity, sensitivity_tokens, IsOptional, optional_tokens, expression_tokens, Process, IsProcess, process_tokens}
use Rattle.vd_first_grammar.specs.Refusals.{place_of_token}
use Rattle.vd_first_grammar.specs.Shapes.{node, name_nodes, sensitivity_shape, is_shape, assignment_shape, process_shape, processes_shape}
use Rattle.vd_first_grammar.specs.Reader.{is, is_name_outside, token_at, spelled_at, optional_at, repeated_at, Known, name_before, name_tree, expression_at, process_head, process_foot, further_listed_at, listed_at, every_at, sensitivity_at, sensitivity_form, is_form, FrontRead, front_at, process_tree, process_at}
use Rattle.vd_first_grammar.proofs.Steps.{OnGot, got_bind, got_weaker, token_got, repeated_at_kept}
use Rattle.vd_first_grammar.proofs.RunFiles.{process_parts}
use Rattle.vd_first_grammar.proofs.SoundExpressions.{is_so, is_outside_so, spelled_got, optional_sound, expression_sound}
use Rattle.vd_first_grammar.proofs.SoundPorts.{all-push, map-push, flat_map-push}

-- ---- sensitivities

pub record ReadsListed (ts : List Token) (x : Forest Form × List Token) : Type 0 where
  pub names : Names
  pub are_names : AreNames names
  pub tokens : names_tokens names ++ x.1 ≡ ts
  pub made : x.0 ≡ turned (name_nodes (names_of names)) nothing

turned_names-push : (ts : List Token) (t : Token) (rest : Forest Form) → turned (name_nodes (ts ++ t ∷ [])) rest ≡ name_before t (turned (name_nodes ts) rest)
turned_names-push [] t rest = refl
turned_names-push (u ∷ ts) t rest = turned_names-push ts t (name_before u rest)

further_listed_sound : (outs : List (List ℕ)) (ts : List Token) (made : Forest Form) (rest : List Token) → ReadsListed ts (made, rest) → OnGot (further_listed_at outs made rest) (ReadsListed ts)
unfolding further_listed_at
further_listed_sound outs ts made rest held =
    got_bind (token_at (is (mark COMMA)) rest) _ _ _ (token_got (is (mark COMMA)) rest) (λ x comma.
    got_bind (token_at (is_name_outside outs) x.1) _ _ _ (token_got (is_name_outside outs) x.1) (λ y name.
    let ns = held.names in
    let f : Further Token = record { sign = x.0; item = y.0 } in
    let one : IsFurtherName f = (is_so (mark COMMA) x.0 comma.0, (is_outside_so outs y.0 name.0).0) in
    let tokens : further_name_tokens f ++ y.1 ≡ rest = ap (λ (r : List Token). x.0 ∷ r) name.1 ∙ comma.1 in
    record {
      names = record { first = ns.first; others = ns.others ++ f ∷ [] };
      are_names = (held.are_names.0, all-push IsFurtherName ns.others f held.are_names.1 one);
      tokens = ap (λ (r : List Token). ns.first ∷ r) (flat_map-push further_name_tokens ns.others f y.1 ∙ ap (λ (r : List Token). flat_map further_name_tokens ns.others ++ r) tokens) ∙ held.tokens;
      made = ap (name_before y.0) held.made ∙ sym (turned_names-push (names_of ns) y.0 nothing) ∙ ap (λ (us : List Token). turned (name_nodes (ns.first ∷ us)) nothing) (sym (map-push (λ (g : Further Token). g.item) ns.others f));
    }))

listed_sound : (outs : List (List ℕ)) (ts : List Token) → OnGot (listed_at outs ts) (ReadsListed ts)
unfolding listed_at
listed_sound outs ts =
    got_bind (token_at (is_name_outside outs) ts) _ _ _ (token_got (is_name_outside outs) ts) (λ x first.
    repeated_at_kept (is (mark COMMA)) (further_listed_at outs) (λ a r. ReadsListed ts (a, r)) (further_listed_sound outs ts) (name_tree x.0) x.1
    (record { names = record { first = x.0; others = [] }; are_names = ((is_outside_so outs x.0 first.0).0, tt); tokens = first.1; made = refl }))

pub record ReadsSensitivity (r : Revision) (ts : List Token) (x : Forest Form × List Token) : Type 0 where
  pub sensitivity : Sensitivity
  pub is_sensitivity : IsSensitivity r sensitivity
  pub tokens : sensitivity_tokens sensitivity ++ x.1 ≡ ts
  pub shape : (next : Forest Form) → node (sensitivity_form r) (place_of_token ts 0) (turned x.0 nothing) next ≡ sensitivity_shape sensitivity next

pub sensitivity_sound : (r : Revision) (outs : List (List ℕ)) (ts : List Token) → OnGot (sensitivity_at r outs ts) (ReadsSensitivity r ts)
unfolding sensitivity_at every_at
sensitivity_sound V2019 outs ts =
    got_bind (token_at (is (word ALL)) ts) _ _ _ (token_got (is (word ALL)) ts) (λ x all.
    record {
      sensitivity = every x.0;
      is_sensitivity = is_so (word ALL) x.0 all.0;
      tokens = all.1;
      shape = λ next. ap (λ (ks : List Token). node form.All (place_of_token ks 0) nothing next) (sym all.1);
    })
sensitivity_sound V1993 outs ts =
    got_weaker (listed_at outs ts) _ _ (λ x read.
    let ns = read.names in
    let names : turned x.0 nothing ≡ name_nodes (names_of ns) = ap (λ (f : Forest Form). turned f nothing) read.made ∙ reversed_reversed (name_nodes (names_of ns)) in
    record {
      sensitivity = listed ns;
      is_sensitivity = read.are_names;
      tokens = read.tokens;
      shape = λ next. ap (λ (ks : List Token). node form.SensitivityList (place_of_token ks 0) (turned x.0 nothing) next) (sym read.tokens) ∙ ap (λ (f : Forest Form). node form.SensitivityList ns.first.place f next) names;
    }) (listed_sound outs ts)

-- ---- what stands before a target

-- the place of a process is that of its first token
pub head_place : (head behind : List Token) → Spell process_head head → place_of_token (head ++ behind) 0 ≡ place_of_token head 0
head_place [] behind h = absurd h
head_place (t ∷ head) behind h = refl

pub is_place_at : (o : Option Token) (b : Token) (rest : List Token) (next : Forest Form) → node (is_form o) (place_of_token (optional_tokens o ++ (b ∷ rest)) 0) nothing next ≡ is_shape o b.place next
is_place_at None b rest next = refl
is_place_at (Some t) b rest next = refl

pub record ReadsFront (r : Revision) (ts : List Token) (x : FrontRead × List Token) : Type 0 where
  pub head : List Token
  pub sensitivity : Sensitivity
  pub closing : Token
  pub is_word : Option Token
  pub begin_word : Token
  pub is_head : Spell process_head head
  pub is_sensitivity : IsSensitivity r sensitivity
  pub is_closing : Is (mark CLOSING) closing
  pub is_is : IsOptional r (Is (word IS)) is_word
  pub is_begin : Is (word BEGIN) begin_word
  pub tokens : head ++ (sensitivity_tokens sensitivity ++ (closing ∷ (optional_tokens is_word ++ (begin_word ∷ x.1)))) ≡ ts
  pub place : x.0.place ≡ place_of_token head 0
  pub shape : (next : Forest Form) → node (sensitivity_form r) x.0.sensitivity (turned x.0.names nothing) (node x.0.word x.0.word_place nothing next) ≡ sensitivity_shape sensitivity (is_shape is_word begin_word.place next)

pub front_sound : (r : Revision) (outs : List (List ℕ)) (ts : List Token) → OnGot (front_at r outs ts) (ReadsFront r ts)
unfolding front_at
front_sound r outs ts =
    got_bind (spelled_at process_head ts) _ _ _ (spelled_got process_head ts) (λ h head.
    got_bind (sensitivity_at r outs h.1) _ _ _ (sensitivity_sound r outs h.1) (λ s sens.
    got_bind (token_at (is (mark CLOSING)) s.1) _ _ _ (token_got (is (mark CLOSING)) s.1) (λ c closing.
    got_bind (optional_at r (is (word IS)) (is (word IS)) c.1) _ _ _ (optional_sound r (is (word IS)) (is (word IS)) (Is (word IS)) (is_so (word IS)) c.1) (λ w is_word.
    got_bind (token_at (is (word BEGIN)) w.1) _ _ _ (token_got (is (word BEGIN)) w.1) (λ b begin_word.
    let behind : optional_tokens w.0 ++ (b.0 ∷ b.1) ≡ c.1 = ap (λ (rest : List Token). optional_tokens w.0 ++ rest) begin_word.1 ∙ is_word.1 in
    let inner = sensitivity_tokens sens.sensitivity ++ (c.0 ∷ (optional_tokens w.0 ++ (b.0 ∷ b.1))) in
    let tokens : h.0 ++ inner ≡ ts = ap (λ (rest : List Token). h.0 ++ rest) (ap (λ (rest : List Token). sensitivity_tokens sens.sensitivity ++ rest) (ap (λ (rest : List Token). c.0 ∷ rest) behind ∙ closing.1) ∙ sens.tokens) ∙ head.1 in
    record {
      head = h.0;
      sensitivity = sens.sensitivity;
      closing = c.0;
      is_word = w.0;
      begin_word = b.0;
      is_head = head.0;
      is_sensitivity = sens.is_sensitivity;
      is_closing = is_so (mark CLOSING) c.0 closing.0;
      is_is = is_word.0;
      is_begin = is_so (word BEGIN) b.0 begin_word.0;
      tokens = tokens;
      place = ap (λ (ks : List Token). place_of_token ks 0) (sym tokens) ∙ head_place h.0 inner head.0;
      shape = λ next. sens.shape (node (is_form w.0) (place_of_token c.1 0) nothing next) ∙ ap (sensitivity_shape sens.sensitivity) (ap (λ (ks : List Token). node (is_form w.0) (place_of_token ks 0) nothing next) (sym behind) ∙ is_place_at w.0 b.0 b.1 next);
    })))))

-- ---- processes

pub record ReadsProcess (r : Revision) (next : Forest Form) (ts : List Token) (x : Forest Form × List Token) : Type 0 where
  pub process : Process
  pub is_process : IsProcess r process
  pub tokens : process_tokens process ++ x.1 ≡ ts
  pub tree : x.0 ≡ process_shape process next

pub process_sound : (r : Revision) (known : Known) (limit : ℕ) (made : Forest Form) (ts : List Token) → OnGot (process_at r known limit made ts) (ReadsProcess r made ts)
unfolding process_at
process_sound r known limit made ts =
    got_bind (front_at r known.outs ts) _ _ _ (front_sound r known.outs ts) (λ h front.
    got_bind (token_at (is_name_outside known.ins) h.1) _ _ _ (token_got (is_name_outside known.ins) h.1) (λ t target.
    got_bind (token_at (is (mark ARROW)) t.1) _ _ _ (token_got (is (mark ARROW)) t.1) (λ a arrow.
    got_bind (expression_at known.outs limit a.1) _ _ _ (expression_sound known.outs limit a.1) (λ v value.
    got_bind (spelled_at process_foot v.1) _ _ _ (spelled_got process_foot v.1) (λ f foot.
    let e = value.expression in
    let p : Process = record { head = front.head; sensitivity = front.sensitivity; closing = front.closing; is_word = front.is_word; begin_word = front.begin_word; target = t.0; arrow = a.0; value = e; foot = f.0 } in
    let behind : t.0 ∷ a.0 ∷ (expression_tokens e ++ (f.0 ++ f.1)) ≡ h.1 =
    ap (λ (rest : List Token). t.0 ∷ rest) (ap (λ (rest : List Token). a.0 ∷ rest) (ap (λ (rest : List Token). expression_tokens e ++ rest) foot.1 ∙ value.tokens) ∙ arrow.1) ∙ target.1 in
    record {
      process = p;
      is_process = (front.is_head, front.is_sensitivity, front.is_closing, front.is_is, front.is_begin, (is_outside_so known.ins t.0 target.0).0, is_so (mark ARROW) a.0 arrow.0, value.is_expression, foot.0);
      tokens = process_parts p f.1 ∙ ap (λ (rest : List Token). front.head ++ (sensitivity_tokens front.sensitivity ++ (front.closing ∷ (optional_tokens front.is_word ++ (front.begin_word ∷ rest))))) behind ∙ front.tokens;
      tree = ap (λ (g : Forest Form). process_tree r h.0 t.0 g made) value.tree
          ∙ ap (λ (g : Forest Form). node form.ProcessStatement h.0.place g made) (front.shape (assignment_shape t.0 e nothing))
          ∙ ap (λ q. node form.ProcessStatement q (sensitivity_shape front.sensitivity (is_shape front.is_word front.begin_word.place (assignment_shape t.0 e nothing))) made) front.place;
    })))))

pub record ReadsProcesses (r : Revision) (ts : List Token) (x : Forest Form × List Token) : Type 0 where
  pub processes : List Process
  pub are_processes : AllByRecursion (IsProcess r) processes
  pub tokens : flat_map process_tokens processes ++ x.1 ≡ ts
  pub made : x.0 ≡ turned (processes_shape processes) nothing

turned_processes-push : (ps : List Process) (p : Process) (rest : Forest Form) → turned (processes_shape (ps ++ p ∷ [])) rest ≡ process_shape p (turned (processes_shape ps) rest)
turned_processes-push [] p rest = refl
turned_processes-push (q ∷ ps) p rest = turned_processes-push ps p (process_shape q rest)

next_process_sound : (r : Revision) (known : Known) (limit : ℕ) (ts : List Token) (made : Forest Form) (rest : List Token) → ReadsProcesses r ts (made, rest) → OnGot (process_at r known limit made rest) (ReadsProcesses r ts)
next_process_sound r known limit ts made rest held =
    got_weaker (process_at r known limit made rest) _ _ (λ x read.
    record {
      processes = held.processes ++ read.process ∷ [];
      are_processes = all-push (IsProcess r) held.processes read.process held.are_processes read.is_process;
      tokens = flat_map-push process_tokens held.processes read.process x.1 ∙ ap (λ (rest : List Token). flat_map process_tokens held.processes ++ rest) read.tokens ∙ held.tokens;
      made = read.tree ∙ ap (process_shape read.process) held.made ∙ sym (turned_processes-push held.processes read.process nothing);
    }) (process_sound r known limit made rest)

pub processes_sound : (r : Revision) (known : Known) (limit : ℕ) (ts : List Token) → OnGot (repeated_at (is (word PROCESS)) (process_at r known limit) nothing ts) (ReadsProcesses r ts)
processes_sound r known limit ts =
    repeated_at_kept (is (word PROCESS)) (process_at r known limit) (λ a rest. ReadsProcesses r ts (a, rest)) (next_process_sound r known limit ts) nothing ts
    (record { processes = []; are_processes = tt; tokens = refl; made = refl })
