-- The processes that are written for those of a 2019 file, each with the list of what it reads.
use Rattle.std.proofs.Common.{◌≡◌, ℕ, List, [], ◌∷◌, ◌++◌, map, Option, Some, None, refl, sym, ap, subst, ◌∙◌}
use Rattle.std.specs.List.{flat_map, AllByRecursion}
use Rattle.std.proofs.lemmas.List.{append-nil, append_assoc}
use Rattle.vd_forest.specs.Forest.{Forest, nothing, more, erased}
use Rattle.vd_first_trees.specs.declared.form.Form.{Form}
use Rattle.vd_first_trees.specs.declared.form.Form.TheVariants as form
use Rattle.vd_trees.specs.declared.revision.Revision.TheVariants.{V2019, V1993}
use Rattle.vd_first_lex.specs.declared.tokens.Token.{Token}
use Rattle.vd_first_lex.specs.declared.tokens.TheConstants.{BEGIN, END, IS, PROCESS, OPENING, CLOSING, SEMICOLON, ARROW}
use Rattle.vd_first_grammar.specs.Symbols.{word, Is}
use Rattle.vd_first_grammar.specs.Derivations.{names_of, IsFurtherName, further_name_tokens, names_tokens, Expression, expression_tokens, Sensitivity, every, listed, IsSensitivity, Process, IsProcess, process_tokens}
use Rattle.vd_first_grammar.specs.Conditions.{texts_of, expression_names, read_names, process_names}
use Rattle.vd_first_grammar.specs.Shapes.{name_nodes, sensitivity_shape, is_shape, assignment_shape, process_shape, processes_shape}
use Rattle.vd_first_grammar.proofs.RunFiles.{none_optional}
use Rattle.vd_first_passes.specs.Lowering.{listed as with_list, read_set, lowered}
use Rattle.vd_first_passes.specs.Flavour.{with_is, flavoured}
use Rattle.vd_first_print.specs.declared.writing.Position.{Position}
use Rattle.vd_first_print.specs.declared.writing.Position.TheVariants.{First}
use Rattle.vd_first_print.specs.Writing.{name_token, next_position, between_if_more, parts_tokens}
use Rattle.vd_first_written.proofs.WrittenFile.{word_token, mark_token, first_name, other_names, once, read_once, further_name, written_expression, written_list, written_process}
use Rattle.vd_first_written.proofs.Lists.{all_append, all_parts}
use Rattle.vd_first_written.proofs.Alike.{ReadsNoMore, same_texts}
use Rattle.vd_first_written.proofs.PlacelessShapes.{bare_identifier, bare_node, bare_names, names_erased}
use Rattle.vd_first_written.proofs.ReadNames.{names_begin, read_set_is, all_read_once}
use Rattle.vd_first_written.proofs.WrittenExpressions.{between_expressions, expression_is, same_names, same_tree, value_printed}

-- ---- the grammar

further_names_are : (ts : List Token) → AllByRecursion IsFurtherName (map further_name ts)
further_names_are [] = tt
further_names_are (t ∷ ts) = ((refl, refl), further_names_are ts)

pub process_is : (p : Process) → IsProcess V1993 (written_process p)
process_is p = (
  (refl, (refl, tt)),
  (refl, further_names_are (once ((first_name p.value).text ∷ []) (other_names p.value))),
  refl,
  refl,
  refl,
  refl,
  refl,
  expression_is p.value,
  (refl, (refl, (refl, (refl, tt)))),
)

pub processes_are : (ps : List Process) → AllByRecursion (IsProcess V1993) (map written_process ps)
processes_are [] = tt
processes_are (p ∷ ps) = (process_is p, processes_are ps)

-- ---- the names

items_texts : (ts : List Token) → texts_of (map (λ f. f.item) (map further_name ts)) ≡ texts_of ts
items_texts [] = refl
items_texts (t ∷ ts) = ap (λ xs. t.text ∷ xs) (items_texts ts)

list_texts : (e : Expression) → texts_of (names_of (written_list e)) ≡ texts_of (read_once e)
list_texts e = ap (λ xs. (first_name e).text ∷ xs) (items_texts (once ((first_name e).text ∷ []) (other_names e)))

-- what holds of the texts of all names of a value holds of the list and of the value that is written
list_all : (Q : List ℕ → Type 0) (e : Expression) → AllByRecursion (λ t. Q t.text) (expression_names e) → AllByRecursion (λ t. Q t.text) (names_of (written_list e))
list_all Q e h =
    same_texts Q (read_once e) (names_of (written_list e)) (list_texts e)
    (all_read_once (λ t. Q t.text) e (subst (AllByRecursion (λ t. Q t.text)) (names_begin e) h))

value_all : (Q : List ℕ → Type 0) (e : Expression) → AllByRecursion (λ t. Q t.text) (expression_names e) → AllByRecursion (λ t. Q t.text) (expression_names (written_expression e))
value_all Q e h = same_texts Q (expression_names e) (expression_names (written_expression e)) (same_names e) h

pub reads_no_more : (p : Process) (t : Token) → p.sensitivity ≡ every t → ReadsNoMore p (written_process p)
reads_no_more p t is =
    record {
      reads = λ Q h.
          let own = subst (λ s. AllByRecursion (λ t. Q t.text) (read_names (record p { sensitivity = s }))) is h in
          all_append (λ t. Q t.text) (names_of (written_list p.value)) (expression_names (written_expression p.value)) (list_all Q p.value own) (value_all Q p.value own);
      target = refl;
    }

pub every_word : (s : Sensitivity) → IsSensitivity V2019 s → (t : Token) × (s ≡ every t)
every_word (every t) h = (t, refl)
every_word (listed ns) h = absurd h

-- what holds of the texts of all names of a process holds of those of the written one
process_all : (Q : List ℕ → Type 0) (p : Process) (t : Token) → p.sensitivity ≡ every t → AllByRecursion (λ t. Q t.text) (process_names p) → AllByRecursion (λ t. Q t.text) (process_names (written_process p))
process_all Q p t is h =
    let own = subst (λ s. AllByRecursion (λ t. Q t.text) (process_names (record p { sensitivity = s }))) is h in
    all_append (λ t. Q t.text) (names_of (written_list p.value)) (name_token p.target.text ∷ expression_names (written_expression p.value)) (list_all Q p.value own.1)
    (own.0, value_all Q p.value own.1)

pub processes_all : (Q : List ℕ → Type 0) (ps : List Process) → AllByRecursion (IsProcess V2019) ps → AllByRecursion (λ t. Q t.text) (flat_map process_names ps)
    → AllByRecursion (λ t. Q t.text) (flat_map process_names (map written_process ps))
processes_all Q [] are h = tt
processes_all Q (p ∷ ps) are h =
    let parts = all_parts (λ t. Q t.text) (process_names p) (flat_map process_names ps) h in
    let only = every_word p.sensitivity are.0.1 in
    all_append (λ t. Q t.text) (process_names (written_process p)) (flat_map process_names (map written_process ps)) (process_all Q p only.0 only.1 parts.0)
    (processes_all Q ps are.1 parts.1)

-- ---- the tree

-- the parts of a process
abbrev parts_shape : Sensitivity → Option Token → Process → Forest Form
parts_shape s o p = sensitivity_shape s (is_shape o p.begin_word.place (assignment_shape p.target p.value nothing))

list_tree : (target : Token) (value : Expression) → erased (name_nodes (names_of (written_list value))) ≡ erased (read_set (assignment_shape target value nothing))
list_tree target value =
    names_erased (names_of (written_list value)) ∙ ap bare_names (list_texts value) ∙ sym (names_erased (read_once value)) ∙ ap erased (sym (read_set_is target value))

all_tree : (p : Process) (t : Token) → erased (parts_shape (listed (written_list p.value)) (Some (word_token IS)) (written_process p)) ≡ erased (with_is (with_list (parts_shape (every t) None p)))
all_tree p t =
    let list = list_tree p.target p.value in
    let value = same_tree p.value nothing nothing refl in
    λ i.
    bare_node form.SensitivityList (list i)
    (bare_node form.Is nothing (bare_node form.SignalAssignment (bare_node form.Name (bare_identifier p.target.text nothing) (value i)) nothing))

parts_tree : (p : Process) → IsProcess V2019 p
    → erased (parts_shape (listed (written_list p.value)) (Some (word_token IS)) (written_process p)) ≡ erased (with_is (with_list (parts_shape p.sensitivity p.is_word p)))
parts_tree p h =
    let only = every_word p.sensitivity h.1 in
    let none = none_optional (Is (word IS)) p.is_word h.3 in
    all_tree p only.0 ∙ (λ i. erased (with_is (with_list (parts_shape (sym only.1 i) (sym none i) p))))

pub processes_tree : (ps : List Process) → AllByRecursion (IsProcess V2019) ps → erased (processes_shape (map written_process ps)) ≡ erased (flavoured (lowered (processes_shape ps)))
processes_tree [] are = refl
processes_tree (p ∷ ps) are =
    let parts = parts_tree p are.0 in
    let rest = processes_tree ps are.1 in
    λ i. bare_node form.ProcessStatement (parts i) (rest i)

-- ---- the tokens

further_printed : (i : Position) (t : Token) (ts : List Token)
    → parts_tokens form.SensitivityList i (name_nodes (name_token t.text ∷ map (λ f. f.item) (map further_name ts))) ≡ name_token t.text ∷ flat_map further_name_tokens (map further_name ts)
further_printed i t [] = refl
further_printed i t (u ∷ ts) = ap (λ us. name_token t.text ∷ (further_name u).sign ∷ us) (further_printed (next_position i) u ts)

-- no token stands between two processes
no_between : (i : Position) (next : Forest Form) → between_if_more form.StatementPart i next ≡ []
no_between i nothing = refl
no_between i (more f t p parts next) = refl

-- a process as it is printed, from the tokens of its list, of the arrow and of its value, those behind it, and the next ones
abbrev process_from : Token → List Token → List Token → List Token → List Token → List Token → List Token
process_from target list arrow value gap rest =
    (word_token PROCESS ∷ mark_token OPENING
    ∷ (((list ++ []) ++ mark_token CLOSING ∷ word_token IS ∷ word_token BEGIN ∷ (((target ∷ (arrow ++ value)) ++ mark_token SEMICOLON ∷ []) ++ []))
    ++ word_token END ∷ word_token PROCESS ∷ mark_token SEMICOLON ∷ []))
    ++ (gap ++ rest)

regrouped : (target : Token) (list value rest : List Token)
    → process_from target list (mark_token ARROW ∷ []) value [] rest
    ≡ (word_token PROCESS ∷ mark_token OPENING ∷ (list ++ (mark_token CLOSING ∷ word_token IS ∷ word_token BEGIN ∷ target ∷ mark_token ARROW
    ∷ (value ++ mark_token SEMICOLON ∷ word_token END ∷ word_token PROCESS ∷ mark_token SEMICOLON ∷ []))))
    ++ rest
regrouped target list value rest =
    let front = λ (ts : List Token). mark_token CLOSING ∷ word_token IS ∷ word_token BEGIN ∷ target ∷ mark_token ARROW ∷ ts in
    let foot = word_token END ∷ word_token PROCESS ∷ mark_token SEMICOLON ∷ [] in
    let assigned = value ++ mark_token SEMICOLON ∷ [] in
    ap (λ ts. (word_token PROCESS ∷ mark_token OPENING ∷ ts) ++ rest)
    ((λ j. (append-nil list j ++ front (append-nil assigned j)) ++ foot)
    ∙ append_assoc list (front assigned) foot
    ∙ ap (λ ts. list ++ front ts) (append_assoc value (mark_token SEMICOLON ∷ []) foot))

process_printed : (p : Process) (i : Position) (next : Forest Form)
    → parts_tokens form.StatementPart i (process_shape (written_process p) next) ≡ process_tokens (written_process p) ++ parts_tokens form.StatementPart (next_position i) next
process_printed p i next =
    let list = further_printed First (first_name p.value) (once ((first_name p.value).text ∷ []) (other_names p.value)) in
    let value = value_printed p.value in
    let arrow = between_expressions form.SignalAssignment First (written_expression p.value) nothing in
    let gap = no_between i next in
    let rest = parts_tokens form.StatementPart (next_position i) next in
    (λ j. process_from (name_token p.target.text) (list j) (arrow j) (value j) (gap j) rest)
    ∙ regrouped (name_token p.target.text) (names_tokens (written_list p.value)) (expression_tokens (written_expression p.value)) rest

pub processes_printed : (ps : List Process) (i : Position) → parts_tokens form.StatementPart i (processes_shape (map written_process ps)) ≡ flat_map process_tokens (map written_process ps)
processes_printed [] i = refl
processes_printed (p ∷ ps) i =
    process_printed p i (processes_shape (map written_process ps)) ∙ ap (λ ts. process_tokens (written_process p) ++ ts) (processes_printed ps (next_position i))
