-- What the passes leave of a process: its statements and what it is sensitive to.
use Rattle.std.proofs.Common.{◌≡◌, ℕ, Bool, true, false, List, [], ◌∷◌, ◌++◌, Option, Some, None, refl, sym, ap, ◌∙◌, append_assoc, append-nil}
use Rattle.std.specs.Prelude.{if◌then◌else◌}
use Rattle.std.specs.List.{AllZip}
use Rattle.vd_bytes.specs.declared.places.Place.{Place}
use Rattle.vd_forest.specs.Forest.{Forest, nothing, more, text_of, next_of, erased, joined}
use Rattle.vd_forest.specs.Texts.{with_text}
use Rattle.vd_first_trees.specs.declared.form.Form.{Form}
use Rattle.vd_first_trees.specs.declared.form.Form.TheVariants as form
use Rattle.vd_first_trees.specs.Forms.{same_form}
use Rattle.vd_trees.specs.declared.paths.Scope.{Scope}
use Rattle.vd_first_lex.specs.declared.tokens.Token.{Token}
use Rattle.vd_first_grammar.specs.Derivations.{Expression, Process as ProcessText, Sensitivity, every, listed as names_of_list}
use Rattle.vd_first_grammar.specs.Shapes.{processes_shape, assignment_shape, sensitivity_shape, is_shape}
use Rattle.vd_first_passes.specs.Lowering.{names_in, read_names, is_among, unless, firsts, read_set as written_set, listed, lowered}
use Rattle.vd_first_passes.specs.Flavour.{with_is, flavoured}
use Rattle.vd_first_elaboration.specs.Expressions.{names_read, each_once}
use Rattle.vd_first_elaboration.specs.Processes.{statements_of, targets_of, names_assigned, names_listed, sensitivity, driven_by}
use Rattle.vd_first_elaboration.specs.Elaboration.{processes_from, driven_names, scopes_of}
use Rattle.vd_first_correspondence.specs.Laws.{ListsAreReadSets}
use Rattle.vd_first_correspondence.specs.Relations.{SameProcess}
use Rattle.vd_first_correspondence.proofs.PortLemmas.{next_erased}

-- ---- places play no role

text_erased : (f : Forest Form) → text_of (erased f) ≡ text_of f
text_erased nothing = refl
text_erased (more f t p parts next) = refl

listed_erased : (f : Forest Form) → names_listed (erased f) ≡ names_listed f
listed_erased nothing = refl
listed_erased (more f t p parts next) = let a = text_erased parts in let b = listed_erased next in cc

read_erased : (f : Forest Form) → names_read (erased f) ≡ names_read f
read_erased nothing = refl
read_erased (more f t p parts next) =
    let a = text_erased parts in
    let b = read_erased parts in
    let c = read_erased next in
    cc

-- ---- the written list is the read set

listed_joined : (f g : Forest Form) → names_listed (joined f g) ≡ names_listed f ++ names_listed g
listed_joined nothing g = refl
listed_joined (more f t p parts next) g = ap (λ ns. text_of parts ∷ ns) (listed_joined next g)

name_or_inside : (b : Bool) (f : Form) (t : List ℕ) (p : Place) (parts : Forest Form) → names_listed (names_in parts) ≡ names_read parts → names_listed (if b then more f t p parts nothing else names_in parts) ≡ (if b then text_of parts ∷ [] else names_read parts)
name_or_inside true f t p parts e = refl
name_or_inside false f t p parts e = e

names_in_read : (f : Forest Form) → names_listed (names_in f) ≡ names_read f
names_in_read nothing = refl
names_in_read (more f t p parts next) =
    listed_joined (if same_form f form.Name then more f t p parts nothing else names_in parts) (names_in next)
    ∙ ap (λ ns. ns ++ names_listed (names_in next)) (name_or_inside (same_form f form.Name) f t p parts (names_in_read parts))
    ∙ ap (λ ns. (if same_form f form.Name then text_of parts ∷ [] else names_read parts) ++ ns) (names_in_read next)

names_assigned_read : (f : Forest Form) → names_listed (read_names f) ≡ names_assigned f
names_assigned_read nothing = refl
names_assigned_read (more f t p parts next) =
    listed_joined (names_in (next_of parts)) (read_names next)
    ∙ ap (λ ns. ns ++ names_listed (read_names next)) (names_in_read (next_of parts))
    ∙ ap (λ ns. names_read (next_of parts) ++ ns) (names_assigned_read next)

-- one name more, new or not
once_more : (b : Bool) (before : List (List ℕ)) (f : Form) (t : List ℕ) (p : Place) (parts rest : Forest Form) → (names : List (List ℕ)) → each_once (if b then before else before ++ text_of parts ∷ []) names ≡ (if b then before else before ++ text_of parts ∷ []) ++ names_listed rest → each_once (if b then before else before ++ text_of parts ∷ []) names ≡ before ++ names_listed (unless b f t p parts rest)
once_more true before f t p parts rest names e = e
once_more false before f t p parts rest names e = e ∙ append_assoc before (text_of parts ∷ []) (names_listed rest)

firsts_once : (before : List (List ℕ)) (f : Forest Form) → each_once before (names_listed f) ≡ before ++ names_listed (firsts before f)
firsts_once before nothing = sym (append-nil before)
firsts_once before (more f t p parts next) =
    once_more (is_among before (text_of parts)) before f t p parts (firsts (with_text before (text_of parts)) next) (names_listed next)
    (firsts_once (with_text before (text_of parts)) next)

-- the names of the written list are the read set of the statements
pub lists_are_sets : ListsAreReadSets
lists_are_sets s = sym (firsts_once [] (read_names s)) ∙ ap (each_once []) (names_assigned_read s)

written_list : (statements : Forest Form) → names_listed (erased (written_set statements)) ≡ each_once [] (names_assigned statements)
written_list s = listed_erased (written_set s) ∙ lists_are_sets s

-- ---- one process

assigned_erased : (f : Forest Form) → names_assigned (erased f) ≡ names_assigned f
assigned_erased nothing = refl
assigned_erased (more f t p parts next) =
    let a = ap names_read (next_erased parts) ∙ read_erased (next_of parts) in
    let b = assigned_erased next in
    cc

-- the parts of a process in the text
abbrev pub parts_in_text : Sensitivity → Option Token → Place → Token → Expression → Forest Form
parts_in_text s word place target value = sensitivity_shape s (is_shape word place (assignment_shape target value nothing))

pub statements_in_text : (s : Sensitivity) (word : Option Token) (place : Place) (t : Token) (v : Expression) → statements_of (erased (parts_in_text s word place t v)) ≡ erased (assignment_shape t v nothing)
statements_in_text (every a) None place t v = refl
statements_in_text (every a) (Some word) place t v = refl
statements_in_text (names_of_list ns) None place t v = refl
statements_in_text (names_of_list ns) (Some word) place t v = refl

-- the parts of a process whose `all` is written as a list, before and after the word `is` is put in
statements_listed : (s : Sensitivity) (word : Option Token) (place : Place) (t : Token) (v : Expression) → statements_of (erased (parts_in_text s word place t v)) ≡ statements_of (erased (listed (parts_in_text s word place t v)))
statements_listed (every a) None place t v = refl
statements_listed (every a) (Some word) place t v = refl
statements_listed (names_of_list ns) None place t v = refl
statements_listed (names_of_list ns) (Some word) place t v = refl

statements_with_is : (s : Sensitivity) (word : Option Token) (place : Place) (t : Token) (v : Expression) → statements_of (erased (listed (parts_in_text s word place t v))) ≡ statements_of (erased (with_is (listed (parts_in_text s word place t v))))
statements_with_is (every a) None place t v = refl
statements_with_is (every a) (Some word) place t v = refl
statements_with_is (names_of_list ns) None place t v = refl
statements_with_is (names_of_list ns) (Some word) place t v = refl

set_alike : (t : Token) (v : Expression) → each_once [] (names_assigned (erased (assignment_shape t v nothing))) ≡ names_listed (erased (written_set (assignment_shape t v nothing)))
set_alike t v =
    ap (each_once []) (assigned_erased (assignment_shape t v nothing)) ∙ sym (written_list (assignment_shape t v nothing))

sensitivity_listed : (s : Sensitivity) (word : Option Token) (place : Place) (t : Token) (v : Expression) → sensitivity (erased (parts_in_text s word place t v)) ≡ sensitivity (erased (listed (parts_in_text s word place t v)))
sensitivity_listed (every a) None place t v = set_alike t v
sensitivity_listed (every a) (Some word) place t v = set_alike t v
sensitivity_listed (names_of_list ns) None place t v = refl
sensitivity_listed (names_of_list ns) (Some word) place t v = refl

sensitivity_with_is : (s : Sensitivity) (word : Option Token) (place : Place) (t : Token) (v : Expression) → sensitivity (erased (listed (parts_in_text s word place t v))) ≡ sensitivity (erased (with_is (listed (parts_in_text s word place t v))))
sensitivity_with_is (every a) None place t v = refl
sensitivity_with_is (every a) (Some word) place t v = refl
sensitivity_with_is (names_of_list ns) None place t v = refl
sensitivity_with_is (names_of_list ns) (Some word) place t v = refl

-- ---- all processes

-- the processes of a file's tree, as the source has them, with lists, and as they are written
abbrev pub source_processes : List ProcessText → Forest Form
source_processes ps = erased (processes_shape ps)

abbrev pub listed_processes : List ProcessText → Forest Form
listed_processes ps = erased (lowered (processes_shape ps))

abbrev pub written_processes : List ProcessText → Forest Form
written_processes ps = erased (flavoured (lowered (processes_shape ps)))

driven_listed : (p : ProcessText) → driven_by (erased (parts_in_text p.sensitivity p.is_word p.begin_word.place p.target p.value)) ≡ driven_by (erased (listed (parts_in_text p.sensitivity p.is_word p.begin_word.place p.target p.value)))
driven_listed p = ap (λ s. each_once [] (targets_of s)) (statements_listed p.sensitivity p.is_word p.begin_word.place p.target p.value)

driven_with_is : (p : ProcessText) → driven_by (erased (listed (parts_in_text p.sensitivity p.is_word p.begin_word.place p.target p.value))) ≡ driven_by (erased (with_is (listed (parts_in_text p.sensitivity p.is_word p.begin_word.place p.target p.value))))
driven_with_is p = ap (λ s. each_once [] (targets_of s)) (statements_with_is p.sensitivity p.is_word p.begin_word.place p.target p.value)

pub names_listed_alike : (ps : List ProcessText) → driven_names (source_processes ps) ≡ driven_names (listed_processes ps)
names_listed_alike [] = refl
names_listed_alike (p ∷ ps) = let a = driven_listed p in let b = names_listed_alike ps in cc

pub names_written_alike : (ps : List ProcessText) → driven_names (listed_processes ps) ≡ driven_names (written_processes ps)
names_written_alike [] = refl
names_written_alike (p ∷ ps) = let a = driven_with_is p in let b = names_written_alike ps in cc

pub processes_listed : (ps : List ProcessText) (k j : ℕ) → k ≡ j → AllZip SameProcess (processes_from k (source_processes ps)) (processes_from j (listed_processes ps))
processes_listed [] k j e = tt
processes_listed (p ∷ ps) k j e = (
  record {
    first_driver = e;
    statements = statements_listed p.sensitivity p.is_word p.begin_word.place p.target p.value;
    sensitivity_is = sensitivity_listed p.sensitivity p.is_word p.begin_word.place p.target p.value;
  },
  processes_listed ps _ _ (let d = driven_listed p in cc),
)

pub processes_written : (ps : List ProcessText) (k j : ℕ) → k ≡ j → AllZip SameProcess (processes_from k (listed_processes ps)) (processes_from j (written_processes ps))
processes_written [] k j e = tt
processes_written (p ∷ ps) k j e = (
  record {
    first_driver = e;
    statements = statements_with_is p.sensitivity p.is_word p.begin_word.place p.target p.value;
    sensitivity_is = sensitivity_with_is p.sensitivity p.is_word p.begin_word.place p.target p.value;
  },
  processes_written ps _ _ (let d = driven_with_is p in cc),
)

-- ---- where they stand

pub scopes_listed : (scope : Scope) (ps : List ProcessText) → scopes_of scope (source_processes ps) ≡ scopes_of scope (listed_processes ps)
scopes_listed scope [] = refl
scopes_listed scope (p ∷ ps) = ap (λ ss. scope ∷ ss) (scopes_listed scope ps)

pub scopes_written : (scope : Scope) (ps : List ProcessText) → scopes_of scope (listed_processes ps) ≡ scopes_of scope (written_processes ps)
scopes_written scope [] = refl
scopes_written scope (p ∷ ps) = ap (λ ss. scope ∷ ss) (scopes_written scope ps)
