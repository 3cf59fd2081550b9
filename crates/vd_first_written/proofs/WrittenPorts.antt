-- The ports that are written for those of a 2019 file, each with a declaration of its own.
use Rattle.std.proofs.Common.{◌≡◌, ℕ, List, [], ◌∷◌, ◌++◌, map, refl, sym, ap, ◌∙◌, inl, inr}
use Rattle.std.specs.Prelude.{Contains, ◌⊎◌, ◌==◌, if◌then◌else◌, true, false, Bool}
use Rattle.std.specs.List.{flat_map, AllByRecursion}
use Rattle.std.proofs.lemmas.List.Elements.{Contains-append_left, Contains-append_right}
use Rattle.vd_bytes.specs.declared.places.Place.{Place}
use Rattle.vd_forest.specs.Forest.{Forest, nothing, more, erased, joined}
use Rattle.vd_first_trees.specs.declared.form.Form.{Form}
use Rattle.vd_first_trees.specs.declared.form.Form.TheVariants as form
use Rattle.vd_first_lex.specs.declared.tokens.Kind.{Kind}
use Rattle.vd_first_lex.specs.declared.tokens.Kind.TheVariants.{Word}
use Rattle.vd_first_lex.specs.declared.tokens.Token.{Token}
use Rattle.vd_first_lex.specs.declared.tokens.TheConstants.{OUT, SEMICOLON}
use Rattle.vd_first_grammar.specs.Symbols.{word, Is}
use Rattle.vd_first_grammar.specs.Derivations.{Further, names_of, Port, IsMode, IsPort, port_tokens, IsFurtherPort, further_port_tokens, File, ports_of}
use Rattle.vd_first_grammar.specs.Conditions.{texts_of, port_names, IsPortOf}
use Rattle.vd_first_grammar.specs.Shapes.{identifiers, if_out, subtype_shape, port_shape, further_ports_shape}
use Rattle.vd_first_passes.specs.Lowering.{lowered}
use Rattle.vd_first_passes.specs.Flavour.{each_port, single_ports}
use Rattle.vd_first_print.specs.declared.writing.Position.{Position}
use Rattle.vd_first_print.specs.declared.writing.Position.TheVariants.{First}
use Rattle.vd_first_print.specs.Writing.{next_position, between_if_more, parts_tokens}
use Rattle.vd_first_written.proofs.WrittenFile.{mark_token, single, singles, all_singles, written_file}
use Rattle.vd_first_written.proofs.Lists.{texts_append}
use Rattle.vd_first_written.proofs.PlacelessNames.{items}
use Rattle.vd_first_written.proofs.PlacelessShapes.{bare_port}
use Rattle.vd_first_written.proofs.Alike.{AreAmong}

-- ---- the grammar

single_is : (p : Port) (t : Token) → IsPort p → IsPort (single p t)
single_is p t h = ((refl, tt), refl, h.2, (refl, h.3.1))

singles_are : (p : Port) (ts : List Token) (rest : List (Further Port)) → IsPort p → AllByRecursion IsFurtherPort rest → AllByRecursion IsFurtherPort (singles p ts rest)
singles_are p [] rest h k = k
singles_are p (t ∷ ts) rest h k = ((refl, single_is p t h), singles_are p ts rest h k)

all_singles_are : (fs : List (Further Port)) → AllByRecursion IsFurtherPort fs → AllByRecursion IsFurtherPort (all_singles fs)
all_singles_are [] h = tt
all_singles_are (f ∷ fs) h = singles_are f.item (names_of f.item.names) (all_singles fs) h.0.1 (all_singles_are fs h.1)

pub first_port_is : (f : File) → IsPort f.first_port → IsPort (written_file f).first_port
first_port_is f h = single_is f.first_port f.first_port.names.first h

pub other_ports_are : (f : File) → IsPort f.first_port → AllByRecursion IsFurtherPort f.other_ports → AllByRecursion IsFurtherPort (written_file f).other_ports
other_ports_are f h k = singles_are f.first_port (map (λ n. n.item) f.first_port.names.others) (all_singles f.other_ports) h (all_singles_are f.other_ports k)

-- ---- the names

singles_texts : (p : Port) (ts : List Token) (rest : List (Further Port)) → texts_of (port_names (items (singles p ts rest))) ≡ texts_of (ts ++ port_names (items rest))
singles_texts p [] rest = refl
singles_texts p (t ∷ ts) rest = ap (λ xs. t.text ∷ xs) (singles_texts p ts rest)

all_singles_texts : (fs : List (Further Port)) → texts_of (port_names (items (all_singles fs))) ≡ texts_of (port_names (items fs))
all_singles_texts [] = refl
all_singles_texts (f ∷ fs) =
    singles_texts f.item (names_of f.item.names) (all_singles fs)
    ∙ texts_append (names_of f.item.names) (port_names (items (all_singles fs))) (names_of f.item.names) (port_names (items fs)) refl (all_singles_texts fs)

pub same_port_texts : (f : File) → texts_of (port_names (ports_of (written_file f))) ≡ texts_of (port_names (ports_of f))
same_port_texts f =
    let others = map (λ n. n.item) f.first_port.names.others in
    ap (λ xs. f.first_port.names.first.text ∷ xs) (singles_texts f.first_port others (all_singles f.other_ports))
    ∙ texts_append (names_of f.first_port.names) (port_names (items (all_singles f.other_ports))) (names_of f.first_port.names) (port_names (items f.other_ports)) refl (all_singles_texts f.other_ports)

-- a name that one of these ports has is one of the list's, or of the ports behind it
abbrev IsOneOf : Port → List Token → List Port → ℕ → List ℕ → Type 0
IsOneOf p ts rest mode text = (Is (word mode) p.mode × Contains (texts_of ts) text) ⊎ IsPortOf mode rest text

one_more : (p : Port) (t : Token) (ts : List Token) (rest : List Port) (mode : ℕ) (text : List ℕ) → IsOneOf p ts rest mode text → IsOneOf p (t ∷ ts) rest mode text
one_more p t ts rest mode text (inl h) = inl (h.0, Contains-append_right (t.text ∷ []) (texts_of ts) text h.1)
one_more p t ts rest mode text (inr h) = inr h

singles_among : (p : Port) (ts : List Token) (rest : List (Further Port)) (mode : ℕ) (text : List ℕ) → IsPortOf mode (items (singles p ts rest)) text → IsOneOf p ts (items rest) mode text
singles_among p [] rest mode text h = inr h
singles_among p (t ∷ ts) rest mode text (inl h) = inl (h.0, Contains-append_left (t.text ∷ []) (texts_of ts) text h.1)
singles_among p (t ∷ ts) rest mode text (inr h) = one_more p t ts (items rest) mode text (singles_among p ts rest mode text h)

behind_among : (p : Port) (ts : List Token) (qs rs : List Port) (mode : ℕ) (text : List ℕ) → (IsPortOf mode rs text → IsPortOf mode qs text) → IsOneOf p ts rs mode text → IsOneOf p ts qs mode text
behind_among p ts qs rs mode text each (inl h) = inl h
behind_among p ts qs rs mode text each (inr h) = inr (each h)

all_singles_among : (fs : List (Further Port)) → AreAmong (items fs) (items (all_singles fs))
all_singles_among [] mode text h = h
all_singles_among (f ∷ fs) mode text h =
    behind_among f.item (names_of f.item.names) (items fs) (items (all_singles fs)) mode text (all_singles_among fs mode text)
    (singles_among f.item (names_of f.item.names) (all_singles fs) mode text h)

pub ports_among : (f : File) → AreAmong (ports_of f) (ports_of (written_file f))
ports_among f mode text h =
    behind_among f.first_port (names_of f.first_port.names) (items f.other_ports) (items (all_singles f.other_ports)) mode text (all_singles_among f.other_ports mode text)
    (singles_among f.first_port (names_of f.first_port.names) (all_singles f.other_ports) mode text h)

-- ---- the tree

identifiers_lowered : (ts : List Token) → lowered (identifiers ts) ≡ identifiers ts
identifiers_lowered [] = refl
identifiers_lowered (t ∷ ts) = ap (more form.Identifier t.text t.place nothing) (identifiers_lowered ts)

mode_lowered : (k : Kind) (p : Place) (rest : Forest Form) → lowered (more (if_out k) [] p nothing rest) ≡ more (if_out k) [] p nothing (lowered rest)
mode_lowered (Word n) p rest = mode_at (n == OUT)
  where
    mode_at : (b : Bool) → lowered (more (if b then form.Out else form.In) [] p nothing rest) ≡ more (if b then form.Out else form.In) [] p nothing (lowered rest)
    mode_at true = refl
    mode_at false = refl
mode_lowered _ p rest = refl

-- ports have no process
port_lowered : (p : Port) (next : Forest Form) → lowered (port_shape p next) ≡ port_shape p (lowered next)
port_lowered p next =
    λ i.
    more form.PortDeclaration [] p.names.first.place
    (more form.IdentifierList [] p.names.first.place (identifiers_lowered (names_of p.names) i) (mode_lowered p.mode.kind p.mode.place (subtype_shape p.subtype nothing) i))
    (lowered next)

further_ports_lowered : (fs : List (Further Port)) → lowered (further_ports_shape fs) ≡ further_ports_shape fs
further_ports_lowered [] = refl
further_ports_lowered (f ∷ fs) = port_lowered f.item (further_ports_shape fs) ∙ ap (port_shape f.item) (further_ports_lowered fs)

-- what stands behind the list of a port's names
abbrev mode_and_subtype : Port → Forest Form
mode_and_subtype p = more (if_out p.mode.kind) [] p.mode.place nothing (subtype_shape p.subtype nothing)

singles_tree : (p : Port) (ts : List Token) (fs : List (Further Port)) (rest : Forest Form) → erased (further_ports_shape fs) ≡ erased rest
    → erased (further_ports_shape (singles p ts fs)) ≡ erased (joined (each_port (identifiers ts) (mode_and_subtype p)) rest)
singles_tree p [] fs rest h = h
singles_tree p (t ∷ ts) fs rest h =
    ap (bare_port (t.text ∷ []) (if_out p.mode.kind) p.subtype.text) (singles_tree p ts fs rest h)

all_singles_tree : (fs : List (Further Port)) → erased (further_ports_shape (all_singles fs)) ≡ erased (single_ports (further_ports_shape fs))
all_singles_tree [] = refl
all_singles_tree (f ∷ fs) = singles_tree f.item (names_of f.item.names) (all_singles fs) (single_ports (further_ports_shape fs)) (all_singles_tree fs)

pub ports_tree : (f : File)
    → erased (port_shape (written_file f).first_port (further_ports_shape (written_file f).other_ports)) ≡ erased (single_ports (lowered (port_shape f.first_port (further_ports_shape f.other_ports))))
ports_tree f =
    singles_tree f.first_port (names_of f.first_port.names) (all_singles f.other_ports) (single_ports (further_ports_shape f.other_ports)) (all_singles_tree f.other_ports)
    ∙ ap (λ g. erased (single_ports g)) (sym (port_lowered f.first_port (further_ports_shape f.other_ports) ∙ ap (port_shape f.first_port) (further_ports_lowered f.other_ports)))

-- ---- the tokens

-- a port's tokens are those of its tree, in front of what follows
abbrev IsPrinted : Port → Type 0
IsPrinted p = (i : Position) (next : Forest Form) → parts_tokens form.PortClause i (port_shape p next) ≡ port_tokens p ++ (between_if_more form.PortClause i next ++ parts_tokens form.PortClause (next_position i) next)

abbrev IsFurtherPrinted : Further Port → Type 0
IsFurtherPrinted f = (f.sign ≡ mark_token SEMICOLON) × IsPrinted f.item

single_printed : (p : Port) (t : Token) → IsMode p.mode → IsPrinted (single p t)
single_printed p t (inl h) i next = rw h refl
single_printed p t (inr h) i next = rw h refl

singles_printed : (p : Port) (ts : List Token) (rest : List (Further Port)) → IsMode p.mode → AllByRecursion IsFurtherPrinted rest → AllByRecursion IsFurtherPrinted (singles p ts rest)
singles_printed p [] rest h k = k
singles_printed p (t ∷ ts) rest h k = ((refl, single_printed p t h), singles_printed p ts rest h k)

all_singles_printed : (fs : List (Further Port)) → AllByRecursion IsFurtherPort fs → AllByRecursion IsFurtherPrinted (all_singles fs)
all_singles_printed [] h = tt
all_singles_printed (f ∷ fs) h = singles_printed f.item (names_of f.item.names) (all_singles fs) h.0.1.2 (all_singles_printed fs h.1)

list_printed : (i : Position) (p : Port) (fs : List (Further Port)) → IsPrinted p → AllByRecursion IsFurtherPrinted fs
    → parts_tokens form.PortClause i (port_shape p (further_ports_shape fs)) ≡ port_tokens p ++ flat_map further_port_tokens fs
list_printed i p [] h k = h i nothing
list_printed i p (f ∷ fs) h k =
    h i (port_shape f.item (further_ports_shape fs))
    ∙ ap (λ ts. port_tokens p ++ ts) (λ j. sym k.0.0 j ∷ list_printed (next_position i) f.item fs k.0.1 k.1 j)

pub ports_printed : (f : File) → IsPort f.first_port → AllByRecursion IsFurtherPort f.other_ports
    → parts_tokens form.PortClause First (port_shape (written_file f).first_port (further_ports_shape (written_file f).other_ports))
    ≡ port_tokens (written_file f).first_port ++ flat_map further_port_tokens (written_file f).other_ports
ports_printed f h k =
    list_printed First (single f.first_port f.first_port.names.first) (singles f.first_port (map (λ n. n.item) f.first_port.names.others) (all_singles f.other_ports))
    (single_printed f.first_port f.first_port.names.first h.2)
    (singles_printed f.first_port (map (λ n. n.item) f.first_port.names.others) (all_singles f.other_ports) h.2 (all_singles_printed f.other_ports k))
