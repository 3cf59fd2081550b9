-- What is written for a valid 2019 tree is a valid 1993 tree, node by node.
use Rattle.std.proofs.Common.{◌≡◌, ℕ, true, false, List, [], ◌∷◌, refl, sym, ap, subst, ◌∙◌}
use Rattle.std.specs.Prelude.{if◌then◌else◌}
use Rattle.std.specs.List.{list_any, list_all}
use Rattle.vd_bytes.specs.declared.places.Place.{Place}
use Rattle.vd_forest.specs.Forest.{Forest, nothing, more, no_place, parts_of, next_of, with_next}
use Rattle.vd_trees.specs.declared.revision.Revision.TheVariants.{V2019, V1993}
use Rattle.vd_first_trees.specs.declared.form.Form.{Form}
use Rattle.vd_first_trees.specs.declared.form.Form.TheVariants as form
use Rattle.vd_first_trees.specs.Forms.{same_form}
use Rattle.vd_first_trees.specs.Validity.{Slot, one, optional, many, some, slots_of, slots_left, has_text, is_valid}
use Rattle.vd_first_passes.specs.Lowering.{read_names, read_set, listed, lowered}
use Rattle.vd_first_passes.specs.Flavour.{each_port, single_ports, with_is, closed_by, flavoured}
use Rattle.vd_first_passes.proofs.ValidityLemmas.{both, stands, valid, plain_form, plain_slots, plain_among, text_kept, slots_plain, left_plain, many_joined, some_joined, many_some, kept, reads_some, read_set_some}

-- ---- what has no process is left as it is

not_process : (f : Form) → plain_form f ≡ true → same_form f form.ProcessStatement ≡ false
not_process form.ProcessStatement h = cc
not_process _ h = refl

lowered_plain : (slots : List Slot) (f : Forest Form) → plain_slots slots ≡ true → is_valid V2019 slots f ≡ true → lowered f ≡ f
lowered_plain slots nothing q h = refl
lowered_plain [] (more f t p parts next) q h = cc
lowered_plain (s ∷ slots) (more f t p parts next) q h =
    let st = stands V2019 s slots f t p parts next h in
    let qs = both (list_all plain_form s.forms) (plain_slots slots) q in
    let plain = plain_among f s.forms st.allowed qs.0 in
    let inner = lowered_plain (slots_of V2019 f) parts (slots_plain f plain) st.inner in
    let after = lowered_plain (slots_left s slots) next (left_plain s.repeats s.forms slots qs.0 qs.1) st.after in
    ap (λ b. if b then more f t p (listed parts) (lowered next) else more f t p (lowered parts) (lowered next)) (not_process f plain)
    ∙ ap (λ a. more f t p a (lowered next)) inner ∙ ap (more f t p parts) after

-- ---- ports, one by one

abbrev ports : List Form
ports = form.PortDeclaration ∷ []

abbrev mode_slots : List Slot
mode_slots = one (form.In ∷ form.Out ∷ []) ∷ one (form.SubtypeIndication ∷ []) ∷ []

port_stands : (s : Slot) (f : Form) (t : List ℕ) (p : Place) (parts ms rest : Forest Form) → list_any (same_form form.PortDeclaration) s.forms ≡ true → list_any (same_form f) (form.Identifier ∷ []) ≡ true → has_text V1993 f t ≡ true → is_valid V1993 (slots_of V1993 f) parts ≡ true → is_valid V1993 mode_slots ms ≡ true → is_valid V1993 (slots_left s []) rest ≡ true
    → is_valid V1993 (s ∷ []) (more form.PortDeclaration [] p (more form.IdentifierList [] p (more f t p parts nothing) ms) rest) ≡ true
port_stands s f t p parts ms rest z a b c d e =
    let name = valid V1993 (some (form.Identifier ∷ [])) [] f t p parts nothing (record { allowed = a; text = b; inner = c; after = refl }) in
    let list = valid V1993 (one (form.IdentifierList ∷ [])) mode_slots form.IdentifierList [] p (more f t p parts nothing) ms (record { allowed = refl; text = refl; inner = name; after = d }) in
    valid V1993 s [] form.PortDeclaration [] p (more form.IdentifierList [] p (more f t p parts nothing) ms) rest (record { allowed = z; text = refl; inner = list; after = e })

each_many : (ids ms : Forest Form) → is_valid V1993 (many (form.Identifier ∷ []) ∷ []) ids ≡ true → is_valid V1993 mode_slots ms ≡ true → is_valid V1993 (many ports ∷ []) (each_port ids ms) ≡ true
each_many nothing ms h m = refl
each_many (more f t p parts next) ms h m =
    let st = stands V1993 (many (form.Identifier ∷ [])) [] f t p parts next h in
    port_stands (many ports) f t p parts ms (each_port next ms) refl st.allowed st.text st.inner m (each_many next ms st.after m)

each_some : (ids ms : Forest Form) → is_valid V1993 (some (form.Identifier ∷ []) ∷ []) ids ≡ true → is_valid V1993 mode_slots ms ≡ true → is_valid V1993 (some ports ∷ []) (each_port ids ms) ≡ true
each_some nothing ms h m = cc
each_some (more f t p parts next) ms h m =
    let st = stands V1993 (some (form.Identifier ∷ [])) [] f t p parts next h in
    port_stands (some ports) f t p parts ms (each_port next ms) refl st.allowed st.text st.inner m (each_many next ms st.after m)

-- the identifiers of a declaration, and what stands behind them
record Declares (parts : Forest Form) : Type 0 where
  names : is_valid V1993 (some (form.Identifier ∷ []) ∷ []) (parts_of parts) ≡ true
  mode : is_valid V1993 mode_slots (next_of parts) ≡ true

declares : (parts : Forest Form) → is_valid V1993 (slots_of V1993 form.PortDeclaration) parts ≡ true → Declares parts
declares nothing h = cc
declares (more form.IdentifierList t p parts next) h =
    let st = stands V1993 (one (form.IdentifierList ∷ [])) mode_slots form.IdentifierList t p parts next h in
    record { names = st.inner; mode = st.after }
declares (more _ t p parts next) h = cc

single_many : (f : Forest Form) → is_valid V1993 (many ports ∷ []) f ≡ true → is_valid V1993 (many ports ∷ []) (single_ports f) ≡ true
single_many nothing h = refl
single_many (more form.PortDeclaration t p parts next) h =
    let st = stands V1993 (many ports) [] form.PortDeclaration t p parts next h in
    let d = declares parts st.inner in
    many_joined V1993 ports (each_port (parts_of parts) (next_of parts)) (single_ports next) (each_many (parts_of parts) (next_of parts) (many_some V1993 (form.Identifier ∷ []) (parts_of parts) d.names) d.mode) (single_many next st.after)
single_many (more _ t p parts next) h = cc

single_some : (f : Forest Form) → is_valid V1993 (some ports ∷ []) f ≡ true → is_valid V1993 (some ports ∷ []) (single_ports f) ≡ true
single_some nothing h = cc
single_some (more form.PortDeclaration t p parts next) h =
    let st = stands V1993 (some ports) [] form.PortDeclaration t p parts next h in
    let d = declares parts st.inner in
    some_joined V1993 ports (each_port (parts_of parts) (next_of parts)) (single_ports next) (each_some (parts_of parts) (next_of parts) d.names d.mode) (single_many next st.after)
single_some (more _ t p parts next) h = cc

-- ---- a process

abbrev after_list : List Slot
after_list = one (form.Is ∷ form.Absent ∷ []) ∷ some (form.SignalAssignment ∷ []) ∷ []

-- the statements of a process
statements_stand : (f : Forest Form) → is_valid V2019 after_list f ≡ true → is_valid V2019 (some (form.SignalAssignment ∷ []) ∷ []) (next_of f) ≡ true
statements_stand nothing h = cc
statements_stand (more f t p parts next) h = (stands V2019 (one (form.Is ∷ form.Absent ∷ [])) (some (form.SignalAssignment ∷ []) ∷ []) f t p parts next h).after

abbrev assignments : List Form
assignments = form.SignalAssignment ∷ []

with_is_many : (f : Forest Form) → is_valid V1993 (many assignments ∷ []) f ≡ true → is_valid V1993 (many assignments ∷ []) (with_is f) ≡ true
with_is_many nothing h = h
with_is_many (more form.SignalAssignment t p parts next) h =
    let st = stands V1993 (many assignments) [] form.SignalAssignment t p parts next h in
    valid V1993 (many assignments) [] form.SignalAssignment t p parts (with_is next) (record { allowed = refl; text = st.text; inner = st.inner; after = with_is_many next st.after })
with_is_many (more _ t p parts next) h = cc

with_is_some : (f : Forest Form) → is_valid V1993 (some assignments ∷ []) f ≡ true → is_valid V1993 (some assignments ∷ []) (with_is f) ≡ true
with_is_some nothing h = h
with_is_some (more form.SignalAssignment t p parts next) h =
    let st = stands V1993 (some assignments) [] form.SignalAssignment t p parts next h in
    valid V1993 (some assignments) [] form.SignalAssignment t p parts (with_is next) (record { allowed = refl; text = st.text; inner = st.inner; after = with_is_many next st.after })
with_is_some (more _ t p parts next) h = cc

abbrev is_or_absent : Slot
is_or_absent = one (form.Is ∷ form.Absent ∷ [])

with_is_after : (f : Forest Form) → is_valid V1993 after_list f ≡ true → is_valid V1993 after_list (with_is f) ≡ true
with_is_after nothing h = h
with_is_after (more form.Is t p parts next) h =
    let st = stands V1993 is_or_absent (some assignments ∷ []) form.Is t p parts next h in
    valid V1993 is_or_absent (some assignments ∷ []) form.Is t p parts (with_is next) (record { allowed = refl; text = st.text; inner = st.inner; after = with_is_some next st.after })
with_is_after (more form.Absent t p parts next) h =
    let st = stands V1993 is_or_absent (some assignments ∷ []) form.Absent t p parts next h in
    valid V1993 is_or_absent (some assignments ∷ []) form.Is t p parts (with_is next) (record { allowed = refl; text = st.text; inner = st.inner; after = with_is_some next st.after })
with_is_after (more _ t p parts next) h = cc

abbrev list_slot : Slot
list_slot = one (form.SensitivityList ∷ [])

abbrev any_sensitivity : Slot
any_sensitivity = one (form.All ∷ form.SensitivityList ∷ [])

process_valid : (f : Forest Form) → is_valid V2019 (slots_of V2019 form.ProcessStatement) f ≡ true → is_valid V1993 (slots_of V1993 form.ProcessStatement) (with_is (listed f)) ≡ true
process_valid nothing h = cc
process_valid (more form.All t p parts next) h =
    let st = stands V2019 any_sensitivity after_list form.All t p parts next h in
    let names = kept (some (form.Name ∷ []) ∷ []) (read_set (next_of next)) refl (read_set_some (read_names (next_of next)) (reads_some (next_of next) (statements_stand next st.after))) in
    valid V1993 list_slot after_list form.SensitivityList [] p (read_set (next_of next)) (with_is next) (record { allowed = refl; text = refl; inner = names; after = with_is_after next (kept after_list next refl st.after) })
process_valid (more form.SensitivityList t p parts next) h =
    let st = stands V2019 any_sensitivity after_list form.SensitivityList t p parts next h in
    valid V1993 list_slot after_list form.SensitivityList t p parts (with_is next) (record { allowed = refl; text = st.text; inner = kept (some (form.Name ∷ []) ∷ []) parts refl st.inner; after = with_is_after next (kept after_list next refl st.after) })
process_valid (more _ t p parts next) h = cc

-- ---- a unit's closing

closing_inner : (f : Form) (i parts : Forest Form) → is_valid V1993 (optional (form.Identifier ∷ []) ∷ []) i ≡ true → is_valid V1993 (slots_of V1993 f) parts ≡ true → is_valid V1993 (slots_of V1993 f) (if same_form f form.Closing then i else parts) ≡ true
closing_inner form.Closing i parts j h = j
closing_inner _ i parts j h = h

closed_valid : (slots : List Slot) (i f : Forest Form) → is_valid V1993 (optional (form.Identifier ∷ []) ∷ []) i ≡ true → is_valid V1993 slots f ≡ true → is_valid V1993 slots (closed_by i f) ≡ true
closed_valid slots i nothing j h = h
closed_valid [] i (more f t p parts next) j h = cc
closed_valid (s ∷ slots) i (more f t p parts next) j h =
    let st = stands V1993 s slots f t p parts next h in
    valid V1993 s slots f t p (if same_form f form.Closing then i else parts) (closed_by i next)
    (record { allowed = st.allowed; text = st.text; inner = closing_inner f i parts j st.inner; after = closed_valid (slots_left s slots) i next j st.after })

-- the identifier that stands first in a unit, which lowering leaves as it is
first_lowered : (slots : List Slot) (f : Forest Form) → is_valid V2019 (one (form.Identifier ∷ []) ∷ slots) f ≡ true → with_next (lowered f) nothing ≡ with_next f nothing
first_lowered slots nothing h = refl
first_lowered slots (more form.Identifier t p parts next) h =
    let st = stands V2019 (one (form.Identifier ∷ [])) slots form.Identifier t p parts next h in
    ap (λ a. more form.Identifier t p a nothing) (lowered_plain [] parts refl st.inner)
first_lowered slots (more _ t p parts next) h = cc

first_valid : (slots : List Slot) (f : Forest Form) → is_valid V2019 (one (form.Identifier ∷ []) ∷ slots) f ≡ true → is_valid V1993 (optional (form.Identifier ∷ []) ∷ []) (with_next f nothing) ≡ true
first_valid slots nothing h = refl
first_valid slots (more f t p parts next) h =
    let st = stands V2019 (one (form.Identifier ∷ [])) slots f t p parts next h in
    kept (optional (form.Identifier ∷ []) ∷ []) (more f t p parts nothing) refl (valid V2019 (optional (form.Identifier ∷ [])) [] f t p parts nothing (record { allowed = st.allowed; text = st.text; inner = st.inner; after = refl }))

-- ---- the whole

-- the parts that are written for a tree
abbrev written_parts : Form → Forest Form → Forest Form
written_parts f parts = parts_of (flavoured (lowered (more f [] no_place parts nothing)))

written_is : (f : Form) (t : List ℕ) (p : Place) (parts next : Forest Form) → flavoured (lowered (more f t p parts next)) ≡ more f t p (written_parts f parts) (flavoured (lowered next))
written_is form.ProcessStatement t p parts next = refl
written_is form.PortClause t p parts next = refl
written_is form.EntityDeclaration t p parts next = refl
written_is form.ArchitectureBody t p parts next = refl
written_is _ t p parts next = refl

unit_valid : (slots : List Slot) (parts : Forest Form) → is_valid V2019 (one (form.Identifier ∷ []) ∷ slots) parts ≡ true → is_valid V1993 (one (form.Identifier ∷ []) ∷ slots) (flavoured (lowered parts)) ≡ true
    → is_valid V1993 (one (form.Identifier ∷ []) ∷ slots) (closed_by (with_next (lowered parts) nothing) (flavoured (lowered parts))) ≡ true
unit_valid slots parts h i =
    closed_valid (one (form.Identifier ∷ []) ∷ slots) (with_next (lowered parts) nothing) (flavoured (lowered parts))
    (subst (λ g. is_valid V1993 (optional (form.Identifier ∷ []) ∷ []) g ≡ true) (sym (first_lowered slots parts h)) (first_valid slots parts h)) i

inner_valid : (f : Form) (parts : Forest Form) → is_valid V2019 (slots_of V2019 f) parts ≡ true → is_valid V1993 (slots_of V2019 f) (flavoured (lowered parts)) ≡ true → is_valid V1993 (slots_of V1993 f) (written_parts f parts) ≡ true
inner_valid form.PortClause parts h i =
    subst (λ g. is_valid V1993 (some ports ∷ []) (single_ports g) ≡ true) (sym (lowered_plain (some ports ∷ []) parts refl h)) (single_some parts (kept (some ports ∷ []) parts refl h))
inner_valid form.ProcessStatement parts h i = process_valid parts h
inner_valid form.EntityDeclaration parts h i = unit_valid (one (form.PortClause ∷ []) ∷ one (form.Closing ∷ []) ∷ []) parts h i
inner_valid form.ArchitectureBody parts h i = unit_valid (one (form.Identifier ∷ []) ∷ one (form.StatementPart ∷ []) ∷ one (form.Closing ∷ []) ∷ []) parts h i
inner_valid _ parts h i = i

pub written_valid : (slots : List Slot) (f : Forest Form) → is_valid V2019 slots f ≡ true → is_valid V1993 slots (flavoured (lowered f)) ≡ true
written_valid slots nothing h = h
written_valid [] (more f t p parts next) h = cc
written_valid (s ∷ slots) (more f t p parts next) h =
    let st = stands V2019 s slots f t p parts next h in
    let inner = inner_valid f parts st.inner (written_valid (slots_of V2019 f) parts st.inner) in
    let after = written_valid (slots_left s slots) next st.after in
    subst (λ g. is_valid V1993 (s ∷ slots) g ≡ true) (sym (written_is f t p parts next))
    (valid V1993 s slots f t p (written_parts f parts) (flavoured (lowered next)) (record { allowed = st.allowed; text = text_kept f t st.text; inner = inner; after = after }))
