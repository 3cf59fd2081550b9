-- Places play no role in ports and processes.
use Rattle.std.proofs.Common.{◌≡◌, ℕ, suc, ◌+◌, List, [], ◌∷◌, ◌++◌, map, length, replicate, refl, sym, ap, ap₂, ◌∙◌, arith, length-append}
use Rattle.vd_bytes.specs.declared.places.Place.{Place}
use Rattle.vd_forest.specs.Forest.{Forest, nothing, more, text_of, parts_of, next_of, tree_count, erased}
use Rattle.vd_forest.proofs.ForestLemmas.{text_of_erased, erased_parts_of, erased_next_of}
use Rattle.vd_first_trees.specs.declared.form.Form.{Form}
use Rattle.vd_trees.specs.declared.paths.Scope.{Scope}
use Rattle.vd_first_elaboration.specs.Ports.{Mode, mode_of, last_text_or, type_mark, ports_named, declared_ports}
use Rattle.vd_first_elaboration.specs.Expressions.{names_read, each_once}
use Rattle.vd_first_elaboration.specs.Processes.{statements_of, target_of, targets_of, names_assigned, names_listed, sensitivity, driven_by, number_of}
use Rattle.vd_first_elaboration.specs.Elaboration.{processes_from, driven_names, scopes_of}
use Rattle.vd_first_processes.specs.Operations.{operations}
use Rattle.vd_first_processes.specs.Resolved.{ResolvedAssignment, resolved_assignments, resolved}
use Rattle.vd_first_processes.proofs.OperationLemmas.{operations_erased}

-- ---- ports

last_erased : (text : List ℕ) (f : Forest Form) → last_text_or text (erased f) ≡ last_text_or text f
last_erased text nothing = refl
last_erased text (more f t p parts next) = last_erased t next

mark_erased : (f : Forest Form) → type_mark (erased f) ≡ type_mark f
mark_erased nothing = refl
mark_erased (more f t p nothing next) = refl
mark_erased (more f t p (more g u q parts after) next) = last_erased [] parts

named_erased : (f : Forest Form) (mode : Mode) (mark : List ℕ) → ports_named (erased f) mode mark ≡ ports_named f mode mark
named_erased nothing mode mark = refl
named_erased (more f t p parts next) mode mark = ap (λ ps. record { name = t; mode = mode; mark = mark } ∷ ps) (named_erased next mode mark)

mode_erased : (f : Forest Form) → mode_of (erased f) ≡ mode_of f
mode_erased nothing = refl
mode_erased (more f t p parts next) = refl

pub ports_erased : (f : Forest Form) → declared_ports (erased f) ≡ declared_ports f
ports_erased nothing = refl
ports_erased (more f t p parts next) =
    let names = ap (λ g. ports_named g (mode_of (next_of (erased parts))) (type_mark (next_of (next_of (erased parts))))) (sym (erased_parts_of parts))
    ∙ named_erased (parts_of parts) (mode_of (next_of (erased parts))) (type_mark (next_of (next_of (erased parts)))) in
    let mode : mode_of (next_of (erased parts)) ≡ mode_of (next_of parts) = ap mode_of (sym (erased_next_of parts)) ∙ mode_erased (next_of parts) in
    let mark : type_mark (next_of (next_of (erased parts))) ≡ type_mark (next_of (next_of parts)) =
    ap (λ g. type_mark (next_of g)) (sym (erased_next_of parts)) ∙ ap type_mark (sym (erased_next_of (next_of parts))) ∙ mark_erased (next_of (next_of parts)) in
    let rest = ports_erased next in
    cc

named_long : (f : Forest Form) (mode : Mode) (mark : List ℕ) → length (ports_named f mode mark) ≡ tree_count f
named_long nothing mode mark = refl
named_long (more f t p parts next) mode mark = omega (arith, named_long next mode mark)

-- as many ports as a declaration has identifiers, and those of the declarations behind it
pub ports_long : (f : Form) (t : List ℕ) (p : Place) (parts next : Forest Form) → length (declared_ports (more f t p parts next)) ≡ tree_count (parts_of parts) + length (declared_ports next)
ports_long f t p parts next =
    let first = ports_named (parts_of parts) (mode_of (next_of parts)) (type_mark (next_of (next_of parts))) in
    omega (arith, length-append first (declared_ports next), named_long (parts_of parts) (mode_of (next_of parts)) (type_mark (next_of (next_of parts))))

-- ---- names of processes

listed_erased : (f : Forest Form) → names_listed (erased f) ≡ names_listed f
listed_erased nothing = refl
listed_erased (more f t p parts next) = let a = text_of_erased parts in let b = listed_erased next in cc

read_erased : (f : Forest Form) → names_read (erased f) ≡ names_read f
read_erased nothing = refl
read_erased (more f t p parts next) =
    let a = text_of_erased parts in
    let b = read_erased parts in
    let c = read_erased next in
    cc

assigned_erased : (f : Forest Form) → names_assigned (erased f) ≡ names_assigned f
assigned_erased nothing = refl
assigned_erased (more f t p parts next) =
    let a = ap names_read (sym (erased_next_of parts)) ∙ read_erased (next_of parts) in let b = assigned_erased next in cc

target_erased : (f : Forest Form) → target_of (erased f) ≡ target_of f
target_erased f = ap text_of (sym (erased_parts_of f)) ∙ text_of_erased (parts_of f)

targets_erased : (f : Forest Form) → targets_of (erased f) ≡ targets_of f
targets_erased nothing = refl
targets_erased (more f t p parts next) = let a = target_erased parts in let b = targets_erased next in cc

statements_erased : (f : Forest Form) → statements_of (erased f) ≡ erased (statements_of f)
statements_erased f = ap next_of (sym (erased_next_of f)) ∙ sym (erased_next_of (next_of f))

pub driven_erased : (f : Forest Form) → driven_by (erased f) ≡ driven_by f
driven_erased f = ap (λ g. each_once [] (targets_of g)) (statements_erased f) ∙ ap (each_once []) (targets_erased (statements_of f))

sensitivity_erased : (f : Forest Form) → sensitivity (erased f) ≡ sensitivity f
sensitivity_erased nothing = refl
sensitivity_erased (more f t p parts next) =
    let a = ap (λ g. each_once [] (names_assigned g)) (sym (erased_next_of next)) ∙ ap (each_once []) (assigned_erased (next_of next)) in
    let b = listed_erased parts in
    cc

-- ---- processes

module _ (numbers : List ℕ → ℕ) where
  assignments_erased : (first : ℕ) (targets : List (List ℕ)) (f : Forest Form) → resolved_assignments numbers first targets (erased f) ≡ resolved_assignments numbers first targets f
  assignments_erased first targets nothing = refl
  assignments_erased first targets (more f t p parts next) =
      let a = target_erased parts in
      let b = ap (operations numbers) (sym (erased_next_of parts)) ∙ operations_erased numbers (next_of parts) in
      ap₂ (λ (r : ResolvedAssignment) rs. r ∷ rs)
      (ap₂ (λ n os. record { driver = first + number_of targets n; value = os }) a b)
      (assignments_erased first targets next)

  pub resolved_erased : (first : ℕ) (f : Forest Form) → resolved numbers (record { first_driver = first; parts = erased f }) ≡ resolved numbers (record { first_driver = first; parts = f })
  resolved_erased first f =
      ap₂ (λ made on. record { assignments = made; on = on })
      (ap₂ (resolved_assignments numbers first) (driven_erased f) (statements_erased f) ∙ assignments_erased first (driven_by f) (statements_of f))
      (ap (map numbers) (sensitivity_erased f))

  pub processes_erased : (first : ℕ) (f : Forest Form) → map (resolved numbers) (processes_from first (erased f)) ≡ map (resolved numbers) (processes_from first f)
  processes_erased first nothing = refl
  processes_erased first (more f t p parts next) =
      ap₂ (λ r rs. r ∷ rs) (resolved_erased first parts)
      (ap (λ ns. map (resolved numbers) (processes_from (first + length ns) (erased next))) (driven_erased parts)
      ∙ processes_erased (first + length (driven_by parts)) next)

pub driven_names_erased : (f : Forest Form) → driven_names (erased f) ≡ driven_names f
driven_names_erased nothing = refl
driven_names_erased (more f t p parts next) = ap₂ (λ xs ys. xs ++ ys) (driven_erased parts) (driven_names_erased next)

pub processes_long : (first : ℕ) (f : Forest Form) → length (processes_from first f) ≡ tree_count f
processes_long first nothing = refl
processes_long first (more f t p parts next) = omega (arith, processes_long (first + length (driven_by parts)) next)

pub scopes_replicated : (scope : Scope) (f : Forest Form) (n : ℕ) → tree_count f ≡ n → scopes_of scope f ≡ replicate n scope
scopes_replicated scope nothing n e = ap (λ k. replicate k scope) e
scopes_replicated scope (more f t p parts next) n e =
    let more_one : suc (tree_count next) ≡ n = omega (arith, e) in
    ap (λ ss. scope ∷ ss) (scopes_replicated scope next (tree_count next) refl) ∙ ap (λ k. replicate k scope) more_one
