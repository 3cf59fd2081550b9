-- A body is like the declaration of its function: its parameters and generics one by one, by identifiers, by the tokens of marks, constraints and
-- defaults, and by what the names in them mean; and the mark of its result. Lists, `in`, `constant` and `pure` don't count. (IEEE 1076, subprogram
-- bodies; conformance rules.)
use Rattle.std.specs.Prelude.{Bool, List, None, Option, Some, [], bytes_eq, false, not, true, ℕ, ◌&&◌, ◌++◌, ◌==◌, ◌||◌, ◌∷◌}
use Rattle.std.specs.List.{list_any}
use Rattle.vd_bytes.specs.declared.answers.Refused.{Refused}
use Rattle.vd_bytes.specs.declared.places.Place.{Place}
use Rattle.vd_forest.specs.Forest.{Forest, more, nothing, skipped}
use Rattle.vd_forms.specs.Forms.{same_form}
use Rattle.vd_forms.specs.declared.form.Form.{Form}
use Rattle.vd_meaning.specs.Meanings.{made}
use Rattle.vd_meaning.specs.Names.{number_or}
use Rattle.vd_resolved.specs.declared.node.Resolved.{Resolved}
use Rattle.vd_value_rules.specs.Designs.{Design}
use Rattle.vd_value_rules.specs.Judging.{refused_if}
use Rattle.vd_value_rules.specs.Knowledge.{meaning_at, parts_at}
use Rattle.vd_value_rules.specs.Standings.{State}
use Rattle.vd_forms.specs.declared.form.Form.TheVariants as form

-- ---- trees that say the same, where some declarations of the one stand for some of the other, as the parameters do by their place

abbrev pub is_pair : List (ℕ × ℕ) → ℕ → ℕ → Bool
is_pair ps m n = list_any (λ p. (p.0 == m) && (p.1 == n)) ps

abbrev pub means_same : List (ℕ × ℕ) → Option ℕ → Option ℕ → Bool
means_same ps None None = true
means_same ps (Some m) (Some n) = (m == n) || is_pair ps m n
means_same ps _ _ = false

abbrev pub same_node : List (ℕ × ℕ) → Resolved → Resolved → Bool
same_node ps m n = same_form m.form n.form && means_same ps m.declaration n.declaration && means_same ps m.mark n.mark && (m.position == n.position)

abbrev pub say_same : List (ℕ × ℕ) → Forest Resolved → Forest Resolved → Bool
say_same ps nothing nothing = true
say_same ps (more m text place parts next) (more n text' place' parts' next') =
    same_node ps m n && bytes_eq text text' && say_same ps parts parts' && say_same ps next next'
say_same ps _ _ = false

-- the first tree of a forest alone
abbrev pub alone : Forest Resolved → Forest Resolved
alone nothing = nothing
alone (more n text place parts next) = more n text place parts nothing

-- ---- what a function declares one by one: an identifier or designator, its number, and the trees that count

pub record InterfaceItem : Type 0 where
  pub form : Form
  pub name : List ℕ
  pub number : ℕ
  pub trees : List (Forest Resolved)

abbrev pub each_declared : Form → List (List ℕ) → List ℕ → List (Forest Resolved) → List InterfaceItem
each_declared f (name ∷ names) (n ∷ ns) trees = record { form = f; name = name; number = n; trees = trees } ∷ each_declared f names ns trees
each_declared f _ _ trees = []

abbrev pub tree_at : ℕ → Forest Resolved → Forest Resolved
tree_at n parts = alone (skipped n parts)

-- a parameter: its subtype
abbrev pub parameters_in : Design → Forest Resolved → List InterfaceItem
parameters_in d nothing = []
parameters_in d (more n text place parts next) =
    each_declared form.ParameterDeclaration (meaning_at d 1 parts).texts (meaning_at d 1 parts).numbers (tree_at 3 parts ∷ []) ++ parameters_in d next

-- a generic: of a constant its subtype and its default, of a function the result and what may stand behind it; its parameters are compared too
abbrev pub trees_of_parameters : List InterfaceItem → List (Forest Resolved)
trees_of_parameters [] = []
trees_of_parameters (p ∷ ps) = p.trees ++ trees_of_parameters ps

abbrev pub generic_in : Form → Design → Resolved → Forest Resolved → List InterfaceItem
generic_in form.GenericConstant d n parts =
    each_declared n.form (meaning_at d 1 parts).texts (meaning_at d 1 parts).numbers (tree_at 3 parts ∷ tree_at 4 parts ∷ [])
generic_in form.GenericType d n parts = each_declared n.form ((meaning_at d 0 parts).text ∷ []) (number_or (made n (meaning_at d 0 parts)) ∷ []) []
generic_in form.GenericFunction d n parts =
    record {
      form = n.form;
      name = (meaning_at d 1 parts).text;
      number = number_or (made n (meaning_at d 1 parts));
      trees = tree_at 3 parts ∷ tree_at 4 parts ∷ [];
    }
    ∷ parameters_in d (parts_at 2 parts)
generic_in _ d n parts = []

abbrev pub generics_in : Design → Forest Resolved → List InterfaceItem
generics_in d nothing = []
generics_in d (more n text place parts next) = generic_in n.form d n parts ++ generics_in d next

abbrev pub declared_of : Design → Forest Resolved → List InterfaceItem
declared_of d parts = generics_in d (parts_at 2 parts) ++ parameters_in d (parts_at 4 parts)

-- ---- comparison

abbrev pub numbers_paired : List InterfaceItem → List InterfaceItem → List (ℕ × ℕ)
numbers_paired (x ∷ xs) (y ∷ ys) = (x.number, y.number) ∷ numbers_paired xs ys
numbers_paired _ _ = []

abbrev pub all_say_same : List (ℕ × ℕ) → List (Forest Resolved) → List (Forest Resolved) → Bool
all_say_same ps [] [] = true
all_say_same ps (f ∷ fs) (g ∷ gs) = say_same ps f g && all_say_same ps fs gs
all_say_same ps _ _ = false

abbrev pub same_declared : List (ℕ × ℕ) → InterfaceItem → InterfaceItem → Bool
same_declared ps x y = same_form x.form y.form && bytes_eq x.name y.name && all_say_same ps x.trees y.trees

abbrev pub all_same_declared : List (ℕ × ℕ) → List InterfaceItem → List InterfaceItem → Bool
all_same_declared ps [] [] = true
all_same_declared ps (x ∷ xs) (y ∷ ys) = same_declared ps x y && all_same_declared ps xs ys
all_same_declared ps _ _ = false

-- by the parts of a function's declaration and of its body
abbrev pub is_like : Design → Forest Resolved → Forest Resolved → Bool
is_like d declaration body =
    let ps = numbers_paired (declared_of d declaration) (declared_of d body) in
    all_same_declared ps (declared_of d declaration) (declared_of d body) && say_same ps (tree_at 5 declaration) (tree_at 5 body)

abbrev pub differs : Design → Forest Resolved → Forest Resolved → Bool
differs d nothing body = false
differs d declaration body = not (is_like d declaration body)

abbrev pub body_broken : Form → Design → State → Resolved → Place → Forest Resolved → List Refused
body_broken form.FunctionBody d s n place parts =
    refused_if (differs d (s.known.functions (number_or (made n (meaning_at d 1 parts)))) parts) place 409
body_broken _ d s n place parts = []

-- 409 of bodies
abbrev pub broken_body : Design → State → Resolved → Place → Forest Resolved → List Refused
broken_body d s n place parts = body_broken n.form d s n place parts
