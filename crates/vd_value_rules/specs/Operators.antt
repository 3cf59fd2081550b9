-- The ordering operators of matching on STD_ULOGIC and its vectors, which are given in revision 2019 so that a use of them is refused as what it is.
-- (IEEE 1076-2019, matching relational operators.)
use Rattle.std.specs.Prelude.{Bool, List, None, Option, Some, false, is_some, not, suc, true, ℕ, ◌&&◌, ◌||◌, ◌∷◌}
use Rattle.std.specs.List.{list_any}
use Rattle.vd_bytes.specs.declared.answers.Refused.{Refused}
use Rattle.vd_bytes.specs.declared.places.Place.{Place}
use Rattle.vd_forest.specs.Forest.{Forest, more, nothing}
use Rattle.vd_forms.specs.Forms.{expressions, is_among}
use Rattle.vd_forms.specs.declared.form.Form.{Form}
use Rattle.vd_meaning.specs.Facets.{MapElement}
use Rattle.vd_meaning.specs.Generics.{element_for}
use Rattle.vd_meaning.specs.Meanings.{made}
use Rattle.vd_meaning.specs.Operators.{MatchOrderSymbol, Symbol, symbol}
use Rattle.vd_meaning.specs.Tables.{LogicSort, LogicsSort, Sort, Table, followed, operand_types, sort_of}
use Rattle.vd_resolved.specs.declared.node.Resolved.{Resolved}
use Rattle.vd_value_rules.specs.Designs.{Design}
use Rattle.vd_value_rules.specs.Judging.{refused_if}
use Rattle.vd_value_rules.specs.Knowledge.{meaning_at}
use Rattle.vd_value_rules.specs.Standings.{generics_of}
use Rattle.vd_vectors.specs.declared.logics.LogicType.TheVariants.{NineValued}
use Rattle.vd_forms.specs.declared.form.Form.TheVariants as form

abbrev pub is_ordering : Symbol → Bool
is_ordering (MatchOrderSymbol relation) = true
is_ordering _ = false

abbrev pub is_nine_valued : Sort → Bool
is_nine_valued (LogicSort NineValued) = true
is_nine_valued (LogicsSort NineValued) = true
is_nine_valued _ = false

abbrev pub any_nine_valued : Table → List (Option ℕ) → Bool
any_nine_valued t marks = list_any (λ m. is_nine_valued (sort_of t m)) marks

-- such an operator, which no user wrote
abbrev pub is_refused_operator : Table → ℕ → Bool
is_refused_operator t n =
    Rattle.vd_meaning.specs.Tables.is_predefined t n && (is_ordering (symbol (t.declared n).name) && any_nine_valued t (operand_types t n))

abbrev pub names_refused : Table → Option ℕ → Bool
names_refused t None = false
names_refused t (Some n) = is_refused_operator t (followed t n)

-- a name, by any of its pieces
abbrev pub any_piece_refused : Table → Forest Resolved → Bool
any_piece_refused t nothing = false
any_piece_refused t (more n text place parts next) = names_refused t n.declaration || any_piece_refused t next

abbrev pub refuses : Form → Table → Resolved → Forest Resolved → Bool
refuses form.Name t n parts = any_piece_refused t parts
refuses form.OperatorName t n parts = any_piece_refused t parts
refuses f t n parts = is_among expressions f && names_refused t n.declaration

-- the operators that an instance finds for generics whose default is `<>`, where the map has nothing for them
abbrev pub is_found : Table → ℕ → ℕ → ℕ → List MapElement → Bool
is_found t k generic copy xs = not (is_some (element_for k generic xs)) && names_refused t (Some copy)

abbrev pub any_found : Table → ℕ → (generics copies : List ℕ) → List MapElement → Bool
any_found t k (g ∷ gs) (c ∷ cs) xs = is_found t k g c xs || any_found t (suc k) gs cs xs
any_found t k _ _ xs = false

abbrev pub finds_refused : Design → Option ℕ → Option ℕ → List MapElement → Bool
finds_refused d generic instance xs = any_found d.table 0 (generics_of d generic) (generics_of d instance) xs

abbrev pub instance_finds : Form → Design → Resolved → Forest Resolved → Bool
instance_finds form.PackageInstantiation d n parts =
    finds_refused d (meaning_at d 1 parts).declaration (made n (meaning_at d 0 parts)) (meaning_at d 2 parts).elements
instance_finds form.FunctionInstantiation d n parts =
    finds_refused d (meaning_at d 2 parts).declaration (made n (meaning_at d 1 parts)) (meaning_at d 3 parts).elements
instance_finds _ d n parts = false

-- 414: at the expression, or at the instance that finds it
abbrev pub broken_operator : Design → Resolved → Place → Forest Resolved → List Refused
broken_operator d n place parts = refused_if (refuses n.form d.table n parts || instance_finds n.form d n parts) place 414
