-- What the targets of a process are where its declarations stop. (IEEE 1076, longest static prefix; elaboration of processes.)
use Rattle.std.specs.Prelude.{◌≡◌, ℕ, ◌++◌, List, [], ◌∷◌, None, Ok, codes}
use Rattle.vd_values.specs.declared.scalar.StopKind.TheVariants.{Index, DivideByZero}
use Rattle.vd_declarations.specs.declared.classes.Class.TheVariants as class
use Rattle.vd_declarations.specs.declared.declarations.Declaration.{Declaration}
use Rattle.vd_forest.specs.Forest.{Forest}
use Rattle.vd_forms.specs.declared.form.Form.TheVariants as form
use Rattle.vd_resolved.specs.declared.node.Resolved.{Resolved}
use Rattle.vd_predefined.specs.declared.numbers.TheConstants.{BIT, INTEGER, BIT_VECTOR}
use Rattle.vd_composites.specs.Stops.{◌>>=◌}
use Rattle.vd_environments.specs.Got.{Got, stop}
use Rattle.vd_meaning_facts.specs.Trees.{own, object, node, plain, absent, of, leaf, operator, number, first, name, longer, arguments, attribute, mark_piece, upto, others, meaning}
use Rattle.vd_meaning_facts.specs.Expressions.{b, ii, bit}
use Rattle.vd_meaning_facts.specs.Statements.{a, word, mark_name, indication, variable_a, first_process}

-- variables w and c behind those of the statements
abbrev pub w : ℕ
w = own 12

abbrev pub c : ℕ
c = own 13

abbrev pub declarations : List Declaration
declarations = Rattle.vd_meaning_facts.specs.Statements.declarations ++ (object class.Variable BIT_VECTOR ∷ object class.Constant INTEGER ∷ [])

-- 1 / a, where a is 0
abbrev pub one_over_a : Forest Resolved
one_over_a = operator form.Divide (codes "/") ii INTEGER (number (codes "1") ∷ name a INTEGER ∷ [])

-- (others => bit'val(1 / a))
abbrev pub stopping : Forest Resolved
stopping =
    of form.Aggregate BIT_VECTOR
    (others (longer BIT (mark_piece BIT ∷ node form.Attribute None None 0 [] (leaf form.Identifier (codes "val") ∷ []) ∷ arguments BIT (one_over_a ∷ []) ∷ [])) ∷ [])

-- variable w : bit_vector(0 to 3) := value;
abbrev pub variable_w : Forest Resolved → Forest Resolved
variable_w value =
    plain form.VariableDeclaration
    (plain form.IdentifierList (word w ∷ [])
    ∷ plain form.SubtypeIndication (mark_name BIT_VECTOR ∷ plain form.IndexConstraint (upto INTEGER (number (codes "0")) (number (codes "3")) ∷ []) ∷ [])
    ∷ value ∷ [])

-- constant c : integer := value;
abbrev pub constant_c : Forest Resolved → Forest Resolved
constant_c value = plain form.ConstantDeclaration (plain form.IdentifierList (word c ∷ []) ∷ indication INTEGER ∷ value ∷ [])

-- w'length and the like
abbrev pub of_w : List ℕ → Forest Resolved
of_w attribute_name = longer INTEGER (first w BIT_VECTOR ∷ attribute INTEGER attribute_name ∷ [])

-- process variable a : integer := 0; .. begin b(index) <= '1'; wait; end process;
abbrev pub driving_at : List (Forest Resolved) → Forest Resolved → Forest Resolved
driving_at declaring index =
    plain form.ProcessStatement (absent ∷ absent ∷ plain form.DeclarativePart (variable_a ∷ declaring)
    ∷ plain form.Statements
    (plain form.SignalAssignment (longer BIT (first b BIT_VECTOR ∷ arguments BIT (index ∷ []) ∷ []) ∷ absent ∷ bit 1 ∷ [])
    ∷ plain form.WaitStatement (absent ∷ absent ∷ absent ∷ []) ∷ [])
    ∷ absent ∷ [])

-- the scalar signals that it drives
abbrev pub driven_at : List (Forest Resolved) → Forest Resolved → Got (List ℕ)
driven_at declaring index = first_process (meaning declarations (driving_at declaring index)).processes >>= λ p. Ok p.driven

-- The signal b(3 downto 0) has the scalar signals 1 to 4.
pub record Targets : Type 0 where
  -- b(w'right) is one of them
  pub element : driven_at (variable_w absent ∷ []) (of_w (codes "right")) ≡ Ok (1 ∷ [])
  -- The bounds of w are locally static whatever its value does: so the target b(w'length) stops, before its declaration does.
  pub beyond : driven_at (variable_w stopping ∷ []) (of_w (codes "length")) ≡ stop Index
  pub within : driven_at (variable_w stopping ∷ []) (of_w (codes "right")) ≡ stop DivideByZero
  -- a constant is static where its value does not stop
  pub known : driven_at (variable_w stopping ∷ constant_c (of_w (codes "length")) ∷ []) (name c INTEGER) ≡ stop Index
  pub unknown : driven_at (constant_c one_over_a ∷ []) (name c INTEGER) ≡ stop DivideByZero
