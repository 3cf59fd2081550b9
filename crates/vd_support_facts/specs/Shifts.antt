-- What the shifts and rotations of the support package give. The result has the bounds 1 to n; vd_sll and vd_srl fill with '0'; a negative count goes the other way.
use Rattle.std.specs.Prelude.{◌≡◌, ℤ, pos, negsuc, List, [], ◌∷◌, ◌++◌, codes}
use Rattle.vd_vectors.specs.declared.logics.LogicType.TheVariants.{NineValued}
use Rattle.vd_vectors.specs.declared.shifts.ShiftOperator.TheVariants.{LogicalLeft, LogicalRight, RotateLeft, RotateRight}
use Rattle.vd_operators.specs.declared.op.Op.TheVariants.{Binary}
use Rattle.vd_operators.specs.declared.op.BinaryOp.TheVariants.{Shift}
use Rattle.vd_support_facts.specs.ShiftBodies.{vd_sll, vd_srl, vd_rol, vd_ror}
use Rattle.vd_support_facts.specs.Calls.{Agree, Case, gives, of_text, results, logics, integer, upto, downto, nothing_from_zero, nothing_at_the_least}

-- "1HZ", by a count, is some elements
abbrev pub by : ℤ → List Rattle.std.specs.Prelude.ℕ → Case
by count elements = gives (logics (downto 5 3) (codes "1HZ") ∷ integer count ∷ []) (logics (upto 1 3) elements)

-- one element
abbrev pub one_by : ℤ → List Rattle.std.specs.Prelude.ℕ → Case
one_by count element = gives (logics (upto 7 7) (codes "U") ∷ integer count ∷ []) (logics (upto 1 1) element)

-- none
abbrev pub nothing_by : ℤ → List Case
nothing_by count =
    gives (logics nothing_from_zero [] ∷ integer count ∷ []) (logics (upto 1 0) [])
    ∷ gives (logics nothing_at_the_least [] ∷ integer count ∷ []) (logics (upto 1 0) []) ∷ []

abbrev pub to_the_left : List Case
to_the_left =
    by (pos 0) (codes "1HZ") ∷ by (pos 1) (codes "HZ0") ∷ by (pos 2) (codes "Z00") ∷ by (pos 3) (codes "000")
    ∷ by (negsuc 0) (codes "01H") ∷ by (negsuc 1) (codes "001") ∷ by (negsuc 2) (codes "000")
    ∷ one_by (pos 0) (codes "U") ∷ one_by (pos 1) (codes "0") ∷ one_by (negsuc 0) (codes "0") ∷ nothing_by (pos 1)

abbrev pub to_the_right : List Case
to_the_right =
    by (pos 0) (codes "1HZ") ∷ by (pos 1) (codes "01H") ∷ by (pos 2) (codes "001") ∷ by (pos 3) (codes "000")
    ∷ by (negsuc 0) (codes "HZ0") ∷ by (negsuc 1) (codes "Z00") ∷ by (negsuc 2) (codes "000")
    ∷ one_by (pos 0) (codes "U") ∷ one_by (pos 1) (codes "0") ∷ one_by (negsuc 0) (codes "0") ∷ nothing_by (negsuc 0)

abbrev pub round_the_left : List Case
round_the_left =
    by (pos 0) (codes "1HZ") ∷ by (pos 1) (codes "HZ1") ∷ by (pos 2) (codes "Z1H") ∷ by (pos 3) (codes "1HZ") ∷ by (pos 4) (codes "HZ1")
    ∷ by (negsuc 0) (codes "Z1H") ∷ by (negsuc 1) (codes "HZ1") ∷ by (negsuc 3) (codes "Z1H")
    ∷ one_by (pos 1) (codes "U") ∷ one_by (negsuc 1) (codes "U") ∷ nothing_by (pos 1)

abbrev pub round_the_right : List Case
round_the_right =
    by (pos 0) (codes "1HZ") ∷ by (pos 1) (codes "Z1H") ∷ by (pos 2) (codes "HZ1") ∷ by (pos 3) (codes "1HZ") ∷ by (pos 4) (codes "Z1H")
    ∷ by (negsuc 0) (codes "HZ1") ∷ by (negsuc 1) (codes "Z1H") ∷ by (negsuc 3) (codes "HZ1")
    ∷ one_by (pos 1) (codes "U") ∷ one_by (negsuc 1) (codes "U") ∷ nothing_by (negsuc 0)

-- by the greatest INTEGER and the least. 2147483647 is one more than a multiple of 3. The definition of the operator can't be computed for these counts, so
-- that they are compared with the sentences alone

abbrev pub greatest : ℤ
greatest = pos 2147483647

abbrev pub least : ℤ
least = negsuc 2147483646

abbrev pub far_shifts : List Case
far_shifts =
    by greatest (codes "000") ∷ by least (codes "000") ∷ one_by greatest (codes "0") ∷ one_by least (codes "0") ∷ (nothing_by greatest ++ nothing_by least)

abbrev pub far_to_the_left : List Case
far_to_the_left =
    by greatest (codes "HZ1") ∷ by least (codes "Z1H") ∷ one_by greatest (codes "U") ∷ one_by least (codes "U") ∷ (nothing_by greatest ++ nothing_by least)

abbrev pub far_to_the_right : List Case
far_to_the_right =
    by greatest (codes "Z1H") ∷ by least (codes "HZ1") ∷ one_by greatest (codes "U") ∷ one_by least (codes "U") ∷ (nothing_by greatest ++ nothing_by least)

pub record ShiftFacts : Type 0 where
  pub left : Agree (vd_sll ∷ []) (Binary (Shift LogicalLeft NineValued)) to_the_left
  pub far_left : of_text (vd_sll ∷ []) far_shifts ≡ results far_shifts
  pub right : Agree (vd_sll ∷ vd_srl ∷ []) (Binary (Shift LogicalRight NineValued)) to_the_right
  pub far_right : of_text (vd_sll ∷ vd_srl ∷ []) far_shifts ≡ results far_shifts

pub record RotationFacts : Type 0 where
  pub left : Agree (vd_rol ∷ []) (Binary (Shift RotateLeft NineValued)) round_the_left
  pub far_left : of_text (vd_rol ∷ []) far_to_the_left ≡ results far_to_the_left
  pub right : Agree (vd_rol ∷ vd_ror ∷ []) (Binary (Shift RotateRight NineValued)) round_the_right
  pub far_right : of_text (vd_rol ∷ vd_ror ∷ []) far_to_the_right ≡ results far_to_the_right
