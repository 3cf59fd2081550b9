-- What the declaration of a first piece stands for, by its role.
use Rattle.std.proofs.Common.{◌≡◌, None, Ok, Option, Some, [], false, is_some, refl, subst, true, ℕ}
use Rattle.vd_environments.specs.Environments.{always}
use Rattle.vd_operations.specs.Roles.{read_role}
use Rattle.vd_operations.specs.declared.roles.Role.{Role as WrittenRole}
use Rattle.vd_operations.specs.declared.roles.Role.TheVariants as written
use Rattle.vd_meaning.specs.Meanings.{selection_piece}
use Rattle.vd_meaning.specs.Names.{Named, call, called_here, first_piece, no_name, number_or, standing}
use Rattle.vd_meaning.specs.Tables.{Role, Table, followed, role_of}
use Rattle.vd_resolved.specs.declared.node.Resolved.{Resolved}

pub standing_by : (t : Table) (n : Resolved) (P : Named → Type 0) (r : Role) (number : ℕ) → r ≡ role_of t n.declaration → number ≡ number_or n.declaration
    → P (standing t r number n) → P (first_piece t n)
standing_by t n P r number role is here =
    subst (λ q. P (standing t q (number_or n.declaration) n)) role (subst (λ k. P (standing t r k n)) is here)

-- a function whose name has a type
pub call_by : (t : Table) (d f : ℕ) (m : Option ℕ) (P : Named → Type 0) → is_some m ≡ true → f ≡ followed t d
    → P (call t f (λ _. []) m (λ _. always) (λ _. Ok [])) → P (called_here t d m)
call_by t d f None P some is here = absurd (cc)
call_by t d f (Some mark) P some is here = subst (λ g. P (call t g (λ _. []) (Some mark) (λ _. always) (λ _. Ok []))) is here

-- and one whose name has none
pub no_call : (t : Table) (d : ℕ) (m : Option ℕ) (P : Named → Type 0) → is_some m ≡ false → P no_name → P (called_here t d m)
no_call t d None P none here = here
no_call t d (Some mark) P none here = absurd (cc)

-- what is selected and is no element of a record
pub other_piece : (w : WrittenRole) (t : Table) (n : Resolved) (p : Named) → (w ≡ written.Element → ⊥) → first_piece t n ≡ selection_piece (read_role w) t n p
other_piece written.Constant t n p other = refl
other_piece written.Variable t n p other = refl
other_piece written.Signal t n p other = refl
other_piece written.Literal t n p other = refl
other_piece written.Function t n p other = refl
other_piece written.Mark t n p other = refl
other_piece written.Element t n p other = absurd (other refl)
other_piece written.Nothing t n p other = refl
