-- What a function may not name, by what a declaration is to a name.
use Rattle.std.proofs.Common.{◌≡◌, Bool, List, Option, Some, ap, ap₂, not, sym, ℕ, ◌&&◌, ◌||◌, ◌∙◌}
use Rattle.vd_meaning.specs.Tables.{Role, role_of}
use Rattle.vd_value_rules.specs.Designs.{Design, is_listed}
use Rattle.vd_value_rules.specs.Names.{is_outer_variable}
use Rattle.vd_value_rules.specs.Reaching.{is_signal_role, is_variable_role}

pub foreign_some : (d : Design) (locals : List ℕ) (number : Option ℕ) (id : ℕ) (role : Role) (is_local result : Bool) → number ≡ Some id
    → role ≡ role_of d.table (Some id) → is_local ≡ is_listed id locals → result ≡ (is_signal_role role || (is_variable_role role && not is_local))
    → result ≡ (is_signal_role (role_of d.table number) || is_outer_variable locals d number)
foreign_some d locals number id role is_local result is role_is local_is result_is =
    result_is ∙ ap₂ (λ r l. is_signal_role r || (is_variable_role r && not l)) role_is local_is
    ∙ ap (λ o. is_signal_role (role_of d.table o) || is_outer_variable locals d o) (sym is)
