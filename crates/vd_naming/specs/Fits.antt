-- What the one declaration has to be that a name means. (IEEE 1076, selected names)
use Rattle.std.specs.Prelude.{ℕ, Bool, true}
use Rattle.vd_regions.specs.Scopes.{declaration_at}
use Rattle.vd_visible.specs.Sights.{Sight}
use Rattle.vd_name_rows.specs.Designs.{Design}
use Rattle.vd_name_rows.specs.Noting.{is_loop_label}
use Rattle.vd_naming.specs.Paths.{is_mark, is_package, is_context, is_entity}
use Rattle.vd_naming.specs.Views.{is_view}
use Rattle.vd_naming.specs.declared.fit.Fit.{Fit}
use Rattle.vd_naming.specs.declared.fit.Fit.TheVariants as fit

abbrev pub fits : Fit → Sight → Design → ℕ → Bool
fits fit.Mark s d k = is_mark s k
fits fit.Package s d k = is_package (declaration_at d.scopes k).class
fits fit.Context s d k = is_context (declaration_at d.scopes k).class
fits fit.Entity s d k = is_entity (declaration_at d.scopes k).class
fits fit.View s d k = is_view (declaration_at d.scopes k).class
fits fit.LoopLabel s d k = is_loop_label d k
fits fit.Any s d k = true
