-- What a table of templates gives, for the table of all forms.
use Rattle.std.proofs.Common.{◌≡◌, ◌∷◌, refl, ap, ◌∙◌}
use Rattle.vd_forest.specs.Forest.{Forest, nothing, more}
use Rattle.vd_forms.specs.declared.form.Form.{Form}
use Rattle.vd_templates.specs.declared.rows.TheConstants.{TEMPLATES}
use Rattle.vd_templates.specs.Templates.{tree_items, written}
use Rattle.vd_writing.specs.Pending.{tree_by, written_by}

pub written_same : (f : Forest Form) → written_by TEMPLATES.now f ≡ written f
written_same nothing = refl
written_same (more form text place parts next) =
    ap (λ ws. tree_by TEMPLATES.now form text ws ∷ written_by TEMPLATES.now next) (written_same parts) ∙ ap (λ ws. tree_items form text (written parts) ∷ ws) (written_same next)
