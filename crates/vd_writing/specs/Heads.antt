-- Heads of rows.
use Rattle.std.specs.Prelude.{ℕ, Bool, true, false, nat_eq, ◌&&◌}
use Rattle.vd_forms.specs.declared.form.Form.{Form}
use Rattle.vd_forms.specs.Forms.{same_form}
use Rattle.vd_templates.specs.declared.pieces.Piece.{Piece}
use Rattle.vd_templates.specs.declared.pieces.Piece.TheVariants.{Of, AnyOther}

abbrev pub is_head : Piece → Bool
is_head (Of state form) = true
is_head (AnyOther state) = true
is_head _ = false

abbrev pub is_head_for : ℕ → Form → Piece → Bool
is_head_for s f (Of state form) = nat_eq state s && same_form form f
is_head_for s f (AnyOther state) = nat_eq state s
is_head_for s f _ = false
