use Rattle.std.proofs.Common.{◌++◌, List, sym, ap, subst, ◌∙◌}
use Rattle.std.specs.List.{flat_map}
use Rattle.vd_forest.specs.Forest.{Forest}
use Rattle.vd_forms.specs.declared.form.Form.{Form}
use Rattle.vd_visible.specs.Sights.{sight_from}
use Rattle.vd_states.specs.declared.states.Prefix.{Prefix}
use Rattle.vd_states.specs.declared.states.State.TheVariants as state
use Rattle.vd_states.specs.declared.states.Want.{Want}
use Rattle.vd_ways.specs.Ways.{ways}
use Rattle.vd_overloads.specs.Goals.{behind, ends_behind, ends_of_name, heads, prefixes_behind, SameMembers}
use Rattle.vd_overloads.proofs.MemberLemmas.{same_behind, through}
use Rattle.vd_overloads.proofs.ends.ends_of_name.Goals as goal

pub loop-piece-init : goal.loop-piece-init
loop-piece-init c =
    let s = sight_from c.args.at.now in
    let first = c.in-Some.first in
    subst (λ (f : Forest Form). SameMembers (ends_behind s c.add_prefixes.new.found.items first.next) (ends_of_name s f)) (sym c.in-Some.ensures)
    (same_behind s first.next c.add_prefixes.new.found.items (heads s first.form first.text.now first.parts)
    (subst (λ (list : List Prefix). SameMembers c.add_prefixes.new.found.items list)
    (ap (λ (found : List Prefix). found ++ prefixes_behind c.deref.result.now) c.new-found.ensures.items
    ∙ ap prefixes_behind (c.deref.ensures.value ∙ c.in_ok-ways.ensures
    ∙ ap (λ (g : Want). ways s (state.Head g) first.form first.text.now first.parts) c.any_goal.ensures))
    c.in_ok-add_prefixes.ensures))

pub loop-piece-preserved : goal.loop-piece-preserved
loop-piece-preserved c =
    let s = sight_from c.args.at.now in
    let piece = c.in-Some-open.piece in
    let step = behind s piece.form piece.text.now piece.parts in
    let whole = ends_of_name s c.args.pieces.now in
    through (ends_behind s c.in_ok-found.found.items piece.next) (ends_behind s (flat_map step c.loop-piece.found.items) piece.next) whole
    (same_behind s piece.next c.in_ok-found.found.items (flat_map step c.loop-piece.found.items)
    (subst (λ (list : List Prefix). SameMembers c.in_ok-found.found.items (flat_map step list)) c.deref-in-Some-open.ensures.value c.in_ok-found.ensures))
    (subst (λ (f : Forest Form). SameMembers (ends_behind s c.loop-piece.found.items f) whole) c.in-Some-open.ensures c.loop-piece.invariant)
