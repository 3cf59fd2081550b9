use Rattle.std.proofs.Common.{◌++◌, List, sym, ap, subst, ◌∙◌}
use Rattle.std.specs.List.{flat_map}
use Rattle.vd_visible.specs.Sights.{sight_from}
use Rattle.vd_states.specs.declared.states.Prefix.{Prefix}
use Rattle.vd_states.specs.declared.states.State.TheVariants as state
use Rattle.vd_states.specs.declared.states.Want.{Want}
use Rattle.vd_ways.specs.Ways.{ways}
use Rattle.vd_overloads.specs.Goals.{behind, prefixes_behind, SameMembers}
use Rattle.vd_overloads.proofs.MemberLemmas.{itself, no_prefixes_left, prefix_step}
use Rattle.vd_overloads.proofs.ends.ends_behind_piece.Goals as goal

pub loop-prefix-init : goal.loop-prefix-init
loop-prefix-init c =
    let whole = flat_map (behind (sight_from c.args.at.now) c.args.piece.now.form c.args.piece.now.text.now c.args.piece.now.parts) c.args.prefixes.now in
    subst (λ (found : List Prefix). SameMembers (found ++ whole) whole) (sym c.new-found.ensures.items) (itself whole)

pub loop-prefix-preserved : goal.loop-prefix-preserved
loop-prefix-preserved c =
    let piece = c.args.piece.now in
    prefix_step (behind (sight_from c.args.at.now) c.args.piece.now.form c.args.piece.now.text.now c.args.piece.now.parts) c.args.prefixes.now
    c.loop-prefix.prefix-index c.prefix-item.result c.loop-prefix.found.items c.add_prefixes.new.found.items _ c.loop-prefix-test.true c.prefix-item.is
    (subst (λ (list : List Prefix). SameMembers c.add_prefixes.new.found.items (c.loop-prefix.found.items ++ list))
    (ap prefixes_behind (c.deref.ensures.value ∙ c.in_ok-ways.ensures
    ∙ ap (λ (g : Want). ways (sight_from c.args.at.now) (state.Suffixes c.prefix-item.result g) piece.form piece.text.now piece.parts) c.any_goal.ensures))
    c.in_ok-add_prefixes.ensures)
    c.loop-prefix.invariant

pub returns : goal.returns
returns c =
    no_prefixes_left (behind (sight_from c.args.at.now) c.args.piece.now.form c.args.piece.now.text.now c.args.piece.now.parts) c.args.prefixes.now
    c.loop-prefix.prefix-index c.loop-prefix.found.items _ c.loop-prefix-test.false c.loop-prefix.invariant
