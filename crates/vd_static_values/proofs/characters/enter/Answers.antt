use Rattle.std.proofs.Common.{Fits, arith, get_or, length, refl, subst, w8, ◌<◌}
use Rattle.vd_static_values.proofs.CharacterLemmas.{entered_kept, entered_new, entered_not, none_there, some_there}
use Rattle.vd_static_values.proofs.characters.enter.Goals as goal

pub returns-in_default : goal.returns-in_default
returns-in_default c = entered_not c.args.table.now.items c.args.literal.now c.args.place c.in_default.ensures

pub returns-then-is_none : goal.returns-then-is_none
returns-then-is_none c =
    let table = c.args.table.now.items in
    let fits = subst (λ t. Fits w8 (get_or t 1 0)) c.in-Some.ensures (c.type_inv.literal 1) in
    let within : c.in-Some.code < length table = omega (arith, fits, c.requires) in
    entered_new table _ c.args.literal.now c.in-Some.code c.args.place c.in-Some.ensures within
    (none_there table c.in-Some.code c.index.result.now within c.index.ensures c.if-is_none.ensures) refl

pub returns-else-is_none : goal.returns-else-is_none
returns-else-is_none c =
    let table = c.args.table.now.items in
    let fits = subst (λ t. Fits w8 (get_or t 1 0)) c.in-Some.ensures (c.type_inv.literal 1) in
    let within : c.in-Some.code < length table = omega (arith, fits, c.requires) in
    let there = some_there table c.in-Some.code c.index.result.now within c.index.ensures c.if-is_none.ensures in
    entered_kept table c.args.literal.now c.in-Some.code there.0 c.args.place c.in-Some.ensures there.1
