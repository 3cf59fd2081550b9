use Rattle.std.proofs.Common.{[], ap, sym, ◌∙◌}
use Rattle.std.proofs.lemmas.Result.{IfOk-weaker}
use Rattle.vd_environments.specs.Got.{got, is_got}
use Rattle.vd_meaning.specs.Names.{bound_value, scalar_type}
use Rattle.vd_operators.specs.Applied.{applied}
use Rattle.vd_operators.specs.declared.op.Op.TheVariants.{SubtypeBound}
use Rattle.vd_static_parts.proofs.BoundLemmas.{bound_of_array, bound_of_others, bound_of_scalars, has_one, shape_known, subtype_known}
use Rattle.vd_static_parts.specs.Attributes.{bound_by}
use Rattle.vd_static_values.specs.Entries.{IsFound}
use Rattle.vd_static_values.specs.Names.{indicated_by}
use Rattle.vd_static_parts.proofs.attributes.bound_value.Goals as goal

pub returns-then-not-name : goal.returns-then-not-name
returns-then-not-name c = λ e p ground is local.
    let side = c.args.side in
    let index = c.args.index in
    IfOk-weaker c.side_of_array.result (λ f. IsFound f (bound_by side (p.shape e) (scalar_type index e))) (λ f. IsFound f (bound_value side index p e))
    (λ f found. bound_of_array side index e p f (is.is_mark ∙ c.if-not-name.true) found)
    (c.side_of_array.ensures (p.shape e) (scalar_type index e) (shape_known c.args.ground.now.subtypes.now e c.args.name.now p is local) (c.scalar_type.ensures e ground))

pub returns-in-Some : goal.returns-in-Some
returns-in-Some c = λ e p ground is local.
    let side = c.args.side in
    let index = c.args.index in
    let x = c.args.name.now in
    let store = c.args.ground.now.subtypes.now in
    let t = (indicated_by store x.subtype).subtype in
    let s = c.in-Some.subtype in
    IfOk-weaker c.scalar_bound.result (λ f. IsFound f (got (applied (SubtypeBound side s) []))) (λ f. IsFound f (bound_value side index p e))
    (λ f found.
    bound_of_scalars side index e p f t s (is.is_mark ∙ c.if-not-name.false) (has_one x.has_subtype t (p.subtype e) c.if-not-name-2.false (subtype_known store e x p is local))
    (sym c.in-Some.ensures) found)
    c.scalar_bound.ensures

pub returns-in-None : goal.returns-in-None
returns-in-None c = λ e p ground is local.
    let side = c.args.side in
    let index = c.args.index in
    let x = c.args.name.now in
    let store = c.args.ground.now.subtypes.now in
    let t = (indicated_by store x.subtype).subtype in
    IfOk-weaker c.side_of_array-in-None.result (λ f. IsFound f (bound_by side (p.shape e) (scalar_type index e))) (λ f. IsFound f (bound_value side index p e))
    (λ f found.
    bound_of_others side index e p f t (is.is_mark ∙ c.if-not-name.false) (has_one x.has_subtype t (p.subtype e) c.if-not-name-2.false (subtype_known store e x p is local))
    (ap is_got (sym c.in-None.ensures)) found)
    (c.side_of_array-in-None.ensures (p.shape e) (scalar_type index e) (shape_known store e x p is local) (c.scalar_type-in-None.ensures e ground))
