use Rattle.std.proofs.Common.{refl, subst}
use Rattle.vd_meaning.specs.Meanings.{selection_piece}
use Rattle.vd_meaning.specs.Names.{Named}
use Rattle.vd_meaning.specs.Tables.{Role}
use Rattle.vd_static_values.specs.Entries.{table_of}
use Rattle.vd_static_values.specs.Names.{IsName}
use Rattle.vd_static_values.specs.Nodes.{IsField}
use Rattle.vd_static_nodes.proofs.FirstLemmas.{other_piece}
use Rattle.vd_static_nodes.proofs.words.selected.Goals as goal

pub returns-in-Element-clause-piece : goal.returns-in-Element-clause-piece
returns-in-Element-clause-piece c = λ e ground.
    let store = c.args.ground.now.subtypes.now in
    let t = table_of c.args.ground.now in
    let node = c.args.node.now in
    subst (λ (r : Role). IsField store e node.position (selection_piece r t node)) (c.in-Element.ensures c.args.ground.now.revision)
    (record { mark = node.mark; is = λ p. refl })

pub returns-in_ok-name-in_default-clause-piece : goal.returns-in_ok-name-in_default-clause-piece
returns-in_ok-name-in_default-clause-piece c = λ e ground.
    let store = c.args.ground.now.subtypes.now in
    let t = table_of c.args.ground.now in
    let node = c.args.node.now in
    let x = c.in_ok-name-in_default.name in
    subst (λ (r : Role). (p : Named) → IsName store e x (selection_piece r t node p)) (c.role_of.ensures c.args.ground.now.revision)
    (λ p. subst (IsName store e x) (other_piece c.role_of.result t node p c.in_default.not-Element) (c.in_ok-name-in_default.ensures.named e ground))
