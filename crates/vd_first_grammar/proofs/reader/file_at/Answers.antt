use Rattle.std.proofs.Common.{◌≡◌, ap, sym, ◌∙◌}
use Rattle.std.proofs.lemmas.Result.{err_from_is_err_and}
use Rattle.vd_forest.specs.Store.{at}
use Rattle.vd_first_grammar.specs.Known.{known_of}
use Rattle.vd_first_grammar.specs.Reader.{got, file_tree}
use Rattle.vd_first_grammar.proofs.FileSteps.{head_fails, entity_fails, middle_fails, architecture_fails, file_is}
use Rattle.vd_first_grammar.proofs.reader.file_at.Goals as goal

pub returns-in_err-head-clause-tree : goal.returns-in_err-head-clause-tree
returns-in_err-head-clause-tree c =
    let p = err_from_is_err_and c.from_residual.result c.from_residual.ensures.1 in
    rw (p.1, p.2) (head_fails c.args.revision c.args.allowance c.args.tokens.now c.in_err-head.field-0.0 c.in_err-head.ensures)

pub returns-in_err-entity-clause-tree : goal.returns-in_err-entity-clause-tree
returns-in_err-entity-clause-tree c =
    let p = err_from_is_err_and c.from_residual-in_err-entity.result c.from_residual-in_err-entity.ensures.1 in
    rw (p.1, p.2) (entity_fails c.args.revision c.args.allowance c.args.tokens.now c.in_err-entity.field-0.0 c.in_ok-head.head.now c.in_ok-head.rest.now c.in_ok-head.ensures (known_of c.args.known.now) c.requires c.in_err-entity.ensures.entity)

pub returns-in_err-middle-clause-tree : goal.returns-in_err-middle-clause-tree
returns-in_err-middle-clause-tree c =
    let p = err_from_is_err_and c.from_residual-in_err-middle.result c.from_residual-in_err-middle.ensures.1 in
    rw (p.1, p.2) (middle_fails c.args.revision c.args.allowance c.args.tokens.now c.in_err-middle.field-0.0 c.in_ok-head.head.now c.in_ok-head.rest.now c.in_ok-head.ensures (known_of c.args.known.now) c.requires
    (record { tree = at c.entity_at.new.store c.in_ok-entity.entity; entity = c.in_ok-entity.name.now; known = known_of c.entity_at.new.known }) c.in_ok-entity.rest.now c.in_ok-entity.ensures.entity c.in_err-middle.ensures)

pub returns-in_err-architecture-clause-tree : goal.returns-in_err-architecture-clause-tree
returns-in_err-architecture-clause-tree c =
    let p = err_from_is_err_and c.from_residual-in_err-architecture.result c.from_residual-in_err-architecture.ensures.1 in
    rw (p.1, p.2) (architecture_fails c.args.revision c.args.allowance c.args.tokens.now c.in_err-architecture.field-0.0 c.in_ok-head.head.now c.in_ok-head.rest.now c.in_ok-head.ensures (known_of c.args.known.now) c.requires
    (record { tree = at c.entity_at.new.store c.in_ok-entity.entity; entity = c.in_ok-entity.name.now; known = known_of c.entity_at.new.known }) c.in_ok-entity.rest.now c.in_ok-entity.ensures.entity
    c.in_ok-middle.middle.now c.in_ok-middle.rest.now c.in_ok-middle.ensures c.place_at-place.result c.place_at-place.ensures c.in_err-architecture.ensures.tree)

pub returns-clause-tree : goal.returns-clause-tree
returns-clause-tree c =
    let read = file_is c.args.revision c.args.allowance c.args.tokens.now c.in_ok-head.head.now c.in_ok-head.rest.now c.in_ok-head.ensures (known_of c.args.known.now) c.requires
    (record { tree = at c.entity_at.new.store c.in_ok-entity.entity; entity = c.in_ok-entity.name.now; known = known_of c.entity_at.new.known }) c.in_ok-entity.rest.now c.in_ok-entity.ensures.entity
    c.in_ok-middle.middle.now c.in_ok-middle.rest.now c.in_ok-middle.ensures c.place_at-place.result c.place_at-place.ensures (at c.architecture_at.new.store c.in_ok-architecture.architecture) c.in_ok-architecture.rest.now c.in_ok-architecture.ensures.tree in
    let kept : at c.architecture_at.new.store c.in_ok-entity.entity ≡ at c.entity_at.new.store c.in_ok-entity.entity = c.architecture_at.ensures.extends.keeps c.in_ok-entity.entity c.in_ok-entity.ensures.within in
    read ∙ ap (λ f. got (f, c.in_ok-architecture.rest.now)) (ap (λ t. file_tree c.in_ok-head.head.now t c.place_at-place.result (at c.architecture_at.new.store c.in_ok-architecture.architecture)) (sym kept) ∙ sym c.in_ok-units.ensures.tree)
