use Rattle.std.proofs.Common.{◌≡◌, ◌≤◌, drop, length}
use Rattle.vd_forest.specs.Store.{Extends, at}
use Rattle.vd_value_rules.specs.Indicated.{fields_in, indicated_in}
use Rattle.vd_known_forms.specs.Fields.{in_front}
use Rattle.vd_meaning.specs.Declarations.{fields_named}
use Rattle.vd_known_forms.proofs.lists.add_fields.Given as goal

abbrev pub invariant-loop-name : goal.invariant-loop-name
invariant-loop-name l =
    let i = indicated_in (at l.fn.subtypes l.subtype) in
    record {
      within : l.first ≤ length l.subtypes;
      fields : in_front (fields_named (drop l.name-index l.names) i) (fields_in (at l.subtypes l.first))
          ≡ in_front (fields_named l.names i) (fields_in (at l.fn.subtypes l.behind));
      extends : Extends l.fn.subtypes l.subtypes;
    }
