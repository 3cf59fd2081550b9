-- Conversions that are tied through.
use Rattle.std.proofs.Common.{◌≡◌, Bool, List, false, true}
use Rattle.vd_environments.specs.Environments.{Env}
use Rattle.vd_forest.specs.Forest.{Forest}
use Rattle.vd_value_rules.specs.declared.forms.IndicatedForm.{IndicatedForm}
use Rattle.vd_meaning.specs.Names.{Named, tied_through}
use Rattle.vd_static_parts.specs.Conversions.{known_through}
use Rattle.vd_static_values.specs.Names.{IsName}
use Rattle.vd_static_values.specs.declared.names.KnownName.{KnownName}

module _ (subtypes : List (Forest IndicatedForm)) (e : Env) (x : KnownName) (c p : Named) (is : IsName subtypes e x c) (own : c.is_object ≡ false) where
  pub tied_known : (tied whole : Bool) → p.is_whole e ≡ whole → IsName subtypes e (known_through tied whole x) (tied_through tied p c)
  tied_known true whole same = record {
    known = is.known;
    value = is.value;
    within = is.within;
    make = is.make;
    subtype = is.subtype;
    shape = is.shape;
    stops = λ object. absurd (cc);
    own_shape = is.own_shape;
    is_object = is.is_object;
    local_slices = is.local_slices;
    early = is.early;
    is_mark = is.is_mark;
    range = is.range;
    callee = is.callee;
    is_signal = is.is_signal;
    is_whole = same;
  }
  tied_known false whole same = is
