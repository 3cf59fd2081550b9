-- What a form opens.
use Rattle.std.proofs.Common.{◌≡◌, ℕ, Bool, true, false, List, [], ◌∷◌, length, None, refl, arith, if◌then◌else◌}
use Rattle.vd_bytes.specs.declared.places.Place.{Place}
use Rattle.vd_forest.specs.Forest.{Forest, text_of}
use Rattle.vd_forms.specs.declared.form.Form.{Form}
use Rattle.vd_forms.specs.declared.form.Form.TheVariants as form
use Rattle.vd_forms.specs.Forms.{same_form}
use Rattle.vd_name_rows.specs.Rows.{row_of}
use Rattle.vd_name_rows.specs.declared.sorts.Sort.TheVariants as sort
use Rattle.vd_name_rows.specs.declared.steps.Opening.{Opening}
use Rattle.vd_name_rows.specs.declared.steps.Opening.TheVariants as opening
use Rattle.vd_name_rows.specs.Designs.{At, Design}
use Rattle.vd_name_rows.specs.Noting.{with_body, with_bodies}
use Rattle.vd_naming.specs.Endings.{form_of_next}
use Rattle.vd_naming.specs.Units.{unit_named, region_inside}
use Rattle.vd_naming.specs.Openings.{Opened, opens, nested, instances_inside, opened_as, opened}
use Rattle.vd_naming_laws.proofs.States.{DesignIs, note_is, noted, AtIs, entries}

pub bodies_same : (ks : List ℕ) (d : Design) → entries (with_bodies ks d) ≡ entries d
bodies_same [] d = refl
bodies_same (k ∷ ks) d = bodies_same ks (with_body k d)

pub body_is : (k : ℕ) (d : Design) → DesignIs d → DesignIs (with_body k d)
body_is k d is = noted k _ d is (note_is d k is.spans)

pub bodies_are : (ks : List ℕ) (d : Design) → DesignIs d → DesignIs (with_bodies ks d)
bodies_are [] d is = is
bodies_are (k ∷ ks) d is = bodies_are ks (with_body k d) (body_is k d is)

-- nothing is entered
pub record Opens (at : At) (d : Design) (o : Opened) : Type 0 where
  pub same : entries o.design ≡ entries d
  pub design : DesignIs o.design
  pub here : AtIs (entries d) o.at

opens_if : (at : At) (d : Design) (c : Bool) (o p : Opened) → Opens at d o → Opens at d p → Opens at d (if c then o else p)
opens_if at d true o p x y = x
opens_if at d false o p x y = y

module _ (at : At) (d : Design) (is : DesignIs d) (a : AtIs (entries d) at) where
  headed : AtIs (entries d) (record at { header_end = length (entries d); function = None })
  headed = record {
    named = a.named;
    mark = a.mark;
    selector = a.selector;
    result = a.result;
    viewed = a.viewed;
    actuals = a.actuals;
    header_end = omega arith;
    function = tt;
  }

  opened_as_opens : (o : Opening) (place : Place) (parts : Forest Form) → Opens at d (opened_as o at d place parts)
  opened_as_opens opening.Stay place parts = record { same = refl; design = is; here = a }
  opened_as_opens opening.Nested place parts = record { same = refl; design = is; here = a }
  opened_as_opens opening.OfHeader place parts = record { same = refl; design = is; here = headed }
  opened_as_opens opening.OfUnit place parts = record { same = refl; design = is; here = a }
  opened_as_opens opening.OfEntity place parts = record { same = refl; design = is; here = a }
  opened_as_opens opening.OfArchitecture place parts = record { same = refl; design = is; here = a }
  opened_as_opens opening.OfPackage place parts = record { same = refl; design = is; here = headed }
  opened_as_opens opening.OfPackageBody place parts =
      let k = unit_named sort.WrittenPackage (text_of parts) d in
      let ks = instances_inside (region_inside d k) d in
      record { same = bodies_same ks d; design = bodies_are ks d is; here = a }
  opened_as_opens opening.OfType place parts =
      opens_if at d (same_form (form_of_next parts) form.RecordType) (nested at d) (opens at d) (record { same = refl; design = is; here = a })
      (record { same = refl; design = is; here = a })
  opened_as_opens opening.OfSelection place parts = record {
    same = refl;
    design = is;
    here = record { named = a.named; mark = a.mark; selector = tt; result = a.result; viewed = a.viewed; actuals = a.actuals; header_end = a.header_end; function = a.function };
  }
  opened_as_opens opening.OfReturn place parts = record {
    same = refl;
    design = is;
    here = record { named = a.named; mark = a.result; selector = a.selector; result = a.result; viewed = a.viewed; actuals = a.actuals; header_end = a.header_end; function = a.function };
  }
  opened_as_opens opening.OfElements place parts = record {
    same = refl;
    design = is;
    here = record { named = a.named; mark = a.mark; selector = a.selector; result = a.result; viewed = a.mark; actuals = a.actuals; header_end = a.header_end; function = a.function };
  }
  opened_as_opens opening.OfLabel place parts = record { same = refl; design = is; here = a }
  opened_as_opens opening.OfInstance place parts = record { same = refl; design = is; here = a }
  opened_as_opens opening.InPorts place parts = record { same = refl; design = is; here = a }

  pub opened_opens : (f : Form) (place : Place) (parts : Forest Form) → Opens at d (opened f at d place parts)
  opened_opens f place parts =
      let x = opened_as_opens (row_of f).opening place parts in
      record { same = x.same; design = x.design; here = x.here }
