-- Attributes of types and arrays.
use Rattle.std.proofs.Common.{List, None, Option, Some, ap, false, refl, suc, sym, true, zero, ℕ, ◌∙◌, ◌∷◌, ◌≡◌}
use Rattle.std.specs.Prelude.{is_some, slice_get}
use Rattle.vd_composites.specs.Composites.{Array, Fields, One, Value, scalar_of}
use Rattle.vd_composites.specs.Stops.{◌>>=◌}
use Rattle.vd_environments.specs.Environments.{or_senseless}
use Rattle.vd_environments.specs.Got.{got, is_got}
use Rattle.vd_bytes.specs.declared.places.Place.{Place}
use Rattle.vd_forest.proofs.ForestLemmas.{skipped_nothing}
use Rattle.vd_forest.specs.Forest.{Forest, form_of, more, nothing, skipped}
use Rattle.vd_value_rules.specs.Indicated.{texts_in}
use Rattle.vd_value_rules.specs.declared.forms.IndicatedForm.{IndicatedForm}
use Rattle.vd_meaning.specs.Names.{image}
use Rattle.vd_meaning.specs.Operators.{literal_of}
use Rattle.vd_operators.specs.Texts.{text}
use Rattle.vd_values.specs.declared.scalar.Scalar.{Scalar}
use Rattle.vd_values.specs.declared.scalar.Scalar.TheVariants.{Literal}

-- ---- literals

abbrev first_text : Forest IndicatedForm → Option (List ℕ)
first_text nothing = None
first_text (more form text place parts next) = Some text

text_at : (n : ℕ) (f : Forest IndicatedForm) → slice_get (texts_in f) n ≡ first_text (skipped n f)
text_at n nothing = ap first_text (sym (skipped_nothing n))
text_at zero (more form text place parts next) = refl
text_at (suc n) (more form text place parts next) = text_at n next

literal_value : (v : Value Scalar) (n : ℕ) → scalar_of v ≡ Some (Literal n) → v ≡ One (Literal n)
literal_value (One x) n is = let same : x ≡ Literal n = cc in ap One same
literal_value (Array b vs) n is = absurd cc
literal_value (Fields vs) n is = absurd cc

image_by : (f : Forest IndicatedForm) (v : Value Scalar) (n : ℕ) → is_some (form_of f) ≡ true → scalar_of v ≡ Some (Literal n)
    → image (texts_in f) v ≡ (or_senseless (first_text (skipped n f)) >>= λ name. got (text name))
image_by nothing v n some is = absurd cc
image_by (more form name place parts next) v n some is =
    ap (λ w. literal_of w >>= λ m. or_senseless (slice_get (name ∷ texts_in next) m) >>= λ t. got (text t)) (literal_value v n is)
    ∙ ap (λ t. or_senseless t >>= λ u. got (text u)) (text_at n (more form name place parts next))

pub image_at : (f rest : Forest IndicatedForm) (v : Value Scalar) (n : ℕ) (form : IndicatedForm) (name : List ℕ) (place : Place) (parts next : Forest IndicatedForm) → is_some (form_of f) ≡ true
    → scalar_of v ≡ Some (Literal n) → rest ≡ skipped n f → rest ≡ more form name place parts next → image (texts_in f) v ≡ got (text name)
image_at f rest v n form name place parts next some is there first =
    image_by f v n some is ∙ ap (λ g. or_senseless (first_text g) >>= λ t. got (text t)) (sym there ∙ first)

pub image_missing : (f rest : Forest IndicatedForm) (v : Value Scalar) (n : ℕ) → is_some (form_of f) ≡ true → scalar_of v ≡ Some (Literal n) → rest ≡ skipped n f → rest ≡ nothing
    → is_got (image (texts_in f) v) ≡ false
image_missing f rest v n some is there empty =
    ap is_got (image_by f v n some is ∙ ap (λ g. or_senseless (first_text g) >>= λ t. got (text t)) (sym there ∙ empty))
