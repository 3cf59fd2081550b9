-- What is known of the generics of an instance, in words of contracts.
use Rattle.vd_visible.specs.Sights.{sight_from}
use Rattle.vd_naming.specs.Actuals.{Known}
use Rattle.vd_name_actuals.specs.declared.known.Known as code

abbrev pub seen_known : code.Known → Known
seen_known k = record { sight = sight_from k.place.now; generics = k.stand_ins.now.generics; types = k.stand_ins.now.actuals }
