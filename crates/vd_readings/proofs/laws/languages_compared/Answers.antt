use Rattle.vd_readings.proofs.ReadingLaws.{agreeing_alike, wider_more}
use Rattle.vd_readings.proofs.laws.languages_compared.Goals as goal

pub returns-clause-agreeing : goal.returns-clause-agreeing
returns-clause-agreeing c = agreeing_alike

pub returns-clause-wider : goal.returns-clause-wider
returns-clause-wider c = wider_more
