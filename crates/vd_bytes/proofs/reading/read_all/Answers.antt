use Rattle.std.proofs.Common.{◌≡◌, ◌<◌, length}
use Rattle.std.proofs.lemmas.Result.{IfOk-weaker}
use Rattle.vd_bytes.specs.Trays.{content_of}
use Rattle.vd_bytes.proofs.TrayLemmas.{OnlyReads-trans, SameCounts-trans, Rose-later, Rose-from_RoseAt}
use Rattle.vd_bytes.proofs.ReadSteps.{IfSome-found}
use Rattle.vd_bytes.proofs.reading.read_all.Goals as goal

pub returns-in-Ok-clause-content : goal.returns-in-Ok-clause-content
returns-in-Ok-clause-content g c =
    IfOk-weaker c.read_rest.result _ _
    (λ bytes read. IfSome-found _ _ (λ told. content_of told c.args.name.now) (λ told. bytes.items ≡ told) c.in-Ok.ensures.found read) c.read_rest.ensures.content

pub returns-in-Ok-clause-too_long : goal.returns-in-Ok-clause-too_long
returns-in-Ok-clause-too_long g c long =
    IfSome-found _ _ (λ told. content_of told c.args.name.now) (λ told. c.args.left < length told) c.in-Ok.ensures.found (c.read_rest.ensures.too_long long)

pub returns-in-Ok-clause-fault : goal.returns-in-Ok-clause-fault
returns-in-Ok-clause-fault g c faulty =
    Rose-later _ _ _ (c.open_file.ensures.only_reads.read_counts c.args.name.now) (Rose-from_RoseAt _ c.args.name.now _ _ c.in-Ok.ensures.named (c.read_rest.ensures.fault faulty))

pub returns-in-Ok-clause-no_fault : goal.returns-in-Ok-clause-no_fault
returns-in-Ok-clause-no_fault g c other =
    SameCounts-trans _ _ _ c.in-Ok.ensures.no_fault (c.read_rest.ensures.no_fault other)

pub returns-in-Ok-clause-only_reads : goal.returns-in-Ok-clause-only_reads
returns-in-Ok-clause-only_reads g c = OnlyReads-trans c.open_file.ensures.only_reads c.read_rest.ensures.only_reads
