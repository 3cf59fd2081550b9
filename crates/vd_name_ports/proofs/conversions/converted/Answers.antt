use Rattle.vd_forest.specs.Forest.{nothing, with_next}
use Rattle.vd_name_ports.proofs.ConversionLemmas.{read_among}
use Rattle.vd_name_ports.proofs.conversions.converted.Goals as goal

pub returns-clause-is : goal.returns-clause-is
returns-clause-is c =
    let instance = c.args.instance.now in
    read_among c.read_first.new.out c.in_ok-read.read instance.entity instance.at.now instance.among.now instance.names.now (with_next c.args.trees.now nothing)
    c.requires.ports c.in_ok-read.ensures.is
