use Rattle.nd_serve_command.proofs.Unread.{reads_unless}
use Rattle.nd_serve_command.proofs.reading.read_dispatch.Goals as goal

pub returns-clause-exactly : goal.returns-clause-exactly
returns-clause-exactly g c = λ text inputs known has.
    reads_unless c.args.options.now g.R.Read.remaining c.args.input.now c.take_dispatch.new.input inputs c.take_dispatch.result c.take_dispatch.ensures.fault
    (c.take_dispatch.ensures.exactly text inputs known has)
