use Rattle.nd_bundle.proofs.Parted.{fault_so_far}
use Rattle.nd_bundle.proofs.lines_reader.LinesReader.into_numbered.Goals as goal

pub returns-in-Err-clause-err : goal.returns-in-Err-clause-err
returns-in-Err-clause-err c = fault_so_far c.args.self c.self.inside.so_far.bytes c.self.inside.reached c.in-Err.fault c.self.inside.manner c.self.view_is c.self.invariant c.in-Err.ensures.err
