use Rattle.nd_transports.proofs.Calling.{builds_reported}
use Rattle.nd_transports.proofs.serving.serve_build.Goals as goal

pub reported-requires : goal.reported-requires
reported-requires g c = builds_reported (g.T.Transport.state c.args.transport.now) (g.T.Transport.state c.build.new.self) c.args.by.now c.build.result c.build.ensures c.in-Built.is
