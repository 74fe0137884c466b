use Rattle.std.proofs.Common.{◌≡◌}
use Rattle.nd_serve.specs.Sessions.{first_of}
use Rattle.nd_serve.proofs.Serving.{HasServed}
use Rattle.nd_serve.proofs.session.serve.Given as goal

-- the turns that were taken are a session
abbrev pub invariant-loop-turn : goal.invariant-loop-turn
invariant-loop-turn g l = record {
  inputs : l.dispatch.inputs ≡ l.fn.dispatch.inputs;
  served : HasServed l.fn.dispatch.inputs l.fn.dispatch.history l.dispatch.history (first_of l.fresh) (g.D.Desk.seen l.fn.desk) (g.D.Desk.seen l.desk) l._turn;
}
