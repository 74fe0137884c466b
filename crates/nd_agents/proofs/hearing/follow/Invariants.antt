use Rattle.std.proofs.Common.{◌≡◌, take, drop}
use Rattle.std.specs.Io.KnownBytes.{Consumes}
use Rattle.nd_agents.specs.Heard.{NeverBegins}
use Rattle.nd_agents.proofs.hearing.follow.Given as goal

-- the bytes so far were those, and where the others don't follow, all of them don't
abbrev pub invariant-loop-byte : goal.invariant-loop-byte
invariant-loop-byte g l = record {
  taken : Consumes (g.R.Read.remaining l.initial.answers.device) (g.R.Read.remaining l.answers.device) (take l.byte-index l.bytes);
  onward : NeverBegins (g.R.Read.remaining l.answers.device) (drop l.byte-index l.bytes) → NeverBegins (g.R.Read.remaining l.initial.answers.device) l.bytes;
  mark : l.answers.is_marked ≡ l.initial.answers.is_marked;
}
