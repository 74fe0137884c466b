use Rattle.std.proofs.Common.{◌≡◌, ◌≢◌, ◌+◌, ◌-◌, vec_len}
use Rattle.std.specs.List.{All}
use Rattle.std.specs.Io.KnownBytes.{Consumes}
use Rattle.nd_agents.specs.Heard.{longest}
use Rattle.nd_agents.proofs.hearing.hear_line.Given as goal

abbrev pub invariant-loop-answers : goal.invariant-loop-answers
invariant-loop-answers g l = record {
  taken : Consumes (g.R.Read.remaining l.initial.answers.device) (g.R.Read.remaining l.answers.device) l.line.items;
  plain : All (λ b. b ≢ 10) l.line.items;
  mark : l.answers.is_marked ≡ l.initial.answers.is_marked;
}

abbrev pub decreases-loop-answers : goal.decreases-loop-answers
decreases-loop-answers g l = longest + 1 - vec_len l.line
