-- The replies about many classes, of which many threads make a share each. They serve private clauses.
use Rattle.std.specs.Prelude.{◌≡◌, ℕ, ◌+◌, ◌/◌, ◌%◌, ◌<◌, min, List, length, Result, IfOk, Vec}
use Rattle.std.specs.Borrow.{Bor}
use Rattle.std.specs.Fork.{slice_chunk}
use Rattle.std.specs.List.{AllZip, slice_index_or}
use Rattle.std.specs.declared.alloc.AllocError.{AllocError}
use Rattle.nd_machines.specs.Builders.{Builder}
use Rattle.nd_eligible.specs.Settings.{Settings}
use Rattle.nd_eligible.specs.declared.need.Need.{Need}
use Rattle.nd_hook.specs.declared.kinds.Reply.{Reply}
use Rattle.nd_cli.specs.ClassReplies.{IsClassReply}

-- what a thread made, with any allocator: the replies about some classes
abbrev pub Share : Type 0 → Type 0
Share A = Result (Vec Reply A) AllocError

-- each share has the replies about so many classes, the last one perhaps about fewer
pub record AreShares {A : Type 0} (machines : List Builder) (local : Settings) (size : ℕ) (firsts : List (Bor Need)) (shares : List (Share A)) : Type 0 where
  pub some : 0 < size
  pub count : length shares ≡ length firsts / size + min 1 (length firsts % size)
  pub each : (n : ℕ) (d : Share A) → n < length shares → IfOk (slice_index_or shares n d) (λ replies. AllZip (IsClassReply machines local) (slice_chunk firsts size n) replies.items)
