-- What a command comes to: an entry, a refusal or a reply. Histories called `past` stand newest first, the others oldest first.
-- Public clauses cite `ComesTo` and `TakesMemory`; `IsReplyNow` and `IsRefusal` serve the clauses of private functions alone.
use Rattle.std.specs.Prelude.{◌≡◌, ◌⊎◌, ℕ, true, List, reverse}
use Rattle.nd_hook.specs.declared.kinds.Reply.{Reply}
use Rattle.nd_history.specs.declared.entry.Entry.{Entry}
use Rattle.nd_history.specs.Premises.{Premises}
use Rattle.nd_history.specs.History.{is_leased}
use Rattle.nd_history.specs.Choices.{HasReply}
use Rattle.nd_ledger.specs.declared.refusal.Refusal.{Refusal}
use Rattle.nd_script.specs.declared.command.Command.{Command}
use Rattle.nd_script.specs.declared.command.Command.TheVariants.{Start, StartWith, Built, BuiltWith, Fail, Lose, Down, Stop, Drain, Enable, Ask}
use Rattle.nd_sim.specs.Answers.{HasAdded, IsCommandRefused}
use Rattle.nd_sim.specs.declared.answer.Answer.{Answer}
use Rattle.nd_sim.specs.declared.answer.Answer.TheVariants.{Added, Refused, Replied}

-- the command was refused, and not for want of memory; the history is as it was
pub record HasRefused (i : Premises) (old new : List Entry) (command : Command) (refusal : Refusal) : Type 0 where
  pub cause : IsCommandRefused i (reverse old) command refusal
  pub genuine : refusal ≡ Refusal.Memory → ⊥
  pub kept : new ≡ old

-- the command asks about a derivation, and this is the reply; the history is as it was
pub record HasReplied (i : Premises) (old new : List Entry) (command : Command) (reply : Reply) : Type 0 where
  pub drv : ℕ
  pub asks : command ≡ Command.Ask drv
  pub replies : HasReply i (reverse old) drv reply
  pub kept : new ≡ old

-- what a command comes to after the old history, and the new one
abbrev pub IsAnswer : Premises → List Entry → List Entry → Command → Answer → Type 0
IsAnswer i old new command Added = HasAdded i old new command
IsAnswer i old new command (Refused refusal) = HasRefused i old new command refusal
IsAnswer i old new command (Replied reply) = HasReplied i old new command reply

-- the command comes to this answer
pub record ComesTo (i : Premises) (old new : List Entry) (command : Command) (answer : Answer) : Type 0 where
  pub is : IsAnswer i old new command answer

-- it is the reply about some derivation
pub record IsReplyNow (i : Premises) (past : List Entry) (reply : Reply) : Type 0 where
  pub drv : ℕ
  pub replies : HasReply i past drv reply

-- The command takes memory: a start and an end with outputs where there is a lease, and a mark on a machine. The other commands take
-- none.
abbrev pub TakesMemory : List Entry → Command → Type 0
TakesMemory past (Start d) = is_leased d past ≡ true
TakesMemory past (StartWith d paths) = is_leased d past ≡ true
TakesMemory past (Built d) = is_leased d past ≡ true
TakesMemory past (BuiltWith d refs) = is_leased d past ≡ true
TakesMemory past (Fail d c) = ⊥
TakesMemory past (Lose d) = ⊥
TakesMemory past (Down d) = ⊥
TakesMemory past Stop = ⊥
TakesMemory past (Drain m) = Unit {0}
TakesMemory past (Enable m) = Unit {0}
TakesMemory past (Ask d) = ⊥

-- memory is wanting
pub record IsWant (past : List Entry) (command : Command) (refusal : Refusal) : Type 0 where
  pub is : refusal ≡ Refusal.Memory
  pub takes : TakesMemory past command

-- why there is no answer yet: memory is wanting, or the command is refused
abbrev pub IsRefusal : Premises → List Entry → Command → Refusal → Type 0
IsRefusal i past command e = IsWant past command e ⊎ IsCommandRefused i past command e
