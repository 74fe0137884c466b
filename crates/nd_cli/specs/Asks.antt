-- What `ask` writes: for each derivation in order the hook's reply on an idle park. `AnswersAsk` cites `WritesReplies` and
-- `WritesSomeReplies`, and with them what they are made of.
use Rattle.std.specs.Prelude.{◌≡◌, ℕ, Option, List, flat_map, take}
use Rattle.std.specs.List.{AllZip}
use Rattle.std.specs.Io.KnownBytes.{Appends}
use Rattle.nd_machines.specs.Builders.{Builder}
use Rattle.nd_eligible.specs.Settings.{Settings}
use Rattle.nd_eligible.specs.declared.need.Need.{Need}
use Rattle.nd_hook.specs.declared.kinds.Reply.{Reply}
use Rattle.nd_hook.specs.Idle.{IsIdleReply}
use Rattle.nd_hook.specs.ReplyText.{reply_text}
use Rattle.nd_devices.specs.Written.{WritesPart}

-- the replies about derivations with these needs, in order
pub record AreReplies (machines : List Builder) (local : Settings) (needs : List Need) (text : List ℕ) : Type 0 where
  pub replies : List Reply
  pub each : AllZip (IsIdleReply machines local) needs replies
  pub is : text ≡ flat_map (reply_text machines) replies

-- a writer took the replies about derivations with these needs
pub record WritesReplies (machines : List Builder) (local : Settings) (needs : List Need) (old new : Option (List ℕ)) : Type 0 where
  pub text : List ℕ
  pub are : AreReplies machines local needs text
  pub written : Appends old new text

-- a writer that refused took a part of the replies about the derivations with the first of these needs, from its beginning
pub record WritesSomeReplies (machines : List Builder) (local : Settings) (needs : List Need) (old new : Option (List ℕ)) : Type 0 where
  pub count : ℕ
  pub text : List ℕ
  pub are : AreReplies machines local (take count needs) text
  pub part : WritesPart old new text
