-- How a build ended, with and without the references that it reported. The clause of `Answer::ended` cites it, and so do
-- the definitions of calls. This project's own choice.
use Rattle.nd_transports.specs.declared.kinds.Answer.{Answer}
use Rattle.nd_transports.specs.declared.kinds.Answer.TheVariants.{Built, Status, Lost, Memory}
use Rattle.nd_transports.specs.declared.kinds.Ended.{Ended}
use Rattle.nd_transports.specs.declared.kinds.Ended.TheVariants.{Built as EndedBuilt, Status as EndedStatus, Lost as EndedLost, Memory as EndedMemory}

-- the answer without the references
abbrev pub ended_of : Answer → Ended
ended_of (Built refs) = EndedBuilt
ended_of (Status code) = EndedStatus code
ended_of Lost = EndedLost
ended_of Memory = EndedMemory
