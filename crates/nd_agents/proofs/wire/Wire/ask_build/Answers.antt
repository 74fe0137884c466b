use Rattle.std.proofs.Common.{ℕ, List, refl, sym, subst}
use Rattle.nd_transports.specs.declared.kinds.Answer.{Answer}
use Rattle.nd_agents.specs.AnswerTexts.{IsAnswerFor}
use Rattle.nd_agents.specs.Heard.{ReadsLine}
use Rattle.nd_agents.proofs.Asking.{built_meaningless}
use Rattle.nd_agents.proofs.wire.Wire.ask_build.Goals as goal

pub returns-in-Err-Bad : goal.returns-in-Err-Bad
returns-in-Err-Bad g c =
    let never : (other : Answer) → IsAnswerFor c.args.outputs c.as_slice.result.now other → ⊥ = rw c.in-Err-Bad.field-0-is at c.in-Err-Bad.ensures.refused in
    let Reads : List ℕ → Type 0 = λ line. ReadsLine (g.R.Read.remaining c.self.inside.answers.device) (g.R.Read.remaining c.hear_line.new.answers.device) line in
    let read : Reads c.as_slice.result.now = subst Reads (sym c.as_slice.ensures.value) c.in-Ok-hear_line.ensures.heard in
    rw (← c.self.view_is)
    (built_meaningless g.R.Read.remaining g.W.Write.contents _ c.args.call.now c.args.outputs _ _ c.as_slice.result.now c.if-self.false refl refl
    c.in-Ok.ensures.written read never)
