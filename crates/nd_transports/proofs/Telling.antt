-- Lemmas on what a stand-in answers.
use Rattle.std.proofs.Common.{◌≡◌, ℕ, refl, subst}
use Rattle.std.specs.List.{find}
use Rattle.nd_keeping.specs.Listing.{Listed}
use Rattle.nd_script.specs.Rules.{is_about}
use Rattle.nd_transports.specs.declared.kinds.Answer.{Answer}
use Rattle.nd_transports.specs.declared.kinds.Ended.{Ended}
use Rattle.nd_transports.specs.Answers.{ended_of}
use Rattle.nd_transports.specs.Calls.{State, built}
use Rattle.nd_transports.specs.Conducts.{Conducted, stood}
use Rattle.nd_transports.specs.StandIns.{answer_by, burnt, lets_pass, IsTold, StandInBuilds}

-- the build of a stand-in: what it goes by answers about the derivation of the job that was prepared last
pub stood_builds : (c d : Conducted) (s t : State) (by : Listed) (drv : ℕ) (answer : Answer) (ended : Ended) → drv ≡ s.job.ticket.drv
    → IsTold (lets_pass c.fuse) (answer_by c.outputs (find (is_about drv) c.rules)) answer → d ≡ record c { fuse = burnt c.fuse }
    → ended ≡ ended_of answer → t ≡ built s by answer → StandInBuilds (stood c s) by ended (stood d t)
stood_builds c d s t by drv answer ended same told after is noted =
    let D : ℕ → Type 0 = λ n. IsTold (lets_pass c.fuse) (answer_by c.outputs (find (is_about n) c.rules)) answer in
    record { answer = answer; by_rules = subst D same told; told = is; after = rw (after, noted) refl }
