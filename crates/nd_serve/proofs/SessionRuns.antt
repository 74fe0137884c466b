-- A session is a run of the simulation.
use Rattle.std.proofs.Common.{◌≡◌, ◌∙◌, ℕ, true, List, [], ◌∷◌, ◌++◌, reverse, refl, sym, ap, subst, append-nil, append_assoc}
use Rattle.std.specs.List.{flat_map}
use Rattle.std.proofs.lemmas.Grind.{flat_map-append}
use Rattle.nd_desk.specs.declared.event.Event.{Event}
use Rattle.nd_desk.specs.declared.event.Event.TheVariants.{Answered}
use Rattle.nd_desk.specs.Handing.{kept, handed}
use Rattle.nd_desk.specs.Notes.{answered, answered_by}
use Rattle.nd_history.specs.declared.entry.Entry.{Entry}
use Rattle.nd_history.specs.Premises.{Premises}
use Rattle.nd_history.specs.Legal.{IsLegal}
use Rattle.nd_script.specs.declared.command.Command.{Command}
use Rattle.nd_sim.specs.Runs.{IsRun, IsPumped}
use Rattle.nd_sim.proofs.OneStep.{pumping_legal}
use Rattle.nd_sim.proofs.OneRun.{turn_legal}
use Rattle.nd_serve.specs.declared.request.Request.{Request}
use Rattle.nd_serve.specs.declared.request.Request.TheVariants.{Call, Job, Report, Unknown}
use Rattle.nd_serve.specs.Turns.{Turn, IsTaken, IsReply, kept_text, answer_text, ready_line}
use Rattle.nd_serve.specs.Sessions.{Opening, IsSession, first_text, turn_events}
use Rattle.nd_serve.specs.SessionLaws.{command_of, commands_of, simulated_of, simulated_text, session_text, IsSimulated, SessionsAreRuns, SessionsAreLegal}

-- ---- what is answered

pub kept_silent : (lines : List ℕ) → answered (kept lines) ≡ []
kept_silent [] = refl
kept_silent (b ∷ lines) = refl

handed_says : (lines answer : List ℕ) → answered (handed lines answer) ≡ answer
handed_says lines answer =
    flat_map-append answered_by (kept lines) (Answered answer true ∷ []) ∙ ap (λ (t : List ℕ). t ++ (answer ++ [])) (kept_silent lines) ∙ append-nil answer

-- one more at the end
one_more : {X Y : Type 0} (f : X → List Y) (xs : List X) (x : X) → flat_map f (xs ++ x ∷ []) ≡ flat_map f xs ++ f x
one_more f xs x = flat_map-append f xs (x ∷ []) ∙ ap (λ (l : List _). flat_map f xs ++ l) (append-nil (f x))

-- ---- a turn goes on with the run

-- a question changes nothing
stays : (i : Premises) (commands : List Command) (old new : List Entry) (said : List ℕ) → IsRun i commands old said → new ≡ old → IsRun i (commands ++ []) new (said ++ [])
stays i commands old new said run same =
    subst (λ (l : List Entry). IsRun i (commands ++ []) l (said ++ [])) (sym same)
    (subst (λ (c : List Command). IsRun i c old (said ++ [])) (sym (append-nil commands))
    (subst (λ (t : List ℕ). IsRun i commands old t) (sym (append-nil said)) run))

run_on : (i : Premises) (commands : List Command) (old new : List Entry) (said text : List ℕ) (request : Request) → IsRun i commands old said → IsReply i old new request text
    → IsRun i (commands ++ command_of request) new (said ++ simulated_of request text)
run_on i commands old new said text (Call command) run reply = IsRun.turn commands old new command said text run reply
run_on i commands old new said text (Job d) run reply = stays i commands old new said run reply.kept
run_on i commands old new said text Report run reply = stays i commands old new said run reply.kept
run_on i commands old new said text Unknown run reply = stays i commands old new said run reply.kept

played : (i : Premises) (start : List Entry) (first : List ℕ) (opening : Opening) (turns : List Turn) (history : List Entry) (events : List Event)
    → IsSession i start first opening turns history events → start ≡ [] → IsSimulated i opening turns history events
played i start first opening turns history events (IsSession.opened new opens) none = record {
  run =
      subst (λ (t : List ℕ). IsRun i [] new t) (sym (append-nil opening.text))
      (IsRun.begun new opening.text (subst (λ (l : List Entry). IsPumped i l new opening.text) none opens.pumped));
  says = handed_says (first_text first opening) (opening.text ++ ready_line) ∙ sym (append-nil (opening.text ++ ready_line));
}
played i start first opening turns history events (IsSession.turned done old new turn before session taken) none =
    let earlier = played i start first opening done old before session none in
    let commands = one_more (λ (t : Turn). command_of t.request) done turn in
    let texts = one_more (λ (t : Turn). simulated_of t.request t.text) done turn in
    let said : simulated_text opening (done ++ turn ∷ []) ≡ simulated_text opening done ++ simulated_of turn.request turn.text =
    ap (λ (l : List ℕ). opening.text ++ l) texts ∙ sym (append_assoc opening.text (flat_map (λ (t : Turn). simulated_of t.request t.text) done) (simulated_of turn.request turn.text)) in
    record {
      run =
          subst (λ (c : List Command). IsRun i c new (simulated_text opening (done ++ turn ∷ []))) (sym commands)
          (subst (λ (t : List ℕ). IsRun i (commands_of done ++ command_of turn.request) new t) (sym said)
          (run_on i (commands_of done) old new (simulated_text opening done) turn.text turn.request earlier.run taken.replies));
      says =
          flat_map-append answered_by before (turn_events turn)
          ∙ ap (λ (l : List ℕ). l ++ answered (turn_events turn)) earlier.says
          ∙ ap (λ (l : List ℕ). session_text opening done ++ l) (handed_says (kept_text turn) (answer_text turn))
          ∙ append_assoc (opening.text ++ ready_line) (flat_map answer_text done) (answer_text turn)
          ∙ ap (λ (l : List ℕ). (opening.text ++ ready_line) ++ l) (sym (one_more answer_text done turn));
    }

pub sessions_are_runs : SessionsAreRuns
sessions_are_runs i first opening turns history events session = played i [] first opening turns history events session refl

-- ---- legality

reply_legal : (i : Premises) (old new : List Entry) (request : Request) (text : List ℕ) → IsReply i old new request text → IsLegal i (reverse old) → IsLegal i (reverse new)
reply_legal i old new (Call command) text reply legal = turn_legal i old new command text reply legal
reply_legal i old new (Job d) text reply legal = subst (λ (l : List Entry). IsLegal i (reverse l)) (sym reply.kept) legal
reply_legal i old new Report text reply legal = subst (λ (l : List Entry). IsLegal i (reverse l)) (sym reply.kept) legal
reply_legal i old new Unknown text reply legal = subst (λ (l : List Entry). IsLegal i (reverse l)) (sym reply.kept) legal

pub taken_legal : (i : Premises) (old new : List Entry) (turn : Turn) → IsTaken i old new turn → IsLegal i (reverse old) → IsLegal i (reverse new)
taken_legal i old new turn taken legal = reply_legal i old new turn.request turn.text taken.replies legal

pub sessions_are_legal : SessionsAreLegal
sessions_are_legal i start first opening turns history events legal (IsSession.opened new opens) = pumping_legal i start new opening.text opens.pumped.pumping legal
sessions_are_legal i start first opening turns history events legal (IsSession.turned done old new turn before session taken) =
    taken_legal i old new turn taken (sessions_are_legal i start first opening done old before legal session)
