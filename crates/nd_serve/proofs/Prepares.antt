-- What a turn comes to before it is handed over.
use Rattle.std.proofs.Common.{◌≡◌, ◌∙◌, ℕ, ◌≤◌, List, [], ◌∷◌, ◌++◌, length, drop, Some, refl, sym, ap, subst, append-nil, append_assoc}
use Rattle.std.specs.List.{All, flat_map}
use Rattle.nd_history.specs.declared.entry.Entry.{Entry}
use Rattle.nd_history.specs.Premises.{Premises}
use Rattle.nd_history.specs.Choices.{machines_in}
use Rattle.nd_history_text.specs.HistoryTexts.{line_of}
use Rattle.nd_history_text.specs.Sound.{IsSound}
use Rattle.nd_script.specs.declared.command.Command.{Command}
use Rattle.nd_sim.specs.declared.answer.Answer.{Answer}
use Rattle.nd_sim.specs.declared.answer.Answer.TheVariants.{Added, Refused, Replied}
use Rattle.nd_sim.specs.Outcomes.{IsAnswer as IsOutcome}
use Rattle.nd_sim.specs.Runs.{IsTurn}
use Rattle.nd_sim.specs.Written.{WritesPumped}
use Rattle.nd_sim.proofs.Named.{line_named}
use Rattle.nd_sim.proofs.Simulating.{new_entries, behind}
use Rattle.nd_serve.specs.declared.request.Request.{Request}
use Rattle.nd_serve.specs.declared.request.Request.TheVariants.{Call, Job, Report, Unknown}
use Rattle.nd_serve.specs.Asked.{Asks}
use Rattle.nd_serve.specs.Turns.{IsReply, ready_line}
use Rattle.nd_serve.specs.Steps.{IsRequestNamed, WritesReply, AreLinesSince, IsAnswer, IsOpeningAnswer, IsPrepared, IsOpeningPrepared}

-- ---- what is asked for

pub asked_here : (i : Premises) (drvs machines : ℕ) (line : List ℕ) (request : Request) → drvs ≡ length i.graph.paths → machines ≡ machines_in i → Asks drvs machines line request
    → Asks (length i.graph.paths) (machines_in i) line request
asked_here i drvs machines line request all park asks =
    subst (λ (m : ℕ). Asks (length i.graph.paths) m line request) park (subst (λ (d : ℕ). Asks d machines line request) all asks)

pub request_named : (i : Premises) (line : List ℕ) (request : Request) → Asks (length i.graph.paths) (machines_in i) line request → IsRequestNamed i request
request_named i line (Call command) asks = line_named i line command asks
request_named i line (Job d) asks = asks.operand.below
request_named i line Report asks = tt
request_named i line Unknown asks = tt

-- ---- the history only grows

record HasGrown (old new : List Entry) : Type 0 where
  added : List Entry
  grown : new ≡ old ++ added

kept : (old new : List Entry) → new ≡ old → HasGrown old new
kept old new same = record { added = []; grown = same ∙ sym (append-nil old) }

outcome_grown : (i : Premises) (old new : List Entry) (command : Command) (answer : Answer) → IsOutcome i old new command answer → HasGrown old new
outcome_grown i old new command Added outcome = record { added = outcome.entry ∷ []; grown = outcome.grown }
outcome_grown i old new command (Refused refusal) outcome = kept old new outcome.kept
outcome_grown i old new command (Replied reply) outcome = kept old new outcome.kept

turn_grown : (i : Premises) (old new : List Entry) (command : Command) (text : List ℕ) → IsTurn i old new command text → HasGrown old new
turn_grown i old new command text turn =
    let first = outcome_grown i old turn.middle command turn.obeyed.answer turn.obeyed.comes.is in
    let pumping = turn.pumped.pumping in
    record {
      added = first.added ++ pumping.steps;
      grown = pumping.grown ∙ ap (λ (l : List Entry). l ++ pumping.steps) first.grown ∙ append_assoc old first.added pumping.steps;
    }

reply_grown : (i : Premises) (old new : List Entry) (request : Request) (text : List ℕ) → IsReply i old new request text → HasGrown old new
reply_grown i old new (Call command) text reply = turn_grown i old new command text reply
reply_grown i old new (Job d) text reply = kept old new reply.kept
reply_grown i old new Report text reply = kept old new reply.kept
reply_grown i old new Unknown text reply = kept old new reply.kept

pub answer_past : (i : Premises) (old new : List Entry) (request : Request) (answer : List ℕ) (n : ℕ) → n ≡ length old → IsAnswer i old new request answer → n ≤ length new
answer_past i old new request answer n is h = let grown = reply_grown i old new request h.text h.reply in behind old new grown.added n is grown.grown

-- the lines of the last entries, and that these read back
pub lines_since : (n : ℕ) (history added : List Entry) (first before lines : List ℕ) → added ≡ drop n history → All IsSound added → before ≡ first
    → lines ≡ before ++ flat_map line_of (drop n history) → AreLinesSince n history first lines
lines_since n history added first before lines same sound begun are = record {
  text = are ∙ ap (λ (f : List ℕ). f ++ flat_map line_of (drop n history)) begun;
  sound = subst (All IsSound) same sound;
}

pub turn_prepared : (i : Premises) (old new : List Entry) (line : List ℕ) (request : Request) (answer lines : List ℕ) (n : ℕ) → n ≡ length old
    → Asks (length i.graph.paths) (machines_in i) line request → IsAnswer i old new request answer → AreLinesSince n new [] lines → IsPrepared i old new line answer lines
turn_prepared i old new line request answer lines n is asks h since =
    let grown = reply_grown i old new request h.text h.reply in
    let new_ones = new_entries old new grown.added n is grown.grown in
    record {
      turn = record { line = line; request = request; added = grown.added; text = h.text };
      taken = record { asks = asks; replies = h.reply; grown = grown.grown; sound = subst (All IsSound) new_ones since.sound };
      heard = refl;
      says = h.is;
      keeps = since.text ∙ ap (flat_map line_of) new_ones;
    }

pub ruleset prepared = (answer_past, turn_prepared)

-- ---- the answer

pub answered : (i : Premises) (old new : List Entry) (request : Request) (before after answer : List ℕ) → before ≡ [] → WritesReply i old new request (Some before) (Some after)
    → answer ≡ after ++ ready_line → IsAnswer i old new request answer
answered i old new request before after answer none wrote is = record {
  text = wrote.text;
  reply = wrote.reply;
  is = is ∙ ap (λ (t : List ℕ). t ++ ready_line) (wrote.appended ∙ ap (λ (t : List ℕ). t ++ wrote.text) none);
}

pub ruleset answers = (answered)

pub opening_answered : (i : Premises) (old new : List Entry) (before after answer : List ℕ) → before ≡ [] → WritesPumped i old new (Some before) (Some after)
    → answer ≡ after ++ ready_line → IsOpeningAnswer i old new answer
opening_answered i old new before after answer none wrote is = record {
  text = wrote.text;
  pumped = wrote.pumped;
  is = is ∙ ap (λ (t : List ℕ). t ++ ready_line) (wrote.appended ∙ ap (λ (t : List ℕ). t ++ wrote.text) none);
}

-- ---- the opening

pub opening_past : (i : Premises) (old new : List Entry) (answer : List ℕ) (n : ℕ) → n ≡ length old → IsOpeningAnswer i old new answer → n ≤ length new
opening_past i old new answer n is h = behind old new h.pumped.pumping.steps n is h.pumped.pumping.grown

pub opening_prepared : (i : Premises) (old new : List Entry) (first last answer lines : List ℕ) (n : ℕ) → n ≡ length old → IsOpeningAnswer i old new answer → first ≡ last
    → AreLinesSince n new first lines → IsOpeningPrepared i old new last answer lines
opening_prepared i old new first last answer lines n is h same since =
    let pumping = h.pumped.pumping in
    let new_ones = new_entries old new pumping.steps n is pumping.grown in
    record {
      opening = record { added = pumping.steps; text = h.text };
      opens = record { pumped = h.pumped; grown = pumping.grown; sound = subst (All IsSound) new_ones since.sound };
      says = h.is;
      keeps = since.text ∙ (λ j. same j ++ flat_map line_of (new_ones j));
    }

pub ruleset opened = (opening_past, opening_prepared)
