-- What calls come to.
use Rattle.std.proofs.Common.{◌≡◌, ℕ, Bool, true, false, true≢false, List, [], Option, sym, ◌∙◌, inl, inr, append-nil, refl}
use Rattle.std.specs.Prelude.{◌⊎◌}
use Rattle.std.specs.Io.KnownBytes.{Appends, Consumes}
use Rattle.nd_devices.specs.Written.{WritesPart}
use Rattle.nd_transports.specs.declared.kinds.Answer.{Answer}
use Rattle.nd_transports.specs.declared.kinds.Answer.TheVariants.{Lost, Memory}
use Rattle.nd_agents.specs.declared.hearing.Unheard.TheVariants.{NoLine, Refused, Memory as Short}
use Rattle.nd_agents.specs.AnswerTexts.{word_line, IsAnswerFor, IsListing}
use Rattle.nd_agents.specs.Heard.{IsNeither, ReadsLine, IsUnheard}
use Rattle.nd_agents.specs.Wires.{Wired, BreaksOff, IsAsked, IsBuildAsked}

module _ {R W : Type 0} (remaining : R → Option (List ℕ)) (contents : W → Option (List ℕ)) (old : Wired R W) (call : List ℕ) where
  -- ---- the agent breaks off

  unsent : (new : Wired R W) → WritesPart (contents old.calls.device) (contents new.calls.device) call → new.calls.is_marked ≡ true → new.is_gone ≡ true
      → BreaksOff contents old new call
  unsent new part mark gone = record {
    part = part.part;
    rest = part.rest;
    split = part.whole;
    written = part.written;
    whole = λ unmarked. absurd (true≢false (sym mark ∙ unmarked));
    gone = gone;
  }

  sent : (new : Wired R W) → Appends (contents old.calls.device) (contents new.calls.device) call → new.is_gone ≡ true → BreaksOff contents old new call
  sent new written gone = record { part = call; rest = []; split = sym (append-nil call); written = written; whole = λ _. refl; gone = gone }

  -- ---- a yes or a no

  pub asked_gone : (answered : Bool) → old.is_gone ≡ true → answered ≡ false → IsAsked remaining contents old old call answered
  asked_gone answered gone denied = record { gone = λ _. (denied, λ _. old); here = λ here. absurd (true≢false (sym gone ∙ here)) }

  pub asked_unsent : (new : Wired R W) (answered : Bool) → old.is_gone ≡ false → new.is_gone ≡ true → answered ≡ false
      → WritesPart (contents old.calls.device) (contents new.calls.device) call → new.calls.is_marked ≡ true → IsAsked remaining contents old new call answered
  asked_unsent new answered here gone denied part mark = record {
    gone = λ was. absurd (true≢false (sym was ∙ here));
    here = λ _. inr (record { no = denied; broken = unsent new part mark gone; cause = inl mark });
  }

  pub asked_heard : (new : Wired R W) (answered : Bool) → old.is_gone ≡ false → new.is_gone ≡ false
      → Appends (contents old.calls.device) (contents new.calls.device) call
      → Consumes (remaining old.answers.device) (remaining new.answers.device) (word_line answered)
      → new.calls.is_marked ≡ old.calls.is_marked → new.answers.is_marked ≡ old.answers.is_marked
      → IsAsked remaining contents old new call answered
  asked_heard new answered here there written read calls answers = record {
    gone = λ was. absurd (true≢false (sym was ∙ here));
    here = λ _. inl (record { written = written; read = read; granted = record { calls = calls; answers = answers }; here = there });
  }

  pub asked_unheard : (new : Wired R W) (answered : Bool) → old.is_gone ≡ false → new.is_gone ≡ true → answered ≡ false
      → Appends (contents old.calls.device) (contents new.calls.device) call
      → (new.answers.is_marked ≡ true) ⊎ IsNeither (remaining old.answers.device) → IsAsked remaining contents old new call answered
  asked_unheard new answered here gone denied written cause = record {
    gone = λ was. absurd (true≢false (sym was ∙ here));
    here = λ _. inr (record { no = denied; broken = sent new written gone; cause = inr cause });
  }

  -- ---- a build of so many outputs

  module _ (outputs : ℕ) where
    pub built_gone : (answer : Answer) → old.is_gone ≡ true → answer ≡ Lost → IsBuildAsked remaining contents outputs old old call answer
    built_gone answer gone lost = record { gone = λ _. (lost, λ _. old); here = λ here. absurd (true≢false (sym gone ∙ here)) }

    pub built_unsent : (new : Wired R W) (answer : Answer) → old.is_gone ≡ false → new.is_gone ≡ true → answer ≡ Lost
        → WritesPart (contents old.calls.device) (contents new.calls.device) call → new.calls.is_marked ≡ true → IsBuildAsked remaining contents outputs old new call answer
    built_unsent new answer here gone lost part mark = record {
      gone = λ was. absurd (true≢false (sym was ∙ here));
      here = λ _. inr (inr (inl (record { lost = lost; broken = unsent new part mark gone; cause = inl mark })));
    }

    pub built_unlined : (new : Wired R W) (answer : Answer) → old.is_gone ≡ false → new.is_gone ≡ true → answer ≡ Lost
        → Appends (contents old.calls.device) (contents new.calls.device) call
        → IsUnheard remaining old.answers new.answers NoLine → IsBuildAsked remaining contents outputs old new call answer
    built_unlined new answer here gone lost written unheard = record {
      gone = λ was. absurd (true≢false (sym was ∙ here));
      here = λ _. inr (inr (inl (record { lost = lost; broken = sent new written gone; cause = inr (inr (inl unheard.cause)) })));
    }

    pub built_unread : (new : Wired R W) (answer : Answer) → old.is_gone ≡ false → new.is_gone ≡ true → answer ≡ Lost
        → Appends (contents old.calls.device) (contents new.calls.device) call
        → IsUnheard remaining old.answers new.answers Refused → IsBuildAsked remaining contents outputs old new call answer
    built_unread new answer here gone lost written unheard = record {
      gone = λ was. absurd (true≢false (sym was ∙ here));
      here = λ _. inr (inr (inl (record { lost = lost; broken = sent new written gone; cause = inr (inl unheard.cause) })));
    }

    pub built_short : (new : Wired R W) (answer : Answer) → old.is_gone ≡ false → new.is_gone ≡ true → answer ≡ Memory
        → Appends (contents old.calls.device) (contents new.calls.device) call
        → IsUnheard remaining old.answers new.answers Short → new.calls.is_marked ≡ old.calls.is_marked → IsBuildAsked remaining contents outputs old new call answer
    built_short new answer here gone memory written unheard calls = record {
      gone = λ was. absurd (true≢false (sym was ∙ here));
      here = λ _. inr (inr (inr (record { memory = memory; written = written; read = unheard.cause.opening; granted = record { calls = calls; answers = unheard.cause.unmarked }; gone = gone })));
    }

    pub built_meaningless : (new : Wired R W) (answer : Answer) (line : List ℕ) → old.is_gone ≡ false → new.is_gone ≡ true → answer ≡ Lost
        → Appends (contents old.calls.device) (contents new.calls.device) call
        → ReadsLine (remaining old.answers.device) (remaining new.answers.device) line → ((other : Answer) → IsAnswerFor outputs line other → ⊥)
        → IsBuildAsked remaining contents outputs old new call answer
    built_meaningless new answer line here gone lost written read never = record {
      gone = λ was. absurd (true≢false (sym was ∙ here));
      here = λ _. inr (inr (inl (record { lost = lost; broken = sent new written gone; cause = inr (inr (inr (record { line = line; read = read; never = never }))) })));
    }

    pub built_told : (new : Wired R W) (answer : Answer) (line : List ℕ) → old.is_gone ≡ false → new.is_gone ≡ false
        → Appends (contents old.calls.device) (contents new.calls.device) call
        → ReadsLine (remaining old.answers.device) (remaining new.answers.device) line → IsAnswerFor outputs line answer
        → new.calls.is_marked ≡ old.calls.is_marked → new.answers.is_marked ≡ old.answers.is_marked
        → IsBuildAsked remaining contents outputs old new call answer
    built_told new answer line here there written read says calls answers = record {
      gone = λ was. absurd (true≢false (sym was ∙ here));
      here = λ _. inl (record { line = line; plain = read.plain; within = read.within; says = says; exchanged = record { written = written; read = read.consumed; granted = record { calls = calls; answers = answers }; here = there } });
    }

    pub built_forgotten : (new : Wired R W) (answer : Answer) (line : List ℕ) → old.is_gone ≡ false → new.is_gone ≡ false → answer ≡ Memory
        → Appends (contents old.calls.device) (contents new.calls.device) call
        → ReadsLine (remaining old.answers.device) (remaining new.answers.device) line → IsListing line
        → new.calls.is_marked ≡ old.calls.is_marked → new.answers.is_marked ≡ old.answers.is_marked
        → IsBuildAsked remaining contents outputs old new call answer
    built_forgotten new answer line here there memory written read listing calls answers = record {
      gone = λ was. absurd (true≢false (sym was ∙ here));
      here = λ _. inr (inl (record { line = line; plain = read.plain; within = read.within; listing = listing; memory = memory; exchanged = record { written = written; read = read.consumed; granted = record { calls = calls; answers = answers }; here = there } }));
    }

pub ruleset asks = (asked_gone, asked_unsent, asked_heard, asked_unheard)

pub ruleset builds = (built_gone, built_unsent, built_unlined, built_unread, built_short, built_meaningless, built_told, built_forgotten)
