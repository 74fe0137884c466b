-- What was spoken with an agent, call by call.
use Rattle.std.proofs.Common.{◌≡◌, ℕ, Bool, true, false, true≢false, List, [], ◌∷◌, ◌++◌, Option, refl, sym, ap, subst, ◌∙◌, inl, inr, append-nil, append_assoc, length}
use Rattle.std.specs.Prelude.{◌⊎◌}
use Rattle.std.specs.Io.KnownBytes.{Appends, Consumes}
use Rattle.std.proofs.KnownBytes.{Appends-nil, Consumes-nil, Appends-trans, Consumes-trans}
use Rattle.std.specs.List.{AllZip, flat_map}
use Rattle.std.proofs.lemmas.List.Elements.{All-nil, All-push}
use Rattle.std.proofs.lemmas.List.Concat.{flat_map-append}
use Rattle.nd_transports.specs.declared.kinds.Answer.{Answer}
use Rattle.nd_transports.specs.declared.kinds.Call.{Call}
use Rattle.nd_transports.specs.declared.kinds.Call.TheVariants.{Connect, Copy, Build}
use Rattle.nd_transports.specs.declared.kinds.Phase.{Phase}
use Rattle.nd_transports.specs.declared.kinds.Phase.TheVariants.{Idle, Prepared, Connected as HasConnected, Copied as HasCopied}
use Rattle.nd_transports.specs.Calls.{State, calls_of, deed_of}
use Rattle.nd_transports.proofs.Calling.{called}
use Rattle.nd_agents.specs.CallTexts.{line_with, connect_line, copy_line, build_line}
use Rattle.nd_agents.specs.AnswerTexts.{word, IsAnswerFor}
use Rattle.nd_agents.specs.Wires.{Wired, wired, Exchanges, BreaksOff, IsCutShort, IsAsked, IsBuildAsked}
use Rattle.nd_agents.specs.Agents.{Agency}
use Rattle.nd_agents.specs.Spoken.{Naming, call_line, call_text, answer_text, IsAnswered, IsDenied, IsUnanswered, AreExchanged, AreBrokenOff, IsSpoken, IsNamed, Lives, NewLives, PrepareLives, RefusedLives, ConnectLives, CopyLives, BuildLives, LifeIsWritten}

-- ---- one more

flat_push : {X : Type 0} (f : X → List ℕ) (xs : List X) (x : X) → flat_map f (xs ++ x ∷ []) ≡ flat_map f xs ++ f x
flat_push f xs x = flat_map-append f xs (x ∷ []) ∙ ap (λ (l : List ℕ). flat_map f xs ++ l) (append-nil (f x))

zip_push : {X Y : Type 0} (P : X → Y → Type 0) (xs : List X) (ys : List Y) (x : X) (y : Y) → AllZip P xs ys → P x y → AllZip P (xs ++ x ∷ []) (ys ++ y ∷ [])
zip_push P [] [] x y h p = (p, tt)
zip_push P [] (z ∷ ys) x y h p = absurd h
zip_push P (z ∷ xs) [] x y h p = absurd h
zip_push P (z ∷ xs) (w ∷ ys) x y h p = (h.0, zip_push P xs ys x y h.1 p)

there_or_gone : (b : Bool) → (b ≡ true) ⊎ (b ≡ false)
there_or_gone true = inl refl
there_or_gone false = inr refl

module _ {R W : Type 0} (n : Naming) (remaining : R → Option (List ℕ)) (contents : W → Option (List ℕ)) where
  -- what one call does
  record Speaks (old new : Wired R W) (c : Call) : Type 0 where
    pub gone : old.is_gone ≡ true → IsDenied c × (new ≡ old)
    pub here : old.is_gone ≡ false
        → ((line : List ℕ) × Exchanges remaining contents old new (call_line n c) (line_with line) × IsAnswered n c line) ⊎ (BreaksOff contents old new (call_line n c) × IsUnanswered c)

  exchanged_more : (start old new : Wired R W) (calls : List Call) (c : Call) (line : List ℕ) → AreExchanged n remaining contents start old calls
      → Exchanges remaining contents old new (call_line n c) (line_with line) → IsAnswered n c line → AreExchanged n remaining contents start new (calls ++ c ∷ [])
  exchanged_more start old new calls c line are more answered = record {
    lines = are.lines ++ line ∷ [];
    each = zip_push (IsAnswered n) calls are.lines c line are.each answered;
    written = subst (Appends _ _) (sym (flat_push (call_line n) calls c)) (Appends-trans _ _ _ (call_text n calls) (call_line n c) are.written more.written);
    read = subst (Consumes _ _) (sym (flat_push line_with are.lines line)) (Consumes-trans _ _ _ (answer_text are.lines) (line_with line) are.read more.read);
    granted = record { calls = more.granted.calls ∙ are.granted.calls; answers = more.granted.answers ∙ are.granted.answers };
  }

  broken_now : (start old new : Wired R W) (calls : List Call) (c : Call) → AreExchanged n remaining contents start old calls
      → BreaksOff contents old new (call_line n c) → IsUnanswered c → AreBrokenOff n remaining contents start new (calls ++ c ∷ [])
  broken_now start old new calls c are broken unanswered = record {
    before = calls;
    last = c;
    since = [];
    are = refl;
    lines = are.lines;
    each = are.each;
    part = broken.part;
    rest = broken.rest;
    split = broken.split;
    whole = broken.whole;
    written = Appends-trans _ _ _ (call_text n calls) broken.part are.written broken.written;
    left = remaining old.answers.device;
    read = are.read;
    unanswered = unanswered;
    denied = All-nil IsDenied;
  }

  broken_since : (start now : Wired R W) (calls : List Call) (c : Call) → AreBrokenOff n remaining contents start now calls → IsDenied c
      → AreBrokenOff n remaining contents start now (calls ++ c ∷ [])
  broken_since start now calls c are denied = record {
    before = are.before;
    last = are.last;
    since = are.since ++ c ∷ [];
    are = ap (λ (l : List Call). l ++ c ∷ []) are.are ∙ append_assoc are.before (are.last ∷ are.since) (c ∷ []);
    lines = are.lines;
    each = are.each;
    part = are.part;
    rest = are.rest;
    split = are.split;
    whole = are.whole;
    written = are.written;
    left = are.left;
    read = are.read;
    unanswered = are.unanswered;
    denied = All-push IsDenied are.since c are.denied denied;
  }

  exchanged_here : (start now : Wired R W) (calls : List Call) → now.is_gone ≡ false → AreExchanged n remaining contents start now calls → IsSpoken n remaining contents start now calls
  exchanged_here start now calls there are = record { here = λ _. are; gone = λ gone. absurd (true≢false (sym gone ∙ there)) }

  broken_gone : (start now : Wired R W) (calls : List Call) → now.is_gone ≡ true → AreBrokenOff n remaining contents start now calls → IsSpoken n remaining contents start now calls
  broken_gone start now calls gone are = record { here = λ there. absurd (true≢false (sym gone ∙ there)); gone = λ _. are }

  spoken_more : (start old new : Wired R W) (calls : List Call) (c : Call) → IsSpoken n remaining contents start old calls → Speaks old new c
      → IsSpoken n remaining contents start new (calls ++ c ∷ [])
  spoken_more start old new calls c spoken speaks = elim (there_or_gone old.is_gone) [
    | inl gone ↦
        let after = speaks.gone gone in
        let same : new ≡ old = after.1 in
        let Spoken : Wired R W → Type 0 = λ w. IsSpoken n remaining contents start w (calls ++ c ∷ []) in
        subst Spoken (sym same) (broken_gone start old (calls ++ c ∷ []) gone (broken_since start old calls c (spoken.gone gone) after.0))
    | inr there ↦
        let are = spoken.here there in
        elim (speaks.here there) [
          | inl answered ↦ exchanged_here start new (calls ++ c ∷ []) answered.1.here (exchanged_more start old new calls c answered.0 are answered.1 answered.2)
          | inr broken ↦ broken_gone start new (calls ++ c ∷ []) broken.0.gone (broken_now start old new calls c are broken.0 broken.1)
        ]
  ]

  -- ---- the calls of an agent

  denied_unanswered : (c : Call) → IsDenied c → IsUnanswered c
  denied_unanswered (Connect answered) denied = denied
  denied_unanswered (Copy paths done) denied = denied
  denied_unanswered (Build drv answer) denied = inl denied

  asked_speaks : (old new : Wired R W) (c : Call) (call : List ℕ) (answered : Bool) → call_line n c ≡ call → IsAnswered n c (word answered) → (answered ≡ false → IsDenied c)
      → IsAsked remaining contents old new call answered → Speaks old new c
  asked_speaks old new c call answered same says denies asked = record {
    gone = λ gone. let after = asked.gone gone in (denies after.0, after.1);
    here = λ there. elim (asked.here there) [
      | inl exchanged ↦ inl (word answered, subst (λ (l : List ℕ). Exchanges remaining contents old new l (line_with (word answered))) (sym same) exchanged, says)
      | inr unworded ↦ inr (subst (λ (l : List ℕ). BreaksOff contents old new l) (sym same) unworded.broken, denied_unanswered c (denies unworded.no))
    ];
  }

  -- the line of a call was written whole, and there was no memory for that of its answer
  breaks_short : (old new : Wired R W) (call : List ℕ) (answer : Answer) → IsCutShort remaining contents old new call answer → BreaksOff contents old new call
  breaks_short old new call answer short = record {
    part = call;
    rest = [];
    split = sym (append-nil call);
    written = short.written;
    whole = λ _. refl;
    gone = short.gone;
  }

  build_speaks : (old new : Wired R W) (drv outputs : ℕ) (call : List ℕ) (answer : Answer) → call ≡ build_line (n.path drv) (n.outputs drv) → outputs ≡ length (n.outputs drv)
      → IsBuildAsked remaining contents outputs old new call answer → Speaks old new (Build drv answer)
  build_speaks old new drv outputs call answer same number asked =
      let Exchanged : List ℕ → List ℕ → Type 0 = λ line l. Exchanges remaining contents old new l (line_with line) in
      let Breaks : List ℕ → Type 0 = λ l. BreaksOff contents old new l in
      record {
        gone = λ gone. asked.gone gone;
        here = λ there. elim (asked.here there) [
          | inl told ↦ inl (told.line, subst (Exchanged told.line) same told.exchanged, record { plain = told.plain; either = inl (subst (λ (k : ℕ). IsAnswerFor k told.line answer) number told.says) })
          | inr other ↦ elim other [
            | inl forgotten ↦ inl (forgotten.line, subst (Exchanged forgotten.line) same forgotten.exchanged, record { plain = forgotten.plain; either = inr (forgotten.listing, forgotten.memory) })
            | inr unread ↦ elim unread [
              | inl broken ↦ inr (subst Breaks same broken.broken, inl broken.lost)
              | inr short ↦ inr (subst Breaks same (breaks_short old new call answer short), inr short.memory)
            ]
          ]
        ];
      }

  module _ (answers : R) (calls : W) where
    -- the agent after one more call, of which the calls and the wire are known
    lives_more : (a b : Agency R W) (c : Call) → Lives n remaining contents answers calls a → Speaks a.wire b.wire c → calls_of b.state.deeds ≡ calls_of a.state.deeds ++ c ∷ []
        → ((b.state.phase ≡ Idle → ⊥) → IsNamed n b) → Lives n remaining contents answers calls b
    lives_more a b c lives speaks more named = record {
      spoken = subst (λ (cs : List Call). IsSpoken n remaining contents (wired answers calls) b.wire cs) (sym more)
          (spoken_more (wired answers calls) a.wire b.wire (calls_of a.state.deeds) c lives.spoken speaks);
      named = named;
    }

    named_after : (a b : Agency R W) → IsNamed n a → b.state.job.ticket.drv ≡ a.state.job.ticket.drv → b.build_call ≡ a.build_call → b.outputs ≡ a.outputs → IsNamed n b
    named_after a b named drv call outputs = record {
      call = call ∙ named.call ∙ ap (λ (d : ℕ). build_line (n.path d) (n.outputs d)) (sym drv);
      outputs = outputs ∙ named.outputs ∙ ap (λ (d : ℕ). length (n.outputs d)) (sym drv);
    }

busy : (p q : Phase) → p ≡ q → (q ≡ Idle → ⊥) → p ≡ Idle → ⊥
busy p q is not idle = not (sym is ∙ idle)

-- ---- the laws

pub new_lives : {R W : Type 0} (remaining : R → Option (List ℕ)) (contents : W → Option (List ℕ)) → NewLives remaining contents
new_lives remaining contents n answers calls = record {
  spoken = exchanged_here n remaining contents (wired answers calls) (wired answers calls) [] refl
      (record { lines = []; each = tt; written = Appends-nil (contents calls); read = Consumes-nil (remaining answers); granted = record { calls = refl; answers = refl } });
  named = λ busy. absurd (busy refl);
}

pub prepare_lives : {R W : Type 0} (remaining : R → Option (List ℕ)) (contents : W → Option (List ℕ)) → PrepareLives remaining contents
prepare_lives remaining contents n answers calls a job lives called = record {
  spoken = lives.spoken;
  named = λ _. record { call = (λ i. build_line (called.path i) (called.outputs i)); outputs = ap length called.outputs };
}

pub refused_lives : {R W : Type 0} (remaining : R → Option (List ℕ)) (contents : W → Option (List ℕ)) → RefusedLives remaining contents
refused_lives {R} {W} remaining contents n answers calls a b lives idle wire =
    let Spoken : Wired R W → Type 0 = λ w. IsSpoken n remaining contents (wired answers calls) w (calls_of b.state.deeds) in
    record {
      spoken = subst Spoken (sym wire) (subst (λ (cs : List Call). IsSpoken n remaining contents (wired answers calls) a.wire cs) (sym (ap calls_of idle.deeds)) lives.spoken);
      named = λ busy. absurd (busy idle.phase);
    }

pub connect_lives : {R W : Type 0} (remaining : R → Option (List ℕ)) (contents : W → Option (List ℕ)) → ConnectLives remaining contents
connect_lives remaining contents n answers calls a b by answered lives phase after asked call outputs =
    let named = lives.named (busy a.state.phase Prepared phase (λ e. cc)) in
    lives_more n remaining contents answers calls a b (Connect answered) lives
    (asked_speaks n remaining contents a.wire b.wire (Connect answered) connect_line answered refl refl (λ no. no) asked)
    (called a.state.deeds b.state.deeds (deed_of a.state by (Connect answered)) (ap (λ (s : State). s.deeds) after))
    (λ _. named_after n remaining contents answers calls a b named (ap (λ (s : State). s.job.ticket.drv) after) call outputs)

pub copy_lives : {R W : Type 0} (remaining : R → Option (List ℕ)) (contents : W → Option (List ℕ)) → CopyLives remaining contents
copy_lives remaining contents n answers calls a b by done lives phase after asked call outputs =
    let named = lives.named (busy a.state.phase HasConnected phase (λ e. cc)) in
    lives_more n remaining contents answers calls a b (Copy a.state.paths done) lives
    (asked_speaks n remaining contents a.wire b.wire (Copy a.state.paths done) (copy_line a.state.paths) done refl refl (λ no. no) asked)
    (called a.state.deeds b.state.deeds (deed_of a.state by (Copy a.state.paths done)) (ap (λ (s : State). s.deeds) after))
    (λ _. named_after n remaining contents answers calls a b named (ap (λ (s : State). s.job.ticket.drv) after) call outputs)

pub build_lives : {R W : Type 0} (remaining : R → Option (List ℕ)) (contents : W → Option (List ℕ)) → BuildLives remaining contents
build_lives remaining contents n answers calls a b by ended lives phase builds =
    let named = lives.named (busy a.state.phase HasCopied phase (λ e. cc)) in
    lives_more n remaining contents answers calls a b (Build a.state.job.ticket.drv builds.answer) lives
    (build_speaks n remaining contents a.wire b.wire a.state.job.ticket.drv a.outputs a.build_call builds.answer named.call named.outputs builds.asked)
    (called a.state.deeds b.state.deeds (deed_of a.state by (Build a.state.job.ticket.drv builds.answer)) (ap (λ (s : State). s.deeds) builds.after))
    (λ busy. absurd (busy (ap (λ (s : State). s.phase) builds.after)))

-- ---- what was written, as one text

text_apart : (n : Naming) (before since : List Call) (last : Call) (part rest : List ℕ) → call_line n last ≡ part ++ rest
    → call_text n (before ++ last ∷ since) ≡ (call_text n before ++ part) ++ (rest ++ call_text n since)
text_apart n before since last part rest split =
    flat_map-append (call_line n) before (last ∷ since)
    ∙ ap (λ (l : List ℕ). call_text n before ++ (l ++ call_text n since)) split
    ∙ ap (λ (l : List ℕ). call_text n before ++ l) (append_assoc part rest (call_text n since))
    ∙ sym (append_assoc (call_text n before) part (rest ++ call_text n since))

pub life_is_written : {R W : Type 0} (remaining : R → Option (List ℕ)) (contents : W → Option (List ℕ)) → LifeIsWritten remaining contents
life_is_written remaining contents n answers calls a lives = elim (there_or_gone a.wire.is_gone) [
  | inl gone ↦
      let are = lives.spoken.gone gone in
      record {
        part = call_text n are.before ++ are.part;
        rest = are.rest ++ call_text n are.since;
        whole = ap (call_text n) are.are ∙ text_apart n are.before are.since are.last are.part are.rest are.split;
        written = are.written;
      }
  | inr there ↦
      let are = lives.spoken.here there in
      record { part = call_text n (calls_of a.state.deeds); rest = []; whole = sym (append-nil (call_text n (calls_of a.state.deeds))); written = are.written }
]
