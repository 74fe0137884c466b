-- What a crash leaves is a journal, and its history begins with the entries whose lines are durable.
use Rattle.std.proofs.Common.{◌≡◌, ◌∙◌, ℕ, true, List, [], ◌∷◌, ◌++◌, reverse, refl, sym, ap, subst, append-nil, append_assoc, inl, inr}
use Rattle.std.specs.List.{All, flat_map}
use Rattle.std.proofs.lemmas.Grind.{flat_map-append}
use Rattle.std.proofs.lemmas.List.{reverse-append}
use Rattle.std.proofs.lemmas.List.Elements.{All-nil, All-cons, All-head, All-tail, All-append, All-weaker}
use Rattle.nd_history.specs.declared.entry.Entry.{Entry}
use Rattle.nd_history.specs.declared.entry.Entry.TheVariants.{Chosen, NoBuilder, Started, Down, Built, Failed, Stop, Drain, Enable}
use Rattle.nd_history.specs.Premises.{Premises}
use Rattle.nd_history.specs.Legal.{IsLegal}
use Rattle.nd_history_text.specs.HistoryTexts.{line_of, first_line, history_text, is_told_in}
use Rattle.nd_history_text.specs.Sound.{IsSound, IsTold}
use Rattle.nd_history_text.specs.declared.kinds.Version.TheVariants.{Second}
use Rattle.nd_history_text.proofs.Once.{same_tail}
use Rattle.nd_history.specs.Sameness.{BeginsWith}
use Rattle.nd_journal.specs.BegunLines.{IsBegunLine}
use Rattle.nd_journal.specs.WholeLines.{whole_lines, unfinished, IsBeginning}
use Rattle.nd_serve_command.specs.Resumes.{IsResumable}
use Rattle.nd_journal.proofs.LinesKept.{cut_at, lines_cut, lines_through, lines_go_on, unfinished_on, unfinished_through, whole_none, whole_through}
use Rattle.nd_journal.proofs.Reading.{version_line, first_begun, first_through}

-- ---- lists of entries

sound_behind : (front behind : List Entry) → All IsSound (front ++ behind) → All IsSound behind
sound_behind [] behind sound = sound
sound_behind (e ∷ front) behind sound = sound_behind front behind (All-tail IsSound e (front ++ behind) sound)

pub sound_front : (front behind : List Entry) → All IsSound (front ++ behind) → All IsSound front
sound_front [] behind sound = All-nil IsSound
sound_front (e ∷ front) behind sound =
    All-cons IsSound e front (All-head IsSound e (front ++ behind) sound) (sound_front front behind (All-tail IsSound e (front ++ behind) sound))

-- the second version tells of each entry
second_told : (e : Entry) → is_told_in Second e ≡ true
second_told (Chosen d m s) = refl
second_told (NoBuilder d) = refl
second_told (Started d paths) = refl
second_told (Down d) = refl
second_told (Built d refs) = refl
second_told (Failed d why) = refl
second_told Stop = refl
second_told (Drain m) = refl
second_told (Enable m) = refl

all_told : (entries : List Entry) → All IsSound entries → All (IsTold Second) entries
all_told entries sound = All-weaker IsSound (IsTold Second) (λ e is. record { sound = is; told = second_told e }) entries sound

-- ---- legality of a beginning

legal_behind : (i : Premises) (later past : List Entry) → IsLegal i (later ++ past) → IsLegal i past
legal_behind i [] past legal = legal
legal_behind i (e ∷ later) past legal = legal_behind i later past legal.1

legal_front : (i : Premises) (entries front behind : List Entry) → entries ≡ front ++ behind → IsLegal i (reverse entries) → IsLegal i (reverse front)
legal_front i entries front behind parts legal =
    legal_behind i (reverse behind) (reverse front) (subst (IsLegal i) (ap reverse parts ∙ reverse-append front behind) legal)

-- ---- the file and what it lacks are the text of the whole history

same_front : (front one other : List ℕ) → front ++ one ≡ front ++ other → one ≡ other
same_front [] one other same = same
same_front (b ∷ front) one other same = same_front front one other (same_tail same)

-- the text of the history that the session began with, and of the entries that were added
text_on : (start added : List Entry) (base first : List ℕ) → base ++ first ≡ history_text Second start → base ++ (first ++ flat_map line_of added) ≡ history_text Second (start ++ added)
text_on start added base first begun =
    sym (append_assoc base first (flat_map line_of added))
    ∙ ap (λ (l : List ℕ). l ++ flat_map line_of added) begun
    ∙ append_assoc (first_line Second) (flat_map line_of start) (flat_map line_of added)
    ∙ ap (λ (l : List ℕ). first_line Second ++ l) (sym (flat_map-append line_of start added))

whole_text : (start added : List Entry) (base first file : List ℕ) → base ++ first ≡ history_text Second start → (cut : IsBeginning file (first ++ flat_map line_of added))
    → (base ++ file) ++ cut.rest ≡ history_text Second (start ++ added)
whole_text start added base first file begun cut =
    append_assoc base file cut.rest ∙ ap (λ (l : List ℕ). base ++ l) (sym cut.is) ∙ text_on start added base first begun

-- the bytes are gone on from with a legal history that begins with this one, and is a beginning of all that was handed to the journal
pub record HoldsFrom (i : Premises) (all : List Entry) (bytes : List ℕ) (history : List Entry) : Type 0 where
  pub entries : List Entry
  pub resumable : IsResumable i bytes entries
  pub begins : BeginsWith entries history
  pub within : BeginsWith all entries

-- what is known of a file and of what it lacks
pub record IsCutFrom (i : Premises) (start added : List Entry) (base first file : List ℕ) : Type 0 where
  pub begun : base ++ first ≡ history_text Second start
  pub sound : All IsSound (start ++ added)
  pub legal : IsLegal i (reverse (start ++ added))
  pub cut : IsBeginning file (first ++ flat_map line_of added)

-- ---- nothing of a new journal is durable yet

pub new_left : (i : Premises) (start added : List Entry) (base first file : List ℕ) → start ≡ [] → IsCutFrom i start added base first file → HoldsFrom i (start ++ added) (base ++ file) start
new_left i start added base first file none from =
    let all = start ++ added in
    let text = whole_text start added base first file from.begun from.cut in
    elim (cut_at version_line (base ++ file) from.cut.rest (flat_map line_of all) refl (text ∙ first_through (flat_map line_of all))) [
      | inl within ↦ record {
        entries = [];
        resumable = record {
          read = inl (record { none = whole_none (base ++ file) within.silent; begins = first_begun (base ++ file) within.begins; empty = refl });
          legal = tt;
        };
        begins = record { later = []; whole = sym none ∙ sym (append-nil start) };
        within = record { later = all; whole = refl };
      }
      | inr found ↦
          let lines = lines_cut all found.more from.cut.rest from.sound found.left in
          record {
            entries = lines.front;
            resumable = record {
              read = inr (record {
                told = all_told lines.front (sound_front lines.front lines.behind (subst (All IsSound) lines.parts from.sound));
                text =
                    ap whole_lines found.file_is ∙ whole_through version_line found.more ∙ ap (λ (l : List ℕ). version_line ++ 10 ∷ l) lines.whole
                    ∙ sym (first_through (flat_map line_of lines.front));
                last = subst IsBegunLine (sym (ap unfinished found.file_is ∙ unfinished_through version_line found.more)) lines.last;
              });
              legal = legal_front i all lines.front lines.behind lines.parts from.legal;
            };
            begins = record { later = lines.front; whole = ap (λ (l : List Entry). l ++ lines.front) (sym none) };
            within = record { later = lines.behind; whole = lines.parts };
          }
    ]

-- ---- the lines of these entries are durable

pub durable_left : (i : Premises) (start added kept : List Entry) (base first file : List ℕ) → IsCutFrom i start added base first file → All IsSound (start ++ kept)
    → IsBeginning (first ++ flat_map line_of kept) file → HoldsFrom i (start ++ added) (base ++ file) (start ++ kept)
durable_left i start added kept base first file from own durable =
    let all = start ++ added in
    let history = start ++ kept in
    let lacks = from.cut.rest in
    let text = whole_text start added base first file from.begun from.cut in
    let here : base ++ file ≡ history_text Second history ++ durable.rest =
    ap (λ (l : List ℕ). base ++ l) durable.is
    ∙ sym (append_assoc base (first ++ flat_map line_of kept) durable.rest)
    ∙ ap (λ (l : List ℕ). l ++ durable.rest) (text_on start kept base first from.begun) in
    let lines : flat_map line_of history ++ (durable.rest ++ lacks) ≡ flat_map line_of all =
    same_front (first_line Second) (flat_map line_of history ++ (durable.rest ++ lacks)) (flat_map line_of all)
    (sym (append_assoc (first_line Second) (flat_map line_of history) (durable.rest ++ lacks))
    ∙ sym (append_assoc (history_text Second history) durable.rest lacks)
    ∙ ap (λ (l : List ℕ). l ++ lacks) (sym here) ∙ text) in
    let on = lines_go_on history all (durable.rest ++ lacks) own from.sound lines in
    let later = sound_behind history on.more (subst (All IsSound) on.parts from.sound) in
    let last = lines_cut on.more durable.rest lacks later on.left in
    let text_here : base ++ file ≡ version_line ++ 10 ∷ (flat_map line_of history ++ durable.rest) =
    here ∙ append_assoc (first_line Second) (flat_map line_of history) durable.rest ∙ first_through (flat_map line_of history ++ durable.rest) in
    let parts : all ≡ (history ++ last.front) ++ last.behind =
    on.parts ∙ ap (λ (l : List Entry). history ++ l) last.parts ∙ sym (append_assoc history last.front last.behind) in
    record {
      entries = history ++ last.front;
      resumable = record {
        read = inr (record {
          told =
              all_told (history ++ last.front)
              (All-append IsSound history last.front own (sound_front last.front last.behind (subst (All IsSound) last.parts later)));
          text =
              ap whole_lines text_here
              ∙ whole_through version_line (flat_map line_of history ++ durable.rest)
              ∙ ap (λ (l : List ℕ). version_line ++ 10 ∷ l)
              (lines_through history durable.rest own ∙ ap (λ (l : List ℕ). flat_map line_of history ++ l) last.whole ∙ sym (flat_map-append line_of history last.front))
              ∙ sym (first_through (flat_map line_of (history ++ last.front)));
          last =
              subst IsBegunLine
              (sym (ap unfinished text_here ∙ unfinished_through version_line (flat_map line_of history ++ durable.rest) ∙ unfinished_on history durable.rest own))
              last.last;
        });
        legal = legal_front i all (history ++ last.front) last.behind parts from.legal;
      };
      begins = record { later = last.front; whole = refl };
      within = record { later = last.behind; whole = parts };
    }
