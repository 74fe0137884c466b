-- What is written of a history is one of its texts.
use Rattle.std.proofs.Common.{◌≡◌, Bool, true, false, ◌||◌, true≢false, List, [], ◌∷◌, refl}
use Rattle.std.specs.Prelude.{not}
use Rattle.std.specs.List.{All, list_any}
use Rattle.std.proofs.lemmas.List.Elements.{All-nil, All-cons, All-head, All-tail}
use Rattle.nd_history.specs.declared.entry.Entry.{Entry}
use Rattle.nd_history.specs.declared.entry.Entry.TheVariants.{Chosen, NoBuilder, Started, Down, Built, Failed, Stop, Drain, Enable}
use Rattle.nd_history_text.specs.HistoryTexts.{is_told_in, version_of}
use Rattle.nd_history_text.specs.Sound.{IsSound, IsTold}
use Rattle.nd_history_text.specs.TextLaws.{ReadsBack}
use Rattle.nd_history_text.specs.declared.kinds.Version.TheVariants.{First, Second}

neither : (a b : Bool) → (a || b) ≡ false → (a ≡ false) × (b ≡ false)
neither true b h = absurd (true≢false h)
neither false b h = (refl, h)

told_so : (b : Bool) → not b ≡ false → b ≡ true
told_so true h = refl
told_so false h = absurd (true≢false h)

told_first : (entries : List Entry) → All IsSound entries → list_any (λ e. not (is_told_in First e)) entries ≡ false → All (IsTold First) entries
told_first [] sound none = All-nil (IsTold First)
told_first (e ∷ entries) sound none =
    let parts = neither (not (is_told_in First e)) (list_any (λ e. not (is_told_in First e)) entries) none in
    All-cons (IsTold First) e entries (record { sound = All-head IsSound e entries sound; told = told_so (is_told_in First e) parts.0 })
    (told_first entries (All-tail IsSound e entries sound) parts.1)

second_tells : (e : Entry) → is_told_in Second e ≡ true
second_tells (Chosen d m s) = refl
second_tells (NoBuilder d) = refl
second_tells (Started d paths) = refl
second_tells (Down d) = refl
second_tells (Built d refs) = refl
second_tells (Failed d why) = refl
second_tells Stop = refl
second_tells (Drain m) = refl
second_tells (Enable m) = refl

told_second : (entries : List Entry) → All IsSound entries → All (IsTold Second) entries
told_second [] sound = All-nil (IsTold Second)
told_second (e ∷ entries) sound =
    All-cons (IsTold Second) e entries (record { sound = All-head IsSound e entries sound; told = second_tells e })
    (told_second entries (All-tail IsSound e entries sound))

told_written : (entries : List Entry) → All IsSound entries → All (IsTold (version_of entries)) entries
told_written entries sound = by (list_any (λ e. not (is_told_in First e)) entries) refl
  where
    by : (t : Bool) → list_any (λ e. not (is_told_in First e)) entries ≡ t → All (IsTold (version_of entries)) entries
    by true e = rw e (told_second entries sound)
    by false e = rw e (told_first entries sound e)

pub reads_back : ReadsBack
reads_back entries sound = record { version = version_of entries; told = told_written entries sound; text = refl }
