use Rattle.std.proofs.Common.{[], ◌∷◌, take, Ok}
use Rattle.std.specs.List.{flat_map}
use Rattle.nd_devices.specs.declared.refusals.Fault.{Fault}
use Rattle.nd_history_text.specs.Lines.{spaced}
use Rattle.nd_history_text.specs.Rows.{text_of}
use Rattle.nd_devices.specs.Sending.{IsPut}
use Rattle.nd_history_text.proofs.rows.put_words.Given as goal

-- what was passed so far is put
abbrev pub invariant-loop-word : goal.invariant-loop-word
invariant-loop-word g l =
    IsPut {E = Fault} g.W.Write.contents l.fn.out l.fn.page l.out l.page (flat_map (λ word. spaced (text_of word ∷ [])) (take l.word-index l.words)) (Ok (tt {0}))
