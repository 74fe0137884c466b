use Rattle.std.proofs.Common.{◌≤◌, [], ◌∷◌, length, refl, arith}
use Rattle.nd_history_text.specs.declared.rows.Word.{Word}
use Rattle.nd_history_text.specs.Lines.{spaced}
use Rattle.nd_history_text.specs.Rows.{text_of}
use Rattle.nd_devices.proofs.Sent.{no_text, put_renamed, place_put, place_refused, items_put}
use Rattle.nd_history_text.proofs.Spelled.{words_spaced}
use Rattle.nd_history_text.proofs.rows.put_words.Goals as goal

pub loop-word-init : goal.loop-word-init
loop-word-init g c = no_text _ _ _ _ _ refl

pub loop-word-preserved : goal.loop-word-preserved
loop-word-preserved g c =
    place_put _ (λ (word : Word). spaced (text_of word ∷ [])) _ _ _ _ _ _ c.args.words.now c.loop-word.word-index _ _ _ c.loop-word-test.true c.loop-word.invariant
    c.in_ok-put_word.ensures

pub returns-in_err-put_word : goal.returns-in_err-put_word
returns-in_err-put_word g c =
    put_renamed _ _ _ _ _ _ _ _ (words_spaced text_of c.args.words.now)
    (place_refused _ (λ (word : Word). spaced (text_of word ∷ [])) _ _ _ _ _ _ c.args.words.now c.loop-word.word-index _ _ _ _ c.loop-word-test.true
    c.from_residual.ensures.0 c.loop-word.invariant c.in_err-put_word.ensures)

pub returns : goal.returns
returns g c =
    let past : length c.args.words.now ≤ c.loop-word.word-index = omega arith in
    put_renamed _ _ _ _ _ _ _ _ (words_spaced text_of c.args.words.now)
    (items_put _ (λ (word : Word). spaced (text_of word ∷ [])) _ _ _ _ c.args.words.now c.loop-word.word-index _ past c.loop-word.invariant)
