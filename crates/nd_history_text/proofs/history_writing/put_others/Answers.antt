use Rattle.std.proofs.Common.{ℕ, List, ap, refl}
use Rattle.std.specs.List.{flat_map}
use Rattle.nd_history_text.specs.HistoryTexts.{output_words}
use Rattle.nd_history_text.specs.Lines.{spaced}
use Rattle.nd_devices.proofs.Sent.{put_renamed}
use Rattle.nd_history_text.proofs.Spelled.{no_words, words_put, words_refused}
use Rattle.nd_history_text.proofs.history_writing.put_others.Goals as goal

pub returns-in_err-put_number-in-Started : goal.returns-in_err-put_number-in-Started
returns-in_err-put_number-in-Started g c =
    rw c.in-Started.is (words_refused _ _ _ _ _ _ _ _ _ c.from_residual.ensures.0 c.in_err-put_number-in-Started.ensures)

pub returns-in_err-put_number-in-Built : goal.returns-in_err-put_number-in-Built
returns-in_err-put_number-in-Built g c =
    rw c.in-Built.is (words_refused _ _ _ _ _ _ _ _ _ c.from_residual-in_err-put_number-in-Built.ensures.0 c.in_err-put_number-in-Built.ensures)

pub returns-in_err-put_number-in-Failed : goal.returns-in_err-put_number-in-Failed
returns-in_err-put_number-in-Failed g c =
    rw c.in-Failed.is (words_refused _ _ _ _ _ _ _ _ _ c.from_residual-in_err-put_number-in-Failed.ensures.0 c.in_err-put_number-in-Failed.ensures)

pub returns-in_ok-put_number-in-Started : goal.returns-in_ok-put_number-in-Started
returns-in_ok-put_number-in-Started g c =
    rw c.in-Started.is (words_put _ _ _ _ _ _ _ _ _ _ _ c.in_ok-put_number-in-Started.ensures
    (put_renamed _ _ _ _ _ _ _ _ (ap spaced c.as_slice.ensures.value) c.put_paths.ensures))

pub returns-in_ok-put_number-in-Built : goal.returns-in_ok-put_number-in-Built
returns-in_ok-put_number-in-Built g c =
    rw c.in-Built.is (words_put _ _ _ _ _ _ _ _ _ _ _ c.in_ok-put_number-in-Built.ensures
    (put_renamed _ _ _ _ _ _ _ _ (ap (λ (lists : List (List (List ℕ))). spaced (flat_map output_words lists)) c.lists.ensures) c.put_lists.ensures))

pub returns-in_ok-put_number-in-Failed : goal.returns-in_ok-put_number-in-Failed
returns-in_ok-put_number-in-Failed g c = rw c.in-Failed.is (words_put _ _ _ _ _ _ _ _ _ _ _ c.in_ok-put_number-in-Failed.ensures c.put_cause.ensures)

pub returns-in-Stop : goal.returns-in-Stop
returns-in-Stop g c = rw c.in-Stop.is (no_words _ _ _ _ _ refl)
