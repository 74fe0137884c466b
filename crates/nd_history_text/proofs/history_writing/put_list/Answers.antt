use Rattle.std.proofs.Common.{ap}
use Rattle.nd_history_text.specs.Lines.{spaced}
use Rattle.nd_devices.proofs.Sent.{put_renamed}
use Rattle.nd_history_text.proofs.Spelled.{words_put, words_refused}
use Rattle.nd_history_text.proofs.history_writing.put_list.Goals as goal

pub returns-in_err-put_word : goal.returns-in_err-put_word
returns-in_err-put_word g c = words_refused _ _ _ _ _ _ _ _ _ c.from_residual.ensures.0 c.in_err-put_word.ensures

pub returns : goal.returns
returns g c =
    words_put _ _ _ _ _ _ _ _ _ _ _ c.in_ok-put_word.ensures (put_renamed _ _ _ _ _ _ _ _ (ap spaced c.as_slice.ensures.value) c.put_paths.ensures)
