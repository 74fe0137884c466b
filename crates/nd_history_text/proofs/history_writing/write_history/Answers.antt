use Rattle.std.proofs.Common.{ap}
use Rattle.nd_history_text.specs.declared.kinds.Version.{Version}
use Rattle.nd_history_text.specs.HistoryTexts.{history_text}
use Rattle.nd_devices.proofs.Sent.{put_renamed, put_sent_in_part}
use Rattle.nd_history_text.proofs.Spelled.{on_err}
use Rattle.nd_history_text.proofs.history_writing.write_history.Goals as goal

pub returns-in_err-send-clause-partly : goal.returns-in_err-send-clause-partly
returns-in_err-send-clause-partly g c =
    on_err _ _ (put_sent_in_part _ _ _ _ _ _ _ _ c.new-page.ensures
    (put_renamed _ _ _ _ _ _ _ _ (ap (λ (version : Version). history_text version c.args.entries.now) c.version.ensures) c.in_ok-put_history.ensures)
    c.in_err-send.ensures.partly)
