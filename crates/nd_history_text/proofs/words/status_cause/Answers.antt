use Rattle.std.proofs.Common.{◌∙◌, sym}
use Rattle.nd_history_text.proofs.Parts.{status_other, status_large}
use Rattle.nd_history_text.proofs.words.status_cause.Goals as goal

pub returns-then-not-is_word : goal.returns-then-not-is_word
returns-then-not-is_word c = status_other c.args.word.now c.args.bytes.now (sym c.if-not-is_word.true ∙ c.is_word.ensures)

pub returns-then-status-gt255 : goal.returns-then-status-gt255
returns-then-status-gt255 c = status_large c.args.word.now c.args.bytes.now c.in_ok-status.status c.in_ok-status.ensures c.if-status-gt255.true
