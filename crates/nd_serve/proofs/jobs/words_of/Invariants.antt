use Rattle.std.proofs.Common.{◌≡◌, take}
use Rattle.nd_history_text.specs.Rows.{texts_of}
use Rattle.nd_serve.specs.Turns.{job_words}
use Rattle.nd_serve.proofs.jobs.words_of.Given as goal

-- the paths so far are among the words
abbrev pub invariant-loop-path : goal.invariant-loop-path
invariant-loop-path l = texts_of l.words.items ≡ job_words l.fn.job.ticket l.fn.job.path (take l.path-index l.path-items)
