use denote.Param.Send.{sendable}
use Rattle.std.proofs.Common.{◌≡◌, ℕ, List, sym, subst}
use Rattle.nd_links.specs.Placing.{ArePlaced}
use Rattle.nd_cli.specs.Parks.{HasGraph}
use Rattle.nd_cli.proofs.Refused.{known_answer}
use Rattle.nd_cli.proofs.Sent.{needs_send}
use Rattle.nd_cli.proofs.Whole.{whole_read}
use Rattle.nd_cli.proofs.blocks.take_needs.Goals as goal

pub returns-clause-exactly : goal.returns-clause-exactly
returns-clause-exactly g c = λ text graph known has.
    let fed = c.feed_input.new.reader.text in
    let whole : fed ≡ text =
    whole_read (g.R.Read.remaining c.args.input.now.device) (g.R.Read.remaining c.feed_input.new.input.device) text fed known c.in_ok-count.ensures.read has.within in
    let here : HasGraph c.args.options.now fed graph = subst (λ (t : List ℕ). HasGraph c.args.options.now t graph) (sym whole) has in
    known_answer c.needs_of_blocks.result (λ needs. ArePlaced needs.table needs.places graph.needs) (c.needs_of_blocks.ensures.exactly graph here)

pub feed_input-requires-send-P : goal.feed_input-requires-send-P
feed_input-requires-send-P g c κs within = search (sendable, needs_send) depth 20
