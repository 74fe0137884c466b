use Rattle.std.proofs.Common.{◌≡◌, rules}
use Rattle.nd_report.specs.Audits.{premises}
use Rattle.nd_commands.proofs.Answering.{said_legal, said_legal_part, said_illegal, said_illegal_part, unsaid_fault, unsaid_mark, unsaid_write}
use Rattle.nd_commands.proofs.audit.write_verdict.Goals as goal

pub returns-in-Ok-clause-written : goal.returns-in-Ok-clause-written
returns-in-Ok-clause-written g c =
    let park = c.args.park in
    said_legal c.say_legal.result (premises park.graph park.machines.items park.local park.info c.args.keep_going) c.args.entries.items c.len-count.result
    g.W.Write.contents c.args.output.now c.say_legal.new.output (search rules)
    c.in-Ok.ensures.legal
    c.say_legal.ensures.status c.say_legal.ensures.written

pub returns-in-Ok-clause-partly : goal.returns-in-Ok-clause-partly
returns-in-Ok-clause-partly g c =
    let park = c.args.park in
    said_legal_part c.say_legal.result (premises park.graph park.machines.items park.local park.info c.args.keep_going) c.args.entries.items c.len-count.result
    g.W.Write.contents c.args.output.now c.say_legal.new.output (search rules)
    c.in-Ok.ensures.legal
    c.say_legal.ensures.partly

pub returns-in-Ok-clause-fault : goal.returns-in-Ok-clause-fault
returns-in-Ok-clause-fault g c = unsaid_fault c.say_legal.result c.args.output.now.is_marked c.say_legal.new.output.is_marked c.say_legal.ensures.fault c.say_legal.ensures.mark

pub returns-in-Ok-clause-mark : goal.returns-in-Ok-clause-mark
returns-in-Ok-clause-mark g c = unsaid_mark c.say_legal.result c.args.output.now.is_marked c.say_legal.new.output.is_marked c.say_legal.ensures.fault c.say_legal.ensures.mark

pub returns-in-Ok-clause-untouched : goal.returns-in-Ok-clause-untouched
returns-in-Ok-clause-untouched g c = unsaid_write c.say_legal.result (c.say_legal.new.output ≡ c.args.output.now) c.say_legal.ensures.fault

pub returns-in-Err-Illegal-clause-written : goal.returns-in-Err-Illegal-clause-written
returns-in-Err-Illegal-clause-written g c =
    let park = c.args.park in
    let refused = rw c.in-Err-Illegal.field-0-is at c.in-Err-Illegal.ensures.refused in
    said_illegal c.say_illegal.result (premises park.graph park.machines.items park.local park.info c.args.keep_going) c.args.entries.items c.in-Err-Illegal.index c.in-Err-Illegal.rule
    g.W.Write.contents c.args.output.now c.say_illegal.new.output
    refused
    c.say_illegal.ensures.status c.say_illegal.ensures.written

pub returns-in-Err-Illegal-clause-partly : goal.returns-in-Err-Illegal-clause-partly
returns-in-Err-Illegal-clause-partly g c =
    let park = c.args.park in
    let refused = rw c.in-Err-Illegal.field-0-is at c.in-Err-Illegal.ensures.refused in
    said_illegal_part c.say_illegal.result (premises park.graph park.machines.items park.local park.info c.args.keep_going) c.args.entries.items c.in-Err-Illegal.index c.in-Err-Illegal.rule
    g.W.Write.contents c.args.output.now c.say_illegal.new.output
    refused
    c.say_illegal.ensures.partly

pub returns-in-Err-Illegal-clause-fault : goal.returns-in-Err-Illegal-clause-fault
returns-in-Err-Illegal-clause-fault g c = unsaid_fault c.say_illegal.result c.args.output.now.is_marked c.say_illegal.new.output.is_marked c.say_illegal.ensures.fault c.say_illegal.ensures.mark

pub returns-in-Err-Illegal-clause-mark : goal.returns-in-Err-Illegal-clause-mark
returns-in-Err-Illegal-clause-mark g c = unsaid_mark c.say_illegal.result c.args.output.now.is_marked c.say_illegal.new.output.is_marked c.say_illegal.ensures.fault c.say_illegal.ensures.mark

pub returns-in-Err-Illegal-clause-untouched : goal.returns-in-Err-Illegal-clause-untouched
returns-in-Err-Illegal-clause-untouched g c = unsaid_write c.say_illegal.result (c.say_illegal.new.output ≡ c.args.output.now) c.say_illegal.ensures.fault
