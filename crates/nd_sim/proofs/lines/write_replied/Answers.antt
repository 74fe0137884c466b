use Rattle.nd_sim.proofs.Simulating.{reply_in_list}
use Rattle.nd_sim.proofs.lines.write_replied.Goals as goal

pub write_reply-requires : goal.write_reply-requires
write_reply-requires g c = reply_in_list _ _ _ _ c.machines.ensures.value c.requires
