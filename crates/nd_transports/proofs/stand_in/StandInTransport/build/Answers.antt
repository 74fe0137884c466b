use Rattle.nd_transports.proofs.Telling.{stood_builds}
use Rattle.nd_transports.proofs.stand_in.StandInTransport.build.Goals as goal

pub returns : goal.returns
returns c =
    rw (← c.self.view_is)
    (stood_builds c.self.inside.conduct c.builds-answer.new.self c.self.inside.log c.built.new.self c.args.by.now c.drv-drv.result c.builds-answer.result c.ended-ended.result c.drv-drv.ensures c.builds-answer.ensures.answer c.builds-answer.ensures.after c.ended-ended.ensures c.built.ensures)
