use Rattle.nd_cli.proofs.shares.class_replies.Goals as goal

pub returns : goal.returns
returns g c = c.join_shares.ensures c.args.machines.now c.args.local.now _ c.in_ok-shares.ensures
