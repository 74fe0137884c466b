use Rattle.std.proofs.Common.{rules, ap, subst}
use Rattle.nd_history.specs.Sameness.{BeginsWith}
use Rattle.nd_keeping.specs.Listing.{Listed}
use Rattle.nd_run_desk.proofs.Upheld.{upheld_durable}
use Rattle.nd_run_desk.proofs.desk.Desk.keep.Goals as goal

pub invariant_of-self : goal.invariant_of-self
invariant_of-self g c =
    let P : Listed → Type 0 = λ l. BeginsWith c.args.self.now.progress.handed.entries l.entries in
    let begins : BeginsWith c.args.self.now.progress.handed.entries c.handed.result.entries = search rules in
    record {
      counted = c.args.self.now.counted;
      since = c.args.self.now.since;
      upheld = upheld_durable _ _ _ _ _ _ _ c.args.self.now.upheld c.handed.ensures.scribing (subst P c.handed.ensures.handed begins) (ap (λ (l : Listed). l.entries) c.kept.ensures.kept);
    }
