use Rattle.std.proofs.Common.{[], ◌∷◌, ◌∙◌, sym}
use Rattle.nd_eligible.proofs.Classed.{class_last, known_more}
use Rattle.nd_eligible.proofs.classes.number_of.Goals as goal

-- what is known is the need's number
pub returns-in-Some-clause-number : goal.returns-in-Some-clause-number
returns-in-Some-clause-number c = c.requires.each c.args.need.now c.in-Some.number.now (sym c.in-Some.ensures.value)

-- the new list is that of the need's kind
pub returns-clause-known : goal.returns-clause-known
returns-clause-known c =
    known_more c.args.machines.now c.args.known.now c.insert.new.self c.args.lists.now.items c.push.new.self.items (c.in_ok-eligible_places.field-0 ∷ []) c.args.need.now c.len-number.result
    c.requires c.in_ok-push.ensures.items
    (rw c.in_ok-push.ensures.items (class_last c.args.machines.now c.args.lists.now.items c.in_ok-eligible_places.field-0 c.args.need.now c.len-number.result
    (c.len-number.ensures ∙ c.args.lists.now.ok.0) c.in_ok-eligible_places.ensures))
    c.in_ok-insert.ensures.updates.0
