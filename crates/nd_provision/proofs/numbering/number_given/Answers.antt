use Rattle.std.proofs.Common.{map, ap, ◌∙◌}
use Rattle.nd_provision.specs.Listed.{number_in}
use Rattle.nd_provision.proofs.Listed.{given_listed}
use Rattle.nd_provision.proofs.numbering.number_given.Goals as goal

pub returns-clause-given : goal.returns-clause-given
returns-clause-given c = record {
  entries = c.in_ok-entries.ensures.entries;
  listed = c.in_ok-entries.ensures.listed;
  own = given_listed c.args.info.now.entries c.list_given.new.numbers.paths c.args.given.now c.in_ok-entries.entries.items c.in_ok-own.own.items
      c.in_ok-entries.ensures.entries c.in_ok-entries.ensures.listed (c.in_ok-own.ensures ∙ ap (map number_in) c.as_slice.ensures.value);
}
