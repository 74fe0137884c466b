use Rattle.std.proofs.Common.{Some, sym, ap, ◌∙◌}
use Rattle.std.specs.Option.{option_copied}
use Rattle.nd_bytes.specs.Cut.{pieces}
use Rattle.nd_script.proofs.Operands.{line_said, line_refused}
use Rattle.nd_agents.specs.AnswerTexts.{ending_of, IsEnding}
use Rattle.nd_agents.proofs.answer_text.line_answer.Goals as goal

pub returns-clause-found : goal.returns-clause-found
returns-clause-found c = line_said ending_of IsEnding c.args.line.now c.cut.result.0.now (pieces 32 (option_copied c.cut.result.1)) c.in-Some.ending
    c.cut.ensures.whole (sym c.in-Some.ensures) c.ended.result c.ended.ensures.found

pub returns-clause-refused : goal.returns-clause-refused
returns-clause-refused c = line_refused ending_of IsEnding c.args.line.now c.cut.result.0.now (pieces 32 (option_copied c.cut.result.1)) c.in-Some.ending
    c.cut.ensures.whole (sym c.in-Some.ensures) c.ended.result c.ended.ensures.refused

pub returns-clause-short : goal.returns-clause-short
returns-clause-short c = λ short. record {
  first = c.cut.result.0.now;
  others = pieces 32 (option_copied c.cut.result.1);
  words = c.cut.ensures.whole;
  names = sym c.in-Some.ensures ∙ ap Some (c.ended.ensures.short short);
}
