use Rattle.std.proofs.Common.{List, [], ◌∷◌, ◌++◌, sym, ap, subst, ◌∙◌, append_assoc, arith}
use Rattle.std.proofs.lemmas.Grind.{common_steps}
use Rattle.std.proofs.result.Match.{err_is}
use Rattle.std.specs.List.{All}
use Rattle.std.specs.Vec.Iter.{into_iter_items}
use Rattle.std.proofs.lemmas.List.Elements.{All-head, All-rest}
use Rattle.nd_history.specs.Premises.{Premises}
use Rattle.nd_script.specs.declared.command.Command.{Command}
use Rattle.nd_sim.specs.Answers.{IsNamed}
use Rattle.nd_sim.proofs.Simulating.{goes_on, stops}
use Rattle.nd_sim.proofs.turns.take_turns.Goals as goal

pub turn-requires : goal.turn-requires
turn-requires g c =
    subst (λ (i : Premises). IsNamed i c.in-Some.command) (sym c.loop-command.invariant.inputs)
    (All-head (IsNamed c.args.dispatch.now.inputs) c.in-Some.command (into_iter_items c.next.new.self)
    (subst (All (IsNamed c.args.dispatch.now.inputs)) c.in-Some.ensures.steps.0 c.loop-command.invariant.named))

pub loop-command-preserved : goal.loop-command-preserved
loop-command-preserved g c = record {
  inputs = c.in_ok-turn.ensures.inputs ∙ c.loop-command.invariant.inputs;
  written = goes_on _ _ _ _ _ _ _ _ _ c.loop-command.invariant.written c.loop-command.invariant.inputs c.in_ok-turn.ensures.written;
  whole =
      c.loop-command.invariant.whole ∙ ap (λ (rest : List Command). c.loop-command.yielded ++ rest) c.in-Some.ensures.steps.0
      ∙ sym (append_assoc c.loop-command.yielded (c.in-Some.command ∷ []) (into_iter_items c.next.new.self));
  named =
      All-rest (IsNamed c.args.dispatch.now.inputs) c.in-Some.command (into_iter_items c.next.new.self) _ c.in-Some.ensures.steps.0
      c.loop-command.invariant.named;
  mark = let said = c.in_ok-turn.ensures.mark in let kept = c.loop-command.invariant.mark in grind (arith, common_steps);
}

pub returns-in_err-turn-clause-partly : goal.returns-in_err-turn-clause-partly
returns-in_err-turn-clause-partly g c =
    rw (err_is c.from_residual-in_err-turn.result _ c.from_residual-in_err-turn.ensures.1)
    (stops _ _ _ c.loop-command.yielded c.in-Some.command (into_iter_items c.next.new.self) _ _ _ _
    (c.loop-command.invariant.whole ∙ ap (λ (rest : List Command). c.loop-command.yielded ++ rest) c.in-Some.ensures.steps.0)
    c.loop-command.invariant.written c.loop-command.invariant.inputs c.in_err-turn.ensures.partly)
