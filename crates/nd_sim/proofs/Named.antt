-- A command of a script names a derivation or a machine that is there.
use Rattle.std.proofs.Common.{◌≡◌, ℕ, List, length, sym, subst, inl, inr}
use Rattle.nd_history.specs.Premises.{Premises}
use Rattle.nd_history.specs.Choices.{machines_in}
use Rattle.nd_script.specs.declared.command.Command.{Command}
use Rattle.nd_script.specs.declared.verb.Verb.{Verb}
use Rattle.nd_script.specs.declared.verb.Verb.TheVariants.{Start, StartWith, Built, Fail, Lose, Down, Stop, Drain, Enable, Ask}
use Rattle.nd_script.specs.Script.{IsSaid, IsLine}
use Rattle.nd_sim.specs.Answers.{IsNamed}

-- a command that words ask for names what is there
said_named : (i : Premises) (verb : Verb) (words : List (List ℕ)) (command : Command) → IsSaid (length i.graph.paths) (machines_in i) verb words command → IsNamed i command
said_named i Start words command said = subst (IsNamed i) (sym said.is) said.operand.below
said_named i StartWith words command said = subst (IsNamed i) (sym said.is) said.operand.below
said_named i Built words command said = elim said [
  | inl bare ↦ subst (IsNamed i) (sym bare.is) bare.operand.below
  | inr listed ↦ subst (IsNamed i) (sym listed.is) listed.operand.below
]
said_named i Fail words command said = subst (IsNamed i) (sym said.is) said.operand.below
said_named i Lose words command said = subst (IsNamed i) (sym said.is) said.operand.below
said_named i Down words command said = subst (IsNamed i) (sym said.is) said.operand.below
said_named i Stop words command said = subst (IsNamed i) (sym said.1) tt
said_named i Drain words command said = subst (IsNamed i) (sym said.is) said.operand.below
said_named i Enable words command said = subst (IsNamed i) (sym said.is) said.operand.below
said_named i Ask words command said = subst (IsNamed i) (sym said.is) said.operand.below

pub line_named : (i : Premises) (line : List ℕ) (command : Command) → IsLine (length i.graph.paths) (machines_in i) line command → IsNamed i command
line_named i line command said = said_named i said.verb said.others command said.said
