-- Why there is nothing to run, and what is given where all is accepted.
use Rattle.std.proofs.Common.{◌≡◌, ℕ, ◌+◌, List, [], length, Option, false, ap, subst, ◌∙◌, inl, inr}
use Rattle.nd_machines.specs.Builders.{Builder}
use Rattle.nd_eligible.specs.Settings.{Settings}
use Rattle.nd_graph.specs.Graphs.{Nodes, rows_of}
use Rattle.nd_devices.specs.Watched.{Watched}
use Rattle.nd_ledger.specs.Worlds.{World}
use Rattle.nd_history.specs.Premises.{Premises}
use Rattle.nd_script.specs.declared.rule.Rule.{Rule}
use Rattle.nd_cli.specs.Asked.{IsAskFault, ReadsPark}
use Rattle.nd_cli.specs.Inputs.{ReadsWhole}
use Rattle.nd_cli.specs.Parks.{local_of}
use Rattle.nd_cli.proofs.Refused.{by_park}
use Rattle.nd_cli.specs.declared.options.ParkOptions.{ParkOptions}
use Rattle.nd_cli.specs.declared.fault.CliFault.{CliFault}
use Rattle.nd_cli.specs.declared.fault.CliFault.TheVariants.{Derivation, Drvs, Builders, Info, Script, Stand, History, TooLarge, TooManySlots, Read, Write, Memory, Thread, Receipts}
use Rattle.nd_run_command.specs.Given.{HasRules, IsStandFault, IsGiven, IsStandAtFault, IsGivenFault}

-- what a dispatch is made of, with these settings of the local machine
abbrev premises_with : ParkOptions → Nodes → List Builder → Settings → List (List ℕ × List (List ℕ)) → Premises
premises_with options graph machines local info = record { graph = graph; machines = machines; local = local; info = info; keep_going = options.keep_going }

-- the stand text is refused
pub stand_fault : {R : Type 0} (options : ParkOptions) (stand text : List ℕ) (remaining : R → Option (List ℕ)) (reader reader_after : Watched R) (fault : CliFault) → ReadsWhole (remaining reader.device) (remaining reader_after.device) text → IsStandAtFault options text stand fault
    → IsGivenFault options stand remaining reader reader_after fault
stand_fault options stand text remaining reader reader_after (Derivation e) read h = h.refused
stand_fault options stand text remaining reader reader_after (Drvs e) read h = absurd h.refused
stand_fault options stand text remaining reader reader_after (Builders e) read h = absurd h.refused
stand_fault options stand text remaining reader reader_after (Info e) read h = absurd h.refused
stand_fault options stand text remaining reader reader_after (Script e) read h = h.refused
stand_fault options stand text remaining reader reader_after (Stand e) read h = record { text = text; read = read; refused = inr h }
stand_fault options stand text remaining reader reader_after (History e) read h = h.refused
stand_fault options stand text remaining reader reader_after (TooLarge place) read h = record { text = text; read = read; refused = inr h }
stand_fault options stand text remaining reader reader_after TooManySlots read h = h.refused
stand_fault options stand text remaining reader reader_after Read read h = absurd h.refused
stand_fault options stand text remaining reader reader_after Write read h = h.refused
stand_fault options stand text remaining reader reader_after Memory read h = tt
stand_fault options stand text remaining reader reader_after Thread read h = h.refused
stand_fault options stand text remaining reader reader_after Receipts read h = h.refused

-- the same, of what a body has at hand
pub stand_refused : {R : Type 0} (options : ParkOptions) (stand : List ℕ) (remaining : R → Option (List ℕ)) (reader reader_after : Watched R) (fault : CliFault) (graph : Nodes) (machines : List Builder)
    (info : List (List ℕ × List (List ℕ))) (drvs count : ℕ) → ReadsPark options (remaining reader.device) (remaining reader_after.device) graph machines info → drvs ≡ length (rows_of graph) → count ≡ length machines
    → IsStandFault stand drvs (count + 1) fault → IsGivenFault options stand remaining reader reader_after fault
stand_refused options stand remaining reader reader_after fault graph machines info drvs count given sized counted refused =
    stand_fault options stand given.text remaining reader reader_after fault given.read (record {
      graph = graph;
      machines = machines;
      info = info;
      park = given.has;
      refused =
          subst (λ (d : ℕ). IsStandFault stand d (length machines + 1) fault) sized
          (subst (λ (n : ℕ). IsStandFault stand drvs (n + 1) fault) counted refused);
    })

-- there is no park to run on
pub unopened : {R : Type 0} (options : ParkOptions) (stand : List ℕ) (remaining : R → Option (List ℕ)) (reader reader_after : Watched R) (fault : CliFault) → IsAskFault options remaining reader reader_after false fault
    → IsGivenFault options stand remaining reader reader_after fault
unopened options stand remaining reader reader_after fault refused =
    by_park (IsGivenFault options stand remaining reader reader_after) options remaining reader reader_after fault refused
    (λ f park. record { text = park.text; read = park.read; refused = inl park.refused }) (λ f park. record { text = park.text; read = park.read; refused = inl park.refused })
    (λ f park. record { text = park.text; read = park.read; refused = inl park.refused }) (λ place park. record { text = park.text; read = park.read; refused = inl park.refused })
    (λ marked. marked) tt

pub is_given : {R : Type 0} (options : ParkOptions) (stand : List ℕ) (remaining : R → Option (List ℕ)) (reader reader_after : Watched R) (graph : Nodes) (machines : List Builder) (local : Settings)
    (info : List (List ℕ × List (List ℕ))) (dispatch : World) (rules : List Rule) (drvs count : ℕ) → ReadsPark options (remaining reader.device) (remaining reader_after.device) graph machines info
    → local ≡ local_of options → dispatch.inputs ≡ premises_with options graph machines local info → dispatch.history ≡ [] → drvs ≡ length (rows_of graph) → count ≡ length machines
    → HasRules stand drvs (count + 1) rules → IsGiven options stand remaining reader reader_after dispatch rules
is_given options stand remaining reader reader_after graph machines local info dispatch rules drvs count given here inputs begun sized counted ruled = record {
  text = given.text;
  read = given.read;
  graph = graph;
  machines = machines;
  info = info;
  park = given.has;
  inputs = inputs ∙ ap (λ (l : Settings). premises_with options graph machines l info) here;
  begun = begun;
  ruled =
      subst (λ (d : ℕ). HasRules stand d (length machines + 1) rules) sized
      (subst (λ (n : ℕ). HasRules stand drvs (n + 1) rules) counted ruled);
}
