use Rattle.nd_pump.proofs.deciding.few_of_kind.Goals as goal

pub few_of-requires-clause-vacant : goal.few_of-requires-clause-vacant
few_of-requires-clause-vacant c =
    rw (c.builder_loads-loads.ensures.value, c.builder_ups-ups.ensures.value, c.as_slice-machines.ensures) c.requires.vacant

pub returns-clause-vacant : goal.returns-clause-vacant
returns-clause-vacant c =
    rw (← c.builder_loads-loads.ensures.value, ← c.builder_ups-ups.ensures.value, ← c.as_slice-machines.ensures) c.few_of.ensures.vacant

pub returns-clause-few : goal.returns-clause-few
returns-clause-few c =
    rw (← c.builder_loads-loads.ensures.value, ← c.builder_ups-ups.ensures.value, ← c.as_slice-machines.ensures, ← c.as_slice.ensures) c.few_of.ensures.few
