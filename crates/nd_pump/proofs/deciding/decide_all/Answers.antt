use Rattle.nd_pump.proofs.deciding.decide_all.Goals as goal

pub returns : goal.returns
returns c = record {
  loc = c.is_home-loc.result;
  loc_is = c.is_home-loc.ensures;
  loc_free = c.is_home_free-loc_free.result;
  loc_free_is = c.is_home_free-loc_free.ensures;
  decided = rw (← c.builder_loads-loads.ensures.value, ← c.builder_ups-ups.ensures.value, ← c.as_slice-machines.ensures, ← c.as_slice.ensures) c.decide_in.ensures;
}
