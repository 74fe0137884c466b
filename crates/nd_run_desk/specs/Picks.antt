-- What the fact under the lock of a run names. It serves proofs alone.
use Rattle.std.specs.Prelude.{[], false}
use Rattle.nd_ledger.specs.Worlds.{World}
use Rattle.nd_run_desk.specs.Leaves.{Keeping}

-- a dispatch over no inputs: each run picks its own dispatch in its place
abbrev pub no_world : World
no_world = record {
  inputs = record {
    graph = record { paths = []; needs = []; inputs = []; sources = []; outputs = [] };
    machines = [];
    local = record { system = []; extra = []; features = []; jobs = 0 };
    info = [];
    keep_going = false;
  };
  history = [];
}

-- no book of a journal: each run picks its own in its place
abbrev pub no_keeping : Keeping
no_keeping = record { book = record { number = 0; log_name = 0; cells_name = 0 }; keeps = false }
