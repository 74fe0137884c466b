-- An entry of a builders list, as its reader holds it.
-- No public clause cites this: it serves private clauses alone.
use Rattle.std.specs.Prelude.{◌≡◌, ◌==◌, ℕ, false, List, length}
use Rattle.nd_machines.specs.declared.fields.Entry.{Entry}
use Rattle.nd_machines.specs.Fields.{field}

-- it holds the first eight of the fields, of which there is one at least
pub record IsEntry (entry : Entry) (fs : List (List ℕ)) : Type 0 where
  pub any : (length fs == 0) ≡ false
  pub uri : entry.uri.now ≡ field 0 fs
  pub systems : entry.systems.now ≡ field 1 fs
  pub key : entry.key.now ≡ field 2 fs
  pub jobs : entry.jobs.now ≡ field 3 fs
  pub speed : entry.speed.now ≡ field 4 fs
  pub supported : entry.supported.now ≡ field 5 fs
  pub mandatory : entry.mandatory.now ≡ field 6 fs
  pub host_key : entry.host_key.now ≡ field 7 fs
