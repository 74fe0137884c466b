-- What a device has of a text that goes to it over a page: the page holds back its end.
-- Public clauses cite this.
use Rattle.std.specs.Prelude.{◌≡◌, ◌||◌, ℕ, List, ◌++◌, Option, Result, is_err, OnOk, OnErr}
use Rattle.std.specs.Io.KnownBytes.{Appends}
use Rattle.nd_devices.specs.Watched.{Watched}
use Rattle.nd_devices.specs.Written.{WritesPart}

-- what was held back and then the text are what was sent and then what is held back
pub record Sends (old : Option (List ℕ)) (held : List ℕ) (new : Option (List ℕ)) (left text : List ℕ) : Type 0 where
  pub sent : List ℕ
  pub appended : Appends old new sent
  pub whole : held ++ text ≡ sent ++ left

-- of what was held back and then the text only a part was sent
pub record SendsPart (old : Option (List ℕ)) (held : List ℕ) (new : Option (List ℕ)) (text : List ℕ) : Type 0 where
  pub written : WritesPart old new (held ++ text)

-- What becomes of a text that is put on the page: all of it is sent or held back, or the device refused a write, and then its mark
-- is set and only a part was sent.
pub record IsPut {W T E : Type 0} (contents : W → Option (List ℕ)) (old : Watched W) (held : List ℕ) (new : Watched W) (left text : List ℕ) (result : Result T E) : Type 0 where
  pub written : OnOk result (Sends (contents old.device) held (contents new.device) left text)
  pub partly : OnErr result (SendsPart (contents old.device) held (contents new.device) text)
  pub mark : new.is_marked ≡ (old.is_marked || is_err result)
