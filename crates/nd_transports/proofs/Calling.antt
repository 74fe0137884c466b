-- Lemmas on the calls of a transport.
use Rattle.std.proofs.Common.{◌≡◌, ℕ, List, [], ◌∷◌, ◌++◌, refl, sym, ap, ◌∙◌}
use Rattle.std.proofs.lemmas.List.{map-append}
use Rattle.nd_keeping.specs.Listing.{Listed}
use Rattle.nd_transports.specs.declared.kinds.Answer.{Answer}
use Rattle.nd_transports.specs.declared.kinds.Answer.TheVariants.{Built, Status, Lost, Memory}
use Rattle.nd_transports.specs.declared.kinds.Call.{Call}
use Rattle.nd_transports.specs.declared.kinds.Call.TheVariants.{Build}
use Rattle.nd_transports.specs.declared.kinds.Ended.{Ended}
use Rattle.nd_transports.specs.declared.kinds.Ended.TheVariants.{Built as EndedBuilt}
use Rattle.nd_transports.specs.Answers.{ended_of}
use Rattle.nd_transports.specs.Calls.{State, Deed, Builds, Reports, calls_of, deed_of, built}

-- one more call
pub noted : (calls : List Call) (deeds : List Deed) (x : Deed) → calls ≡ calls_of deeds → calls ++ x.call ∷ [] ≡ calls_of (deeds ++ x ∷ [])
noted calls deeds x is = ap (λ cs. cs ++ x.call ∷ []) is ∙ sym (map-append (λ (y : Deed). y.call) deeds (x ∷ []))

-- .. as those of one state go on from those of another
pub called : (before after : List Deed) (x : Deed) → after ≡ before ++ x ∷ [] → calls_of after ≡ calls_of before ++ x.call ∷ []
called before after x grown = ap calls_of grown ∙ map-append (λ (y : Deed). y.call) before (x ∷ [])

-- a build that ended with its outputs has reported references
reported : (s t : State) (by : Listed) (answer : Answer) → EndedBuilt ≡ ended_of answer → t ≡ built s by answer → (refs : List (List (List ℕ))) × Reports t refs
reported s t by (Built refs) told after = (
  refs,
  record {
    earlier = s.deeds;
    last = deed_of s by (Build s.job.ticket.drv (Built refs));
    drv = s.job.ticket.drv;
    at = ap (λ (u : State). u.deeds) after;
    is = refl;
  },
)
reported s t by (Status code) told after = absurd (cc told)
reported s t by Lost told after = absurd (cc told)
reported s t by Memory told after = absurd (cc told)

pub builds_reported : (s t : State) (by : Listed) (ended : Ended) → Builds s by ended t → ended ≡ EndedBuilt → (refs : List (List (List ℕ))) × Reports t refs
builds_reported s t by ended builds is = reported s t by builds.answer (sym is ∙ builds.told) builds.after
