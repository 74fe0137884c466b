-- Which calls of a transport stand behind a receipt. The clause `calls` of nd_workers' `run` cites `AreCallsIn`; the other
-- definitions are what it is made of. This project's own choice.
use Rattle.std.specs.Prelude.{◌≡◌, ℕ, Bool, true, false, List, [], ◌∷◌, ◌++◌, ◌⊎◌, slice_get, take, reverse, Some, All}
use Rattle.nd_history.specs.declared.entry.Entry.{Entry}
use Rattle.nd_history.specs.declared.entry.Entry.TheVariants.{Chosen, NoBuilder, Started, Down, Built, Failed, Stop, Drain, Enable}
use Rattle.nd_history.specs.declared.entry.Why.{Why}
use Rattle.nd_history.specs.declared.entry.Why.TheVariants.{Status, Lost, BadReferences, NoWorker, Memory}
use Rattle.nd_history.specs.History.{is_started}
use Rattle.nd_transports.specs.declared.kinds.Answer.{Answer}
use Rattle.nd_transports.specs.declared.kinds.Answer.TheVariants.{Built as AnswerBuilt, Status as AnswerStatus, Lost as AnswerLost, Memory as AnswerMemory}
use Rattle.nd_transports.specs.declared.kinds.Call.{Call}
use Rattle.nd_transports.specs.declared.kinds.Call.TheVariants.{Connect, Copy, Build}
use Rattle.nd_transports.specs.Calls.{Deed, calls_of}
use Rattle.nd_receipts.specs.declared.receipt.Receipt.{Receipt}
use Rattle.nd_receipts.specs.declared.receipt.Kind.{Kind}
use Rattle.nd_receipts.specs.declared.receipt.Kind.TheVariants.{Started as KindStarted, Down as KindDown, Built as KindBuilt, Failed as KindFailed}
use Rattle.nd_receipts.specs.Standing.{ends_build}

-- the one call is a build of d that ended with its outputs, or for whose answer there was no memory
pub record IsOneShort (d : ℕ) (n : ℕ) (calls : List Call) : Type 0 where
  pub answer : Answer
  pub either : ((refs : List (List (List ℕ))) × (answer ≡ AnswerBuilt refs)) ⊎ (answer ≡ AnswerMemory)
  pub one : n ≡ 1
  pub is : calls ≡ Build d answer ∷ []

-- the calls behind a failure for want of memory: the build of a lease that was started, for whose answer or for whose references there
-- was none; or, where it wasn't, either none or a connect and a copy that were both answered yes
abbrev pub AreCallsOfShortage : Bool → ℕ → List (List ℕ) → ℕ → List Call → Type 0
AreCallsOfShortage true n paths d calls = IsOneShort d n calls
AreCallsOfShortage false n paths d calls = ((n ≡ 0) × (calls ≡ [])) ⊎ ((n ≡ 2) × (calls ≡ Connect true ∷ Copy paths true ∷ []))

-- the calls behind a failure of a lease that was started, or wasn't; `refs` are references that a build reported and may not have
abbrev pub AreCallsOfFailure : Bool → ℕ → List (List ℕ) → List (List (List ℕ)) → ℕ → Why → List Call → Type 0
AreCallsOfFailure started n paths refs d (Status code) calls = (n ≡ 1) × (calls ≡ Build d (AnswerStatus code) ∷ [])
AreCallsOfFailure started n paths refs d Lost calls = (n ≡ 1) × (calls ≡ Build d AnswerLost ∷ [])
AreCallsOfFailure started n paths refs d BadReferences calls = (n ≡ 1) × (calls ≡ Build d (AnswerBuilt refs) ∷ [])
AreCallsOfFailure started n paths refs d Memory calls = AreCallsOfShortage started n paths d calls
AreCallsOfFailure started n paths refs d NoWorker calls = ⊥

-- the two ways in which a lease is given back: the machine wasn't reached, or the copy of these paths failed
abbrev pub AreCallsOfDown : ℕ → List (List ℕ) → List Call → Type 0
AreCallsOfDown n paths calls = ((n ≡ 1) × (calls ≡ Connect false ∷ [])) ⊎ ((n ≡ 2) × (calls ≡ Connect true ∷ Copy paths false ∷ []))

-- n calls, with the paths of a copy and the references of a build that the entry doesn't hold, behind an entry that a worker makes
-- after `past`, newest first
abbrev pub AreCallsFor : List Entry → ℕ → List (List ℕ) → List (List (List ℕ)) → Entry → List Call → Type 0
AreCallsFor past n paths reported (Started d copied) calls = (n ≡ 2) × (calls ≡ Connect true ∷ Copy copied true ∷ [])
AreCallsFor past n paths reported (Down d) calls = AreCallsOfDown n paths calls
AreCallsFor past n paths reported (Built d refs) calls = (n ≡ 1) × (calls ≡ Build d (AnswerBuilt refs) ∷ [])
AreCallsFor past n paths reported (Failed d why) calls = AreCallsOfFailure (is_started d past) n paths reported d why calls
AreCallsFor past n paths reported (Chosen d m s) calls = ⊥
AreCallsFor past n paths reported (NoBuilder d) calls = ⊥
AreCallsFor past n paths reported Stop calls = ⊥
AreCallsFor past n paths reported (Drain m) calls = ⊥
AreCallsFor past n paths reported (Enable m) calls = ⊥

-- ---- a lease that was started before the run

-- the machine was reached, these paths were copied to it, and d was built there, which ended with this answer
abbrev pub whole_build : List (List ℕ) → ℕ → Answer → List Call
whole_build paths d answer = Connect true ∷ Copy paths true ∷ Build d answer ∷ []

-- the three calls are those of a build of d that ended with its outputs, or for whose answer there was no memory
pub record IsWholeShort (d : ℕ) (n : ℕ) (paths : List (List ℕ)) (calls : List Call) : Type 0 where
  pub answer : Answer
  pub either : ((refs : List (List (List ℕ))) × (answer ≡ AnswerBuilt refs)) ⊎ (answer ≡ AnswerMemory)
  pub three : n ≡ 3
  pub is : calls ≡ whole_build paths d answer

-- the calls behind a failure of a lease that was started before the run: its build was asked for again, or, where it is lost, the machine
-- wasn't reached or the copy failed, and where memory was wanting, there may be no call
abbrev pub AreCallsOfFailureAgain : ℕ → List (List ℕ) → List (List (List ℕ)) → ℕ → Why → List Call → Type 0
AreCallsOfFailureAgain n paths refs d (Status code) calls = (n ≡ 3) × (calls ≡ whole_build paths d (AnswerStatus code))
AreCallsOfFailureAgain n paths refs d Lost calls = AreCallsOfDown n paths calls ⊎ ((n ≡ 3) × (calls ≡ whole_build paths d AnswerLost))
AreCallsOfFailureAgain n paths refs d BadReferences calls = (n ≡ 3) × (calls ≡ whole_build paths d (AnswerBuilt refs))
AreCallsOfFailureAgain n paths refs d Memory calls = ((n ≡ 0) × (calls ≡ [])) ⊎ IsWholeShort d n paths calls
AreCallsOfFailureAgain n paths refs d NoWorker calls = ⊥

-- n calls, with the paths of a copy and the references of a build, behind the end of a lease that was started before the run
abbrev pub AreCallsAgain : ℕ → List (List ℕ) → List (List (List ℕ)) → Entry → List Call → Type 0
AreCallsAgain n paths reported (Built d refs) calls = (n ≡ 3) × (calls ≡ whole_build paths d (AnswerBuilt refs))
AreCallsAgain n paths reported (Failed d why) calls = AreCallsOfFailureAgain n paths reported d why calls
AreCallsAgain n paths reported (Started d copied) calls = ⊥
AreCallsAgain n paths reported (Down d) calls = ⊥
AreCallsAgain n paths reported (Chosen d m s) calls = ⊥
AreCallsAgain n paths reported (NoBuilder d) calls = ⊥
AreCallsAgain n paths reported Stop calls = ⊥
AreCallsAgain n paths reported (Drain m) calls = ⊥
AreCallsAgain n paths reported (Enable m) calls = ⊥

-- ---- receipts

-- the calls behind an entry, where its lease was started before the run, or wasn't
abbrev pub AreCallsBy : Bool → List Entry → ℕ → List (List ℕ) → List (List (List ℕ)) → Entry → List Call → Type 0
AreCallsBy true past n paths reported e calls = AreCallsAgain n paths reported e calls
AreCallsBy false past n paths reported e calls = AreCallsFor past n paths reported e calls

-- the entry is of this kind
abbrev pub IsOfKind : Kind → Entry → Type 0
IsOfKind kind (Started d copied) = kind ≡ KindStarted
IsOfKind kind (Down d) = kind ≡ KindDown
IsOfKind kind (Built d refs) = kind ≡ KindBuilt
IsOfKind kind (Failed d why) = kind ≡ KindFailed
IsOfKind kind (Chosen d m s) = ⊥
IsOfKind kind (NoBuilder d) = ⊥
IsOfKind kind Stop = ⊥
IsOfKind kind (Drain m) = ⊥
IsOfKind kind (Enable m) = ⊥

-- these are the calls of a receipt whose entry e came after `past`, newest first
pub record AreCallsOf (past : List Entry) (r : Receipt) (e : Entry) (these : List Call) : Type 0 where
  pub kind : IsOfKind r.kind e
  pub calls : AreCallsBy r.again past r.calls r.paths r.refs e these

-- the derivation of an entry that a worker makes
abbrev pub IsOf : ℕ → Entry → Type 0
IsOf d (Started e copied) = e ≡ d
IsOf d (Down e) = e ≡ d
IsOf d (Built e refs) = e ≡ d
IsOf d (Failed e why) = e ≡ d
IsOf d (Chosen e m s) = ⊥
IsOf d (NoBuilder e) = ⊥
IsOf d Stop = ⊥
IsOf d (Drain m) = ⊥
IsOf d (Enable m) = ⊥

-- each of these calls was made as it may be for the derivation of the entry, which `Due` says
pub record AreDueFor (Due : ℕ → Deed → Type 0) (e : Entry) (these : List Deed) : Type 0 where
  pub each : (d : ℕ) → IsOf d e → All (Due d) these

-- these are the calls of a receipt, for the entry of the history that it names and what stands before that entry; the receipt is of
-- a lease that was started before exactly where the entry ends a build that was going on behind the first `opened` entries; each was made
-- for the entry's derivation, as it may be
pub record AreCallsAt (Due : ℕ → Deed → Type 0) (opened : ℕ) (history : List Entry) (r : Receipt) (these : List Deed) : Type 0 where
  pub entry : Entry
  pub at : slice_get history r.index ≡ Some entry
  pub again : r.again ≡ ends_build (reverse (take opened history)) entry
  pub calls : AreCallsOf (reverse (take r.index history)) r entry (calls_of these)
  pub due : AreDueFor Due entry these

-- these are the calls of the receipts, one after another, of a run that began behind the first `opened` entries
pub data AreCallsIn (Due : ℕ → Deed → Type 0) (opened : ℕ) (history : List Entry) : List Receipt → List Deed → Type 0 where
  none : AreCallsIn Due opened history [] []
  more : (r : Receipt) (these : List Deed) (rs : List Receipt) (rest : List Deed) → AreCallsAt Due opened history r these → AreCallsIn Due opened history rs rest → AreCallsIn Due opened history (r ∷ rs) (these ++ rest)
