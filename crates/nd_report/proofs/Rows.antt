-- A report that goes to a writer over a page.
use Rattle.std.proofs.Common.{◌≡◌, ◌∙◌, ℕ, zero, suc, ◌+◌, ◌<◌, ◌≤◌, Bool, true, false, true≢false, List, [], ◌∷◌, ◌++◌, length, take, get_or, Option, Result, Ok, Err, reverse, refl, sym, ap, subst, arith, inl, inr, append_assoc, append-nil, length-append}
use Rattle.std.specs.Prelude.{◌||◌, is_err, codes, slice_index_or}
use Rattle.std.specs.Fmt.{decimal}
use Rattle.std.specs.List.{flat_map, range_with_len}
use Rattle.std.specs.Io.KnownBytes.{Appends}
use Rattle.std.proofs.Math.Seq.{get_or-append_seam}
use Rattle.std.proofs.lemmas.Bool.{cases_lt}
use Rattle.std.proofs.lemmas.List.{get_or_append_left}
use Rattle.std.proofs.lemmas.List.FromFn.{length-range_with_len, get_or-range_with_len}
use Rattle.nd_failure.specs.declared.status.Counts.{Counts}
use Rattle.nd_failure.specs.declared.status.Status.{Status}
use Rattle.nd_failure.specs.declared.status.Status.TheVariants.{Waiting}
use Rattle.nd_devices.specs.Watched.{Watched}
use Rattle.nd_devices.specs.Written.{WritesPart}
use Rattle.nd_history.specs.declared.entry.Entry.{Entry}
use Rattle.nd_history.specs.Premises.{Premises}
use Rattle.nd_history.specs.Standing.{drvs_in}
use Rattle.nd_history.specs.Statuses.{HasStatusIn, AreCountsIn}
use Rattle.nd_ledger.specs.Worlds.{World}
use Rattle.nd_devices.specs.Sending.{IsPut}
use Rattle.nd_machines.specs.Builders.{Builder}
use Rattle.nd_choose.specs.Best.{jobs_at}
use Rattle.nd_hook.specs.ReplyText.{uri_at}
use Rattle.nd_history.specs.Choices.{jobs_of}
use Rattle.nd_history.specs.History.{load, is_up}
use Rattle.nd_history_text.specs.Rows.{row, share}
use Rattle.nd_report.specs.Reports.{count_row, up_word, status_word, drv_row, drvs_text, counts_text, machine_row, park_text, builder_row, AreFirstStatuses, IsReport, Reports, ReportsPart, PutsDrvs, PutsAllDrvs}
use Rattle.nd_devices.proofs.Sent.{no_text, put_both, put_renamed, item_put, item_refused, items_put, put_sent, put_sent_in_part, put_in_part}

-- ---- builders

place_is : (n i : ℕ) → i < n → i ≡ get_or (range_with_len 0 n) i i
place_is n i within = let here : 0 + i ≡ i = omega arith in sym (get_or-range_with_len 0 n i i within ∙ here)

module _ {W T E : Type 0} (contents : W → Option (List ℕ)) (line : ℕ → List ℕ) where
  pub row_put : (old mid new : Watched W) (held between left : List ℕ) (n i : ℕ) (u v : T) → i < n
      → IsPut {E = E} contents old held mid between (flat_map line (take i (range_with_len 0 n))) (Ok u) → IsPut {E = E} contents mid between new left (line i) (Ok v)
      → IsPut {E = E} contents old held new left (flat_map line (take (i + 1) (range_with_len 0 n))) (Ok v)
  row_put old mid new held between left n i u v within a b =
      let long : i < length (range_with_len 0 n) = omega (arith, length-range_with_len 0 n) in
      item_put contents line old mid new held between left (range_with_len 0 n) i i u v long (place_is n i within) a b

  pub row_refused : (old mid new : Watched W) (held between left : List ℕ) (n i : ℕ) (u : T) (f : E) (r : Result T E) → i < n → is_err r ≡ true
      → IsPut {E = E} contents old held mid between (flat_map line (take i (range_with_len 0 n))) (Ok u) → IsPut {T = T} contents mid between new left (line i) (Err f)
      → IsPut contents old held new left (flat_map line (range_with_len 0 n)) r
  row_refused old mid new held between left n i u f r within refused a b =
      let long : i < length (range_with_len 0 n) = omega (arith, length-range_with_len 0 n) in
      item_refused contents line old mid new held between left (range_with_len 0 n) i i u f r long (place_is n i within) refused a b

  pub rows_put : (old new : Watched W) (held left : List ℕ) (n i : ℕ) (r : Result T E) → n ≤ i
      → IsPut contents old held new left (flat_map line (take i (range_with_len 0 n))) r → IsPut contents old held new left (flat_map line (range_with_len 0 n)) r
  rows_put old new held left n i r past a =
      let long : length (range_with_len 0 n) ≤ i = omega (arith, length-range_with_len 0 n) in
      items_put contents line old new held left (range_with_len 0 n) i r long a

-- the builder of a number
uri_is : (machines : List Builder) (n : ℕ) (machine : Builder) → n < length machines → machine ≡ get_or machines n machine → machine.uri ≡ uri_at machines n
uri_is [] n machine within is = absurd (omega arith)
uri_is (first ∷ machines) zero machine within is = ap (λ (m : Builder). m.uri) is
uri_is (first ∷ machines) (suc n) machine within is = uri_is machines n machine (omega arith) is

jobs_are : (machines : List Builder) (n : ℕ) (machine : Builder) → n < length machines → machine ≡ get_or machines n machine → machine.jobs ≡ jobs_at machines n
jobs_are [] n machine within is = absurd (omega arith)
jobs_are (first ∷ machines) zero machine within is = ap (λ (m : Builder). m.jobs) is
jobs_are (first ∷ machines) (suc n) machine within is = jobs_are machines n machine (omega arith) is

builder_named : (i : Premises) (past : List Entry) (place : ℕ) (machine : Builder) → place < length i.machines → machine ≡ get_or i.machines place machine
    → machine_row i past (place + 1) machine.uri ≡ builder_row i past place
unfolding builder_row
builder_named i past place machine within is = ap (machine_row i past (place + 1)) (uri_is i.machines place machine within is)

pub builder_jobs : (i : Premises) (place : ℕ) (machine : Builder) → place < length i.machines → machine ≡ get_or i.machines place machine
    → machine.jobs ≡ jobs_of i (place + 1)
builder_jobs i place machine within is =
    let next : suc place ≡ place + 1 = omega arith in
    jobs_are i.machines place machine within is ∙ ap (jobs_of i) next

-- the line of a builder, by its place
pub builder_put : {W T E : Type 0} (contents : W → Option (List ℕ)) (i : Premises) (past : List Entry) (place : ℕ) (machine : Builder) (old new : Watched W) (held left : List ℕ) (r : Result T E)
    → place < length i.machines → machine ≡ get_or i.machines place machine → IsPut contents old held new left (machine_row i past (place + 1) machine.uri) r
    → IsPut contents old held new left (builder_row i past place) r
builder_put contents i past place machine old new held left r within is a =
    put_renamed contents old new held left _ _ r (builder_named i past place machine within is) a

-- ---- the words of a row

-- the rows of the counts, one after another
pub counts_rowed : (total : ℕ) (counts : Counts)
    → count_row (codes "total") total ++ (count_row (codes "waiting") counts.waiting ++ (count_row (codes "leased") counts.leased
    ++ (count_row (codes "built") counts.built ++ (count_row (codes "failed") counts.failed ++ (count_row (codes "cancelled") counts.cancelled ++ [])))))
    ≡ counts_text total counts
counts_rowed total counts =
    ap (λ (t : List ℕ). count_row (codes "total") total ++ (count_row (codes "waiting") counts.waiting ++ (count_row (codes "leased") counts.leased
    ++ (count_row (codes "built") counts.built ++ (count_row (codes "failed") counts.failed ++ t))))) (append-nil (count_row (codes "cancelled") counts.cancelled))

pub machine_rowed : (i : Premises) (past : List Entry) (m : ℕ) (name word : List ℕ) (up : Bool) (taken jobs : ℕ) → word ≡ up_word up → up ≡ is_up m past
    → taken ≡ load m past → jobs ≡ jobs_of i m → row (codes "machine") (decimal m ∷ word ∷ share taken jobs ∷ name ∷ []) ≡ machine_row i past m name
machine_rowed i past m name word up taken jobs said is loaded have =
    ap (λ (w : List ℕ). row (codes "machine") (decimal m ∷ w ∷ share taken jobs ∷ name ∷ [])) (said ∙ ap up_word is)
    ∙ ap (λ (w : List ℕ). row (codes "machine") (decimal m ∷ up_word (is_up m past) ∷ w ∷ name ∷ []))
    (ap (λ (n : ℕ). share n jobs) loaded ∙ ap (share (load m past)) have)

pub drv_rowed : (i : Premises) (d : ℕ) (status : Status) (word path : List ℕ) → word ≡ status_word status → path ≡ slice_index_or i.graph.paths d []
    → row (codes "drv") (decimal d ∷ word ∷ path ∷ []) ≡ drv_row i d status
unfolding drv_row
drv_rowed i d status word path said is =
    ap (λ (w : List ℕ). row (codes "drv") (decimal d ∷ w ∷ path ∷ [])) said ∙ ap (λ (w : List ℕ). row (codes "drv") (decimal d ∷ status_word status ∷ w ∷ [])) is

-- ---- derivations

drvs-append : (i : Premises) (d : ℕ) (statuses : List Status) (status : Status) → drvs_text i d (statuses ++ status ∷ []) ≡ drvs_text i d statuses ++ drv_row i (d + length statuses) status
drvs-append i d [] status = let here : d ≡ d + 0 = omega arith in append-nil (drv_row i d status) ∙ ap (λ (n : ℕ). drv_row i n status) here
drvs-append i d (first ∷ statuses) status =
    let here : d + 1 + length statuses ≡ d + suc (length statuses) = omega arith in
    let later : drvs_text i (d + 1) (statuses ++ status ∷ []) ≡ drvs_text i (d + 1) statuses ++ drv_row i (d + suc (length statuses)) status =
    drvs-append i (d + 1) statuses status ∙ ap (λ (n : ℕ). drvs_text i (d + 1) statuses ++ drv_row i n status) here in
    ap (λ (t : List ℕ). drv_row i d first ++ t) later ∙ sym (append_assoc (drv_row i d first) (drvs_text i (d + 1) statuses) (drv_row i (d + suc (length statuses)) status))

at_place : (i : Premises) (statuses : List Status) (n : ℕ) (status : Status) → length statuses ≡ n
    → drvs_text i 0 (statuses ++ status ∷ []) ≡ drvs_text i 0 statuses ++ drv_row i n status
at_place i statuses n status size =
    let here : 0 + length statuses ≡ n = omega (arith, size) in
    drvs-append i 0 statuses status ∙ ap (λ (m : ℕ). drvs_text i 0 statuses ++ drv_row i m status) here

one_more : (i : Premises) (past : List Entry) (n : ℕ) (statuses : List Status) (status : Status) → AreFirstStatuses i past n statuses → HasStatusIn i past n status
    → AreFirstStatuses i past (n + 1) (statuses ++ status ∷ [])
one_more i past n statuses status h here = record {
  size = omega (arith, h.size, length-append statuses (status ∷ []));
  right = λ d within. elim (cases_lt d n) [
    | inl before ↦
        (let lt : d < length statuses = omega (arith, h.size) in rw (get_or_append_left statuses (status ∷ []) Waiting d lt) (h.right d before))
    | inr after ↦
        (let is : d ≡ length statuses = omega (arith, h.size) in
        let at : n ≡ d = omega arith in
        rw (ap (λ (k : ℕ). get_or (statuses ++ status ∷ []) k Waiting) is ∙ get_or-append_seam statuses status [] Waiting)
        (subst (λ (k : ℕ). HasStatusIn i past k status) at here))
  ];
}

module _ {W T E : Type 0} (w : World) (contents : W → Option (List ℕ)) where
  pub drvs_begun : (o : Watched W) (held : List ℕ) (u : T) → PutsDrvs {E = E} w 0 contents o held o held (Ok u)
  drvs_begun o held u = record { statuses = []; are = record { size = refl; right = λ d within. absurd (omega arith) }; put = no_text contents o held held u refl }

  pub drvs_more : (n : ℕ) (old mid new : Watched W) (held between left : List ℕ) (status : Status) (u : T) (r : Result T E)
      → PutsDrvs {E = E} w n contents old held mid between (Ok u) → HasStatusIn w.inputs (reverse w.history) n status
      → IsPut contents mid between new left (drv_row w.inputs n status) r → PutsDrvs w (n + 1) contents old held new left r
  drvs_more n old mid new held between left status u r h here next = record {
    statuses = h.statuses ++ status ∷ [];
    are = one_more w.inputs (reverse w.history) n h.statuses status h.are here;
    put =
        put_renamed contents old new held left _ _ r (sym (at_place w.inputs h.statuses n status h.are.size))
        (put_both contents old mid new held between left (drvs_text w.inputs 0 h.statuses) (drv_row w.inputs n status) u r h.put next);
  }

  -- the line of a derivation is refused
  pub drvs_refused : (n : ℕ) (old mid new : Watched W) (held between left : List ℕ) (status : Status) (u : T) (f : E) (r : Result T E) → n < drvs_in w.inputs
      → is_err r ≡ true → PutsDrvs {E = E} w n contents old held mid between (Ok u) → HasStatusIn w.inputs (reverse w.history) n status
      → IsPut {T = T} contents mid between new left (drv_row w.inputs n status) (Err f) → PutsAllDrvs w contents old held new left r
  drvs_refused n old mid new held between left status u f (Ok v) within refused h here next = absurd (true≢false (sym refused))
  drvs_refused n old mid new held between left status u f (Err g) within refused h here next = record {
    n = n + 1;
    some = omega arith;
    all = tt;
    puts = drvs_more n old mid new held between left status u (Err g) h here (record { written = tt; partly = next.partly; mark = next.mark });
  }

  pub drvs_put : (n : ℕ) (old new : Watched W) (held left : List ℕ) (u : T) → n ≡ drvs_in w.inputs → PutsDrvs {E = E} w n contents old held new left (Ok u)
      → PutsAllDrvs {E = E} w contents old held new left (Ok u)
  drvs_put n old new held left u all h = record { n = n; some = omega (arith, all); all = all; puts = h }

-- ---- the mark of the device

-- after a call that was taken, and then another
pub marked : {T E : Type 0} (old mid new more : Bool) (r : Result T E) → mid ≡ (old || false) → new ≡ (mid || more) → is_err r ≡ more → new ≡ (old || is_err r)
marked true mid new more r first then is = then ∙ ap (λ (m : Bool). m || more) first
marked false mid new more r first then is = then ∙ ap (λ (m : Bool). m || more) first ∙ sym is

-- after two calls that were taken
pub unmarked : (old mid new : Bool) → mid ≡ (old || false) → new ≡ (mid || false) → new ≡ (old || false)
unmarked true mid new first then = then ∙ ap (λ (m : Bool). m || false) first
unmarked false mid new first then = then ∙ ap (λ (m : Bool). m || false) first

-- ---- whole reports

none_yet : (i : Premises) (past : List Entry) (counts : Counts) → AreCountsIn i past counts → IsReport i past 0 (park_text (drvs_in i) counts i past)
none_yet i past counts h = record {
  counts = counts;
  counted = h;
  statuses = [];
  are = record { size = refl; right = λ d within. absurd (omega arith) };
  whole = sym (append-nil (park_text (drvs_in i) counts i past));
}

module _ {W T E : Type 0} (w : World) (contents : W → Option (List ℕ)) (total : ℕ) (counts : Counts) where
  pub park_in_part : (old new : Watched W) (held left : List ℕ) (f : E) → total ≡ drvs_in w.inputs → held ≡ [] → AreCountsIn w.inputs (reverse w.history) counts
      → IsPut {T = T} contents old held new left (park_text total counts w.inputs (reverse w.history)) (Err f) → ReportsPart w.inputs (reverse w.history) (contents old.device) (contents new.device)
  park_in_part old new held left f size none h a0 =
      let a : IsPut {T = T} {E = E} contents old held new left (park_text (drvs_in w.inputs) counts w.inputs (reverse w.history)) (Err f) = subst (λ (n : ℕ). IsPut {T = T} {E = E} contents old held new left (park_text n counts w.inputs (reverse w.history)) (Err f)) size a0 in
      record { n = 0; some = omega arith; text = park_text (drvs_in w.inputs) counts w.inputs (reverse w.history); is = none_yet w.inputs (reverse w.history) counts h; written = put_in_part contents old new held left _ f none a }

  -- the counts, the machines and the derivations so far
  joined : (n : ℕ) (old mid new : Watched W) (held between left : List ℕ) (u : T) (r : Result T E) → total ≡ drvs_in w.inputs
      → IsPut {E = E} contents old held mid between (park_text total counts w.inputs (reverse w.history)) (Ok u) → (b : PutsDrvs w n contents mid between new left r)
      → IsPut contents old held new left (park_text (drvs_in w.inputs) counts w.inputs (reverse w.history) ++ drvs_text w.inputs 0 b.statuses) r
  joined n old mid new held between left u r size a0 b =
      let a : IsPut {T = T} {E = E} contents old held mid between (park_text (drvs_in w.inputs) counts w.inputs (reverse w.history)) (Ok u) = subst (λ (n : ℕ). IsPut {T = T} {E = E} contents old held mid between (park_text n counts w.inputs (reverse w.history)) (Ok u)) size a0 in
      put_both contents old mid new held between left (park_text (drvs_in w.inputs) counts w.inputs (reverse w.history)) (drvs_text w.inputs 0 b.statuses) u r a b.put

  is_report : (n : ℕ) (old new : Watched W) (held left : List ℕ) (r : Result T E) → AreCountsIn w.inputs (reverse w.history) counts
      → (b : PutsDrvs w n contents old held new left r) → IsReport w.inputs (reverse w.history) n (park_text (drvs_in w.inputs) counts w.inputs (reverse w.history) ++ drvs_text w.inputs 0 b.statuses)
  is_report n old new held left r h b = record { counts = counts; counted = h; statuses = b.statuses; are = b.are; whole = refl }

  pub drvs_in_part : (old mid new : Watched W) (held between left : List ℕ) (u : T) (f : E) → total ≡ drvs_in w.inputs → held ≡ []
      → AreCountsIn w.inputs (reverse w.history) counts → IsPut {E = E} contents old held mid between (park_text total counts w.inputs (reverse w.history)) (Ok u)
      → PutsAllDrvs {T = T} w contents mid between new left (Err f) → ReportsPart w.inputs (reverse w.history) (contents old.device) (contents new.device)
  drvs_in_part old mid new held between left u f size none h a b = record {
    n = b.n;
    some = b.some;
    text = park_text (drvs_in w.inputs) counts w.inputs (reverse w.history) ++ drvs_text w.inputs 0 b.puts.statuses;
    is = is_report b.n mid new between left (Err f) h b.puts;
    written = put_in_part contents old new held left _ f none (joined b.n old mid new held between left u (Err f) size a b.puts);
  }

  pub report_sent : (old mid later : Watched W) (new : Option (List ℕ)) (held between left : List ℕ) (u v : T) → total ≡ drvs_in w.inputs → held ≡ []
      → AreCountsIn w.inputs (reverse w.history) counts → IsPut {E = E} contents old held mid between (park_text total counts w.inputs (reverse w.history)) (Ok u)
      → PutsAllDrvs {E = E} w contents mid between later left (Ok v) → Appends (contents later.device) new left
      → Reports w.inputs (reverse w.history) (contents old.device) new
  report_sent old mid later new held between left u v size none h a b last = record {
    text = park_text (drvs_in w.inputs) counts w.inputs (reverse w.history) ++ drvs_text w.inputs 0 b.puts.statuses;
    is =
        subst (λ (n : ℕ). IsReport w.inputs (reverse w.history) n (park_text (drvs_in w.inputs) counts w.inputs (reverse w.history) ++ drvs_text w.inputs 0 b.puts.statuses)) b.all
        (is_report b.n mid later between left (Ok v) h b.puts);
    written = put_sent {E = E} contents old later new held left _ v none (joined b.n old mid later held between left u (Ok v) size a b.puts) last;
  }

  pub end_in_part_of : (old mid later : Watched W) (new : Option (List ℕ)) (held between left : List ℕ) (u v : T) → total ≡ drvs_in w.inputs → held ≡ []
      → AreCountsIn w.inputs (reverse w.history) counts → IsPut {E = E} contents old held mid between (park_text total counts w.inputs (reverse w.history)) (Ok u)
      → PutsAllDrvs {E = E} w contents mid between later left (Ok v) → WritesPart (contents later.device) new left
      → ReportsPart w.inputs (reverse w.history) (contents old.device) new
  end_in_part_of old mid later new held between left u v size none h a b last = record {
    n = b.n;
    some = b.some;
    text = park_text (drvs_in w.inputs) counts w.inputs (reverse w.history) ++ drvs_text w.inputs 0 b.puts.statuses;
    is = is_report b.n mid later between left (Ok v) h b.puts;
    written = put_sent_in_part {E = E} contents old later new held left _ v none (joined b.n old mid later held between left u (Ok v) size a b.puts) last;
  }
