-- A text that goes to a writer over a page, piece by piece.
use Rattle.std.proofs.Common.{◌≡◌, ◌∙◌, ℕ, suc, ◌+◌, ◌<◌, ◌≤◌, Bool, true, false, true≢false, List, [], ◌∷◌, ◌++◌, length, take, drop, get_or, Option, None, Some, Result, Ok, Err, refl, sym, ap, subst, append_assoc}
use Rattle.std.specs.Prelude.{◌||◌, is_err, OnOk, OnErr}
use Rattle.std.specs.List.{flat_map}
use Rattle.std.specs.Io.KnownBytes.{Appends}
use Rattle.std.proofs.Math.Seq.{split_at}
use Rattle.std.proofs.lemmas.Grind.{flat_map-append}
use Rattle.std.proofs.lemmas.List.{append-nil, get_or_default, take_all, take_more}
use Rattle.nd_devices.specs.Watched.{Watched}
use Rattle.nd_devices.specs.Written.{WritesPart}
use Rattle.nd_devices.proofs.Pieces.{part_of_first, part_after, written_after}
use Rattle.nd_devices.specs.Sending.{Sends, SendsPart, IsPut}

kept : (o : Option (List ℕ)) → Appends o o []
kept None = tt
kept (Some xs) = sym (append-nil xs)

-- the piece is held back
pub held_more : (o : Option (List ℕ)) (held left text : List ℕ) → left ≡ held ++ text → Sends o held o left text
held_more o held left text e = record { sent = []; appended = kept o; whole = sym e }

-- the page is sent, and then the piece
pub gone : (old mid new : Option (List ℕ)) (held left text : List ℕ) → Appends old mid held → left ≡ [] → Appends mid new text
    → Sends old held new left text
gone old mid new held left text first e then = record {
  sent = held ++ text;
  appended = written_after old mid new held text first then;
  whole = sym (append-nil (held ++ text)) ∙ ap (λ (l : List ℕ). (held ++ text) ++ l) (sym e);
}

-- the page was sent in part
pub page_in_part : (old new : Option (List ℕ)) (held text : List ℕ) → WritesPart old new held → SendsPart old held new text
page_in_part old new held text h = record { written = part_of_first old new held text h }

-- the page was sent, and of the piece a part
pub piece_in_part : (old mid new : Option (List ℕ)) (held text : List ℕ) → Appends old mid held → WritesPart mid new text → SendsPart old held new text
piece_in_part old mid new held text first h = record { written = part_after old mid new held text first h }

-- one text after another
pub both : (old mid new : Option (List ℕ)) (held between left text more : List ℕ) → Sends old held mid between text → Sends mid between new left more
    → Sends old held new left (text ++ more)
both old mid new held between left text more a b = record {
  sent = a.sent ++ b.sent;
  appended = written_after old mid new a.sent b.sent a.appended b.appended;
  whole =
      sym (append_assoc held text more) ∙ ap (λ (l : List ℕ). l ++ more) a.whole ∙ append_assoc a.sent between more
      ∙ ap (λ (l : List ℕ). a.sent ++ l) b.whole ∙ sym (append_assoc a.sent b.sent left);
}

-- the first was sent in part
pub part_first : (old new : Option (List ℕ)) (held text more : List ℕ) → SendsPart old held new text → SendsPart old held new (text ++ more)
part_first old new held text more h = record {
  written = rw (← append_assoc held text more) (part_of_first old new (held ++ text) more h.written);
}

-- the first was sent, and of the second a part
pub part_then : (old mid new : Option (List ℕ)) (held between text more : List ℕ) → Sends old held mid between text → SendsPart mid between new more
    → SendsPart old held new (text ++ more)
part_then old mid new held between text more a h = record {
  written = rw (← append_assoc held text more, a.whole, append_assoc a.sent between more) (part_after old mid new a.sent (between ++ more) a.appended h.written);
}

-- the end of a text that was held back is sent
pub all_sent : (old mid new : Option (List ℕ)) (held left text : List ℕ) → held ≡ [] → Sends old held mid left text → Appends mid new left → Appends old new text
all_sent old mid new held left text none a b =
    rw (ap (λ (l : List ℕ). l ++ text) (sym none) ∙ a.whole) (written_after old mid new a.sent left a.appended b)

-- .. or a part of it
pub end_in_part : (old mid new : Option (List ℕ)) (held left text : List ℕ) → held ≡ [] → Sends old held mid left text → WritesPart mid new left
    → WritesPart old new text
end_in_part old mid new held left text none a b =
    rw (ap (λ (l : List ℕ). l ++ text) (sym none) ∙ a.whole) (part_after old mid new a.sent left a.appended b)

-- .. or of what came before
pub sent_in_part : (old new : Option (List ℕ)) (held text : List ℕ) → held ≡ [] → SendsPart old held new text → WritesPart old new text
sent_in_part old new held text none a = rw (ap (λ (l : List ℕ). l ++ text) (sym none)) a.written

-- ---- the place of an item in its list

pub front_more : {X : Type 0} (xs : List X) (i : ℕ) (x : X) → i < length xs → x ≡ get_or xs i x → take (i + 1) xs ≡ take i xs ++ x ∷ []
front_more xs i x within is = take_more xs i x within ∙ ap (λ y. take i xs ++ y ∷ []) (sym is)

pub parted : {X : Type 0} (xs : List X) (i : ℕ) (x : X) → i < length xs → x ≡ get_or xs i x → xs ≡ take i xs ++ x ∷ drop (suc i) xs
parted xs i x within is = split_at xs i x within ∙ ap (λ y. take i xs ++ y ∷ drop (suc i) xs) (sym is)

-- ---- the same with the mark of the device

unmarked : (b : Bool) → (b || false) ≡ b
unmarked true = refl
unmarked false = refl

-- a mark after a call that was taken, and then another
marked_after : (old mid new more : Bool) → mid ≡ (old || false) → new ≡ (mid || more) → new ≡ (old || more)
marked_after old mid new more a b = b ∙ ap (λ (m : Bool). m || more) (a ∙ unmarked old)

module _ {W T E : Type 0} (contents : W → Option (List ℕ)) where
  pub held_put : (o : Watched W) (held left text : List ℕ) (u : T) → left ≡ held ++ text → IsPut {E = E} contents o held o left text (Ok u)
  held_put o held left text u e = record { written = held_more (contents o.device) held left text e; partly = tt; mark = sym (unmarked o.is_marked) }

  -- nothing is put
  pub no_text : (o : Watched W) (held left : List ℕ) (u : T) → left ≡ held → IsPut {E = E} contents o held o left [] (Ok u)
  no_text o held left u e = held_put o held left [] u (e ∙ sym (append-nil held))

  -- the page is sent, and then the piece
  pub gone_put : (old mid new : Watched W) (held left text : List ℕ) (r : Result T E) → Appends (contents old.device) (contents mid.device) held → left ≡ []
      → mid.is_marked ≡ (old.is_marked || false) → OnOk r (Appends (contents mid.device) (contents new.device) text)
      → OnErr r (WritesPart (contents mid.device) (contents new.device) text) → new.is_marked ≡ (mid.is_marked || is_err r)
      → IsPut contents old held new left text r
  gone_put old mid new held left text (Ok u) first e a whole part b = record {
    written = gone (contents old.device) (contents mid.device) (contents new.device) held left text first e whole;
    partly = tt;
    mark = marked_after old.is_marked mid.is_marked new.is_marked false a b;
  }
  gone_put old mid new held left text (Err f) first e a whole part b = record {
    written = tt;
    partly = piece_in_part (contents old.device) (contents mid.device) (contents new.device) held text first part;
    mark = marked_after old.is_marked mid.is_marked new.is_marked true a b;
  }

  -- the page is refused
  pub page_refused : (old new : Watched W) (held left text : List ℕ) (r : Result T E) → is_err r ≡ true → WritesPart (contents old.device) (contents new.device) held
      → new.is_marked ≡ (old.is_marked || true) → IsPut contents old held new left text r
  page_refused old new held left text (Ok u) refused part a = absurd (true≢false (sym refused))
  page_refused old new held left text (Err f) refused part a = record {
    written = tt;
    partly = page_in_part (contents old.device) (contents new.device) held text part;
    mark = a;
  }

  -- one text after another
  pub put_both : (old mid new : Watched W) (held between left text more : List ℕ) (u : T) (r : Result T E) → IsPut {E = E} contents old held mid between text (Ok u)
      → IsPut contents mid between new left more r → IsPut contents old held new left (text ++ more) r
  put_both old mid new held between left text more u (Ok v) a b = record {
    written = both (contents old.device) (contents mid.device) (contents new.device) held between left text more a.written b.written;
    partly = tt;
    mark = marked_after old.is_marked mid.is_marked new.is_marked false a.mark b.mark;
  }
  put_both old mid new held between left text more u (Err f) a b = record {
    written = tt;
    partly = part_then (contents old.device) (contents mid.device) (contents new.device) held between text more a.written b.partly;
    mark = marked_after old.is_marked mid.is_marked new.is_marked true a.mark b.mark;
  }

  -- the first of two texts is refused
  pub put_refused : (old new : Watched W) (held left text more : List ℕ) (f : E) (r : Result T E) → is_err r ≡ true
      → IsPut {T = T} contents old held new left text (Err f) → IsPut contents old held new left (text ++ more) r
  put_refused old new held left text more f (Ok u) refused a = absurd (true≢false (sym refused))
  put_refused old new held left text more f (Err g) refused a = record {
    written = tt;
    partly = part_first (contents old.device) (contents new.device) held text more a.partly;
    mark = a.mark;
  }

  -- a text by another name
  pub put_renamed : (old new : Watched W) (held left text other : List ℕ) (r : Result T E) → text ≡ other → IsPut contents old held new left text r
      → IsPut contents old held new left other r
  put_renamed old new held left text other r e h = subst (λ (t : List ℕ). IsPut contents old held new left t r) e h

  -- the texts of the items of a list, one after another
  module _ {X : Type 0} (piece : X → List ℕ) where
    pub item_put : (old mid new : Watched W) (held between left : List ℕ) (xs : List X) (i : ℕ) (x : X) (u v : T) → i < length xs → x ≡ get_or xs i x
        → IsPut {E = E} contents old held mid between (flat_map piece (take i xs)) (Ok u) → IsPut {E = E} contents mid between new left (piece x) (Ok v)
        → IsPut {E = E} contents old held new left (flat_map piece (take (i + 1) xs)) (Ok v)
    item_put old mid new held between left xs i x u v within is a b =
        put_renamed old new held left _ _ (Ok v)
        (sym (flat_map-append piece (take i xs) (x ∷ [])) ∙ ap (flat_map piece) (sym (front_more xs i x within is)))
        (put_both old mid new held between left (flat_map piece (take i xs)) (flat_map piece (x ∷ [])) u (Ok v) a
        (put_renamed mid new between left _ _ (Ok v) (sym (append-nil (piece x))) b))

    pub item_refused : (old mid new : Watched W) (held between left : List ℕ) (xs : List X) (i : ℕ) (x : X) (u : T) (f : E) (r : Result T E) → i < length xs
        → x ≡ get_or xs i x → is_err r ≡ true → IsPut {E = E} contents old held mid between (flat_map piece (take i xs)) (Ok u)
        → IsPut {T = T} contents mid between new left (piece x) (Err f) → IsPut contents old held new left (flat_map piece xs) r
    item_refused old mid new held between left xs i x u f r within is refused a b =
        put_renamed old new held left _ _ r
        (sym (flat_map-append piece (take i xs) (x ∷ drop (suc i) xs)) ∙ ap (flat_map piece) (sym (parted xs i x within is)))
        (put_both old mid new held between left (flat_map piece (take i xs)) (flat_map piece (x ∷ drop (suc i) xs)) u r a
        (put_refused mid new between left (piece x) (flat_map piece (drop (suc i) xs)) f r refused b))

    -- .. where an item is read at its place
    pub place_put : (old mid new : Watched W) (held between left : List ℕ) (xs : List X) (i : ℕ) (d : X) (u v : T) → i < length xs
        → IsPut {E = E} contents old held mid between (flat_map piece (take i xs)) (Ok u)
        → IsPut {E = E} contents mid between new left (piece (get_or xs i d)) (Ok v)
        → IsPut {E = E} contents old held new left (flat_map piece (take (i + 1) xs)) (Ok v)
    place_put old mid new held between left xs i d u v within a b =
        item_put old mid new held between left xs i (get_or xs i d) u v within (get_or_default xs i d (get_or xs i d) within) a b

    pub place_refused : (old mid new : Watched W) (held between left : List ℕ) (xs : List X) (i : ℕ) (d : X) (u : T) (f : E) (r : Result T E) → i < length xs
        → is_err r ≡ true → IsPut {E = E} contents old held mid between (flat_map piece (take i xs)) (Ok u)
        → IsPut {T = T} contents mid between new left (piece (get_or xs i d)) (Err f) → IsPut contents old held new left (flat_map piece xs) r
    place_refused old mid new held between left xs i d u f r within refused a b =
        item_refused old mid new held between left xs i (get_or xs i d) u f r within (get_or_default xs i d (get_or xs i d) within) refused a b

    pub items_put : (old new : Watched W) (held left : List ℕ) (xs : List X) (i : ℕ) (r : Result T E) → length xs ≤ i
        → IsPut contents old held new left (flat_map piece (take i xs)) r → IsPut contents old held new left (flat_map piece xs) r
    items_put old new held left xs i r past a = put_renamed old new held left _ _ r (ap (flat_map piece) (take_all i xs past)) a

  -- the end of a text that was held back is sent
  pub put_sent : (old mid : Watched W) (new : Option (List ℕ)) (held left text : List ℕ) (u : T) → held ≡ [] → IsPut {E = E} contents old held mid left text (Ok u)
      → Appends (contents mid.device) new left → Appends (contents old.device) new text
  put_sent old mid new held left text u none a b = all_sent (contents old.device) (contents mid.device) new held left text none a.written b

  -- .. or a part of it
  pub put_sent_in_part : (old mid : Watched W) (new : Option (List ℕ)) (held left text : List ℕ) (u : T) → held ≡ []
      → IsPut {E = E} contents old held mid left text (Ok u) → WritesPart (contents mid.device) new left → WritesPart (contents old.device) new text
  put_sent_in_part old mid new held left text u none a b = end_in_part (contents old.device) (contents mid.device) new held left text none a.written b

  -- .. or of what came before
  pub put_in_part : (old mid : Watched W) (held left text : List ℕ) (f : E) → held ≡ [] → IsPut {T = T} contents old held mid left text (Err f)
      → WritesPart (contents old.device) (contents mid.device) text
  put_in_part old mid held left text f none a = sent_in_part (contents old.device) (contents mid.device) held text none a.partly

pub ruleset pages = (held_put, page_refused)

pub ruleset ends = (put_sent, put_sent_in_part, put_in_part)
