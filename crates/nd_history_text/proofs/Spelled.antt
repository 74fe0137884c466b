-- Lines that go to a page word by word.
use Rattle.std.proofs.Common.{◌≡◌, ◌∙◌, ℕ, true, List, [], ◌∷◌, ◌++◌, map, Option, Result, Ok, Err, OnErr, refl, sym, ap}
use Rattle.std.specs.Prelude.{is_err}
use Rattle.std.specs.Fmt.{decimal}
use Rattle.std.specs.List.{flat_map, join_with_byte}
use Rattle.std.proofs.lemmas.List.{append-nil}
use Rattle.std.proofs.lemmas.Grind.{flat_map-append}
use Rattle.nd_history.specs.declared.entry.Entry.{Entry}
use Rattle.nd_history.specs.declared.entry.Entry.TheVariants.{Chosen, NoBuilder, Started, Down, Built, Failed, Stop, Drain, Enable}
use Rattle.nd_devices.specs.Watched.{Watched}
use Rattle.nd_history_text.specs.HistoryTexts.{words_of, line_of}
use Rattle.nd_history_text.specs.Lines.{word_of, kind_of, others_of, spaced}
use Rattle.nd_devices.specs.Sending.{IsPut}
use Rattle.nd_history_text.specs.Rows.{row, share}
use Rattle.nd_devices.proofs.Sent.{no_text, put_both, put_refused, put_renamed}

-- a refused call says what holds anyhow
pub on_err : {T E : Type 0} (r : Result T E) (P : Type 0) → P → OnErr r P
on_err (Ok x) P h = tt
on_err (Err e) P h = h

-- ---- words with a space before each

pub spaced-append : (ws vs : List (List ℕ)) → spaced (ws ++ vs) ≡ spaced ws ++ spaced vs
unfolding spaced
spaced-append ws vs = flat_map-append (λ (w : List ℕ). 32 ∷ w) ws vs

pub spaced-one : (w : List ℕ) → 32 ∷ w ≡ spaced (w ∷ [])
unfolding spaced
spaced-one w = sym (append-nil (32 ∷ w))

spaced-none : [] ≡ spaced []
unfolding spaced
spaced-none = refl

module _ {W T E : Type 0} (contents : W → Option (List ℕ)) where
  -- one word
  pub word_put : (old mid new : Watched W) (held between left word : List ℕ) (u : T) (r : Result T E) → IsPut {E = E} contents old held mid between (32 ∷ []) (Ok u)
      → IsPut contents mid between new left word r → IsPut contents old held new left (spaced (word ∷ [])) r
  word_put old mid new held between left word u r a b =
      put_renamed contents old new held left _ _ r (spaced-one word) (put_both contents old mid new held between left (32 ∷ []) word u r a b)

  pub word_refused : (old new : Watched W) (held left word : List ℕ) (f : E) (r : Result T E) → is_err r ≡ true
      → IsPut {T = T} contents old held new left (32 ∷ []) (Err f) → IsPut contents old held new left (spaced (word ∷ [])) r
  word_refused old new held left word f r refused a =
      put_renamed contents old new held left _ _ r (spaced-one word) (put_refused contents old new held left (32 ∷ []) word f r refused a)

  -- one word and then others
  pub words_put : (old mid new : Watched W) (held between left word : List ℕ) (words : List (List ℕ)) (u : T) (r : Result T E)
      → IsPut {E = E} contents old held mid between (spaced (word ∷ [])) (Ok u) → IsPut contents mid between new left (spaced words) r
      → IsPut contents old held new left (spaced (word ∷ words)) r
  words_put old mid new held between left word words u r a b =
      put_renamed contents old new held left _ _ r (sym (spaced-append (word ∷ []) words))
      (put_both contents old mid new held between left (spaced (word ∷ [])) (spaced words) u r a b)

  pub words_refused : (old new : Watched W) (held left word : List ℕ) (words : List (List ℕ)) (f : E) (r : Result T E) → is_err r ≡ true
      → IsPut {T = T} contents old held new left (spaced (word ∷ [])) (Err f) → IsPut contents old held new left (spaced (word ∷ words)) r
  words_refused old new held left word words f r refused a =
      put_renamed contents old new held left _ _ r (sym (spaced-append (word ∷ []) words))
      (put_refused contents old new held left (spaced (word ∷ [])) (spaced words) f r refused a)

  -- no word
  pub no_words : (o : Watched W) (held left : List ℕ) (u : T) → left ≡ held → IsPut {E = E} contents o held o left (spaced []) (Ok u)
  no_words o held left u e = put_renamed contents o o held left _ _ (Ok u) spaced-none (no_text contents o held left u e)

-- lists of words, one after another
pub lists_spaced : {X : Type 0} (words_in : X → List (List ℕ)) (xs : List X) → flat_map (λ x. spaced (words_in x)) xs ≡ spaced (flat_map words_in xs)
lists_spaced words_in [] = spaced-none
lists_spaced words_in (x ∷ xs) = ap (λ (t : List ℕ). spaced (words_in x) ++ t) (lists_spaced words_in xs) ∙ sym (spaced-append (words_in x) (flat_map words_in xs))

-- words, one after another
pub words_spaced : {X : Type 0} (word_of_item : X → List ℕ) (xs : List X) → flat_map (λ x. spaced (word_of_item x ∷ [])) xs ≡ spaced (map word_of_item xs)
words_spaced word_of_item [] = spaced-none
words_spaced word_of_item (x ∷ xs) =
    ap (λ (t : List ℕ). spaced (word_of_item x ∷ []) ++ t) (words_spaced word_of_item xs) ∙ sym (spaced-append (word_of_item x ∷ []) (map word_of_item xs))

pub paths_spaced : (paths : List (List ℕ)) → flat_map (λ path. spaced (path ∷ [])) paths ≡ spaced paths
paths_spaced [] = spaced-none
paths_spaced (path ∷ paths) =
    ap (λ (t : List ℕ). spaced (path ∷ []) ++ t) (paths_spaced paths) ∙ sym (spaced-append (path ∷ []) paths)

-- ---- two numbers with a slash between

shared : (taken all : ℕ) → decimal taken ++ (47 ∷ decimal all) ≡ share taken all
unfolding share
shared taken all = refl

module _ {W T E : Type 0} (contents : W → Option (List ℕ)) (taken all : ℕ) where
  pub share_put : (old mid later new : Watched W) (held between last left : List ℕ) (u v : T) (r : Result T E)
      → IsPut {E = E} contents old held mid between (decimal taken) (Ok u) → IsPut {E = E} contents mid between later last (47 ∷ []) (Ok v)
      → IsPut contents later last new left (decimal all) r → IsPut contents old held new left (share taken all) r
  share_put old mid later new held between last left u v r a b c =
      put_renamed contents old new held left _ _ r (shared taken all)
      (put_both contents old mid new held between left (decimal taken) (47 ∷ decimal all) u r a
      (put_both contents mid later new between last left (47 ∷ []) (decimal all) v r b c))

  pub slash_refused : (old mid new : Watched W) (held between left : List ℕ) (u : T) (f : E) (r : Result T E) → is_err r ≡ true
      → IsPut {E = E} contents old held mid between (decimal taken) (Ok u) → IsPut {T = T} contents mid between new left (47 ∷ []) (Err f)
      → IsPut contents old held new left (share taken all) r
  slash_refused old mid new held between left u f r refused a b =
      put_renamed contents old new held left _ _ r (shared taken all)
      (put_both contents old mid new held between left (decimal taken) (47 ∷ decimal all) u r a
      (put_refused contents mid new between left (47 ∷ []) (decimal all) f r refused b))

  pub taken_refused : (old new : Watched W) (held left : List ℕ) (f : E) (r : Result T E) → is_err r ≡ true
      → IsPut {T = T} contents old held new left (decimal taken) (Err f) → IsPut contents old held new left (share taken all) r
  taken_refused old new held left f r refused a =
      put_renamed contents old new held left _ _ r (shared taken all)
      (put_refused contents old new held left (decimal taken) (47 ∷ decimal all) f r refused a)

-- ---- lines

joined : (word : List ℕ) (words : List (List ℕ)) → join_with_byte 32 (word ∷ words) ≡ word ++ spaced words
unfolding spaced
joined word [] = sym (append-nil word)
joined word (next ∷ words) = ap (λ (t : List ℕ). word ++ (32 ∷ t)) (joined next words)

pub words_in_parts : (e : Entry) → words_of e ≡ word_of (kind_of e) ∷ others_of e
unfolding word_of
words_in_parts (Chosen d m s) = refl
words_in_parts (NoBuilder d) = refl
words_in_parts (Started d paths) = refl
words_in_parts (Down d) = refl
words_in_parts (Built d refs) = refl
words_in_parts (Failed d why) = refl
words_in_parts Stop = refl
words_in_parts (Drain m) = refl
words_in_parts (Enable m) = refl

pub line_in_parts : (e : Entry) → line_of e ≡ (word_of (kind_of e) ++ spaced (others_of e)) ++ 10 ∷ []
unfolding line_of
line_in_parts e = ap (λ (ws : List (List ℕ)). join_with_byte 32 ws ++ 10 ∷ []) (words_in_parts e) ∙ ap (λ (t : List ℕ). t ++ 10 ∷ []) (joined (word_of (kind_of e)) (others_of e))

module _ {W T E : Type 0} (contents : W → Option (List ℕ)) where
  pub line_put : (old mid new : Watched W) (held between left : List ℕ) (e : Entry) (u : T) (r : Result T E)
      → IsPut {E = E} contents old held mid between (word_of (kind_of e) ++ spaced (others_of e)) (Ok u) → IsPut contents mid between new left (10 ∷ []) r
      → IsPut contents old held new left (line_of e) r
  line_put old mid new held between left e u r a b =
      put_renamed contents old new held left _ _ r (sym (line_in_parts e))
      (put_both contents old mid new held between left (word_of (kind_of e) ++ spaced (others_of e)) (10 ∷ []) u r a b)

  pub line_refused : (old new : Watched W) (held left : List ℕ) (e : Entry) (f : E) (r : Result T E) → is_err r ≡ true
      → IsPut {T = T} contents old held new left (word_of (kind_of e) ++ spaced (others_of e)) (Err f) → IsPut contents old held new left (line_of e) r
  line_refused old new held left e f r refused a =
      put_renamed contents old new held left _ _ r (sym (line_in_parts e))
      (put_refused contents old new held left (word_of (kind_of e) ++ spaced (others_of e)) (10 ∷ []) f r refused a)

-- ---- rows

rowed : (first : List ℕ) (others : List (List ℕ)) → (first ++ spaced others) ++ 10 ∷ [] ≡ row first others
unfolding row
rowed first others = refl

module _ {W T E : Type 0} (contents : W → Option (List ℕ)) where
  pub row_put : (old mid new : Watched W) (held between left first : List ℕ) (others : List (List ℕ)) (u : T) (r : Result T E)
      → IsPut {E = E} contents old held mid between (first ++ spaced others) (Ok u) → IsPut contents mid between new left (10 ∷ []) r
      → IsPut contents old held new left (row first others) r
  row_put old mid new held between left first others u r a b =
      put_renamed contents old new held left _ _ r (rowed first others) (put_both contents old mid new held between left (first ++ spaced others) (10 ∷ []) u r a b)

  pub row_refused : (old new : Watched W) (held left first : List ℕ) (others : List (List ℕ)) (f : E) (r : Result T E) → is_err r ≡ true
      → IsPut {T = T} contents old held new left (first ++ spaced others) (Err f) → IsPut contents old held new left (row first others) r
  row_refused old new held left first others f r refused a =
      put_renamed contents old new held left _ _ r (rowed first others) (put_refused contents old new held left (first ++ spaced others) (10 ∷ []) f r refused a)
