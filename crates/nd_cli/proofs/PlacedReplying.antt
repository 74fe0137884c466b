-- The replies about derivations whose needs stand at places of a table are those that were made for the table.
use Rattle.std.proofs.Common.{◌≡◌, ℕ, zero, suc, ◌<◌, List, [], ◌∷◌, length, get_or, Option, sym, subst, arith}
use Rattle.std.specs.List.{All, AllZip, flat_map}
use Rattle.std.specs.Io.KnownBytes.{Appends}
use Rattle.std.proofs.lemmas.Option.{slice_get_within, get_or_from_slice_get}
use Rattle.std.proofs.lemmas.Slice.Zip.{AllZip-long}
use Rattle.nd_devices.specs.Written.{WritesPart}
use Rattle.nd_machines.specs.Builders.{Builder}
use Rattle.nd_eligible.specs.Settings.{Settings}
use Rattle.nd_eligible.specs.declared.need.Need.{Need}
use Rattle.nd_links.specs.Placing.{IsPlaced, Placed}
use Rattle.nd_hook.specs.declared.kinds.Reply.{Reply}
use Rattle.nd_hook.specs.Idle.{IsIdleReply}
use Rattle.nd_hook.specs.ReplyText.{reply_text, IsInList}
use Rattle.nd_cli.proofs.Replying.{all_in_list, all_written, none_written, some_written, AllZip-at}
use Rattle.nd_cli.specs.PlacedReplies.{AreRepliesAt, HaveNeeds, WritesRepliesAt, WritesSomeRepliesAt}
use Rattle.nd_cli.specs.SharedClasses.{IsMade}

one_reply : (machines : List Builder) (local : Settings) (table : List Need) (made : List Reply) (need : Need) (place : ℕ) (reply : Reply) → AllZip (IsIdleReply machines local) table made → IsPlaced table need place → IsMade made place reply → IsIdleReply machines local need reply
one_reply machines local table made need place reply each is it =
    let at = AllZip-at (IsIdleReply machines local) table made place need reply each (slice_get_within table place need is.stands) in
    subst (λ (n : Need). IsIdleReply machines local n reply) (get_or_from_slice_get table place need need is.stands)
    (subst (λ (r : Reply). IsIdleReply machines local (get_or table place need) r) (get_or_from_slice_get made place reply reply it.is) at)

all_replies : (machines : List Builder) (local : Settings) (table : List Need) (made : List Reply) (said : List Need) (places : List ℕ) (replies : List Reply) → AllZip (IsIdleReply machines local) table made → AllZip (IsPlaced table) said places → AllZip (IsMade made) places replies
    → AllZip (IsIdleReply machines local) said replies
all_replies machines local table made [] [] [] each of are = tt
all_replies machines local table made [] [] (reply ∷ replies) each of are = absurd are
all_replies machines local table made [] (place ∷ places) replies each of are = absurd of
all_replies machines local table made (need ∷ said) [] replies each of are = absurd of
all_replies machines local table made (need ∷ said) (place ∷ places) [] each of are = absurd are
all_replies machines local table made (need ∷ said) (place ∷ places) (reply ∷ replies) each of are =
    (one_reply machines local table made need place reply each of.0 are.0, all_replies machines local table made said places replies each of.1 are.1)

pub are_replies_at : (machines : List Builder) (local : Settings) (needs : Placed) (made replies : List Reply) → AllZip (IsIdleReply machines local) needs.table made → AllZip (IsMade made) needs.places replies → AreRepliesAt machines local needs replies
are_replies_at machines local needs made replies each are = record { each = λ said placed. all_replies machines local needs.table made said needs.places replies each placed.each are }

-- a reply was made for each place
within : (table : List Need) (count : ℕ) (said : List Need) (places : List ℕ) → length table ≡ count → AllZip (IsPlaced table) said places → (k d : ℕ) → k < length places → get_or places k d < count
within table count said [] is of k d lt = absurd (omega (arith, lt))
within table count [] (place ∷ places) is of k d lt = absurd of
within table count (need ∷ said) (place ∷ places) is of zero d lt = let there = slice_get_within table place need of.0.stands in omega (arith, is, there)
within table count (need ∷ said) (place ∷ places) is of (suc k) d lt = within table count said places is of.1 k d (omega (arith, lt))

pub places_within : (machines : List Builder) (local : Settings) (needs : Placed) (made : List Reply) → HaveNeeds needs → AllZip (IsIdleReply machines local) needs.table made → All (λ place. place < length made) needs.places
places_within machines local needs made have each =
    let long = AllZip-long (IsIdleReply machines local) needs.table made each in λ k d lt. within needs.table (length made) have.said needs.places (sym long) have.placed.each k d lt

-- each accepted place is in the list
pub in_list_at : (machines : List Builder) (local : Settings) (needs : Placed) (replies : List Reply) → HaveNeeds needs → AreRepliesAt machines local needs replies → All (IsInList machines) replies
in_list_at machines local needs replies have are = all_in_list machines local have.said replies (are.each have.said have.placed)

-- ---- what was written

pub none_written_at : (machines : List Builder) (local : Settings) (needs : Placed) (old : Option (List ℕ)) → WritesSomeRepliesAt machines local needs old old
none_written_at machines local needs old = record { writes = λ said placed. none_written machines local said old }

pub all_written_at : (machines : List Builder) (local : Settings) (needs : Placed) (replies : List Reply) (old new : Option (List ℕ)) → AreRepliesAt machines local needs replies → Appends old new (flat_map (reply_text machines) replies) → WritesRepliesAt machines local needs old new
all_written_at machines local needs replies old new are written = record { writes = λ said placed. all_written machines local said replies old new (are.each said placed) written }

pub some_written_at : (machines : List Builder) (local : Settings) (needs : Placed) (replies : List Reply) (old new : Option (List ℕ)) → AreRepliesAt machines local needs replies → WritesPart old new (flat_map (reply_text machines) replies) → WritesSomeRepliesAt machines local needs old new
some_written_at machines local needs replies old new are part = record { writes = λ said placed. some_written machines local said replies old new (are.each said placed) part }
