-- Replies that are written one after another.
use Rattle.std.proofs.Common.{◌≡◌, ◌<◌, ◌↔◌, ℕ, ◌+◌, zero, suc, Bool, IsTrue, List, [], ◌∷◌, ◌++◌, length, get_or, take, Option, None, Some, Result, Ok, Err, refl, sym, subst, append-nil, arith}
use Rattle.std.specs.Prelude.{OnErr}
use Rattle.std.specs.List.{All, AllZip, Contains, flat_map}
use Rattle.std.specs.Io.KnownBytes.{Appends}
use Rattle.std.proofs.lemmas.List.{take_all, take_more}
use Rattle.nd_machines.specs.Builders.{Builder}
use Rattle.nd_eligible.specs.Settings.{Settings}
use Rattle.nd_eligible.specs.declared.need.Need.{Need}
use Rattle.nd_hook.specs.declared.kinds.Reply.{Reply}
use Rattle.nd_eligible.specs.Eligibility.{IsEligibleAt, AreEligible}
use Rattle.nd_hook.specs.Replies.{IsReply}
use Rattle.nd_hook.specs.ReplyText.{IsInList, reply_text}
use Rattle.nd_devices.specs.Written.{WritesPart}
use Rattle.nd_cli.proofs.Accepted.{idle_in_list, same_reply}
use Rattle.nd_hook.specs.Idle.{idle, all_up, IsFreeHere, IsIdleReply}
use Rattle.nd_cli.specs.Asks.{AreReplies, WritesReplies, WritesSomeReplies}

pub AllZip-snoc : {A B : Type 0} (R : A → B → Type 0) (xs : List A) (ys : List B) (x : A) (y : B) → AllZip R xs ys → R x y → AllZip R (xs ++ x ∷ []) (ys ++ y ∷ [])
AllZip-snoc R [] [] x y each here = (here, tt)
AllZip-snoc R [] (z ∷ ys) x y each here = absurd each
AllZip-snoc R (z ∷ xs) [] x y each here = absurd each
AllZip-snoc R (a ∷ xs) (b ∷ ys) x y each here = (each.0, AllZip-snoc R xs ys x y each.1 here)

-- one more of a list
pub zip_more : {A B : Type 0} (R : A → B → Type 0) (xs : List A) (ys new : List B) (n : ℕ) (x : A) (y : B) → n < length xs → x ≡ get_or xs n x → AllZip R (take n xs) ys → R x y → new ≡ ys ++ y ∷ [] → AllZip R (take (n + 1) xs) new
zip_more {A} {B} R xs ys new n x y within is each here grown =
    subst (λ (zs : List B). AllZip R (take (n + 1) xs) zs) (sym grown)
    (subst (λ (some : List A). AllZip R some (ys ++ y ∷ [])) (sym (take_more xs n x within))
    (AllZip-snoc R (take n xs) ys (get_or xs n x) y each (subst (λ (a : A). R a y) is here)))

-- nothing is written
Appends-none : (old : Option (List ℕ)) → Appends old old []
Appends-none None = tt
Appends-none (Some bytes) = sym (append-nil bytes)

pub AreReplies-none : (machines : List Builder) (local : Settings) → AreReplies machines local [] []
AreReplies-none machines local = record { replies = []; each = tt; is = refl }

-- nothing was written at all
pub none_written : (machines : List Builder) (local : Settings) (needs : List Need) (old : Option (List ℕ)) → WritesSomeReplies machines local needs old old
none_written machines local needs old = record {
  count = 0;
  text = [];
  are = AreReplies-none machines local;
  part = record { part = []; rest = []; whole = refl; written = Appends-none old };
}

-- the reply on a park where no slot is taken and every machine is up, over the places of the eligible machines
pub idle_reply : (machines : List Builder) (places loads : List ℕ) (ups : List Bool) (local : Settings) (need : Need) (free_here : Bool) (reply : Reply) → loads ≡ idle machines → ups ≡ all_up machines → AreEligible machines need places → (IsTrue free_here ↔ IsFreeHere local need) → IsReply machines loads ups (Contains places) free_here reply → IsIdleReply machines local need reply
idle_reply machines places loads ups local need free_here reply no_load up eligible is_free is = record {
  free_here = free_here;
  is_free = is_free;
  is = same_reply machines (idle machines) (all_up machines) (Contains places) (IsEligibleAt machines need) free_here reply eligible.exact
      (subst (λ (some : List ℕ). IsReply machines some (all_up machines) (Contains places) free_here reply) no_load
      (subst (λ (some : List Bool). IsReply machines loads some (Contains places) free_here reply) up is));
}

-- two lists that agree place by place, at one place
pub AllZip-at : {A B : Type 0} (R : A → B → Type 0) (xs : List A) (ys : List B) (i : ℕ) (d : A) (e : B) → AllZip R xs ys → i < length xs → R (get_or xs i d) (get_or ys i e)
AllZip-at R [] ys i d e each within = absurd (omega arith)
AllZip-at R (x ∷ xs) [] i d e each within = absurd each
AllZip-at R (x ∷ xs) (y ∷ ys) zero d e each within = each.0
AllZip-at R (x ∷ xs) (y ∷ ys) (suc i) d e each within = AllZip-at R xs ys i d e each.1 (omega arith)

-- ---- all replies at once

in_list_at : (machines : List Builder) (local : Settings) (needs : List Need) (replies : List Reply) (k : ℕ) (d : Reply) → AllZip (IsIdleReply machines local) needs replies → k < length replies → IsInList machines (get_or replies k d)
in_list_at machines local needs [] k d each within = absurd (omega arith)
in_list_at machines local [] (y ∷ ys) k d each within = absurd each
in_list_at machines local (x ∷ xs) (y ∷ ys) zero d each within = idle_in_list machines local x y each.0
in_list_at machines local (x ∷ xs) (y ∷ ys) (suc k) d each within = in_list_at machines local xs ys k d each.1 (omega arith)

-- each accepted place is in the list
pub all_in_list : (machines : List Builder) (local : Settings) (needs : List Need) (replies : List Reply) → AllZip (IsIdleReply machines local) needs replies → All (IsInList machines) replies
all_in_list machines local needs replies each = λ k d within. in_list_at machines local needs replies k d each within

-- all were written
pub all_written : (machines : List Builder) (local : Settings) (needs : List Need) (replies : List Reply) (old new : Option (List ℕ)) → AllZip (IsIdleReply machines local) needs replies → Appends old new (flat_map (reply_text machines) replies) → WritesReplies machines local needs old new
all_written machines local needs replies old new each written = record {
  text = flat_map (reply_text machines) replies;
  are = record { replies = replies; each = each; is = refl };
  written = written;
}

-- .. or a part of them
pub some_written : (machines : List Builder) (local : Settings) (needs : List Need) (replies : List Reply) (old new : Option (List ℕ)) → AllZip (IsIdleReply machines local) needs replies → WritesPart old new (flat_map (reply_text machines) replies) → WritesSomeReplies machines local needs old new
some_written machines local needs replies old new each part = record {
  count = length needs;
  text = flat_map (reply_text machines) replies;
  are = subst (λ (some : List Need). AreReplies machines local some (flat_map (reply_text machines) replies)) (sym (take_all (length needs) needs (omega arith)))
      (record { replies = replies; each = each; is = refl });
  part = part;
}

-- what holds anyway holds behind a refusal
pub on_err : {T E : Type 0} (r : Result T E) (P : Type 0) → P → OnErr r P
on_err (Ok u) P p = tt
on_err (Err e) P p = p
