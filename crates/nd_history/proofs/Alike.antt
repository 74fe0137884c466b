-- Records with the same fields are the same, graphs with the same nodes, and entries that begin with others.
use Rattle.std.proofs.Common.{◌≡◌, ℕ, ◌<◌, ◌≤◌, Bool, List, [], ◌++◌, length, take, drop, get_or, refl, sym, ap, ◌∙◌, subst, arith, ◌+◌}
use Rattle.std.proofs.lemmas.List.{same_lists, get_or_default, take_more_same, take-append-drop, length-append}
use Rattle.std.proofs.Math.Seq.{take-append_seam, take-length}
use Rattle.std.specs.Bool.{Decides}
use Rattle.std.proofs.lemmas.Slice.Eq.{slice_eq-Decides}
use Rattle.std.proofs.lemmas.Bool.Decides.{Decides-eqb}
use Rattle.nd_bytes.specs.Compared.{bytes_eq}
use Rattle.nd_machines.specs.FeatureSets.{sets_eq, sets_eq-Decides}
use Rattle.nd_machines.specs.Builders.{Builder, builder_eq, builder_eq-Decides}
use Rattle.nd_eligible.specs.declared.need.Need.{Need}
use Rattle.nd_eligible.specs.Settings.{Settings}
use Rattle.nd_graph.specs.declared.graph.Input.{Input}
use Rattle.nd_graph.specs.Graphs.{Nodes, IsSound}
use Rattle.nd_history.specs.declared.entry.Entry.{Entry}
use Rattle.nd_history.specs.Sameness.{IsSameNode, BeginsWith}

-- ---- lists, place by place

-- lists that agree so far, and at the next place, agree up to it
pub same_on : {X : Type 0} → (xs ys : List X) (i : ℕ) (x y : X) → i < length xs → i < length ys → take i xs ≡ take i ys → x ≡ get_or xs i x → y ≡ get_or ys i y → x ≡ y → take (i + 1) xs ≡ take (i + 1) ys
same_on xs ys i x y lt also so_far here there is =
    take_more_same xs ys i x lt also so_far (sym here ∙ is ∙ there ∙ get_or_default ys i y x also)

-- lists that differ at a place differ
pub apart_at : {X : Type 0} → (xs ys : List X) (i : ℕ) (x y : X) → i < length xs → x ≡ get_or xs i x → y ≡ get_or ys i y → (x ≡ y → ⊥) → xs ≡ ys → ⊥
apart_at {X = X} xs ys i x y lt here there other same =
    let P : List X → Type 0 = λ zs. x ≡ get_or zs i x in
    let also : i < length ys = (let long = ap length same in omega arith) in
    other (subst P same here ∙ get_or_default ys i x y also ∙ sym there)

-- lists that agree all the way are the same
pub same_whole : {X : Type 0} → (xs ys : List X) (n : ℕ) → n ≡ length xs → n ≡ length ys → take n xs ≡ take n ys → xs ≡ ys
same_whole xs ys n here there is = sym (ap (λ k. take k xs) here ∙ take-length xs) ∙ is ∙ ap (λ k. take k ys) there ∙ take-length ys

-- ---- tests that decide

pub texts_decide : (xs ys : List ℕ) (r : Bool) → r ≡ bytes_eq xs ys → Decides r (xs ≡ ys)
texts_decide xs ys r is = slice_eq-Decides Decides-eqb xs ys r is

pub features_decide : (xs ys : List (List ℕ)) (r : Bool) → r ≡ sets_eq xs ys → Decides r (xs ≡ ys)
features_decide xs ys r is = let P : Bool → Type 0 = λ x. Decides x (xs ≡ ys) in subst P (sym is) (sets_eq-Decides xs ys)

pub machines_decide : (a b : Builder) (r : Bool) → r ≡ builder_eq a b → Decides r (a ≡ b)
machines_decide a b r is = let P : Bool → Type 0 = λ x. Decides x (a ≡ b) in subst P (sym is) (builder_eq-Decides a b)

-- ---- records with the same fields

pub same_need : (a b : Need) → a.prefer_local ≡ b.prefer_local → a.builtin ≡ b.builtin → a.system ≡ b.system → a.features ≡ b.features → a ≡ b
same_need a b p q r s = λ i. record { system = r i; features = s i; prefer_local = p i; builtin = q i }

pub same_input : (a b : Input) → a.node ≡ b.node → a.outputs ≡ b.outputs → a ≡ b
same_input a b p q = λ i. record { node = p i; outputs = q i }

pub same_settings : (a b : Settings) → a.jobs ≡ b.jobs → a.system ≡ b.system → a.extra ≡ b.extra → a.features ≡ b.features → a ≡ b
same_settings a b p q r s = λ i. record { system = q i; extra = r i; features = s i; jobs = p i }

same_parts : (a b : Nodes) → a.paths ≡ b.paths → a.needs ≡ b.needs → a.inputs ≡ b.inputs → a.sources ≡ b.sources → a.outputs ≡ b.outputs → a ≡ b
same_parts a b p q r s t = λ i. record { paths = p i; needs = q i; inputs = r i; sources = s i; outputs = t i }

-- ---- graphs

-- lists of one length that agree at each place, past which they hold nothing
alike : {X : Type 0} → (n : ℕ) (xs ys : List X) (e : X) → length xs ≡ n → length ys ≡ n → ((k : ℕ) → k < n → get_or xs k e ≡ get_or ys k e) → xs ≡ ys
alike n xs ys e here there each =
    same_lists xs ys (here ∙ sym there)
    (λ k d lt. get_or_default xs k d e lt ∙ each k (omega arith) ∙ get_or_default ys k e d (omega arith))

-- graphs with the same nodes and needs are one
pub same_graph : (a b : Nodes) (n : ℕ) → IsSound a → IsSound b → length a.paths ≡ n → length b.paths ≡ n → ((k : ℕ) → k < n → IsSameNode a b k) → a.needs ≡ b.needs → a ≡ b
same_graph a b n sound other here there nodes needs =
    same_parts a b
    (alike n a.paths b.paths [] here there (λ k lt. (nodes k lt).path))
    needs
    (alike n a.inputs b.inputs [] (sound.inputs_sized ∙ here) (other.inputs_sized ∙ there) (λ k lt. (nodes k lt).inputs))
    (alike n a.sources b.sources [] (sound.sources_sized ∙ here) (other.sources_sized ∙ there) (λ k lt. (nodes k lt).sources))
    (alike n a.outputs b.outputs [] (sound.outputs_sized ∙ here) (other.outputs_sized ∙ there) (λ k lt. (nodes k lt).outputs))

-- one graph has the same nodes as itself
pub node_itself : (a b : Nodes) (k : ℕ) → a ≡ b → IsSameNode a b k
node_itself a b k is = subst (λ (x : Nodes). IsSameNode a x k) is (record { path = refl; inputs = refl; sources = refl; outputs = refl })

-- ---- entries that begin with others

pub begins_from : (entries first : List Entry) → take (length first) entries ≡ first → BeginsWith entries first
begins_from entries first is = record {
  later = drop (length first) entries;
  whole = sym (take-append-drop (length first) entries) ∙ ap (λ es. es ++ drop (length first) entries) is;
}

pub begin_of : (entries first : List Entry) → BeginsWith entries first → take (length first) entries ≡ first
begin_of entries first begins = ap (λ es. take (length first) es) begins.whole ∙ take-append_seam first begins.later

pub begin_shorter : (entries first : List Entry) → BeginsWith entries first → length first ≤ length entries
begin_shorter entries first begins = let long = ap length begins.whole ∙ length-append first begins.later in omega arith
