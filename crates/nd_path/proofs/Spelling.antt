-- A text without a fault is a store path spelled out, and the other way round.
use Rattle.std.proofs.Common.{◌≡◌, ℕ, ◌==◌, true, List, [], ◌∷◌, ◌++◌, length, take, drop, refl, ap, sym, ◌∙◌, append_assoc, None, nat_eq, ◌+◌, subst}
use Rattle.std.proofs.Math.Seq.{drop-append-add}
use Rattle.std.specs.List.{starts_with, list_all}
use Rattle.std.specs.Cmp.{first_so, second_so}
use Rattle.std.proofs.lemmas.Bool.{eqb-true, leb-true}
use Rattle.std.proofs.lemmas.List.{take-append-drop, length-take-le}
use Rattle.nd_path.specs.declared.path_error.PathError.TheVariants.{Prefix, Digest, Name}
use Rattle.nd_path.specs.StorePath.{store_directory, is_digest_byte, is_name, has_digest, is_dash_and_name, IsNameOf, name_of}
use Rattle.nd_path.specs.SamePaths.{paths_same}
use Rattle.nd_path.specs.Lengths.{no_fault}
use Rattle.nd_path.specs.Refusals.{IsPath, IsSpelled, fault_behind_directory, fault_behind_digest}
use Rattle.nd_path.proofs.Parts.{path_of_parts}

dash_and_name : (bytes : List ℕ) → is_dash_and_name bytes ≡ true → (name : List ℕ) × (bytes ≡ 45 ∷ name) × (is_name name ≡ true)
dash_and_name [] h = cc
dash_and_name (b ∷ bytes) h = (bytes, ap (λ n. n ∷ bytes) (eqb-true b 45 (first_so (b == 45) (is_name bytes) h)), second_so (b == 45) (is_name bytes) h)

joined : (bytes digest name : List ℕ) → take 11 bytes ≡ store_directory → take 32 (drop 11 bytes) ≡ digest → drop 32 (drop 11 bytes) ≡ 45 ∷ name
    → bytes ≡ store_directory ++ digest ++ 45 ∷ name
joined bytes digest name front middle back =
    sym (take-append-drop 11 bytes) ∙ ap (λ (t : List ℕ). t ++ drop 11 bytes) front
    ∙ ap (λ (t : List ℕ). store_directory ++ t) (sym (take-append-drop 32 (drop 11 bytes)) ∙ ap (λ (t : List ℕ). t ++ drop 32 (drop 11 bytes)) middle ∙ ap (λ (t : List ℕ). digest ++ t) back)
    ∙ sym (append_assoc store_directory digest (45 ∷ name))

pub spelled : (bytes : List ℕ) → IsPath bytes → IsSpelled bytes
spelled bytes h =
    let base = no_fault (starts_with nat_eq bytes store_directory) (fault_behind_directory (drop 11 bytes)) Prefix h in
    let rest = no_fault (has_digest (drop 11 bytes)) (fault_behind_digest (drop 32 (drop 11 bytes))) Digest base.1 in
    let last = no_fault (is_dash_and_name (drop 32 (drop 11 bytes))) None Name rest.1 in
    let back = dash_and_name (drop 32 (drop 11 bytes)) last.0 in
    let long = leb-true 32 (length (drop 11 bytes)) (first_so _ (list_all is_digest_byte (take 32 (drop 11 bytes))) rest.0) in
    record {
      digest = take 32 (drop 11 bytes);
      name = back.0;
      text = joined bytes (take 32 (drop 11 bytes)) back.0 (sym (paths_same store_directory (take 11 bytes) base.0)) refl back.1;
      size = length-take-le 32 (drop 11 bytes) long;
      digits = second_so _ (list_all is_digest_byte (take 32 (drop 11 bytes))) rest.0;
      named = back.2;
    }

pub from_spelled : (bytes : List ℕ) → IsSpelled bytes → IsPath bytes
from_spelled bytes h = rw h.text (path_of_parts h.digest h.name h.size h.digits h.named)

named_by : (digest name : List ℕ) → length digest ≡ 32 → drop 33 (digest ++ 45 ∷ name) ≡ name
named_by digest name size = subst (λ (n : ℕ). drop (n + 1) (digest ++ 45 ∷ name) ≡ name) size (drop-append-add digest (45 ∷ name) 1)

named_from : (bytes : List ℕ) → IsSpelled bytes → is_name (name_of bytes) ≡ true
named_from bytes s =
    let behind : drop 44 (store_directory ++ s.digest ++ 45 ∷ s.name) ≡ s.name = named_by s.digest s.name s.size in
    rw (s.text, behind) s.named

-- behind 44 bytes of a store path stands its name
pub named : (bytes : List ℕ) → IsPath bytes → is_name (name_of bytes) ≡ true
named bytes h = named_from bytes (spelled bytes h)

name_from : (bytes : List ℕ) → IsSpelled bytes → IsNameOf bytes (name_of bytes)
name_from bytes s =
    let behind : name_of bytes ≡ s.name = ap (drop 44) s.text ∙ named_by s.digest s.name s.size in
    subst (λ (name : List ℕ). IsNameOf bytes name) (sym behind) (record { digest = s.digest; text = s.text; size = s.size })

pub name_behind : (path name : List ℕ) → IsPath path → name ≡ name_of path → IsNameOf path name
name_behind path name h is = subst (λ (n : List ℕ). IsNameOf path n) (sym is) (name_from path (spelled path h))
