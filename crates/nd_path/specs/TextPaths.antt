-- The store path of a text.
-- Source: the Nix Reference Manual, "Store Path Specification" (paths of kind `text`); SHA-256 is FIPS 180-4.
-- Public clauses cite this.
use Rattle.std.specs.Prelude.{◌≡◌, ℕ, true, false, List, [], ◌∷◌, ◌++◌, codes}
use Rattle.sha2.specs.Sha256.{sha256}
use Rattle.hex.specs.Hex.{encode_lower}
use Rattle.nd_path.specs.declared.path_error.PathError.{PathError}
use Rattle.nd_path.specs.declared.path_error.PathError.TheVariants.{Prefix, Digest, Name, Memory}
use Rattle.nd_path.specs.StorePath.{store_directory, is_name}
use Rattle.nd_path.specs.Encoding.{base32_of, fold_of}

-- each reference behind a colon, in the order given
abbrev pub references : List (List ℕ) → List ℕ
references [] = []
references (path ∷ paths) = 58 ∷ path ++ references paths

-- what is hashed: the kind with its references, the digest of the contents, the store directory and the name
abbrev pub hashed_text : List ℕ → List (List ℕ) → List ℕ → List ℕ
hashed_text name refs contents =
    codes "text" ++ references refs ++ codes ":sha256:" ++ encode_lower (sha256 contents) ++ codes ":/nix/store:" ++ name

-- the path of a text with this name, these references and these contents
abbrev pub text_path_of : List ℕ → List (List ℕ) → List ℕ → List ℕ
text_path_of name refs contents =
    store_directory ++ base32_of (fold_of (sha256 (hashed_text name refs contents))) ++ 45 ∷ name

-- a text path is refused for its name, and under a store path's name for want of memory alone
abbrev pub RefusesName : List ℕ → PathError → Type 0
RefusesName name Prefix = ⊥
RefusesName name Digest = ⊥
RefusesName name Name = is_name name ≡ false
RefusesName name Memory = is_name name ≡ true
