-- A name and a text have one derivation path, or a refusal.
use Rattle.std.proofs.Common.{◌≡◌, ℕ, List, true, true≢false, refl, sym, ◌∙◌, subst}
use Rattle.nd_aterm.specs.declared.records.Parts.{Parts}
use Rattle.nd_line.specs.Derived.{IsOwnPath, IsPathOfText}
use Rattle.nd_bundle.specs.DrvPaths.{is_drv_name, IsDrvPath, HasNoDrvPath}
use Rattle.nd_line.specs.Kinds.{references}
use Rattle.nd_links.specs.declared.fault.GraphError.{GraphError}
use Rattle.nd_links.specs.declared.fault.GraphError.TheVariants.{BadPath, BadDerivation, Memory}
use Rattle.nd_line.proofs.Once.{one_path, same_parts}

-- the path of a text whose name is a derivation's
pub is_drv_path : (name text path : List ℕ) → is_drv_name name ≡ true → IsPathOfText name text path → IsDrvPath name text path
is_drv_path name text path named is = record { parts = is.parts; named = named; derives = is.derives; own = is.own }

pub one_drv_path : (name text p q : List ℕ) → IsPathOfText name text p → IsDrvPath name text q → p ≡ q
one_drv_path name text p q is_p is_q =
    let parts : is_p.parts ≡ is_q.parts = same_parts text is_p.parts is_q.parts is_p.derives is_q.derives in
    one_path name text (references is_q.parts) p q (subst (λ (ps : Parts). IsOwnPath name text (references ps) p) parts is_p.own) is_q.own

pub path_or_memory : (name text path : List ℕ) (fault : GraphError) → IsDrvPath name text path → HasNoDrvPath name text fault → fault ≡ Memory
path_or_memory name text path (BadPath line) is bad = absurd (true≢false (sym is.named ∙ bad.1))
path_or_memory name text path (BadDerivation line) is bad = absurd (bad.2 is.parts is.derives)
path_or_memory name text path Memory is bad = refl
path_or_memory name text path fault is bad = absurd bad
