-- That derivations are read in one way: a text that begins with the text of one begins with no other's.
-- No public clause cites this: it serves private clauses and proofs alone.
use Rattle.std.specs.Prelude.{◌≡◌, ℕ, List, [], refl}
use Rattle.std.proofs.Common.{sym, ◌∙◌}
use Rattle.nd_aterm.specs.declared.records.Parts.{Parts}
use Rattle.nd_aterm.specs.Spelling.{right_bracket, left_parenthesis, string, list}
use Rattle.nd_aterm.specs.SpellingOnce.{IsOnce, Opens, GoesOn, tail_is, differ, string_once, string_opens, string_goes, list_once, list_goes}
use Rattle.nd_aterm.specs.Derivations.{output, input_drv, env_entry, derivation, Loose}

pub strings_once : IsOnce (list string)
strings_once = list_once string string_once string_opens

pub strings_go : GoesOn (list string)
strings_go = list_goes string string_goes

pub output_once : IsOnce output
unfolding output
output_once o p r s e =
    let name = string_once _ _ _ _ (tail_is e) in
    let path = string_once _ _ _ _ (tail_is name.1) in
    let hash_algo = string_once _ _ _ _ (tail_is path.1) in
    let hash = string_once _ _ _ _ (tail_is hash_algo.1) in
    (λ k. record { name = name.0 k; path = path.0 k; hash_algo = hash_algo.0 k; hash = hash.0 k }, tail_is hash.1)

pub output_opens : Opens output
unfolding output
output_opens o r s e = differ left_parenthesis right_bracket _ _ refl e

pub output_goes : GoesOn output
unfolding output
output_goes o r s = simp string_goes

pub input_drv_once : IsOnce input_drv
unfolding input_drv
input_drv_once d f r s e =
    let path = string_once _ _ _ _ (tail_is e) in
    let outputs = strings_once _ _ _ _ (tail_is path.1) in
    (λ k. record { path = path.0 k; outputs = outputs.0 k }, tail_is outputs.1)

pub input_drv_opens : Opens input_drv
unfolding input_drv
input_drv_opens d r s e = differ left_parenthesis right_bracket _ _ refl e

pub input_drv_goes : GoesOn input_drv
unfolding input_drv
input_drv_goes d r s = simp (string_goes, strings_go)

pub env_entry_once : IsOnce env_entry
unfolding env_entry
env_entry_once v w r s e =
    let key = string_once _ _ _ _ (tail_is e) in
    let value = string_once _ _ _ _ (tail_is key.1) in
    (λ k. record { key = key.0 k; value = value.0 k }, tail_is value.1)

pub env_entry_opens : Opens env_entry
unfolding env_entry
env_entry_opens v r s e = differ left_parenthesis right_bracket _ _ refl e

pub env_entry_goes : GoesOn env_entry
unfolding env_entry
env_entry_goes v r s = simp string_goes

pub outputs_once : IsOnce (list output)
outputs_once = list_once output output_once output_opens

pub outputs_go : GoesOn (list output)
outputs_go = list_goes output output_goes

pub input_drvs_once : IsOnce (list input_drv)
input_drvs_once = list_once input_drv input_drv_once input_drv_opens

pub input_drvs_go : GoesOn (list input_drv)
input_drvs_go = list_goes input_drv input_drv_goes

pub env_once : IsOnce (list env_entry)
env_once = list_once env_entry env_entry_once env_entry_opens

pub env_goes : GoesOn (list env_entry)
env_goes = list_goes env_entry env_entry_goes

pub derivation_once : IsOnce derivation
unfolding derivation
derivation_once p q r s e =
    let outputs = outputs_once _ _ _ _ (tail_is (tail_is (tail_is (tail_is (tail_is (tail_is (tail_is e))))))) in
    let input_drvs = input_drvs_once _ _ _ _ (tail_is outputs.1) in
    let input_srcs = strings_once _ _ _ _ (tail_is input_drvs.1) in
    let platform = string_once _ _ _ _ (tail_is input_srcs.1) in
    let builder = string_once _ _ _ _ (tail_is platform.1) in
    let args = strings_once _ _ _ _ (tail_is builder.1) in
    let env = env_once _ _ _ _ (tail_is args.1) in (
      λ k. record { outputs = outputs.0 k; input_drvs = input_drvs.0 k; input_srcs = input_srcs.0 k; platform = platform.0 k; builder = builder.0 k; args = args.0 k; env = env.0 k },
      tail_is env.1,
    )

pub derivation_goes : GoesOn derivation
unfolding derivation
derivation_goes p r s = simp (string_goes, strings_go, outputs_go, input_drvs_go, env_goes)

-- one text, one derivation
pub Loose-same : (p q : Parts) (bytes : List ℕ) → Loose p bytes → Loose q bytes → p ≡ q
Loose-same p q bytes of_p of_q = (derivation_once p q [] [] (sym of_p ∙ of_q)).0
