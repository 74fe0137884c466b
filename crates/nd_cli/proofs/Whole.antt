-- What is read of an input that is known: the whole of it, where that is within the limit.
use Rattle.std.proofs.Common.{◌≡◌, ℕ, ◌≤◌, Bool, List, [], ◌++◌, length, length-append, Option, Some, None, append-nil, refl, sym, ap, ◌∙◌, arith}
use Rattle.nd_cli.specs.Inputs.{limit, ReadsWhole, IsReadFault}
use Rattle.nd_cli.specs.Statuses.{exit_status}
use Rattle.nd_cli.specs.declared.fault.CliFault.{CliFault}
use Rattle.nd_cli.specs.declared.fault.CliFault.TheVariants.{Read, Memory}

pub whole_read : (unread left : Option (List ℕ)) (text bytes : List ℕ) → unread ≡ Some text → ReadsWhole unread left bytes → length text ≤ limit → bytes ≡ text
whole_read None left text bytes is read within = absurd (let no : None ≡ Some text = is in cc)
whole_read (Some all) None text bytes is read within = absurd read.read
whole_read (Some all) (Some rest) text bytes is read within =
    let same : all ≡ text = cc in
    let parts : all ≡ bytes ++ rest = read.read in
    let short : length bytes ≤ limit = omega (arith, ap length parts, ap length same, length-append bytes rest) in
    let none : rest ≡ [] = read.whole short in
    sym (append-nil bytes) ∙ ap (λ (back : List ℕ). bytes ++ back) (sym none) ∙ sym parts ∙ same

-- an input that wasn't read isn't refused
pub unread_ends : (marked : Bool) (e : CliFault) → IsReadFault marked e → exit_status e ≡ 5
unread_ends marked Read fault = refl
unread_ends marked Memory fault = refl
unread_ends marked _ fault = absurd fault
