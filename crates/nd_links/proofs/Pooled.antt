-- What was read of a line, on its own.
use Rattle.std.proofs.Common.{◌≡◌}
use Rattle.nd_line.specs.declared.line.NamedInput.{NamedInput}

-- inputs with one path and the same names are one
pub same_input : (one other : NamedInput) → one.path ≡ other.path → one.names ≡ other.names → one ≡ other
same_input one other path names = λ i. record { path = path i; names = names i }
