-- The operations of operators, as code has them.
use Rattle.std.specs.Prelude.{◌≡◌, Option, option_map}
use Rattle.pw_types.specs.declared.types.Operation as rust
use Rattle.pw_tree.specs.Types.{Operation}

-- an operation, as a plain value
abbrev pub operation_of : rust.Operation → Operation
operation_of o = record { ty = o.ty; unsigned = o.unsigned }

-- the answer is this operation, or none
abbrev pub Operates : Option Operation → Option rust.Operation → Type 0
Operates o answer = option_map operation_of answer ≡ o
