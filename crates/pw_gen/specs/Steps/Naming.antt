-- References that are gathered, each once.
use Rattle.std.specs.Prelude.{if◌then◌else◌, List, [], ◌∷◌, ◌++◌, fold}
use Rattle.std.specs.List.{list_any}
use Rattle.pw_tree.specs.declared.ty.Ref.{Ref}
use Rattle.pw_code.specs.Objects.{same_ref}

-- A reference joins others, unless it is one of them.
abbrev pub joined : List Ref → Ref → List Ref
joined found r = if list_any (λ other. same_ref other r) found then found else found ++ r ∷ []

-- Several join, one after the other.
abbrev pub joined_all : List Ref → List Ref → List Ref
joined_all found rs = fold joined found rs
