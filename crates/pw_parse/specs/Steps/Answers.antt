-- What a call that reads a whole list ensures.
use Rattle.std.specs.Prelude.{◌≡◌, ◌≢◌, List, Result, Ok, Err}
use Rattle.pw_grammar.specs.declared.error.SyntaxError.{SyntaxError}
use Rattle.pw_grammar.specs.declared.error.SyntaxError.TheVariants.{NoMemory}
use Rattle.pw_tree.specs.declared.decl.Decl.{Decl}

-- the call gives this answer, unless memory runs out
abbrev pub GivesAnswer : Result (List Decl) SyntaxError → Result (List Decl) SyntaxError → Type 0
GivesAnswer answer (Ok decls) = answer ≡ Ok decls
GivesAnswer answer (Err e) = e ≢ NoMemory → answer ≡ Err e
