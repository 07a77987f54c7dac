-- The keywords and the punctuators of the language, written out: the number of each is its position (C17, 6.4.1, 6.4.6).
use Rattle.std.specs.Prelude.{◌≡◌, ℕ, List, [], ◌∷◌, Some, codes, slice_get}
use Rattle.pw_lex.specs.Bytes.{Text}

-- the keywords, from number 0 on
unfoldable pub keywords : List Text
keywords =
    codes "long" ∷ codes "unsigned" ∷ codes "void" ∷
    codes "fn0" ∷ codes "fn1" ∷ codes "fn2" ∷ codes "fn3" ∷ codes "fn4" ∷ codes "fn5" ∷ codes "fn6" ∷
    codes "extern" ∷ codes "static" ∷
    codes "if" ∷ codes "else" ∷ codes "while" ∷ codes "do" ∷ codes "for" ∷
    codes "return" ∷ codes "break" ∷ codes "continue" ∷
    codes "__in" ∷ codes "__out" ∷
    []

-- the punctuators, from number 0 on; those of the last two lines have no place in the grammar
unfoldable pub punctuators : List Text
punctuators =
    codes "(" ∷ codes ")" ∷ codes "{" ∷ codes "}" ∷ codes "[" ∷ codes "]" ∷ codes ";" ∷ codes "," ∷
    codes "=" ∷ codes "+" ∷ codes "-" ∷ codes "*" ∷ codes "/" ∷ codes "%" ∷
    codes "<" ∷ codes ">" ∷ codes "<=" ∷ codes ">=" ∷ codes "==" ∷ codes "!=" ∷ codes "<<" ∷ codes ">>" ∷
    codes "&" ∷ codes "|" ∷ codes "^" ∷ codes "~" ∷ codes "!" ∷ codes "&&" ∷ codes "||" ∷ codes "?" ∷ codes ":" ∷
    codes "++" ∷ codes "--" ∷ codes "+=" ∷ codes "-=" ∷ codes "*=" ∷ codes "/=" ∷ codes "%=" ∷
    codes "&=" ∷ codes "|=" ∷ codes "^=" ∷ codes "<<=" ∷ codes ">>=" ∷
    []

-- the text stands in the list, at the position that is its number
abbrev pub IsListed : List Text → Text → ℕ → Type 0
IsListed list text number = slice_get list number ≡ Some text
