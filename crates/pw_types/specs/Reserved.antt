-- The names that no declaration may have: kept for the entry, the tools and C.
use Rattle.std.specs.Prelude.{ℕ, Bool, ◌||◌, List, [], ◌∷◌, codes, bytes_eq, nat_eq}
use Rattle.std.specs.List.{list_any, starts_with}

-- the keywords of C that this language does not have (C17, 6.4.1)
abbrev pub other_keywords_of_c : List (List ℕ)
other_keywords_of_c =
    codes "auto" ∷ codes "case" ∷ codes "char" ∷ codes "const" ∷ codes "default" ∷ codes "double"
    ∷ codes "enum" ∷ codes "float" ∷ codes "goto" ∷ codes "inline" ∷ codes "int" ∷ codes "register"
    ∷ codes "restrict" ∷ codes "short" ∷ codes "signed" ∷ codes "sizeof" ∷ codes "struct" ∷ codes "switch"
    ∷ codes "typedef" ∷ codes "union" ∷ codes "volatile" ∷ []

-- A name that begins with `__`, `_start`, and the other keywords of C.
unfoldable pub is_reserved : List ℕ → Bool
is_reserved name =
    starts_with nat_eq name (codes "__") || bytes_eq name (codes "_start") || list_any (λ word. bytes_eq word name) other_keywords_of_c
