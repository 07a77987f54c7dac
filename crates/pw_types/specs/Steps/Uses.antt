-- Which names at file scope a unit uses, by their numbers among those declared so far, in order of text.
use Rattle.std.specs.Prelude.{ℕ, not, List, [], ◌∷◌, ◌++◌, suc, Bool, Option, Some, None, ◌&&◌, ◌||◌, if◌then◌else◌, nat_eq}
use Rattle.std.specs.List.{prefix_len, list_any}
use Rattle.pw_tree.specs.Expressions.{Expression, Expressions, constant, word, unary, binary, conditional, call, index, input, output, nil, cons}
use Rattle.pw_types.specs.declared.names.File.{File}
use Rattle.pw_types.specs.Scopes.{Scope, Meaning, missing, a_local, declared, name_meaning}
use Rattle.pw_tree.specs.Statements.{Statement, Statements, OptionalStatement, empty, block, local, set, evaluate, if_else, while_loop, do_loop, for_loop, returns, breaks, continues, nil, cons, absent, present}
use Rattle.pw_tree.specs.declared.decl.InitItem.{InitItem}
use Rattle.pw_tree.specs.declared.decl.InitKind.{InitKind}
use Rattle.pw_tree.specs.declared.decl.InitKind.TheVariants.{Num, Word}
use Rattle.pw_tree.specs.Declarations.{Declaration, DeclarationForm, prototype, definition, variable}
use Rattle.pw_types.specs.Blocks.{Block, inner, after, after_maybe}
use Rattle.std.specs.Str.{bytes_eq}
use Rattle.pw_tree.specs.declared.tunit.Ext.{Ext}
use Rattle.pw_types.specs.Declarations.{outermost, declared_by, Whole, file_scope}
use Rattle.pw_types.specs.Units.{text_of_kind}

-- the number of a name at file scope
abbrev pub file_number : List ℕ → List File → ℕ
file_number name files = prefix_len (λ f. not (bytes_eq f.name name)) files

-- the number that a meaning notes: that of a name at file scope
abbrev pub uses_of_meaning : Scope → Meaning → List ℕ
uses_of_meaning scope missing = []
uses_of_meaning scope (a_local l) = []
uses_of_meaning scope (declared f) = file_number f.name scope.files ∷ []

-- the number that a name notes
abbrev pub uses_of_name : Scope → List ℕ → List ℕ
uses_of_name scope name = uses_of_meaning scope (name_meaning scope name)

-- ---- expressions

unfoldable mutual
  -- the numbers that an expression notes
  pub uses : Scope → Expression → List ℕ
  uses scope (constant at value unsigned) = []
  uses scope (word at name) = uses_of_name scope name
  uses scope (unary at op e) = uses scope e
  uses scope (binary at op l r) = uses scope l ++ uses scope r
  uses scope (conditional at c a b) = uses scope c ++ (uses scope a ++ uses scope b)
  uses scope (call at f es) = uses scope f ++ uses_of_all scope es
  uses scope (index at b i) = uses scope b ++ uses scope i
  uses scope (input at) = []
  uses scope (output at e) = uses scope e

  -- those of several
  pub uses_of_all : Scope → Expressions → List ℕ
  uses_of_all scope nil = []
  uses_of_all scope (cons e es) = uses scope e ++ uses_of_all scope es

-- those of an expression that may be missing
abbrev pub uses_of_option : Scope → Option Expression → List ℕ
uses_of_option scope None = []
uses_of_option scope (Some e) = uses scope e

-- ---- statements

unfoldable mutual
  -- those of a statement
  pub uses_by : Block → Statement → List ℕ
  uses_by b (empty at) = []
  uses_by b (block at ss) = uses_by_all (inner b) ss
  uses_by b (local at ty name e) = uses_of_option b.scope e
  uses_by b (set at name i e) = uses_of_name b.scope name ++ (uses_of_option b.scope i ++ uses b.scope e)
  uses_by b (evaluate at e) = uses b.scope e
  uses_by b (if_else at c a d) = uses b.scope c ++ (uses_by b a ++ uses_by_maybe (after a b) d)
  uses_by b (while_loop at c s) = uses b.scope c ++ uses_by b s
  uses_by b (do_loop at s c) = uses_by b s ++ uses b.scope c
  uses_by b (for_loop at first c last s) =
      uses_by_maybe (inner b) first
      ++ (uses_of_option (after_maybe first (inner b)).scope c
      ++ (uses_by_maybe (after_maybe first (inner b)) last
      ++ uses_by (after_maybe last (after_maybe first (inner b))) s))
  uses_by b (returns at e) = uses_of_option b.scope e
  uses_by b (breaks at) = []
  uses_by b (continues at) = []

  -- those of statements in a row
  pub uses_by_all : Block → Statements → List ℕ
  uses_by_all b nil = []
  uses_by_all b (cons s ss) = uses_by b s ++ uses_by_all (after s b) ss

  -- those of a statement that may be missing
  pub uses_by_maybe : Block → OptionalStatement → List ℕ
  uses_by_maybe b absent = []
  uses_by_maybe b (present s) = uses_by b s

-- ---- declarations

-- those of an element of an initialiser
abbrev pub uses_of_element : Scope → InitKind → List ℕ
uses_of_element scope (Num n) = []
uses_of_element scope (Word name) = uses_of_name scope name

-- those of several elements
unfoldable pub uses_of_elements : Scope → List InitItem → List ℕ
uses_of_elements scope [] = []
uses_of_elements scope (item ∷ items) = uses_of_element scope item.kind ++ uses_of_elements scope items

-- those of an initialiser, where there is one
abbrev pub uses_of_initialiser : Scope → Option (List InitItem) → List ℕ
uses_of_initialiser scope None = []
uses_of_initialiser scope (Some items) = uses_of_elements scope items

-- those of a body or of an initialiser
abbrev pub uses_of_form : Scope → DeclarationForm → List ℕ
uses_of_form scope (prototype result params) = []
uses_of_form scope (definition result params body) = uses_by_all (outermost scope params) body
uses_of_form scope (variable ty size init) = uses_of_initialiser scope init

-- those of the bodies and initialisers of declarations
unfoldable pub uses_of_declarations : Whole → List File → List Declaration → List ℕ
uses_of_declarations w files [] = []
uses_of_declarations w files (d ∷ ds) =
    uses_of_form (file_scope w (declared_by d files)) d.form ++ uses_of_declarations w (declared_by d files) ds

-- ---- external names

-- an external name that is defined, or whose number was noted
abbrev pub is_kept_by_number : List ℕ → ℕ → File → Bool
is_kept_by_number used number f = f.external && (f.defined || list_any (λ n. nat_eq n number) used)

-- the external names that are kept, from this number on, each with its type string
unfoldable pub names_by_number : List ℕ → ℕ → List File → List Ext
names_by_number used number [] = []
names_by_number used number (f ∷ fs) =
    if is_kept_by_number used number f
    then record { name = f.name; text = text_of_kind f.kind } ∷ names_by_number used (suc number) fs
    else names_by_number used (suc number) fs
