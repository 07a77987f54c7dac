-- Initialisers and variables are read.
use Rattle.std.proofs.Common.{◌≡◌, ◌≢◌, refl, sym, ◌∙◌, ap, ℕ, zero, suc, ◌+◌, ◌<◌, List, [], ◌∷◌, ◌++◌, length, Ok, Bool, true, false, not, ◌&&◌, ◌||◌, if◌then◌else◌, Option, Some, None, ◌⊎◌, inl, inr, arith}
use Rattle.std.proofs.lemmas.List.{append_assoc, append-nil, length-append}
use Rattle.pw_grammar.specs.declared.sort.Sort.{Sort}
use Rattle.pw_grammar.specs.declared.sort.Sort.TheVariants as s
use Rattle.pw_grammar.specs.Terminals.{sort, first_sort}
use Rattle.pw_grammar.specs.Expressions.{value_in, IsConstantSymbol}
use Rattle.pw_grammar.specs.Statements.{first_line}
use Rattle.pw_grammar.specs.Declarations as dc
use Rattle.pw_grammar.specs.Declarations.{ElementDerivation, spelled_element, IsElement, kind_of_element, element_of, MoreElements, spelled_more_elements, AreMoreElements, more_elements_of, VariableDerivation, spelled_variable, IsExtent, IsSizeAndInitialiser, HasNoValue, MayHave, count_in, extent, elements_of, linkage_of, linkage_by}
use Rattle.pw_grammar.specs.Reading.Steps.{Position, Parser, read_then, ◌>>=◌, pure, refuse, next_sort, sees, take, skip, either}
use Rattle.pw_grammar.specs.Reading.Declarations as rd
use Rattle.pw_grammar.proofs.CompleteTokens.{spot, then_, counted, done, valued, step_skip, step_take, step_expect, step_name, sees_it, sees_other, either_this, either_other, behind, parted, fits}
use Rattle.pw_grammar.proofs.CompleteStatements.{no_other}
use Rattle.pw_tree.specs.declared.ty.Ty.{Ty}
use Rattle.pw_tree.specs.declared.decl.InitItem.{InitItem}
use Rattle.pw_tree.specs.declared.decl.Linkage.{Linkage}
use Rattle.pw_tree.specs.declared.decl.DeclKind.{DeclKind}
use Rattle.pw_tree.specs.declared.decl.DeclKind.TheVariants as d
use Rattle.pw_lex.specs.declared.token.Token.{Token}

-- ---- elements

sees_constant : (j : Position) → IsConstantSymbol (next_sort j) → (sees s.Number j || sees s.Character j) ≡ true
sees_constant j (inl e) = ap (λ b. b || sees s.Character j) (sees_it s.Number j e)
sees_constant j (inr e) = ap (λ b. b || sees s.Character j) (sees_other s.Number j (no_other e (λ p. cc))) ∙ sees_it s.Character j e

step_constant : (at : ℕ) (t : Token) (ts : List Token) → IsConstantSymbol (sort t) →
    rd.constant_value (spot at (t ∷ ts)) ≡ Ok (value_in t.kind, spot (suc at) ts)
unfolding rd.constant_value
step_constant at t ts is =
    ap (λ b. if b then read_then (take (spot at (t ∷ ts))) (λ t. pure (value_in t.kind)) else refuse (spot at (t ∷ ts))) (sees_constant (spot at (t ∷ ts)) is)
    ∙ then_ _ (step_take at t ts) refl

-- a constant is no such sort
constant_no : (x y : Sort) → IsConstantSymbol x → (s.Number ≡ y → ⊥) → (s.Character ≡ y → ⊥) → x ≢ y
constant_no x y (inl e) f g = no_other e f
constant_no x y (inr e) f g = no_other e g

step_kind : (x : ElementDerivation) (at : ℕ) (ts : List Token) → IsElement x
    → rd.element_kind (spot at (spelled_element x ++ ts)) ≡ Ok (kind_of_element x, spot (at + length (spelled_element x)) ts)
unfolding rd.element_kind rd.element_word rd.element_positive rd.element_negative
step_kind (dc.word t) at ts is =
    either_this s.Name rd.element_word (either s.Minus rd.element_negative rd.element_positive) (spot at (t ∷ ts)) is
    ∙ then_ _ (step_name at t ts is) (done _ _ ts (omega arith))
step_kind (dc.positive t) at ts is =
    either_other s.Name rd.element_word (either s.Minus rd.element_negative rd.element_positive) (spot at (t ∷ ts)) (constant_no (sort t) s.Name is (λ p. cc) (λ p. cc))
    ∙ either_other s.Minus rd.element_negative rd.element_positive (spot at (t ∷ ts)) (constant_no (sort t) s.Minus is (λ p. cc) (λ p. cc))
    ∙ then_ _ (step_constant at t ts is) (done _ _ ts (omega arith))
step_kind (dc.negative m t) at ts (is_m, is) =
    either_other s.Name rd.element_word (either s.Minus rd.element_negative rd.element_positive) (spot at (m ∷ t ∷ ts)) (no_other is_m (λ p. cc))
    ∙ either_this s.Minus rd.element_negative rd.element_positive (spot at (m ∷ t ∷ ts)) is_m
    ∙ then_ _ (step_skip at m (t ∷ ts)) (then_ _ (step_constant (suc at) t ts is) (done _ _ ts (omega arith)))

-- the node of an element, by its last token and its line
element_is : (first line n : ℕ) (x : ElementDerivation) (r : List Token) → n ≡ first + length (spelled_element x) →
    line ≡ first_line (spelled_element x)
    → rd.finish_element first line (kind_of_element x) (spot n r) ≡ Ok (element_of first x, spot (first + length (spelled_element x)) r)
element_is first line n x r counts lines = cc

element_line : (x : ElementDerivation) (ts : List Token) → first_line (spelled_element x ++ ts) ≡ first_line (spelled_element x)
element_line (dc.word t) ts = refl
element_line (dc.positive t) ts = refl
element_line (dc.negative m t) ts = refl

step_element : (x : ElementDerivation) (at : ℕ) (ts : List Token) → IsElement x
    → rd.initial (spot at (spelled_element x ++ ts)) ≡ Ok (element_of at x, spot (at + length (spelled_element x)) ts)
unfolding rd.initial
step_element x at ts is = then_ _ (step_kind x at ts is) (element_is at _ _ x ts refl (element_line x ts))

-- an element begins with no closing brace
element_no : (x : ElementDerivation) (ts : List Token) → IsElement x → first_sort (spelled_element x ++ ts) ≢ s.RightBrace
element_no (dc.word t) ts is = no_other is (λ p. cc)
element_no (dc.positive t) ts is = constant_no (sort t) s.RightBrace is (λ p. cc) (λ p. cc)
element_no (dc.negative m t) ts is = no_other is.0 (λ p. cc)

next_element : ℕ → List InitItem → Parser (List InitItem)
next_element turns found = do
  x ← rd.initial
  rd.more_initials turns (found ++ x ∷ [])

behind_comma : ℕ → List InitItem → Parser (List InitItem)
behind_comma turns found = do
  o ← skip
  either s.RightBrace (pure found) (next_element turns found)

step_more_elements : (turns : ℕ) (xs : MoreElements) (found : List InitItem) (at : ℕ) (ts : List Token) → AreMoreElements xs →
    first_sort ts ≡ s.RightBrace
    → length (spelled_more_elements xs ++ ts) < turns
    → rd.more_initials turns found (spot at (spelled_more_elements xs ++ ts)) ≡ Ok (found ++ more_elements_of at xs, spot (at + length (spelled_more_elements xs)) ts)
unfolding rd.more_initials spelled_more_elements AreMoreElements more_elements_of next_element behind_comma
step_more_elements zero xs found at ts is end short = absurd (omega arith)
step_more_elements (suc turns) dc.end found at ts is end short =
    either_other s.Comma (behind_comma turns found) (pure found) (spot at ts) (no_other end (λ p. cc))
    ∙ valued (found ++ []) (done found (at + 0) ts (omega arith)) (sym (append-nil found))
step_more_elements (suc turns) (dc.comma t) found at ts is end short =
    either_this s.Comma (behind_comma turns found) (pure found) (spot at (t ∷ ts)) is
    ∙ then_ _ (step_skip at t ts) (either_this s.RightBrace (pure found) (next_element turns found) (spot (suc at) ts) end
    ∙ valued (found ++ []) (done found (at + 1) ts (omega arith)) (sym (append-nil found)))
step_more_elements (suc turns) (dc.more t x xs) found at ts is end short =
    let parts : (spelled_element x ++ spelled_more_elements xs) ++ ts ≡ spelled_element x ++ (spelled_more_elements xs ++ ts) =
    append_assoc (spelled_element x) (spelled_more_elements xs) ts in
    either_this s.Comma (behind_comma turns found) (pure found) (spot at (t ∷ ((spelled_element x ++ spelled_more_elements xs) ++ ts))) is.0
    ∙ then_ _ (step_skip at t _)
    (parted (either s.RightBrace (pure found) (next_element turns found)) (suc at) parts
    (either_other s.RightBrace (pure found) (next_element turns found) (spot (suc at) (spelled_element x ++ (spelled_more_elements xs ++ ts))) (element_no x _ is.1)
    ∙ then_ _ (step_element x (suc at) (spelled_more_elements xs ++ ts) is.1)
    (valued _ (counted _ (step_more_elements turns xs (found ++ element_of (suc at) x ∷ []) (suc at + length (spelled_element x)) ts is.2 end
    (omega (
      arith,
      length-append (spelled_element x ++ spelled_more_elements xs) ts,
      length-append (spelled_element x) (spelled_more_elements xs),
      length-append (spelled_more_elements xs) ts,
    )))
    (omega (arith, length-append (spelled_element x) (spelled_more_elements xs))))
    (append_assoc found (element_of (suc at) x ∷ []) (more_elements_of (suc at + length (spelled_element x)) xs)))))

-- ---- variables

step_number : (at : ℕ) (t : Token) (ts : List Token) → sort t ≡ s.Number
    → (if sees s.Number (spot at (t ∷ ts)) then read_then (take (spot at (t ∷ ts))) (λ t. pure (value_in t.kind)) else refuse (spot at (t ∷ ts)))
    ≡ Ok (value_in t.kind, spot (suc at) ts)
step_number at t ts is =
    ap (λ b. if b then read_then (take (spot at (t ∷ ts))) (λ t. pure (value_in t.kind)) else refuse (spot at (t ∷ ts))) (sees_it s.Number (spot at (t ∷ ts)) is)
    ∙ then_ _ (step_take at t ts) refl

step_size : (at : ℕ) (o n c : Token) (ts : List Token) → IsExtent o n c
    → rd.maybe_size (spot at (o ∷ n ∷ c ∷ ts)) ≡ Ok (Some (value_in n.kind), spot (suc (suc (suc at))) ts)
unfolding rd.maybe_size rd.size
step_size at o n c ts is =
    either_this s.LeftBracket rd.size (pure None) (spot at (o ∷ n ∷ c ∷ ts)) is.0
    ∙ then_ _ (step_skip at o (n ∷ c ∷ ts)) (then_ _ (step_number (suc at) n (c ∷ ts) is.1) (then_ _ (step_expect s.RightBracket (suc (suc at)) c ts is.2) refl))

no_size : (j : Position) → next_sort j ≢ s.LeftBracket → rd.maybe_size j ≡ Ok (None, j)
unfolding rd.maybe_size
no_size j other = either_other s.LeftBracket rd.size (pure None) j other

no_initials : (n : ℕ) (l : Linkage) (count : Option ℕ) (j : Position) → next_sort j ≢ s.Assign →
    rd.maybe_initials n l count j ≡ Ok (None, j)
unfolding rd.maybe_initials
no_initials n l count j other = ap (λ b. if (b && not (rd.is_extern l)) then rd.initials_by n count j else pure None j) (sees_other s.Assign j other)

its_initials : (n : ℕ) (l : Linkage) (count : Option ℕ) (j : Position) → next_sort j ≡ s.Assign → rd.is_extern l ≡ false
    → rd.maybe_initials n l count j ≡ rd.initials_by n count j
unfolding rd.maybe_initials
its_initials n l count j is own =
    ap (λ b. if (b && not (rd.is_extern l)) then rd.initials_by n count j else pure None j) (sees_it s.Assign j is)
    ∙ ap (λ b. if not b then rd.initials_by n count j else pure None j) own

step_one : (n at : ℕ) (q : Token) (x : ElementDerivation) (ts : List Token) → IsElement x
    → rd.initials_by n None (spot at (q ∷ (spelled_element x ++ ts))) ≡ Ok (Some (element_of (suc at) x ∷ []), spot (suc at + length (spelled_element x)) ts)
unfolding rd.one_initial
step_one n at q x ts is = then_ _ (step_skip at q _) (then_ _ (step_element x (suc at) ts is) refl)

step_listed : (n count at : ℕ) (q b : Token) (x : ElementDerivation) (xs : MoreElements) (e : Token) (ts : List Token) →
    sort b ≡ s.LeftBrace → IsElement x → AreMoreElements xs
    → sort e ≡ s.RightBrace
    → length (spelled_element x ++ (spelled_more_elements xs ++ e ∷ ts)) < n
    → rd.initials_by n (Some count) (spot at (q ∷ b ∷ (spelled_element x ++ (spelled_more_elements xs ++ e ∷ ts))))
    ≡ Ok (
      Some (element_of (suc (suc at)) x ∷ more_elements_of (suc (suc at) + length (spelled_element x)) xs),
      spot (suc (suc (suc at) + length (spelled_element x) + length (spelled_more_elements xs))) ts,
    )
unfolding rd.listed_initials
step_listed n count at q b x xs e ts is_b is are is_e short =
    then_ _ (step_skip at q _)
    (then_ _ (step_expect s.LeftBrace (suc at) b _ is_b)
    (then_ _ (step_element x (suc (suc at)) (spelled_more_elements xs ++ e ∷ ts) is)
    (then_ _ (step_more_elements n xs (element_of (suc (suc at)) x ∷ []) (suc (suc at) + length (spelled_element x)) (e ∷ ts) are is_e
    (behind (spelled_element x) (spelled_more_elements xs ++ e ∷ ts) n short))
    (then_ _ (step_expect s.RightBrace (suc (suc at) + length (spelled_element x) + length (spelled_more_elements xs)) e ts is_e) refl))))

-- the variable has no initialiser, or may have one
abbrev pub MayBe : Linkage → VariableDerivation → Type 0
MayBe l v = HasNoValue v ⊎ (rd.is_extern l ≡ false)

pub may_be : (g : Option Token) (v : VariableDerivation) → MayHave g v → MayBe (linkage_of g) v
may_be None v is = inr refl
may_be (Some t) v (inl is) = inr (ap (λ x. rd.is_extern (linkage_by x)) is)
may_be (Some t) v (inr is) = inl is.1

not_extern : {A : Type 0} (b : Bool) → ⊥ ⊎ (b ≡ false) → (b ≡ false → A) → A
not_extern b (inl e) f = absurd e
not_extern b (inr e) f = f e

variable_is : (m n : ℕ) (a b : ℕ × DeclKind) (ts : List Token) → a ≡ b → m ≡ n → pure a (spot m ts) ≡ Ok (b, spot n ts)
variable_is m n a b ts same counts = done a n ts counts ∙ ap (λ a. pure a (spot n ts)) same

scalar_is : (ty : Ty) (x : ElementDerivation) (a b m n : ℕ) → a ≡ b → m ≡ n
    → ◌≡◌ {A = ℕ × DeclKind} (a, d.Var ty None (Some (element_of m x ∷ []))) (b, d.Var ty None (Some (element_of n x ∷ [])))
scalar_is ty x a b m n e f = cc

array_is : (ty : Ty) (count : ℕ) (x : ElementDerivation) (xs : MoreElements) (a b m n : ℕ) → a ≡ b → m ≡ n
    → ◌≡◌ {A = ℕ × DeclKind} (a, d.Var ty (Some count) (Some (element_of m x ∷ more_elements_of (m + length (spelled_element x)) xs)))
    (b, d.Var ty (Some count) (Some (element_of n x ∷ more_elements_of (n + length (spelled_element x)) xs)))
array_is ty count x xs a b m n e f = cc

listed_parts : (u v : List Token) (z : Token) (ts : List Token) → (u ++ (v ++ z ∷ [])) ++ ts ≡ u ++ (v ++ z ∷ ts)
listed_parts u v z ts = append_assoc u (v ++ z ∷ []) ts ∙ ap (λ w. u ++ w) (append_assoc v (z ∷ []) ts)

pub step_variable : (n : ℕ) (l : Linkage) (ty : Ty) (v : VariableDerivation) (at : ℕ) (e : Token) (ts : List Token) →
    IsSizeAndInitialiser v → MayBe l v → sort e ≡ s.Semicolon
    → length (spelled_variable v ++ e ∷ ts) < n
    → rd.variable n l ty (spot (suc at) (spelled_variable v ++ e ∷ ts))
    ≡ Ok ((at + extent v, d.Var ty (count_in v) (elements_of (suc at) v)), spot (suc (suc at + length (spelled_variable v))) ts)
unfolding rd.variable rd.last_taken
step_variable n l ty dc.scalar at e ts is may is_e short =
    then_ _ (no_size (spot (suc at) (e ∷ ts)) (no_other is_e (λ p. cc)))
    (then_ _ (no_initials n l None (spot (suc at) (e ∷ ts)) (no_other is_e (λ p. cc)))
    (then_ _ (step_expect s.Semicolon (suc at) e ts is_e)
    (variable_is _ _ _ _ ts (ap (λ m. (m, d.Var ty None None)) (omega arith)) (omega arith))))
step_variable n l ty (dc.scalar_set q x) at e ts is may is_e short = not_extern (rd.is_extern l) may (λ own.
    then_ _ (no_size (spot (suc at) (q ∷ (spelled_element x ++ e ∷ ts))) (no_other is.0 (λ p. cc)))
    (then_ _ (its_initials n l None (spot (suc at) (q ∷ (spelled_element x ++ e ∷ ts))) is.0 own ∙ step_one n (suc at) q x (e ∷ ts) is.1)
    (then_ _ (step_expect s.Semicolon (suc (suc at) + length (spelled_element x)) e ts is_e)
    (variable_is _ _ _ _ ts (scalar_is ty x _ _ _ _ (omega arith) (omega arith)) (omega arith)))))
step_variable n l ty (dc.array o m c) at e ts is may is_e short =
    then_ _ (step_size (suc at) o m c (e ∷ ts) is)
    (then_ _ (no_initials n l (Some (value_in m.kind)) (spot (suc (suc (suc (suc at)))) (e ∷ ts)) (no_other is_e (λ p. cc)))
    (then_ _ (step_expect s.Semicolon (suc (suc (suc (suc at)))) e ts is_e)
    (variable_is _ _ _ _ ts (ap (λ j. (j, d.Var ty (Some (value_in m.kind)) None)) (omega arith)) (omega arith))))
step_variable n l ty (dc.array_set o m c q b x xs z) at e ts is may is_e short = not_extern (rd.is_extern l) may (λ own.
    let parts : (spelled_element x ++ (spelled_more_elements xs ++ z ∷ [])) ++ e ∷ ts ≡ spelled_element x ++ (spelled_more_elements xs ++ z ∷ e ∷ ts) =
    listed_parts (spelled_element x) (spelled_more_elements xs) z (e ∷ ts) in
    let inner : length (o ∷ m ∷ c ∷ q ∷ b ∷ (spelled_element x ++ (spelled_more_elements xs ++ z ∷ e ∷ ts))) < n =
    fits _ _ n (ap (λ u. o ∷ m ∷ c ∷ q ∷ b ∷ u) parts) short in
    parted (rd.variable n l ty) (suc at) (ap (λ u. o ∷ m ∷ c ∷ q ∷ b ∷ u) parts)
    (then_ _ (step_size (suc at) o m c (q ∷ b ∷ (spelled_element x ++ (spelled_more_elements xs ++ z ∷ e ∷ ts))) is.0)
    (then_ _ (its_initials n l (Some (value_in m.kind))
    (spot (suc (suc (suc (suc at)))) (q ∷ b ∷ (spelled_element x ++ (spelled_more_elements xs ++ z ∷ e ∷ ts)))) is.1 own
    ∙ step_listed n (value_in m.kind) (suc (suc (suc (suc at)))) q b x xs z (e ∷ ts) is.2 is.3 is.4 is.5 (omega arith))
    (then_ _ (step_expect s.Semicolon (suc (suc (suc (suc (suc (suc (suc at))))) + length (spelled_element x) + length (spelled_more_elements xs))) e ts is_e)
    (variable_is _ _ _ _ ts (array_is ty (value_in m.kind) x xs _ _ _ _ (omega arith) (omega arith))
    (omega (arith, length-append (spelled_element x) (spelled_more_elements xs ++ z ∷ []), length-append (spelled_more_elements xs) (z ∷ []))))))))
