-- A type is read, and a local's declaration.
use Rattle.std.proofs.Common.{◌≡◌, ◌≢◌, refl, sym, ◌∙◌, ap, subst, ℕ, suc, ◌+◌, ◌<◌, List, [], ◌∷◌, ◌++◌, length, Ok, Bool, true, false, ◌||◌, if◌then◌else◌, Option, Some, None, arith}
use Rattle.std.proofs.lemmas.List.{append_assoc, length-append}
use Rattle.pw_grammar.specs.declared.sort.Sort.{Sort}
use Rattle.pw_grammar.specs.declared.sort.Sort.TheVariants as s
use Rattle.pw_grammar.specs.Terminals.{sort, first_sort, is_same}
use Rattle.pw_grammar.specs.Expressions.{ExpressionDerivation, spelled, IsAt, expression_tree}
use Rattle.pw_grammar.specs.Statements.{TypeDerivation, word, unsigned, type_of_keyword, spelled_type, IsType, type_or, type_in, LocalDerivation, plain, set, spelled_local, IsLocal, kind_of_local, statement_node}
use Rattle.pw_grammar.specs.Reading.Steps.{Position, Parser, pure, next_sort}
use Rattle.pw_grammar.specs.Reading.Statements as r
use Rattle.pw_grammar.proofs.Branches.{sorts_same}
use Rattle.pw_grammar.proofs.Lengths.{type_length}
use Rattle.pw_grammar.proofs.CompleteEnds.{EndsExpression, ends_expression}
use Rattle.pw_grammar.proofs.CompleteTokens.{spot, then_, counted, step_skip, step_expect, step_name, sees_it, sees_other, either_this, either_other, parted, same_line, fits, node_is, ReadsExpressions}
use Rattle.pw_grammar.proofs.CompleteStarts.{starts_statement, begins_no_type}
use Rattle.pw_tree.specs.declared.ty.Ty.{Ty}
use Rattle.pw_tree.specs.declared.ty.Ty.TheVariants as ty
use Rattle.pw_tree.specs.declared.expr.Expr.{Expr}
use Rattle.pw_lex.specs.declared.token.Token.{Token}

-- ---- types

-- a type of one word is not `unsigned`
one_word : (x : Sort) (y : Ty) → type_of_keyword x ≡ Some y → x ≢ s.Unsigned
one_word x y e = λ u. none (sym (ap type_of_keyword u) ∙ e)
  where
    none : None ≡ Some y → ⊥
    none p = cc

by_word : (o : Option Ty) (y : Ty) (at : ℕ) (t : Token) (ts : List Token) → o ≡ Some y →
    r.type_by o (spot at (t ∷ ts)) ≡ Ok (type_or o, spot (suc at) ts)
by_word None y at t ts e = absurd (none e)
  where
    none : None ≡ Some y → ⊥
    none p = cc
by_word (Some x) y at t ts e = then_ _ (step_skip at t ts) refl

pub step_type : (c : TypeDerivation) (at : ℕ) (ts : List Token) → IsType c
    → r.type_name (spot at (spelled_type c ++ ts)) ≡ Ok (type_in c, spot (at + length (spelled_type c)) ts)
unfolding r.type_name r.unsigned_long
step_type (word t) at ts (y, e) =
    ap (λ b. if b then r.unsigned_long (spot at (t ∷ ts)) else r.type_by (type_of_keyword (sort t)) (spot at (t ∷ ts)))
    (sees_other s.Unsigned (spot at (t ∷ ts)) (one_word (sort t) y e))
    ∙ counted _ (by_word (type_of_keyword (sort t)) y at t ts e) (omega arith)
step_type (unsigned u l) at ts (e, f) =
    ap (λ b. if b then r.unsigned_long (spot at (u ∷ l ∷ ts)) else r.type_by (type_of_keyword (sort u)) (spot at (u ∷ l ∷ ts))) (sees_it s.Unsigned (spot at (u ∷ l ∷ ts)) e)
    ∙ then_ _ (step_skip at u (l ∷ ts)) (then_ _ (step_expect s.Long (suc at) l ts f) (counted {x = Ok (ty.Ulong, spot (suc (suc at)) ts)} _ refl (omega arith)))

-- a type begins as types do
pub type_begins : (c : TypeDerivation) (ts : List Token) → IsType c → r.begins_type (first_sort (spelled_type c ++ ts)) ≡ true
unfolding r.begins_type
type_begins (word t) ts (y, e) = begins_or (is_same (sort t) s.Unsigned) (type_of_keyword (sort t)) e
  where
    begins_or : (b : Bool) (o : Option Ty) → o ≡ Some y → (b || r.is_some o) ≡ true
    begins_or true o e = refl
    begins_or false o e = ap r.is_some e
type_begins (unsigned u l) ts (e, f) = ap (λ b. b || r.is_some (type_of_keyword (sort u))) (sorts_same (sort u) s.Unsigned e)

pub local_begins : (l : LocalDerivation) (ts : List Token) → IsLocal l →
    r.begins_type (first_sort (spelled_local l ++ ts)) ≡ true
local_begins (plain c x e) ts is = subst (λ v. r.begins_type (first_sort v) ≡ true) (sym (append_assoc (spelled_type c) (x ∷ e ∷ []) ts))
    (type_begins c (x ∷ e ∷ ts) is.0)
local_begins (set c x q a e) ts is =
    subst (λ v. r.begins_type (first_sort v) ≡ true) (sym (append_assoc (spelled_type c) (x ∷ q ∷ (spelled a ++ e ∷ [])) ts)) (type_begins c _ is.0)

-- the tests that a type passes tell its sort from these
pub no_type_is : (x y : Sort) → r.begins_type x ≡ true → starts_statement y ≡ true → x ≢ y
no_type_is x y e f = λ same. not_both (r.begins_type x) e (ap r.begins_type same ∙ begins_no_type y f)
  where
    not_both : (b : Bool) → b ≡ true → b ≡ false → ⊥
    not_both b e f = cc

-- ---- values

pub step_value : (n : ℕ) (expr : Parser Expr) → ReadsExpressions n expr →
    (at : ℕ) (q : Token) (a : ExpressionDerivation) (ts : List Token)
    → sort q ≡ s.Assign → IsAt 13 a → EndsExpression (first_sort ts) → length (spelled a ++ ts) < n
    → r.maybe_value expr (spot at (q ∷ (spelled a ++ ts))) ≡ Ok (Some (expression_tree (suc at) a), spot (suc at + length (spelled a)) ts)
unfolding r.maybe_value r.value
step_value n expr reads at q a ts is_q is_a ends short =
    either_this s.Assign (r.value expr) (pure None) (spot at (q ∷ (spelled a ++ ts))) is_q
    ∙ then_ _ (step_skip at q (spelled a ++ ts)) (then_ _ (reads.reads a (suc at) ts is_a ends short) refl)

pub step_no_value : (expr : Parser Expr) (i : Position) → next_sort i ≢ s.Assign → r.maybe_value expr i ≡ Ok (None, i)
unfolding r.maybe_value
step_no_value expr i other = either_other s.Assign (r.value expr) (pure None) i other

-- ---- locals

no_assign : (x : Sort) → x ≡ s.Semicolon → x ≢ s.Assign
no_assign x e = λ f. semicolon (sym e ∙ f)
  where
    semicolon : s.Semicolon ≡ s.Assign → ⊥
    semicolon p = cc

set_parts : (u : List Token) (x q : Token) (v : List Token) (e : Token) (ts : List Token)
    → (u ++ x ∷ q ∷ (v ++ e ∷ [])) ++ ts ≡ u ++ x ∷ q ∷ (v ++ e ∷ ts)
set_parts u x q v e ts = append_assoc u (x ∷ q ∷ (v ++ e ∷ [])) ts ∙ ap (λ w. u ++ x ∷ q ∷ w) (append_assoc v (e ∷ []) ts)

set_count : (at : ℕ) (u : List Token) (x q : Token) (v : List Token) (e : Token)
    → suc (suc (suc (at + length u)) + length v) ≡ at + length (u ++ x ∷ q ∷ (v ++ e ∷ []))
set_count at u x q v e = omega (arith, length-append u (x ∷ q ∷ (v ++ e ∷ [])), length-append v (e ∷ []))

set_fits : (u : List Token) (x q : Token) (v : List Token) (n : ℕ) → length (u ++ x ∷ q ∷ v) < n → length v < n
set_fits u x q v n short = omega (arith, length-append u (x ∷ q ∷ v))

pub reads_local : (n : ℕ) (expr : Parser Expr) → ReadsExpressions n expr → (l : LocalDerivation) (at : ℕ) (ts : List Token) →
    IsLocal l → length (spelled_local l ++ ts) < n
    → r.local expr (spot at (spelled_local l ++ ts)) ≡ Ok (statement_node at (spelled_local l) (kind_of_local at l), spot (at + length (spelled_local l)) ts)
unfolding r.local
reads_local n expr reads (plain c x e) at ts (is_c, is_x, is_e) short =
    parted (r.local expr) at (append_assoc (spelled_type c) (x ∷ e ∷ []) ts)
    (then_ _ (step_type c at (x ∷ e ∷ ts) is_c)
    (then_ _ (step_name (at + length (spelled_type c)) x (e ∷ ts) is_x)
    (then_ _ (step_no_value expr (spot (suc (at + length (spelled_type c))) (e ∷ ts)) (no_assign (sort e) is_e))
    (then_ _ (step_expect s.Semicolon (suc (at + length (spelled_type c))) e ts is_e)
    (node_is at _ _ _ _ (spelled_type c ++ x ∷ e ∷ []) ts refl (omega (arith, length-append (spelled_type c) (x ∷ e ∷ [])))
    (same_line (spelled_type c) (x ∷ e ∷ ts) (x ∷ e ∷ []) (type_length c)))))))
reads_local n expr reads (set c x q a e) at ts (is_c, is_x, is_q, is_a, is_e) short =
    parted (r.local expr) at (set_parts (spelled_type c) x q (spelled a) e ts)
    (then_ _ (step_type c at (x ∷ q ∷ (spelled a ++ e ∷ ts)) is_c)
    (then_ _ (step_name (at + length (spelled_type c)) x (q ∷ (spelled a ++ e ∷ ts)) is_x)
    (then_ _ (step_value n expr reads (suc (at + length (spelled_type c))) q a (e ∷ ts) is_q is_a (ap ends_expression is_e)
    (set_fits (spelled_type c) x q (spelled a ++ e ∷ ts) n (fits _ _ n (set_parts (spelled_type c) x q (spelled a) e ts) short)))
    (then_ _ (step_expect s.Semicolon (suc (suc (at + length (spelled_type c))) + length (spelled a)) e ts is_e)
    (node_is at _ _ _ _ (spelled_type c ++ x ∷ q ∷ (spelled a ++ e ∷ [])) ts refl (set_count at (spelled_type c) x q (spelled a) e)
    (same_line (spelled_type c) (x ∷ q ∷ (spelled a ++ e ∷ ts)) (x ∷ q ∷ (spelled a ++ e ∷ [])) (type_length c)))))))
