-- Phrases at their levels: what they begin with, and their tokens regrouped and counted.
use Rattle.std.proofs.Common.{◌≡◌, ◌≢◌, refl, sym, ◌∙◌, ap, subst, ℕ, suc, ◌+◌, ◌≤◌, List, [], ◌∷◌, ◌++◌, length, inl, inr, Bool, true, false, Some, None, arith}
use Rattle.std.proofs.lemmas.List.{append_assoc, length-append}
use Rattle.pw_grammar.specs.declared.sort.Sort.{Sort}
use Rattle.pw_grammar.specs.declared.sort.Sort.TheVariants as s
use Rattle.pw_grammar.specs.Terminals.{sort, first_sort, prefix_of, level_of}
use Rattle.pw_grammar.specs.Expressions.{ExpressionDerivation, identifier, constant, bracketed, input, output, call, index, prefixed, binary, choice, spelled, IsAt, IsOperator}
use Rattle.pw_lex.specs.declared.token.Token.{Token}
use Rattle.pw_tree.specs.declared.operator.Un.{Un}
use Rattle.pw_tree.specs.declared.operator.Bin.{Bin}
use Rattle.pw_tree.specs.declared.operator.Bin.TheVariants as bin

-- ---- levels

pub level_low : (op : Bin) → 3 ≤ level_of op
level_low bin.Mul = omega arith
level_low _ = omega arith

pub level_high : (op : Bin) → level_of op ≤ 12
level_high bin.Mul = omega arith
level_high _ = omega arith

pub operator_low : (m : ℕ) (x : Sort) → IsOperator m x → 3 ≤ m
operator_low m x o = subst (λ n. 3 ≤ n) o.2 (level_low o.0)

pub operator_high : (m : ℕ) (x : Sort) → IsOperator m x → m ≤ 12
operator_high m x o = subst (λ n. n ≤ 12) o.2 (level_high o.0)

-- ---- the first token

-- the first sort does not depend on how the tokens are grouped
first_grouped : (u v r : List Token) (P : Sort → Type 0) → P (first_sort (u ++ (v ++ r))) → P (first_sort ((u ++ v) ++ r))
first_grouped u v r P h = subst (λ ts. P (first_sort ts)) (sym (append_assoc u v r)) h

-- an expression of the levels up to 1 begins with no prefix operator
pub no_prefix : (c : ExpressionDerivation) (r : List Token) → IsAt 1 c → prefix_of (first_sort (spelled c ++ r)) ≡ None
unfolding IsAt spelled
no_prefix (identifier t) r is = ap prefix_of is
no_prefix (constant t) r (inl e) = ap prefix_of e
no_prefix (constant t) r (inr e) = ap prefix_of e
no_prefix (bracketed o a c) r is = ap prefix_of is.0
no_prefix (input k o c) r is = ap prefix_of is.0
no_prefix (output k o a c) r is = ap prefix_of is.0
no_prefix (call f o xs c) r is = first_grouped (spelled f) _ r (λ x. prefix_of x ≡ None) (no_prefix f _ is.1)
no_prefix (index a o i c) r is = first_grouped (spelled a) _ r (λ x. prefix_of x ≡ None) (no_prefix a _ is.1)
no_prefix (prefixed t a) r is = absurd (let k : 2 ≤ 1 = is.0 in omega arith)
no_prefix (binary a t b) r is = absurd (let k : suc is.0 ≤ 1 = is.1 in let l : 3 ≤ suc is.0 = operator_low (suc is.0) (sort t) is.3 in omega arith)
no_prefix (choice c q a e b) r is = absurd (let k : 13 ≤ 1 = is.0 in omega arith)

-- whether an expression begins with the symbol
abbrev pub begins_expression : Sort → Bool
begins_expression s.Name = true
begins_expression s.Number = true
begins_expression s.Character = true
begins_expression s.LeftParen = true
begins_expression s.Input = true
begins_expression s.Output = true
begins_expression s.Minus = true
begins_expression s.Plus = true
begins_expression s.Tilde = true
begins_expression s.Bang = true
begins_expression _ = false

abbrev pub BeginsExpression : Sort → Type 0
BeginsExpression x = begins_expression x ≡ true

prefix_begins : (x : Sort) (op : Un) → prefix_of x ≡ Some op → BeginsExpression x
prefix_begins s.Minus op e = refl
prefix_begins s.Plus op e = refl
prefix_begins s.Tilde op e = refl
prefix_begins s.Bang op e = refl
prefix_begins _ op e = absurd cc

pub begins : (n : ℕ) (c : ExpressionDerivation) (r : List Token) → IsAt n c → BeginsExpression (first_sort (spelled c ++ r))
unfolding IsAt spelled
begins n (identifier t) r is = ap begins_expression is
begins n (constant t) r (inl e) = ap begins_expression e
begins n (constant t) r (inr e) = ap begins_expression e
begins n (bracketed o a c) r is = ap begins_expression is.0
begins n (input k o c) r is = ap begins_expression is.0
begins n (output k o a c) r is = ap begins_expression is.0
begins n (call f o xs c) r is = first_grouped (spelled f) _ r BeginsExpression (begins 1 f _ is.1)
begins n (index a o i c) r is = first_grouped (spelled a) _ r BeginsExpression (begins 1 a _ is.1)
begins n (prefixed t a) r is = prefix_begins (sort t) is.1.0 is.1.1
begins n (binary a t b) r is = first_grouped (spelled a) _ r BeginsExpression (begins (suc is.0) a _ is.2)
begins n (choice c q a e b) r is = first_grouped (spelled c) _ r BeginsExpression (begins 12 c _ is.1)

pub begins_other : (x y : Sort) → BeginsExpression x → begins_expression y ≡ false → x ≢ y
begins_other x y b o e = let f : true ≡ false = sym b ∙ (ap begins_expression e ∙ o) in cc

-- ---- tokens regrouped, and counted

pub regroup_last : (u : List Token) (c : Token) (r : List Token) → (u ++ c ∷ []) ++ r ≡ u ++ c ∷ r
regroup_last u c r = append_assoc u (c ∷ []) r

pub regroup_between : (u : List Token) (o : Token) (v r : List Token) → (u ++ o ∷ v) ++ r ≡ u ++ o ∷ (v ++ r)
regroup_between u o v r = append_assoc u (o ∷ v) r

pub regroup_enclosed : (u : List Token) (o : Token) (v : List Token) (c : Token) (r : List Token)
    → (u ++ o ∷ (v ++ c ∷ [])) ++ r ≡ u ++ o ∷ (v ++ c ∷ r)
regroup_enclosed u o v c r = append_assoc u (o ∷ (v ++ c ∷ [])) r ∙ ap (λ w. u ++ o ∷ w) (append_assoc v (c ∷ []) r)

pub count_last : (u : List Token) (c : Token) → length (u ++ c ∷ []) ≡ suc (length u)
count_last u c = length-append u (c ∷ []) ∙ omega arith

pub count_between : (u : List Token) (o : Token) (v : List Token) → length (u ++ o ∷ v) ≡ suc (length u + length v)
count_between u o v = length-append u (o ∷ v) ∙ omega arith

pub count_enclosed : (u : List Token) (o : Token) (v : List Token) (c : Token)
    → length (u ++ o ∷ (v ++ c ∷ [])) ≡ suc (suc (length u + length v))
count_enclosed u o v c = count_between u o (v ++ c ∷ []) ∙ (let e : length (v ++ c ∷ []) ≡ suc (length v) = count_last v c in omega (arith, e))
