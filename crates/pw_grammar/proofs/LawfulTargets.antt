-- What may stand before `=`: a name, or a name and an index, with no brackets round them.
use Rattle.std.proofs.Common.{◌≡◌, refl, sym, ◌∙◌, ap, ℕ, suc, ◌+◌, ◌<◌, ◌≤◌, List, length, ◌⊎◌, inl, inr, Bool, if◌then◌else◌, Option, Some, None, arith}
use Rattle.std.proofs.lemmas.Bool.{ne_eqb, eq-eqb}
use Rattle.std.specs.Bool.{⊤}
use Rattle.pw_grammar.specs.Expressions.{ExpressionDerivation, identifier, constant, bracketed, input, output, call, index, prefixed, binary, choice, spelled, expression_tree, name_in}
use Rattle.pw_grammar.specs.Reading.Statements.{target, target_of, word_of, unbracketed_word, with_index}
use Rattle.pw_tree.specs.declared.expr.Expr.{Expr, out-Expr}
use Rattle.pw_tree.specs.declared.expr.ExprKind.{ExprKind, out-ExprKind, out-roll-ExprKind}
use Rattle.pw_tree.specs.declared.expr.ExprKind.TheOpen.{ExprKind-F}
use Rattle.pw_tree.specs.declared.expr.ExprKind.TheVariants as e
use Rattle.pw_lex.specs.declared.token.Token.{Token}

-- ---- the form of a node

abbrev form : Expr → ExprKind-F ExprKind Expr
form a = out-ExprKind (out-Expr a).kind

abbrev first_of : Expr → ℕ
first_of a = (out-Expr a).first

form_of_num : (value : ℕ) (unsigned : Bool) → out-ExprKind (e.Num value unsigned) ≡ ExprKind-F.Num value unsigned
form_of_num value unsigned = ap out-ExprKind (sym (e.rolls-Num value unsigned)) ∙ out-roll-ExprKind (ExprKind-F.Num value unsigned)

form_of_word : (x : List ℕ) → out-ExprKind (e.Word x) ≡ ExprKind-F.Word x
form_of_word x = ap out-ExprKind (sym (e.rolls-Word x)) ∙ out-roll-ExprKind (ExprKind-F.Word x)

form_of_unary : (op : _) (a : Expr) → out-ExprKind (e.Unary op a) ≡ ExprKind-F.Unary op a
form_of_unary op a = ap out-ExprKind (sym (e.rolls-Unary op a)) ∙ out-roll-ExprKind (ExprKind-F.Unary op a)

form_of_binary : (op : _) (a b : Expr) → out-ExprKind (e.Binary op a b) ≡ ExprKind-F.Binary op a b
form_of_binary op a b = ap out-ExprKind (sym (e.rolls-Binary op a b)) ∙ out-roll-ExprKind (ExprKind-F.Binary op a b)

form_of_cond : (c a b : Expr) → out-ExprKind (e.Cond c a b) ≡ ExprKind-F.Cond c a b
form_of_cond c a b = ap out-ExprKind (sym (e.rolls-Cond c a b)) ∙ out-roll-ExprKind (ExprKind-F.Cond c a b)

form_of_call : (f : Expr) (xs : List Expr) → out-ExprKind (e.Call f xs) ≡ ExprKind-F.Call f xs
form_of_call f xs = ap out-ExprKind (sym (e.rolls-Call f xs)) ∙ out-roll-ExprKind (ExprKind-F.Call f xs)

form_of_index : (a i : Expr) → out-ExprKind (e.Index a i) ≡ ExprKind-F.Index a i
form_of_index a i = ap out-ExprKind (sym (e.rolls-Index a i)) ∙ out-roll-ExprKind (ExprKind-F.Index a i)

form_of_input : out-ExprKind e.Input ≡ ExprKind-F.Input
form_of_input = ap out-ExprKind (sym e.rolls-Input) ∙ out-roll-ExprKind ExprKind-F.Input

form_of_output : (a : Expr) → out-ExprKind (e.Output a) ≡ ExprKind-F.Output a
form_of_output a = ap out-ExprKind (sym (e.rolls-Output a)) ∙ out-roll-ExprKind (ExprKind-F.Output a)

-- ---- a phrase's tree begins at its first token or, in brackets, after it

begins_after : (at : ℕ) (c : ExpressionDerivation) → at ≤ first_of (expression_tree at c)
unfolding expression_tree
begins_after at (identifier t) = omega arith
begins_after at (constant t) = omega arith
begins_after at (bracketed o a c) = let b : suc at ≤ first_of (expression_tree (suc at) a) = begins_after (suc at) a in omega arith
begins_after at (input k o c) = omega arith
begins_after at (output k o a c) = omega arith
begins_after at (call f o xs c) = omega arith
begins_after at (index a o i c) = omega arith
begins_after at (prefixed t a) = omega arith
begins_after at (binary a t b) = omega arith
begins_after at (choice c q a n b) = omega arith

-- ---- what is no name

no_word_at : (first at : ℕ) (k : ExprKind-F ExprKind Expr) → first < at → unbracketed_word first at k ≡ None
no_word_at first at (ExprKind-F.Word x) later = ap (λ b. if b then Some x else None) (ne_eqb at first (λ e. omega arith))
no_word_at first at _ later = refl

-- neither a name nor an index
abbrev IsOther : ExprKind-F ExprKind Expr → Type 0
IsOther (ExprKind-F.Word x) = ⊥
IsOther (ExprKind-F.Index a i) = ⊥
IsOther _ = ⊤

other_word : (first at : ℕ) (k : ExprKind-F ExprKind Expr) → IsOther k → unbracketed_word first at k ≡ None
other_word first at (ExprKind-F.Word x) o = absurd o
other_word first at (ExprKind-F.Index a i) o = refl
other_word first at _ o = refl

no_word : (first : ℕ) (a : Expr) (k : ExprKind-F ExprKind Expr) → form a ≡ k → IsOther k → word_of first a ≡ None
no_word first a k e o = ap (λ k. unbracketed_word first (first_of a) k) e ∙ other_word first (first_of a) k o

other_target : (first : ℕ) (a : Expr) (k : ExprKind-F ExprKind Expr) → IsOther k →
    target_of first a k ≡ with_index None (word_of first a)
other_target first a (ExprKind-F.Word x) o = absurd o
other_target first a (ExprKind-F.Index b i) o = absurd o
other_target first a _ o = refl

no_target : (first : ℕ) (a : Expr) (k : ExprKind-F ExprKind Expr) → form a ≡ k → IsOther k → target first a ≡ None
unfolding target
no_target first a k e o = ap (λ k. target_of first a k) e ∙ (other_target first a k o ∙ ap (with_index None) (no_word first a k e o))

-- a tree that begins after the token
later_target_of : (first : ℕ) (a : Expr) (k : ExprKind-F ExprKind Expr) → first < first_of a → word_of first a ≡ None →
    target_of first a k ≡ None
later_target_of first a (ExprKind-F.Index b i) later w =
    ap (λ t. if t then with_index (Some i) (word_of first b) else None) (ne_eqb (first_of a) first (λ e. omega arith))
later_target_of first a _ later w = ap (with_index None) w

later_target : (first : ℕ) (a : Expr) → first < first_of a → target first a ≡ None
unfolding target
later_target first a later = later_target_of first a (form a) later (no_word_at first (first_of a) (form a) later)

-- ---- what a phrase is whose tree is a name at the beginning

record IsIdentifier (c : ExpressionDerivation) (x : List ℕ) : Type 0 where
  token : Token
  is : c ≡ identifier token
  name_is : x ≡ name_in token.kind

word_is : (at : ℕ) (t : Token) → word_of at (expression_tree at (identifier t)) ≡ Some (name_in t.kind)
unfolding expression_tree
word_is at t = ap (λ k. unbracketed_word at at k) (form_of_word (name_in t.kind)) ∙ ap (λ b. if b then Some (name_in t.kind) else None) (eq-eqb at at refl)

no_some : {A : Type 0} (x : Option A) (a : A) → x ≡ None → x ≡ Some a → ⊥
no_some x a e f = cc

word_phrase : (at : ℕ) (c : ExpressionDerivation) (x : List ℕ) → word_of at (expression_tree at c) ≡ Some x → IsIdentifier c x
unfolding expression_tree
word_phrase at (identifier t) x e = record { token = t; is = refl; name_is = let w = word_is at t in cc }
word_phrase at (constant t) x e = absurd (no_some _ x (no_word at (expression_tree at (constant t)) _ (form_of_num _ _) tt) e)
word_phrase at (bracketed o a c) x e = absurd (no_some _ x (no_word_at at (first_of (expression_tree (suc at) a)) _ (begins_after (suc at) a)) e)
word_phrase at (input k o c) x e = absurd (no_some _ x (no_word at (expression_tree at (input k o c)) _ form_of_input tt) e)
word_phrase at (output k o a c) x e = absurd (no_some _ x (no_word at (expression_tree at (output k o a c)) _ (form_of_output _) tt) e)
word_phrase at (call f o xs c) x e = absurd (no_some _ x (no_word at (expression_tree at (call f o xs c)) _ (form_of_call _ _) tt) e)
word_phrase at (index a o i c) x e = absurd (no_some _ x (ap (λ k. unbracketed_word at at k) (form_of_index _ _)) e)
word_phrase at (prefixed t a) x e = absurd (no_some _ x (no_word at (expression_tree at (prefixed t a)) _ (form_of_unary _ _) tt) e)
word_phrase at (binary a t b) x e = absurd (no_some _ x (no_word at (expression_tree at (binary a t b)) _ (form_of_binary _ _ _) tt) e)
word_phrase at (choice c q a n b) x e = absurd (no_some _ x (no_word at (expression_tree at (choice c q a n b)) _ (form_of_cond _ _ _) tt) e)

-- ---- what a phrase is that may stand before `=`

pub record IsWord (c : ExpressionDerivation) (to : List ℕ × Option Expr) : Type 0 where
  pub token : Token
  pub is : c ≡ identifier token
  pub to_is : to ≡ (name_in token.kind, None)

pub record IsElement (at : ℕ) (c : ExpressionDerivation) (to : List ℕ × Option Expr) : Type 0 where
  pub token : Token
  pub left : Token
  pub number : ExpressionDerivation
  pub right : Token
  pub is : c ≡ index (identifier token) left number right
  pub to_is : to ≡ (name_in token.kind, Some (expression_tree (suc (suc at)) number))

abbrev pub IsTarget : ℕ → ExpressionDerivation → List ℕ × Option Expr → Type 0
IsTarget at c to = IsWord c to ⊎ IsElement at c to

word_target : (at : ℕ) (t : Token) → target at (expression_tree at (identifier t)) ≡ Some (name_in t.kind, None)
unfolding target expression_tree
word_target at t = ap (λ k. target_of at (expression_tree at (identifier t)) k) (form_of_word (name_in t.kind)) ∙ ap (with_index None) (word_is at t)

index_target : (at : ℕ) (a i : ExpressionDerivation) (o c : Token) → target at (expression_tree at (index a o i c))
    ≡ with_index (Some (expression_tree (suc (at + length (spelled a))) i)) (word_of at (expression_tree at a))
unfolding target expression_tree
index_target at a i o c = ap (λ k. target_of at (expression_tree at (index a o i c)) k) (form_of_index _ _)
    ∙ ap (λ b. if b then with_index (Some (expression_tree (suc (at + length (spelled a))) i)) (word_of at (expression_tree at a)) else None) (eq-eqb at at refl)

element_number : (at : ℕ) (t : Token) → suc (at + length (spelled (identifier t))) ≡ suc (suc at)
unfolding spelled
element_number at t = omega arith

element_phrase : (at : ℕ) (a i : ExpressionDerivation) (o c : Token) (to : List ℕ × Option Expr) (w : Option (List ℕ)) →
    word_of at (expression_tree at a) ≡ w
    → with_index (Some (expression_tree (suc (at + length (spelled a))) i)) w ≡ Some to → IsTarget at (index a o i c) to
element_phrase at a i o c to None w e = absurd cc
element_phrase at a i o c to (Some x) w e =
    let n = word_phrase at a x w in
    inr (record {
      token = n.token;
      left = o;
      number = i;
      right = c;
      is = ap (λ a. index a o i c) n.is;
      to_is = sym (some_is _ to e)
          ∙ (ap (λ x. (x, Some (expression_tree (suc (at + length (spelled a))) i))) n.name_is
          ∙ ap (λ m. (name_in n.token.kind, Some (expression_tree m i))) (ap (λ a. suc (at + length (spelled a))) n.is ∙ element_number at n.token));
    })
  where
    some_is : {A : Type 0} (a b : A) → Some a ≡ Some b → a ≡ b
    some_is a b e = cc

pub target_phrase : (at : ℕ) (c : ExpressionDerivation) (to : List ℕ × Option Expr) →
    target at (expression_tree at c) ≡ Some to → IsTarget at c to
unfolding expression_tree
target_phrase at (identifier t) to e = inl (record { token = t; is = refl; to_is = let w = word_target at t in cc })
target_phrase at (constant t) to e = absurd (no_some _ to (no_target at (expression_tree at (constant t)) _ (form_of_num _ _) tt) e)
target_phrase at (bracketed o a c) to e = absurd (no_some _ to (later_target at (expression_tree (suc at) a) (begins_after (suc at) a)) e)
target_phrase at (input k o c) to e = absurd (no_some _ to (no_target at (expression_tree at (input k o c)) _ form_of_input tt) e)
target_phrase at (output k o a c) to e = absurd (no_some _ to (no_target at (expression_tree at (output k o a c)) _ (form_of_output _) tt) e)
target_phrase at (call f o xs c) to e = absurd (no_some _ to (no_target at (expression_tree at (call f o xs c)) _ (form_of_call _ _) tt) e)
target_phrase at (index a o i c) to e =
    element_phrase at a i o c to (word_of at (expression_tree at a)) refl (sym (index_target at a i o c) ∙ e)
target_phrase at (prefixed t a) to e = absurd (no_some _ to (no_target at (expression_tree at (prefixed t a)) _ (form_of_unary _ _) tt) e)
target_phrase at (binary a t b) to e = absurd (no_some _ to (no_target at (expression_tree at (binary a t b)) _ (form_of_binary _ _ _) tt) e)
target_phrase at (choice c q a n b) to e = absurd (no_some _ to (no_target at (expression_tree at (choice c q a n b)) _ (form_of_cond _ _ _) tt) e)
