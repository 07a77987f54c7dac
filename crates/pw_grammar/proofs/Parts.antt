-- Readers in parts: where one stands, a token, an expression, a node, each with what comes after it.
use Rattle.std.proofs.Common.{◌≡◌, refl, sym, ◌∙◌, ap, subst, ℕ, suc, ◌+◌, ◌-◌, List, [], ◌∷◌, ◌++◌, length, inl, Ok, Err, false, arith}
use Rattle.pw_grammar.specs.declared.sort.Sort.{Sort}
use Rattle.pw_grammar.specs.declared.sort.Sort.TheVariants as s
use Rattle.pw_grammar.specs.Terminals.{sort, sort_of}
use Rattle.pw_grammar.specs.Expressions.{ExpressionDerivation, constant, spelled, IsAt, expression_tree}
use Rattle.pw_grammar.specs.Reading.Steps.{Position, ReadResult, Parser, ◌>>=◌, here, skip, expect, finish}
use Rattle.pw_grammar.proofs.Lawful.{Language, GoesOn, Says, Same, Lawful, Within, Lax, within, Seq, bind, leads_nowhere}
use Rattle.pw_grammar.proofs.Branches.{Keeps, keeps_within, keeps_bind_from}
use Rattle.pw_grammar.proofs.Tokens.{ALine, One, Sample, a_token, a_line_is_lax, keeps_skip, lawful_expect, skip_shrinks}
use Rattle.pw_tree.specs.declared.expr.Expr.{Expr, roll-Expr}
use Rattle.pw_tree.specs.declared.expr.ExprKind.{ExprKind}
use Rattle.pw_lex.specs.declared.token.Token.{Token}
use Rattle.pw_lex.specs.declared.token.TokenKind.TheVariants as t

-- ---- the language of a level

pub record IsExpression (n at : ℕ) (a : Expr) (u : List Token) : Type 0 where
  pub phrase : ExpressionDerivation
  pub is : IsAt n phrase
  pub spells : u ≡ spelled phrase
  pub tree : a ≡ expression_tree at phrase

abbrev pub AnExpression : ℕ → Language Expr
AnExpression n = λ at a u x. IsExpression n at a u

pub an_expression_is_lax : (n : ℕ) → Lax (AnExpression n)
an_expression_is_lax n = λ at a u x y r o. r

-- any expression goes on to a number
pub expression_goes_on : (n at : ℕ) → GoesOn (AnExpression n) at []
unfolding spelled IsAt expression_tree sort_of
expression_goes_on n at = record {
  rest = a_token (t.Number 1 false) ∷ [];
  value = expression_tree at (constant (a_token (t.Number 1 false)));
  reads = λ x o. record { phrase = constant (a_token (t.Number 1 false)); is = inl refl; spells = refl; tree = refl };
  starts = λ e x o. λ p. cc;
}

-- ---- where a reader stands, and nodes

pub record IsHere (at a : ℕ) (u : List Token) : Type 0 where
  pub is : a ≡ at
  pub empty : u ≡ []

abbrev pub AtHere : Language ℕ
AtHere = λ at a u x. IsHere at a u

pub lawful_here : (n : ℕ) → Lawful n AtHere here here
lawful_here n = record {
  settled = λ i short. refl;
  says = λ i. record { tokens = []; leads = leads_nowhere i; reads = record { is = refl; empty = refl } };
  steady = λ k i j same near. record { place = j; is = ap (λ at. Ok (at, j)) (sym same.at); agree = same };
  can = λ at. record { rest = []; value = at; reads = λ x o. record { is = refl; empty = refl }; starts = λ e x o. o };
}

pub record IsNode (first line : ℕ) (kind : ExprKind) (at : ℕ) (a : Expr) (u : List Token) : Type 0 where
  pub is : a ≡ roll-Expr (record { first = first; last = at - 1; line = line; kind = kind })
  pub empty : u ≡ []

abbrev pub ANode : ℕ → ℕ → ExprKind → Language Expr
ANode first line kind = λ at a u x. IsNode first line kind at a u

pub lawful_finish : (n first line : ℕ) (kind : ExprKind) →
    Lawful n (ANode first line kind) (finish first line kind) (finish first line kind)
lawful_finish n first line kind = record {
  settled = λ i short. refl;
  says = λ i. record { tokens = []; leads = leads_nowhere i; reads = record { is = refl; empty = refl } };
  steady = λ k i j same near. record
      { place = j; is = ap (λ at. Ok (roll-Expr (record { first = first; last = at - 1; line = line; kind = kind }), j)) (sym same.at); agree = same };
  can = λ at. record { rest = []; value = _; reads = λ x o. record { is = refl; empty = refl }; starts = λ e x o. o };
}

-- ---- parts, each with what comes after it

-- the place, and what is read there
abbrev pub Here : {B : Type 0} → (ℕ → Language B) → Language B
Here M = λ at b u x. M at at b u x

here_then : {B : Type 0} (M : ℕ → Language B) → Within (Seq AtHere M) (Here M)
here_then M at b u x y = subst (λ m. M m at b u x) y.first.is (subst (λ v. M y.value at b v x) (sym (y.splits ∙ ap (λ v. v ++ y.back) y.first.empty)) (at_front y.front y.first.empty))
  where
    at_front : (front : List Token) → front ≡ [] → M y.value at b y.back x
    at_front front e = subst (λ n. M y.value n b y.back x) (let z : length y.front ≡ 0 = ap length y.first.empty in omega (arith, z)) y.second

pub lawful_from : {B : Type 0} (n : ℕ) (M : ℕ → Language B) (f g : ℕ → Parser B) → ((at : ℕ) → Lawful n (M at) (f at) (g at))
    → Lawful n (Here M) (here >>= f) (here >>= g)
lawful_from n M f g l = within (here_then M) (bind n AtHere M here here f g (λ at a u x y r o. r) (lawful_here n) l)

-- the same where the next token is of a kind
says_here : {B : Type 0} (M : ℕ → Language B) (i : Position) (o : ReadResult B) → Says (M i.at) i o → Says (Here M) i o
says_here M i (Ok p) r = record { tokens = r.tokens; leads = r.leads; reads = r.reads }
says_here M i (Err e) r = record {
  tokens = r.tokens;
  place = r.place;
  leads = r.leads;
  is = r.is;
  goes_on = record { rest = r.goes_on.rest; value = r.goes_on.value; reads = r.goes_on.reads; starts = r.goes_on.starts };
}

pub keeps_from : {B : Type 0} (c : Sort → Type 0) (n : ℕ) (M : ℕ → Language B) (f g : ℕ → Parser B)
    → ((at : ℕ) → Keeps c n (M at) (f at) (g at)) → Keeps c n (Here M) (here >>= f) (here >>= g)
keeps_from c n M f g l = record {
  settled = λ i h short. (l i.at).settled i h short;
  says = λ i h. says_here M i (f i.at i) ((l i.at).says i h);
  steady = λ k i j h same. subst (λ at. Same k (f i.at i) (f at j)) same.at ((l i.at).steady k i j h same);
}

-- a token of a kind, and what comes after it
pub record Then {B : Type 0} (c : Sort → Type 0) (M : ℕ → Language B) (at : ℕ) (b : B) (u : List Token) (x : Sort) : Type 0 where
  pub token : Token
  pub behind : List Token
  pub splits : u ≡ token ∷ behind
  pub sort_is : c (sort token)
  pub second : M token.line (suc at) b behind x

line_then : {B : Type 0} (c : Sort → Type 0) (M : ℕ → Language B) → Within (Seq (ALine c) M) (Then c M)
line_then c M at b u x y = record {
  token = y.first.token;
  behind = y.back;
  splits = y.splits ∙ ap (λ v. v ++ y.back) y.first.is;
  sort_is = y.first.sort_is;
  second = subst (λ line. M line (suc at) b y.back x) y.first.line
      (subst (λ n. M y.value n b y.back x) (let z : length y.front ≡ 1 = ap length y.first.is in omega (arith, z)) y.second);
}

-- a token of this sort
pub lawful_then : {B : Type 0} (n : ℕ) (z : Sort) (M : ℕ → Language B) (f g : ℕ → Parser B) → Sample z
    → ((line : ℕ) → Lawful n (M line) (f line) (g line)) → Lawful n (Then (λ y. y ≡ z) M) (expect z >>= f) (expect z >>= g)
lawful_then n z M f g t l = within (line_then (λ y. y ≡ z) M)
    (bind n (One z) M (expect z) (expect z) f g (a_line_is_lax (λ y. y ≡ z)) (lawful_expect n z t) l)

-- a token that was seen to be of a kind; after it, one token fewer is left
pub keeps_then : {B : Type 0} (c : Sort → Type 0) (n : ℕ) (M : ℕ → Language B) (f g : ℕ → Parser B) → (c s.End → ⊥)
    → ((line : ℕ) → Lawful n (M line) (f line) (g line)) → Keeps c (suc n) (Then c M) (skip >>= f) (skip >>= g)
keeps_then c n M f g ends l = keeps_within c (suc n) _ _ _ _ (line_then c M)
    (keeps_bind_from c (suc n) n (ALine c) M skip skip f g (a_line_is_lax c) (keeps_skip c ends (suc n)) l (skip_shrinks n))

-- an expression of a level, and what comes after it
pub record WithExpression {B : Type 0} (n : ℕ) (M : Expr → Language B) (at : ℕ) (b : B) (u : List Token) (x : Sort) : Type 0 where
  pub phrase : ExpressionDerivation
  pub behind : List Token
  pub is : IsAt n phrase
  pub splits : u ≡ spelled phrase ++ behind
  pub second : M (expression_tree at phrase) (at + length (spelled phrase)) b behind x

expression_then : {B : Type 0} (n : ℕ) (M : Expr → Language B) → Within (Seq (AnExpression n) M) (WithExpression n M)
expression_then n M at b u x y = record {
  phrase = y.first.phrase;
  behind = y.back;
  is = y.first.is;
  splits = y.splits ∙ ap (λ v. v ++ y.back) y.first.spells;
  second = subst (λ a. M a (at + length (spelled y.first.phrase)) b y.back x) y.first.tree
      (subst (λ v. M y.value (at + length v) b y.back x) y.first.spells y.second);
}

pub lawful_with : {B : Type 0} (m n : ℕ) (M : Expr → Language B) (p q : Parser Expr) (f g : Expr → Parser B)
    → Lawful m (AnExpression n) p q → ((a : Expr) → Lawful m (M a) (f a) (g a)) → Lawful m (WithExpression n M) (p >>= f) (q >>= g)
lawful_with m n M p q f g l k = within (expression_then n M) (bind m (AnExpression n) M p q f g (an_expression_is_lax n) l k)
