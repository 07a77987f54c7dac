-- Readers of phrases, each with what comes after it; the line of a phrase's first token; loops, which take a token a turn.
use Rattle.std.proofs.Common.{◌≡◌, refl, sym, ◌∙◌, ap, subst, ℕ, zero, suc, ◌+◌, ◌-◌, ◌<◌, ◌≤◌, List, [], ◌∷◌, ◌++◌, length, ◌⊎◌, inl, inr, Ok, Err, Bool, true, false, if◌then◌else◌, arith}
use Rattle.std.proofs.lemmas.List.{append-nil, length-append}
use Rattle.std.specs.Bool.{⊤}
use Rattle.pw_grammar.specs.declared.sort.Sort.{Sort}
use Rattle.pw_grammar.specs.declared.sort.Sort.TheVariants as s
use Rattle.pw_grammar.specs.Terminals.{sort}
use Rattle.pw_grammar.specs.Expressions.{name_in}
use Rattle.pw_grammar.specs.Statements.{first_line}
use Rattle.pw_grammar.specs.Reading.Steps.{Position, ReadResult, Parser, ◌>>=◌, pure, refuse, next_sort, line_here, take, skip, name}
use Rattle.pw_grammar.proofs.Lawful.{Language, Agree, GoesOn, Says, Same, Lawful, Within, Lax, within, Seq, bind, Leaves, Shrinks, Pure, lawful_pure, same_passed, near_or_far}
use Rattle.pw_grammar.proofs.Branches.{Keeps, keeps, keeps_equal, keeps_refuse, lawful_test, keeps_within, keeps_bind_from}
use Rattle.pw_grammar.proofs.Tokens.{AName, a_name_is_lax, lawful_name, AToken, a_token_is_lax, keeps_take, take_leaves}
use Rattle.pw_grammar.proofs.Parts.{Then, keeps_then}
use Rattle.pw_lex.specs.declared.token.Token.{Token}

-- ---- a language of phrases

pub record Phrased {P A : Type 0} (Is : P → Type 0) (spell : P → List Token) (tree : ℕ → P → A) (at : ℕ) (a : A) (u : List Token) : Type 0 where
  pub phrase : P
  pub is : Is phrase
  pub spells : u ≡ spell phrase
  pub value_is : a ≡ tree at phrase

abbrev pub APhrase : {P A : Type 0} → (P → Type 0) → (P → List Token) → (ℕ → P → A) → Language A
APhrase Is spell tree = λ at a u x. Phrased Is spell tree at a u

pub a_phrase_is_lax : {P A : Type 0} (Is : P → Type 0) (spell : P → List Token) (tree : ℕ → P → A) → Lax (APhrase Is spell tree)
a_phrase_is_lax Is spell tree = λ at a u x y r o. r

-- a phrase, and what comes after it
pub record WithPhrase {P A B : Type 0} (Is : P → Type 0) (spell : P → List Token) (tree : ℕ → P → A) (M : A → Language B) (at : ℕ) (b : B) (u : List Token) (x : Sort) : Type 0 where
  pub phrase : P
  pub behind : List Token
  pub is : Is phrase
  pub splits : u ≡ spell phrase ++ behind
  pub second : M (tree at phrase) (at + length (spell phrase)) b behind x

pub phrase_then : {P A B : Type 0} (Is : P → Type 0) (spell : P → List Token) (tree : ℕ → P → A) (M : A → Language B)
    → Within (Seq (APhrase Is spell tree) M) (WithPhrase Is spell tree M)
phrase_then Is spell tree M at b u x y = record {
  phrase = y.first.phrase;
  behind = y.back;
  is = y.first.is;
  splits = y.splits ∙ ap (λ v. v ++ y.back) y.first.spells;
  second = subst (λ a. M a (at + length (spell y.first.phrase)) b y.back x) y.first.value_is
      (subst (λ v. M y.value (at + length v) b y.back x) y.first.spells y.second);
}

pub lawful_with_phrase : {P A B : Type 0} (n : ℕ) (Is : P → Type 0) (spell : P → List Token) (tree : ℕ → P → A) (M : A → Language B)
    (p q : Parser A) (f g : A → Parser B) → Lawful n (APhrase Is spell tree) p q → ((a : A) → Lawful n (M a) (f a) (g a))
    → Lawful n (WithPhrase Is spell tree M) (p >>= f) (q >>= g)
lawful_with_phrase n Is spell tree M p q f g l k =
    within (phrase_then Is spell tree M) (bind n (APhrase Is spell tree) M p q f g (a_phrase_is_lax Is spell tree) l k)

-- a name, and what comes after it
pub record WithName {B : Type 0} (M : List ℕ → Language B) (at : ℕ) (b : B) (u : List Token) (x : Sort) : Type 0 where
  pub token : Token
  pub behind : List Token
  pub sort_is : sort token ≡ s.Name
  pub splits : u ≡ token ∷ behind
  pub second : M (name_in token.kind) (suc at) b behind x

name_then : {B : Type 0} (M : List ℕ → Language B) → Within (Seq AName M) (WithName M)
name_then M at b u x y = record {
  token = y.first.token;
  behind = y.back;
  sort_is = y.first.sort_is;
  splits = y.splits ∙ ap (λ v. v ++ y.back) y.first.is;
  second = subst (λ a. M a (suc at) b y.back x) y.first.value_is
      (subst (λ n. M y.value n b y.back x) (let z : length y.front ≡ 1 = ap length y.first.is in omega (arith, z)) y.second);
}

pub lawful_with_name : {B : Type 0} (n : ℕ) (M : List ℕ → Language B) (f g : List ℕ → Parser B)
    → ((a : List ℕ) → Lawful n (M a) (f a) (g a)) → Lawful n (WithName M) (name >>= f) (name >>= g)
lawful_with_name n M f g k = within (name_then M) (bind n AName M name name f g a_name_is_lax (lawful_name n) k)

-- ---- fewer turns, and equal readers

pub fewer_than : {A : Type 0} (m n : ℕ) {L : Language A} {p q : Parser A} → m ≤ n → Lawful n L p q → Lawful m L p q
fewer_than m n {L} {p} {q} small l = record {
  settled = λ i short. l.settled i (let e : length i.rest < n = omega arith in e);
  says = l.says;
  steady = l.steady;
  can = l.can;
}

pub keeps_fewer : {A : Type 0} (c : Sort → Type 0) (n : ℕ) (L : Language A) (p q : Parser A) → Keeps c (suc n) L p q →
    Keeps c n L p q
keeps_fewer c n L p q l = record {
  settled = λ i h short. l.settled i h (let e : length i.rest < suc n = omega arith in e);
  says = l.says;
  steady = l.steady;
}

pub lawful_equal : {A : Type 0} (n : ℕ) (L : Language A) (p q r t : Parser A)
    → ((i : Position) → p i ≡ r i) → ((i : Position) → q i ≡ t i) → Lawful n L r t → Lawful n L p q
lawful_equal n L p q r t left right l =
    let k = keeps_equal (λ x. ⊤) n L p q r t (λ i h. left i) (λ i h. right i) (keeps (λ x. ⊤) n L r t l) in
    record {
      settled = λ i short. k.settled i tt short;
      says = λ i. k.says i tt;
      steady = λ m i j same. k.steady m i j tt same;
      can = l.can;
    }

-- ---- the first token's line

abbrev pub Lined : {B : Type 0} → (ℕ → Language B) → Language B
Lined M = λ at b u x. M (first_line u) at b u x

-- every phrase has a token
abbrev pub Full : {A : Type 0} → Language A → Type 0
Full {A} L = (at : ℕ) (a : A) (x : Sort) → L at a [] x → ⊥

read_lined : {B : Type 0} (M : ℕ → Language B) (at : ℕ) (b : B) (x : Sort) (u ts more : List Token) → ts ≡ u ++ more
    → Full (M (first_line ts)) → M (first_line ts) at b u x → M (first_line u) at b u x
read_lined M at b x [] ts more e full r = absurd (full at b x r)
read_lined M at b x (t ∷ u) ts more e full r = subst (λ ts. M (first_line ts) at b (t ∷ u) x) e r

goes_on_lined : {B : Type 0} (M : ℕ → Language B) (at : ℕ) (u ts more : List Token) → ts ≡ u ++ more
    → GoesOn (Lined M) at [] → GoesOn (M (first_line ts)) at u → GoesOn (Lined M) at u
goes_on_lined M at [] ts more e can g = can
goes_on_lined M at (t ∷ u) ts more e can g = record {
  rest = g.rest;
  value = g.value;
  reads = λ x o. subst (λ ts. M (first_line ts) at g.value (t ∷ (u ++ g.rest)) x) e (g.reads x o);
  starts = g.starts;
}

says_lined : {B : Type 0} (M : ℕ → Language B) (i : Position) (o : ReadResult B) → Full (M (first_line i.rest)) →
    GoesOn (Lined M) i.at []
    → Says (M (first_line i.rest)) i o → Says (Lined M) i o
says_lined M i (Ok p) full can r = record {
  tokens = r.tokens;
  leads = r.leads;
  reads = read_lined M i.at p.0 (next_sort p.1) r.tokens i.rest p.1.rest r.leads.rest full r.reads;
}
says_lined M i (Err e) full can r = record {
  tokens = r.tokens;
  place = r.place;
  leads = r.leads;
  is = r.is;
  goes_on = goes_on_lined M i.at r.tokens i.rest r.place.rest r.leads.rest can r.goes_on;
}

lines_agree : (k : ℕ) (i j : Position) → Agree k i j → i.at ≤ k → first_line j.rest ≡ first_line i.rest
lines_agree k i j same near = first_agrees same.shared i.rest j.rest same.more same.other same.left same.right
    (let e : k < i.at + length same.shared = same.far in omega arith)
  where
    first_agrees : (v x y w z : List Token) → x ≡ v ++ w → y ≡ v ++ z → 0 < length v → first_line y ≡ first_line x
    first_agrees [] x y w z e f long = absurd (omega arith)
    first_agrees (t ∷ v) x y w z e f long = ap first_line f ∙ sym (ap first_line e)

pub lawful_line : {B : Type 0} (n : ℕ) (M : ℕ → Language B) (f g : ℕ → Parser B) →
    ((line : ℕ) → Lawful n (M line) (f line) (g line))
    → ((line : ℕ) → Full (M line)) → ((at : ℕ) → GoesOn (Lined M) at []) → Lawful n (Lined M) (line_here >>= f) (line_here >>= g)
lawful_line n M f g l full can = record {
  settled = λ i short. (l (first_line i.rest)).settled i short;
  says = λ i. tells i;
  steady = λ k i j same. stays k i j same (near_or_far i.at k);
  can = can;
}
  where
    tells : (i : Position) → Says (Lined M) i (f (first_line i.rest) i)
    tells i = says_lined M i (f (first_line i.rest) i) (full (first_line i.rest)) (can i.at) ((l (first_line i.rest)).says i)

    stays : (k : ℕ) (i j : Position) → Agree k i j → (i.at ≤ k) ⊎ (k < i.at) →
        Same k (f (first_line i.rest) i) (f (first_line j.rest) j)
    stays k i j same (inl near) =
        subst (λ line. Same k (f (first_line i.rest) i) (f line j)) (sym (lines_agree k i j same near)) ((l (first_line i.rest)).steady k i j same)
    stays k i j same (inr far) = same_passed (Lined M) i k _ _ (tells i) far

-- ---- loops

fewer_left : (n : ℕ) (u : List Token) (a b : ℕ) → (u ≡ [] → ⊥) → a ≡ length u + b → a < n → b < n - 1
fewer_left n [] a b full e short = absurd (full refl)
fewer_left n (t ∷ u) a b full e short = omega arith

-- a reader of phrases that have tokens leaves fewer of them
pub full_shrinks : {A : Type 0} (n : ℕ) (L : Language A) (p : Parser A) → Full L → ((i : Position) → Says L i (p i)) →
    Shrinks n (n - 1) p
full_shrinks {A} n L p full says = λ i short. leaves i (p i) (says i) short
  where
    leaves : (i : Position) (o : ReadResult A) → Says L i o → length i.rest < n → Leaves (n - 1) o
    leaves i (Ok p) r short = fewer_left n r.tokens (length i.rest) (length p.1.rest)
        (λ e. full i.at p.0 (next_sort p.1) (subst (λ u. L i.at p.0 u (next_sort p.1)) e r.reads))
        (ap length r.leads.rest ∙ length-append r.tokens p.1.rest) short
    leaves i (Err e) r short = tt

-- no turns at all, for fewer than no tokens
pub lawful_no_turns : {A : Type 0} (L : Language A) (q : Parser A) → ((at : ℕ) → GoesOn L at []) → Lawful 0 L refuse q
lawful_no_turns L q can =
    let k = keeps_refuse (λ x. ⊤) 0 L can in
    record {
      settled = λ i short. absurd (omega arith);
      says = λ i. k.says i tt;
      steady = λ m i j same. k.steady m i j tt same;
      can = can;
    }

-- a token that was seen to be of a kind, at any number of turns
pub keeps_then_fewer : {B : Type 0} (c : Sort → Type 0) (n : ℕ) (M : ℕ → Language B) (f g : ℕ → Parser B) → (c s.End → ⊥)
    → ((line : ℕ) → Lawful (n - 1) (M line) (f line) (g line)) → Keeps c n (Then c M) (skip >>= f) (skip >>= g)
keeps_then_fewer c zero M f g ends l = keeps_fewer c zero _ _ _ (keeps_then c zero M f g ends (λ line. fewer_than zero (zero - 1) (omega arith) (l line)))
keeps_then_fewer c (suc n) M f g ends l = keeps_then c n M f g ends (λ line. fewer_than n (suc n - 1) (omega arith) (l line))

-- ---- a token of a kind, of which a value is kept

abbrev pub OneOf : {A : Type 0} → (Sort → Type 0) → (Token → A) → Language A
OneOf C f = APhrase (λ (t : Token). C (sort t)) (λ t. t ∷ []) (λ at t. f t)

one_of_is : {A : Type 0} (c C : Sort → Type 0) (f : Token → A) → ((x : Sort) → c x → C x) →
    Within (Seq (AToken c) (λ t. Pure (f t))) (OneOf C f)
one_of_is c C f implies at a u x r = record {
  phrase = r.value;
  is = implies (sort r.value) r.first.sort_is;
  spells = r.splits ∙ (ap (λ v. r.front ++ v) r.second.empty ∙ (append-nil r.front ∙ r.first.is));
  value_is = r.second.is;
}

shrunk : (n : ℕ) (i : Position) → length i.rest < n → Leaves n (take i)
unfolding take
shrunk n i short = take_leaves n i.at i.rest short

pub lawful_one_of : {A : Type 0} (n : ℕ) (t : Sort → Bool) (C : Sort → Type 0) (f : Token → A) →
    ((x : Sort) → t x ≡ true → C x) → (t s.End ≡ true → ⊥)
    → ((at : ℕ) → GoesOn (OneOf C f) at [])
    → Lawful n (OneOf C f) (λ i. if t (next_sort i) then (take >>= (λ t. pure (f t))) i else refuse i) (λ i. if t (next_sort i) then (take >>= (λ t. pure (f t))) i else refuse i)
lawful_one_of n t C f implies ends can = lawful_test t n (OneOf C f) _ _ _ _
    (keeps_within (λ x. t x ≡ true) n _ (OneOf C f) _ _ (one_of_is (λ x. t x ≡ true) C f implies)
    (keeps_bind_from (λ x. t x ≡ true) n n (AToken (λ x. t x ≡ true)) (λ t. Pure (f t)) take take (λ t. pure (f t)) (λ t. pure (f t)) (a_token_is_lax (λ x. t x ≡ true))
    (keeps_take (λ x. t x ≡ true) ends n) (λ t. lawful_pure n (f t)) (λ i short. leaves i short)))
    (keeps_refuse (λ x. t x ≡ false) n (OneOf C f) can) can
  where
    leaves : (i : Position) → length i.rest < n → Leaves n (take i)
    leaves i short = shrunk n i short
