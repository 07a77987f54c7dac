-- What every reader of this grammar keeps: enough turns are enough; what was read is a phrase, and where it stops a
-- phrase goes on; and its answer at a token depends on no later token. Each is kept by doing one reader after another.
use Rattle.std.proofs.Common.{◌≡◌, ◌≢◌, refl, sym, ◌∙◌, ap, subst, ℕ, zero, suc, ◌+◌, ◌<◌, ◌≤◌, List, [], ◌∷◌, ◌++◌, length, ◌⊎◌, inl, inr, Ok, Err, arith}
use Rattle.std.proofs.lemmas.List.{append_assoc, length-append}
use Rattle.std.specs.Bool.{⊤}
use Rattle.std.proofs.Math.Nat.{add_assoc}
use Rattle.pw_grammar.specs.declared.sort.Sort.{Sort}
use Rattle.pw_grammar.specs.declared.sort.Sort.TheVariants as s
use Rattle.pw_grammar.specs.declared.error.SyntaxError.{SyntaxError}
use Rattle.pw_grammar.specs.declared.error.SyntaxError.TheVariants.{At}
use Rattle.pw_grammar.specs.Terminals.{sort, first_sort}
use Rattle.pw_grammar.specs.Faults.{token_of}
use Rattle.pw_grammar.specs.Reading.Steps.{Position, ReadResult, Parser, read_then, ◌>>=◌, pure, next_sort}
use Rattle.pw_lex.specs.declared.token.Token.{Token}

-- A language: the values that own tokens have, from the first one's number on and before a token of a sort.
abbrev pub Language : Type 0 → Type 1
Language A = ℕ → A → List Token → Sort → Type 0

-- the sort of the first token, or of what follows
abbrev pub sort_before : List Token → Sort → Sort
sort_before [] x = x
sort_before (t ∷ ts) x = sort t

-- ---- places

-- these tokens lead from one place to another
pub record Leads (i : Position) (u : List Token) (j : Position) : Type 0 where
  pub rest : i.rest ≡ u ++ j.rest
  pub at : j.at ≡ i.at + length u

-- two places before the same tokens, as far as token k at least
pub record Agree (k : ℕ) (i j : Position) : Type 0 where
  pub at : i.at ≡ j.at
  pub shared : List Token
  pub more : List Token
  pub other : List Token
  pub left : i.rest ≡ shared ++ more
  pub right : j.rest ≡ shared ++ other
  pub far : k < i.at + length shared

-- ---- outcomes

-- the tokens go on to a phrase, before whatever follows but an `else`
pub record GoesOn {A : Type 0} (L : Language A) (at : ℕ) (u : List Token) : Type 0 where
  pub rest : List Token
  pub value : A
  pub reads : (x : Sort) → x ≢ s.Else → L at value (u ++ rest) x
  pub starts : u ≡ [] → (x : Sort) → x ≢ s.Else → sort_before rest x ≢ s.Else

pub record HasRead {A : Type 0} (L : Language A) (i : Position) (a : A) (j : Position) : Type 0 where
  pub tokens : List Token
  pub leads : Leads i tokens j
  pub reads : L i.at a tokens (next_sort j)

pub record HasStopped {A : Type 0} (L : Language A) (i : Position) (fault : SyntaxError) : Type 0 where
  pub tokens : List Token
  pub place : Position
  pub leads : Leads i tokens place
  pub is : fault ≡ At place.at
  pub goes_on : GoesOn L i.at tokens

-- what an outcome says of the place where the reader began
abbrev pub Says : {A : Type 0} → Language A → Position → ReadResult A → Type 0
Says L i (Ok p) = HasRead L i p.0 p.1
Says L i (Err fault) = HasStopped L i fault

pub record Reaches {A : Type 0} (k : ℕ) (a : A) (j : Position) (outcome : ReadResult A) : Type 0 where
  pub place : Position
  pub is : outcome ≡ Ok (a, place)
  pub agree : Agree k j place

-- the second outcome is the first, unless that passes token k
abbrev pub Same : {A : Type 0} → ℕ → ReadResult A → ReadResult A → Type 0
Same k (Ok p) other = p.1.at ≤ k → Reaches k p.0 p.1 other
Same k (Err fault) other = (m : ℕ) → fault ≡ At m → m ≤ k → other ≡ Err fault

-- ---- the laws of a reader p, and of the same reader q with more turns, where n turns are more than the tokens
pub record Lawful {A : Type 0} (n : ℕ) (L : Language A) (p q : Parser A) : Type 0 where
  pub settled : (i : Position) → length i.rest < n → p i ≡ q i
  pub says : (i : Position) → Says L i (p i)
  pub steady : (k : ℕ) (i j : Position) → Agree k i j → Same k (p i) (p j)
  pub can : (at : ℕ) → GoesOn L at []

-- ---- one language inside another

abbrev pub Within : {A : Type 0} → Language A → Language A → Type 0
Within {A} L M = (at : ℕ) (a : A) (u : List Token) (x : Sort) → L at a u x → M at a u x

-- what is read does not depend on what follows, unless that is an `else`
abbrev pub Lax : {A : Type 0} → Language A → Type 0
Lax {A} L = (at : ℕ) (a : A) (u : List Token) (x y : Sort) → L at a u x → y ≢ s.Else → L at a u y

pub goes_on_within : {A : Type 0} {L M : Language A} {at : ℕ} {u : List Token} → Within L M → GoesOn L at u → GoesOn M at u
goes_on_within {A} {L} {M} {at} {u} w g = record {
  rest = g.rest;
  value = g.value;
  reads = λ x o. w at g.value (u ++ g.rest) x (g.reads x o);
  starts = g.starts;
}

pub says_within : {A : Type 0} {L M : Language A} → Within L M → (i : Position) (o : ReadResult A) → Says L i o → Says M i o
says_within w i (Ok p) r = record { tokens = r.tokens; leads = r.leads; reads = w i.at p.0 r.tokens (next_sort p.1) r.reads }
says_within w i (Err e) r = record { tokens = r.tokens; place = r.place; leads = r.leads; is = r.is; goes_on = goes_on_within w r.goes_on }

pub within : {A : Type 0} {n : ℕ} {L M : Language A} {p q : Parser A} → Within L M → Lawful n L p q → Lawful n M p q
within {A} {n} {L} {M} {p} {q} w l = record {
  settled = l.settled;
  says = λ i. says_within w i (p i) (l.says i);
  steady = l.steady;
  can = λ at. goes_on_within w (l.can at);
}

-- fewer turns
pub fewer : {A : Type 0} {n : ℕ} {L : Language A} {p q : Parser A} → Lawful (suc n) L p q → Lawful n L p q
fewer {A} {n} {L} {p} {q} l = record {
  settled = λ i short. l.settled i (let e : length i.rest < suc n = omega arith in e);
  says = l.says;
  steady = l.steady;
  can = l.can;
}

-- ---- a value, and no token

pub record Nothing {A : Type 0} (value : A) (a : A) (u : List Token) : Type 0 where
  pub is : a ≡ value
  pub empty : u ≡ []

abbrev pub Pure : {A : Type 0} → A → Language A
Pure value = λ at a u x. Nothing value a u

pub leads_nowhere : (i : Position) → Leads i [] i
leads_nowhere i = record { rest = refl; at = omega arith }

pub lawful_pure : {A : Type 0} (n : ℕ) (a : A) → Lawful n (Pure a) (pure a) (pure a)
lawful_pure n a = record {
  settled = λ i short. refl;
  says = λ i. record { tokens = []; leads = leads_nowhere i; reads = record { is = refl; empty = refl } };
  steady = λ k i j same near. record { place = j; is = refl; agree = same };
  can = λ at. record
      { rest = []; value = a; reads = λ x o. record { is = refl; empty = refl }; starts = λ e x o. o };
}

-- ---- one reader after another

-- own tokens in two parts, the second read by the first's value
pub record Seq {A B : Type 0} (L : Language A) (M : A → Language B) (at : ℕ) (b : B) (u : List Token) (x : Sort) : Type 0 where
  pub value : A
  pub front : List Token
  pub back : List Token
  pub splits : u ≡ front ++ back
  pub first : L at value front (sort_before back x)
  pub second : M value (at + length front) b back x

sort_before_append : (u v : List Token) (x : Sort) → sort_before (u ++ v) x ≡ sort_before u (sort_before v x)
sort_before_append [] v x = refl
sort_before_append (t ∷ u) v x = refl

no_cons : {A : Type 0} (t : A) (u : List A) → t ∷ u ≡ [] → ⊥
no_cons t u e = cc

both_empty : {A : Type 0} (u v : List A) → u ++ v ≡ [] → (u ≡ []) × (v ≡ [])
both_empty [] v e = (refl, e)
both_empty (t ∷ u) v e = absurd (no_cons t (u ++ v) e)

-- where the first part stops
pub stops_first : {A B : Type 0} (L : Language A) (M : A → Language B) (at : ℕ) (u : List Token)
    → (g : GoesOn L at u) → GoesOn (M g.value) (at + length (u ++ g.rest)) [] → GoesOn (Seq L M) at u
stops_first L M at u g h = record {
  rest = g.rest ++ h.rest;
  value = h.value;
  reads = λ x o. record {
    value = g.value;
    front = u ++ g.rest;
    back = h.rest;
    splits = sym (append_assoc u g.rest h.rest);
    first = g.reads (sort_before h.rest x) (h.starts refl x o);
    second = h.reads x o;
  };
  starts = λ e x o. subst (λ y. y ≢ s.Else) (sym (sort_before_append g.rest h.rest x)) (g.starts e (sort_before h.rest x) (h.starts refl x o));
}

-- what the first part was read before, where the second stops
first_reads : {A : Type 0} (L : Language A) (lax : Lax L) (at : ℕ) (a : A) (u v : List Token) (j : Position) (w rest : List Token) (x : Sort)
    → j.rest ≡ v ++ w → L at a u (next_sort j) → (v ≡ [] → sort_before rest x ≢ s.Else) → L at a u (sort_before (v ++ rest) x)
first_reads L lax at a u [] j w rest x e r fresh = lax at a u (next_sort j) (sort_before rest x) r (fresh refl)
first_reads L lax at a u (t ∷ v) j w rest x e r fresh = subst (λ ts. L at a u (first_sort ts)) e r

stops_second : {A B : Type 0} (L : Language A) (M : A → Language B) (lax : Lax L) (i j : Position) (a : A) (u v : List Token) (k : Position)
    → Leads i u j → L i.at a u (next_sort j) → Leads j v k → GoesOn (M a) j.at v → GoesOn (Seq L M) i.at (u ++ v)
stops_second L M lax i j a u v k first r second g = record {
  rest = g.rest;
  value = g.value;
  reads = λ x o. record {
    value = a;
    front = u;
    back = v ++ g.rest;
    splits = append_assoc u v g.rest;
    first = first_reads L lax i.at a u v j k.rest g.rest x second.rest r (λ e. g.starts e x o);
    second = subst (λ at. M a at g.value (v ++ g.rest) x) first.at (g.reads x o);
  };
  starts = λ e x o. g.starts (both_empty u v e).1 x o;
}

count_on : (at : ℕ) (u v : List Token) → at + length u + length v ≡ at + length (u ++ v)
count_on at u v = add_assoc at (length u) (length v) ∙ ap (λ n. at + n) (sym (length-append u v))

leads_on : (i j k : Position) (u v : List Token) → Leads i u j → Leads j v k → Leads i (u ++ v) k
leads_on i j k u v first second = record {
  rest = first.rest ∙ (ap (λ ts. u ++ ts) second.rest ∙ sym (append_assoc u v k.rest));
  at = second.at ∙ (ap (λ n. n + length v) first.at ∙ count_on i.at u v);
}

read_before : {A : Type 0} (L : Language A) (at : ℕ) (a : A) (u : List Token) (j : Position) (v : List Token) (k : Position)
    → j.rest ≡ v ++ k.rest → L at a u (next_sort j) → L at a u (sort_before v (next_sort k))
read_before L at a u j [] k e r = subst (λ ts. L at a u (first_sort ts)) e r
read_before L at a u j (t ∷ v) k e r = subst (λ ts. L at a u (first_sort ts)) e r

says_second : {A B : Type 0} (L : Language A) (M : A → Language B) (lax : Lax L) (i j : Position) (a : A) → HasRead L i a j
    → (o : ReadResult B) → Says (M a) j o → Says (Seq L M) i o
says_second L M lax i j a r (Ok p) q = record {
  tokens = r.tokens ++ q.tokens;
  leads = leads_on i j p.1 r.tokens q.tokens r.leads q.leads;
  reads = record {
    value = a;
    front = r.tokens;
    back = q.tokens;
    splits = refl;
    first = read_before L i.at a r.tokens j q.tokens p.1 q.leads.rest r.reads;
    second = subst (λ at. M a at p.0 q.tokens (next_sort p.1)) r.leads.at q.reads;
  };
}
says_second L M lax i j a r (Err e) q = record {
  tokens = r.tokens ++ q.tokens;
  place = q.place;
  leads = leads_on i j q.place r.tokens q.tokens r.leads q.leads;
  is = q.is;
  goes_on = stops_second L M lax i j a r.tokens q.tokens q.place r.leads r.reads q.leads q.goes_on;
}

pub says_both : {A B : Type 0} (L : Language A) (M : A → Language B) (lax : Lax L) (f : A → Parser B)
    → ((a : A) (j : Position) → Says (M a) j (f a j)) → ((a : A) (at : ℕ) → GoesOn (M a) at [])
    → (i : Position) (o : ReadResult A) → Says L i o → Says (Seq L M) i (read_then o f)
says_both L M lax f says can i (Ok p) r = says_second L M lax i p.1 p.0 r (f p.0 p.1) (says p.0 p.1)
says_both L M lax f says can i (Err e) r = record {
  tokens = r.tokens;
  place = r.place;
  leads = r.leads;
  is = r.is;
  goes_on = stops_first L M i.at r.tokens r.goes_on (can r.goes_on.value (i.at + length (r.tokens ++ r.goes_on.rest)));
}

-- ---- the second outcome is the first

-- an outcome is not before the place where the reader began
forward_ok : {A : Type 0} (L : Language A) (i : Position) (a : A) (j : Position) → HasRead L i a j → i.at ≤ j.at
forward_ok L i a j r = subst (λ n. i.at ≤ n) (sym r.leads.at) (omega arith)

forward_err : {A : Type 0} (L : Language A) (i : Position) (e : SyntaxError) (m : ℕ) → HasStopped L i e → e ≡ At m → i.at ≤ m
forward_err L i e m r is = let same : m ≡ r.place.at = ap token_of (sym is ∙ r.is) in omega (arith, same, r.leads.at)

pub same_passed : {A : Type 0} (L : Language A) (i : Position) (k : ℕ) (o other : ReadResult A) → Says L i o → k < i.at →
    Same k o other
same_passed L i k (Ok p) other r far = λ near. absurd (let on : i.at ≤ p.1.at = forward_ok L i p.0 p.1 r in omega arith)
same_passed L i k (Err e) other r far = λ m is near. absurd (let on : i.at ≤ m = forward_err L i e m r is in omega arith)

pub near_or_far : (n k : ℕ) → (n ≤ k) ⊎ (k < n)
near_or_far zero k = inl (omega arith)
near_or_far (suc n) zero = inr (omega arith)
near_or_far (suc n) (suc k) = one_more (near_or_far n k)
  where
    one_more : (n ≤ k) ⊎ (k < n) → (suc n ≤ suc k) ⊎ (suc k < suc n)
    one_more (inl e) = inl (omega arith)
    one_more (inr e) = inr (omega arith)

same_second : {A B : Type 0} (L : Language A) (M : A → Language B) (f : A → Parser B) (k : ℕ) (a : A) (j : Position) (other : ReadResult A)
    → Says (M a) j (f a j) → ((a : A) (j l : Position) → Agree k j l → Same k (f a j) (f a l))
    → (j.at ≤ k → Reaches k a j other) → (j.at ≤ k) ⊎ (k < j.at) → Same k (f a j) (read_then other f)
same_second L M f k a j other says steady same (inl near) =
    let r = same near in subst (λ o. Same k (f a j) (read_then o f)) (sym r.is) (steady a j r.place r.agree)
same_second L M f k a j other says steady same (inr far) = same_passed (M a) j k (f a j) (read_then other f) says far

pub same_both : {A B : Type 0} (L : Language A) (M : A → Language B) (f : A → Parser B) (k : ℕ) (o other : ReadResult A)
    → ((a : A) (j : Position) → Says (M a) j (f a j)) → ((a : A) (j l : Position) → Agree k j l → Same k (f a j) (f a l))
    → Same k o other → Same k (read_then o f) (read_then other f)
same_both L M f k (Err e) other says steady same = λ m is near. ap (λ o. read_then o f) (same m is near)
same_both L M f k (Ok p) other says steady same = same_second L M f k p.0 p.1 other (says p.0 p.1) steady same (near_or_far p.1.at k)

-- ---- settled

-- what is left of the tokens, where an outcome is a value
abbrev pub Leaves : {A : Type 0} → ℕ → ReadResult A → Type 0
Leaves n (Ok p) = length p.1.rest < n
Leaves n (Err e) = ⊤

pub settled_both : {A B : Type 0} (f g : A → Parser B) (n : ℕ) (o : ReadResult A)
    → ((a : A) (j : Position) → length j.rest < n → f a j ≡ g a j) → Leaves n o → read_then o f ≡ read_then o g
settled_both f g n (Ok p) same left = same p.0 p.1 left
settled_both f g n (Err e) same left = refl

-- p leaves fewer than n tokens of fewer than m
abbrev pub Shrinks : {A : Type 0} → ℕ → ℕ → Parser A → Type 0
Shrinks m n p = (i : Position) → length i.rest < m → Leaves n (p i)

-- ---- the law for one reader after another

pub bind_from : {A B : Type 0} (m n : ℕ) (L : Language A) (M : A → Language B) (p q : Parser A) (f g : A → Parser B)
    → Lax L → Lawful m L p q → ((a : A) → Lawful n (M a) (f a) (g a)) → Shrinks m n p → Lawful m (Seq L M) (p >>= f) (q >>= g)
bind_from m n L M p q f g lax first second shrinks = record {
  settled = λ i short. settled_both f g n (p i) (λ a j left. (second a).settled j left) (shrinks i short) ∙ ap (λ o. read_then o g) (first.settled i short);
  says = λ i. says_both L M lax f (λ a j. (second a).says j) (λ a at. (second a).can at) i (p i) (first.says i);
  steady = λ k i j same. same_both L M f k (p i) (p j) (λ a l. (second a).says l) (λ a l o. (second a).steady k l o) (first.steady k i j same);
  can = λ at. stops_first L M at [] (first.can at) ((second (first.can at).value).can (at + length (first.can at).rest));
}

shorter : (n a b m : ℕ) → n ≡ a + b → n < m → b < m
shorter n a b m e short = omega arith

pub leaves_fewer : {A : Type 0} (L : Language A) (i : Position) (m : ℕ) (o : ReadResult A) → Says L i o → length i.rest < m →
    Leaves m o
leaves_fewer L i m (Ok p) r short = shorter (length i.rest) (length r.tokens) (length p.1.rest) m (ap length r.leads.rest ∙ length-append r.tokens p.1.rest) short
leaves_fewer L i m (Err e) r short = tt

pub bind : {A B : Type 0} (n : ℕ) (L : Language A) (M : A → Language B) (p q : Parser A) (f g : A → Parser B)
    → Lax L → Lawful n L p q → ((a : A) → Lawful n (M a) (f a) (g a)) → Lawful n (Seq L M) (p >>= f) (q >>= g)
bind n L M p q f g lax first second =
    bind_from n n L M p q f g lax first second (λ i short. leaves_fewer L i n (p i) (first.says i) short)
