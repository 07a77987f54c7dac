-- The laws of the steps that take one token.
use Rattle.std.proofs.Common.{◌≡◌, ◌≢◌, refl, sym, ◌∙◌, ap, subst, ℕ, suc, ◌+◌, ◌<◌, ◌≤◌, List, [], ◌∷◌, ◌++◌, length, ◌⊎◌, inl, inr, Ok, Err, Bool, true, false, if◌then◌else◌, arith}
use Rattle.std.proofs.lemmas.List.{append-nil}
use Rattle.pw_grammar.specs.declared.sort.Sort.{Sort}
use Rattle.pw_grammar.specs.declared.sort.Sort.TheVariants as s
use Rattle.pw_grammar.specs.Terminals.{sort, sort_of, first_sort, is_same}
use Rattle.pw_lex.specs.declared.token.TokenKind.{TokenKind}
use Rattle.pw_grammar.specs.Expressions.{name_in}
use Rattle.pw_grammar.specs.Reading.Steps.{Position, ReadResult, read_then, ◌>>=◌, pure, refuse, next_sort, sees, take, take_from, skip, expect, name}
use Rattle.pw_grammar.proofs.Lawful.{Language, Leads, Agree, GoesOn, Says, Same, Lawful, Within, Lax, Seq, Leaves, Shrinks, Pure, lawful_pure, same_passed, near_or_far}
use Rattle.pw_grammar.proofs.Branches.{Keeps, keeps_refuse, lawful_test, keeps_within, keeps_bind_from, same_sorts}
use Rattle.pw_lex.specs.declared.token.Token.{Token}
use Rattle.pw_lex.specs.declared.token.TokenKind.TheVariants as t

-- ---- any token

-- one token whose sort is of a kind, and that token
pub record Given (c : Sort → Type 0) (value : Token) (u : List Token) : Type 0 where
  pub is : u ≡ value ∷ []
  pub sort_is : c (sort value)

abbrev pub AToken : (Sort → Type 0) → Language Token
AToken c = λ at a u x. Given c a u

take_settled : (at : ℕ) (ts : List Token) → take_from at ts ≡ take_from at ts
take_settled at ts = refl

leads_past : (at : ℕ) (t : Token) (ts : List Token) →
    Leads (record { at = at; rest = t ∷ ts }) (t ∷ []) (record { at = suc at; rest = ts })
leads_past at t ts = record { rest = refl; at = omega arith }

take_says : (c : Sort → Type 0) → (c s.End → ⊥) → (at : ℕ) (ts : List Token) → c (first_sort ts)
    → Says (AToken c) (record { at = at; rest = ts }) (take_from at ts)
unfolding take_from
take_says c ends at [] h = absurd (ends h)
take_says c ends at (t ∷ ts) h = record
    { tokens = t ∷ []; leads = leads_past at t ts; reads = record { is = refl; sort_is = h } }

take_steady : (k : ℕ) (at : ℕ) (v x y : List Token) → k < at + length v → at ≤ k
    → Same k (take_from at (v ++ x)) (take_from at (v ++ y))
unfolding take_from
take_steady k at [] x y far near = absurd (omega arith)
take_steady k at (t ∷ v) x y far near = λ on. record {
  place = record { at = suc at; rest = v ++ y };
  is = refl;
  agree = record { at = refl; shared = v; more = x; other = y; left = refl; right = refl; far = omega arith };
}

pub keeps_take : (c : Sort → Type 0) → (c s.End → ⊥) → (n : ℕ) → Keeps c n (AToken c) take take
unfolding take
keeps_take c ends n = record {
  settled = λ i h short. refl;
  says = λ i h. take_says c ends i.at i.rest h;
  steady = λ k i j h same. stays k i j h same (near_or_far i.at k);
}
  where
    stays : (k : ℕ) (i j : Position) → c (next_sort i) → Agree k i j → (i.at ≤ k) ⊎ (k < i.at) →
        Same k (take_from i.at i.rest) (take_from j.at j.rest)
    stays k i j h same (inl near) =
        subst (λ n. Same k (take_from i.at i.rest) (take_from n j.rest)) same.at
        (subst (λ ts. Same k (take_from i.at ts) (take_from i.at j.rest)) (sym same.left)
        (subst (λ ts. Same k (take_from i.at (same.shared ++ same.more)) (take_from i.at ts)) (sym same.right)
        (take_steady k i.at same.shared same.more same.other same.far near)))
    stays k i j h same (inr far) = same_passed (AToken c) i k _ _ (take_says c ends i.at i.rest h) far

take_from_shrinks : (n at : ℕ) (ts : List Token) → length ts < suc n → Leaves n (take_from at ts)
unfolding take_from
take_from_shrinks n at [] short = tt
take_from_shrinks n at (t ∷ ts) short = omega arith

pub take_shrinks : (n : ℕ) → Shrinks (suc n) n take
unfolding take
take_shrinks n = λ i short. take_from_shrinks n i.at i.rest short

pub a_token_is_lax : (c : Sort → Type 0) → Lax (AToken c)
a_token_is_lax c = λ at a u x y r o. r

-- ---- a token whose line alone is used

pub record Taken (c : Sort → Type 0) (value : ℕ) (u : List Token) : Type 0 where
  pub token : Token
  pub is : u ≡ token ∷ []
  pub sort_is : c (sort token)
  pub line : value ≡ token.line

abbrev pub ALine : (Sort → Type 0) → Language ℕ
ALine c = λ at a u x. Taken c a u

pub a_line_is_lax : (c : Sort → Type 0) → Lax (ALine c)
a_line_is_lax c = λ at a u x y r o. r

line_of_a_token : (c : Sort → Type 0) → Within (Seq (AToken c) (λ t. Pure t.line)) (ALine c)
line_of_a_token c at a u x r = record {
  token = r.value;
  is = r.splits ∙ (ap (λ v. r.front ++ v) r.second.empty ∙ (append-nil r.front ∙ r.first.is));
  sort_is = r.first.sort_is;
  line = r.second.is;
}

pub take_leaves : (n at : ℕ) (ts : List Token) → length ts < n → Leaves n (take_from at ts)
unfolding take_from
take_leaves n at [] short = tt
take_leaves n at (t ∷ ts) short = omega arith

pub keeps_skip : (c : Sort → Type 0) → (c s.End → ⊥) → (n : ℕ) → Keeps c n (ALine c) skip skip
unfolding skip take
keeps_skip c ends n = keeps_within c n _ _ _ _ (line_of_a_token c)
    (keeps_bind_from c n n (AToken c) (λ t. Pure t.line) take take (λ t. pure t.line) (λ t. pure t.line) (a_token_is_lax c)
    (keeps_take c ends n) (λ t. lawful_pure n t.line) (λ i short. take_leaves n i.at i.rest short))

skip_leaves : (n : ℕ) (o : ReadResult Token) → Leaves n o → Leaves n (read_then o (λ t. pure t.line))
skip_leaves n (Ok p) l = l
skip_leaves n (Err e) l = tt

pub skip_shrinks : (n : ℕ) → Shrinks (suc n) n skip
unfolding skip take
skip_shrinks n = λ i short. skip_leaves n (take_from i.at i.rest) (take_from_shrinks n i.at i.rest short)

-- ---- a token of a sort

abbrev pub One : Sort → Language ℕ
One x = ALine (λ y. y ≡ x)

sort_of_a_line : (x : Sort) → Within (ALine (λ y. is_same y x ≡ true)) (One x)
sort_of_a_line x at a u y r = record { token = r.token; is = r.is; sort_is = same_sorts (sort r.token) x r.sort_is; line = r.line }

-- a token of this sort, which begins no `else`
pub record Sample (x : Sort) : Type 0 where
  pub token : Token
  pub sort_is : sort token ≡ x
  pub no_else : x ≢ s.Else
  pub no_end : x ≢ s.End

pub one_goes_on : (x : Sort) → Sample x → (at : ℕ) → GoesOn (One x) at []
one_goes_on x t at = record {
  rest = t.token ∷ [];
  value = t.token.line;
  reads = λ y o. record { token = t.token; is = refl; sort_is = t.sort_is; line = refl };
  starts = λ e y o. subst (λ z. z ≢ s.Else) (sym t.sort_is) t.no_else;
}

pub lawful_expect : (n : ℕ) (x : Sort) → Sample x → Lawful n (One x) (expect x) (expect x)
unfolding expect sees
lawful_expect n x t = lawful_test (λ y. is_same y x) n (One x) skip skip refuse refuse
    (keeps_within (λ y. is_same y x ≡ true) n _ _ _ _ (sort_of_a_line x)
    (keeps_skip (λ y. is_same y x ≡ true) (λ e. t.no_end (sym (same_sorts s.End x e))) n))
    (keeps_refuse (λ y. is_same y x ≡ false) n (One x) (one_goes_on x t)) (one_goes_on x t)

test_leaves : (n : ℕ) (b : Bool) (i : Position) → Leaves n (skip i) → Leaves n (if b then skip i else refuse i)
test_leaves n true i l = l
test_leaves n false i l = tt

pub expect_shrinks : (n : ℕ) (x : Sort) → Shrinks (suc n) n (expect x)
unfolding expect
expect_shrinks n x = λ i short. test_leaves n (sees x i) i (skip_shrinks n i short)

-- ---- a name

pub record Named (value : List ℕ) (u : List Token) : Type 0 where
  pub token : Token
  pub is : u ≡ token ∷ []
  pub sort_is : sort token ≡ s.Name
  pub value_is : value ≡ name_in token.kind

abbrev pub AName : Language (List ℕ)
AName = λ at a u x. Named a u

pub a_name_is_lax : Lax AName
a_name_is_lax = λ at a u x y r o. r

name_of_a_token : Within (Seq (AToken (λ y. is_same y s.Name ≡ true)) (λ t. Pure (name_in t.kind))) AName
name_of_a_token at a u x r = record {
  token = r.value;
  is = r.splits ∙ (ap (λ v. r.front ++ v) r.second.empty ∙ (append-nil r.front ∙ r.first.is));
  sort_is = same_sorts (sort r.value) s.Name r.first.sort_is;
  value_is = r.second.is;
}

abbrev pub a_token : TokenKind → Token
a_token kind = record { kind = kind; first = 0; end = 0; line = 0 }

name_goes_on : (at : ℕ) → GoesOn AName at []
unfolding sort_of
name_goes_on at = record {
  rest = a_token (t.Word (95 ∷ [])) ∷ [];
  value = 95 ∷ [];
  reads = λ y o. record { token = a_token (t.Word (95 ∷ [])); is = refl; sort_is = refl; value_is = refl };
  starts = λ e y o. λ p. cc;
}

end_is_no_name : is_same s.End s.Name ≡ true → ⊥
unfolding is_same
end_is_no_name e = cc

pub lawful_name : (n : ℕ) → Lawful n AName name name
unfolding name sees take
lawful_name n = lawful_test (λ y. is_same y s.Name) n AName (take >>= (λ t. pure (name_in t.kind))) (take >>= (λ t. pure (name_in t.kind))) refuse refuse
    (keeps_within (λ y. is_same y s.Name ≡ true) n _ _ _ _ name_of_a_token
    (keeps_bind_from (λ y. is_same y s.Name ≡ true) n n (AToken (λ y. is_same y s.Name ≡ true)) (λ t. Pure (name_in t.kind)) take take
    (λ t. pure (name_in t.kind)) (λ t. pure (name_in t.kind)) (a_token_is_lax (λ y. is_same y s.Name ≡ true))
    (keeps_take (λ y. is_same y s.Name ≡ true) end_is_no_name n) (λ t. lawful_pure n (name_in t.kind)) (λ i short. take_leaves n i.at i.rest short)))
    (keeps_refuse (λ y. is_same y s.Name ≡ false) n AName name_goes_on) name_goes_on
