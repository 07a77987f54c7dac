-- Texts up to a zero byte, and names.
use Rattle.std.proofs.Common.{◌≡◌, ℕ, zero, suc, ◌+◌, ◌<◌, ◌≤◌, min, Bool, true, false, cond, List, [], ◌∷◌, ◌++◌, length, take, drop, get_or, Option, Some, None, Result, Ok, Err, refl, sym, ap, ◌∙◌, append_assoc, arith, ◌⊎◌, inl, inr}
use Rattle.std.specs.Prelude.{nat_eq, IfOk}
use Rattle.std.specs.Option.{option_map}
use Rattle.std.proofs.lemmas.Bool.{eq-eqb, ne_eqb, cases_lt}
use Rattle.std.proofs.lemmas.List.{drop_more, take_more, append-nil, drop_all, take_all}
use Rattle.pw_base.specs.Limits.{name_bytes}
use Rattle.pw_base.specs.Tests.{is_name, ReadsWhere}
use Rattle.pw_base.specs.declared.no_memory.NoMemory.{NoMemory}
use Rattle.pw_base.proofs.Names.{no_name}
use Rattle.pw_elf.specs.Strings.{until_zero, name_of, name_in, string_at}

-- a text that is found, with bytes before it, none of which is zero
abbrev pub preceded_by : List ℕ → Option (List ℕ) → Option (List ℕ)
preceded_by before found = option_map (λ rest. before ++ rest) found

regroup : (before : List ℕ) (b : ℕ) (found : Option (List ℕ)) →
    preceded_by before (option_map (λ rest. b ∷ rest) found) ≡ preceded_by (before ++ b ∷ []) found
regroup before b None = refl
regroup before b (Some text) = ap (λ (t : List ℕ). Some t) (sym (append_assoc before (b ∷ []) text))

-- past a byte that is not zero, what is found has one byte more before it
pub until_more : (bytes : List ℕ) (i d : ℕ) (answer : Option (List ℕ)) → i < length bytes → (get_or bytes i d ≡ 0 → ⊥)
    → preceded_by (take i bytes) (until_zero (drop i bytes)) ≡ answer → preceded_by (take (i + 1) bytes) (until_zero (drop (i + 1) bytes)) ≡ answer
until_more bytes i d answer within other so_far =
    let not_zero = ne_eqb (get_or bytes i d) 0 other in
    let one : preceded_by (take i bytes) (until_zero (drop i bytes)) ≡ preceded_by (take i bytes ++ get_or bytes i d ∷ []) (until_zero (drop (i + 1) bytes)) =
    rw (drop_more bytes i d within, not_zero) (regroup (take i bytes) (get_or bytes i d) (until_zero (drop (i + 1) bytes))) in
    rw (take_more bytes i d within) (sym one ∙ so_far)

-- at a zero byte the text ends
pub until_here : (bytes : List ℕ) (i d : ℕ) (answer : Option (List ℕ)) → i < length bytes → get_or bytes i d ≡ 0
    → preceded_by (take i bytes) (until_zero (drop i bytes)) ≡ answer → Some (take i bytes) ≡ answer
until_here bytes i d answer within is_zero so_far =
    let zero_byte = eq-eqb (get_or bytes i d) 0 is_zero in
    let one : preceded_by (take i bytes) (until_zero (drop i bytes)) ≡ Some (take i bytes) = rw (drop_more bytes i d within, zero_byte) (ap (λ (t : List ℕ). Some t) (append-nil (take i bytes))) in
    sym one ∙ so_far

-- past the last byte there is none
pub until_end : (bytes : List ℕ) (i : ℕ) (answer : Option (List ℕ)) → length bytes ≤ i →
    preceded_by (take i bytes) (until_zero (drop i bytes)) ≡ answer → None ≡ answer
until_end bytes i answer past so_far =
    let one : preceded_by (take i bytes) (until_zero (drop i bytes)) ≡ None = rw (drop_all i bytes past) refl in sym one ∙ so_far

pub until_start : (found : Option (List ℕ)) → preceded_by [] found ≡ found
until_start None = refl
until_start (Some text) = refl

-- an offset past the end has no name
pub no_string : (bytes : List ℕ) (off : ℕ) → length bytes < off → None ≡ string_at bytes off
unfolding string_at
no_string bytes off past = let empty = drop_all off bytes (omega arith) in rw empty refl

-- ---- texts among the first bytes

-- what is found among the first n bytes is what is found among all, or what is found among all has n bytes or more
record IsFar (n : ℕ) (first all : Option (List ℕ)) : Type 0 where
  nothing : first ≡ None
  long : (text : List ℕ) → all ≡ Some text → n ≤ length text

abbrev AgreeOrFar : ℕ → Option (List ℕ) → Option (List ℕ) → Type 0
AgreeOrFar n first all = (first ≡ all) ⊎ IsFar n first all

longer : (n b : ℕ) (all : Option (List ℕ)) (text : List ℕ) → ((t : List ℕ) → all ≡ Some t → n ≤ length t) →
    option_map (λ rest. b ∷ rest) all ≡ Some text → suc n ≤ length text
longer n b None text far e = absurd cc
longer n b (Some t) text far e = let low = far t refl in let same : b ∷ t ≡ text = cc in let len : suc (length t) ≡ length text = ap (λ (l : List ℕ). length l) same in omega (arith, low, len)

one_more : (n b : ℕ) (is_zero : Bool) (first all : Option (List ℕ)) → AgreeOrFar n first all
    → AgreeOrFar (suc n) (cond is_zero (Some []) (option_map (λ rest. b ∷ rest) first)) (cond is_zero (Some []) (option_map (λ rest. b ∷ rest) all))
one_more n b true first all agree = inl refl
one_more n b false first all (inl same) = inl (ap (λ (o : Option (List ℕ)). option_map (λ rest. b ∷ rest) o) same)
one_more n b false first all (inr far) =
    inr (record { nothing = ap (λ (o : Option (List ℕ)). option_map (λ rest. b ∷ rest) o) far.nothing; long = λ text e. longer n b all text far.long e })

among_first : (n : ℕ) (bytes : List ℕ) → AgreeOrFar n (until_zero (take n bytes)) (until_zero bytes)
among_first zero bytes = inr (record { nothing = refl; long = λ text e. omega arith })
among_first (suc n) [] = inl refl
among_first (suc n) (b ∷ bytes) = one_more n b (nat_eq b 0) (until_zero (take n bytes)) (until_zero bytes) (among_first n bytes)

-- a text that is too long is no name
too_long : (found : Option (List ℕ)) → ((text : List ℕ) → found ≡ Some text → name_bytes + 1 ≤ length text) → None ≡ name_in found
unfolding name_of
too_long None far = refl
too_long (Some text) far =
    let low = far text refl in let bad : is_name text ≡ false = no_name text (λ is. let short = is.short in omega (arith, low, short)) in rw bad refl

same_name : (first all : Option (List ℕ)) → AgreeOrFar (name_bytes + 1) first all → name_in first ≡ name_in all
same_name first all (inl same) = ap name_in same
same_name first all (inr far) = ap name_in far.nothing ∙ too_long all far.long

-- some of the first bytes, or all where there are no more
take_min : (k n : ℕ) (bytes : List ℕ) → n ≡ min k (length bytes) → take n bytes ≡ take k bytes
take_min k n bytes is =
    elim (cases_lt (length bytes) k) [
      | inl short ↦ take_all n bytes (omega (arith, is, short)) ∙ sym (take_all k bytes (omega (arith, short)))
      | inr enough ↦ let same : n ≡ k = omega (arith, is, enough) in ap (λ (i : ℕ). take i bytes) same
    ]

-- the name among the first bytes is that among all, where they are as many as the longest name and its zero byte
name_among_first : (bytes : List ℕ) (n : ℕ) → n ≡ min (name_bytes + 1) (length bytes) →
    name_in (until_zero (take n bytes)) ≡ name_in (until_zero bytes)
name_among_first bytes n is = ap (λ (t : List ℕ). name_in (until_zero t)) (take_min (name_bytes + 1) n bytes is) ∙ same_name _ _ (among_first (name_bytes + 1) bytes)

-- bytes that are a name, and bytes that are none
name_is : (text name : List ℕ) → name ≡ text → is_name text ≡ true → Some name ≡ name_of text
unfolding name_of
name_is text name same good = rw (good, same) refl

no_name_is : (text : List ℕ) → is_name text ≡ false → None ≡ name_of text
unfolding name_of
no_name_is text bad = rw bad refl

-- the text among the first bytes, read as a name, is the name among all bytes
pub first_name_is : (bytes : List ℕ) (n : ℕ) (text : List ℕ) (r : Result (Option (List ℕ)) NoMemory) →
    n ≡ min (name_bytes + 1) (length bytes) → Some text ≡ until_zero (take n bytes)
    → ReadsWhere is_name text r → IfOk r (λ name. name ≡ name_in (until_zero bytes))
first_name_is bytes n text (Ok (Some name)) is found reads = name_is text name reads.0 reads.1 ∙ ap name_in found ∙ name_among_first bytes n is
first_name_is bytes n text (Ok None) is found reads = no_name_is text reads ∙ ap name_in found ∙ name_among_first bytes n is
first_name_is bytes n text (Err e) is found reads = tt

-- and where there is no text among the first bytes, there is no name
pub no_first_name : (bytes : List ℕ) (n : ℕ) → n ≡ min (name_bytes + 1) (length bytes) → None ≡ until_zero (take n bytes) →
    None ≡ name_in (until_zero bytes)
no_first_name bytes n is found = ap name_in found ∙ name_among_first bytes n is
