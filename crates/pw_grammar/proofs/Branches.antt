-- Readers that take a token, and readers that branch on the next one.
use Rattle.std.proofs.Common.{◌≡◌, ◌≢◌, refl, sym, ◌∙◌, ap, subst, ℕ, ◌+◌, ◌<◌, ◌≤◌, List, [], ◌∷◌, ◌++◌, length, ◌⊎◌, inl, inr, Err, Bool, true, false, if◌then◌else◌, Option, Some, None, arith}
use denote.Enum.Bare.{same_true, same_false, true_same, false_same}
use Rattle.pw_grammar.specs.contracts.sort.Sort.{the_type}
use Rattle.pw_grammar.specs.declared.sort.Sort.{Sort}
use Rattle.pw_grammar.specs.declared.error.SyntaxError.TheVariants.{At}
use Rattle.pw_grammar.specs.Terminals.{first_sort, is_same}
use Rattle.pw_grammar.specs.Reading.Steps.{Position, Parser, read_then, ◌>>=◌, pure, refuse, next_sort}
use Rattle.pw_grammar.proofs.Lawful.{Language, Agree, GoesOn, Says, Same, Lawful, Within, Lax, says_within, Seq, Shrinks, same_passed, near_or_far, leads_nowhere, says_both, same_both, settled_both}
use Rattle.pw_lex.specs.declared.token.Token.{Token}

-- ---- what two sorts being one means

pub same_sorts : (x y : Sort) → is_same x y ≡ true → x ≡ y
unfolding is_same
same_sorts x y e = same_true the_type tt x y e

pub other_sorts : (x y : Sort) → is_same x y ≡ false → x ≢ y
unfolding is_same
other_sorts x y e = same_false the_type x y e

pub sorts_same : (x y : Sort) → x ≡ y → is_same x y ≡ true
unfolding is_same
sorts_same x y e = true_same the_type x y e

pub sorts_other : (x y : Sort) → x ≢ y → is_same x y ≡ false
unfolding is_same
sorts_other x y e = false_same the_type tt x y e

-- ---- the laws where the next token is of a kind

pub record Keeps {A : Type 0} (c : Sort → Type 0) (n : ℕ) (L : Language A) (p q : Parser A) : Type 0 where
  pub settled : (i : Position) → c (next_sort i) → length i.rest < n → p i ≡ q i
  pub says : (i : Position) → c (next_sort i) → Says L i (p i)
  pub steady : (k : ℕ) (i j : Position) → c (next_sort i) → Agree k i j → Same k (p i) (p j)

pub keeps : {A : Type 0} (c : Sort → Type 0) (n : ℕ) (L : Language A) (p q : Parser A) → Lawful n L p q → Keeps c n L p q
keeps c n L p q l = record {
  settled = λ i h short. l.settled i short;
  says = λ i h. l.says i;
  steady = λ k i j h same. l.steady k i j same;
}

long_enough : (a k n : ℕ) → k < a + n → a ≤ k → 0 < n
long_enough a k n far near = omega arith

pub keeps_within : {A : Type 0} (c : Sort → Type 0) (n : ℕ) (L M : Language A) (p q : Parser A) → Within L M → Keeps c n L p q →
    Keeps c n M p q
keeps_within c n L M p q w l = record {
  settled = l.settled;
  says = λ i h. says_within w i (p i) (l.says i h);
  steady = l.steady;
}

-- two places that agree as far as the first token have the same next sort
pub next_agrees : (k : ℕ) (i j : Position) → Agree k i j → i.at ≤ k → next_sort j ≡ next_sort i
next_agrees k i j same near = first_agrees same.shared i.rest j.rest same.more same.other same.left same.right (long_enough i.at k (length same.shared) same.far near)
  where
    first_agrees : (v x y w z : List Token) → x ≡ v ++ w → y ≡ v ++ z → 0 < length v → first_sort y ≡ first_sort x
    first_agrees [] x y w z e f long = absurd (omega arith)
    first_agrees (t ∷ v) x y w z e f long = ap first_sort f ∙ sym (ap first_sort e)

pub keeps_equal : {A : Type 0} (c : Sort → Type 0) (n : ℕ) (L : Language A) (p q r t : Parser A)
    → ((i : Position) → c (next_sort i) → p i ≡ r i) → ((i : Position) → c (next_sort i) → q i ≡ t i) → Keeps c n L r t → Keeps c n L p q
keeps_equal c n L p q r t left right l = record {
  settled = λ i h short. left i h ∙ (l.settled i h short ∙ sym (right i h));
  says = λ i h. subst (λ o. Says L i o) (sym (left i h)) (l.says i h);
  steady = λ k i j h same. steady_equal k i j h same (near_or_far i.at k);
}
  where
    steady_equal : (k : ℕ) (i j : Position) → c (next_sort i) → Agree k i j → (i.at ≤ k) ⊎ (k < i.at) → Same k (p i) (p j)
    steady_equal k i j h same (inl near) =
        let there = subst c (sym (next_agrees k i j same near)) h in
        subst (λ o. Same k o (p j)) (sym (left i h)) (subst (λ o. Same k (r i) o) (sym (left j there)) (l.steady k i j h same))
    steady_equal k i j h same (inr far) =
        same_passed L i k (p i) (p j) (subst (λ o. Says L i o) (sym (left i h)) (l.says i h)) far

-- ---- without a token

pub keeps_pure : {A : Type 0} (c : Sort → Type 0) (n : ℕ) (L : Language A) (a : A) → ((at : ℕ) (x : Sort) → c x → L at a [] x)
    → Keeps c n L (pure a) (pure a)
keeps_pure c n L a reads = record {
  settled = λ i h short. refl;
  says = λ i h. record { tokens = []; leads = leads_nowhere i; reads = reads i.at (next_sort i) h };
  steady = λ k i j h same near. record { place = j; is = refl; agree = same };
}

pub keeps_refuse : {A : Type 0} (c : Sort → Type 0) (n : ℕ) (L : Language A) → ((at : ℕ) → GoesOn L at [])
    → Keeps c n L refuse refuse
keeps_refuse c n L can = record {
  settled = λ i h short. refl;
  says = λ i h. record { tokens = []; place = i; leads = leads_nowhere i; is = refl; goes_on = can i.at };
  steady = λ k i j h same m is near. ap (λ at. Err (At at)) (sym same.at);
}

-- ---- branches

pub lawful_test : {A : Type 0} (t : Sort → Bool) (n : ℕ) (L : Language A) (p p' q q' : Parser A)
    → Keeps (λ x. t x ≡ true) n L p p' → Keeps (λ x. t x ≡ false) n L q q' → ((at : ℕ) → GoesOn L at [])
    → Lawful n L (λ i. if t (next_sort i) then p i else q i) (λ i. if t (next_sort i) then p' i else q' i)
lawful_test {A} t n L p p' q q' yes_ no_ can = record {
  settled = λ i short. settles i (t (next_sort i)) refl short;
  says = λ i. tells i (t (next_sort i)) refl;
  steady = λ k i j same. stays k i j same (near_or_far i.at k);
  can = can;
}
  where
    settles : (i : Position) (b : Bool) → t (next_sort i) ≡ b → length i.rest < n →
        (if b then p i else q i) ≡ (if b then p' i else q' i)
    settles i true e short = yes_.settled i e short
    settles i false e short = no_.settled i e short

    tells : (i : Position) (b : Bool) → t (next_sort i) ≡ b → Says L i (if b then p i else q i)
    tells i true e = yes_.says i e
    tells i false e = no_.says i e

    keeps_on : (k : ℕ) (i j : Position) (b : Bool) → t (next_sort i) ≡ b → Agree k i j →
        Same k (if b then p i else q i) (if b then p j else q j)
    keeps_on k i j true e same = yes_.steady k i j e same
    keeps_on k i j false e same = no_.steady k i j e same

    stays : (k : ℕ) (i j : Position) → Agree k i j → (i.at ≤ k) ⊎ (k < i.at)
        → Same k (if t (next_sort i) then p i else q i) (if t (next_sort j) then p j else q j)
    stays k i j same (inl near) =
        subst (λ x. Same k (if t (next_sort i) then p i else q i) (if t x then p j else q j)) (sym (next_agrees k i j same near))
        (keeps_on k i j (t (next_sort i)) refl same)
    stays k i j same (inr far) = same_passed L i k _ _ (tells i (t (next_sort i)) refl) far

pub lawful_option : {A B : Type 0} (h : Sort → Option B) (n : ℕ) (L : Language A) (F G : Option B → Parser A)
    → Keeps (λ x. h x ≡ None) n L (F None) (G None) → ((b : B) → Keeps (λ x. h x ≡ Some b) n L (F (Some b)) (G (Some b)))
    → ((at : ℕ) → GoesOn L at []) → Lawful n L (λ i. F (h (next_sort i)) i) (λ i. G (h (next_sort i)) i)
lawful_option {A} {B} h n L F G none_ some_ can = record {
  settled = λ i short. settles i (h (next_sort i)) refl short;
  says = λ i. tells i (h (next_sort i)) refl;
  steady = λ k i j same. stays k i j same (near_or_far i.at k);
  can = can;
}
  where
    settles : (i : Position) (b : Option B) → h (next_sort i) ≡ b → length i.rest < n → F b i ≡ G b i
    settles i None e short = none_.settled i e short
    settles i (Some b) e short = (some_ b).settled i e short

    tells : (i : Position) (b : Option B) → h (next_sort i) ≡ b → Says L i (F b i)
    tells i None e = none_.says i e
    tells i (Some b) e = (some_ b).says i e

    keeps_on : (k : ℕ) (i j : Position) (b : Option B) → h (next_sort i) ≡ b → Agree k i j → Same k (F b i) (F b j)
    keeps_on k i j None e same = none_.steady k i j e same
    keeps_on k i j (Some b) e same = (some_ b).steady k i j e same

    stays : (k : ℕ) (i j : Position) → Agree k i j → (i.at ≤ k) ⊎ (k < i.at) →
        Same k (F (h (next_sort i)) i) (F (h (next_sort j)) j)
    stays k i j same (inl near) =
        subst (λ x. Same k (F (h (next_sort i)) i) (F (h x) j)) (sym (next_agrees k i j same near))
        (keeps_on k i j (h (next_sort i)) refl same)
    stays k i j same (inr far) = same_passed L i k _ _ (tells i (h (next_sort i)) refl) far

-- ---- one reader after another

pub keeps_bind_from : {A B : Type 0} (c : Sort → Type 0) (m n : ℕ) (L : Language A) (M : A → Language B) (p q : Parser A) (f g : A → Parser B)
    → Lax L → Keeps c m L p q → ((a : A) → Lawful n (M a) (f a) (g a)) → Shrinks m n p → Keeps c m (Seq L M) (p >>= f) (q >>= g)
keeps_bind_from c m n L M p q f g lax first second shrinks = record {
  settled = λ i h short. settled_both f g n (p i) (λ a j left. (second a).settled j left) (shrinks i short) ∙ ap (λ o. read_then o g) (first.settled i h short);
  says = λ i h. says_both L M lax f (λ a j. (second a).says j) (λ a at. (second a).can at) i (p i) (first.says i h);
  steady = λ k i j h same. same_both L M f k (p i) (p j) (λ a l. (second a).says l) (λ a l o. (second a).steady k l o) (first.steady k i j h same);
}
