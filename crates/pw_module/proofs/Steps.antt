-- What a step that has no fault says of its parts, and what it takes from the bytes.
use Rattle.std.proofs.Common.{◌≡◌, ℕ, Bool, true, false, cond, List, [], ◌∷◌, ◌++◌, Option, Some, None, Result, Ok, Err, refl, sym, ap, ◌∙◌, append_assoc}
use Rattle.pw_module.specs.declared.dep_error.DepError.{DepError}
use Rattle.pw_module.specs.Reading.{◌>>=◌, fine, index_or}
use Rattle.pw_base.specs.Bytes.{AreBytes}

-- the value of a step that did not fail
pub bind_ok : {A B : Type 0} (r : Result A DepError) (f : A → Result B DepError) (y : B) → (r >>= f) ≡ Ok y → (x : A) × (r ≡ Ok x) × (f x ≡ Ok y)
bind_ok (Ok x) f y e = (x, refl, e)
bind_ok (Err d) f y e = absurd cc

abbrev done : {A : Type 0} → A → Result A DepError
done x = Ok x

pub ok_is : {A : Type 0} (x y : A) → done x ≡ done y → x ≡ y
ok_is x y e = cc

-- a test that ruled a fault out
pub guard_ok : {A : Type 0} (b : Bool) (d : DepError) (x y : A) → cond b (Err d) (Ok x) ≡ Ok y → (b ≡ false) × (x ≡ y)
guard_ok true d x y e = absurd cc
guard_ok false d x y e = (refl, cc)

-- a test that had to hold
pub want_ok : {A : Type 0} (b : Bool) (d : DepError) (x y : A) → cond b (Ok x) (Err d) ≡ Ok y → (b ≡ true) × (x ≡ y)
want_ok true d x y e = (refl, cc)
want_ok false d x y e = absurd cc

-- a fault that was not there
pub fine_ok : {A : Type 0} (o : Option DepError) (x y : A) → fine o x ≡ Ok y → (o ≡ None) × (x ≡ y)
fine_ok None x y e = (refl, cc)
fine_ok (Some d) x y e = absurd cc

-- the first of several faults was not there, and the others neither
pub passed : {A : Type 0} (b : Bool) (x : A) (o : Option A) → cond b (Some x) o ≡ None → (b ≡ false) × (o ≡ None)
passed true x o e = absurd cc
passed false x o e = (refl, e)

pub kept : {A : Type 0} (b : Bool) (x : A) (o : Option A) → cond b o (Some x) ≡ None → (b ≡ true) × (o ≡ None)
kept true x o e = (refl, e)
kept false x o e = absurd cc

pub index_passed : (k : ℕ) (o : Option ℕ) (fault : Option DepError) → index_or k o fault ≡ None → (o ≡ None) × (fault ≡ None)
index_passed k None fault e = (refl, e)
index_passed k (Some n) fault e = absurd cc

-- what a step took from the start of the bytes
pub record Takes (bytes text rest : List ℕ) : Type 0 where
  pub parts : bytes ≡ text ++ rest
  pub rest_fits : AreBytes rest

pub Takes-then : (a x b y c : List ℕ) → Takes a x b → Takes b y c → Takes a (x ++ y) c
Takes-then a x b y c p q = record { parts = p.parts ∙ ap (λ (t : List ℕ). x ++ t) q.parts ∙ sym (append_assoc x y c); rest_fits = q.rest_fits }
