-- References as keys of a set: that being the same is an equivalence, and what is hashed of one.
use Rattle.std.specs.Prelude.{◌≡◌, true}
use mathlib.Core.Path.{refl, sym, ap}
use Rattle.std.specs.Cmp.{IsEquivalence, nat_eq_equiv, unsigned_Decides}
use Rattle.std.specs.Cmp.Lexicographic.{same_text, nat_list_eq_equiv}
use mathlib.Core.Bool.{true≢false}
use Rattle.std.specs.Hash as fed
use Rattle.pw_tree.specs.declared.ty.Ref.{Ref}
use Rattle.pw_tree.specs.declared.ty.Ref.TheVariants.{Global, LocalFun, LocalVar}
use Rattle.pw_code.specs.Objects.{same_ref}

-- What is hashed of a reference: a name's bytes, or a number.
abbrev pub hashed : Ref → fed.HashWrites
hashed (Global name) = fed.slice fed.u8 name
hashed (LocalFun i) = fed.u32 i
hashed (LocalVar i) = fed.u32 i

-- A reference is the same as itself.
pub same_as_itself : (a : Ref) → same_ref a a ≡ true
same_as_itself (Global a) = nat_list_eq_equiv.refl a
same_as_itself (LocalFun i) = nat_eq_equiv.refl i
same_as_itself (LocalVar i) = nat_eq_equiv.refl i

-- Either of two is the same as the other.
pub same_both_ways : (a b : Ref) → same_ref a b ≡ same_ref b a
same_both_ways (Global a) (Global b) = nat_list_eq_equiv.symm a b
same_both_ways (LocalFun i) (LocalFun j) = nat_eq_equiv.symm i j
same_both_ways (LocalVar i) (LocalVar j) = nat_eq_equiv.symm i j
same_both_ways (Global a) (LocalFun j) = refl
same_both_ways (Global a) (LocalVar j) = refl
same_both_ways (LocalFun i) (Global b) = refl
same_both_ways (LocalFun i) (LocalVar j) = refl
same_both_ways (LocalVar i) (Global b) = refl
same_both_ways (LocalVar i) (LocalFun j) = refl

-- Two that are the same are equal.
pub same_is_equal : (a b : Ref) → same_ref a b ≡ true → a ≡ b
same_is_equal (Global a) (Global b) h = ap Global (same_text a b (sym h))
same_is_equal (LocalFun i) (LocalFun j) h = ap LocalFun ((unsigned_Decides i j).0 h)
same_is_equal (LocalVar i) (LocalVar j) h = ap LocalVar ((unsigned_Decides i j).0 h)
same_is_equal (Global a) (LocalFun j) h = absurd (true≢false (sym h))
same_is_equal (Global a) (LocalVar j) h = absurd (true≢false (sym h))
same_is_equal (LocalFun i) (Global b) h = absurd (true≢false (sym h))
same_is_equal (LocalFun i) (LocalVar j) h = absurd (true≢false (sym h))
same_is_equal (LocalVar i) (Global b) h = absurd (true≢false (sym h))
same_is_equal (LocalVar i) (LocalFun j) h = absurd (true≢false (sym h))

-- Being the same is an equivalence.
pub same_refs : IsEquivalence same_ref
same_refs = record { refl = same_as_itself; symm = same_both_ways; congr = λ a b c h. ap (λ r. same_ref r c) (same_is_equal a b h) }

-- References that are the same are hashed alike.
pub hashed_alike : (a b : Ref) → same_ref a b ≡ true → hashed a ≡ hashed b
hashed_alike a b h = ap hashed (same_is_equal a b h)
