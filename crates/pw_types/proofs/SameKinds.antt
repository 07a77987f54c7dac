-- Kinds that are held to be the same are equal, and a declaration without conflict has the kind and the linkage of the earlier one.
use Rattle.std.proofs.Common.{◌≡◌, ℕ, Bool, true, false, ◌&&◌, not, List, [], ◌∷◌, Option, Some, None, refl, ap, ◌∙◌}
use Rattle.std.proofs.lemmas.Bool.{eqb-true}
use Rattle.pw_tree.specs.declared.ty.Ty.{Ty}
use Rattle.pw_tree.specs.declared.ty.Ty.TheVariants.{Void, Long, Ulong, Fn}
use Rattle.pw_tree.specs.declared.decl.Linkage.{Linkage}
use Rattle.pw_tree.specs.declared.decl.Linkage.TheVariants.{Plain, Extern, Static}
use Rattle.pw_tree.specs.Declarations.{Declaration}
use Rattle.pw_tree.specs.Types.{same_type, same_pointer_as}
use Rattle.pw_types.specs.declared.names.Kind.{Kind}
use Rattle.pw_types.specs.declared.names.Kind.TheVariants.{Function, Variable}
use Rattle.pw_types.specs.declared.names.File.{File}
use Rattle.pw_types.specs.Declarations.{is_external, kind_of, same_types, same_size, same_kind, conflicts}
use Rattle.pw_types.proofs.NoFaults.{and_left, and_right}

pub same_pointer_is : (k : ℕ) (b : Ty) → same_pointer_as k b ≡ true → Fn k ≡ b
same_pointer_is k (Fn j) h = ap Fn (eqb-true k j h)
same_pointer_is k Void h = cc
same_pointer_is k Long h = cc
same_pointer_is k Ulong h = cc

pub same_type_is : (a b : Ty) → same_type a b ≡ true → a ≡ b
same_type_is Void Void h = refl
same_type_is Void Long h = cc
same_type_is Void Ulong h = cc
same_type_is Void (Fn k) h = cc
same_type_is Long Long h = refl
same_type_is Long Void h = cc
same_type_is Long Ulong h = cc
same_type_is Long (Fn k) h = cc
same_type_is Ulong Ulong h = refl
same_type_is Ulong Void h = cc
same_type_is Ulong Long h = cc
same_type_is Ulong (Fn k) h = cc
same_type_is (Fn k) b h = same_pointer_is k b h

same_types_are : (as' bs : List Ty) → same_types as' bs ≡ true → as' ≡ bs
unfolding same_types
same_types_are [] [] h = refl
same_types_are [] (b ∷ bs) h = cc
same_types_are (a ∷ as') [] h = cc
same_types_are (a ∷ as') (b ∷ bs) h =
    let p = same_type_is a b (and_left _ _ h) in
    let q = same_types_are as' bs (and_right _ _ h) in
    λ i. p i ∷ q i

same_size_is : (m n : Option ℕ) → same_size m n ≡ true → m ≡ n
same_size_is None None h = refl
same_size_is None (Some n) h = cc
same_size_is (Some m) None h = cc
same_size_is (Some m) (Some n) h = ap Some (eqb-true m n h)

pub same_kind_is : (k l : Kind) → same_kind k l ≡ true → k ≡ l
same_kind_is (Function f) (Function g) h =
    let p = same_type_is f.result g.result (and_left _ _ h) in
    let q = same_types_are f.params g.params (and_right _ _ h) in
    λ i. Function (record { result = p i; params = q i })
same_kind_is (Variable t m) (Variable u n) h =
    let p = same_type_is t u (and_left _ _ h) in
    let q = same_size_is m n (and_right _ _ h) in
    λ i. Variable (p i) (q i)
same_kind_is (Function f) (Variable u n) h = cc
same_kind_is (Variable t m) (Function g) h = cc

-- ---- no conflict

not_true : (b : Bool) → not b ≡ false → b ≡ true
not_true true h = refl
not_true false h = cc

never : {A : Type 0} (b : Bool) → not (b && false) ≡ false → A
never true h = cc
never false h = cc

linkage_is : (d : Declaration) (f : File) (l : Linkage) (x : Bool) →
    conflicts (record d { linkage = l }) (Some (record f { external = x })) ≡ false →
    x ≡ is_external l
linkage_is d f Plain true h = refl
linkage_is d f Plain false h = never (same_kind f.kind (kind_of d.form)) h
linkage_is d f Extern true h = refl
linkage_is d f Extern false h = never (same_kind f.kind (kind_of d.form)) h
linkage_is d f Static true h = never (same_kind f.kind (kind_of d.form)) h
linkage_is d f Static false h = refl

pub no_conflict_linkage : (d : Declaration) (f : File) → conflicts d (Some f) ≡ false → f.external ≡ is_external d.linkage
no_conflict_linkage d f h = linkage_is d f d.linkage f.external h

pub no_conflict_kind : (d : Declaration) (f : File) → conflicts d (Some f) ≡ false → f.kind ≡ kind_of d.form
no_conflict_kind d f h = same_kind_is f.kind (kind_of d.form) (and_left _ _ (not_true _ h))
