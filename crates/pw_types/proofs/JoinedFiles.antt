-- How a declaration changes the names at file scope: what stands there stays, under its number, and one of its name is marked.
use Rattle.std.proofs.Common.{◌≡◌, ℕ, ◌+◌, Bool, true, false, ◌||◌, not, cond, if◌then◌else◌, List, [], ◌∷◌, ◌++◌, map, Option, Some, None, is_some, refl, sym, ap, subst, ◌∙◌, bytes_eq}
use Rattle.std.specs.Prelude.{⊤, option_map}
use Rattle.std.specs.List.{AllByRecursion, IsDistinct}
use Rattle.std.specs.Cmp.Lexicographic.{bytes_decides, nat_list_eq_equiv}
use Rattle.pw_types.specs.declared.names.File.{File}
use Rattle.pw_types.specs.Scopes.{file_named, marked, with_file}
use Rattle.pw_types.specs.Steps.Uses.{file_number}
use Rattle.pw_types.proofs.KeyedFiles.{named}

pub bytes_same : (a b : List ℕ) → bytes_eq a b ≡ true → a ≡ b
bytes_same a b h = (bytes_decides a b).0 h

pub bytes_itself : (a : List ℕ) → bytes_eq a a ≡ true
bytes_itself a = (bytes_decides a a).1 refl

pub bytes_turned : (a b : List ℕ) → bytes_eq a b ≡ bytes_eq b a
bytes_turned a b = nat_list_eq_equiv.symm a b

-- ---- marking

-- a file with its definition noted
abbrev pub also : Bool → File → File
also known f = record f { defined = f.defined || known }

mark_by : (known b : Bool) (f : File) → (if b then also known f else f).name ≡ f.name
mark_by known true f = refl
mark_by known false f = refl

marked_name : (name : List ℕ) (known : Bool) (f : File) → (marked name known f).name ≡ f.name
marked_name name known f = mark_by known (bytes_eq f.name name) f

choose_map : (b : Bool) (h : File → File) (f : File) (o : Option File) →
    cond b (Some (h f)) (option_map h o) ≡ option_map h (cond b (Some f) o)
choose_map true h f o = refl
choose_map false h f o = refl

pub find_marked : (name other : List ℕ) (known : Bool) (files : List File) →
    file_named name (map (marked other known) files) ≡ option_map (marked other known) (file_named name files)
find_marked name other known [] = refl
find_marked name other known (f ∷ fs) =
    (λ i. cond (bytes_eq (marked_name other known f i) name) (Some (marked other known f)) (find_marked name other known fs i))
    ∙ choose_map (bytes_eq f.name name) (marked other known) f (file_named name fs)

number_marked : (name other : List ℕ) (known : Bool) (files : List File) →
    file_number name (map (marked other known) files) ≡ file_number name files
number_marked name other known [] = refl
number_marked name other known (f ∷ fs) =
    λ i. cond (not (bytes_eq (marked_name other known f i) name)) (1 + number_marked name other known fs i) 0

-- ---- one name more

found_before : (b : Bool) (f g : File) (o p : Option File) → (o ≡ Some g → p ≡ Some g) → cond b (Some f) o ≡ Some g →
    cond b (Some f) p ≡ Some g
found_before true f g o p h e = e
found_before false f g o p h e = h e

pub find_before : (name : List ℕ) (files : List File) (f g : File) → file_named name files ≡ Some g →
    file_named name (files ++ f ∷ []) ≡ Some g
find_before name [] f g h = cc
find_before name (k ∷ ks) f g h = found_before (bytes_eq k.name name) k g _ _ (find_before name ks f g) h

found_last : (b c : Bool) (f k : File) (o p : Option File) → (o ≡ None → p ≡ cond c (Some f) None) → cond b (Some k) o ≡ None →
    cond b (Some k) p ≡ cond c (Some f) None
found_last true c f k o p h e = cc
found_last false c f k o p h e = h e

pub find_last : (name : List ℕ) (files : List File) (f : File) → file_named name files ≡ None →
    file_named name (files ++ f ∷ []) ≡ cond (bytes_eq f.name name) (Some f) None
find_last name [] f h = refl
find_last name (k ∷ ks) f h = found_last (bytes_eq k.name name) (bytes_eq f.name name) f k _ _ (find_last name ks f) h

counted_before : (b : Bool) (f g : File) (o : Option File) (m n : ℕ) → (o ≡ Some g → m ≡ n) → cond b (Some f) o ≡ Some g →
    cond (not b) (1 + m) 0 ≡ cond (not b) (1 + n) 0
counted_before true f g o m n h e = refl
counted_before false f g o m n h e = ap (λ k. 1 + k) (h e)

number_before : (name : List ℕ) (files : List File) (f g : File) → file_named name files ≡ Some g →
    file_number name (files ++ f ∷ []) ≡ file_number name files
number_before name [] f g h = cc
number_before name (k ∷ ks) f g h = counted_before (bytes_eq k.name name) k g _ _ _ (number_before name ks f g) h

-- ---- what stays

-- A file that stands there later: of the same name, linkage and kind, and defined where it was.
pub record Stays (name : List ℕ) (f : File) (old new : List File) : Type 0 where
  pub now : File
  pub there : file_named name new ≡ Some now
  pub same_name : now.name ≡ f.name
  pub same_linkage : now.external ≡ f.external
  pub same_kind : now.kind ≡ f.kind
  pub same_number : file_number name new ≡ file_number name old
  pub still_defined : f.defined ≡ true → now.defined ≡ true

mark_linkage : (known b : Bool) (f : File) → (if b then also known f else f).external ≡ f.external
mark_linkage known true f = refl
mark_linkage known false f = refl

mark_kind : (known b : Bool) (f : File) → (if b then also known f else f).kind ≡ f.kind
mark_kind known true f = refl
mark_kind known false f = refl

mark_defined : (known b : Bool) (f : File) → f.defined ≡ true → (if b then also known f else f).defined ≡ true
mark_defined known true f h = ap (λ x. x || known) h
mark_defined known false f h = h

stays_marked : (name : List ℕ) (f : File) (other : List ℕ) (known : Bool) (files : List File) → file_named name files ≡ Some f →
    Stays name f files (map (marked other known) files)
stays_marked name f other known files h = record {
  now = marked other known f;
  there = find_marked name other known files ∙ ap (option_map (marked other known)) h;
  same_name = marked_name other known f;
  same_linkage = mark_linkage known (bytes_eq f.name other) f;
  same_kind = mark_kind known (bytes_eq f.name other) f;
  same_number = number_marked name other known files;
  still_defined = mark_defined known (bytes_eq f.name other) f;
}

stays_before : (name : List ℕ) (f g : File) (files : List File) → file_named name files ≡ Some f →
    Stays name f files (files ++ g ∷ [])
stays_before name f g files h = record {
  now = f;
  there = find_before name files g f h;
  same_name = refl;
  same_linkage = refl;
  same_kind = refl;
  same_number = number_before name files g f h;
  still_defined = λ d. d;
}

stays_by : (b : Bool) (name : List ℕ) (f g : File) (files : List File) → file_named name files ≡ Some f →
    Stays name f files (if b then map (marked g.name g.defined) files else files ++ g ∷ [])
stays_by true name f g files h = stays_marked name f g.name g.defined files h
stays_by false name f g files h = stays_before name f g files h

pub stays : (name : List ℕ) (f g : File) (files : List File) → file_named name files ≡ Some f →
    Stays name f files (with_file g files)
stays name f g files h = stays_by (is_some (file_named g.name files)) name f g files h

-- ---- what stands under a name after a declaration

-- the file of a declared name
abbrev pub joined_file : File → Option File → File
joined_file g None = g
joined_file g (Some f) = also g.defined f

-- of the declared name
named_known : (g f : File) (files : List File) → file_named g.name files ≡ Some f →
    file_named g.name (map (marked g.name g.defined) files) ≡ Some (also g.defined f)
named_known g f files h =
    find_marked g.name g.name g.defined files ∙ ap (option_map (marked g.name g.defined)) h
    ∙ ap (λ b. Some (if b then also g.defined f else f)) (ap (λ n. bytes_eq n g.name) (named g.name files f h) ∙ bytes_itself g.name)

named_by : (g : File) (files : List File) (o : Option File) → file_named g.name files ≡ o →
    file_named g.name (with_file g files) ≡ Some (joined_file g o)
named_by g files (Some f) h =
    ap (λ b. file_named g.name (if b then map (marked g.name g.defined) files else files ++ g ∷ [])) (ap is_some h) ∙ named_known g f files h
named_by g files None h =
    ap (λ b. file_named g.name (if b then map (marked g.name g.defined) files else files ++ g ∷ [])) (ap is_some h)
    ∙ find_last g.name files g h ∙ ap (λ b. cond b (Some g) None) (bytes_itself g.name)

pub named_now : (g : File) (files : List File) →
    file_named g.name (with_file g files) ≡ Some (joined_file g (file_named g.name files))
named_now g files = named_by g files (file_named g.name files) refl

-- of another name
unmarked : (name other : List ℕ) (known : Bool) (files : List File) (o : Option File) → file_named name files ≡ o →
    bytes_eq other name ≡ false →
    option_map (marked other known) o ≡ o
unmarked name other known files None h d = refl
unmarked name other known files (Some f) h d =
    ap (λ b. Some (if b then also known f else f)) (ap (λ n. bytes_eq n other) (named name files f h) ∙ bytes_turned name other ∙ d)

other_last : (name : List ℕ) (files : List File) (g : File) (o : Option File) → file_named name files ≡ o →
    bytes_eq g.name name ≡ false →
    file_named name (files ++ g ∷ []) ≡ o
other_last name files g (Some f) h d = find_before name files g f h
other_last name files g None h d = find_last name files g h ∙ ap (λ b. cond b (Some g) None) d

other_by : (b : Bool) (name : List ℕ) (g : File) (files : List File) → bytes_eq g.name name ≡ false →
    file_named name (if b then map (marked g.name g.defined) files else files ++ g ∷ []) ≡ file_named name files
other_by true name g files d =
    find_marked name g.name g.defined files ∙ unmarked name g.name g.defined files (file_named name files) refl d
other_by false name g files d = other_last name files g (file_named name files) refl d

pub named_other : (name : List ℕ) (g : File) (files : List File) → bytes_eq g.name name ≡ false →
    file_named name (with_file g files) ≡ file_named name files
named_other name g files d = other_by (is_some (file_named g.name files)) name g files d

-- ---- the names differ

abbrev pub names_of : List File → List (List ℕ)
names_of files = map (λ f. f.name) files

same_names : (other : List ℕ) (known : Bool) (files : List File) → names_of (map (marked other known) files) ≡ names_of files
same_names other known [] = refl
same_names other known (f ∷ fs) = λ i. marked_name other known f i ∷ same_names other known fs i

pub lacking_by : (b : Bool) (f : File) (o : Option File) → cond b (Some f) o ≡ None → (b ≡ false) × (o ≡ None)
lacking_by true f o h = cc
lacking_by false f o h = (refl, h)

-- a name that is not there differs from each that is
pub all_lack : (name : List ℕ) (files : List File) → file_named name files ≡ None →
    AllByRecursion (λ other. bytes_eq other name ≡ false) (names_of files)
all_lack name [] h = tt
all_lack name (f ∷ fs) h =
    let l = lacking_by (bytes_eq f.name name) f (file_named name fs) h in (l.0, all_lack name fs l.1)

one_apart : (x name : List ℕ) (names : List (List ℕ)) → AllByRecursion (λ y. bytes_eq x y ≡ false) names →
    bytes_eq x name ≡ false →
    AllByRecursion (λ y. bytes_eq x y ≡ false) (names ++ name ∷ [])
one_apart x name [] h d = (d, tt)
one_apart x name (y ∷ ys) h d = (h.0, one_apart x name ys h.1 d)

pub apart_last : (name : List ℕ) (names : List (List ℕ)) → IsDistinct bytes_eq names →
    AllByRecursion (λ other. bytes_eq other name ≡ false) names →
    IsDistinct bytes_eq (names ++ name ∷ [])
unfolding IsDistinct
apart_last name [] h d = (tt, tt)
apart_last name (x ∷ xs) h d = (one_apart x name xs h.0 d.0, apart_last name xs h.1 d.1)

pub names_append : (files : List File) (g : File) → names_of (files ++ g ∷ []) ≡ names_of files ++ g.name ∷ []
names_append [] g = refl
names_append (f ∷ fs) g = ap (λ l. f.name ∷ l) (names_append fs g)

apart_by : (g : File) (files : List File) (o : Option File) → file_named g.name files ≡ o →
    IsDistinct bytes_eq (names_of files) →
    IsDistinct bytes_eq (names_of (if is_some o then map (marked g.name g.defined) files else files ++ g ∷ []))
apart_by g files (Some f) h d = subst (IsDistinct bytes_eq) (sym (same_names g.name g.defined files)) d
apart_by g files None h d = subst (IsDistinct bytes_eq) (sym (names_append files g)) (apart_last g.name (names_of files) d (all_lack g.name files h))

pub apart : (g : File) (files : List File) → IsDistinct bytes_eq (names_of files) →
    IsDistinct bytes_eq (names_of (with_file g files))
apart g files d = apart_by g files (file_named g.name files) refl d
