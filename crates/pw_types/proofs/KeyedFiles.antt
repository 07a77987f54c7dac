-- A map of the names at file scope by their bytes, and the list of these.
use Rattle.std.proofs.Common.{◌≡◌, ℕ, ◌+◌, Bool, true, false, cond, not, ◌||◌, List, [], ◌∷◌, ◌++◌, map, Option, Some, None, refl, sym, ap, subst, ◌∙◌, position, is_some, if◌then◌else◌}
use Rattle.std.specs.List.{AllByRecursion, IsDistinct, position_or_len}
use Rattle.std.specs.Map.{keys_of, values_of, lookup, set_value}
use Rattle.std.specs.Cmp.Lexicographic.{bytes_decides, nat_list_eq_equiv}
use Rattle.std.specs.Str.{bytes_eq}
use Rattle.std.proofs.lemmas.List.{map-append}
use Rattle.indexmap.specs.IndexMap.{IndexMap, insert_entry}
use Rattle.indexmap.proofs.CallerLemmas.{insert_entry-new}
use Rattle.pw_types.specs.declared.names.File.{File}
use Rattle.pw_types.specs.Scopes.{file_named, marked, with_file}
use Rattle.pw_types.specs.Steps.Uses.{file_number}
use Rattle.pw_types.specs.Steps.Lookups.{AreKeyed}
use Rattle.pw_types.proofs.Places.{by_answer, some_is, none_is_some, place}

-- the file that is found has the name
pub named : (name : List ℕ) (files : List File) (f : File) → file_named name files ≡ Some f → f.name ≡ name
named name [] f h = none_is_some f h
named name (g ∷ gs) f h = by_answer (bytes_eq g.name name)
    (λ yes. subst (λ x. x.name ≡ name) (some_is g f (sym (ap choose yes) ∙ h)) ((bytes_decides g.name name).0 yes))
    (λ no. named name gs f (sym (ap choose no) ∙ h))
  where
    choose : Bool → Option File
    choose b = cond b (Some g) (file_named name gs)

-- a declaration of a name that is known, and of one that is not
with_known : (f g : File) (files : List File) → file_named f.name files ≡ Some g →
    with_file f files ≡ map (marked f.name f.defined) files
with_known f g files h = ap (λ o. if is_some o then map (marked f.name f.defined) files else files ++ f ∷ []) h

with_new : (f : File) (files : List File) → file_named f.name files ≡ None → with_file f files ≡ files ++ f ∷ []
with_new f files h = ap (λ o. if is_some o then map (marked f.name f.defined) files else files ++ f ∷ []) h

-- the same declaration, defined where it was or where a later one is
abbrev pub also : Bool → File → File
also known f = record f { defined = f.defined || known }

module _ {K : Type 0} (bytes : K → List ℕ) where
  abbrev pub same_key : K → K → Bool
  same_key k j = bytes_eq (bytes k) (bytes j)

  -- one more file at its own name
  one_more : (es : List (K × File)) (k : K) (f : File) → AreKeyed bytes es → bytes k ≡ f.name →
      AreKeyed bytes (es ++ (k, f) ∷ [])
  one_more [] k f h e = (e, tt)
  one_more (x ∷ es) k f h e = (h.0, one_more es k f h.1 e)

  -- another declaration of the same name, in the place of the one that is found
  kept : (test : K → Bool) (es : List (K × File)) (f w : File) → w.name ≡ f.name → AreKeyed bytes es → lookup test es ≡ Some f →
      AreKeyed bytes (set_value test es w)
  kept test [] f w same h there = tt
  kept test (e ∷ es) f w same h there = by_answer (test e.0)
      (λ yes. subst (AreKeyed bytes) (sym (ap change yes)) (h.0 ∙ sym (same ∙ sym (ap name_of (some_is e.1 f (sym (ap choose yes) ∙ there)))), h.1))
      (λ no. subst (AreKeyed bytes) (sym (ap change no)) (h.0, kept test es f w same h.1 (sym (ap choose no) ∙ there)))
    where
      name_of : File → List ℕ
      name_of x = x.name

      choose : Bool → Option File
      choose b = cond b (Some e.1) (lookup test es)

      change : Bool → List (K × File)
      change b = cond b ((e.0, w) ∷ es) (e ∷ set_value test es w)

  module _ (name : List ℕ) where
    abbrev pub at_name : K → Bool
    at_name k = bytes_eq name (bytes k)

    -- a key is asked for the name as the name of the file is that stands there
    asked : (e : K × File) → bytes e.0 ≡ e.1.name → at_name e.0 ≡ bytes_eq e.1.name name
    asked e h = ap (bytes_eq name) h ∙ nat_list_eq_equiv.symm name e.1.name

    -- the file that stands at a name is the one of this name
    pub found : (es : List (K × File)) → AreKeyed bytes es → lookup at_name es ≡ file_named name (values_of es)
    found [] h = refl
    found (e ∷ es) h = λ i. cond (asked e h.0 i) (Some e.1) (found es h.1 i)

    -- and the key stands where the file stands
    number : (es : List (K × File)) → AreKeyed bytes es → position_or_len at_name (keys_of es) ≡ file_number name (values_of es)
    number [] h = refl
    number (e ∷ es) h = λ i. cond (not (asked e h.0 i)) (1 + number es h.1 i) 0

    pub placed : (es : List (K × File)) (i : ℕ) → AreKeyed bytes es → position at_name (keys_of es) ≡ Some i →
        i ≡ file_number name (values_of es)
    placed es i h there = place at_name (keys_of es) i there ∙ number es h

    -- a file of another name is not marked
    passed : (known : Bool) (e : K × File) → bytes e.0 ≡ e.1.name → at_name e.0 ≡ false → marked name known e.1 ≡ e.1
    passed known e h other = ap (λ b. if b then also known e.1 else e.1) (sym (asked e h) ∙ other)

    all_passed : (known : Bool) (es : List (K × File)) → AreKeyed bytes es →
        AllByRecursion (λ k. at_name k ≡ false) (keys_of es) → map (marked name known) (values_of es) ≡ values_of es
    all_passed known [] h none = refl
    all_passed known (e ∷ es) h none = λ i. passed known e h.0 none.0 i ∷ all_passed known es h.1 none.1 i

    -- marking the file of a name is a write at the name
    marks : (known : Bool) (es : List (K × File)) (f : File) → AreKeyed bytes es → IsDistinct same_key (keys_of es)
        → lookup at_name es ≡ Some f → values_of (set_value at_name es (also known f)) ≡ map (marked name known) (values_of es)
    unfolding IsDistinct
    marks known [] f h apart there = refl
    marks known (e ∷ es) f h apart there = by_answer (at_name e.0) here (λ t. beyond t (marks known es f h.1 apart.1 (sym (ap choose t) ∙ there)))
      where
        change : Bool → List File
        change b = values_of (cond b ((e.0, also known f) ∷ es) (e ∷ set_value at_name es (also known f)))

        choose : Bool → Option File
        choose b = cond b (Some e.1) (lookup at_name es)

        mark : Bool → File
        mark b = if b then also known e.1 else e.1

        here : at_name e.0 ≡ true → change (at_name e.0) ≡ map (marked name known) (values_of (e ∷ es))
        here t =
            let own : also known f ≡ marked name known e.1 = ap (also known) (sym (some_is e.1 f (sym (ap choose t) ∙ there))) ∙ ap mark (sym t ∙ asked e h.0) in
            let none : AllByRecursion (λ k. at_name k ≡ false) (keys_of es) =
            subst (λ n. AllByRecursion (λ k. bytes_eq n (bytes k) ≡ false) (keys_of es)) (sym ((bytes_decides name (bytes e.0)).0 t)) apart.0 in
            ap change t ∙ (λ i. own i ∷ sym (all_passed known es h.1 none) i)

        beyond : at_name e.0 ≡ false →
            values_of (set_value at_name es (also known f)) ≡ map (marked name known) (values_of es) →
            change (at_name e.0) ≡ map (marked name known) (values_of (e ∷ es))
        beyond t rest = ap change t ∙ (λ i. sym (passed known e h.0 t) i ∷ rest i)

  -- A declaration has joined the files of these entries.
  pub record HasJoined (f : File) (old new : List (K × File)) : Type 0 where
    pub keyed : AreKeyed bytes new
    pub files : values_of new ≡ with_file f (values_of old)

  -- where the name is known, its file is written
  pub joins_known : (f g : File) (name : List ℕ) (old new : List (K × File)) → name ≡ f.name → AreKeyed bytes old →
      IsDistinct same_key (keys_of old)
      → lookup (at_name name) old ≡ Some g → new ≡ set_value (at_name name) old (also f.defined g) → HasJoined f old new
  joins_known f g name old new own h apart there e =
      subst (HasJoined f old) (sym e) (record {
        keyed = kept (at_name name) old g (also f.defined g) refl h there;
        files =
            marks name f.defined old g h apart there
            ∙ ap (λ n. map (marked n f.defined) (values_of old)) own
            ∙ sym (with_known f g (values_of old) (ap (λ n. file_named n (values_of old)) (sym own) ∙ sym (found name old h) ∙ there));
      })

  -- where it is new, the file goes last
  pub joins_new : {S : Type 0} (f : File) (name : List ℕ) (k : K) (old : IndexMap K File S) (new : List (K × File)) →
      name ≡ f.name → bytes k ≡ f.name
      → AreKeyed bytes old.entries → lookup (at_name name) old.entries ≡ None → new ≡ insert_entry same_key old.entries k f → HasJoined f old.entries new
  joins_new f name k old new asked_for own h none e =
      let last : insert_entry same_key old.entries k f ≡ old.entries ++ (k, f) ∷ [] =
      insert_entry-new same_key old k f (subst (λ n. lookup (at_name n) old.entries ≡ None) (asked_for ∙ sym own) none) in
      subst (HasJoined f old.entries) (sym (e ∙ last)) (record {
        keyed = one_more old.entries k f h own;
        files =
            map-append (λ x. x.1) old.entries ((k, f) ∷ [])
            ∙ sym (with_new f (values_of old.entries) (ap (λ n. file_named n (values_of old.entries)) (sym asked_for) ∙ sym (found name old.entries h) ∙ none));
      })
