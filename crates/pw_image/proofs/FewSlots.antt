-- The slots of a unit's project are for names of its list, each once, so there are no more of them.
use Rattle.std.proofs.Common.{◌≡◌, ℕ, ◌≤◌, Bool, true, false, not, List, [], ◌∷◌, map, length, flat_map, refl, sym, subst, ◌∙◌, bytes_eq, append-nil, codes}
use Rattle.std.specs.List.{AllByRecursion, IsDistinct, filter}
use Rattle.std.specs.Set.{is_member}
use Rattle.std.proofs.lemmas.Cmp.{nat_list_eq_equiv}
use Rattle.std.proofs.lemmas.List.{map-id}
use Rattle.std.proofs.lemmas.Map.Made.{length-le_from_is_member}
use Rattle.pw_base.specs.declared.kinds.Kind.TheVariants.{Program}
use Rattle.pw_tree.specs.declared.ty.Ref.TheVariants.{Global, LocalFun, LocalVar}
use Rattle.pw_tree.specs.declared.tunit.Ext.{Ext}
use Rattle.pw_tree.specs.Units.{TypedUnit}
use Rattle.pw_tree.specs.WellTypedUnits.{IsWellTyped}
use Rattle.pw_code.specs.declared.item.Item.{Item}
use Rattle.pw_code.specs.declared.item.Item.TheVariants.{Word, Addr}
use Rattle.pw_code.specs.declared.object.FunCode.{FunCode}
use Rattle.pw_code.specs.declared.object.Object.{Object}
use Rattle.pw_code.specs.Objects.{object_of}
use Rattle.pw_code.specs.Soundness.{IsKnownRef, IsSoundItem, IsSoundFunction}
use Rattle.pw_gen.proofs.Elements.{each_map, each_weaker, each_filter, each_passed}
use Rattle.pw_gen.proofs.DistinctNames.{distinct_kept}
use Rattle.pw_gen.proofs.SoundObject.{sound_object}
use Rattle.pw_place.specs.Names.{first_of_each}
use Rattle.pw_place.specs.Places.{functions, names_in_item, text_items, slot_names}
use Rattle.pw_agree.specs.Placing.{slots_of}
use Rattle.pw_agree.proofs.Members.{each_in, any_in, any_gives}
use Rattle.pw_simulation.proofs.Links.{entry_is_in}
use Rattle.pw_image.specs.OneUnit.{project_of, objects_of}
use Rattle.pw_image.proofs.Names.{bytes_eq_is, bytes_eq_itself}
use Rattle.pw_image.proofs.Slots.{slots_stand}
use Rattle.pw_image.proofs.ListedNames.{each_of_lists, in_mapped}

-- ---- the first of each name

turned : (n : List ℕ) (y : List ℕ) → not (bytes_eq y n) ≡ true → bytes_eq n y ≡ false
turned n y h = nat_list_eq_equiv.symm n y ∙ other (bytes_eq y n) h
  where
    other : (b : Bool) → not b ≡ true → b ≡ false
    other true e = cc
    other false e = refl

same_firsts_differ : (names : List (List ℕ)) → IsDistinct bytes_eq (map (λ (n : List ℕ). n) (first_of_each bytes_eq names))
unfolding first_of_each IsDistinct
same_firsts_differ [] = tt
same_firsts_differ (n ∷ ns) =
    let later : List (List ℕ) = first_of_each bytes_eq ns in (
      each_map (λ y. bytes_eq n y ≡ false) (λ (m : List ℕ). m) (filter (λ y. not (bytes_eq y n)) later)
          (each_weaker (λ y. not (bytes_eq y n) ≡ true) (λ y. bytes_eq n y ≡ false) (turned n) (filter (λ y. not (bytes_eq y n)) later)
          (each_passed (λ y. not (bytes_eq y n)) later)),
      distinct_kept (λ (m : List ℕ). m) (λ y. not (bytes_eq y n)) later (same_firsts_differ ns),
    )

firsts_differ : (names : List (List ℕ)) → IsDistinct bytes_eq (first_of_each bytes_eq names)
firsts_differ names = subst (IsDistinct bytes_eq) (map-id (first_of_each bytes_eq names)) (same_firsts_differ names)

each_first : (P : List ℕ → Type 0) (names : List (List ℕ)) → AllByRecursion P names → AllByRecursion P (first_of_each bytes_eq names)
unfolding first_of_each
each_first P [] h = tt
each_first P (n ∷ ns) h = (h.0, each_filter P (λ y. not (bytes_eq y n)) (first_of_each bytes_eq ns) (each_first P ns h.1))

-- ---- the names in code

-- a name has a text in an object's list
abbrev pub IsListed : Object → List ℕ → Type 0
IsListed object name = IsKnownRef object (Global name)

listed_in_item : (object : Object) (item : Item) → IsSoundItem object item → AllByRecursion (IsListed object) (names_in_item item)
listed_in_item object (Word w) h = tt
listed_in_item object (Addr rd (Global n)) h = (h.1, tt)
listed_in_item object (Addr rd (LocalFun i)) h = tt
listed_in_item object (Addr rd (LocalVar i)) h = tt

module _ (name : List ℕ) (unit : TypedUnit) (well : IsWellTyped unit) where
  abbrev object : Object
  object = object_of name unit

  abbrev items_of : List FunCode → List Item
  items_of fs = flat_map (λ (f : FunCode). f.items) fs

  sound_items : AllByRecursion (IsSoundItem object) (items_of object.funs)
  sound_items =
      let sound = sound_object name unit well in
      each_of_lists (IsSoundFunction object) (IsSoundItem object) (λ f. f.items) (λ f h. h.items) object.funs sound.functions

  abbrev text_names : List (List ℕ)
  text_names = flat_map names_in_item (text_items Program (objects_of name unit))

  listed_in_text : IsListed object (codes "main") → AllByRecursion (IsListed object) text_names
  listed_in_text main = (
    main,
    each_of_lists (IsSoundItem object) (IsListed object) names_in_item (listed_in_item object) (items_of (functions (objects_of name unit)))
        (subst (λ fs. AllByRecursion (IsSoundItem object) (items_of fs)) (sym (append-nil object.funs)) sound_items),
  )

  abbrev listed : List (List ℕ)
  listed = map (λ (n : Ext). n.name) unit.names

  is_among : (wanted : List ℕ) → IsListed object wanted → is_member bytes_eq listed wanted ≡ true
  is_among wanted h =
      let entry : Ext = record { name = wanted; text = h.0 } in
      any_in (bytes_eq wanted) listed wanted (in_mapped (λ (n : Ext). n.name) unit.names entry (entry_is_in unit.names wanted h.0 h.1))
      (bytes_eq_itself wanted)

  among_listed : (names : List (List ℕ)) → AllByRecursion (IsListed object) names → (wanted : List ℕ) →
      is_member bytes_eq names wanted ≡ true → is_member bytes_eq listed wanted ≡ true
  among_listed names each wanted h =
      let it = any_gives (λ n. wanted ≡ n) (bytes_eq wanted) (λ n e. bytes_eq_is wanted n e) names h in
      is_among wanted (subst (IsListed object) (sym it.2) (each_in (IsListed object) names it.0 each it.1))

  -- A well-typed unit whose list has `main`, to which the entry refers, has no more slots than names.
  pub slots_are_few : IsListed object (codes "main") → length (slots_of (project_of unit) 0) ≤ length listed
  slots_are_few main =
      subst (λ l. length l ≤ length listed) (slots_stand name unit)
      (length-le_from_is_member nat_list_eq_equiv (slot_names Program (objects_of name unit)) listed (firsts_differ text_names)
      (among_listed (slot_names Program (objects_of name unit)) (each_first (IsListed object) text_names (listed_in_text main))))
