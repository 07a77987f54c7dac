-- Each element of each variable has its initial value in the image of a project.
use Rattle.std.proofs.Common.{◌≡◌, ℕ, zero, suc, ◌+◌, ◌-◌, ◌*◌, ◌^◌, ◌<◌, ◌≤◌, Bool, true, false, cond, List, [], ◌∷◌, ◌++◌, length, Option, Some, None, refl, sym, ◌∙◌, ap, subst, arith, lit<}
use Rattle.std.specs.Prelude.{slice_get, option_map, option_and_then, replicate}
use Rattle.std.specs.Option.{option_map_or, is_some}
use Rattle.pw_tree.specs.declared.ty.Ty.{Ty}
use Rattle.pw_tree.specs.declared.ty.Ty.TheVariants.{Void, Long, Ulong, Fn}
use Rattle.pw_tree.specs.declared.ty.Sig.{Sig}
use Rattle.pw_tree.specs.declared.tunit.TVar.{TVar}
use Rattle.pw_tree.specs.declared.tunit.Init.{Init}
use Rattle.pw_tree.specs.declared.tunit.Init.TheVariants.{Num, Fun}
use Rattle.pw_tree.specs.Types.{pointer_to}
use Rattle.pw_tree.specs.Units.{Function}
use Rattle.pw_tree.specs.Names.{Project, Definition, resolved, function_at, variable_at}
use Rattle.pw_tree.specs.States.{Value, null, pointer, zero_of, value_or_zero}
use Rattle.pw_tree.specs.States as value
use Rattle.pw_tree.specs.Meaning.{definition_or_first, initial_element, initial_value, initial_variables}
use Rattle.pw_tree.specs.WellTypedExpressions.{Class, number, class_of}
use Rattle.pw_tree.specs.WellTypedUnits.{room, Initialises}
use Rattle.pw_mem.specs.Memory.{zeros}
use Rattle.pw_mem.specs.Words.{doubleword}
use Rattle.pw_code.specs.Objects.{is_initialised, fill, filled}
use Rattle.pw_agree.specs.Kept.{Keep}
use Rattle.pw_agree.specs.Image.{data_image, slots_image, variables_image, element_image, image}
use Rattle.pw_agree.specs.Placing.{units_of, data_of, function_address, slots_of, elements_before, variable_address, entity_address}
use Rattle.pw_agree.proofs.Members.{IsIn, each_in}
use Rattle.pw_simulation.specs.Values.{Represents, AreCarried}
use Rattle.pw_simulation.specs.Projects.{CanRun, KeepsEnough}
use Rattle.pw_simulation.specs.ImageWorld.{world_of}
use Rattle.pw_simulation.proofs.Joined.{get_left, get_right, length_both, got_of_map, got_of_copies}
use Rattle.pw_simulation.proofs.TwoLevels.{place_end}
use Rattle.pw_simulation.proofs.Extents.{variable_is, weight_if, elements_of_units}
use Rattle.pw_simulation.proofs.Elements.{place_if, IsPlaced, placed, sum_is, variable_ends, variable_item}
use Rattle.pw_simulation.proofs.Addresses.{variable_module, element_at}
use Rattle.pw_simulation.proofs.Slots.{got_in}
use Rattle.pw_simulation.proofs.Links.{contains, typed_variable, means_function}
use Rattle.pw_simulation.proofs.Enough.{items_fit, item_points, item_used}
use Rattle.pw_simulation.proofs.ImageData.{length_of_variables, initialised_at}
use Rattle.pw_simulation.proofs.ImageRegions.{data_there}
use Rattle.pw_simulation.proofs.ImageReady.{function_is_low, length_of_slots, others}

-- ---- zeros

got_of_zeros : (n k : ℕ) → k < n → slice_get (zeros n) k ≡ Some 0
unfolding zeros
got_of_zeros n k h = got_of_copies n 0 k h

-- ---- what stands for a value

zero_stands : (project : Project) (keep : Keep) (ty : Ty) → Represents (world_of project keep) (class_of ty) (zero_of ty) 0
zero_stands project keep Void = tt
zero_stands project keep Long = (refl, lit< tt)
zero_stands project keep Ulong = (refl, lit< tt)
zero_stands project keep (Fn k) = refl

number_stands : (project : Project) (keep : Keep) (c : Class) (n : ℕ) → c ≡ number → n < 2 ^ 64 → Represents (world_of project keep) c (value.number n) n
number_stands project keep c n is small = subst (λ k. Represents (world_of project keep) k (value.number n) n) (sym is) (refl, small)

pointer_by : (t : Bool) (n : ℕ) (ty : Ty) → cond t (Some (Fn n)) None ≡ Some ty → (k : ℕ) × (ty ≡ Fn k)
pointer_by true n ty e = (n, cc)
pointer_by false n ty e = cc

pointer_is : (sig : Sig) (ty : Ty) → pointer_to sig ≡ Some ty → (k : ℕ) × (ty ≡ Fn k)
pointer_is sig ty e = pointer_by _ (length sig.params) ty e

-- what stands for a pointer to a kept function
pointer_stands : (project : Project) (keep : Keep) (callee : Function) (d : Definition) (v : ℕ) (ty : Ty) → v ≡ function_address project d → keep d ≡ true → function_at project d ≡ Some callee
    → pointer_to callee.sig ≡ Some ty → Represents (world_of project keep) (class_of ty) (pointer d) v
pointer_stands project keep callee d v ty is kept there type =
    let p = pointer_is callee.sig ty type in
    subst (λ t. Represents (world_of project keep) (class_of t) (pointer d) v) (sym p.1) (record { is = is; kept = kept; callee = callee; there = there; type = type ∙ ap (λ t. Some t) p.1 })

-- ---- elements of initialisers

-- the number of an element stands for its value
record Stands (project : Project) (keep : Keep) (m u : ℕ) (ty : Ty) (item : Init) : Type 0 where
  small : element_image project m u item < 2 ^ 64
  represents : Represents (world_of project keep) (class_of ty) (initial_element project m u item) (element_image project m u item)

item_stands : (project : Project) (keep : Keep) → CanRun project → KeepsEnough project keep → (d : Definition) (x : TVar) → variable_at project d ≡ Some x → (values : List Init) → x.init ≡ Some values
    → (item : Init) → IsIn values item → Stands project keep d.in_module d.in_unit x.ty item
item_stands project keep run enough d x h values e (Num n) is_in =
    let it = variable_is project d x h in
    let fits = each_in (Initialises it.unit x.ty) values (Num n) (items_fit it.unit x x.init values e (typed_variable project run d x it).initialiser) is_in in
    record { small = fits.1; represents = number_stands project keep (class_of x.ty) n fits.0 fits.1 }
item_stands project keep run enough d x h values e (Fun f) is_in =
    let it = variable_is project d x h in
    let points = item_points project run d x it values f e is_in in
    let m = means_function project run d it.unit f points.sig it.unit_there (item_used project d x it values f e is_in) points.function in
    let word : entity_address project (resolved project d.in_module d.in_unit f) ≡ function_address project m.d = ap (entity_address project) m.found in
    let low = function_is_low project run m.d m.callee m.there in
    let named : definition_or_first (resolved project d.in_module d.in_unit f) ≡ m.d = ap definition_or_first m.found in
    let kept : keep m.d ≡ true = enough.pointed m.d (record { at = d; variable = x; there = h; values = values; initialised = e; name = f; named = contains values (Fun f) is_in; means = m.found }) in
    record {
      small = omega arith;
      represents = subst (λ g. Represents (world_of project keep) (class_of x.ty) (pointer g) (entity_address project (resolved project d.in_module d.in_unit f))) (sym named)
          (pointer_stands project keep m.callee m.d (entity_address project (resolved project d.in_module d.in_unit f)) x.ty word kept m.there (ap pointer_to m.type ∙ points.type));
    }

-- ---- elements of variables

-- a doubleword of the data stands for the initial value of an element
record HasInitial (project : Project) (keep : Keep) (d : Definition) (x : TVar) (i : ℕ) (o : Option ℕ) : Type 0 where
  word : ℕ
  got : o ≡ Some word
  small : word < 2 ^ 64
  represents : Represents (world_of project keep) (class_of x.ty) (initial_value project d x i) word

nothing_there : {X : Type 0} (xs : List X) (i : ℕ) → slice_get xs i ≡ None → length xs ≤ i
nothing_there [] i h = omega arith
nothing_there (x ∷ xs) zero h = cc
nothing_there (x ∷ xs) (suc i) h = let r = nothing_there xs i h in omega arith

-- the items of a variable in memory
abbrev items_of : TVar → Option (List Init) → List Init
items_of x o = option_map_or (λ (values : List Init). values) (option_map (fill x) o) []

initial_is : (project : Project) (d : Definition) (x : TVar) (i : ℕ) (o : Option (List Init)) → x.init ≡ o → (a : Option Init) → option_and_then (λ (items : List Init). slice_get items i) o ≡ a
    → initial_value project d x i ≡ value_or_zero x.ty (option_map (initial_element project d.in_module d.in_unit) a)
initial_is project d x i o e a f =
    ap (λ p. value_or_zero x.ty (option_map (initial_element project d.in_module d.in_unit) (option_and_then (λ (items : List Init). slice_get items i) p))) e
    ∙ ap (λ b. value_or_zero x.ty (option_map (initial_element project d.in_module d.in_unit) b)) f

item_by : (project : Project) (keep : Keep) → CanRun project → KeepsEnough project keep → (d : Definition) (x : TVar) → variable_at project d ≡ Some x → (i : ℕ) → i < room x.count
    → (values : List Init) → x.init ≡ Some values → (a : Option Init) → slice_get values i ≡ a
    → HasInitial project keep d x i (option_map (element_image project d.in_module d.in_unit) (slice_get (fill x values) i))
item_by project keep run enough d x h i below values e (Some item) f =
    let s = item_stands project keep run enough d x h values e item (got_in values i item f) in
    let short = Rattle.pw_simulation.proofs.Joined.got_below values i item f in
    record {
      word = element_image project d.in_module d.in_unit item;
      got = ap (option_map (element_image project d.in_module d.in_unit)) (get_left values (replicate (room x.count - length values) (Num 0)) i short ∙ f);
      small = s.small;
      represents = subst (λ v. Represents (world_of project keep) (class_of x.ty) v (element_image project d.in_module d.in_unit item)) (sym (initial_is project d x i (Some values) e (Some item) f)) s.represents;
    }
item_by project keep run enough d x h i below values e None f =
    let beyond = nothing_there values i f in
    let place : i ≡ length values + (i - length values) = omega arith in
    record {
      word = 0;
      got = ap (option_map (element_image project d.in_module d.in_unit))
          (ap (slice_get (fill x values)) place ∙ get_right values (replicate (room x.count - length values) (Num 0)) (i - length values)
          ∙ got_of_copies (room x.count - length values) (Num 0) (i - length values) (omega arith));
      small = lit< tt;
      represents = subst (λ v. Represents (world_of project keep) (class_of x.ty) v 0) (sym (initial_is project d x i (Some values) e None f)) (zero_stands project keep x.ty);
    }

no_initialiser : (o : Option (List Init)) → is_some o ≡ false → o ≡ None
no_initialiser None h = refl
no_initialiser (Some values) h = cc

has_initialiser : (o : Option (List Init)) → is_some o ≡ true → (values : List Init) × (o ≡ Some values)
has_initialiser None h = cc
has_initialiser (Some values) h = (values, refl)

-- the place of an element among the doublewords of its module's data
abbrev number_of_element : Project → Definition → ℕ → ℕ
number_of_element project d i = length (slots_of project d.in_module) + (elements_before project d + i)

initial_by : (project : Project) (keep : Keep) → CanRun project → KeepsEnough project keep → (d : Definition) (x : TVar) → variable_at project d ≡ Some x → (i : ℕ) → i < room x.count
    → (t : Bool) → IsPlaced project d x t → HasInitial project keep d x i (slice_get (data_image project d.in_module) (number_of_element project d i))
initial_by project keep run enough d x h i below true p =
    let m = d.in_module in
    let slots : List ℕ = slots_image project m in
    let variables : List ℕ = variables_image project m 0 (units_of project m) in
    let before = p.before in
    let w : weight_if is_initialised x ≡ room x.count = rw p.initialised refl in
    let ends = place_end (λ (unit : Rattle.pw_tree.specs.Units.TypedUnit). unit.variables) (weight_if is_initialised) (units_of project m) d.in_unit d.number x (variable_item is_initialised project d x h) in
    let number : number_of_element project d i ≡ length slots + (place_if is_initialised project d + i) = omega (arith, length_of_slots project m) in
    let short : number_of_element project d i < length (slots ++ variables) = omega (arith, length_both slots variables, length_of_slots project m, length_of_variables project run m) in
    let v = has_initialiser x.init p.initialised in
    let got : slice_get (data_image project m) (number_of_element project d i) ≡ option_map (element_image project m d.in_unit) (slice_get (fill x v.0) i) =
    get_left (slots ++ variables) (zeros (others project m)) (number_of_element project d i) short
    ∙ ap (slice_get (slots ++ variables)) number ∙ get_right slots variables (place_if is_initialised project d + i)
    ∙ initialised_at project run d x h p.initialised i below
    ∙ got_of_map (element_image project m d.in_unit) (items_of x x.init) i
    ∙ ap (λ o. option_map (element_image project m d.in_unit) (slice_get (items_of x o) i)) v.1 in
    let r = item_by project keep run enough d x h i below v.0 v.1 (slice_get v.0 i) refl in
    record { word = r.word; got = got ∙ r.got; small = r.small; represents = r.represents }
initial_by project keep run enough d x h i below false p =
    let m = d.in_module in
    let slots : List ℕ = slots_image project m in
    let variables : List ℕ = variables_image project m 0 (units_of project m) in
    let before = p.before in
    let ends = variable_ends project d x h in
    let none = no_initialiser x.init p.initialised in
    let inner : ℕ = place_if Rattle.pw_code.specs.Objects.is_uninitialised project d + i in
    let number : number_of_element project d i ≡ length (slots ++ variables) + inner = omega (arith, length_both slots variables, length_of_slots project m, length_of_variables project run m) in
    let within : inner < others project m = omega (arith, sum_is project m, elements_of_units Rattle.pw_code.specs.Objects.is_uninitialised (units_of project m)) in
    record {
      word = 0;
      got = ap (slice_get (data_image project m)) number ∙ get_right (slots ++ variables) (zeros (others project m)) inner ∙ got_of_zeros (others project m) inner within;
      small = lit< tt;
      represents = subst (λ v. Represents (world_of project keep) (class_of x.ty) v 0) (sym (initial_is project d x i None none None refl)) (zero_stands project keep x.ty);
    }

-- ---- all

initial_of : (project : Project) (d : Definition) (i : ℕ) (x : TVar) → variable_at project d ≡ Some x → initial_variables project d i ≡ initial_value project d x i
initial_of project d i x h = ap (λ o. option_map_or (λ (y : TVar). initial_value project d y i) o (value.number 0)) h

pub variables_are_carried : (project : Project) (keep in_memory : Keep) → CanRun project → KeepsEnough project keep
    → AreCarried (world_of project keep) (initial_variables project) (image project in_memory)
variables_are_carried project keep in_memory run enough d i x is =
    let at = element_at project d i x is.there is.below in
    let number = at.is in
    let r = initial_by project keep run enough d x is.there i is.below (is_initialised x) (placed project d x is.there (is_initialised x) refl) in
    let place : variable_address project d + 8 * i ≡ data_of d.in_module + 8 * number_of_element project d i = let a = at.address in omega arith in
    record {
      word = r.word;
      is = ap (doubleword (image project in_memory)) place ∙ data_there project in_memory run d.in_module (number_of_element project d i) r.word (variable_module project d x is.there) r.got r.small;
      represents = subst (λ v. Represents (world_of project keep) (class_of x.ty) v r.word) (sym (initial_of project d i x is.there)) r.represents;
    }
