-- The world of the small project shows it.
use Rattle.std.proofs.Common.{◌≡◌, ℕ, zero, suc, ◌+◌, ◌*◌, ◌%◌, ◌<◌, ◌≤◌, Bool, true, false, not, ◌||◌, List, [], ◌∷◌, length, map, Option, Some, None, inl, inr, refl, sym, ◌∙◌, ap, subst, arith, lit<, lit≤, codes, bytes_eq}
use Rattle.std.specs.Option.{option_or}
use Rattle.std.specs.List.{list_any, prefix_len}
use Rattle.pw_isa.specs.declared.instruction.Inst.{Inst}
use Rattle.pw_tree.specs.declared.tunit.TVar.{TVar}
use Rattle.pw_tree.specs.declared.ty.Ref.TheVariants.{Global, LocalFun}
use Rattle.pw_tree.specs.Held.{held}
use Rattle.pw_tree.specs.Units.{Function}
use Rattle.pw_tree.specs.Names.{Definition, same_definition, function_at, variable_at}
use Rattle.pw_tree.specs.Depends.{entry, defined, Depends}
use Rattle.pw_code.specs.Items.{size}
use Rattle.pw_code.specs.LoadImmediate.{load_signed, signed_words}
use Rattle.pw_code.specs.Pieces.{load_held}
use Rattle.pw_code.specs.ExpressionCode.{expression_words, expression_code}
use Rattle.pw_code.specs.StatementCode.{statement_words, statement_code}
use Rattle.pw_code.specs.FunctionCode.{store_parameters, function_code, function_words, entry_code}
use Rattle.pw_agree.specs.Kept.{IsKept, root, named, FindsKept}
use Rattle.pw_agree.specs.Placing.{external_names, each_name_once, text_of, slots_of, slot_address, function_address, variable_address, target_address}
use Rattle.pw_agree.proofs.Listed.{IsClosed}
use Rattle.pw_agree.proofs.Levels.{same_definition_is, finds_kept}
use Rattle.pw_simulation.specs.World.{World, IsApart}
use Rattle.pw_simulation.specs.CodeAt.{HasAt}
use Rattle.pw_simulation.specs.Values.{IsElement}
use Rattle.pw_simulation.specs.Sees.{Sees, IsFunctionPlace, IsElementPlace, IsKeptFunction}
use Rattle.pw_simulation.specs.Sees as sees
use Rattle.pw_simulation.specs.Tables.{in_table}
use Rattle.pw_simulation.specs.Witness.{f_function, main_function, t_variable, project, definition, keep, entry_instructions, f_instructions, main_instructions, code, world}
use Rattle.pw_simulation.proofs.Tables.{IsInTable, where_in_table, not_in_table, IsTarget, table_has, length_of_instructions}

-- ---- what is kept is closed

-- a set that finds what is kept is closed
pub finds_closed : (w : World) → FindsKept w.project w.keep → sees.IsClosed w
finds_closed w finds = record {
  main = λ g h. (finds g).1 (named (root {n = entry} tt) h);
  pointed = λ g h. (finds g).1 (root h);
  named = λ f g kept h. (finds g).1 (named ((finds f).0 kept) h);
}

main_names_f : Depends project (defined (definition 1)) (definition 0)
main_names_f = (LocalFun 0, (2, lit< tt, refl), refl)

main_kept : IsKept project (defined (definition 1))
main_kept = named (root {n = entry} tt) refl

f_kept : IsKept project (defined (definition 0))
f_kept = named main_kept main_names_f

closed : IsClosed project (entry ∷ map defined (definition 0 ∷ definition 1 ∷ []))
closed = record {
  roots_in = (inl refl, tt);
  named_in = ((inr (inr (inl refl)), tt), (tt, ((inr (inl refl), tt), tt)));
}

finds : FindsKept project keep
finds = finds_kept project (definition 0 ∷ definition 1 ∷ []) (f_kept, (main_kept, tt)) closed

-- a kept function is one of the two
by_kept : (P : Definition → Type 0) → P (definition 0) → P (definition 1) → (d : Definition) → keep d ≡ true → P d
by_kept P first second d kept = by_first (same_definition d (definition 0)) refl kept
  where
    by_second : (t : Bool) → same_definition d (definition 1) ≡ t → t || false ≡ true → P d
    by_second true e h = subst P (sym (same_definition_is d (definition 1) e)) second
    by_second false e h = cc

    by_first : (t : Bool) → same_definition d (definition 0) ≡ t → t || (same_definition d (definition 1) || false) ≡ true → P d
    by_first true e h = subst P (sym (same_definition_is d (definition 0) e)) first
    by_first false e h = by_second (same_definition d (definition 1)) refl h

-- ---- addresses

f_place : function_address project (definition 0) ≡ 0x5000018
unfolding size load_signed signed_words load_held expression_words expression_code statement_words statement_code store_parameters held
f_place = refl

main_place : function_address project (definition 1) ≡ 0x5000054
unfolding size load_signed signed_words load_held expression_words expression_code statement_words statement_code store_parameters held
main_place = refl

slots_are : slots_of project 0 ≡ codes "main" ∷ codes "t" ∷ []
unfolding external_names each_name_once size load_signed signed_words load_held expression_words expression_code statement_words statement_code store_parameters held
slots_are = refl

t_place : variable_address project (definition 0) ≡ 0x6000010
t_place = ap (λ names. 0x6000000 + 8 * (length names + 0)) slots_are

entry_size : size entry_code ≡ 6
unfolding size
entry_size = refl

f_size : size (function_code f_function) ≡ 15
unfolding size load_signed signed_words load_held expression_words expression_code statement_words statement_code store_parameters held
f_size = refl

main_size : size (function_code main_function) ≡ 65
unfolding size load_signed signed_words load_held expression_words expression_code statement_words statement_code store_parameters held
main_size = refl

f_words : function_words f_function ≤ 86
unfolding load_signed signed_words expression_words statement_words held
f_words = lit≤ tt

main_words : function_words main_function ≤ 86
unfolding load_signed signed_words expression_words statement_words held
main_words = lit≤ tt

entry_length : length entry_instructions ≡ 6
entry_length = length_of_instructions (target_address project 0 0) (text_of 0) entry_code ∙ entry_size

f_length : length f_instructions ≡ 15
f_length = length_of_instructions (target_address project 0 0) (function_address project (definition 0)) (function_code f_function) ∙ f_size

main_length : length main_instructions ≡ 65
main_length = length_of_instructions (target_address project 0 0) (function_address project (definition 1)) (function_code main_function) ∙ main_size

-- ---- the code

-- where an instruction of the code is
code_by : (at : ℕ) (i : Inst) (a b c : Option Inst) → (a ≡ Some i → IsInTable 0x5000000 86 at) → (b ≡ Some i → IsInTable 0x5000000 86 at) → (c ≡ Some i → IsInTable 0x5000000 86 at)
    → option_or a (option_or b c) ≡ Some i → IsInTable 0x5000000 86 at
code_by at i (Some x) b c fa fb fc h = fa h
code_by at i None (Some x) c fa fb fc h = fb h
code_by at i None None c fa fb fc h = fc h

widened : (start count at : ℕ) → 0x5000000 ≤ start → start + 4 * count ≤ 0x5000000 + 4 * 86 → start % 4 ≡ 0 → IsInTable start count at → IsInTable 0x5000000 86 at
widened start count at low high even r = record { from = let f = r.from in omega arith; to = let t = r.to in omega arith; even = r.even ∙ even }

where_code : (at : ℕ) (i : Inst) → code at ≡ Some i → IsInTable 0x5000000 86 at
where_code at i h =
    code_by at i (in_table (text_of 0) entry_instructions at) (in_table (function_address project (definition 0)) f_instructions at) (in_table (function_address project (definition 1)) main_instructions at)
    (λ e. widened 0x5000000 (length entry_instructions) at (lit≤ tt) (omega (arith, entry_length)) refl (where_in_table (text_of 0) entry_instructions at i e))
    (λ e. widened (function_address project (definition 0)) (length f_instructions) at (omega (arith, f_place)) (omega (arith, f_place, f_length)) (ap (λ p. p % 4) f_place) (where_in_table (function_address project (definition 0)) f_instructions at i e))
    (λ e. widened (function_address project (definition 1)) (length main_instructions) at (omega (arith, main_place)) (omega (arith, main_place, main_length)) (ap (λ p. p % 4) main_place) (where_in_table (function_address project (definition 1)) main_instructions at i e))
    h

first_of : (a b : Option Inst) (i : Inst) → a ≡ Some i → option_or a b ≡ Some i
first_of a b i e = ap (λ o. option_or o b) e

later_of : (a b : Option Inst) (i : Inst) → a ≡ None → b ≡ Some i → option_or a b ≡ Some i
later_of a b i e h = ap (λ o. option_or o b) e ∙ h

entry_stands : (at : ℕ) (i : Inst) → in_table (text_of 0) entry_instructions at ≡ Some i → code at ≡ Some i
entry_stands at i h = first_of (in_table (text_of 0) entry_instructions at) _ i h

f_stands : (at : ℕ) (i : Inst) → in_table (function_address project (definition 0)) f_instructions at ≡ Some i → code at ≡ Some i
f_stands at i h =
    let r = where_in_table (function_address project (definition 0)) f_instructions at i h in
    let from = r.from in
    later_of (in_table (text_of 0) entry_instructions at) _ i (not_in_table (text_of 0) entry_instructions at (omega (arith, f_place, entry_length)))
    (first_of (in_table (function_address project (definition 0)) f_instructions at) _ i h)

main_stands : (at : ℕ) (i : Inst) → in_table (function_address project (definition 1)) main_instructions at ≡ Some i → code at ≡ Some i
main_stands at i h =
    let r = where_in_table (function_address project (definition 1)) main_instructions at i h in
    let from = r.from in
    later_of (in_table (text_of 0) entry_instructions at) _ i (not_in_table (text_of 0) entry_instructions at (omega (arith, main_place, entry_length)))
    (later_of (in_table (function_address project (definition 0)) f_instructions at) _ i (not_in_table (function_address project (definition 0)) f_instructions at (omega (arith, f_place, main_place, f_length))) h)

-- ---- targets

main_slot : slot_address project 0 (codes "main") ≡ 0x6000000
main_slot = ap (λ names. 0x6000000 + 8 * prefix_len (λ other. not (bytes_eq other (codes "main"))) names) slots_are

t_slot : slot_address project 0 (codes "t") ≡ 0x6000008
t_slot = ap (λ names. 0x6000000 + 8 * prefix_len (λ other. not (bytes_eq other (codes "t"))) names) slots_are

main_target : IsTarget world 0 0 (Global (codes "main"))
main_target = record { low = omega (arith, main_slot); slot = ap (λ names. list_any (λ other. bytes_eq other (codes "main")) names) slots_are }

t_target : IsTarget world 0 0 (Global (codes "t"))
t_target = record { low = omega (arith, t_slot); slot = ap (λ names. list_any (λ other. bytes_eq other (codes "t")) names) slots_are }

f_target : IsTarget world 0 0 (LocalFun 0)
f_target = record { low = omega (arith, f_place); slot = tt }

entry_there : HasAt world 0 0 (text_of 0) entry_code
entry_there = table_has world 0 0 entry_code (text_of 0) (omega (arith, entry_size)) (main_target, tt) entry_stands

f_there : HasAt world 0 0 (function_address project (definition 0)) (function_code f_function)
unfolding load_signed signed_words expression_words expression_code statement_words statement_code store_parameters held load_held
f_there = table_has world 0 0 (function_code f_function) (function_address project (definition 0)) (omega (arith, f_place, f_size)) tt f_stands

main_there : HasAt world 0 0 (function_address project (definition 1)) (function_code main_function)
unfolding load_signed signed_words expression_words expression_code statement_words statement_code store_parameters held load_held
main_there = table_has world 0 0 (function_code main_function) (function_address project (definition 1)) (omega (arith, main_place, main_size)) (t_target, (f_target, (t_target, (t_target, tt)))) main_stands

-- ---- functions

same_function : (f g : Function) → Some f ≡ Some g → f ≡ g
same_function f g h = cc

functions_there : (d : Definition) → keep d ≡ true → (f : Function) → function_at project d ≡ Some f → HasAt world d.in_module d.in_unit (function_address project d) (function_code f)
functions_there = by_kept (λ d. (f : Function) → function_at project d ≡ Some f → HasAt world d.in_module d.in_unit (function_address project d) (function_code f))
    (λ f h. subst (λ g. HasAt world 0 0 (function_address project (definition 0)) (function_code g)) (same_function f_function f h) f_there)
    (λ f h. subst (λ g. HasAt world 0 0 (function_address project (definition 1)) (function_code g)) (same_function main_function f h) main_there)

functions_short : (d : Definition) → keep d ≡ true → (f : Function) → function_at project d ≡ Some f → function_words f ≤ 86
functions_short = by_kept (λ d. (f : Function) → function_at project d ≡ Some f → function_words f ≤ 86)
    (λ f h. subst (λ g. function_words g ≤ 86) (same_function f_function f h) f_words)
    (λ f h. subst (λ g. function_words g ≤ 86) (same_function main_function f h) main_words)

places : (d : Definition) → keep d ≡ true → IsFunctionPlace (function_address project d)
places = by_kept (λ d. IsFunctionPlace (function_address project d))
    (record { some = omega (arith, f_place); low = omega (arith, f_place); even = ap (λ p. p % 4) f_place })
    (record { some = omega (arith, main_place); low = omega (arith, main_place); even = ap (λ p. p % 4) main_place })

differ : (d : Definition) → keep d ≡ true → (e : Definition) → keep e ≡ true → function_address project d ≡ function_address project e → d ≡ e
differ = by_kept (λ d. (e : Definition) → keep e ≡ true → function_address project d ≡ function_address project e → d ≡ e)
    (by_kept (λ e. function_address project (definition 0) ≡ function_address project e → definition 0 ≡ e) (λ h. refl) (λ h. absurd (omega (arith, f_place, main_place, h))))
    (by_kept (λ e. function_address project (definition 1) ≡ function_address project e → definition 1 ≡ e) (λ h. absurd (omega (arith, f_place, main_place, h))) (λ h. refl))

-- ---- the variable

-- the only variable, where one is found
record IsIt (m u i : ℕ) (x : TVar) : Type 0 where
  first : m ≡ 0
  second : u ≡ 0
  third : i ≡ 0
  variable : t_variable ≡ x

it_by : (m u i : ℕ) (x : TVar) → variable_at project (record { in_module = m; in_unit = u; number = i }) ≡ Some x → IsIt m u i x
it_by zero zero zero x h = record { first = refl; second = refl; third = refl; variable = cc }
it_by zero zero (suc i) x h = cc
it_by zero (suc u) i x h = cc
it_by (suc m) u i x h = cc

-- an element is one of two doublewords
record Element (d : Definition) (i : ℕ) : Type 0 where
  is : d ≡ definition 0
  below : i < 2
  place : variable_address project d + 8 * i ≡ 0x6000010 + 8 * i

element_is : (d : Definition) (i : ℕ) (x : TVar) → IsElement world d i x → Element d i
element_is d i x e =
    let it = it_by d.in_module d.in_unit d.number x e.there in
    let same : d ≡ definition 0 = rw (it.first, it.second, it.third) refl in
    let below : i < Rattle.pw_tree.specs.WellTypedUnits.room t_variable.count = subst (λ (v : TVar). i < Rattle.pw_tree.specs.WellTypedUnits.room v.count) (sym it.variable) e.below in
    record { is = same; below = below; place = ap (λ k. variable_address project k + 8 * i) same ∙ ap (λ p. p + 8 * i) t_place }

-- ---- slots

-- a name that is found stands before the end
found_before : (test : List ℕ → Bool) (names : List (List ℕ)) → list_any test names ≡ true → prefix_len (λ other. not (test other)) names < length names
found_before test [] h = cc
found_before test (name ∷ names) h = by_test (test name) refl h (found_before test names)
  where
    by_test : (t : Bool) → test name ≡ t → t || list_any test names ≡ true → (list_any test names ≡ true → prefix_len (λ other. not (test other)) names < length names)
        → prefix_len (λ other. not (test other)) (name ∷ names) < suc (length names)
    by_test true e h rest = rw e (omega arith)
    by_test false e h rest = let r = rest h in rw e (omega arith)

no_slots : (m : ℕ) → slots_of project (suc m) ≡ []
unfolding each_name_once external_names
no_slots m = refl

slot_is_low : (m : ℕ) (name : List ℕ) → list_any (λ other. bytes_eq other name) (slots_of project m) ≡ true → slot_address project m name + 8 ≤ 0x6000010
slot_is_low zero name h =
    let before = found_before (λ other. bytes_eq other name) (slots_of project 0) h in
    let count : length (slots_of project 0) ≡ 2 = ap length slots_are in
    low (prefix_len (λ other. not (bytes_eq other name)) (slots_of project 0)) (length (slots_of project 0)) before count
  where
    low : (k n : ℕ) → k < n → n ≡ 2 → 0x6000000 + 8 * k + 8 ≤ 0x6000010
    low k n h e = omega arith
slot_is_low (suc m) name h =
    let none : list_any (λ other. bytes_eq other name) (slots_of project (suc m)) ≡ false = ap (λ names. list_any (λ other. bytes_eq other name) names) (no_slots m) in cc

-- ---- all

apart : IsApart world
apart = record {
  code_low = λ at i h. let r = where_code at i h in let to = r.to in omega arith;
  code_even = λ at i h. (where_code at i h).even;
  slots_below = λ m name h. let low = slot_is_low m name h in omega arith;
  stack_is_low = lit< tt;
  stack_is_even = refl;
}

pub world_sees : Sees world
world_sees = record {
  apart = apart;
  closed = finds_closed world finds;
  has_entry = entry_there;
  functions = λ d f is. functions_there d is.kept f is.there;
  few_words = λ d f is. functions_short d is.kept f is.there;
  function_places = places;
  functions_differ = λ d e kept_d kept_e h. differ d kept_d e kept_e h;
  element_places = λ d i x is. let e = element_is d i x is in let below = e.below in record { below = omega (arith, e.place); even = omega (arith, e.place) };
  elements_differ = λ d e i j x y is_d is_e h.
      let a = element_is d i x is_d in let b = element_is e j y is_e in (a.is ∙ sym b.is, omega (arith, a.place, b.place, h));
  slots_differ = λ d i x k name is has h. let e = element_is d i x is in let low = slot_is_low k name has in omega (arith, e.place, low, h);
}
