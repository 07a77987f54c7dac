-- A function of a unit without faults is well typed.
use Rattle.std.proofs.Common.{◌≡◌, ℕ, zero, suc, ◌+◌, ◌-◌, ◌^◌, ◌≤◌, ◌<◌, Bool, true, false, ◌||◌, if◌then◌else◌, List, [], ◌∷◌, ◌++◌, length, map, take, Option, Some, None, is_some, refl, sym, ap, subst, ◌∙◌, arith, length-append, bytes_eq, eq-eqb, inl, inr}
use Rattle.std.specs.Prelude.{⊤, slice_get, nat_eq}
use Rattle.std.specs.List.{list_any, AllByRecursion}
use Rattle.std.proofs.lemmas.Bool.{cases_Bool}
use Rattle.std.proofs.lemmas.Bool.Decides.{nat_tests}
use Rattle.std.proofs.lemmas.List.{length-map}
use Rattle.pw_base.specs.Limits as limits
use Rattle.pw_tree.specs.declared.ty.Ty.{Ty}
use Rattle.pw_tree.specs.declared.ty.Ty.TheVariants.{Void, Long, Ulong, Fn}
use Rattle.pw_tree.specs.declared.decl.Param.{Param}
use Rattle.pw_tree.specs.Statements.{Statement, Statements, OptionalStatement, empty, block, local, set, evaluate, if_else, while_loop, do_loop, for_loop, returns, breaks, continues, nil, cons, absent, present}
use Rattle.pw_tree.specs.Declarations.{Declaration}
use Rattle.pw_tree.specs.Types.{IsValueType, AreValueTypes}
use Rattle.pw_tree.specs.Units.{TypedUnit}
use Rattle.pw_tree.specs.Placed.{AreStatementsPlaced}
use Rattle.pw_tree.specs.Proper.{IsProper, AreProper, IsMaybeProper, HaveStatementNumbers}
use Rattle.pw_tree.specs.WellTypedExpressions.{Class, class_of, IsValueClass, IsKnown}
use Rattle.pw_tree.specs.WellTypedUnits.{below, IsWellTypedFunction}
use Rattle.pw_types.specs.declared.names.Kind.TheVariants.{Function}
use Rattle.pw_types.specs.declared.names.File.{File}
use Rattle.pw_types.specs.declared.names.Local.{Local}
use Rattle.pw_types.specs.Scopes.{Scope, local_named}
use Rattle.pw_types.specs.Blocks.{Setting, part, body, head, Block, inner, after, after_maybe, locals_in, locals_in_all, locals_in_maybe}
use Rattle.pw_types.specs.Steps.Uses.{uses_by_all}
use Rattle.pw_types.specs.Steps.StatementFaults.{faults_by_all}
use Rattle.pw_types.specs.Declarations.{signature, local_of, locals_of, outermost, setting, Whole, file_scope}
use Rattle.pw_types.specs.Steps.UnitFaults.{faults_of_parameters}
use Rattle.pw_types.specs.Units.{typed_function}
use Rattle.pw_types.specs.Steps.Texts.{HasText}
use Rattle.pw_types.proofs.Parameters.{few_parameters}
use Rattle.pw_types.proofs.Fitting.{AreAmong, LocalsFit, FilesFit}
use Rattle.pw_types.proofs.SoundStatements.{IsSound, AreSound, IsMaybeSound, statements_sound}
use Rattle.pw_types.proofs.SoundShapes.{AreSmallLines, all_leave_loops, all_simple_parts, all_small_numbers, all_few_held, all_counted}
use Rattle.pw_types.proofs.SoundLocals.{types_in, types_in_all, types_in_maybe, all_types_count, HaveClasses, have_left, have_right, classes_from, count_after, count_after_maybe, Place, last_proper, all_flow}

-- ---- how many locals

mutual
  unfolding IsSound locals_in

  bounded : (x : Setting) (b : Block) (s : Statement) → IsSound x b s → b.count ≤ 120 → b.count + locals_in s ≤ 120
  bounded x b (empty at) h few = omega arith
  bounded x b (block at ss) h few = all_bounded (part x) (inner b) ss h few
  bounded x b (local at ty name e) h few = omega (arith, h.few)
  bounded x b (set at name i e) h few = omega arith
  bounded x b (evaluate at e) h few = omega arith
  bounded x b (if_else at c a d) h few =
      let n = count_after b a in
      let m : (after a b).count ≤ 120 = omega (arith, n, bounded (part x) b a h.1 few) in
      omega (arith, n, maybe_bounded (part x) (after a b) d h.2 m)
  bounded x b (while_loop at c s) h few = bounded (body x) b s h.1 few
  bounded x b (do_loop at s c) h few = bounded (body x) b s h.0 few
  bounded x b (for_loop at first c last s) h few =
      let b1 : Block = after_maybe first (inner b) in
      let b2 : Block = after_maybe last b1 in
      let n1 : b1.count ≡ b.count + locals_in_maybe first = count_after_maybe (inner b) first in
      let n2 : b2.count ≡ b1.count + locals_in_maybe last = count_after_maybe b1 last in
      let m1 : b1.count ≤ 120 = omega (arith, n1, maybe_bounded (head x) (inner b) first h.0 few) in
      let m2 : b2.count ≤ 120 = omega (arith, n2, maybe_bounded (head x) b1 last h.2 m1) in
      omega (arith, n1, n2, bounded (body x) b2 s h.3 m2)
  bounded x b (returns at e) h few = omega arith
  bounded x b (breaks at) h few = omega arith
  bounded x b (continues at) h few = omega arith

  all_bounded : (x : Setting) (b : Block) (ss : Statements) → AreSound x b ss → b.count ≤ 120 → b.count + locals_in_all ss ≤ 120
  all_bounded x b nil h few = omega arith
  all_bounded x b (cons s ss) h few =
      let n = count_after b s in
      let m : (after s b).count ≤ 120 = omega (arith, n, bounded x b s h.0 few) in
      omega (arith, n, all_bounded x (after s b) ss h.1 m)

  maybe_bounded : (x : Setting) (b : Block) (s : OptionalStatement) → IsMaybeSound x b s → b.count ≤ 120 →
      b.count + locals_in_maybe s ≤ 120
  maybe_bounded x b absent h few = omega arith
  maybe_bounded x b (present s) h few = bounded x b s h few

-- ---- their types

both_values : (xs ys : List Ty) → AreValueTypes xs → AreValueTypes ys → AreValueTypes (xs ++ ys)
unfolding AreValueTypes
both_values [] ys h k = k
both_values (x ∷ xs) ys h k = (h.0, both_values xs ys h.1 k)

no_values : AreValueTypes []
unfolding AreValueTypes
no_values = tt

mutual
  unfolding types_in IsProper AreValueTypes

  value_types : (s : Statement) → IsProper s → AreValueTypes (types_in s)
  value_types (empty at) p = tt
  value_types (block at ss) p = all_value_types ss p
  value_types (local at ty name e) p = (p, tt)
  value_types (set at name i e) p = tt
  value_types (evaluate at e) p = tt
  value_types (if_else at c a d) p = both_values (types_in a) (types_in_maybe d) (value_types a p.2) (maybe_value_types d p.3)
  value_types (while_loop at c s) p = value_types s p.1
  value_types (do_loop at s c) p = value_types s p.1
  value_types (for_loop at first c last s) p =
      both_values (types_in_maybe first) (types_in_maybe last ++ types_in s) (maybe_value_types first p.3)
      (both_values (types_in_maybe last) (types_in s) (maybe_value_types last (last_proper last p.1)) (value_types s p.4))
  value_types (returns at e) p = tt
  value_types (breaks at) p = tt
  value_types (continues at) p = tt

  all_value_types : (ss : Statements) → AreProper ss → AreValueTypes (types_in_all ss)
  all_value_types nil p = tt
  all_value_types (cons s ss) p = both_values (types_in s) (types_in_all ss) (value_types s p.0) (all_value_types ss p.1)

  maybe_value_types : (s : OptionalStatement) → IsMaybeProper s → AreValueTypes (types_in_maybe s)
  maybe_value_types absent p = tt
  maybe_value_types (present s) p = value_types s p

value_class : (ty : Ty) → IsValueType ty → IsValueClass (class_of ty)
value_class Void h = absurd h
value_class Long h = tt
value_class Ulong h = tt
value_class (Fn k) h = h

value_classes : (tys : List Ty) → AreValueTypes tys → AllByRecursion IsValueClass (map class_of tys)
unfolding AreValueTypes
value_classes [] h = tt
value_classes (ty ∷ tys) h = (value_class ty h.0, value_classes tys h.1)

taken : (xs ys : List Ty) → take (length xs) (map class_of (xs ++ ys)) ≡ map class_of xs
taken [] ys = refl
taken (x ∷ xs) ys = ap (λ l. class_of x ∷ l) (taken xs ys)

-- ---- parameters

below_known : (n k : ℕ) → k < n → IsKnown (below n) k
unfolding below
below_known zero k h = absurd (omega arith)
below_known (suc n) k h = elim (cases_Bool (nat_eq n k)) [
  | inl same ↦ ap (λ b. b || list_any (λ j. nat_eq j k) (below n)) same
  | inr other ↦ ap (λ b. b || list_any (λ j. nat_eq j k) (below n)) other ∙ below_known n k (not_last n k h other)
]
  where
    not_last : (n k : ℕ) → k < suc n → nat_eq n k ≡ false → k < n
    not_last n k h other = grind (arith, nat_tests)

-- what holds of each local holds of the one that a name means
local_by : (P : Local → Type 0) (name : List ℕ) (l k : Local) (o : Option Local) → P l → (o ≡ Some k → P k) →
    (if is_some o then o else (if bytes_eq l.name name then Some l else None)) ≡ Some k → P k
local_by P name l k (Some m) p later h = later h
local_by P name l k None p later h = here (bytes_eq l.name name) h
  where
    here : (b : Bool) → (if b then Some l else None) ≡ Some k → P k
    here true h = subst P (let e : l ≡ k = cc in e) p
    here false h = cc

of_local : (P : Local → Type 0) (name : List ℕ) (ls : List Local) (k : Local) → AllByRecursion P ls →
    local_named name ls ≡ Some k → P k
unfolding local_named
of_local P name [] k h is = cc
of_local P name (l ∷ ls) k h is = local_by P name l k (local_named name ls) h.0 (of_local P name ls k h.1) is

one_more_local : (P : Local → Type 0) (ls : List Local) (l : Local) → AllByRecursion P ls → P l →
    AllByRecursion P (ls ++ l ∷ [])
one_more_local P [] l h p = (p, tt)
one_more_local P (k ∷ ks) l h p = (h.0, one_more_local P ks l h.1 p)

-- a parameter has the class of its type, and is known
abbrev IsParameter : List Class → ℕ → Local → Type 0
IsParameter classes n l = (slice_get classes l.number ≡ Some (class_of l.ty)) × IsKnown (below n) l.number

parameters_are : (classes : List Class) (n : ℕ) (before : List Local) (ps : List Param) →
    AllByRecursion (IsParameter classes n) before →
    HaveClasses classes (length before) (map (λ p. p.ty) ps) → length before + length ps ≤ n → AllByRecursion (IsParameter classes n) (locals_of before ps)
unfolding locals_of HaveClasses
parameters_are classes n before [] h c few = h
parameters_are classes n before (p ∷ ps) h c few =
    let longer : length (before ++ local_of (length before) p ∷ []) ≡ suc (length before) = omega (arith, length-append before (local_of (length before) p ∷ [])) in
    parameters_are classes n (before ++ local_of (length before) p ∷ []) ps
    (one_more_local (IsParameter classes n) before (local_of (length before) p) h (c.0, below_known n (length before) (omega arith)))
    (subst (λ k. HaveClasses classes k (map (λ p. p.ty) ps)) (sym longer) c.1) (omega (arith, longer))

-- ---- the function

module _ (unit : TypedUnit) (used : List ℕ) (w : Whole) (files : List File) (d : Declaration) (result : Ty) (params : List Param) (ss : Statements)
    (fit : FilesFit unit used (file_scope w files)) where
  abbrev b : Block
  b = outermost (file_scope w files) params

  abbrev x : Setting
  x = setting w.lines result

  abbrev types : List Ty
  types = map (λ p. p.ty) params

  abbrev locals : List Ty
  locals = types ++ types_in_all ss

  abbrev classes : List Class
  classes = map class_of locals

  count_types : length types ≡ length params
  count_types = length-map params (λ p. p.ty)

  place : Place unit used classes (below (length types)) b.scope
  place = record {
    locals = record {
      classes_are = λ name l h. (of_local (IsParameter classes (length types)) name (locals_of [] params) l all h).0;
      known_are = λ name l h. (of_local (IsParameter classes (length types)) name (locals_of [] params) l all h).1;
    };
    files = record { function = fit.function; variable = fit.variable };
  }
    where
      all : AllByRecursion (IsParameter classes (length types)) (locals_of [] params)
      all = parameters_are classes (length types) [] params tt (have_left classes 0 types (types_in_all ss) (classes_from [] locals 0 refl)) (omega (arith, count_types))

  pub function_well_typed : AreAmong used (uses_by_all b ss) → faults_by_all x b ss ≡ [] →
      faults_of_parameters true [] params ≡ [] →
      HasText (Function (signature result params)) → AreProper ss → d.last - d.declarator ≤ limits.function_tokens → d.line < 2 ^ 32 →
      HaveStatementNumbers ss → AreStatementsPlaced (suc d.declarator) d.last ss → d.declarator ≤ d.last → AreSmallLines w.lines →
      IsWellTypedFunction unit (typed_function w files d result params ss)
  function_well_typed u none params_none text proper short line numbers placed order lines =
      let sound = statements_sound x b ss none in
      let few : length {A = Param} [] + length params ≤ 6 = few_parameters true [] params (omega arith) params_none in
      let flow = all_flow unit used classes x b ss (below (length types)) place
      (have_right classes 0 (length params) types (types_in_all ss) (omega (arith, count_types)) (classes_from [] locals 0 refl)) u proper sound in
      let counted = all_counted x b ss (suc d.declarator) d.last (omega arith) (omega arith) refl placed sound in
      record {
        signature = text;
        line = line;
        few_locals = all_bounded x b ss sound (omega arith);
        few_held = all_few_held x b ss sound;
        few_phrases = omega (arith, counted, short);
        held = refl;
        parameters = omega (arith, count_types);
        classes = classes;
        are_classes = record {
          each = omega (arith, length-map locals class_of, length-append types (types_in_all ss), count_types, all_types_count ss);
          values = value_classes locals (both_values types (types_in_all ss) text.params (all_value_types ss proper));
          parameters = taken types (types_in_all ss);
        };
        fits = flow.fits;
        reads = flow.reads;
        loops = all_leave_loops x b ss sound;
        simple_parts = all_simple_parts x b ss proper sound;
        numbers = all_small_numbers x b ss lines numbers sound;
      }
