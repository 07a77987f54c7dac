-- The locals of a body without faults: each has the class of its declaration's type, and is read only where it is known; and the
-- statements fit.
use Rattle.std.proofs.Common.{◌≡◌, ℕ, zero, suc, ◌+◌, ◌≤◌, ◌<◌, Bool, true, false, ◌||◌, if◌then◌else◌, List, [], ◌∷◌, ◌++◌, length, map, Option, Some, None, is_some, refl, sym, ap, subst, ◌∙◌, arith, append_assoc, length-append, eq-eqb, ◌⊎◌}
use Rattle.std.specs.Prelude.{⊤, nat_eq, slice_get, option_map, bytes_eq}
use Rattle.std.specs.List.{list_any}
use Rattle.std.proofs.lemmas.Bool.{cases_Bool}
use Rattle.std.proofs.Common.{inl, inr}
use Rattle.pw_tree.specs.declared.ty.Ty.{Ty}
use Rattle.pw_tree.specs.Expressions.{Span, Expression}
use Rattle.pw_tree.specs.Statements.{Statement, Statements, OptionalStatement, empty, block, local, set, evaluate, if_else, while_loop, do_loop, for_loop, returns, breaks, continues, nil, cons, absent, present}
use Rattle.pw_tree.specs.TypedStatements.{TypedStatement}
use Rattle.pw_tree.specs.TypedStatements as tree
use Rattle.pw_tree.specs.Units.{TypedUnit}
use Rattle.pw_tree.specs.Proper.{IsNoDeclaration, IsSimpleStatement, IsLastPart, IsProper, AreProper, IsMaybeProper}
use Rattle.pw_tree.specs.WellTypedExpressions.{Class, number, class_of, HasFittingParts, IsKnown, Throughout}
use Rattle.pw_tree.specs.WellTypedStatements.{IfPresent, Everywhere, EverywhereIn, EverywhereIf, IsCondition, StatementFits, known_after, known_after_maybe, ExpressionReads, StatementReads, StatementsRead, MaybeReads}
use Rattle.pw_types.specs.declared.role.Role.{Role}
use Rattle.pw_types.specs.declared.role.Role.TheVariants.{Statement as AsStatement, Value, Assigned}
use Rattle.pw_types.specs.declared.names.Local.{Local}
use Rattle.pw_types.specs.declared.names.File.{File}
use Rattle.pw_types.specs.Scopes.{Scope, name_meaning, declared, local_named}
use Rattle.pw_types.specs.Steps.Uses.{uses_of_meaning, uses_of_name, uses, file_number, uses_of_option, uses_by, uses_by_all, uses_by_maybe}
use Rattle.pw_types.specs.Blocks.{Setting, part, body, head, Block, inner, after, after_maybe, with_local, locals_in, locals_in_all, locals_in_maybe}
use Rattle.pw_types.specs.TypedStatements.{typed_expression, typed_set, typed_statement, typed_statements, optional_typed_statement}
use Rattle.pw_types.proofs.Classes.{number_class, value_class, void_class, converted_class}
use Rattle.pw_types.proofs.Fitting.{IsAmong, AreAmong, among_left, among_right, local_meant, own_file, LocalsFit, FilesFit, parts_fit, reads_known}
use Rattle.pw_types.proofs.SoundStatements.{IsTypedAs, IsOptionWhole, SoundSet, set_to_local, set_to_variable, set_to_element, Returns, IsSound, AreSound, IsMaybeSound}

-- ---- the types of a body's locals, in order of their numbers

unfoldable mutual
  pub types_in : Statement → List Ty
  types_in (empty at) = []
  types_in (block at ss) = types_in_all ss
  types_in (local at ty name e) = ty ∷ []
  types_in (set at name i e) = []
  types_in (evaluate at e) = []
  types_in (if_else at c a b) = types_in a ++ types_in_maybe b
  types_in (while_loop at c s) = types_in s
  types_in (do_loop at s c) = types_in s
  types_in (for_loop at first c last s) = types_in_maybe first ++ (types_in_maybe last ++ types_in s)
  types_in (returns at e) = []
  types_in (breaks at) = []
  types_in (continues at) = []

  pub types_in_all : Statements → List Ty
  types_in_all nil = []
  types_in_all (cons s ss) = types_in s ++ types_in_all ss

  pub types_in_maybe : OptionalStatement → List Ty
  types_in_maybe absent = []
  types_in_maybe (present s) = types_in s

mutual
  unfolding types_in locals_in

  types_count : (s : Statement) → length (types_in s) ≡ locals_in s
  types_count (empty at) = refl
  types_count (block at ss) = all_types_count ss
  types_count (local at ty name e) = refl
  types_count (set at name i e) = refl
  types_count (evaluate at e) = refl
  types_count (if_else at c a b) = omega (arith, length-append (types_in a) (types_in_maybe b), types_count a, maybe_types_count b)
  types_count (while_loop at c s) = types_count s
  types_count (do_loop at s c) = types_count s
  types_count (for_loop at first c last s) =
      omega (
        arith,
        length-append (types_in_maybe first) (types_in_maybe last ++ types_in s),
        length-append (types_in_maybe last) (types_in s),
        maybe_types_count first,
        maybe_types_count last,
        types_count s,
      )
  types_count (returns at e) = refl
  types_count (breaks at) = refl
  types_count (continues at) = refl

  pub all_types_count : (ss : Statements) → length (types_in_all ss) ≡ locals_in_all ss
  all_types_count nil = refl
  all_types_count (cons s ss) = omega (arith, length-append (types_in s) (types_in_all ss), types_count s, all_types_count ss)

  maybe_types_count : (s : OptionalStatement) → length (types_in_maybe s) ≡ locals_in_maybe s
  maybe_types_count absent = refl
  maybe_types_count (present s) = types_count s

-- ---- classes by number

-- from this number on, locals have the classes of these types
unfoldable pub HaveClasses : List Class → ℕ → List Ty → Type 0
HaveClasses classes n [] = ⊤
HaveClasses classes n (ty ∷ tys) = (slice_get classes n ≡ Some (class_of ty)) × HaveClasses classes (suc n) tys

pub have_left : (classes : List Class) (n : ℕ) (xs ys : List Ty) → HaveClasses classes n (xs ++ ys) → HaveClasses classes n xs
unfolding HaveClasses
have_left classes n [] ys h = tt
have_left classes n (x ∷ xs) ys h = (h.0, have_left classes (suc n) xs ys h.1)

pub have_right : (classes : List Class) (n m : ℕ) (xs ys : List Ty) → m ≡ n + length xs → HaveClasses classes n (xs ++ ys) →
    HaveClasses classes m ys
unfolding HaveClasses
have_right classes n m [] ys e h = subst (λ k. HaveClasses classes k ys) (let f : n ≡ m = omega arith in f) h
have_right classes n m (x ∷ xs) ys e h = have_right classes (suc n) m xs ys (omega arith) h.1

class_at : (pre post : List Ty) (ty : Ty) → slice_get (map class_of (pre ++ ty ∷ post)) (length pre) ≡ Some (class_of ty)
class_at [] post ty = refl
class_at (x ∷ pre) post ty = class_at pre post ty

-- the classes of types, from the last of the first ones on
pub classes_from : (pre tys : List Ty) (n : ℕ) → n ≡ length pre → HaveClasses (map class_of (pre ++ tys)) n tys
unfolding HaveClasses
classes_from pre [] n e = tt
classes_from pre (ty ∷ tys) n e = (
  subst (λ k. slice_get (map class_of (pre ++ ty ∷ tys)) k ≡ Some (class_of ty)) (sym e) (class_at pre tys ty),
  subst (λ l. HaveClasses (map class_of l) (suc n) tys) (append_assoc pre (ty ∷ []) tys)
      (classes_from (pre ++ ty ∷ []) tys (suc n) (omega (arith, length-append pre (ty ∷ [])))),
)

-- ---- after a statement

pub count_after : (b : Block) (s : Statement) → (after s b).count ≡ b.count + locals_in s
unfolding locals_in
count_after b (empty at) = omega arith
count_after b (block at ss) = refl
count_after b (local at ty name e) = omega arith
count_after b (set at name i e) = omega arith
count_after b (evaluate at e) = omega arith
count_after b (if_else at c a d) = refl
count_after b (while_loop at c s) = refl
count_after b (do_loop at s c) = refl
count_after b (for_loop at first c last s) = refl
count_after b (returns at e) = omega arith
count_after b (breaks at) = omega arith
count_after b (continues at) = omega arith

pub count_after_maybe : (b : Block) (s : OptionalStatement) → (after_maybe s b).count ≡ b.count + locals_in_maybe s
unfolding locals_in
count_after_maybe b absent = omega arith
count_after_maybe b (present s) = count_after b s

-- ---- places

-- What holds of a place: the visible locals have their classes and are known, and names at file scope are those of the unit.
pub record Place (unit : TypedUnit) (used : List ℕ) (classes : List Class) (known : List ℕ) (scope : Scope) : Type 0 where
  pub locals : LocalsFit classes known scope
  pub files : FilesFit unit used scope

known_more : (known : List ℕ) (i j : ℕ) → IsKnown known j → IsKnown (i ∷ known) j
known_more known i j h = elim (cases_Bool (nat_eq i j)) [
  | inl same ↦ ap (λ b. b || list_any (λ k. nat_eq k j) known) same
  | inr other ↦ ap (λ b. b || list_any (λ k. nat_eq k j) known) other ∙ h
]

module _ (unit : TypedUnit) (used : List ℕ) (classes : List Class) where
  one_more_known : (known : List ℕ) (i : ℕ) (scope : Scope) → Place unit used classes known scope →
      Place unit used classes (i ∷ known) scope
  one_more_known known i scope p = record {
    locals = record {
      classes_are = p.locals.classes_are;
      known_are = λ name l h. known_more known i l.number (p.locals.known_are name l h);
    };
    files = p.files;
  }

  more_known : (known : List ℕ) (t : TypedStatement) (scope : Scope) → Place unit used classes known scope →
      Place unit used classes (known_after t known) scope
  more_known known (tree.set_local i e) scope p = one_more_known known i scope p
  more_known known (tree.evaluate e) scope p = p
  more_known known (tree.set_variable x e) scope p = p
  more_known known (tree.set_element x size line i e) scope p = p
  more_known known (tree.block ss) scope p = p
  more_known known (tree.if_else c a d) scope p = p
  more_known known (tree.while_loop c s) scope p = p
  more_known known (tree.do_loop s c) scope p = p
  more_known known (tree.for_loop first c last s) scope p = p
  more_known known (tree.returns e) scope p = p
  more_known known tree.breaks scope p = p
  more_known known tree.continues scope p = p

-- ---- one local more

pick : (b : Bool) (new : Local) (m r : Option Local) →
    (if is_some (if b then Some new else m) then (if b then Some new else m) else r) ≡ (if b then Some new else (if is_some m then m else r))
pick true new m r = refl
pick false new m r = refl

-- the newest local of a name is the last, or one of those before
newest_is : (name : List ℕ) (ls : List Local) (new : Local) →
    local_named name (ls ++ new ∷ []) ≡ (if bytes_eq new.name name then Some new else local_named name ls)
unfolding local_named
newest_is name [] new = refl
newest_is name (k ∷ ls) new =
    ap (λ o. if is_some o then o else (if bytes_eq k.name name then Some k else None)) (newest_is name ls new)
    ∙ pick (bytes_eq new.name name) new (local_named name ls) (if bytes_eq k.name name then Some k else None)

chosen : (b : Bool) (new l : Local) (o : Option Local) → (if b then Some new else o) ≡ Some l → (new ≡ l) ⊎ (o ≡ Some l)
chosen true new l o h = inl (let e : new ≡ l = cc in e)
chosen false new l o h = inr h

last_or_before : (name : List ℕ) (ls : List Local) (new l : Local) → local_named name (ls ++ new ∷ []) ≡ Some l →
    (new ≡ l) ⊎ (local_named name ls ≡ Some l)
last_or_before name ls new l h = chosen (bytes_eq new.name name) new l (local_named name ls) (sym (newest_is name ls new) ∙ h)

known_now : (n : ℕ) (known : List ℕ) → IsKnown (n ∷ known) n
known_now n known = ap (λ b. b || list_any (λ k. nat_eq k n) known) (eq-eqb n n refl)

module _ (unit : TypedUnit) (used : List ℕ) (classes : List Class) where
  declared_place : (known : List ℕ) (b : Block) (name : List ℕ) (ty : Ty) → Place unit used classes known b.scope →
      slice_get classes b.count ≡ Some (class_of ty) →
      Place unit used classes (b.count ∷ known) (with_local name ty b.count b.scope)
  declared_place known b name ty p is = record {
    locals = record {
      classes_are = λ other l h. elim (last_or_before other b.scope.locals (record { name = name; ty = ty; number = b.count }) l h) [
        | inl new ↦ subst (λ (k : Local). slice_get classes k.number ≡ Some (class_of k.ty)) new is
        | inr old ↦ p.locals.classes_are other l old
      ];
      known_are = λ other l h. elim (last_or_before other b.scope.locals (record { name = name; ty = ty; number = b.count }) l h) [
        | inl new ↦ subst (λ (k : Local). IsKnown (b.count ∷ known) k.number) new (known_now b.count known)
        | inr old ↦ known_more known b.count l.number (p.locals.known_are other l old)
      ];
    };
    files = record { function = p.files.function; variable = p.files.variable };
  }

  -- a branch or a loop's body leaves nothing visible
  passed_place : (known : List ℕ) (b : Block) (s : Statement) → IsNoDeclaration s → Place unit used classes known b.scope →
      Place unit used classes known (after s b).scope
  passed_place known b (local at ty name e) p q = absurd p
  passed_place known b (empty at) p q = q
  passed_place known b (block at ss) p q = record { locals = q.locals; files = q.files }
  passed_place known b (set at name i e) p q = q
  passed_place known b (evaluate at e) p q = q
  passed_place known b (if_else at c a d) p q = q
  passed_place known b (while_loop at c s) p q = q
  passed_place known b (do_loop at s c) p q = q
  passed_place known b (for_loop at first c last s) p q = q
  passed_place known b (returns at e) p q = q
  passed_place known b (breaks at) p q = q
  passed_place known b (continues at) p q = q

  -- a declaration leaves its local visible, and known
  after_place : (x : Setting) (known : List ℕ) (b : Block) (s : Statement) → Place unit used classes known b.scope →
      HaveClasses classes b.count (types_in s) → Place unit used classes (known_after (typed_statement x b s) known) (after s b).scope
  unfolding HaveClasses types_in typed_statement
  after_place x known b (local at ty name e) p h = declared_place known b name ty p h.0
  after_place x known b (empty at) p h = p
  after_place x known b (block at ss) p h = p
  after_place x known b (set at name i e) p h = more_known unit used classes known (typed_set x b.scope at name i e) b.scope p
  after_place x known b (evaluate at e) p h = p
  after_place x known b (if_else at c a d) p h = p
  after_place x known b (while_loop at c s) p h = p
  after_place x known b (do_loop at s c) p h = p
  after_place x known b (for_loop at first c last s) p h = p
  after_place x known b (returns at e) p h = p
  after_place x known b (breaks at) p h = p
  after_place x known b (continues at) p h = p

  maybe_place : (x : Setting) (known : List ℕ) (b : Block) (s : OptionalStatement) → Place unit used classes known b.scope →
      HaveClasses classes b.count (types_in_maybe s) →
      Place unit used classes (known_after_maybe (optional_typed_statement x b s) known) (after_maybe s b).scope
  unfolding types_in typed_statement
  maybe_place x known b absent p h = p
  maybe_place x known b (present s) p h = after_place x known b s p h

  -- nor does the last part of a `for`
  simple_passed : (known : List ℕ) (b : Block) (s : Statement) → IsSimpleStatement s → Place unit used classes known b.scope →
      Place unit used classes known (after s b).scope
  simple_passed known b (set at name i e) p q = q
  simple_passed known b (evaluate at e) p q = q
  simple_passed known b (local at ty name e) p q = absurd p
  simple_passed known b (empty at) p q = absurd p
  simple_passed known b (block at ss) p q = absurd p
  simple_passed known b (if_else at c a d) p q = absurd p
  simple_passed known b (while_loop at c s) p q = absurd p
  simple_passed known b (do_loop at s c) p q = absurd p
  simple_passed known b (for_loop at first c last s) p q = absurd p
  simple_passed known b (returns at e) p q = absurd p
  simple_passed known b (breaks at) p q = absurd p
  simple_passed known b (continues at) p q = absurd p

  last_passed : (known : List ℕ) (b : Block) (s : OptionalStatement) → IsLastPart s → Place unit used classes known b.scope →
      Place unit used classes known (after_maybe s b).scope
  last_passed known b absent p q = q
  last_passed known b (present s) p q = simple_passed known b s p q

-- ---- statements fit, and read known locals

-- of a typed statement, where these locals are known
pub record Flows (unit : TypedUnit) (result : Class) (classes : List Class) (known : List ℕ) (t : TypedStatement) : Type 0 where
  pub fits : Everywhere (StatementFits unit result classes) t
  pub reads : StatementReads known t

pub record AllFlow (unit : TypedUnit) (result : Class) (classes : List Class) (known : List ℕ) (ts : tree.TypedStatements) : Type 0 where
  pub fits : EverywhereIn (StatementFits unit result classes) ts
  pub reads : StatementsRead known ts

pub record MaybeFlows (unit : TypedUnit) (result : Class) (classes : List Class) (known : List ℕ) (t : tree.OptionalTypedStatement) : Type 0 where
  pub fits : EverywhereIf (StatementFits unit result classes) t
  pub reads : MaybeReads known t

variable_used : (scope : Scope) (used : List ℕ) (name : List ℕ) (f : File) → name_meaning scope name ≡ declared f →
    AreAmong used (uses_of_name scope name) →
    IsAmong used (file_number f.name scope.files)
variable_used scope used name f is h = (subst (λ m. AreAmong used (uses_of_meaning scope m)) is h).0

simple_proper : (s : Statement) → IsSimpleStatement s → IsProper s
unfolding IsProper
simple_proper (set at name i e) p = tt
simple_proper (evaluate at e) p = tt
simple_proper (local at ty name e) p = absurd p
simple_proper (empty at) p = absurd p
simple_proper (block at ss) p = absurd p
simple_proper (if_else at c a d) p = absurd p
simple_proper (while_loop at c s) p = absurd p
simple_proper (do_loop at s c) p = absurd p
simple_proper (for_loop at first c last s) p = absurd p
simple_proper (returns at e) p = absurd p
simple_proper (breaks at) p = absurd p
simple_proper (continues at) p = absurd p

pub last_proper : (s : OptionalStatement) → IsLastPart s → IsMaybeProper s
unfolding IsProper
last_proper absent p = tt
last_proper (present s) p = simple_proper s p

module _ (unit : TypedUnit) (used : List ℕ) (classes : List Class) where
  module _ (known : List ℕ) (scope : Scope) (p : Place unit used classes known scope) where
    parts : (role : Role) (e : Expression) → IsTypedAs scope role e → AreAmong used (uses scope e) →
        Throughout (HasFittingParts unit classes) (typed_expression scope e)
    parts role e t u = parts_fit unit classes known used scope p.locals p.files t.sound u

    reads : (role : Role) (e : Expression) → IsTypedAs scope role e → ExpressionReads known (typed_expression scope e)
    reads role e t = reads_known classes known scope p.locals t.sound

    option_parts : (role : Role) (e : Option Expression) → IsOptionWhole scope role e → AreAmong used (uses_of_option scope e) →
        IfPresent (Throughout (HasFittingParts unit classes)) (option_map (typed_expression scope) e)
    option_parts role None h u = tt
    option_parts role (Some e) h u = parts role e h.typed_as u

    option_reads : (role : Role) (e : Option Expression) → IsOptionWhole scope role e →
        IfPresent (ExpressionReads known) (option_map (typed_expression scope) e)
    option_reads role None h = tt
    option_reads role (Some e) h = reads role e h.typed_as

    option_condition : (e : Option Expression) → IsOptionWhole scope Value e →
        IsCondition (option_map (typed_expression scope) e)
    option_condition None h = tt
    option_condition (Some e) h = value_class _ h.typed_as.fits

    -- a return
    return_flows : (result : Ty) (e : Option Expression) → Returns result scope e → AreAmong used (uses_of_option scope e) →
        Flows unit (class_of result) classes known (tree.returns (option_map (typed_expression scope) e))
    unfolding Everywhere StatementReads
    return_flows result None h u = record { fits = record { classes_fit = void_class result h; parts = tt }; reads = tt }
    return_flows result (Some e) h u = record {
      fits = record {
        classes_fit = (value_class result h.no_void, converted_class _ result h.converts_to);
        parts = parts Value e h.whole.typed_as u;
      };
      reads = reads Value e h.whole.typed_as;
    }

    -- a local's declaration
    declaration_flows : (result : Class) (n : ℕ) (ty : Ty) (e : Option Expression) → slice_get classes n ≡ Some (class_of ty) →
        n < length classes →
        IsOptionWhole scope (Assigned (Some ty)) e → AreAmong used (uses_of_option scope e) →
        Flows unit result classes known (tree.set_local n (option_map (typed_expression scope) e))
    unfolding Everywhere StatementReads
    declaration_flows result n ty None is within h u = record { fits = record { classes_fit = within; parts = tt }; reads = tt }
    declaration_flows result n ty (Some e) is within h u = record {
      fits = record {
        classes_fit = is ∙ ap Some (sym (converted_class _ ty h.typed_as.fits));
        parts = parts (Assigned (Some ty)) e h.typed_as u;
      };
      reads = reads (Assigned (Some ty)) e h.typed_as;
    }

    -- an assignment
    set_flows : {x : Setting} {at : Span} {name : List ℕ} {i : Option Expression} {e : Expression} {t : TypedStatement} (result : Class) →
        AreAmong used (uses_of_name scope name ++ (uses_of_option scope i ++ uses scope e)) → SoundSet x scope at name i e t →
        Flows unit result classes known t
    unfolding Everywhere StatementReads
    set_flows result u (set_to_local name l e is typed_as few) =
        let later = among_right used (uses_of_name scope name) (uses scope e) u in
        record {
          fits = record {
            classes_fit = p.locals.classes_are name l (local_meant scope name l is) ∙ ap Some (sym (converted_class _ l.ty typed_as.fits));
            parts = parts (Assigned (Some l.ty)) e typed_as later;
          };
          reads = reads (Assigned (Some l.ty)) e typed_as;
        }
    set_flows result u (set_to_variable name f ty e is kind typed_as few) =
        let first = among_left used (uses_of_name scope name) (uses scope e) u in
        let later = among_right used (uses_of_name scope name) (uses scope e) u in
        record {
          fits = record {
            classes_fit = record {
              ty = ty;
              variable = p.files.variable f ty None (own_file scope name f is) kind (variable_used scope used name f is first);
              class_is = converted_class _ ty typed_as.fits;
            };
            parts = parts (Assigned (Some ty)) e typed_as later;
          };
          reads = reads (Assigned (Some ty)) e typed_as;
        }
    set_flows result u (set_to_element name f ty size i e is kind index numeric value few) =
        let first = among_left used (uses_of_name scope name) (uses scope i ++ uses scope e) u in
        let later = among_right used (uses_of_name scope name) (uses scope i ++ uses scope e) u in
        record {
          fits = record {
            classes_fit = (
              record {
                ty = ty;
                variable = p.files.variable f ty (Some size) (own_file scope name f is) kind (variable_used scope used name f is first);
                class_is = converted_class _ ty value.fits;
              },
              number_class _ numeric,
            );
            parts = (
              parts Value i index (among_left used (uses scope i) (uses scope e) later),
              parts (Assigned (Some ty)) e value (among_right used (uses scope i) (uses scope e) later),
            );
          };
          reads = (reads Value i index, reads (Assigned (Some ty)) e value);
        }

  within_by : (n : ℕ) (c : Class) (cs : List Class) → slice_get cs n ≡ Some c → n < length cs
  within_by n c [] h = cc
  within_by zero c (d ∷ cs) h = omega arith
  within_by (suc n) c (d ∷ cs) h = let r = within_by n c cs h in omega arith

  mutual
    unfolding IsSound typed_statement Everywhere StatementReads types_in uses_by IsProper HaveClasses

    flows : (x : Setting) (b : Block) (s : Statement) (known : List ℕ) → Place unit used classes known b.scope →
        HaveClasses classes b.count (types_in s) →
        AreAmong used (uses_by b s) → IsProper s → IsSound x b s → Flows unit (class_of x.result) classes known (typed_statement x b s)
    flows x b (empty at) known p c u q h = record { fits = (record { classes_fit = tt; parts = tt }, tt); reads = tt }
    flows x b (block at ss) known p c u q h =
        let r = all_flow (part x) (inner b) ss known p c u q h in
        record { fits = (record { classes_fit = tt; parts = tt }, r.fits); reads = r.reads }
    flows x b (local at ty name e) known p c u q h =
        declaration_flows known b.scope p (class_of x.result) b.count ty e c.0 (within_by b.count (class_of ty) classes c.0) h.value u
    flows x b (set at name i e) known p c u q h = set_flows known b.scope p (class_of x.result) u h
    flows x b (evaluate at e) known p c u q h = record {
      fits = record { classes_fit = tt; parts = parts known b.scope p AsStatement e h.typed_as u };
      reads = reads known b.scope p AsStatement e h.typed_as;
    }
    flows x b (if_else at c a d) known p k u q h =
        let later = among_right used (uses b.scope c) (uses_by b a ++ uses_by_maybe (after a b) d) u in
        let r = flows (part x) b a known p (have_left classes b.count (types_in a) (types_in_maybe d) k)
        (among_left used (uses_by b a) (uses_by_maybe (after a b) d) later) q.2 h.1 in
        let t = maybe_flows (part x) (after a b) d known (passed_place unit used classes known b a q.0 p)
        (have_right classes b.count (after a b).count (types_in a) (types_in_maybe d) (omega (arith, count_after b a, types_count a)) k)
        (among_right used (uses_by b a) (uses_by_maybe (after a b) d) later) q.3 h.2 in
        record {
          fits = (
            record {
              classes_fit = value_class _ h.0.typed_as.fits;
              parts = parts known b.scope p Value c h.0.typed_as (among_left used (uses b.scope c) (uses_by b a ++ uses_by_maybe (after a b) d) u);
            },
            r.fits,
            t.fits,
          );
          reads = (reads known b.scope p Value c h.0.typed_as, r.reads, t.reads);
        }
    flows x b (while_loop at c s) known p k u q h =
        let r = flows (body x) b s known p k (among_right used (uses b.scope c) (uses_by b s) u) q.1 h.1 in
        record {
          fits = (
            record {
              classes_fit = value_class _ h.0.typed_as.fits;
              parts = parts known b.scope p Value c h.0.typed_as (among_left used (uses b.scope c) (uses_by b s) u);
            },
            r.fits,
          );
          reads = (reads known b.scope p Value c h.0.typed_as, r.reads);
        }
    flows x b (do_loop at s c) known p k u q h =
        let r = flows (body x) b s known p k (among_left used (uses_by b s) (uses b.scope c) u) q.1 h.0 in
        record {
          fits = (
            record {
              classes_fit = value_class _ h.1.typed_as.fits;
              parts = parts known b.scope p Value c h.1.typed_as (among_right used (uses_by b s) (uses b.scope c) u);
            },
            r.fits,
          );
          reads = (r.reads, reads known b.scope p Value c h.1.typed_as);
        }
    flows x b (for_loop at first c last s) known p k u q h =
        let b1 : Block = after_maybe first (inner b) in
        let b2 : Block = after_maybe last b1 in
        let known1 : List ℕ = known_after_maybe (optional_typed_statement (head x) (inner b) first) known in
        let us1 : List ℕ = uses_by_maybe (inner b) first in
        let us2 : List ℕ = uses_of_option b1.scope c in
        let us3 : List ℕ = uses_by_maybe b1 last in
        let us4 : List ℕ = uses_by b2 s in
        let k1 : HaveClasses classes b.count (types_in_maybe first) = have_left classes b.count (types_in_maybe first) (types_in_maybe last ++ types_in s) k in
        let k2 : HaveClasses classes b1.count (types_in_maybe last ++ types_in s) =
        have_right classes b.count b1.count (types_in_maybe first) (types_in_maybe last ++ types_in s)
        (omega (arith, count_after_maybe (inner b) first, maybe_types_count first)) k in
        let k3 : HaveClasses classes b2.count (types_in s) =
        have_right classes b1.count b2.count (types_in_maybe last) (types_in s) (omega (arith, count_after_maybe b1 last, maybe_types_count last)) k2 in
        let v2 = among_right used us1 (us2 ++ (us3 ++ us4)) u in
        let v3 = among_right used us2 (us3 ++ us4) v2 in
        let place0 : Place unit used classes known (inner b).scope = p in
        let place1 = maybe_place unit used classes (head x) known (inner b) first place0 k1 in
        let place2 = last_passed unit used classes known1 b1 last q.1 place1 in
        let r1 = maybe_flows (head x) (inner b) first known place0 k1 (among_left used us1 (us2 ++ (us3 ++ us4)) u) q.3 h.0 in
        let r3 = maybe_flows (head x) b1 last known1 place1 (have_left classes b1.count (types_in_maybe last) (types_in s) k2)
        (among_left used us3 us4 v3) (last_proper last q.1) h.2 in
        let r4 = flows (body x) b2 s known1 place2 k3 (among_right used us3 us4 v3) q.4 h.3 in
        record {
          fits = (
            record {
              classes_fit = option_condition known1 b1.scope place1 c h.1;
              parts = option_parts known1 b1.scope place1 Value c h.1 (among_left used us2 (us3 ++ us4) v2);
            },
            r1.fits,
            r3.fits,
            r4.fits,
          );
          reads = (r1.reads, option_reads known1 b1.scope place1 Value c h.1, r3.reads, r4.reads);
        }
    flows x b (returns at e) known p c u q h = return_flows known b.scope p x.result e h u
    flows x b (breaks at) known p c u q h = record { fits = record { classes_fit = tt; parts = tt }; reads = tt }
    flows x b (continues at) known p c u q h = record { fits = record { classes_fit = tt; parts = tt }; reads = tt }

    pub all_flow : (x : Setting) (b : Block) (ss : Statements) (known : List ℕ) → Place unit used classes known b.scope →
        HaveClasses classes b.count (types_in_all ss) → AreAmong used (uses_by_all b ss) → AreProper ss → AreSound x b ss →
        AllFlow unit (class_of x.result) classes known (typed_statements x b ss)
    all_flow x b nil known p c u q h = record { fits = tt; reads = tt }
    all_flow x b (cons s ss) known p c u q h =
        let here = have_left classes b.count (types_in s) (types_in_all ss) c in
        let r = flows x b s known p here (among_left used (uses_by b s) (uses_by_all (after s b) ss) u) q.0 h.0 in
        let t = all_flow x (after s b) ss (known_after (typed_statement x b s) known) (after_place unit used classes x known b s p here)
        (have_right classes b.count (after s b).count (types_in s) (types_in_all ss) (omega (arith, count_after b s, types_count s)) c)
        (among_right used (uses_by b s) (uses_by_all (after s b) ss) u) q.1 h.1 in
        record { fits = (r.fits, t.fits); reads = (r.reads, t.reads) }

    maybe_flows : (x : Setting) (b : Block) (s : OptionalStatement) (known : List ℕ) → Place unit used classes known b.scope →
        HaveClasses classes b.count (types_in_maybe s) → AreAmong used (uses_by_maybe b s) → IsMaybeProper s → IsMaybeSound x b s →
        MaybeFlows unit (class_of x.result) classes known (optional_typed_statement x b s)
    maybe_flows x b absent known p c u q h = record { fits = tt; reads = tt }
    maybe_flows x b (present s) known p c u q h =
        let r = flows x b s known p c u q h in record { fits = r.fits; reads = r.reads }
