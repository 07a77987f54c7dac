-- Copying what holds values of its own type, by a loop: one step, and the parts that stand right in such a value.
use Rattle.std.specs.Prelude.{◌≡◌, ℕ, List, [], ◌∷◌, length, slice_get, Option, Some, None, ◌++◌, Result, Ok, Err, suc}
use Rattle.std.proofs.Common.{Bor}
use Rattle.pw_tree.specs.declared.stmt.Stmt.{Stmt, out-Stmt}
use Rattle.pw_tree.specs.declared.stmt.StmtKind.{StmtKind, out-StmtKind}
use Rattle.pw_tree.specs.declared.stmt.StmtKind.TheOpen.{StmtKind-F}
use Rattle.pw_tree.specs.declared.tstmt.TStmt.{TStmt, out-TStmt}
use Rattle.pw_tree.specs.declared.tstmt.TStmt.TheOpen.{TStmt-F}
use Rattle.pw_tree.specs.declared.nested.Frame.{Frame}
use Rattle.pw_tree.specs.declared.nested.Turn.{Turn}
use Rattle.pw_tree.specs.declared.nested.Turn.TheVariants.{Down, Up}

-- the next part is at hand, in one more frame; or the frame's value, copied
abbrev pub GoesOn : {T : Type 0} → (T → List T) → Frame T → (old new : List (Frame T)) → Turn T → Type 0
GoesOn parts frame old new (Down part) = (new ≡ old ++ frame ∷ []) × (slice_get (parts frame.of.now) (length frame.done) ≡ Some part.now)
GoesOn parts frame old new (Up copy) = (new ≡ old) × (copy ≡ frame.of.now)

-- ---- the parts of statements

-- an item or none, and then others
abbrev pub put_before : {T : Type 0} → Option T → List T → List T
put_before None xs = xs
put_before (Some x) xs = x ∷ xs

-- the last copy is the part's, where it is there
abbrev pub IsPopped : {T : Type 0} → (old new : List T) → Option T → Option T → Type 0
IsPopped old new (Some part) (Some last) = old ≡ new ++ last ∷ []
IsPopped old new (Some part) None = ⊥
IsPopped old new None (Some last) = ⊥
IsPopped old new None None = old ≡ new

-- the part of a number, or the number that is left for the parts after it
abbrev pub PassesPart : {T : Type 0} → Option T → ℕ → Result (Bor T) ℕ → Type 0
PassesPart (Some part) number (Ok found) = (number ≡ 0) × (found.now ≡ part)
PassesPart (Some part) number (Err left) = number ≡ suc left
PassesPart None number (Ok found) = ⊥
PassesPart None number (Err left) = number ≡ left

-- the statements that stand right in a form, in order
abbrev pub parts_of_form : StmtKind-F StmtKind Stmt → List Stmt
parts_of_form StmtKind-F.Empty = []
parts_of_form (StmtKind-F.Block body) = body
parts_of_form (StmtKind-F.Local ty name value) = []
parts_of_form (StmtKind-F.Set name i value) = []
parts_of_form (StmtKind-F.Eval e) = []
parts_of_form (StmtKind-F.If c a b) = a ∷ put_before b []
parts_of_form (StmtKind-F.While c body) = body ∷ []
parts_of_form (StmtKind-F.Do body c) = body ∷ []
parts_of_form (StmtKind-F.For first c last body) = put_before first (put_before last (body ∷ []))
parts_of_form (StmtKind-F.Return value) = []
parts_of_form StmtKind-F.Break = []
parts_of_form StmtKind-F.Continue = []

-- the statements that stand right in a statement, in order
unfoldable pub parts_of_kind : StmtKind → List Stmt
parts_of_kind kind = parts_of_form (out-StmtKind kind)

-- the statements that stand right in a statement
abbrev pub parts_of : Stmt → List Stmt
parts_of s = parts_of_kind (out-Stmt s).kind

-- the typed statements that stand right in a form, in order
abbrev pub typed_parts_of_form : TStmt-F TStmt → List TStmt
typed_parts_of_form (TStmt-F.Eval e) = []
typed_parts_of_form (TStmt-F.SetLocal i value) = []
typed_parts_of_form (TStmt-F.SetVar x value) = []
typed_parts_of_form (TStmt-F.SetElem x size line i value) = []
typed_parts_of_form (TStmt-F.Block body) = body
typed_parts_of_form (TStmt-F.If c a b) = a ∷ put_before b []
typed_parts_of_form (TStmt-F.While c body) = body ∷ []
typed_parts_of_form (TStmt-F.Do body c) = body ∷ []
typed_parts_of_form (TStmt-F.For first c last body) = put_before first (put_before last (body ∷ []))
typed_parts_of_form (TStmt-F.Return value) = []
typed_parts_of_form TStmt-F.Break = []
typed_parts_of_form TStmt-F.Continue = []

-- the same of a typed statement
unfoldable pub typed_parts_of : TStmt → List TStmt
typed_parts_of s = typed_parts_of_form (out-TStmt s)
