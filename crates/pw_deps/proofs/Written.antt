-- Allowed tables can be written.
use Rattle.std.proofs.Common.{◌≡◌, ℕ, ◌<◌, ◌^◌, List, [], ◌∷◌, length}
use Rattle.std.specs.List.{AllByRecursion}
use Rattle.pw_module.specs.declared.dep_table.DepTable.{DepTable}
use Rattle.pw_module.specs.declared.dep_table.FunRec.{FunRec}
use Rattle.pw_module.specs.Allowed.{Follow, IsFunctionRecord, end_of_function, IsTableOf}
use Rattle.pw_deps.specs.Writable.{HasFewItems}

few_deps : (symbols units former : ℕ) (End : ℕ → Type 0) (fs : List FunRec) →
    Follow (IsFunctionRecord symbols units) end_of_function End former fs → AllByRecursion (λ f. length f.deps < 2 ^ 32) fs
few_deps symbols units former End [] follow = tt
few_deps symbols units former End (f ∷ fs) follow = (follow.0.few, few_deps symbols units (end_of_function former f) End fs follow.1)

pub allowed_tables_can_be_written : (symbols text : ℕ) (t : DepTable) → IsTableOf symbols text t → HasFewItems t
allowed_tables_can_be_written symbols text t is = record { counts = is.counts; deps = few_deps symbols (length t.units) 0 (λ last. last ≡ text) t.funs is.funs }
