-- What a name means, from what the locals and the names at file scope say.
use Rattle.std.proofs.Common.{◌≡◌, ℕ, List, Some, None, sym, ap, ◌∙◌}
use Rattle.pw_types.specs.declared.names.File.{File}
use Rattle.pw_types.specs.declared.names.Local.{Local}
use Rattle.pw_types.specs.Scopes.{Scope, missing, a_local, name_meaning, local_named, file_named, local_or, declared_or_missing}
use Rattle.pw_types.specs.Steps.Uses.{file_number}
use Rattle.pw_types.specs.Steps.Lookups.{IsDeclared}
use Rattle.pw_types.proofs.KeyedFiles.{named}

module _ (scope : Scope) (name : List ℕ) where
  pub is_local : (l : Local) → Some l ≡ local_named name scope.locals → name_meaning scope name ≡ a_local l
  unfolding name_meaning
  is_local l h = ap (λ o. local_or o (declared_or_missing (file_named name scope.files))) (sym h)

  no_local : None ≡ local_named name scope.locals → name_meaning scope name ≡ declared_or_missing (file_named name scope.files)
  unfolding name_meaning
  no_local h = ap (λ o. local_or o (declared_or_missing (file_named name scope.files))) (sym h)

  pub is_missing : None ≡ local_named name scope.locals → file_named name scope.files ≡ None → name_meaning scope name ≡ missing
  is_missing h none = no_local h ∙ ap declared_or_missing none

  pub is_declared : (n : ℕ) (f : File) → None ≡ local_named name scope.locals →
      (file_named name scope.files ≡ Some f) × (n ≡ file_number name scope.files) → IsDeclared scope name n f
  is_declared n f h there =
      let same : f.name ≡ name = named name scope.files f there.0 in
      record {
        means = no_local h ∙ ap declared_or_missing there.0;
        number = there.1 ∙ ap (λ x. file_number x scope.files) (sym same);
        name_is = same;
      }
