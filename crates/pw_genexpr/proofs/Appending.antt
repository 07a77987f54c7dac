-- Code that is appended in parts.
use Rattle.std.specs.Result.{IsErrAnd}
use Rattle.std.proofs.lemmas.Result.{err_from_is_err_and}
use Rattle.std.proofs.Common.{◌≡◌, ℕ, List, [], ◌∷◌, ◌++◌, refl, sym, ◌∙◌, ap, append_assoc, append-nil, take, drop, Result, Ok, Err, map}
use Rattle.std.proofs.lemmas.List.{map-append, take-append-drop}
use Rattle.pw_isa.specs.declared.instruction.Inst.{Inst}
use Rattle.pw_base.specs.declared.no_memory.NoMemory.{NoMemory}
use Rattle.pw_code.specs.declared.item.Item.{Item}
use Rattle.pw_code.specs.Items.{CodePart, instruction, items, item_of}
use Rattle.pw_genexpr.specs.Appends.{Appends, AppendsPrefix}

-- The items of code after code.
pub items-append : (a b : List CodePart) → items (a ++ b) ≡ items a ++ items b
items-append a b = map-append item_of a b

-- No item is a prefix of any code.
pub nothing_appended : (code : List CodePart) (old new : List Item) → new ≡ old → AppendsPrefix code old new
nothing_appended code old new e = record { prefix = []; more = items code; whole = refl; appended = e ∙ sym (append-nil old) }

-- A prefix of some code is one of that code with more after it.
pub prefix_of_more : (a b : List CodePart) (old new : List Item) → AppendsPrefix a old new → AppendsPrefix (a ++ b) old new
prefix_of_more a b old new h = record {
  prefix = h.prefix;
  more = h.more ++ items b;
  whole = items-append a b ∙ ap (λ is. is ++ items b) h.whole ∙ append_assoc h.prefix h.more (items b);
  appended = h.appended;
}

-- Code, and then a prefix of what follows it.
pub prefix_after : (a b : List CodePart) (old mid new : List Item) → mid ≡ old ++ items a → AppendsPrefix b mid new → AppendsPrefix (a ++ b) old new
prefix_after a b old mid new e h = record {
  prefix = items a ++ h.prefix;
  more = h.more;
  whole = items-append a b ∙ ap (λ is. items a ++ is) h.whole ∙ sym (append_assoc (items a) h.prefix h.more);
  appended = h.appended ∙ ap (λ is. is ++ h.prefix) e ∙ append_assoc old (items a) h.prefix;
}

-- Code, and then what follows it, or a prefix of that.
pub appends_after : (a b : List CodePart) (old mid new : List Item) (r : Result (Unit {0}) NoMemory) → mid ≡ old ++ items a → Appends b mid new r → Appends (a ++ b) old new r
appends_after a b old mid new (Ok _) e h =
    h ∙ ap (λ is. is ++ items b) e ∙ append_assoc old (items a) (items b) ∙ ap (λ is. old ++ is) (sym (items-append a b))
appends_after a b old mid new (Err _) e h = prefix_after a b old mid new e h

-- Both pieces of code were appended.
pub both_appended : (a b : List CodePart) (old mid new : List Item) → mid ≡ old ++ items a → new ≡ mid ++ items b → new ≡ old ++ items (a ++ b)
both_appended a b old mid new e h = appends_after a b old mid new (Ok tt) e h

-- A call that gave up left a prefix.
pub gave_up : (Q : NoMemory → Type 0) (code : List CodePart) (old new : List Item) (r : Result (Unit {0}) NoMemory) → IsErrAnd r Q →
    AppendsPrefix code old new → Appends code old new r
gave_up Q code old new r e h = let p = err_from_is_err_and r e in rw p.1 h

-- The first instructions of a list are a prefix of them.
pub first_instructions : (insts : List Inst) (i : ℕ) (old new : List Item) → new ≡ old ++ items (map instruction (take i insts)) →
    AppendsPrefix (map instruction insts) old new
first_instructions insts i old new e = record {
  prefix = items (map instruction (take i insts));
  more = items (map instruction (drop i insts));
  whole =
      ap (λ is. items (map instruction is)) (sym (take-append-drop i insts))
      ∙ ap items (map-append instruction (take i insts) (drop i insts))
      ∙ items-append (map instruction (take i insts)) (map instruction (drop i insts));
  appended = e;
}
