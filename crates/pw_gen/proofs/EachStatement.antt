-- What holds of each statement in statements, where something that implies it does.
use Rattle.pw_tree.specs.TypedStatements.{TypedStatement, TypedStatements, OptionalTypedStatement, evaluate, set_local, set_variable, set_element, block, if_else, while_loop, do_loop, for_loop, returns, breaks, continues, nil, cons, absent, present}
use Rattle.pw_tree.specs.WellTypedStatements.{Everywhere, EverywhereIn, EverywhereIf}

module _ (P Q : TypedStatement → Type 0) (implies : (s : TypedStatement) → P s → Q s) where
  mutual
    unfolding Everywhere EverywhereIn EverywhereIf

    pub everywhere_weaker : (s : TypedStatement) → Everywhere P s → Everywhere Q s
    everywhere_weaker (evaluate e) h = implies (evaluate e) h
    everywhere_weaker (set_local i e) h = implies (set_local i e) h
    everywhere_weaker (set_variable x e) h = implies (set_variable x e) h
    everywhere_weaker (set_element a size line i e) h = implies (set_element a size line i e) h
    everywhere_weaker (block body) h = (implies (block body) h.0, all_weaker body h.1)
    everywhere_weaker (if_else c a b) h = (implies (if_else c a b) h.0, everywhere_weaker a h.1, if_weaker b h.2)
    everywhere_weaker (while_loop c body) h = (implies (while_loop c body) h.0, everywhere_weaker body h.1)
    everywhere_weaker (do_loop body c) h = (implies (do_loop body c) h.0, everywhere_weaker body h.1)
    everywhere_weaker (for_loop first c last body) h =
        (implies (for_loop first c last body) h.0, if_weaker first h.1, if_weaker last h.2, everywhere_weaker body h.3)
    everywhere_weaker (returns e) h = implies (returns e) h
    everywhere_weaker breaks h = implies breaks h
    everywhere_weaker continues h = implies continues h

    pub all_weaker : (ss : TypedStatements) → EverywhereIn P ss → EverywhereIn Q ss
    all_weaker nil h = tt
    all_weaker (cons s ss) h = (everywhere_weaker s h.0, all_weaker ss h.1)

    pub if_weaker : (s : OptionalTypedStatement) → EverywhereIf P s → EverywhereIf Q s
    if_weaker absent h = tt
    if_weaker (present s) h = everywhere_weaker s h
