-- Code at a place, taken apart, and what a store in the stack leaves of a ready memory.
use Rattle.std.proofs.Common.{◌≡◌, ℕ, ◌+◌, ◌*◌, ◌^◌, ◌<◌, ◌≢◌, true, false, eqb, List, [], ◌∷◌, ◌++◌, refl, sym, ◌∙◌, subst, arith, Some}
use Rattle.std.proofs.lemmas.Bool.Decides.{nat_tests}
use Rattle.std.specs.Prelude.{Bool}
use Rattle.pw_isa.specs.declared.instruction.Inst.{Inst}
use Rattle.pw_mem.specs.Memory.{Mem, fetch}
use Rattle.pw_mem.specs.Words.{doubleword, put_doubleword}
use Rattle.pw_mem.proofs.Words.{word-put_same, word-put_other, fetch-put_word}
use Rattle.pw_code.specs.Items.{CodePart, instruction, address, size}
use Rattle.pw_simulation.specs.World.{World, InStack, IsApart}
use Rattle.pw_simulation.specs.CodeAt.{HasAt}
use Rattle.pw_simulation.specs.Memories.{Fetches, HasSome, IsReady, Keeps}

pub has_prefix : (w : World) (m u at : ℕ) (code more : List CodePart) → HasAt w m u at (code ++ more) → HasAt w m u at code
has_prefix w m u at [] more h = tt
has_prefix w m u at (instruction i ∷ code) more h = (h.0, has_prefix w m u (at + 4) code more h.1)
has_prefix w m u at (address rd to ∷ code) more h = (h.0, has_prefix w m u (at + 8) code more h.1)

pub has_rest : (w : World) (m u at : ℕ) (code more : List CodePart) → HasAt w m u at (code ++ more) → HasAt w m u (at + 4 * size code) more
unfolding size
has_rest w m u at [] more h = let e : at + 4 * 0 ≡ at = omega arith in subst (λ p. HasAt w m u p more) (sym e) h
has_rest w m u at (instruction i ∷ code) more h =
    let e : at + 4 + 4 * size code ≡ at + 4 * (1 + size code) = omega arith in
    subst (λ p. HasAt w m u p more) e (has_rest w m u (at + 4) code more h.1)
has_rest w m u at (address rd to ∷ code) more h =
    let e : at + 8 + 4 * size code ≡ at + 4 * (2 + size code) = omega arith in
    subst (λ p. HasAt w m u p more) e (has_rest w m u (at + 8) code more h.1)

-- ---- stores

pub fetches_same : (m n : Mem) (at : ℕ) (i : Inst) → fetch n at ≡ fetch m at → Fetches m at i → Fetches n at i
fetches_same m n at i e h = record { value = h.value; fetched = e ∙ h.fetched; reads = h.reads }

pub some_after : (m : Mem) (a v x at : ℕ) → x < 2 ^ 64 → doubleword m a ≡ Some v → HasSome m at → (t : Bool) → eqb a at ≡ t → HasSome (put_doubleword m a x) at
some_after m a v x at small h was true e =
    let same : a ≡ at = grind (arith, nat_tests) in
    record { value = x; is = subst (λ b. doubleword (put_doubleword m a x) b ≡ Some x) same (word-put_same m a v x small h) }
some_after m a v x at small h was false e =
    let apart : a ≢ at = grind (arith, nat_tests) in record { value = was.value; is = word-put_other m a at v x h apart ∙ was.is }

-- a doubleword stored in the stack leaves the memory ready
pub ready_put : (w : World) → IsApart w → (m : Mem) (a x : ℕ) → IsReady w m → InStack w a → x < 2 ^ 64 → IsReady w (put_doubleword m a x)
ready_put w apart m a x r in_it small =
    let was = r.stack a in_it in
    record {
      sealed = r.sealed;
      text = λ at i h. fetches_same m (put_doubleword m a x) at i (fetch-put_word m a at was.value x r.sealed was.is) (r.text at i h);
      slots = λ k name h.
          let beside : a ≢ w.slot_place k name = let b = apart.slots_below k name h in let c = in_it.from in omega arith in
          word-put_other m a (w.slot_place k name) was.value x was.is beside ∙ r.slots k name h;
      stack = λ at at_in. some_after m a was.value x at small was.is (r.stack at at_in) (eqb a at) refl;
    }

-- and the doublewords at other addresses
pub keeps_put : (w : World) (m : Mem) (a x : ℕ) (K : ℕ → Type 0) → IsReady w m → InStack w a → ((at : ℕ) → K at → a ≢ at) → Keeps K m (put_doubleword m a x)
keeps_put w m a x K r in_it apart at k = let was = r.stack a in_it in word-put_other m a at was.value x was.is (apart at k)
