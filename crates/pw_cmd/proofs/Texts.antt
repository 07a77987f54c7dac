-- Texts put into a sink, one after another, and where that breaks off.
use Rattle.std.proofs.Common.{◌≡◌, ℕ, List, [], ◌∷◌, ◌++◌, Result, Ok, Err, refl, ap, sym, subst, ◌∙◌, append_assoc, append-nil}
use Rattle.std.specs.Result.{OnOk, OnErr}
use Rattle.pw_io.specs.declared.ports.Failed.{Failed}
use Rattle.pw_io.specs.Sink.{SinkState, SinkFails, wrote}
use Rattle.pw_cmd.specs.Says.{BreaksOff, PutsAll}
use Rattle.pw_io.proofs.Sinks.{wrote_nothing, wrote_wrote}

-- a call that fails once a prefix was put
pub broken_at : (bytes first more : List ℕ) (old mid new : SinkState) → bytes ≡ first ++ more → mid ≡ wrote first old →
    SinkFails mid new → BreaksOff bytes old new
broken_at bytes first more old mid new whole put fails =
    record { put = first; more = more; whole = whole; fails = subst (λ s. SinkFails s new) put fails }

-- a part that breaks off once a prefix was put
pub broken_in : (bytes first part more : List ℕ) (old mid new : SinkState) → bytes ≡ first ++ (part ++ more) →
    mid ≡ wrote first old → BreaksOff part mid new → BreaksOff bytes old new
broken_in bytes first part more old mid new whole put broken =
    record {
      put = first ++ broken.put;
      more = broken.more ++ more;
      whole = whole ∙ ap (λ p. first ++ (p ++ more)) broken.whole ∙ ap (λ p. first ++ p) (append_assoc broken.put broken.more more)
          ∙ sym (append_assoc first broken.put (broken.more ++ more));
      fails = subst (λ s. SinkFails s new) (ap (wrote broken.put) put ∙ wrote_wrote first broken.put old) broken.fails;
    }

-- a prefix that breaks off
pub broken_first : (bytes first more : List ℕ) (old new : SinkState) → bytes ≡ first ++ more → BreaksOff first old new
    → BreaksOff bytes old new
broken_first bytes first more old new whole broken = record {
  put = broken.put;
  more = broken.more ++ more;
  whole = whole ∙ ap (λ p. p ++ more) broken.whole ∙ append_assoc broken.put broken.more more;
  fails = broken.fails;
}

-- a part that is put after a prefix
pub put_more : (first part : List ℕ) (old mid new : SinkState) → mid ≡ wrote first old → new ≡ wrote part mid
    → new ≡ wrote (first ++ part) old
put_more first part old mid new before after = after ∙ ap (wrote part) before ∙ wrote_wrote first part old

-- one byte
pub puts_byte : (byte : ℕ) (old new : SinkState) (result : Result (Unit {0}) Failed) →
    OnOk result (new ≡ wrote (byte ∷ []) old) → OnErr result (SinkFails old new) → PutsAll (byte ∷ []) old new result
puts_byte byte old new (Ok _) put fails = put
puts_byte byte old new (Err _) put fails = broken_at (byte ∷ []) [] (byte ∷ []) old old new refl (sym (wrote_nothing old)) fails

-- the rest after a prefix
pub puts_rest : (bytes first rest : List ℕ) (old mid new : SinkState) (result : Result (Unit {0}) Failed) →
    bytes ≡ first ++ rest → mid ≡ wrote first old → PutsAll rest mid new result → PutsAll bytes old new result
puts_rest bytes first rest old mid new (Ok _) whole put puts = put_more first rest old mid new put puts ∙ ap (λ b. wrote b old) (sym whole)
puts_rest bytes first rest old mid new (Err _) whole put puts =
    broken_in bytes first rest [] old mid new (whole ∙ ap (λ p. first ++ p) (sym (append-nil rest))) put puts
