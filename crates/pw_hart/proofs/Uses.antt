-- What instructions use of the input and the output: nothing, what another uses that does the same, a byte or the end of the input, a byte put.
use Rattle.std.proofs.Common.{◌≡◌, ℕ, ◌<◌, Bool, true, false, List, [], ◌∷◌, ◌++◌, Option, Some, None, drop, append-nil, refl, sym, ap, ◌∙◌, subst}
use Rattle.std.specs.Prelude.{option_map, IfSome}
use Rattle.pw_base.specs.Bytes.{AreBytes}
use Rattle.pw_base.proofs.Bytes.{AreBytes-drop}
use Rattle.pw_mem.specs.Memory.{Mem}
use Rattle.pw_io.specs.Source.{SourceState, after, Offers, IsUsedUp}
use Rattle.pw_io.specs.Sink.{SinkState, wrote}
use Rattle.pw_io.proofs.Sources.{after_nothing}
use Rattle.pw_io.proofs.Sinks.{wrote_nothing}
use Rattle.std.specs.Int.{w8}
use Rattle.pw_hart.specs.declared.hart.Hart.{Hart}
use Rattle.pw_hart.specs.Bits.{all_ones, zero_extend}
use Rattle.pw_hart.specs.State.{MachineState, Next, Goes, writes, goes_on, get}
use Rattle.pw_hart.specs.Exec.{takes_input, puts_output}
use Rattle.pw_hart.specs.Harts.{registers, state_of}
use Rattle.pw_hart.specs.Runs.{IsLeft}
use Rattle.pw_hart.specs.Steps.Advances.{Ports, Uses}

-- an instruction that is the same whatever the input and the output are uses nothing of them
pub uses_nothing : (f : MachineState → Next) (p : Ports) (hart : Hart) (mem : Mem) (hart' : Hart) (mem' : Mem) (next : MachineState → Next) →
    ((input output : List ℕ) → f (state_of hart mem input output) ≡ next (state_of hart' mem' input output)) →
    Uses f p hart mem p hart' mem' next
uses_nothing f p hart mem hart' mem' next does = record {
  taken = [];
  put = [];
  input = sym (after_nothing p.input);
  out = sym (wrote_nothing p.out);
  offered = λ rest can. can;
  leaves = λ left can. (left, can);
  does = λ rest output can. does rest output ∙ ap (λ o. next (state_of hart' mem' rest o)) (sym (append-nil output));
}

-- an instruction uses what one uses that does the same
pub Uses-same : (f g : MachineState → Next) (p : Ports) (hart : Hart) (mem : Mem) (q : Ports) (hart' : Hart) (mem' : Mem)
    (next : MachineState → Next) →
    ((input output : List ℕ) → f (state_of hart mem input output) ≡ g (state_of hart mem input output)) →
    Uses g p hart mem q hart' mem' next → Uses f p hart mem q hart' mem' next
Uses-same f g p hart mem q hart' mem' next same uses = record {
  taken = uses.taken;
  put = uses.put;
  input = uses.input;
  out = uses.out;
  offered = uses.offered;
  leaves = uses.leaves;
  does = λ rest output can. same (uses.taken ++ rest) output ∙ uses.does rest output can;
}

-- with no input left, the call of input gives all ones
takes_none : (hart hart' : Hart) →
    ((mem : Mem) (input output : List ℕ) → writes 10 all_ones (state_of hart mem input output) ≡ Goes (state_of hart' mem input output)) →
    (mem : Mem) (rest output : List ℕ) → rest ≡ [] →
    takes_input rest (state_of hart mem rest output) ≡ Goes (state_of hart' mem rest (output ++ []))
takes_none hart hart' writes mem [] output none =
    writes mem [] output ∙ ap (λ o. Goes (state_of hart' mem [] o)) (sym (append-nil output))
takes_none hart hart' writes mem (byte ∷ rest) output none = absurd (cc none)

-- an input that came to its end before stays there
pub uses_end : (input : SourceState) (hart hart' : Hart) →
    ((mem : Mem) (input output : List ℕ) → writes 10 all_ones (state_of hart mem input output) ≡ Goes (state_of hart' mem input output)) →
    (mem : Mem) (out : SinkState) → Uses (λ s. takes_input s.input s) (record { input = input; used_up = true; out = out }) hart mem
    (record { input = input; used_up = true; out = out }) hart' mem Goes
uses_end input hart hart' writes mem out = record {
  taken = [];
  put = [];
  input = sym (after_nothing input);
  out = sym (wrote_nothing out);
  offered = λ rest can. can;
  leaves = λ left can. (left, can);
  does = λ rest output can. takes_none hart hart' writes mem rest output (can.none refl);
}

-- an input comes to its end
pub uses_up : (input : SourceState) (hart hart' : Hart) → IsUsedUp input →
    ((mem : Mem) (input output : List ℕ) → writes 10 all_ones (state_of hart mem input output) ≡ Goes (state_of hart' mem input output)) →
    (mem : Mem) (out : SinkState) → Uses (λ s. takes_input s.input s) (record { input = input; used_up = false; out = out }) hart mem
    (record { input = input; used_up = true; out = out }) hart' mem Goes
uses_up input hart hart' ended writes mem out = record {
  taken = [];
  put = [];
  input = sym (after_nothing input);
  out = sym (wrote_nothing out);
  offered = λ rest can. record { is_left = can.is_left; none = λ e. can.none refl; bytes = can.bytes };
  leaves = λ left can. ([], record { is_left = ended; none = λ e. refl; bytes = λ are. tt });
  does = λ rest output can. takes_none hart hart' writes mem rest output (can.none refl);
}

-- the first byte left is taken
is_left_before : (byte : ℕ) (left : Option (List ℕ)) (faults : ℕ) (rest : List ℕ) →
    Offers (byte ∷ []) (record { left = left; faults = faults }) →
    IsLeft rest (after (byte ∷ []) (record { left = left; faults = faults })) →
    IsLeft (byte ∷ rest) (record { left = left; faults = faults })
is_left_before byte None faults rest offers is_left = tt
is_left_before byte (Some bytes) faults rest offers is_left = offers ∙ ap (λ l. byte ∷ l) is_left

-- and what is left after it
is_left_behind : (byte : ℕ) (left : Option (List ℕ)) (faults : ℕ) (bytes : List ℕ) → IsLeft bytes (record { left = left; faults = faults }) →
    IsLeft (drop 1 bytes) (after (byte ∷ []) (record { left = left; faults = faults }))
is_left_behind byte None faults bytes is_left = tt
is_left_behind byte (Some list) faults bytes is_left = ap (drop 1) is_left

-- numbers left are bytes, with the taken byte in front and again without it
are_bytes_before : (byte : ℕ) (left : Option (List ℕ)) (rest : List ℕ) → byte < 256 →
    (IfSome (option_map (drop 1) left) AreBytes → AreBytes rest) → IfSome left AreBytes → AreBytes (byte ∷ rest)
are_bytes_before byte None rest small behind are = (small, behind tt)
are_bytes_before byte (Some bytes) rest small behind are = (small, behind (AreBytes-drop 1 bytes are))

are_bytes_behind : (left : Option (List ℕ)) (faults : ℕ) (bytes : List ℕ) → IsLeft bytes (record { left = left; faults = faults }) →
    (IfSome left AreBytes → AreBytes bytes) → IfSome (option_map (drop 1) left) AreBytes → AreBytes (drop 1 bytes)
are_bytes_behind None faults bytes is_left all are = AreBytes-drop 1 bytes (all tt)
are_bytes_behind (Some list) faults bytes is_left all are = subst (λ l. AreBytes (drop 1 l)) is_left are

pub uses_byte : (input : SourceState) (byte : ℕ) (hart hart' : Hart) → byte < 256 → Offers (byte ∷ []) input →
    ((mem : Mem) (input output : List ℕ) → writes 10 byte (state_of hart mem input output) ≡ Goes (state_of hart' mem input output)) →
    (mem : Mem) (out : SinkState) → Uses (λ s. takes_input s.input s) (record { input = input; used_up = false; out = out }) hart mem
    (record { input = after (byte ∷ []) input; used_up = false; out = out }) hart' mem Goes
uses_byte input byte hart hart' small offers writes mem out = record {
  taken = byte ∷ [];
  put = [];
  input = refl;
  out = sym (wrote_nothing out);
  offered = λ rest can. record {
    is_left = is_left_before byte input.left input.faults rest offers can.is_left;
    none = λ e. absurd (cc e);
    bytes = are_bytes_before byte input.left rest small can.bytes;
  };
  leaves = λ left can. (
    drop 1 left,
    record {
      is_left = is_left_behind byte input.left input.faults left can.is_left;
      none = λ e. absurd (cc e);
      bytes = are_bytes_behind input.left input.faults left can.is_left can.bytes;
    },
  );
  does = λ rest output can. writes mem rest output ∙ ap (λ o. Goes (state_of hart' mem rest o)) (sym (append-nil output));
}

-- the lowest byte of a0 is put
pub uses_put : (out : SinkState) (byte : ℕ) (hart hart' : Hart) → byte ≡ zero_extend w8 (get (registers hart) 10) →
    ((mem : Mem) (input output : List ℕ) → goes_on (registers hart) (state_of hart mem input output) ≡ Goes (state_of hart' mem input output)) →
    (mem : Mem) (input : SourceState) (used_up : Bool) → Uses puts_output (record { input = input; used_up = used_up; out = out }) hart mem
    (record { input = input; used_up = used_up; out = wrote (byte ∷ []) out }) hart' mem Goes
uses_put out byte hart hart' is goes mem input used_up = record {
  taken = [];
  put = byte ∷ [];
  input = sym (after_nothing input);
  out = refl;
  offered = λ rest can. can;
  leaves = λ left can. (left, can);
  does = λ rest output can. ap (λ b. goes_on (registers hart) (state_of hart mem rest (output ++ b ∷ []))) (sym is) ∙ goes mem rest (output ++ byte ∷ []);
}
