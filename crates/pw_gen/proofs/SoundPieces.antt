-- The short pieces of code that have no references, or one: what they refer to is known.
use Rattle.std.proofs.Common.{◌≡◌, ℕ, zero, suc, ◌+◌, ◌-◌, ◌<◌, nat_lt, ℤ, pos, Bool, true, false, cond, if◌then◌else◌, List, [], ◌∷◌, ◌++◌, lit<}
use Rattle.std.specs.Prelude.{⊤}
use Rattle.std.specs.List.{AllByRecursion}
use Rattle.pw_isa.specs.declared.instruction.Inst.TheVariants.{Jal, Bne, Bltu, Addi, Lui, Addiw, Slli, Ecall}
use Rattle.pw_isa.specs.Registers.{x0, t0, t1, a0, a1, a7}
use Rattle.pw_isa.specs.EnvironmentCalls.{fault_call, index_fault}
use Rattle.pw_tree.specs.declared.operator.Un.{Un}
use Rattle.pw_tree.specs.declared.operator.Un.TheVariants.{Neg, Plus, Not, Bang}
use Rattle.pw_tree.specs.declared.operator.Bin.{Bin}
use Rattle.pw_tree.specs.declared.operator.Bin.TheVariants as operators
use Rattle.pw_tree.specs.declared.ty.Ref.{Ref}
use Rattle.pw_tree.specs.Units.{TypedUnit}
use Rattle.pw_code.specs.declared.frame.Frame.{Frame}
use Rattle.pw_code.specs.Items.{CodePart, instruction, address}
use Rattle.pw_code.specs.LoadImmediate.{is_within, load_32_bits, rest, lower, upper_immediate, load_signed, load_immediate}
use Rattle.pw_code.specs.Pieces.{bytes_of_words, back, jump, fault, check_index, unary_code, binary_code, load_held}
use Rattle.pw_gen.proofs.Elements.{each_append, each_chosen}
use Rattle.pw_gen.proofs.References.{IsKnownIn}

-- An address goes into one of 32 registers, and what it is of is known in the unit.
abbrev pub IsSoundPart : TypedUnit → CodePart → Type 0
IsSoundPart unit (instruction i) = ⊤
IsSoundPart unit (address rd to) = (rd < 32) × IsKnownIn unit to

abbrev pub AreSound : TypedUnit → List CodePart → Type 0
AreSound unit code = AllByRecursion (IsSoundPart unit) code

pub both : (unit : TypedUnit) (xs ys : List CodePart) → AreSound unit xs → AreSound unit ys → AreSound unit (xs ++ ys)
both unit xs ys h k = each_append (IsSoundPart unit) xs ys h k

module _ (unit : TypedUnit) where
  -- ---- numbers

  number_of_32_bits : (rd : ℕ) (v : ℤ) → AreSound unit (load_32_bits rd v)
  number_of_32_bits rd v =
      each_chosen (IsSoundPart unit) (is_within 11 v) (instruction (Addi rd x0 v) ∷ [])
      (instruction (Lui rd (upper_immediate v)) ∷ instruction (Addiw rd rd (lower v)) ∷ []) (tt, tt) (tt, (tt, tt))

  number_signed : (times rd : ℕ) (v : ℤ) → AreSound unit (load_signed times rd v)
  unfolding load_signed
  number_signed zero rd v = number_of_32_bits rd v
  number_signed (suc times) rd v =
      each_chosen (IsSoundPart unit) (is_within 31 v) (load_32_bits rd v)
      (load_signed times rd (rest v) ++ instruction (Slli rd rd 12) ∷ instruction (Addi rd rd (lower v)) ∷ []) (number_of_32_bits rd v)
      (both unit (load_signed times rd (rest v)) (instruction (Slli rd rd 12) ∷ instruction (Addi rd rd (lower v)) ∷ [])
      (number_signed times rd (rest v)) (tt, (tt, tt)))

  pub sound_number : (rd v : ℕ) → AreSound unit (load_immediate rd v)
  sound_number rd v = number_signed 3 rd _

  -- ---- jumps

  sound_back : (n : ℕ) → IsSoundPart unit (back n)
  sound_back zero = tt
  sound_back (suc n) = tt

  one_chosen : (b : Bool) (x y : CodePart) → IsSoundPart unit x → IsSoundPart unit y → IsSoundPart unit (cond b x y)
  one_chosen true x y h k = h
  one_chosen false x y h k = k

  pub sound_jump : (from to : ℕ) → IsSoundPart unit (jump from to)
  sound_jump from to =
      one_chosen (nat_lt to from) (back (from - to)) (instruction (Jal x0 (pos (bytes_of_words (to - from))))) (sound_back (from - to)) tt

  -- ---- checked faults

  pub sound_fault : (kind line : ℕ) → AreSound unit (fault kind line)
  sound_fault kind line =
      (tt, both unit (load_immediate a1 line) (instruction (Addi a7 x0 (pos fault_call)) ∷ instruction Ecall ∷ []) (sound_number a1 line) (tt, (tt, tt)))

  pub sound_check_index : (array_size line : ℕ) → AreSound unit (check_index array_size line)
  sound_check_index array_size line =
      both unit (load_immediate t1 array_size) (instruction (Bltu a0 t1 _) ∷ fault index_fault line) (sound_number t1 array_size)
      (tt, sound_fault index_fault line)

  -- ---- operators

  pub sound_unary : (op : Un) → AreSound unit (unary_code op)
  sound_unary Neg = (tt, tt)
  sound_unary Not = (tt, tt)
  sound_unary Bang = (tt, tt)
  sound_unary Plus = tt

  pub sound_binary : (line : ℕ) (op : Bin) (unsigned : Bool) → AreSound unit (binary_code line op unsigned)
  sound_binary line operators.Mul unsigned = (tt, tt)
  sound_binary line operators.Div unsigned = (tt, both unit (fault 2 line) _ (sound_fault 2 line) (tt, tt))
  sound_binary line operators.Rem unsigned = (tt, both unit (fault 2 line) _ (sound_fault 2 line) (tt, tt))
  sound_binary line operators.Add unsigned = (tt, tt)
  sound_binary line operators.Sub unsigned = (tt, tt)
  sound_binary line operators.Shl unsigned = (tt, tt)
  sound_binary line operators.Shr unsigned = (tt, tt)
  sound_binary line operators.Lt unsigned = (tt, tt)
  sound_binary line operators.Gt unsigned = (tt, tt)
  sound_binary line operators.Le unsigned = (tt, (tt, tt))
  sound_binary line operators.Ge unsigned = (tt, (tt, tt))
  sound_binary line operators.Eq unsigned = (tt, (tt, tt))
  sound_binary line operators.Ne unsigned = (tt, (tt, tt))
  sound_binary line operators.And unsigned = (tt, tt)
  sound_binary line operators.Xor unsigned = (tt, tt)
  sound_binary line operators.Or unsigned = (tt, tt)
  sound_binary line operators.AndAnd unsigned = tt
  sound_binary line operators.OrOr unsigned = tt

  -- ---- held values

  pub sound_held : (frame : Frame) (h rd n : ℕ) → AreSound unit (load_held frame h rd n)
  unfolding load_held
  sound_held frame h rd zero = tt
  sound_held frame h rd (suc n) = (tt, sound_held frame (suc h) (suc rd) n)

  -- ---- addresses

  -- the address of what is known
  pub sound_address : (rd : ℕ) (to : Ref) → rd < 32 → IsKnownIn unit to → IsSoundPart unit (address rd to)
  sound_address rd to low known = (low, known)
