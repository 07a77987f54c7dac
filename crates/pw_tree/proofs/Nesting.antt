-- Where a copy in a loop stands: one frame more, and one frame less.
use Rattle.std.proofs.Common.{◌≡◌, ℕ, suc, List, [], ◌∷◌, ◌++◌, length, take, slice_get, Some, sym, ap, ◌∙◌, subst, refl}
use Rattle.std.proofs.Math.Seq.{take-suc}
use Rattle.std.proofs.lemmas.Option.{slice_get_within, get_or_from_slice_get}
use Rattle.pw_tree.specs.declared.nested.Frame.{Frame}
use Rattle.pw_tree.specs.declared.nested.Turn.{Turn}
use Rattle.pw_tree.specs.declared.nested.Turn.TheVariants.{Down, Up}
use Rattle.pw_tree.specs.Steps.Nested.{GoesOn}

-- The value is the root, or the next part of the last frame's value; a frame's value is the root, or the next part of that
-- of the frame before it; and each frame has equal values for the parts before.
abbrev pub LeadsTo : {T : Type 0} → (T → List T) → T → List (Frame T) → T → Type 0
LeadsTo parts root [] value = value ≡ root
LeadsTo {T = T} parts root (f ∷ fs) value =
    (f.of.now ≡ root) × (f.done ≡ take (length f.done) (parts root))
    × (next : T) × (slice_get (parts root) (length f.done) ≡ Some next) × LeadsTo parts next fs value

-- what is at hand
abbrev pub at_hand : {T : Type 0} → Turn T → T
at_hand (Down of) = of.now
at_hand (Up copy) = copy

-- the next part of the last value is at hand in one more frame
pub one_more : {T : Type 0} (parts : T → List T) (fs : List (Frame T)) (f : Frame T) (root next : T) →
    LeadsTo parts root fs f.of.now → f.done ≡ take (length f.done) (parts f.of.now) →
    slice_get (parts f.of.now) (length f.done) ≡ Some next → LeadsTo parts root (fs ++ f ∷ []) next
one_more parts [] f root next leads done is = (leads, subst (λ r. f.done ≡ take (length f.done) (parts r)) leads done, next, subst (λ r. slice_get (parts r) (length f.done) ≡ Some next) leads is, refl)
one_more parts (e ∷ fs) f root next leads done is = (leads.0, leads.1, leads.2, leads.3, one_more parts fs f leads.2 next leads.4 done is)

-- so each step keeps it
pub goes_on : {T : Type 0} (parts : T → List T) (fs new : List (Frame T)) (f : Frame T) (root : T) (turn : Turn T) →
    LeadsTo parts root fs f.of.now → f.done ≡ take (length f.done) (parts f.of.now) → GoesOn parts f fs new turn →
    LeadsTo parts root new (at_hand turn)
goes_on parts fs new f root (Down part) leads done g = subst (λ n. LeadsTo parts root n part.now) (sym g.0) (one_more parts fs f root part.now leads done g.1)
goes_on parts fs new f root (Up copy) leads done g = subst (λ n. LeadsTo parts root n copy) (sym g.0) (subst (λ c. LeadsTo parts root fs c) (sym g.1) leads)

-- one item more of a list
pub one_taken : {T : Type 0} (xs : List T) (n : ℕ) (x : T) → slice_get xs n ≡ Some x → take n xs ++ x ∷ [] ≡ take (suc n) xs
one_taken xs n x is = sym (take-suc xs n x (slice_get_within xs n x is) ∙ ap (λ y. take n xs ++ y ∷ []) (get_or_from_slice_get xs n x x is))

length-snoc : {T : Type 0} (xs : List T) (x : T) → length (xs ++ x ∷ []) ≡ suc (length xs)
length-snoc [] x = refl
length-snoc (y ∷ xs) x = ap suc (length-snoc xs x)

-- with its next part at hand, a frame has one copy more
pub one_done : {T : Type 0} (xs done : List T) (x : T) → done ≡ take (length done) xs →
    slice_get xs (length done) ≡ Some x → done ++ x ∷ [] ≡ take (length (done ++ x ∷ [])) xs
one_done xs done x is there = ap (λ d. d ++ x ∷ []) is ∙ one_taken xs (length done) x there ∙ ap (λ n. take n xs) (sym (length-snoc done x))

pub record Returns {T : Type 0} (parts : T → List T) (fs : List (Frame T)) (f : Frame T) (root value : T) : Type 0 where
  pub leads : LeadsTo parts root fs f.of.now
  pub done : f.done ++ value ∷ [] ≡ take (length (f.done ++ value ∷ [])) (parts f.of.now)

-- the last frame's value is at hand again
pub returns : {T : Type 0} (parts : T → List T) (fs : List (Frame T)) (f : Frame T) (root value : T) →
    LeadsTo parts root (fs ++ f ∷ []) value → Returns parts fs f root value
returns parts [] f root value leads = record {
  leads = leads.0;
  done = one_done (parts f.of.now) f.done value
      (subst (λ r. f.done ≡ take (length f.done) (parts r)) (sym leads.0) leads.1)
      (subst (λ r. slice_get (parts r) (length f.done) ≡ Some value) (sym leads.0) (leads.3 ∙ ap Some (sym leads.4)));
}
returns parts (e ∷ fs) f root value leads =
    let r = returns parts fs f leads.2 value leads.4 in
    record { leads = (leads.0, leads.1, leads.2, leads.3, r.leads); done = r.done }

-- ---- the steps of the loop

-- from a value that is at hand
pub kept_down : {T : Type 0} (parts : T → List T) (fs new : List (Frame T)) (f : Frame T) (root : T) (turn turn' : Turn T) →
    LeadsTo parts root fs (at_hand turn) → turn ≡ Down f.of → f.done ≡ [] → GoesOn parts f fs new turn' →
    LeadsTo parts root new (at_hand turn')
kept_down parts fs new f root turn turn' leads is none g =
    goes_on parts fs new f root turn' (subst (λ t. LeadsTo parts root fs (at_hand t)) is leads) (none ∙ sym (ap (λ d. take (length d) (parts f.of.now)) none)) g

-- from a copy that is at hand, with a frame left
pub frame_of_copy : {T : Type 0} (parts : T → List T) (fs rest : List (Frame T)) (f : Frame T) (root copy : T) (turn : Turn T) →
    LeadsTo parts root fs (at_hand turn) → turn ≡ Up copy → fs ≡ rest ++ f ∷ [] → Returns parts rest f root copy
frame_of_copy parts fs rest f root copy turn leads is last =
    returns parts rest f root copy (subst (λ l. LeadsTo parts root l copy) last (subst (λ t. LeadsTo parts root fs (at_hand t)) is leads))

pub done_of_copy : {T : Type 0} (parts : T → List T) (fs rest : List (Frame T)) (f : Frame T) (root copy : T) (turn : Turn T) (done : List T) →
    LeadsTo parts root fs (at_hand turn) → turn ≡ Up copy → fs ≡ rest ++ f ∷ [] → done ≡ f.done ++ copy ∷ [] →
    done ≡ take (length done) (parts f.of.now)
done_of_copy parts fs rest f root copy turn done leads is last put =
    put ∙ (frame_of_copy parts fs rest f root copy turn leads is last).done ∙ ap (λ d. take (length d) (parts f.of.now)) (sym put)

pub kept_up : {T : Type 0} (parts : T → List T) (fs rest new : List (Frame T)) (f : Frame T) (root copy : T) (turn turn' : Turn T) (done : List T) →
    LeadsTo parts root fs (at_hand turn) → turn ≡ Up copy → fs ≡ rest ++ f ∷ [] → done ≡ f.done ++ copy ∷ [] →
    GoesOn parts (record f { done = done }) rest new turn' → LeadsTo parts root new (at_hand turn')
kept_up parts fs rest new f root copy turn turn' done leads is last put g =
    goes_on parts rest new (record f { done = done }) root turn' (frame_of_copy parts fs rest f root copy turn leads is last).leads
    (done_of_copy parts fs rest f root copy turn done leads is last put) g

-- a copy that is at hand, with no frame left
pub copied : {T : Type 0} (parts : T → List T) (fs : List (Frame T)) (root copy : T) (turn : Turn T) →
    LeadsTo parts root fs (at_hand turn) → turn ≡ Up copy → fs ≡ [] → copy ≡ root
copied parts fs root copy turn leads is none = subst (λ l. LeadsTo parts root l copy) none (subst (λ t. LeadsTo parts root fs (at_hand t)) is leads)
