-- Bytes taken from a source, one after another, as one text that was taken.
use Rattle.std.proofs.Common.{◌≡◌, ℕ, List, [], ◌++◌, length, drop, Option, Some, None, refl, ap, sym, ◌∙◌, append_assoc, append-nil, drop-drop, length-append}
use Rattle.std.specs.Prelude.{IfSome, option_map}
use Rattle.pw_io.specs.Source.{SourceState, after, Offers, IsUsedUp}

-- to take nothing changes nothing
pub after_nothing : (s : SourceState) → after [] s ≡ s
after_nothing s = ap (λ left. record { left = left; faults = s.faults }) (nothing s.left)
  where
    nothing : (left : Option (List ℕ)) → option_map (drop 0) left ≡ left
    nothing None = refl
    nothing (Some bytes) = refl

-- to take two texts in turn is to take them as one
pub after_after : (first second : List ℕ) (s : SourceState) → after second (after first s) ≡ after (first ++ second) s
after_after first second s = ap (λ left. record { left = left; faults = s.faults }) (twice s.left)
  where
    twice : (left : Option (List ℕ))
        → option_map (drop (length second)) (option_map (drop (length first)) left) ≡ option_map (drop (length (first ++ second))) left
    twice None = refl
    twice (Some bytes) = ap Some (drop-drop (length second) (length first) bytes ∙ ap (λ n. drop n bytes) (sym (length-append first second)))

-- each source offers the empty text
pub Offers_nothing : (s : SourceState) → Offers [] s
Offers_nothing s = nothing s.left
  where
    nothing : (left : Option (List ℕ)) → IfSome left (λ bytes. bytes ≡ drop 0 bytes)
    nothing None = tt
    nothing (Some bytes) = refl

-- a text that is offered, and another after it, are offered as one
pub Offers_more : (first second : List ℕ) (s : SourceState) → Offers first s → Offers second (after first s) → Offers (first ++ second) s
Offers_more first second s = more s.left
  where
    more : (left : Option (List ℕ)) → IfSome left (λ l. l ≡ first ++ drop (length first) l)
        → IfSome (option_map (drop (length first)) left) (λ l. l ≡ second ++ drop (length second) l)
        → IfSome left (λ l. l ≡ (first ++ second) ++ drop (length (first ++ second)) l)
    more None offered behind = tt
    more (Some l) offered behind =
        offered ∙ ap (λ rest. first ++ rest) behind ∙ sym (append_assoc first second _)
        ∙ ap (λ rest. (first ++ second) ++ rest) (drop-drop (length second) (length first) l ∙ ap (λ n. drop n l) (sym (length-append first second)))

-- a source that is used up once a text was taken had that text left and nothing more
pub IsUsedUp-after : (text : List ℕ) (s : SourceState) → Offers text s → IsUsedUp (after text s) → IfSome s.left (λ left. left ≡ text)
IsUsedUp-after text s = ended s.left
  where
    ended : (left : Option (List ℕ)) → IfSome left (λ l. l ≡ text ++ drop (length text) l)
        → IfSome (option_map (drop (length text)) left) (λ l. l ≡ []) → IfSome left (λ l. l ≡ text)
    ended None offered used = tt
    ended (Some l) offered used = offered ∙ ap (λ rest. text ++ rest) used ∙ append-nil text
