-- Code that is appended in parts, all of them or, out of memory, the first ones. A part may be given as code that is equal to it.
use Rattle.std.proofs.Common.{◌≡◌, ℕ, ◌≤◌, List, [], ◌∷◌, ◌++◌, length, refl, sym, ◌∙◌, ap, subst, append_assoc, arith, Result, Ok, Err}
use Rattle.std.specs.Result.{IsErrAnd}
use Rattle.pw_base.specs.declared.no_memory.NoMemory.{NoMemory}
use Rattle.pw_code.specs.declared.item.Item.{Item}
use Rattle.pw_code.specs.Items.{CodePart, items}
use Rattle.pw_genexpr.specs.Appends.{Appends, AppendsPrefix}
use Rattle.pw_genexpr.proofs.Appending.{items-append, prefix_of_more, prefix_after, appends_after}

-- The last error is that of a part, which left a prefix.
pub given_up : (code : List CodePart) (old new : List Item) (r : Result (Unit {0}) NoMemory) (P : NoMemory → Type 0) → IsErrAnd r P →
    AppendsPrefix code old new → Appends code old new r
given_up code old new (Ok _) P h k = absurd h
given_up code old new (Err _) P h k = k

module _ (old : List Item) (r : Result (Unit {0}) NoMemory) where
  pub two_done : (a b a' b' : List CodePart) (mid new : List Item) → a' ≡ a → b' ≡ b → mid ≡ old ++ items a' → Appends b' mid new r → Appends (a ++ b) old new r
  two_done a b a' b' mid new ea eb e h =
      appends_after a b old mid new r (e ∙ ap (λ l. old ++ items l) ea) (subst (λ l. Appends l mid new r) eb h)

  pub one_failed : (a b a' : List CodePart) (new : List Item) (P : NoMemory → Type 0) → a' ≡ a → IsErrAnd r P → AppendsPrefix a' old new → Appends (a ++ b) old new r
  one_failed a b a' new P ea p h = given_up (a ++ b) old new r P p (prefix_of_more a b old new (subst (λ l. AppendsPrefix l old new) ea h))

  pub three_done : (a b c a' b' c' : List CodePart) (m1 m2 new : List Item) → a' ≡ a → b' ≡ b → c' ≡ c → m1 ≡ old ++ items a' → m2 ≡ m1 ++ items b' →
      Appends c' m2 new r → Appends (a ++ b ++ c) old new r
  three_done a b c a' b' c' m1 m2 new ea eb ec e1 e2 h =
      appends_after (a ++ b) c old m2 new r
      (appends_after a b old m1 m2 (Ok tt) (e1 ∙ ap (λ l. old ++ items l) ea) (e2 ∙ ap (λ l. m1 ++ items l) eb))
      (subst (λ l. Appends l m2 new r) ec h)

  pub first_failed : (a b c a' : List CodePart) (new : List Item) (P : NoMemory → Type 0) → a' ≡ a → IsErrAnd r P → AppendsPrefix a' old new → Appends (a ++ b ++ c) old new r
  first_failed a b c a' new P ea p h =
      given_up (a ++ b ++ c) old new r P p (prefix_of_more (a ++ b) c old new (prefix_of_more a b old new (subst (λ l. AppendsPrefix l old new) ea h)))

  pub second_failed : (a b c a' b' : List CodePart) (mid new : List Item) (P : NoMemory → Type 0) → a' ≡ a → b' ≡ b → mid ≡ old ++ items a' → IsErrAnd r P →
      AppendsPrefix b' mid new → Appends (a ++ b ++ c) old new r
  second_failed a b c a' b' mid new P ea eb e p h =
      given_up (a ++ b ++ c) old new r P p (prefix_of_more (a ++ b) c old new
      (prefix_after a b old mid new (e ∙ ap (λ l. old ++ items l) ea) (subst (λ l. AppendsPrefix l mid new) eb h)))

-- ---- after a loop has appended some code

split_front : (xs rest old whole : List Item) → xs ++ rest ≡ old ++ whole → length old ≤ length xs →
    (done : List Item) × (xs ≡ old ++ done) × (done ++ rest ≡ whole)
split_front xs rest [] whole e h = (xs, refl, e)
split_front [] rest (o ∷ os) whole e h = absurd (omega arith)
split_front (x ∷ xs) rest (o ∷ os) whole e h =
    let tails : xs ++ rest ≡ os ++ whole = cc in
    let r = split_front xs rest os whole tails (omega arith) in
    (r.0, (let q : x ∷ xs ≡ o ∷ (os ++ r.0) = cc in q), r.2)

-- What is left begins with a part that left a prefix.
pub rest_failed : (old now new : List Item) (whole here behind : List CodePart) (r : Result (Unit {0}) NoMemory) (P : NoMemory → Type 0) →
    now ++ items (here ++ behind) ≡ old ++ items whole → length old ≤ length now → IsErrAnd r P → AppendsPrefix here now new → Appends whole old new r
rest_failed old now new whole here behind r P e l p h =
    let s = split_front now (items (here ++ behind)) old (items whole) e l in
    given_up whole old new r P p (record {
      prefix = s.0 ++ h.prefix;
      more = h.more ++ items behind;
      whole = sym s.2 ∙ ap (λ k. s.0 ++ k) (items-append here behind ∙ ap (λ k. k ++ items behind) h.whole ∙ append_assoc h.prefix h.more (items behind))
          ∙ sym (append_assoc s.0 h.prefix (h.more ++ items behind));
      appended = h.appended ∙ ap (λ k. k ++ h.prefix) s.1 ∙ append_assoc old s.0 h.prefix;
    })
