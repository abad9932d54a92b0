-- What lines are told of the moments that they are.
use Rattle.std.proofs.Common.{◌≡◌, ◌⊎◌, ◌<◌, ◌+◌, ◌∙◌, ℕ, zero, suc, refl, ap, subst, arith}
use Rattle.std.proofs.Common.{List, [], ◌∷◌, ◌++◌, Option, Some, inl, inr, length, slice_get}
use Rattle.fl_bench.specs.laws.Puts.{none_some, same_found}
use Rattle.fl_system.specs.declared.event.Event.{Event}
use Rattle.fl_system.specs.declared.reply.Reply.{Reply}
use Rattle.fl_system.specs.declared.reply.Reply.TheVariants as replies
use Rattle.fl_system.specs.Runs.{Move, Happens, Comes, Returns, Moment}
use Rattle.fl_calls.specs.Answer.{Answer as Said, replied}
use Rattle.fl_turns.specs.Answer.{Answer, silence, said, listed}
use Rattle.fl_turns.specs.Moments.{told, told_at, told_in, told_said, told_by}

-- ---- places in lists that are put together

pub slice_past : {A : Type 0} (xs ys : List A) (n j : ℕ) → j ≡ length xs + n → slice_get (xs ++ ys) j ≡ slice_get ys n
slice_past [] ys n j e =
    let same : j ≡ n = omega (arith, e) in ap (slice_get ys) same
slice_past (x ∷ xs) ys n zero e = absurd (omega (arith, e))
slice_past (x ∷ xs) ys n (suc j) e =
    let less : j ≡ length xs + n = omega (arith, e) in slice_past xs ys n j less

pub slice_within : {A : Type 0} (xs ys : List A) (i j : ℕ) (x : A) → j ≡ i → slice_get xs i ≡ Some x
    → slice_get (xs ++ ys) j ≡ Some x
slice_within [] ys i j x e h = absurd (none_some refl h)
slice_within (y ∷ xs) ys zero zero x e h = h
slice_within (y ∷ xs) ys zero (suc j) x e h = absurd (omega (arith, e))
slice_within (y ∷ xs) ys (suc i) zero x e h = absurd (omega (arith, e))
slice_within (y ∷ xs) ys (suc i) (suc j) x e h =
    let less : j ≡ i = omega (arith, e) in slice_within xs ys i j x less h

pub slice_less : {A : Type 0} (xs : List A) (i : ℕ) (x : A) → slice_get xs i ≡ Some x → i < length xs
slice_less [] i x e = absurd (none_some refl e)
slice_less (y ∷ xs) zero x e = omega arith
slice_less (y ∷ xs) (suc i) x e = let less = slice_less xs i x e in omega (arith, less)

-- where something is that stands in two lists, one after the other
pub data IsWhere {A : Type 0} (xs ys : List A) (j : ℕ) (x : A) : Type 0 where
  front : j < length xs → slice_get xs j ≡ Some x → IsWhere xs ys j x
  back : (n : ℕ) → j ≡ length xs + n → slice_get ys n ≡ Some x → IsWhere xs ys j x

pub at_which : {A : Type 0} (xs ys : List A) (j : ℕ) (x : A) → slice_get (xs ++ ys) j ≡ Some x → IsWhere xs ys j x
at_which [] ys j x e = back j (omega arith) e
at_which (y ∷ xs) ys zero x e = front (omega arith) e
at_which (y ∷ xs) ys (suc j) x e = elim (at_which xs ys j x e) [
  | front less there ↦ front (omega (arith, less)) there
  | back n is there ↦ back n (omega (arith, is)) there
]

-- ---- what is told

first_of : {A : Type 0} → A → List A → A
first_of d xs = elim xs [ [] ↦ d | x ∷ rest ↦ x ]

module _ (e : Event) (r : Reply) where
  -- the event has this reply at a moment
  pub record Happened (ms : List Moment) : Type 0 where
    pub place : ℕ
    pub moment : Moment
    pub there : slice_get ms place ≡ Some moment
    pub move_is : moment.move ≡ Happens e
    pub reply_is : moment.reply ≡ r

  one_more : (m : Moment) (ms : List Moment) → Happened ms → Happened (m ∷ ms)
  one_more m ms h = record {
    place = suc h.place;
    moment = h.moment;
    there = h.there;
    move_is = h.move_is;
    reply_is = h.reply_is;
  }

  head_is : (x : Event × Reply) (xs : List (Event × Reply)) → x ∷ xs ≡ (e, r) ∷ [] → x ≡ (e, r)
  unfolding first_of
  head_is x xs is = ap (first_of x) is

  pub by_head : (move : Move) (reply : Reply) (rest : List (Event × Reply)) → told_at move reply ++ rest ≡ (e, r) ∷ []
      → ((move ≡ Happens e) × (reply ≡ r)) ⊎ (rest ≡ (e, r) ∷ [])
  by_head (Happens event) (replies.Job reply) rest is =
      let h = head_is _ rest is in
      inl (ap (λ (x : Event × Reply). Happens x.0) h, ap (λ (x : Event × Reply). x.1) h)
  by_head (Happens event) (replies.Sent first count) rest is =
      let h = head_is _ rest is in
      inl (ap (λ (x : Event × Reply). Happens x.0) h, ap (λ (x : Event × Reply). x.1) h)
  by_head (Happens event) reply rest is = inr is
  by_head (Comes number kept) reply rest is = inr is
  by_head (Returns number kept) reply rest is = inr is

  -- what is told happened
  pub happened : (ms : List Moment) → told_in ms ≡ (e, r) ∷ [] → Happened ms
  happened [] is = absurd (cc)
  happened (m ∷ ms) is = elim (by_head m.move m.reply (told_in ms) is) [
    | inl here ↦ record { place = zero; moment = m; there = refl; move_is = here.0; reply_is = here.1 }
    | inr later ↦ one_more m ms (happened ms later)
  ]

  -- what happened is told, where it is of a kind that is
  pub is_told : (ms : List Moment) (i : ℕ) (m : Moment) → slice_get ms i ≡ Some m → told_at m.move m.reply ≡ (e, r) ∷ []
      → (n : ℕ) × (slice_get (told_in ms) n ≡ Some (e, r))
  is_told [] i m there is = absurd (none_some refl there)
  is_told (x ∷ ms) zero m there is =
      let same : m ≡ x = same_found there refl in
      let told_is : told_at x.move x.reply ≡ (e, r) ∷ [] = subst (λ (y : Moment). told_at y.move y.reply ≡ (e, r) ∷ []) same is in
      (zero, ap (λ y. slice_get (y ++ told_in ms) zero) told_is)
  is_told (x ∷ ms) (suc i) m there is =
      let rest = is_told ms i m there is in
      let n = length (told_at x.move x.reply) + rest.0 in
      (n, slice_past (told_at x.move x.reply) (told_in ms) rest.0 n refl ∙ rest.1)

  -- what a line tells is of its event, and its answer
  told_is : (event : Event) (reply : Reply) (n : ℕ) → slice_get (told event reply) n ≡ Some (e, r)
      → (event ≡ e) × (reply ≡ r)
  told_is event (replies.Job reply) zero is =
      let h = same_found refl is in
      (ap (λ (x : Event × Reply). x.0) h, ap (λ (x : Event × Reply). x.1) h)
  told_is event (replies.Sent first count) zero is =
      let h = same_found refl is in
      (ap (λ (x : Event × Reply). x.0) h, ap (λ (x : Event × Reply). x.1) h)
  told_is event (replies.Job reply) (suc n) is = absurd (none_some refl is)
  told_is event (replies.Sent first count) (suc n) is = absurd (none_some refl is)
  told_is event reply n is = absurd (none_some refl is)

  said_is : (asked : Option Event) (what : Said) (n : ℕ) → slice_get (told_said asked what) n ≡ Some (e, r)
      → (asked ≡ Some e) × (what ≡ replied r)
  said_is (Some event) (replied reply) n is =
      let h = told_is event reply n is in (ap Some h.0, ap replied h.1)
  said_is asked what n is = absurd (none_some refl is)

  pub answered_is : (asked : Option Event) (answer : Answer) (n : ℕ) → slice_get (told_by asked answer) n ≡ Some (e, r)
      → (asked ≡ Some e) × (answer ≡ said (replied r))
  answered_is asked silence n is = absurd (none_some refl is)
  answered_is asked (said what) n is =
      let h = said_is asked what n is in (h.0, ap said h.1)
  answered_is asked (listed table) n is = absurd (none_some refl is)
