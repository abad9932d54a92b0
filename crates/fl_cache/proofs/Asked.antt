-- What a cache still knows.
use Rattle.std.specs.Prelude.{◌≡◌, ◌&&◌, ◌⊎◌, Bool, true, false, List, Contains, Option, Some, None, OnOk, OnErr, Result, Ok, Err, is_some}
use Rattle.std.proofs.Common.{refl, inl, inr, sym, subst, ◌∙◌}
use Rattle.std.specs.Cmp.{Equal-is}
use Rattle.std.specs.Map.{lookup}
use Rattle.std.specs.Option.{option_map}
use Rattle.fl_labels.specs.Cap.{cap_cmp}
use Rattle.fl_labels.specs.CapOrder.{cap_exact, cap_tied}
use Rattle.fl_labels.specs.Found.{Within}
use Rattle.fl_labels.specs.SetBy.{SetBy, In}
use Rattle.fl_labels.specs.contracts.cap.CapPartialEq.TheImpl as caps
use Rattle.fl_labels.specs.declared.cap.Cap.{Cap}
use Rattle.fl_ops.specs.OpOrder.{op_cmp}
use Rattle.fl_ops.specs.Registry.{From, Reach}
use Rattle.fl_ops.specs.laws.Reaching.{reach_more}
use Rattle.fl_cache.specs.contracts.yes.QuestionPartialEq.TheImpl as questions
use Rattle.fl_cache.specs.declared.yes.Question.{Question}
use Rattle.fl_cache.specs.parts.Known.{AreYes, AreKept}
use Rattle.lru.specs.LruCache.{LruCache, lru_cache, put_entries, promoted}
use Rattle.lru.proofs.CallerLemmas.{Contains-promoted, Contains-put_entries, Contains-lookup}

abbrev pub question_eq : Question → Question → Bool
question_eq = questions.ghosts.eq

abbrev Entries : Type 0
Entries = List (Question × Unit {0})

both : (a b : Bool) → (a && b) ≡ true → (a ≡ true) × (b ≡ true)
both true b h = (refl, h)
both false b h = absurd (cc)

same_cap : (a b : Cap) → caps.ghosts.eq a b ≡ true → a ≡ b
same_cap a b h = cap_exact a b ((Equal-is (cap_cmp a b)).0 (sym (cap_tied a b) ∙ h))

same_question : (a b : Question) → question_eq a b ≡ true → (a.root ≡ b.root) × (a.cap ≡ b.cap)
same_question a b h = let p = both (caps.ghosts.eq a.root b.root) (caps.ghosts.eq a.cap b.cap) h in (same_cap a.root b.root p.0, same_cap a.cap b.cap p.1)

more_known : {s t : SetBy op_cmp} {es : Entries} → Within (In s) (In t) → AreYes s es → AreYes t es
more_known within k = record { yes = λ e h. reach_more within (λ c r. r) e.0.cap (k.yes e h) }

-- of all that there may be
pub all_known : (s t : SetBy op_cmp) (cache : Option (LruCache Question (Unit {0}))) → Within (In s) (In t) → AreKept s cache → AreKept t cache
all_known s t None within k = tt
all_known s t (Some cache) within k = more_known within k

module _ {s : SetBy op_cmp} where
  -- a question that is found has the answer yes
  pub found_yes : (es : Entries) (q : Question) → AreYes s es → is_some (lookup (question_eq q) es) ≡ true → Reach (In s) (From q.root) q.cap
  found_yes es q k h = by _ refl h
    where
      by : (o : Option (Unit {0})) → lookup (question_eq q) es ≡ o → is_some o ≡ true → Reach (In s) (From q.root) q.cap
      by None e h = absurd (cc)
      by (Some v) e h =
          let f = Contains-lookup (question_eq q) es v e in
          let same = same_question q f.0 f.2 in
          subst (λ (x : Cap). Reach (In s) (From x) q.cap) (sym same.0) (subst (λ (x : Cap). Reach (In s) (From f.0.root) x) (sym same.1) (k.yes (f.0, v) f.1))

  -- after a look
  pub still_known : (old new : LruCache Question (Unit {0})) (q : Question) → AreYes s old.entries → new ≡ lru_cache (promoted (question_eq q) old.entries) old.cap → AreYes s new.entries
  still_known old new q k is = subst (λ (x : LruCache Question (Unit {0})). AreYes s x.entries) (sym is) (record { yes = λ e h. k.yes e (Contains-promoted (question_eq q) old.entries e h) })

  put_known : (cache : LruCache Question (Unit {0})) (q : Question) → AreYes s cache.entries → Reach (In s) (From q.root) q.cap → AreYes s (put_entries question_eq cache q tt)
  put_known cache q k reached = record { yes = λ e h. known e (Contains-put_entries question_eq cache q tt e h) }
    where
      known : (e : Question × Unit {0}) → Contains cache.entries e ⊎ ((e.1 ≡ tt) × ((e.0 ≡ q) ⊎ ((w : Unit {0}) × Contains cache.entries (e.0, w) × (question_eq q e.0 ≡ true)))) → Reach (In s) (From e.0.root) e.0.cap
      known e (inl h) = k.yes e h
      known e (inr (p, inl is)) = subst (λ (x : Question). Reach (In s) (From x.root) x.cap) (sym is) reached
      known e (inr (p, inr h)) = k.yes (e.0, h.0) h.1

  -- after a put, which may have had no memory
  pub put_either : {E : Type 0} (old new : LruCache Question (Unit {0})) (q : Question) (r : Result (Option (Unit {0})) E) → AreYes s old.entries → Reach (In s) (From q.root) q.cap
      → OnOk r (new ≡ lru_cache (put_entries question_eq old q tt) old.cap) → OnErr r (new ≡ old) → AreYes s new.entries
  put_either old new q (Ok o) k reached ok err = subst (λ (x : LruCache Question (Unit {0})). AreYes s x.entries) (sym ok) (put_known old q k reached)
  put_either old new q (Err e) k reached ok err = subst (λ (x : LruCache Question (Unit {0})). AreYes s x.entries) (sym err) k

pub mapped_some : {A B : Type 0} (f : A → B) (r : Option A) → is_some r ≡ true → is_some (option_map f r) ≡ true
mapped_some f None h = absurd (cc)
mapped_some f (Some x) h = refl
