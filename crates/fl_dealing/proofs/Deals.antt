-- One item more is dealt.
use Rattle.std.proofs.Common.{◌≡◌, ◌==◌, ℕ, suc, ◌+◌, ◌<◌, Bool, true, false, List, [], ◌∷◌, ◌++◌, length, slice_index_or, refl, sym, ◌∙◌, ap, append_assoc, append-nil, length-append, if◌then◌else◌, arith}
use Rattle.fl_dealing.specs.declared.item.Item.{Item}
use Rattle.fl_dealing.specs.declared.item.Item.TheVariants as items
use Rattle.fl_dealing.specs.declared.dealing.Queue.{Queue}
use Rattle.fl_dealing.specs.declared.dealing.Dealt.{Dealt}
use Rattle.fl_worker.specs.declared.task.Task.{Task}
use Rattle.fl_dealing.specs.Dealt.{owner_of, procs_past, owners_of, procs_behind, tasks_of, parcels_of}
use Rattle.fl_dealing.specs.parts.Dealing.{IsEmpty, Deals}

-- a choice, and what follows it
chosen : (b : Bool) (t : Task) (ts : List Task)
    → (if b then t ∷ [] else []) ++ ts ≡ (if b then t ∷ ts else ts)
chosen true t ts = refl
chosen false t ts = refl

tasks_first : (w place o : ℕ) (os : List ℕ) (i : Item) (is : List Item)
    → tasks_of w place (o ∷ []) (i ∷ []) ++ tasks_of w (place + 1) os is
    ≡ tasks_of w place (o ∷ os) (i ∷ is)
tasks_first w place o os (items.Job job) is = chosen (o == w) _ (tasks_of w (place + 1) os is)
tasks_first w place o os (items.Packet packet) is = refl

parcels_first : (place : ℕ) (i : Item) (is : List Item)
    → parcels_of place (i ∷ []) ++ parcels_of (place + 1) is ≡ parcels_of place (i ∷ is)
parcels_first place (items.Job job) is = refl
parcels_first place (items.Packet packet) is = refl

-- what comes behind two parts, where the two are one
joined : {X : Type 0} (a b c x y ys : List X) → c ≡ b ++ ys → b ≡ a ++ x → x ++ ys ≡ y
    → c ≡ a ++ y
joined a b c x y ys f g h = f ∙ ap (λ l. l ++ ys) g ∙ append_assoc a x ys ∙ ap (λ l. a ++ l) h

pub deals_none : (d : Dealt) → d.procs < length d.queues.items → Deals d [] d
deals_none d within = record {
  count = refl;
  procs = refl;
  within = within;
  owners = sym (append-nil d.owners.items);
  parcels = sym (append-nil d.parcels.items);
  tasks = λ i q h. sym (append-nil (slice_index_or d.queues.items i q).tasks.items);
}

module _ (a b c : Dealt) (i : Item) (is : List Item) (first : Deals a (i ∷ []) b)
    (rest : Deals b is c) where
  next : length b.owners.items ≡ length a.owners.items + 1
  next = ap length first.owners
      ∙ length-append a.owners.items (owner_of (length a.queues.items) a.procs i ∷ [])

  owners_rest : owners_of (length b.queues.items) b.procs is
      ≡ owners_of (length a.queues.items) (procs_past (length a.queues.items) a.procs i) is
  owners_rest = rw (first.count, first.procs)

  -- the tasks of the worker with the queue at k
  tasks_rest : (k : ℕ) (q : Queue) → k < length a.queues.items
      → (slice_index_or c.queues.items k q).tasks.items
      ≡ (slice_index_or a.queues.items k q).tasks.items
      ++ tasks_of (suc k) (length a.owners.items)
      (owners_of (length a.queues.items) a.procs (i ∷ is)) (i ∷ is)
  tasks_rest k q h =
      let h' : k < length b.queues.items = omega (arith, first.count) in
      let o : ℕ = owner_of (length a.queues.items) a.procs i in
      let one : List Task = tasks_of (suc k) (length a.owners.items) (o ∷ []) (i ∷ []) in
      joined (slice_index_or a.queues.items k q).tasks.items
      (slice_index_or b.queues.items k q).tasks.items
      (slice_index_or c.queues.items k q).tasks.items _ _ _ (rest.tasks k q h')
      (first.tasks k q h)
      (ap (λ n. one ++ tasks_of (suc k) n (owners_of (length b.queues.items) b.procs is) is) next
      ∙ ap (λ os. one ++ tasks_of (suc k) (length a.owners.items + 1) os is) owners_rest
      ∙ tasks_first (suc k) (length a.owners.items) o _ i is)

  pub deals_first : Deals a (i ∷ is) c
  deals_first = record {
    count = rest.count ∙ first.count;
    procs = rest.procs ∙ ap (λ n. procs_behind n b.procs is) first.count
        ∙ ap (λ p. procs_behind (length a.queues.items) p is) first.procs;
    within = rest.within;
    owners = joined a.owners.items b.owners.items c.owners.items _ _ _ rest.owners first.owners
        (ap (λ os. owner_of (length a.queues.items) a.procs i ∷ os) owners_rest);
    parcels = joined a.parcels.items b.parcels.items c.parcels.items _ _ _ rest.parcels
        first.parcels
        (ap (λ n. parcels_of (length a.owners.items) (i ∷ []) ++ parcels_of n is) next
        ∙ parcels_first (length a.owners.items) i is);
    tasks = λ k q h. tasks_rest k q h;
  }

-- dealt from the first item on
module _ (workers next : ℕ) (e d : Dealt) (is : List Item) (empty : IsEmpty workers next e)
    (deals : Deals e is d) where
  pub all_count : length d.queues.items ≡ workers
  all_count = deals.count ∙ empty.count

  pub all_procs : d.procs ≡ procs_behind workers next is
  all_procs = deals.procs ∙ ap (λ n. procs_behind n e.procs is) empty.count
      ∙ ap (λ p. procs_behind workers p is) empty.procs

  pub all_within : d.procs < workers
  all_within = omega (arith, deals.within, all_count)

  from_start : owners_of (length e.queues.items) e.procs is ≡ owners_of workers next is
  from_start = rw (empty.count, empty.procs)

  pub all_owners : d.owners.items ≡ owners_of workers next is
  all_owners = deals.owners
      ∙ ap (λ os. os ++ owners_of (length e.queues.items) e.procs is) empty.owners ∙ from_start

  pub all_parcels : d.parcels.items ≡ parcels_of 0 is
  all_parcels = deals.parcels
      ∙ ap (λ ps. ps ++ parcels_of (length e.owners.items) is) empty.parcels
      ∙ ap (λ n. parcels_of n is) (ap length empty.owners)

  pub all_tasks : (i : ℕ) (q : Queue) → i < workers
      → (slice_index_or d.queues.items i q).tasks.items
      ≡ tasks_of (suc i) 0 (owners_of workers next is) is
  all_tasks i q h =
      let h' : i < length e.queues.items = omega (arith, empty.count) in
      deals.tasks i q h'
      ∙ ap (λ ts. ts ++ tasks_of (suc i) (length e.owners.items)
      (owners_of (length e.queues.items) e.procs is) is) (empty.queues i q h)
      ∙ ap (λ n. tasks_of (suc i) n (owners_of (length e.queues.items) e.procs is) is)
      (ap length empty.owners)
      ∙ ap (λ os. tasks_of (suc i) 0 os is) from_start
