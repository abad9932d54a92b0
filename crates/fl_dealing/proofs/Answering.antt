-- Where all items are answered, there is one list of the answers.
use Rattle.std.proofs.Common.{◌≡◌, ◌≢◌, ◌==◌, ℕ, zero, suc, ◌+◌, Bool, true, false, List, [], ◌∷◌, map, length, refl, sym, ◌∙◌, ap, if◌then◌else◌, eq-eqb, ne_eqb, arith, inl, inr}
use Rattle.std.proofs.lemmas.Bool.Decides.{eqb_tells}
use Rattle.fl_jobs.specs.declared.job.Job.{Job}
use Rattle.fl_jobs.specs.declared.job.Job.TheVariants.{Proc, By, Member, Arrive}
use Rattle.fl_system.specs.Jobs.{bench_for, procs_after}
use Rattle.fl_worker.specs.declared.task.Task.{Task}
use Rattle.fl_dealing.specs.declared.item.Item.{Item}
use Rattle.fl_dealing.specs.declared.item.Item.TheVariants as items
use Rattle.fl_dealing.specs.declared.entry.Entry.{Entry}
use Rattle.fl_dealing.specs.Dealt.{owners_of, tasks_of, parcels_of, task_at}
use Rattle.fl_dealing.specs.Gathered.{select, StandFrom, IsGathered}
use Rattle.fl_dealing.specs.Answered.{AreAnswered}

-- the places of owner w, from p on
abbrev places_at : ℕ → ℕ → List ℕ → List ℕ
places_at w p [] = []
places_at w p (o ∷ os) = if o == w then p ∷ places_at w (p + 1) os else places_at w (p + 1) os

-- another owner's place is passed over
passed : (w o p : ℕ) (os : List ℕ) → o ≢ w → places_at w (p + 1) os ≡ places_at w p (o ∷ os)
passed w o p os ne =
    ap (λ b. if b then p ∷ places_at w (p + 1) os else places_at w (p + 1) os)
    (sym (ne_eqb o w ne))

one_task : (b : Bool) (p : ℕ) (job : Job) (ts : List Task) (ps : List ℕ)
    → map (λ t. t.place) ts ≡ ps
    → map (λ t. t.place) (if b then task_at p job ∷ ts else ts) ≡ (if b then p ∷ ps else ps)
one_task true p job ts ps e = ap (λ l. p ∷ l) e
one_task false p job ts ps e = e

tasks_at : (i n procs p : ℕ) (is : List Item)
    → map (λ t. t.place) (tasks_of (suc i) p (owners_of n procs is) is)
    ≡ places_at (suc i) p (owners_of n procs is)
tasks_at i n procs p [] = refl
tasks_at i n procs p (items.Packet packet ∷ is) =
    tasks_at i n procs (p + 1) is
    ∙ passed (suc i) 0 p (owners_of n procs is) (λ e. absurd (omega arith))
tasks_at i n procs p (items.Job job ∷ is) =
    one_task (bench_for n procs job == suc i) p job _ _
    (tasks_at i n (procs_after n procs job) (p + 1) is)

-- a job is a worker's
no_registrar : (n procs : ℕ) (job : Job) → bench_for n procs job ≢ 0
no_registrar n procs Proc e = omega arith
no_registrar n procs (By pid act) e = omega arith
no_registrar n procs (Member root c) e = omega arith
no_registrar n procs (Arrive d) e = omega arith

parcels_at : (n procs p : ℕ) (is : List Item)
    → map (λ q. q.place) (parcels_of p is) ≡ places_at 0 p (owners_of n procs is)
parcels_at n procs p [] = refl
parcels_at n procs p (items.Packet packet ∷ is) =
    ap (λ l. p ∷ l) (parcels_at n procs (p + 1) is)
parcels_at n procs p (items.Job job ∷ is) =
    parcels_at n (procs_after n procs job) (p + 1) is
    ∙ passed 0 (bench_for n procs job) p (owners_of n (procs_after n procs job) is)
    (no_registrar n procs job)

-- who has the first place says something first
record Headed (said : List Entry) (p : ℕ) (ps : List ℕ) : Type 0 where
  entry : Entry
  rest : List Entry
  is : said ≡ entry ∷ rest
  at : entry.job ≡ p
  others : map (λ e. e.job) rest ≡ ps

headed : (said : List Entry) (p : ℕ) (ps : List ℕ) → map (λ e. e.job) said ≡ p ∷ ps
    → Headed said p ps
headed [] p ps h = absurd (cc)
headed (e ∷ es) p ps h = record { entry = e; rest = es; is = refl; at = cc; others = cc }

none_said : (said : List Entry) → map (λ e. e.job) said ≡ [] → said ≡ []
none_said [] h = refl
none_said (e ∷ es) h = absurd (cc)

-- there is a list of what is said of these places
record Listed (p : ℕ) (os : List ℕ) (said : ℕ → List Entry) : Type 0 where
  entries : List Entry
  count : length entries ≡ length os
  places : StandFrom p entries
  answers : (w : ℕ) → select w os entries ≡ said w

-- what is left to say, once the owner of the first place has said this
module _ (p o : ℕ) (os : List ℕ) (said : ℕ → List Entry)
    (h : (w : ℕ) → map (λ e. e.job) (said w) ≡ places_at w p (o ∷ os))
    (first : Headed (said o) p (places_at o (p + 1) os)) where
  abbrev left : ℕ → List Entry
  left w = if o == w then first.rest else said w

  is_mine : (w : ℕ) → (o == w) ≡ true → left w ≡ first.rest
  is_mine w b = ap (λ b. if b then first.rest else said w) b

  is_theirs : (w : ℕ) → (o == w) ≡ false → left w ≡ said w
  is_theirs w b = ap (λ b. if b then first.rest else said w) b

  left_at : (w : ℕ) → map (λ e. e.job) (left w) ≡ places_at w (p + 1) os
  left_at w = elim (eqb_tells o w) [
    | inl t ↦ ap (map (λ e. e.job)) (is_mine w t.0) ∙ first.others
        ∙ ap (λ v. places_at v (p + 1) os) t.1
    | inr f ↦ ap (map (λ e. e.job)) (is_theirs w f.0) ∙ h w ∙ sym (passed w o p os f.1)
  ]

  module _ (rest : Listed (p + 1) os left) where
    all_at : (w : ℕ) → select w (o ∷ os) (first.entry ∷ rest.entries) ≡ said w
    all_at w = elim (eqb_tells o w) [
      | inl t ↦ ap (λ b. if b then first.entry ∷ select w os rest.entries
          else select w os rest.entries) t.0
          ∙ ap (λ l. first.entry ∷ l) (rest.answers w ∙ is_mine w t.0) ∙ sym first.is ∙ ap said t.1
      | inr f ↦ ap (λ b. if b then first.entry ∷ select w os rest.entries
          else select w os rest.entries) f.0
          ∙ rest.answers w ∙ is_theirs w f.0
    ]

    list_next : Listed p (o ∷ os) said
    list_next = record {
      entries = first.entry ∷ rest.entries;
      count = ap suc rest.count;
      places = (first.at, rest.places);
      answers = all_at;
    }

list_of : (p : ℕ) (os : List ℕ) (said : ℕ → List Entry)
    → ((w : ℕ) → map (λ e. e.job) (said w) ≡ places_at w p os) → Listed p os said
list_of p [] said h = record {
  entries = [];
  count = refl;
  places = tt;
  answers = λ w. sym (none_said (said w) (h w));
}
list_of p (o ∷ os) said h =
    let first : Headed (said o) p (places_at o (p + 1) os) =
    headed (said o) p _ (h o
    ∙ ap (λ b. if b then p ∷ places_at o (p + 1) os else places_at o (p + 1) os)
    (eq-eqb o o refl)) in
    list_next p o os said h first
    (list_of (p + 1) os (left p o os said h first) (left_at p o os said h first))

all_at_places : (workers procs : ℕ) (is : List Item) (said : ℕ → List Entry)
    → AreAnswered workers procs is said
    → (w : ℕ) → map (λ e. e.job) (said w) ≡ places_at w 0 (owners_of workers procs is)
all_at_places workers procs is said a zero = a.parcels ∙ parcels_at workers procs 0 is
all_at_places workers procs is said a (suc i) = a.tasks i ∙ tasks_at i workers procs 0 is

pub answered : (workers procs : ℕ) (is : List Item) (said : ℕ → List Entry)
    → AreAnswered workers procs is said
    → (es : List Entry) × IsGathered (owners_of workers procs is) said es
answered workers procs is said a =
    let l : Listed 0 (owners_of workers procs is) said =
    list_of 0 (owners_of workers procs is) said (all_at_places workers procs is said a) in
    (l.entries, record { count = l.count; places = l.places; answers = l.answers })
