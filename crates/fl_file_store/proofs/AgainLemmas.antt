-- What a connection finds in the files that another gave up.
use Rattle.std.proofs.Common.{◌≡◌, ℕ, Bool, true, false, ◌&&◌, IsTrue, refl, sym, ap, subst, ◌∙◌, arith}
use Rattle.std.specs.declared.result.Result.{Result}
use Rattle.std.specs.declared.result.Result.TheVariants.{Ok, Err}
use Rattle.std.proofs.Math.Logic.{∥∥₁_elim, ∥∥₁_map}
use mathlib.Core.Bool.{Bool-set}
use mathlib.Core.HLevel.{Σ_prop_path}
use Rattle.sqlite_disk.specs.declared.Disk.{Ghosts}
use Rattle.sqlite_disk.specs.declared.Files.{Files}
use Rattle.sqlite_wal.proofs.LogLemmas.{SeenMayStay}
use Rattle.sqlite_wal.specs.Files.{seen_image}
use Rattle.sqlite_wal.specs.Reads.{are_clean}
use Rattle.sqlite_wal.specs.Recovery.{Image}
use Rattle.sqlite_pages.specs.PageMap.{PageMap}
use Rattle.sqlite_pool.specs.Stored.{Recovers}
use Rattle.sqlite_pool.specs.StoredLaws.{recovers_once}
use Rattle.sqlite_pool.specs.Opening.{image}
use Rattle.sqlite_pool.proofs.PoolLemmas.{pages_from}
use Rattle.sqlite_pool.proofs.ResealLemmas.{adopts_of}
use Rattle.sqlite_pool.proofs.StateLemmas.{seen_may_be_left, clean_is, clean_if_left, size_is_allowed}
use Rattle.sqlite_trees.specs.Props.{Trees-set}
use Rattle.sqlite_trees.specs.Tree.{Trees}
use Rattle.sqlite_trees.specs.View.{IsClean}
use Rattle.sqlite_trees.proofs.Doubt.{no_doubt}
use Rattle.sqlite_store.specs.declared.store.FileStore.{FileStore}
use Rattle.sqlite_store.specs.FileStore.{state, view, schema_in, reading, recovers}
use Rattle.sqlite_store.specs.Laws.{settled_at, survives_at}
use Rattle.sqlite_store.specs.Listing.{IsOurs}
use Rattle.sqlite.specs.Files.{HoldsDatabase, file_state}
use Rattle.sqlite.specs.Held.{Held, AreDatabases}
use Rattle.sqlite.specs.State.{HasCleanDisk, Survives}
use Rattle.fl_store.specs.Kept.{Kept}
use Rattle.fl_store.specs.Keeping.{Stays}
use Rattle.fl_sql_tables.specs.Stored.{kept_in}
use Rattle.fl_store.specs.declared.keeper.KeeperFault.{KeeperFault}
use Rattle.fl_sql_store.specs.SqlKeeping.{SqlKept, held_in}
use Rattle.fl_sql_store.specs.Opening.{OpensAs, OpensTo, RefusesToOpen}
use Rattle.fl_file_store.specs.FileKeeping.{number_of, OpensAgain, StaysShut, Reopens, Mends}
use Rattle.fl_file_store.specs.declared.unmended.Unmended.{Unmended}
use Rattle.fl_file_store.specs.declared.unmended.Unmended.TheVariants.{Unusable, Unopened, Refused, GivenUp}
use Rattle.fl_file_store.specs.declared.file_keeper.FileKeeper.{FileKeeper}
use Rattle.fl_file_store.specs.declared.file_keeper.FileKeeper.TheVariants.{Open, Lost}

-- what the files of a store stand for, as they read now
module _ {D : Type 0} {g : Ghosts D} (it : FileStore D g) (stays : SeenMayStay g) (clean : IsTrue (state it).is_clean) where
  abbrev seen : Image
  seen = image it.pool

  may : (state it).may_leave seen
  may = seen_may_be_left it.pool stays clean

  same_pages : (p q : PageMap) → ∥ Recovers (state it).page_size seen p ∥₁ → ∥ Recovers (state it).page_size seen q ∥₁ → p ≡ q
  same_pages p q a b = pages_from p q a (λ r. pages_from p q b (λ s. recovers_once (state it).page_size seen p q r s))

  abbrev Stands : Type 0
  Stands = (pages : PageMap) × ∥ Recovers (state it).page_size seen pages ∥₁

  once : IsProp Stands
  once a b = Σ_prop_path (λ p. squash₁) (same_pages a.0 b.0 a.1 b.1)

  stands : Stands
  stands = ∥∥₁_elim it.safe once (λ all. let found = all seen may in (found.0, ∣ found.1 ∣₁))

  abbrev stored : Trees
  stored = reading it stands.0

  recovered : recovers it stored
  recovered = (seen, stands.0, may, stands.1, refl)

  holds : IsTrue (view it).is_numbered → AreDatabases (recovers it) → ∥ HoldsDatabase seen stored ∥₁
  holds numbered sound = ∥∥₁_elim it.safe squash₁ (λ all.
      let found = all seen may in
      let schema = sound (reading it found.0) (seen, found.0, may, ∣ found.1 ∣₁, refl) in
      let same = same_pages found.0 stands.0 ∣ found.1 ∣₁ stands.1 in
      ∥∥₁_elim (size_is_allowed it.pool) squash₁ (λ size. ∥∥₁_map found.2 (λ ours. let r : HoldsDatabase seen (reading it found.0) = (
        (state it).page_size,
        size,
        record {
          pages = found.0;
          wanted = schema_in it found.0;
          schema = schema.0;
          found = adopts_of _ seen found.0 found.1;
          reads = refl;
          sound = schema.1;
          ours = subst (λ b. IsOurs (state it).page_size b (schema_in it found.0) found.0) numbered ours;
        },
      ) in subst (λ p. HoldsDatabase seen (reading it p)) same r)))

  -- trees that are found by what the files hold are some that a crash might have left
  pub finds_what_stood : IsTrue (view it).is_numbered → AreDatabases (recovers it) → (trees : Trees)
      → ((db : Trees) → HoldsDatabase seen db → trees ≡ db) → recovers it trees
  finds_what_stood numbered sound trees only =
      subst (recovers it) (sym (∥∥₁_elim (holds numbered sound) (Trees-set _ _) (λ h. only stored h))) recovered

module _ {D : Type 0} {g : Ghosts D} (stays : SeenMayStay g) (c again : Held (FileStore D g)) (it : OpensAgain c again) (clean : HasCleanDisk (file_state again)) where
  abbrev last : FileStore D g
  last = it.given.last

  was_clean : IsTrue (state last).is_clean
  was_clean = clean_is last.pool ∙ ap (λ (p : D × D). are_clean g p.0 p.1) (sym it.given.files_are) ∙ (it.finds clean).honest

  view_clean : IsClean (view last)
  view_clean = no_doubt _ was_clean

  pub honest_before : HasCleanDisk (file_state c)
  honest_before = omega (arith, it.given.quiet.clean, view_clean)

  found_before : (db : Trees) → recovers again.store db → recovers c.store db
  found_before db left =
      let is : db ≡ (view again.store).committed = settled_at again.store stays db (it.opened clean).0.is_open left in
      let image_is : image last.pool ≡ seen_image g it.files.log it.files.db = ap (λ (p : D × D). seen_image g p.0 p.1) (sym it.given.files_are) in
      let there : recovers last (view again.store).committed =
      finds_what_stood last stays was_clean (it.given.numbered view_clean) (it.given.sound view_clean) _
      (λ db held. (it.finds clean).holds db (subst (λ i. HoldsDatabase i db) image_is held)) in
      it.given.quiet.outcomes db (subst (recovers last) (sym is) there)

  -- what is found again might have been found before
  pub held_before : (number : ℕ) → Stays (held_in number (file_state c)) (held_in number (file_state again))
  held_before number k h = (k, (h.0, found_before h.0 h.1, h.2), refl)

-- what leaves no more than another, and was not lied to, leaves something that the other left, which was not lied to then
pub clean_before : {D : Type 0} {g : Ghosts D} → SeenMayStay g → (number : ℕ) (a b : Held (FileStore D g))
    → Stays (held_in number (file_state a)) (held_in number (file_state b)) → HasCleanDisk (file_state b) → HasCleanDisk (file_state a)
clean_before stays number a b same clean = no_doubt _ (∥∥₁_elim (survives_at b.store stays clean) (Bool-set _ _) (λ some.
    let before = same (kept_in number some.0) (some.0, some.1, refl) in
    clean_if_left a.store.pool before.1.1.0 before.1.1.2))

pub stays_then : (old mid new : Kept → Type 0) → Stays old mid → Stays mid new → Stays old new
stays_then old mid new f h k at = let m = h k at in let b = f m.0 m.1 in (b.0, b.1, m.2 ∙ b.2)

module _ {D : Type 0} {g : Ghosts D} (old new : SqlKept (FileStore D g)) (again : Held (FileStore D g)) (n : ℕ) (was : n ≡ old.number) (is : new.number ≡ n) (it : OpensAgain old.conn again) where
  pub trusted_no_further : SeenMayStay g → (HasCleanDisk (file_state new.conn) → Stays (held_in n (file_state again)) (held_in n (file_state new.conn)))
      → HasCleanDisk (file_state new.conn)
      → HasCleanDisk (file_state old.conn) × Stays (held_in old.number (file_state old.conn)) (held_in new.number (file_state new.conn))
  trusted_no_further stays held clean =
      let found = clean_before stays n again new.conn (held clean) clean in
      let all : Stays (held_in n (file_state old.conn)) (held_in n (file_state new.conn)) =
      stays_then (held_in n (file_state old.conn)) (held_in n (file_state again)) (held_in n (file_state new.conn)) (held_before stays old.conn again it found n) (held clean) in (
        honest_before stays old.conn again it found,
        subst (λ m. Stays (held_in old.number (file_state old.conn)) (held_in m (file_state new.conn))) (sym is)
            (subst (λ m. Stays (held_in m (file_state old.conn)) (held_in n (file_state new.conn))) was all),
      )

  abbrev Leaves : ℕ → Type 0
  Leaves m = Survives (file_state again) (file_state new.conn) (OpensTo m (file_state again))

  pub is_mended : new.is_broken ≡ false → Leaves n → (HasCleanDisk (file_state new.conn) → OpensAs n (file_state again) (file_state new.conn)) → Reopens old (Open new) (Ok tt)
  is_mended sound leaves opens = (
    new,
    refl,
    record {
      again = again;
      found = it;
      number = is ∙ was;
      sound = sound;
      leaves = subst Leaves was leaves;
      opens = subst (λ m. HasCleanDisk (file_state new.conn) → OpensAs m (file_state again) (file_state new.conn)) was opens;
    },
  )

  pub is_refused : (fault : KeeperFault) → new.is_broken ≡ true → Leaves n → (HasCleanDisk (file_state new.conn) → RefusesToOpen n (file_state again) (file_state new.conn) fault)
      → Reopens old (Open new) (Err (Refused fault))
  is_refused fault broken leaves refuses = (
    new,
    refl,
    record {
      again = again;
      found = it;
      number = is ∙ was;
      broken = broken;
      leaves = subst Leaves was leaves;
      refuses = subst (λ m. HasCleanDisk (file_state new.conn) → RefusesToOpen m (file_state again) (file_state new.conn) fault) was refuses;
    },
  )

module _ {D : Type 0} {g : Ghosts D} where
  pub is_lost : (old : SqlKept (FileStore D g)) (n : ℕ) (why : Unmended) → n ≡ old.number → StaysShut old.conn why → Reopens old (Lost n) (Err why)
  is_lost old n Unusable is h = (ap Lost is, h)
  is_lost old n (Unopened error) is h = (ap Lost is, h)
  is_lost old n (Refused fault) is h = absurd h
  is_lost old n GivenUp is h = absurd h

  pub same_number : (old new : FileKeeper D g) (result : Result (Unit {0}) Unmended) → Mends old new result → number_of new ≡ number_of old
  same_number (Open old) new (Ok done) h = ap number_of h.1 ∙ h.2.number
  same_number (Open old) new (Err (Refused fault)) h = ap number_of h.1 ∙ h.2.number
  same_number (Open old) new (Err Unusable) h = ap number_of h.0
  same_number (Open old) new (Err (Unopened error)) h = ap number_of h.0
  same_number (Open old) new (Err GivenUp) h = absurd h
  same_number (Lost n) new result h = ap number_of h.0

-- whether both may be used
pub both_usable : (b x y : Bool) → b ≡ (x && y) → b ≡ true → IsTrue x × IsTrue y
both_usable true true true e n = (refl, refl)
both_usable true true false e n = absurd (cc)
both_usable true false y e n = absurd (cc)
both_usable false x y e n = absurd (cc)

pub not_both : (b x y : Bool) → b ≡ (x && y) → b ≡ false → ¬ (IsTrue x × IsTrue y)
not_both true x y e n h = absurd (cc)
not_both false true true e n h = absurd (cc)
not_both false true false e n h = absurd (let never = h.1 in cc)
not_both false false y e n h = absurd (let never = h.0 in cc)
