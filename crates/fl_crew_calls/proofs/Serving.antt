-- A batch of the crew of a node, by the entries that hold the places of crews.
use Rattle.std.proofs.Common.{◌≡◌, ◌∙◌, ◌<◌, ◌+◌, ◌++◌, ◌∷◌, [], inl, inr, refl, sym, ap, subst, arith, ℕ, false, true, length, length-append, List, Option, None, Some, Result, Ok, Err, nat_cmp}
use Rattle.std.specs.BTreeMap.{is_at}
use Rattle.std.specs.Map.{lookup, set_value}
use Rattle.fl_dealing.specs.declared.entry.Entry.{Entry}
use Rattle.fl_jobs.specs.declared.answer.Refusal.TheVariants.{Memory}
use Rattle.fl_jobs.specs.declared.job.Job.{Job}
use Rattle.fl_store.specs.Custody.{Custody}
use Rattle.fl_system.specs.declared.answer.Fault.{Fault}
use Rattle.fl_system.specs.declared.answer.Fault.TheVariants.{Refused, Stopped}
use Rattle.fl_system.specs.declared.reply.Reply.{Reply}
use Rattle.fl_system.specs.declared.reply.Reply.TheVariants.{Refused as IsRefused}
use Rattle.fl_wire.specs.declared.packet.Packet.{Packet}
use Rattle.fl_workers.specs.Batches.{IsStill, IsUnbegun}
use Rattle.fl_workers.specs.Over.{CrewOver}
use Rattle.fl_workers.specs.declared.fault.CrewFault.{CrewFault}
use Rattle.fl_workers.specs.declared.fault.CrewFault.TheVariants as NotBegun
use Rattle.fl_crew_calls.specs.Asking.{Comes, is_window}
use Rattle.fl_crew_calls.specs.Batches.{IsServedBy, IsUnbegunFor, ServesBatch}
use Rattle.fl_crew_calls.specs.Over.{CrewsOver, with_crew, with_sent}
use Rattle.fl_crew_calls.specs.Told.{all_sent, replies_behind}
use Rattle.fl_crew_calls.specs.laws.Replies.{replied_each}
use Rattle.fl_crew_calls.proofs.Maps.{held, put_through_place, seen}

module _ {K M : Type 0} (custody : Custody K) {maker : M} {workers : ℕ}
    (es : List (ℕ × Option (CrewOver K))) {sent : List Packet} (old : CrewsOver K M)
    (is : seen maker workers es sent ≡ old) (number : ℕ) (jobs : List Job) (packets : List Packet) where
  -- there was no room, and nothing was done
  pub not_begun : {sent' : List Packet} → sent' ≡ sent
      → ServesBatch custody old number jobs packets (Err (Refused Memory)) (seen maker workers es sent')
  not_begun kept =
      subst (ServesBatch custody old number jobs packets (Err (Refused Memory)))
      (sym (ap (λ s. seen maker workers es s) kept ∙ is)) ServesBatch.no_room

  -- there is no crew
  pub no_crew_there : {fs : List (ℕ × Option (CrewOver K))} {sent' : List Packet} → fs ≡ es → sent' ≡ sent
      → lookup (is_at (nat_cmp number)) es ≡ None
      → ServesBatch custody old number jobs packets (Err Stopped) (seen maker workers fs sent')
  no_crew_there {fs} {sent'} same kept none =
      subst (ServesBatch custody old number jobs packets (Err Stopped))
      (sym (ap (λ l. seen maker workers l sent') same ∙ ap (λ s. seen maker workers es s) kept ∙ is))
      (ServesBatch.no_crew (sym (held _ _ es _ old is number) ∙ none))

  module _ {fs : List (ℕ × Option (CrewOver K))} {sent' : List Packet} (crew crew' : CrewOver K)
      (there : lookup (is_at (nat_cmp number)) es ≡ Some (Some crew))
      (written : fs ≡ set_value (is_at (nat_cmp number)) es (Some crew')) where
    -- the crew is another one, and these were sent too
    seen_so : (more : List Packet) → sent' ≡ sent ++ more
        → seen maker workers fs sent' ≡ with_sent (with_crew old number crew') more
    seen_so more kept = λ i. record {
      maker = (ap (λ (c : CrewsOver K M). c.maker) is) i;
      workers = (ap (λ (c : CrewsOver K M). c.workers) is) i;
      crews = (put_through_place _ _ es _ old is fs number crew crew' there written) i;
      sent = (kept ∙ ap (λ (c : CrewsOver K M). c.sent ++ more) is) i;
    }

    seen_same : sent' ≡ sent → seen maker workers fs sent' ≡ with_crew old number crew'
    seen_same kept = λ i. record {
      maker = (ap (λ (c : CrewsOver K M). c.maker) is) i;
      workers = (ap (λ (c : CrewsOver K M). c.workers) is) i;
      crews = (put_through_place _ _ es _ old is fs number crew crew' there written) i;
      sent = (kept ∙ ap (λ (c : CrewsOver K M). c.sent) is) i;
    }

    pub serves : (entries : List Entry) (replies : List Reply)
        → IsServedBy custody crew crew' jobs packets entries → sent' ≡ sent ++ all_sent entries
        → replies ≡ replies_behind sent entries
        → ServesBatch custody old number jobs packets (Ok replies) (seen maker workers fs sent')
    serves entries replies served kept told =
        subst (λ r. ServesBatch custody old number jobs packets (Ok r) (seen maker workers fs sent'))
        (sym (told ∙ ap (λ (c : CrewsOver K M). replies_behind c.sent entries) is))
        (subst (ServesBatch custody old number jobs packets (Ok (replies_behind old.sent entries)))
        (sym (seen_so (all_sent entries) kept))
        (ServesBatch.served (sym (held _ _ es _ old is number) ∙ there) served))

    pub unbegun : (fault : Fault) → IsUnbegunFor crew fault → IsUnbegun crew crew'
        → IsStill crew crew' → sent' ≡ sent
        → ServesBatch custody old number jobs packets (Err fault) (seen maker workers fs sent')
    unbegun fault why left still kept =
        subst (ServesBatch custody old number jobs packets (Err fault)) (sym (seen_same kept))
        (ServesBatch.unbegun (sym (held _ _ es _ old is number) ∙ there) why left still)

-- why none was begun
pub why_unbegun : {K V : Type 0} (crew : CrewOver K) (fault : CrewFault) (told : Fault)
    → (fault ≡ NotBegun.Stopped → told ≡ Stopped) → (fault ≡ NotBegun.Memory → told ≡ Refused Memory)
    → (◌≡◌ {A = Result V CrewFault} (Err fault) (Err NotBegun.Stopped) → crew.stopped ≡ true)
    → IsUnbegunFor crew told
why_unbegun crew NotBegun.Stopped told stopped memory is = inl (stopped refl, is refl)
why_unbegun crew NotBegun.Memory told stopped memory is = inr (memory refl)

the_only : (front : List Reply) (reply : Reply) → length (front ++ reply ∷ []) ≡ 1 → front ≡ []
the_only [] reply one = refl
the_only (r ∷ rs) reply one = absurd (omega (arith, one, length-append rs (reply ∷ [])))

-- a packet that comes is a batch of one
pub comes_one : {K M : Type 0} (custody : Custody K) (old new : CrewsOver K M) (number : ℕ)
    (packet : Packet) {jobs : List Job} {packets : List Packet} {replies : List Reply} (front : List Reply) (reply : Reply)
    → is_window packet ≡ false → jobs ≡ [] → packets ≡ packet ∷ []
    → ServesBatch custody old number jobs packets (Ok replies) new → replies ≡ front ++ reply ∷ []
    → Comes custody old number packet reply new
comes_one custody old new number packet {jobs} {packets} {replies} front reply other none one serves cut =
    let so : ServesBatch custody old number [] (packet ∷ []) (Ok replies) new =
    subst (λ ps. ServesBatch custody old number [] ps (Ok replies) new) one
    (subst (λ js. ServesBatch custody old number js packets (Ok replies) new) none serves) in
    let alone : replies ≡ reply ∷ [] = cut ∙ ap (λ f. f ++ reply ∷ [])
    (the_only front reply (sym (ap length cut) ∙ replied_each [] (packet ∷ []) replies so)) in
    Comes.batch other (subst (λ rs. ServesBatch custody old number [] (packet ∷ []) (Ok rs) new) alone so)

pub comes_unreplied : {K M : Type 0} (custody : Custody K) (old new : CrewsOver K M) (number : ℕ)
    (packet : Packet) {jobs : List Job} {packets : List Packet} {replies : List Reply} (reply : Reply)
    → jobs ≡ [] → packets ≡ packet ∷ []
    → ServesBatch custody old number jobs packets (Ok replies) new → (0 < length replies → ⊥)
    → Comes custody old number packet reply new
comes_unreplied custody old new number packet {jobs} {packets} {replies} reply none one serves no_reply =
    absurd (no_reply (omega (arith, replied_each jobs packets replies serves, ap length one)))

pub comes_refused : {K M : Type 0} (custody : Custody K) (old new : CrewsOver K M) (number : ℕ)
    (packet : Packet) {jobs : List Job} {packets : List Packet} (fault : Fault)
    → is_window packet ≡ false → jobs ≡ [] → packets ≡ packet ∷ []
    → ServesBatch custody old number jobs packets (Err fault) new
    → Comes custody old number packet (IsRefused fault) new
comes_refused custody old new number packet {jobs} {packets} fault other none one serves =
    Comes.batch other (subst (λ ps. ServesBatch custody old number [] ps (Err fault) new) one
    (subst (λ js. ServesBatch custody old number js packets (Err fault) new) none serves))
