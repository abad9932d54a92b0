-- What the work of a process with its mailbox owes.
use Rattle.std.proofs.Common.{◌≡◌, ◌∙◌, inr, refl, sym, ap, subst, true, Option, Result, Ok, Err, None, Some}
use Rattle.std.specs.Prelude.{not}
use Rattle.std.specs.Result.{IsErr, IsErrAnd}
use Rattle.std.specs.FinMap as map
use Rattle.fl_labels.specs.Cap.{cap_cmp}
use Rattle.fl_labels.specs.SetBy.{SetBy, In}
use Rattle.fl_labels.specs.declared.endpoint.Endpoint.{Endpoint}
use Rattle.fl_labels.specs.declared.pid.Pid.{Pid}
use Rattle.fl_ops.specs.Registry.{Registry, InEffect}
use Rattle.fl_rules.specs.Endpoint.{writes}
use Rattle.fl_labels.specs.Caps.{Caps}
use Rattle.fl_rules.specs.declared.endpoint.Mode.{Mode}
use Rattle.fl_rules.specs.declared.labels.Labels.{Labels}
use Rattle.fl_message.specs.declared.message.Data.{Data}
use Rattle.fl_message.specs.declared.message.Message.{Message}
use Rattle.fl_mailbox.specs.Mailbox.{oldest, without_oldest}
use Rattle.fl_mailbox.specs.Endpoints.{Table, IsLeastFree}
use Rattle.fl_mailbox.specs.declared.mailbox.Mailbox.{Mailbox}
use Rattle.fl_mailbox.specs.declared.endpoints.OpenEndpoint.{OpenEndpoint}
use Rattle.fl_jobs.specs.Given.{labels_of}
use Rattle.fl_jobs.specs.declared.job.Mail as mailbox
use Rattle.fl_jobs.specs.declared.job.Mail.TheVariants.{Open, Tune, Close, Send, Take}
use Rattle.fl_jobs.specs.declared.job.GivenLabels.{GivenLabels}
use Rattle.fl_jobs.specs.declared.answer.Refusal.{Refusal}
use Rattle.fl_jobs.specs.declared.answer.Refusal.TheVariants.{NoEndpoint, NotWritable, LabelTooLong, Memory}
use Rattle.fl_jobs.specs.declared.answer.Reply.TheVariants.{Done, Opened as Answers_opened}
use Rattle.fl_jobs.specs.declared.answer.Outcome.{Outcome}
use Rattle.fl_bench.specs.Checks.{no_check, refuse_if, with, ◌then◌}
use Rattle.fl_bench.specs.Guards.{grant_check, endpoint_check}
use Rattle.fl_bench.specs.Mailbox.{IsSent, taken, mail_checks}
use Rattle.fl_monitor.specs.parts.Acts.{Closes, Mails}
use Rattle.fl_monitor.specs.parts.Checked.{Checked, open_checks, send_checks, tune_checks}
use Rattle.fl_monitor.proofs.CheckLemmas.{has_failed, has_passed, checks_with, fails_so, fails_without, goes_on_with, passed_on, passes_unless, stops}

-- the labels that are given in a box are those that are in it
pub unboxed : {inner given : GivenLabels} {labels : Option Labels} → inner ≡ given → labels ≡ labels_of inner → labels_of given ≡ labels
unboxed is fits = ap labels_of (sym is) ∙ sym fits

-- ---- an endpoint is closed

module _ (ch : Mailbox) (e : Endpoint) where
  pub none_closed : map.get ch.endpoints e ≡ None → (f : Refusal) → f ≡ NoEndpoint e → (q : Result Outcome Refusal) → IsErr q × IsErrAnd q (λ g. g ≡ f) → Closes ch e q ch
  none_closed none f is q s = subst (λ q. Closes ch e q ch) (sym (passed_on q f s)) (subst (λ f. Closes ch e (Err f) ch) (sym is) (Closes.never none))

  pub one_closed : (opened : OpenEndpoint) → map.get ch.endpoints e ≡ Some opened → (table : Table) → table ≡ map.remove ch.endpoints e → Closes ch e (Ok (Outcome.Reply Done)) (record ch { endpoints = table })
  one_closed opened there table removed = subst (λ m. Closes ch e (Ok (Outcome.Reply Done)) (record ch { endpoints = m })) (sym removed) (Closes.closed there)

-- ---- what is checked

-- an endpoint that a message leaves
module _ (E : Caps) (table : Table) (from : Endpoint) (caps : SetBy cap_cmp) (opened : OpenEndpoint) (there : map.get table from ≡ Some opened) (told : true ≡ writes opened.mode) where
  pub ungranted : {r : Result (Unit {0}) Refusal} → Checked (grant_check E caps) r → (f : Refusal) → r ≡ Err f → send_checks E table from caps (Some f)
  ungranted checked f is =
      goes_on_with (map.get table from) (NoEndpoint from) (λ opened. refuse_if (not (writes opened.mode)) (NotWritable from) then grant_check E caps) opened there (Some f)
      (inr (passes_unless (NotWritable from) (writes opened.mode) true told refl, has_failed checked f is))

module _ (V : Registry) (owned : SetBy cap_cmp) (process : Labels) where
  -- what is in effect
  abbrev E : Caps
  E = InEffect V (In owned)

  -- an endpoint of this mode and these labels
  abbrev pub EndpointChecked : Endpoint → Mode → Labels → Result (Unit {0}) Refusal → Type 0
  EndpointChecked e mode labels = Checked (endpoint_check E process e mode labels)

  module _ (table : Table) where
    -- one that is opened
    pub one_unsafe : (mode : Mode) (labels : Labels) (e : Endpoint) → IsLeastFree table (Some e) → {r : Result (Unit {0}) Refusal} → EndpointChecked e mode labels r → (f : Refusal) → r ≡ Err f
        → open_checks E process table mode labels (Some f)
    one_unsafe mode labels e least checked f is = (Some e, least, has_failed checked f is)

    -- one that gets other labels
    pub none_tuned : (e : Endpoint) (labels : Labels) → map.get table e ≡ None → (f : Refusal) → f ≡ NoEndpoint e → (q : Result (Unit {0}) Refusal) → IsErr q × IsErrAnd q (λ g. g ≡ f) → Checked (tune_checks E process table e labels) q
    none_tuned e labels none f is q s = stops (tune_checks E process table e labels) f (fails_so (map.get table e) f (NoEndpoint e) (λ opened. endpoint_check E process e opened.mode labels) is none) q s

  -- ---- by what is asked for

  module _ (ch : Mailbox) where
    module _ (given : GivenLabels) where
      pub opens_too_long : (mode : Mode) → labels_of given ≡ None → (f : Refusal) → f ≡ LabelTooLong → mail_checks E process ch (Open mode given) (Some f)
      opens_too_long mode none f is = fails_so (labels_of given) f LabelTooLong (λ labels. open_checks E process ch.endpoints mode labels) is none

      pub tunes_too_long : (e : Endpoint) → labels_of given ≡ None → (f : Refusal) → f ≡ LabelTooLong → mail_checks E process ch (Tune e given) (Some f)
      tunes_too_long e none f is = fails_so (labels_of given) f LabelTooLong (λ labels. tune_checks E process ch.endpoints e labels) is none

      module _ (labels : Labels) (fits : labels_of given ≡ Some labels) where
        pub opens_as : (mode : Mode) (verdict : Option Refusal) → open_checks E process ch.endpoints mode labels verdict → mail_checks E process ch (Open mode given) verdict
        opens_as mode verdict h = goes_on_with (labels_of given) LabelTooLong (λ labels. open_checks E process ch.endpoints mode labels) labels fits verdict h

        pub tunes_as : (e : Endpoint) {r : Result (Unit {0}) Refusal} → Checked (tune_checks E process ch.endpoints e labels) r → Checked (mail_checks E process ch (Tune e given)) r
        tunes_as e h = checks_with (labels_of given) LabelTooLong (λ labels. tune_checks E process ch.endpoints e labels) labels fits h

    pub closes_nowhere : (e : Endpoint) → map.get ch.endpoints e ≡ None → (f : Refusal) → f ≡ NoEndpoint e → mail_checks E process ch (Close e) (Some f)
    closes_nowhere e none f is = fails_so (map.get ch.endpoints e) f (NoEndpoint e) (λ _. no_check) is none

    pub closes : (e : Endpoint) (opened : OpenEndpoint) → map.get ch.endpoints e ≡ Some opened → mail_checks E process ch (Close e) None
    closes e opened there = goes_on_with (map.get ch.endpoints e) (NoEndpoint e) (λ _. no_check) opened there None refl

    -- what is asked for, by another name
    module _ (mail asked : mailbox.Mail) (is : mail ≡ asked) where
      pub mail_stops : (f : Refusal) → mail_checks E process ch asked (Some f) → (q : Result (Unit {0}) Refusal) → IsErr q × IsErrAnd q (λ g. g ≡ f) → Checked (mail_checks E process ch mail) q
      mail_stops f h q s = subst (λ m. Checked (mail_checks E process ch m) q) (sym is) (stops (mail_checks E process ch asked) f h q s)

      pub mail_passes : mail_checks E process ch asked None → Checked (mail_checks E process ch mail) (Ok tt)
      mail_passes h = subst (λ m. Checked (mail_checks E process ch m) (Ok tt)) (sym is) (Checked.passed h)

  -- ---- what is done

  module _ (pid : Pid) (ch : Mailbox) where
    abbrev IsDone : mailbox.Mail → Result Outcome Refusal → Mailbox → Type 0
    IsDone = Mails V owned pid process ch

    -- a check fails, and is passed on
    pub mail_refused : (mail : mailbox.Mail) (f : Refusal) → mail_checks E process ch mail (Some f) → (q : Result Outcome Refusal) → IsErr q × IsErrAnd q (λ g. g ≡ f) → IsDone mail q ch
    mail_refused mail f h q s = subst (λ q. IsDone mail q ch) (sym (passed_on q f s)) (Mails.failed h)

    -- ---- an endpoint is opened

    module _ (mode : Mode) (given : GivenLabels) where
      pub open_too_long : labels_of given ≡ None → IsDone (Open mode given) (Err LabelTooLong) ch
      open_too_long e = Mails.failed (opens_too_long ch given mode e LabelTooLong refl)

      module _ (labels : Labels) (fits : labels_of given ≡ Some labels) (l : Labels) (is : l ≡ labels) where
        pub open_refused : (f : Refusal) → open_checks E process ch.endpoints mode l (Some f) → (q : Result Outcome Refusal) → IsErr q × IsErrAnd q (λ g. g ≡ f) → IsDone (Open mode given) q ch
        open_refused f h q s = mail_refused (Open mode given) f (opens_as ch given labels fits mode (Some f) (subst (λ l. open_checks E process ch.endpoints mode l (Some f)) is h)) q s

        module _ (e : Endpoint) (least : IsLeastFree ch.endpoints (Some e)) (safe : endpoint_check E process e mode l None) (table : Table) where
          all_pass : mail_checks E process ch (Open mode given) None
          all_pass = opens_as ch given labels fits mode None (Some e, least, subst (λ l. endpoint_check E process e mode l None) is safe)

          -- there is no memory for it
          pub open_starved : table ≡ ch.endpoints → IsDone (Open mode given) (Err Memory) (record ch { endpoints = table })
          open_starved same = subst (λ m. IsDone (Open mode given) (Err Memory) (record ch { endpoints = m })) (sym same) (Mails.no_room all_pass tt)

          pub open_done : table ≡ map.insert ch.endpoints e (record { mode = mode; labels = labels }) → IsDone (Open mode given) (Ok (Outcome.Reply (Answers_opened e))) (record ch { endpoints = table })
          open_done put = Mails.passed all_pass (labels, fits, e, least, refl, ap (λ m. record ch { endpoints = m }) put)

    -- ---- the labels of an endpoint become others

    module _ (e : Endpoint) (given : GivenLabels) where
      pub tune_too_long : labels_of given ≡ None → IsDone (Tune e given) (Err LabelTooLong) ch
      tune_too_long none = Mails.failed (tunes_too_long ch given e none LabelTooLong refl)

      module _ (labels : Labels) (fits : labels_of given ≡ Some labels) (l : Labels) (is : l ≡ labels) {r : Result (Unit {0}) Refusal} (checked : Checked (tune_checks E process ch.endpoints e l) r) where
        tuned : Checked (mail_checks E process ch (Tune e given)) r
        tuned = tunes_as ch given labels fits e (subst (λ l. Checked (tune_checks E process ch.endpoints e l) r) is checked)

        pub tune_refused : (f : Refusal) → r ≡ Err f → (q : Result Outcome Refusal) → IsErr q × IsErrAnd q (λ g. g ≡ f) → IsDone (Tune e given) q ch
        tune_refused f h q s = mail_refused (Tune e given) f (has_failed tuned f h) q s

        module _ (u : Unit {0}) (passes : r ≡ Ok u) (table : Table) (put : (opened : OpenEndpoint) → map.get ch.endpoints e ≡ Some opened → table ≡ map.insert ch.endpoints e (record opened { labels = labels })) where
          tunes_one : (found : Option OpenEndpoint) → map.get ch.endpoints e ≡ found → with found (NoEndpoint e) (λ opened. endpoint_check E process e opened.mode l) None → IsDone (Tune e given) (Ok (Outcome.Reply Done)) (record ch { endpoints = table })
          tunes_one None there h = absurd (cc)
          tunes_one (Some opened) there h = Mails.passed (has_passed tuned u passes) (labels, fits, opened, there, refl, ap (λ m. record ch { endpoints = m }) (put opened there))

          pub tune_done : IsDone (Tune e given) (Ok (Outcome.Reply Done)) (record ch { endpoints = table })
          tune_done = tunes_one (map.get ch.endpoints e) refl (has_passed checked u passes)

    -- ---- a message goes

    module _ (from : Endpoint) (receiver : Pid) (to : Endpoint) (message lent : Message) (is : lent ≡ message) where
      goes : (verdict : Option Refusal) → send_checks E ch.endpoints from lent.caps verdict → mail_checks E process ch (Send from receiver to message) verdict
      goes verdict h = subst (λ (m : Message). send_checks E ch.endpoints from m.caps verdict) is h

      pub send_refused : (f : Refusal) → send_checks E ch.endpoints from lent.caps (Some f) → (q : Result Outcome Refusal) → IsErr q × IsErrAnd q (λ g. g ≡ f) → IsDone (Send from receiver to message) q ch
      send_refused f h q s = mail_refused (Send from receiver to message) f (goes (Some f) h) q s

      module _ (opened : OpenEndpoint) (there : map.get ch.endpoints from ≡ Some opened) (may : send_checks E ch.endpoints from lent.caps None) where
        -- there is no memory for its packet
        pub send_starved : IsDone (Send from receiver to message) (Err Memory) ch
        send_starved = Mails.no_room (goes None may) tt

        pub send_done : (d : Data) → IsSent pid from opened.labels receiver to message d → IsDone (Send from receiver to message) (Ok (Outcome.Out d)) ch
        send_done d sent = Mails.passed (goes None may) (opened, there, d, sent, refl, refl)

    -- ---- by what is asked for

    pub close_mails : (work : mailbox.Mail) (e : Endpoint) → work ≡ Close e → {r : Result Outcome Refusal} {after : Mailbox} → Closes ch e r after → IsDone work r after
    close_mails work e is {r} {after} h = subst (λ work. IsDone work r after) (sym is) (closed_so h)
      where
        closed_so : {r : Result Outcome Refusal} {after : Mailbox} → Closes ch e r after → IsDone (Close e) r after
        closed_so (Closes.closed {opened} there) = Mails.passed (goes_on_with (map.get ch.endpoints e) (NoEndpoint e) _ opened there None refl) (refl, refl)
        closed_so (Closes.never none) = Mails.failed (fails_without (map.get ch.endpoints e) (NoEndpoint e) _ none)

    pub take_mails : (work : mailbox.Mail) → work ≡ Take → (outcome : Outcome) → outcome ≡ Outcome.Reply (taken (oldest ch.inbox)) → (after : Mailbox) → after ≡ record ch { inbox = without_oldest ch.inbox } → IsDone work (Ok outcome) after
    take_mails work is outcome answers after leaves = subst (λ work. IsDone work (Ok outcome) after) (sym is) (Mails.passed refl (answers, leaves))
