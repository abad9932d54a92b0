-- What may be noted whichever process asks for it.
use Rattle.std.proofs.Common.{◌≡◌, ◌∙◌, sym, ap, true, false, Ok, Err}
use Rattle.std.proofs.lemmas.Bool.{false≢true}
use Rattle.std.specs.FinMap as map
use Rattle.fl_labels.specs.declared.endpoint.Endpoint.{Endpoint}
use Rattle.fl_jobs.specs.declared.job.Act.{Act}
use Rattle.fl_jobs.specs.declared.job.Act.TheVariants.{Order, Relabel, Ask, Spawn, Exit}
use Rattle.fl_jobs.specs.declared.job.Act.TheVariants.{Drop, Enter, Emit, Mail}
use Rattle.fl_jobs.specs.declared.job.GivenLabels.{GivenLabels}
use Rattle.fl_jobs.specs.declared.job.Mail.TheVariants.{Open, Tune, Close, Send, Take}
use Rattle.fl_bench.specs.Process.{newborn}
use Rattle.fl_bench.specs.declared.process.Process.{Process}
use Rattle.fl_audit.specs.Noted.{tuned_noted, act_noted}

-- a new process has no endpoint to tune
pub none_tuned : (endpoint : Endpoint) (given : GivenLabels) → act_noted newborn (Mail (Tune endpoint given)) ≡ false
none_tuned endpoint given = ap (λ o. tuned_noted o given) (map.get-empty _ endpoint)

-- what is noted of a new one is noted of each
pub of_any : (act : Act) → act_noted newborn act ≡ true → (p : Process) → act_noted p act ≡ true
of_any (Mail (Tune endpoint given)) h p = absurd (false≢true (sym (none_tuned endpoint given) ∙ h))
of_any (Order order) h p = h
of_any (Relabel side (Ok label)) h p = h
of_any (Relabel side (Err long)) h p = h
of_any (Ask c) h p = h
of_any (Spawn caps) h p = h
of_any Exit h p = h
of_any (Drop c) h p = h
of_any (Enter login secret) h p = h
of_any (Emit bytes) h p = h
of_any (Mail (Open mode given)) h p = h
of_any (Mail (Close endpoint)) h p = h
of_any (Mail (Send from receiver to message)) h p = h
of_any (Mail Take) h p = h
