-- Jobs that take no memory.
use Rattle.fl_jobs.specs.declared.job.Job.{Job}
use Rattle.fl_jobs.specs.declared.job.Job.TheVariants.{Proc, By, Member, Arrive}
use Rattle.fl_jobs.specs.declared.job.Act.{Act}
use Rattle.fl_jobs.specs.declared.job.Act.TheVariants.{Order, Relabel, Ask, Spawn, Exit, Drop, Enter, Emit}
use Rattle.fl_jobs.specs.declared.job.Act.TheVariants as acts
use Rattle.fl_jobs.specs.declared.job.Mail.{Mail}
use Rattle.fl_jobs.specs.declared.job.Mail.TheVariants.{Open, Tune, Close, Send, Take}

abbrev pub IsFrugalMail : Mail → Type 0
IsFrugalMail (Open mode labels) = ⊥
IsFrugalMail (Tune endpoint labels) = Unit {0}
IsFrugalMail (Close endpoint) = Unit {0}
IsFrugalMail (Send from receiver to message) = ⊥
IsFrugalMail Take = Unit {0}

abbrev pub IsFrugalAct : Act → Type 0
IsFrugalAct (Order order) = ⊥
IsFrugalAct (Relabel side label) = Unit {0}
IsFrugalAct (Ask c) = Unit {0}
IsFrugalAct (Spawn caps) = ⊥
IsFrugalAct Exit = Unit {0}
IsFrugalAct (Drop c) = Unit {0}
IsFrugalAct (Enter login secret) = ⊥
IsFrugalAct (Emit bytes) = Unit {0}
IsFrugalAct (acts.Mail mail) = IsFrugalMail mail

-- a question, a label, what is dropped, tuned, closed, taken or let out, and an end
abbrev pub IsFrugal : Job → Type 0
IsFrugal Proc = ⊥
IsFrugal (By pid act) = IsFrugalAct act
IsFrugal (Member root c) = Unit {0}
IsFrugal (Arrive d) = ⊥
