-- What processes are after one of them was shared, or an operation of it is over.
use Rattle.std.proofs.Common.{◌≡◌, sym, ap, ◌∙◌, List, Some, None, Result, Ok, Err, OnErr}
use Rattle.std.specs.FinMap as map
use Rattle.fl_labels.specs.Pid.{pid_cmp}
use Rattle.fl_labels.specs.PidOrder.{pid_total, pid_exact}
use Rattle.fl_labels.specs.declared.cap.Cap.{Cap}
use Rattle.fl_labels.specs.declared.pid.Pid.{Pid}
use Rattle.fl_bench.specs.declared.process.Process.{Process}
use Rattle.fl_jobs.specs.declared.job.Job.{Job}
use Rattle.fl_jobs.specs.declared.job.Job.TheVariants.{Arrive}
use Rattle.fl_message.specs.declared.message.Data.{Data}
use Rattle.fl_bench.specs.Gifts.{receives, settled}
use Rattle.fl_mailbox.specs.laws.Tables.{put_same}

pub on_err : {T E P : Type 0} (r : Result T E) → P → OnErr r P
on_err (Ok x) h = tt
on_err (Err e) h = h

-- old are the processes as they stand in their map, and m those that a clause sees
module _ (old m : map.FinMap pid_cmp Process) (pid : Pid) (held : old ≡ m) where
  pub there : (p : Process) → Some p ≡ map.get old pid → map.get m pid ≡ Some p
  there p e = ap (λ n. map.get n pid) (sym held) ∙ sym e

  pub nobody : None ≡ map.get old pid → map.get m pid ≡ None
  nobody e = ap (λ n. map.get n pid) (sym held) ∙ sym e

  pub put : (p : Process) → map.insert old pid p ≡ map.insert m pid p
  put p = ap (λ n. map.insert n pid p) held

  -- the process that stands there is put back
  pub same_put : (p q : Process) → Some p ≡ map.get old pid → q ≡ p → map.insert old pid q ≡ m
  same_put p q e same =
      put q ∙ ap (map.insert m pid) same ∙ put_same pid_total pid_exact m pid p (there p e)

  pub receives_nobody : (caps : List Cap) → None ≡ map.get old pid
      → old ≡ receives m pid caps (map.get m pid)
  receives_nobody caps none = held ∙ sym (ap (receives m pid caps) (nobody none))

  pub receives_there : (caps : List Cap) (p q : Process) → Some p ≡ map.get old pid
      → q ≡ record p { owned = settled p.owned caps }
      → map.insert old pid q ≡ receives m pid caps (map.get m pid)
  receives_there caps p q e settles =
      put q ∙ ap (map.insert m pid) settles ∙ sym (ap (receives m pid caps) (there p e))

brought : Data → Job → Data
brought other (Arrive d) = d
brought other job = other

-- one message comes by an arrival
pub one_message : (job : Job) (d e : Data) → job ≡ Arrive d → job ≡ Arrive e → d ≡ e
unfolding brought
one_message job d e first second = ap (brought d) (sym first ∙ second)
