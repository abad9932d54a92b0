-- Lines that wait for the end of their batch.
use Rattle.std.specs.Prelude.{◌≡◌, ◌≢◌, ◌≤◌, ◌++◌, ◌∷◌, [], ℕ, List, count_by, is_some, length, refl}
use Rattle.std.specs.Prelude.{vec_capacity}
use Rattle.std.specs.Coded.{Coded, code_by, coded×, coded_list, coded_option, coded_ℕ}
use Rattle.std.specs.declared.option.Option.{Option}
use Rattle.fl_jobs.specs.contracts.job.Job as job_row
use Rattle.fl_jobs.specs.declared.job.Job.{Job}
use Rattle.fl_crew_turns.specs.declared.held.Batch.{Batch}

-- the jobs of a batch that has not ended, in the order of their lines, and of each the alias that
-- it is to set, if it is to set one
pub record HeldJobs : Type 0 where
  pub node : ℕ
  pub jobs : List Job
  pub aliases : List (Option (List ℕ))

-- at most 256 wait, each with an alias or none
pub record IsBatch (held : HeldJobs) : Type 0 where
  pub few : length held.jobs ≤ 256
  pub each : length held.aliases ≡ length held.jobs

-- they are stored as the tuple of their fields
abbrev pub coded_held : Coded HeldJobs
coded_held =
    code_by (ℕ × (List Job × List (Option (List ℕ))))
    (coded× coded_ℕ (coded× (coded_list (job_row.the_row).coded)
    (coded_list (coded_option (coded_list coded_ℕ)))))
    (λ held. (held.node, (held.jobs, held.aliases)))
    (λ t. record { node = t.0; jobs = t.1.0; aliases = t.1.1 })
    (λ _. refl)

-- the lines as the program has them
abbrev pub held_jobs : Batch → HeldJobs
held_jobs batch =
    record { node = batch.node; jobs = batch.jobs.items; aliases = batch.aliases.items }

-- once some line waits, there is room for all that may
abbrev pub HasRoom : Batch → Type 0
HasRoom batch =
    batch.jobs.items ≢ [] → (256 ≤ vec_capacity batch.jobs) × (256 ≤ vec_capacity batch.aliases)

-- no line waits
abbrev pub none_held : HeldJobs
none_held = record { node = 1; jobs = []; aliases = [] }

-- one more waits, which is of this node
abbrev pub with_job : HeldJobs → ℕ → Job → Option (List ℕ) → HeldJobs
with_job held node job alias =
    record { node = node; jobs = held.jobs ++ job ∷ []; aliases = held.aliases ++ alias ∷ [] }

-- how many of these are to be set
abbrev pub count_set : List (Option (List ℕ)) → ℕ
count_set aliases = count_by is_some aliases
