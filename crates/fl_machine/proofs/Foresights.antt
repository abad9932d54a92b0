-- What is responded where something is foretold.
use Rattle.std.proofs.Common.{◌≡◌, ◌⊎◌, inl, inr, Bool, true, false, List, Result, Ok, Err}
use Rattle.fl_labels.specs.Cap.{cap_cmp}
use Rattle.fl_labels.specs.SetBy.{SetBy}
use Rattle.fl_labels.specs.declared.cap.Cap.{Cap}
use Rattle.fl_jobs.specs.declared.answer.Refusal.{Refusal}
use Rattle.fl_jobs.specs.declared.answer.Reply.{Reply}
use Rattle.fl_jobs.specs.declared.job.Job.{Job}
use Rattle.fl_seal.specs.declared.seal.Key.{Key}
use Rattle.fl_node.specs.Foresight.{AreWantingAt, CouldAt, IsBehind, WantsAt}
use Rattle.fl_system.specs.State.{NodeState}
use Rattle.fl_calls.specs.Completing.{starved}
use Rattle.fl_machine_turns.specs.Answer.{Answer, starved_line}
use Rattle.fl_machine_turns.specs.Foreseeing.{FindsWanting, Foretells, foretold, is_past_mending}
use Rattle.fl_machine.specs.Shown.{Shows, foretold_response, status_said}
use Rattle.fl_machine.specs.parts.Responding.{ShowsOne}
use Rattle.fl_machine.specs.declared.response.Response.TheVariants as response
use Rattle.fl_machine.proofs.Statuses.{no_three}

shows_foretold : {keys : List Key} {n : NodeState} (result : Result Reply Refusal)
    → Shows keys n (foretold_response result) (foretold result)
shows_foretold (Ok reply) = Shows.replied
shows_foretold (Err refusal) = Shows.replied

is_quiet : (result : Result Reply Refusal) → status_said (foretold_response result) ≡ 3 → ⊥
is_quiet (Ok reply) three = no_three three
is_quiet (Err refusal) three = no_three three

shows_one : {keys : List Key} {n : NodeState} {these : Answer → Type 0}
    (result : Result Reply Refusal) → these (foretold result)
    → ShowsOne keys n these (foretold_response result)
shows_one result is = record {
  answer = foretold result;
  shows = shows_foretold result;
  is = is;
  quiet = is_quiet result;
}

-- there is no memory, and that is told
starves_one : {keys : List Key} {n : NodeState} {these : Answer → Type 0} → these starved_line
    → ShowsOne keys n these (response.Reply starved)
starves_one is = record {
  answer = starved_line;
  shows = Shows.replied;
  is = is;
  quiet = no_three;
}

module _ {keys : List Key} {n : NodeState} {guards : Bool} {job : Job} where
  pub no_look : IsBehind n 1 → ShowsOne keys n (Foretells guards n job) (response.Reply starved)
  no_look behind = starves_one (Foretells.no_room behind)

  pub finds_no_look : IsBehind n 1
      → ShowsOne keys n (FindsWanting guards n job) (response.Reply starved)
  finds_no_look behind = starves_one (FindsWanting.behind behind)

  module _ (result : Result Reply Refusal) (could : CouldAt guards n job result) where
    -- what it would be answered
    pub foretells : ShowsOne keys n (Foretells guards n job) (foretold_response result)
    foretells = shows_one result (Foretells.told could)

    -- why no capability mends it
    pub refuses : is_past_mending result ≡ true
        → ShowsOne keys n (FindsWanting guards n job) (foretold_response result)
    refuses past = shows_one result (FindsWanting.refused could past)

    -- what is wanting
    pub finds : is_past_mending result ≡ false → (wanting : SetBy cap_cmp)
        → AreWantingAt guards n job wanting
        → ShowsOne keys n (FindsWanting guards n job) (response.Wanting wanting)
    finds mended wanting are = record {
      answer = _;
      shows = Shows.wanting;
      is = FindsWanting.found could mended are;
      quiet = no_three;
    }

    -- or that there is no room for it
    pub finds_no_room : is_past_mending result ≡ false
        → (IsBehind n 1 ⊎ ((cap : Cap) × WantsAt guards n job cap))
        → ShowsOne keys n (FindsWanting guards n job) (response.Reply starved)
    finds_no_room mended (inl behind) = finds_no_look behind
    finds_no_room mended (inr (cap, wants)) = starves_one (FindsWanting.no_room cap could mended wants)
