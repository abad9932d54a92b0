-- What a line's alias is to stand for.
use Rattle.std.specs.Prelude.{◌≡◌, ◌≢◌, ◌++◌, ◌∷◌, [], ℕ, Bool, true, false, List, Option, None, Some, IsSome, is_some, if◌then◌else◌}
use Rattle.std.specs.Map.{keys_of}
use Rattle.fl_jobs.specs.declared.answer.Reply.TheVariants.{Made, Opened}
use Rattle.fl_aliases.specs.Table.{Table, target_of, with_alias}
use Rattle.fl_aliases.specs.declared.target.Target.{Target}
use Rattle.fl_aliases.specs.declared.target.Target.TheVariants.{Process, Operation, Endpoint}
use Rattle.fl_system.specs.declared.reply.Reply.TheVariants.{Job, Published}
use Rattle.fl_calls.specs.Answer.{replied}
use Rattle.fl_turns.specs.Answer.{Answer, said}

-- the process, the endpoint or the operation that the answer says was made
abbrev pub made_by : Answer → Option Target
made_by (said (replied (Job (Made pid)))) = Some (Process pid)
made_by (said (replied (Job (Opened endpoint)))) = Some (Endpoint endpoint)
made_by (said (replied (Published name))) = Some (Operation name)
made_by answer = None

-- where there is an alias, and something was made, the alias stands for that; else the table stays
abbrev pub renamed : Table → Option (List ℕ) → Option Target → Table
renamed table None made = table
renamed table (Some alias) None = table
renamed table (Some alias) (Some target) = with_alias table alias target

-- the alias is set: as a new one, the last, which stands for anything, or in its place, as it was
pub data IsPlaced (before : Table) (alias : List ℕ) : Bool → Table → Type 0 where
  as_last : (target : Target) → target_of before alias ≡ None →
      IsPlaced before alias true (before ++ (alias, target) ∷ [])
  in_place : IsSome (target_of before alias) → IsPlaced before alias false before

-- the alias stands for this, and the others for what they did; those that were set keep their order, and a new
-- one is the last
pub record SetsAlias (old : Table) (alias : List ℕ) (target : Target) (new : Table) : Type 0 where
  pub set : target_of new alias ≡ Some target
  pub others : (other : List ℕ) → other ≢ alias → target_of new other ≡ target_of old other
  pub order : keys_of new ≡ (if is_some (target_of old alias) then keys_of old else (keys_of old ++ alias ∷ []))
