-- Whether a line names an alias, and what the aliases of a batch stand for once it has ended.
use Rattle.std.specs.Prelude.{◌≡◌, ◌≢◌, ◌≤◌, ◌++◌, ◌∷◌, [], ℕ, List, length}
use Rattle.std.specs.List.{Contains}
use Rattle.std.specs.declared.option.Option.{Option}
use Rattle.std.specs.declared.option.Option.TheVariants.{Some}
use Rattle.fl_aliases.specs.Expansion.{NoLetterFirst}
use Rattle.fl_aliases.specs.Table.{Table}
use Rattle.fl_system.specs.declared.reply.Reply.{Reply}
use Rattle.fl_calls.specs.Answer.{replied}
use Rattle.fl_turns.specs.Answer.{said}
use Rattle.fl_turns.specs.Naming.{made_by, renamed}
use Rattle.fl_crew_turns.specs.Held.{HeldJobs}

-- the alias stands at the front of the text, with no letter behind it
pub record BeginsWith (alias text : List ℕ) : Type 0 where
  pub rest : List ℕ
  pub cut : text ≡ alias ++ rest
  pub whole : NoLetterFirst rest

-- one of the aliases does
pub record BeginsWithOne (aliases : List (Option (List ℕ))) (text : List ℕ) : Type 0 where
  pub alias : List ℕ
  pub listed : Contains aliases (Some alias)
  pub begins : BeginsWith alias text

-- one of the aliases stands in the text, as `$x`, with no letter behind it
pub record IsNamedIn (aliases : List (Option (List ℕ))) (text : List ℕ) : Type 0 where
  pub front : List ℕ
  pub behind : List ℕ
  pub cut : text ≡ front ++ 36 ∷ behind
  pub begins : BeginsWithOne aliases behind

-- the line, which is not too long, names an alias that a line before it is to set
pub record NamesHeld (held : HeldJobs) (line : List ℕ) : Type 0 where
  pub some : held.jobs ≢ []
  pub short : length line ≤ 20000
  pub named : IsNamedIn held.aliases line

-- each alias stands for what its line made, if it made something
abbrev pub named_all : Table → List (Option (List ℕ)) → List Reply → Table
named_all table (alias ∷ aliases) (reply ∷ replies) =
    named_all (renamed table alias (made_by (said (replied reply)))) aliases replies
named_all table [] replies = table
named_all table (alias ∷ aliases) [] = table
