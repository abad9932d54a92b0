-- The lines that wait for a batch over crews, as lines of the same script without workers.
use Rattle.std.proofs.Common.{◌≡◌, ◌≢◌, ◌≤◌, ◌<◌, ◌+◌, ◌++◌, ◌∷◌, ◌⊎◌, [], ℕ, List, length}
use Rattle.std.proofs.Common.{Option, Some, None, Ok, append_assoc, append-nil, inl, inr}
use Rattle.std.proofs.Common.{refl, sym, subst, arith}
use Rattle.std.specs.FinMap as fin
use Rattle.fl_aliases.specs.Table.{Table}
use Rattle.fl_calls.specs.Answer.{replied}
use Rattle.fl_calls.specs.Completing.{Completes}
use Rattle.fl_calls.specs.Entering as entering
use Rattle.fl_calls.specs.Entering.{Enters, Openings}
use Rattle.fl_crew_turns.specs.Held.{count_set}
use Rattle.fl_crew_turns.specs.Naming.{IsNamedIn, named_all}
use Rattle.fl_crew_turns.specs.laws.Settling.{count_push, length-renamed}
use Rattle.fl_jobs.specs.declared.job.Job.{Job}
use Rattle.fl_jobs.specs.declared.job.Job.TheVariants.{Proc, By, Member, Arrive}
use Rattle.fl_message.specs.declared.message.Data.{Data}
use Rattle.fl_aliases.specs.Words.{Word, words_of}
use Rattle.fl_script.specs.Grammar.{Spells}
use Rattle.fl_script.specs.Reading.{IsMeaning, WordsSay}
use Rattle.fl_script.specs.declared.line.Line.TheVariants.{Node}
use Rattle.fl_script.specs.declared.reading.Reading.TheVariants as reading
use Rattle.fl_script.specs.declared.request.Request.TheVariants as request
use Rattle.fl_store.specs.Kept.{Kept, raised}
use Rattle.fl_system.specs.declared.reply.Reply.{Reply}
use Rattle.fl_system.specs.declared.reply.Reply.TheVariants as replies
use Rattle.fl_system.specs.Joins.{Joins}
use Rattle.fl_system.specs.Openings.{opened as opened_node}
use Rattle.fl_system.specs.Runs.{Moment, IsRun, end}
use Rattle.fl_system.specs.World.{World, KeptNode}
use Rattle.fl_system.specs.WorldSteps.{IsArrival, IsAt}
use Rattle.fl_system_laws.specs.Goes.{Goes}
use Rattle.fl_system_laws.specs.laws.Going.{moves_goes}
use Rattle.fl_world_laws.specs.laws.Nodes.{Stays, is_replaced, is_still, stays_there, at_key}
use Rattle.fl_turns.specs.Answer.{said}
use Rattle.fl_turns.specs.Leading.{Leads}
use Rattle.fl_turns.specs.Naming.{made_by, renamed}
use Rattle.fl_turns.specs.Run.{Run}
use Rattle.fl_turns.specs.Session.{Session}
use Rattle.fl_turns.specs.Turn.{AnswersLine, Turn, job_at}
use Rattle.fl_turns.specs.laws.Leads.{completes_leads}
use Rattle.fl_one_worker_calls.specs.Worlds.{AreAsked, CompletesAll, jobs_at}
use Rattle.fl_one_worker_scripts.specs.Written.{replied_all}
use Rattle.fl_one_worker_scripts.proofs.Extending.{Extends, extends_then, renamed_extends}
use Rattle.fl_one_worker_scripts.proofs.Readings.{meaning_then}

-- ---- a node stays there

abbrev pub IsThere : World → ℕ → Type 0
IsThere w number = (s : KeptNode) × IsAt w number s

put_there : (w : World) (k : ℕ) (new : KeptNode) (number : ℕ) → IsThere w number
    → (s : KeptNode) × (fin.get (fin.insert w.nodes k new) number ≡ Some s)
put_there w k new number (s, at) = by_stay (stays_there w.nodes k new number s at)
  where
    by_stay : Stays w.nodes k new number s
        → (x : KeptNode) × (fin.get (fin.insert w.nodes k new) number ≡ Some x)
    by_stay (is_replaced is) = (
      new,
      subst (λ j. fin.get (fin.insert w.nodes k new) j ≡ Some new) (sym is)
          (at_key w.nodes k new),
    )
    by_stay (is_still stands) = (s, stands)

goes_there : {w w' : World} → Goes w w' → (number : ℕ) → IsThere w number → IsThere w' number
goes_there Goes.stays number there = there
goes_there (Goes.tells other told at saved) number there = there
goes_there {w} (Goes.calls other sent admitted at does none) number there =
    put_there w other _ number there
goes_there {w} (Goes.joins other may) number there = put_there w other _ number there

run_there : (w : World) (ms : List Moment) → IsRun w ms → (number : ℕ) → IsThere w number
    → IsThere (end w ms) number
run_there w [] run number there = there
run_there w (m ∷ ms) run number there =
    run_there m.after ms run.1 number
    (goes_there (moves_goes w m.move m.reply m.after run.0) number there)

leads_there : (w w' : World) → Leads w w' → (number : ℕ) → IsThere w number → IsThere w' number
leads_there w w' h number there =
    subst (λ v. IsThere v number) h.leads (run_there w h.moments h.is_run number there)

joins_there : {w : World} {k : ℕ} {kept : Kept} {boot : ℕ} {w' : World}
    → Joins w k kept (replies.Booted boot) w' → IsThere w' k
joins_there {w} {k} {kept} (Joins.joins free of left names no_clash no_stray) =
    let new : KeptNode = record { node = opened_node w.desks kept; kept = raised kept } in
    (new, at_key w.nodes k new)

pub enters_there : {openings : Openings} {w w' : World} {number : ℕ}
    → Enters openings w number (Ok tt) w' → IsThere w' number
enters_there (Enters.is_there {s} at) = (s, at)
enters_there (Enters.joins none found h) = joins_there h

-- ---- lines that wait

-- one alias more, if it is one, may be set beside these
abbrev pub HasRoomIn : Table → List (Option (List ℕ)) → Option (List ℕ) → Type 0
HasRoomIn table set alias = (alias ≡ None) ⊎ (length table + count_set set < 1024)

-- These lines say these jobs of the node, each read where none of the aliases of those before it is
-- set yet, and names none of them.
pub data Waits (table : Table) (node : ℕ)
    : List (Option (List ℕ)) → List (List ℕ) → List Job → List (Option (List ℕ)) → Type 0 where
  no_line : {set : List (Option (List ℕ))} → Waits table node set [] [] []
  one_line : {set : List (Option (List ℕ))} {line : List ℕ} {job : Job}
      {alias : Option (List ℕ)} {lines : List (List ℕ)} {jobs : List Job}
      {aliases : List (Option (List ℕ))} → ¬ IsNamedIn set line
      → IsMeaning table line (Node node (request.Job job)) alias → HasRoomIn table set alias
      → Waits table node (set ++ alias ∷ []) lines jobs aliases
      → Waits table node set (line ∷ lines) (job ∷ jobs) (alias ∷ aliases)

-- one line more
pub waits_more : {table : Table} {node : ℕ} (set : List (Option (List ℕ))) {lines : List (List ℕ)}
    {jobs : List Job} {aliases : List (Option (List ℕ))} {line : List ℕ} {job : Job}
    {alias : Option (List ℕ)} → Waits table node set lines jobs aliases
    → ¬ IsNamedIn (set ++ aliases) line
    → IsMeaning table line (Node node (request.Job job)) alias
    → HasRoomIn table (set ++ aliases) alias
    → Waits table node set (lines ++ line ∷ []) (jobs ++ job ∷ []) (aliases ++ alias ∷ [])
waits_more {table} set {line = line} {alias = alias} Waits.no_line unnamed means room =
    Waits.one_line (subst (λ l. ¬ IsNamedIn l line) (append-nil set) unnamed) means
    (subst (λ l. HasRoomIn table l alias) (append-nil set) room) Waits.no_line
waits_more {table} set {line = line} {alias = alias}
    (Waits.one_line {alias = a} {aliases = rest} free says fits later) unnamed means room =
    let same = sym (append_assoc set (a ∷ []) rest) in
    Waits.one_line free says fits
    (waits_more (set ++ a ∷ []) later (subst (λ l. ¬ IsNamedIn l line) same unnamed) means
    (subst (λ l. HasRoomIn table l alias) same room))

-- no line asks for an arrival
no_arrival : (node : ℕ) (d : Data) (words : List Word)
    → ¬ Spells (Node node (request.Job (Arrive d))) words
no_arrival node d [] h = h
no_arrival node d (a ∷ []) h = h.1
no_arrival node d (a ∷ b ∷ words) h = h.1.0

says_no_arrival : (table : Table) (node : ℕ) (d : Data) (alias : Option (List ℕ))
    (words : List Word)
    → ¬ WordsSay table (Node node (request.Job (Arrive d))) alias words
says_no_arrival table node d None words h = no_arrival node d h.replaced h.spelled
says_no_arrival table node d (Some alias) words h =
    no_arrival node d h.spelled.replaced h.spelled.spelled

pub is_asked : (table : Table) (line : List ℕ) (node : ℕ) (job : Job) (alias : Option (List ℕ))
    → IsMeaning table line (Node node (request.Job job)) alias → ¬ IsArrival job
is_asked table line node Proc alias means arrives = arrives
is_asked table line node (By pid act) alias means arrives = arrives
is_asked table line node (Member root c) alias means arrives = arrives
is_asked table line node (Arrive d) alias means arrives =
    says_no_arrival table node d alias (words_of line) means.said

pub are_asked : {table : Table} {node : ℕ} {set : List (Option (List ℕ))} {lines : List (List ℕ)}
    {jobs : List Job} {aliases : List (Option (List ℕ))}
    → Waits table node set lines jobs aliases → AreAsked jobs
are_asked Waits.no_line = tt
are_asked {table} {node} (Waits.one_line {line = line} {job = job}
    {alias = alias} free says fits later) =
    (is_asked table line node job alias says, are_asked later)

-- ---- what they are answered without workers

module _ (openings : Openings) (node : ℕ) where
  line_turn : (p : Session) (w : World) (line : List ℕ) (job : Job) (alias : Option (List ℕ))
      (reply : Reply) (mid : World)
      → IsMeaning p.aliases line (Node node (request.Job job)) alias
      → Enters openings p.world node (Ok tt) w → Completes w (job_at node job) reply mid
      → Turn openings p line (said (replied reply)) (record {
        world = mid;
        aliases = renamed p.aliases alias (made_by (said (replied reply)));
      })
  line_turn p w line job alias reply mid means enters completes = inl (record {
    reading = reading.Means (Node node (request.Job job)) alias;
    says = means;
    answered = record {
      answered = AnswersLine.asks (entering.opened enters (reply, refl, completes));
      named = refl;
    };
  })

  room_then : (table now : Table) (set : List (Option (List ℕ))) (alias : Option (List ℕ))
      → length now ≤ length table + count_set set → HasRoomIn table set alias
      → (alias ≡ None) ⊎ (length now < 1024)
  room_then table now set alias few (inl none) = inl none
  room_then table now set alias few (inr less) = inr (omega (arith, few, less))

  -- where the node is there
  runs_there : (table : Table) (set : List (Option (List ℕ))) (p : Session)
      {lines : List (List ℕ)} {jobs : List Job} {aliases : List (Option (List ℕ))}
      (replies : List Reply) (w' : World) → Waits table node set lines jobs aliases
      → Extends set table p.aliases → length p.aliases ≤ length table + count_set set
      → IsThere p.world node → CompletesAll p.world (jobs_at node jobs) replies w'
      → Run openings p lines (replied_all replies)
      (record { world = w'; aliases = named_all p.aliases aliases replies })
  runs_there table set p [] w' Waits.no_line extends few there all =
      (λ i. record { world = all i; aliases = p.aliases })
  runs_there table set p (reply ∷ replies) w' Waits.no_line extends few there all = absurd all
  runs_there table set p [] w' (Waits.one_line free says fits later) extends few there all =
      absurd all
  runs_there table set p (reply ∷ replies) w'
      (Waits.one_line {line = line} {job = job}
      {alias = alias} free says fits later) extends few there
      (mid, completes, all) =
      let made = made_by (said (replied reply)) in
      let next : Session = record { world = mid; aliases = renamed p.aliases alias made } in
      let means =
      meaning_then extends free says (room_then table p.aliases set alias few fits) in
      let short : length next.aliases ≤ length table + count_set (set ++ alias ∷ []) =
      omega (arith, few, length-renamed p.aliases alias made, count_push set alias) in (
        next,
        line_turn p p.world line job alias reply mid means (entering.is_there there.1) completes,
        runs_there table (set ++ alias ∷ []) next replies w' later
            (extends_then extends (renamed_extends p.aliases alias made)) short
            (leads_there p.world mid (completes_leads p.world mid _ reply completes) node there)
            all,
      )

  -- where the first of them opens it
  pub runs_held : (table : Table) (v w w' : World) {lines : List (List ℕ)} {jobs : List Job}
      {aliases : List (Option (List ℕ))} (replies : List Reply)
      → Waits table node [] lines jobs aliases → jobs ≢ [] → Enters openings v node (Ok tt) w
      → CompletesAll w (jobs_at node jobs) replies w'
      → Run openings (record { world = v; aliases = table }) lines (replied_all replies)
      (record { world = w'; aliases = named_all table aliases replies })
  runs_held table v w w' replies Waits.no_line some enters all = absurd (some refl)
  runs_held table v w w' [] (Waits.one_line free says fits later) some enters all = absurd all
  runs_held table v w w' (reply ∷ replies)
      (Waits.one_line {line = line} {job = job}
      {alias = alias} free says fits later) some enters (mid, completes, all) =
      let p : Session = record { world = v; aliases = table } in
      let made = made_by (said (replied reply)) in
      let next : Session = record { world = mid; aliases = renamed table alias made } in
      let short : length next.aliases ≤ length table + count_set (alias ∷ []) =
      length-renamed table alias made in (
        next,
        line_turn p w line job alias reply mid says enters completes,
        runs_there table (alias ∷ []) next replies w' later (renamed_extends table alias made) short
            (leads_there w mid (completes_leads w mid _ reply completes) node
            (enters_there enters)) all,
      )
